-- Binding a digest of the tree, claiming its content and filling its cell.
use Rattle.std.proofs.Common.{◌≡◌, ℕ, ◌-◌, ◌<◌, ◌≤◌, List, [], ◌∷◌, ◌++◌, Bool, true, cond, inl, inr, Some, refl, ap, sym, ◌∙◌, subst, append_assoc, arith, drop, length, map, unwrap_or}
use Rattle.std.specs.declared.option.Option.{Option}
use Rattle.std.specs.FinMap as fin
use Rattle.std.proofs.lemmas.Bool.{eq-eqb}
use Rattle.cas_model.specs.declared.call.Who.{Who}
use Rattle.cas_model.specs.declared.digest.Digest.{Digest}
use Rattle.cas_model.specs.declared.object.Object.{Object}
use Rattle.cas_model.specs.declared.place.Full.{Full}
use Rattle.cas_model.specs.declared.place.Place.{Place}
use Rattle.cas_model.specs.declared.place.Space.TheVariants.{Objects}
use Rattle.cas_model.specs.declared.tables.Record.{Record}
use Rattle.cas_model.specs.Content.{content_size, content_words}
use Rattle.cas_model.specs.Object.{object_digest}
use Rattle.cas_model.specs.Primary.{cell_under}
use Rattle.cas_model.specs.Start.{RefsBelow}
use Rattle.cas_model.specs.State.{State}
use Rattle.cas_model.specs.Tables.{Tables, place_of, object_of}
use Rattle.cas_model.proofs.ContentLemmas.{content_places-words, content_words-IsContent}
use Rattle.cas_history.specs.declared.event.Act.TheVariants.{Bind, Claim, Room, Fill}
use Rattle.cas_history.specs.declared.event.Event.{Event}
use Rattle.cas_history.specs.Lawful.{IsLawfulRun, IsObjectRule, Agrees}
use Rattle.cas_history.specs.Run.{tables as tables_after, claimed_by}
use Rattle.cas_history.proofs.Grown.{Grows, grows-more, grows-act, refs-last}
use Rattle.cas_history.proofs.Sound.{IsSound, sound-run}
use Rattle.cas_port.specs.declared.block.Block.{Block}
use Rattle.cas_port.specs.declared.block.Bound.{Bound}
use Rattle.cas_port.specs.declared.block.Filled.{Filled}
use Rattle.cas_port.specs.declared.block.OpenBlock.{OpenBlock}
use Rattle.cas_port.specs.declared.block.PortError.{PortError}
use Rattle.cas_port.specs.declared.block.PortError.TheVariants as port
use Rattle.cas_port.specs.Blank.{none_written}
use Rattle.cas_port.specs.Calls.{event_of, IsLawful, BoundTo, BindRefused, HasClaimed, ClaimRefused, IsWholeFill, HasFilled, Abandons, words_of}
use Rattle.cas_port.specs.View.{View, Foreign, tables, tables_before, open_words, close_block, IsOpenFor, all_written}
use Rattle.cas_model.proofs.DataBytes.{bytes-at}
use Rattle.graph_db.specs.Events.{Goes}
use Rattle.graph_db.specs.Storing.{AreFilled, IsOpenAlone, block_of, places_in, shut}
use Rattle.graph_db.proofs.Found.{filled-grows, goes-grows}
use Rattle.graph_db.proofs.Steps.{goes-upstream}
use Rattle.graph_db.proofs.Written.{all_written-some, length-map-some, words-some}
use Rattle.fault_in.specs.FaultIn.{Brings, IsRefused}
use Rattle.fault_in.specs.Bringing.{BringStops, HasBrought, HasWords, IsFilledAt, IsReady}
use Rattle.fault_in.specs.Tree.{AreBringing, IsBelow, missed_since}
use Rattle.cas_model.specs.Notes.{deep_note}
use Rattle.fault_in.proofs.Contents.{cell-below, close-head, fill-under, filled-bound, length-places, object-content, open-head, places-grow, refs-below}
use Rattle.fault_in.proofs.Steps.{Moved, adds-brings, bringing-append, bringing-claims, bringing-foreign, brings-goes, brings-then, missed-append, missed-stays, moved-true, wants-brings}
use Rattle.fault_in.proofs.Written.{length-content}

-- ---- what stays

pub ready-stays : (a b : View) (digest : Digest) (o : Object) (places : List ℕ) (who : Who) → Goes who a b → IsLawfulRun b.upstream b.start b.seen → IsReady a digest o places → IsReady b digest o places
ready-stays a b digest o places who goes lawful h =
    let grows = goes-grows who a b goes lawful in
    record {
      is = ap (λ (s : State). fin.get s.objects digest) (goes-upstream who a b goes) ∙ h.is;
      named = h.named;
      few_refs = h.few_refs;
      short = h.short;
      bytes = h.bytes;
      filled = filled-grows (tables a) (tables b) o.refs grows h.filled;
      places_are = h.places_are ∙ places-grow (tables a) (tables b) o.refs grows h.filled;
    }

pub ready-length : (v : View) (digest : Digest) (o : Object) (places : List ℕ) → IsReady v digest o places → length places ≡ length o.refs
ready-length v digest o places h = ap (λ (xs : List ℕ). length xs) h.places_are ∙ length-places (tables v) o.refs

below-stays : (up now : State) (root digest : Digest) (o : Object) → now ≡ up → IsBelow up root digest o → IsBelow now root digest o
below-stays up now root digest o same h = subst (λ (s : State). IsBelow s root digest o) (sym same) h

-- a refusal after what was brought
pub refused-then : (who : Who) (root : Digest) (x y : Bool) (a b c : View) (at n size : ℕ) → Moved who root x y a b → IsRefused who root y b c at n size → IsRefused who root x a c at n size
refused-then who root x y a b c at n size ab bc = subst (λ (v : View). IsRefused who root y v c at n size → IsRefused who root x a c at n size) (sym ab.0.is) step bc where
  step : IsRefused who root y (record a { seen = ab.0.more ++ a.seen }) c at n size → IsRefused who root x a c at n size
  step h = record {
    more = h.more ++ ab.0.more;
    moved = h.moved;
    is = h.is ∙ ap (λ (s : List Event). record a { seen = event_of (deep_note who) (Room n h.moved) ∷ s }) (sym (append_assoc h.more ab.0.more a.seen));
    own = bringing-append a.upstream a.start a.speaks who root x h.more ab.0.more a.seen ab.0.own
        (subst (λ (m : Bool). AreBringing a.upstream a.start a.speaks who root m h.more (ab.0.more ++ a.seen)) (sym ab.1) h.own);
    needed = h.needed;
    missed = missed-append a.start who x h.more ab.0.more a.seen ∙ ap (λ m. missed_since a.start who m h.more (ab.0.more ++ a.seen)) ab.1 ∙ h.missed;
    at_is = h.at_is;
    size_is = h.size_is;
  }

-- ---- bind

bound-brings : (who : Who) (digest root : Digest) (old b : View) (bound : Bound) → BoundTo (deep_note who) Objects digest old b bound → Brings who root true old b
bound-brings who digest root old b bound h = record {
  more = event_of (deep_note who) (Bind Objects digest h.own) ∷ h.before;
  is = h.is;
  own = (inr (refl, tt), bringing-claims old.upstream old.start old.speaks who root h.before old.seen 997 h.claims);
}

pub bind-stops : (who : Who) (digest : Digest) (o : Object) (old new : View) (error : PortError) → BindRefused (deep_note who) old new error → BringStops who digest o old new error
bind-stops who digest o old new port.Memory wants = λ root below. wants-brings who root true old new wants
bind-stops who digest o old new (port.Full full) h = λ root below. record {
  more = h.before;
  moved = h.moved;
  is = h.is;
  own = bringing-claims old.upstream old.start old.speaks who root h.before old.seen (997 - full.asked) h.claims;
  needed = inl h.part;
  missed = missed-stays old.start who h.before old.seen;
  at_is = h.at_is;
  size_is = h.size_is;
}

-- ---- claim

claimed-brings : (who : Who) (digest root : Digest) (o : Object) (n : ℕ) (b claimed : View) (block : Block) → IsBelow b.upstream root digest o → n ≡ content_size (length o.refs) (length o.data)
    → HasClaimed (deep_note who) n b claimed block → Brings who root true b (shut claimed)
claimed-brings who digest root o n b claimed block below size c =
    adds-brings who root true (Claim n) b (shut claimed) (record { others = c.others; foreign = c.foreign; is = ap shut c.is })
    (inr (digest, o, below, size), missed-stays b.start who c.others b.seen)

pub claim-stops : (who : Who) (digest : Digest) (o : Object) (n : ℕ) (old b new : View) (bound : Bound) (error : PortError) → n ≡ content_size (length o.refs) (length o.data)
    → BoundTo (deep_note who) Objects digest old b bound → ClaimRefused (deep_note who) n b new error → BringStops who digest o old new error
claim-stops who digest o n old b new bound port.Memory size bd wants = λ root below.
    brings-then who root old b new (bound-brings who digest root old b bound bd) (wants-brings who root true b new wants)
claim-stops who digest o n old b new bound (port.Full full) size bd (moved, adds, numbers) = λ root below.
    let first = bound-brings who digest root old b bound bd in
    let up = goes-upstream who old b (brings-goes who root true old b first) in
    subst (λ k. IsRefused who root true old new full.at k full.size) (sym (ap (λ (f : Full). f.asked) numbers))
    (refused-then who root true true old b new full.at n full.size (moved-true who root old b first) (record {
      more = adds.others;
      moved = moved;
      is = adds.is;
      own = foreign-own root adds.others adds.foreign;
      needed = inr (digest, o, below-stays old.upstream b.upstream root digest o up below, size);
      missed = missed-stays b.start who adds.others b.seen;
      at_is = ap (λ (f : Full). f.at) numbers;
      size_is = ap (λ (f : Full). f.size) numbers;
    })) where
      foreign-own : (root : Digest) (es : List Event) → Foreign b.speaks es → AreBringing b.upstream b.start b.speaks who root true es b.seen
      foreign-own root es foreign = bringing-foreign b.upstream b.start b.speaks who root true es b.seen foreign

-- what the claim itself gives
record Claims (places : List ℕ) (digest : Digest) (claimed : View) (cell : Place) (block : Block) : Type 0 where
  pub at : place_of (tables claimed).bound Objects digest ≡ Some cell
  pub below : RefsBelow (tables claimed) block.place.at places
  pub placed : 0 < block.place.at

claims : (who : Who) (refs : List Digest) (places : List ℕ) (digest : Digest) (n : ℕ) (b claimed : View) (cell : Place) (block : Block) → places ≡ places_in (tables b) refs → AreFilled (tables b) refs
    → place_of (tables b).bound Objects digest ≡ Some cell → IsLawfulRun claimed.upstream claimed.start claimed.seen → HasClaimed (deep_note who) n b claimed block → Claims places digest claimed cell block
claims who refs places digest n b claimed cell block are filled at lawful c =
    let P : View → Type 0 = λ v. IsLawfulRun v.upstream v.start v.seen → block.place.at ≡ (tables_before v).counter → Claims places digest v cell block in
    subst P (sym c.is) (λ run place.
    let s : Tables = tables_after b.start (c.others ++ b.seen) in
    let grows = grows-more b.upstream b.start c.others b.seen run.0 in
    let sound = sound-run b.upstream b.start (c.others ++ b.seen) run.0 in
    let less : (d : Digest) → 0 < cell_under s Objects d → cell_under s Objects d < block.place.at =
    λ d some. let lt = cell-below b.upstream b.start (c.others ++ b.seen) d run.0 some in omega (arith, lt, place) in
    let positive = sound.positive in
    record {
      at = grows.places Objects digest cell at;
      below = subst (λ (ns : List ℕ). RefsBelow (claimed_by s who n) block.place.at ns) (sym (are ∙ places-grow (tables b) s refs grows filled))
          (refs-last s (claimed_by s who n) (grows-act b.upstream s who (Claim n) run.1) block.place.at (places_in s refs) (refs-below s block.place.at refs sound (filled-grows (tables b) s refs grows filled) less));
      placed = omega (arith, positive, place);
    }) lawful c.place

-- ---- a content that was begun, written and filled

pub record Begun (who : Who) (digest : Digest) (o : Object) (places : List ℕ) (old claimed : View) (cell : Place) (block : Block) : Type 0 where
  pub brings : (root : Digest) → IsBelow old.upstream root digest o → Brings who root true old (shut claimed)
  pub up : claimed.upstream ≡ old.upstream
  pub opened : claimed.opened ≡ block_of block who (none_written block.length) ∷ old.opened
  pub ready : IsReady claimed digest o places
  pub at : place_of (tables claimed).bound Objects digest ≡ Some cell
  pub below : RefsBelow (tables claimed) block.place.at places
  pub placed : 0 < block.place.at
  pub long : block.length ≡ content_size (length places) (length o.data)
  pub lawful : IsLawfulRun claimed.upstream claimed.start claimed.seen

pub begun : (who : Who) (digest : Digest) (o : Object) (places : List ℕ) (n : ℕ) (old b claimed : View) (bound : Bound) (block : Block) → IsReady old digest o places
    → n ≡ content_size (length places) (length o.data) → BoundTo (deep_note who) Objects digest old b bound → IsLawful old b → HasClaimed (deep_note who) n b claimed block → IsLawful b claimed
    → Begun who digest o places old claimed bound.place block
begun who digest o places n old b claimed bound block ready size bd lawful-b c lawful-c =
    let any = bound-brings who digest digest old b bound bd in
    let goes-b = brings-goes who digest true old b any in
    let up-b : b.upstream ≡ old.upstream = goes-upstream who old b goes-b in
    let ready-b = ready-stays old b digest o places who goes-b lawful-b.is ready in
    let long : length places ≡ length o.refs = ap length ready.places_are ∙ length-places (tables old) o.refs in
    let size-o : n ≡ content_size (length o.refs) (length o.data) = size ∙ ap (λ k. content_size k (length o.data)) long in
    let top : IsBelow b.upstream digest digest o = record { path = []; leads = refl; is = ready-b.is } in
    let goes-c = brings-goes who digest true b (shut claimed) (claimed-brings who digest digest o n b claimed block top size-o c) in
    let ready-c = ready-stays b (shut claimed) digest o places who goes-c lawful-c.is ready-b in
    let its = claims who o.refs places digest n b claimed bound.place block ready-b.places_are ready-b.filled bd.answer lawful-c.is c in
    let length-is : block.length ≡ n = c.length in
    record {
      brings = λ root below. brings-then who root old b (shut claimed) (bound-brings who digest root old b bound bd)
          (claimed-brings who digest root o n b claimed block (below-stays old.upstream b.upstream root digest o up-b below) size-o c);
      up = goes-upstream who b (shut claimed) goes-c ∙ up-b;
      opened = ap (λ (v : View). v.opened) c.is ∙ (λ i. block_of block who (none_written (sym length-is i)) ∷ ap (λ (v : View). v.opened) goes-b.is i);
      ready = record { is = ready-c.is; named = ready-c.named; few_refs = ready-c.few_refs; short = ready-c.short; bytes = ready-c.bytes; filled = ready-c.filled; places_are = ready-c.places_are };
      at = its.at;
      below = its.below;
      placed = its.placed;
      long = length-is ∙ size;
      lawful = lawful-c.is;
    }

pub begun-alone : (who : Who) (digest : Digest) (o : Object) (places : List ℕ) (old claimed : View) (cell : Place) (block : Block) → Begun who digest o places old claimed cell block
    → IsOpenAlone claimed who block (none_written block.length)
begun-alone who digest o places old claimed cell block b = record { rest = old.opened; is = b.opened }

module _ (who : Who) (digest : Digest) (o : Object) (places : List ℕ) (old claimed v : View) (cell : Place) (block : Block) (b : Begun who digest o places old claimed cell block)
    (words : HasWords who claimed v block (map Some (content_words places o.data))) where
  xs : List ℕ
  xs = content_words places o.data

  same-tables : tables v ≡ tables claimed
  same-tables = ap tables words.is

  shut-is : shut v ≡ shut claimed
  shut-is = ap shut words.is

  up-v : v.upstream ≡ old.upstream
  up-v = ap (λ (x : View). x.upstream) words.is ∙ b.up

  open-is : open_words v.opened block.place.at ≡ map Some (content_words places o.data)
  open-is = ap (λ (x : View). open_words x.opened block.place.at) words.is ∙ open-head block who (map Some (content_words places o.data)) (drop 1 claimed.opened)

  words-is : words_of v block ≡ content_words places o.data
  words-is = ap (map (λ (w : Option ℕ). unwrap_or w 0)) open-is ∙ words-some (content_words places o.data)

  closed-is : close_block v.opened block.place.at ≡ drop 1 v.opened
  closed-is =
      ap (λ (x : View). close_block x.opened block.place.at) words.is ∙ close-head block who (map Some (content_words places o.data)) (drop 1 claimed.opened)
      ∙ sym (ap (λ (x : View). drop 1 x.opened) words.is)

  sound-c : IsSound (tables claimed)
  sound-c = sound-run claimed.upstream claimed.start claimed.seen b.lawful

  rule-c : IsObjectRule claimed.upstream (tables claimed) digest block.place.at (content_words places o.data)
  rule-c =
      let content-c : object_of (tables claimed).bound (content_words places o.data) ≡ o = object-content (tables claimed) o places b.ready.places_are b.ready.few_refs b.ready.short b.ready.bytes sound-c b.ready.filled in
      let long : length places ≡ length o.refs = ap length b.ready.places_are ∙ length-places (tables claimed) o.refs in
      let few : length places ≤ 65535 = let e = b.ready.few_refs in omega (arith, long, e) in
      record {
        for = record {
          content = content_words-IsContent places o.data few b.ready.short (bytes-at o.data b.ready.bytes);
          refs = subst (λ (ns : List ℕ). RefsBelow (tables claimed) block.place.at ns) (sym (content_places-words places o.data (let e = b.ready.short in omega (arith, e)))) b.below;
          named = ap object_digest content-c ∙ b.ready.named;
        };
        same = subst (λ (found : Option Object). Agrees found (object_of (tables claimed).bound (content_words places o.data))) (sym b.ready.is) content-c;
      }

  rule-v : IsObjectRule v.upstream (tables v) digest block.place.at (content_words places o.data)
  rule-v = subst (λ (x : View). IsObjectRule x.upstream (tables x) digest block.place.at (content_words places o.data)) (sym words.is) rule-c

  at-v : place_of (tables v).bound Objects digest ≡ Some cell
  at-v = ap (λ (s : Tables). place_of s.bound Objects digest) same-tables ∙ b.at

  pub fill-whole : IsLawful claimed v → IsWholeFill (deep_note who) cell v block
  fill-whole lawful =
      let found = (sound-run v.upstream v.start v.seen lawful.is).tied.to Objects digest cell at-v in
      record {
        opened = subst (λ (x : View). IsOpenFor x.opened who block.place.at block.length) (sym words.is)
            (subst (λ (t : Bool). cond t ((who ≡ who) × (length (map Some (content_words places o.data)) ≡ block.length)) (IsOpenFor (drop 1 claimed.opened) who block.place.at block.length)) (sym (eq-eqb block.place.at block.place.at refl))
            (refl, length-map-some (content_words places o.data) ∙ length-content places o.data ∙ sym b.long));
        whole = ap all_written open-is ∙ all_written-some (content_words places o.data);
        found = found.0;
        bound = found.1;
        object = found.2;
        lawful = subst (λ (d : Digest). IsObjectRule v.upstream (tables v) d block.place.at (words_of v block)) (sym found.3)
            (subst (λ (ws : List ℕ). IsObjectRule v.upstream (tables v) digest block.place.at ws) (sym words-is) rule-v);
      }

  brings-v : (root : Digest) → IsBelow old.upstream root digest o → Brings who root true old (shut v)
  brings-v root below = subst (λ (x : View). Brings who root true old x) (sym shut-is) (b.brings root below)

  pub fill-stops : (new : View) → Abandons v new block → BringStops who digest o old new port.Memory
  fill-stops new a = λ root below.
      subst (λ (x : View). Brings who root true old x) (sym (a.is ∙ ap (λ (os : List OpenBlock). record v { opened = os }) closed-is)) (brings-v root below)

  -- the record is the digest's when it is filled
  pub filled-at : (new : View) (filled : Filled) → IsLawful v new → (f : HasFilled (deep_note who) cell v new block filled) → place_of (tables_after v.start (f.others ++ v.seen)).bound Objects digest ≡ Some cell
  filled-at new filled lawful f =
      let run = subst (λ (x : View). IsLawfulRun x.upstream x.start x.seen) f.is lawful.is in
      (grows-more v.upstream v.start f.others v.seen run.0).places Objects digest cell at-v

  pub fill-brings : (new : View) (filled : Filled) → IsLawful v new → HasFilled (deep_note who) cell v new block filled → HasBrought who digest o old new cell
  fill-brings new filled lawful f =
      let ws : List ℕ = content_words places o.data in
      let new-is : new ≡ record (shut v) { seen = event_of (deep_note who) (Fill cell block.place.at (content_words places o.data)) ∷ f.others ++ v.seen } =
      f.is ∙ (λ i. record v { seen = event_of (deep_note who) (Fill cell block.place.at (words-is i)) ∷ f.others ++ v.seen; opened = closed-is i }) in
      let run : IsLawfulRun v.upstream v.start (event_of (deep_note who) (Fill cell block.place.at (content_words places o.data)) ∷ f.others ++ v.seen) =
      subst (λ (x : View). IsLawfulRun x.upstream x.start x.seen) new-is lawful.is in
      let s : Tables = tables_after v.start (f.others ++ v.seen) in
      let grows : Grows (tables v) s = grows-more v.upstream v.start f.others v.seen run.0 in
      let at-s : place_of s.bound Objects digest ≡ Some cell = grows.places Objects digest cell at-v in
      record {
        brings = λ root below. brings-then who root old (shut v) new (brings-v root below)
            (adds-brings who root true (Fill cell block.place.at (content_words places o.data)) (shut v) new (record { others = f.others; foreign = f.foreign; is = new-is })
            (digest, o, below-stays old.upstream v.upstream root digest o up-v below, at-s));
        there = subst (λ (x : View). IsFilledAt digest x cell) (sym new-is) (record {
          at = ap (λ (rs : List Record). place_of rs Objects digest) (filled-bound s _ cell block.place.at (content_words places o.data)) ∙ at-s;
          filled = fill-under s cell block.place.at (content_words places o.data) digest at-s b.placed;
        });
      }
