-- Binding the digest, claiming the content and filling the cell.
use Rattle.std.proofs.Common.{◌≡◌, ℕ, zero, suc, ◌+◌, ◌-◌, ◌<◌, ◌≤◌, List, [], ◌∷◌, ◌++◌, Bool, true, cond, ◌⊎◌, inl, inr, None, Some, IsTrue, refl, ap, sym, ◌∙◌, subst, arith, drop, length, map, unwrap_or}
use Rattle.std.specs.declared.option.Option.{Option}
use Rattle.std.specs.FinMap as fin
use Rattle.std.proofs.lemmas.Bool.{eq-eqb}
use Rattle.cas_model.specs.declared.call.Call.TheVariants.{Store}
use Rattle.cas_model.specs.declared.call.Reply.{Reply}
use Rattle.cas_model.specs.declared.call.Reply.TheVariants as reply
use Rattle.cas_model.specs.declared.call.Who.{Who}
use Rattle.cas_model.specs.declared.digest.Digest.{Digest}
use Rattle.cas_model.specs.declared.note.Stage.TheVariants.{Own}
use Rattle.cas_model.specs.declared.object.Object.{Object}
use Rattle.cas_model.specs.declared.place.Full.{Full}
use Rattle.cas_model.specs.declared.place.Place.{Place}
use Rattle.cas_model.specs.declared.place.Space.TheVariants.{Objects}
use Rattle.cas_model.specs.declared.tables.Record.{Record}
use Rattle.cas_model.specs.Content.{IsContent, content_size, content_places, content_bytes, data_words}
use Rattle.cas_model.specs.Object.{object_digest, digest_of}
use Rattle.cas_model.specs.Primary.{cell_under, cell_at}
use Rattle.cas_model.specs.Start.{IsFilled, RefsBelow}
use Rattle.cas_model.specs.State.{State, has}
use Rattle.cas_model.specs.Tables.{Tables, place_of, cell_of, digest_at, digests_at, digest_of_record, object_of}
use Rattle.cas_model.proofs.ContentLemmas.{content_places-words, content_bytes-words, content_words-IsContent, EachIsByte}
use Rattle.cas_history.specs.declared.event.Act.TheVariants.{Bind, Claim, Room, Fill}
use Rattle.cas_history.specs.declared.event.Event.{Event}
use Rattle.cas_history.specs.Conduct.{MayAct, AreThere, missed, is_own, IsContentOf, IsPart}
use Rattle.cas_history.specs.Cost.{object_cost}
use Rattle.cas_history.specs.Answers.{fill_answer}
use Rattle.cas_history.specs.History.{decided, reply_with, left_by, value_left}
use Rattle.cas_history.specs.Lawful.{IsLawfulRun, IsObjectRule, Agrees}
use Rattle.cas_history.specs.Run.{tables as tables_after, claimed_by, filled_by}
use Rattle.cas_history.proofs.Grown.{Grows, grows-more, grows-act, refs-last, object-lasts}
use Rattle.cas_history.proofs.RulesLast.{object-rule-lasts}
use Rattle.cas_history.proofs.Sound.{IsSound, sound-run}
use Rattle.cas_history.proofs.Under.{IsUnder, under-cases}
use Rattle.cas_history.proofs.Visible.{cell-has}
use Rattle.cas_history.proofs.Blocks.{run-named-fits}
use Rattle.cas_history.proofs.Placed.{placed-run}
use Rattle.cas_port.specs.declared.block.Block.{Block}
use Rattle.cas_port.specs.declared.block.Bound.{Bound}
use Rattle.cas_port.specs.declared.block.Filled.{Filled}
use Rattle.cas_port.specs.declared.block.OpenBlock.{OpenBlock}
use Rattle.cas_port.specs.declared.block.PortError.{PortError}
use Rattle.cas_port.specs.declared.block.PortError.TheVariants as port
use Rattle.cas_port.specs.Blank.{none_written}
use Rattle.cas_port.specs.Calls.{event_of, Adds, IsLawful, BoundTo, BindRefused, BindFull, HasClaimed, ClaimRefused, IsWholeFill, HasFilled, Abandons, words_of}
use Rattle.cas_port.specs.View.{View, tables, tables_before, open_words, close_block, IsOpenFor, all_written}
use Rattle.graph_db.specs.Events.{SpeaksFor, Ends, Stops, binds, seen_state}
use Rattle.graph_db.specs.Stores.{object_with, HasNoRoom}
use Rattle.cas_model.specs.Notes.{own_note}
use Rattle.graph_db.specs.Storing.{HasRefs, AreFilled, places_in, place_number, block_of, shut, Writes, WriteStops, Brings, BringStops}
use Rattle.graph_db.proofs.Steps.{goes-speaks, goes-upstream, goes-takes, goes-opened, missed-more, claims-before, foreign-before, event-ends, event-last, adds-ends, ends-then, ends-more, wants-stops, then-stops, stops-more}
use Rattle.graph_db.proofs.Binds.{bound-once, refused-never, room-never, still-bound}
use Rattle.graph_db.proofs.Sought.{there-more}
use Rattle.graph_db.proofs.Found.{goes-grows, refs-stay, refs-there, filled-grows}
use Rattle.graph_db.proofs.Written.{words_for, length-content, length-places, all_written-some, length-map-some, words-some}

-- ---- what a store may do with its own digest

module _ (who : Who) (o : Object) (digest : Digest) (v : View) (is : digest ≡ object_digest o) (there : AreThere v.upstream v.start v.seen who 0 o.refs)
    (missed_it : missed v.start who is_own v.seen ≡ true) where
  may-claim : (more : List Event) (n : ℕ) → (IsPart n ⊎ IsContentOf o n) → MayAct v.upstream v.start (more ++ v.seen) who (Store o) ((own_note who).stage) (Claim n)
  may-claim more n part = (there-more v.upstream v.start more v.seen who 0 o.refs there, tt, (part, missed-more v.start who is_own more v.seen missed_it))

  may-room : (more : List Event) (n : ℕ) (moved : Bool) → (IsPart n ⊎ IsContentOf o n) → MayAct v.upstream v.start (more ++ v.seen) who (Store o) ((own_note who).stage) (Room n moved)
  may-room more n moved part = (there-more v.upstream v.start more v.seen who 0 o.refs there, tt, (part, missed-more v.start who is_own more v.seen missed_it))

  may-bind : (more : List Event) (own : Option Place) → MayAct v.upstream v.start (more ++ v.seen) who (Store o) ((own_note who).stage) (Bind Objects digest own)
  may-bind more own = (there-more v.upstream v.start more v.seen who 0 o.refs there, (refl, is), tt)

-- ---- bind

bound-ends : (who : Who) (o : Object) (digest : Digest) (old new : View) (bound : Bound) → SpeaksFor old who → digest ≡ object_digest o → AreThere old.upstream old.start old.seen who 0 o.refs
    → missed old.start who is_own old.seen ≡ true → BoundTo (own_note who) Objects digest old new bound → Ends who (Store o) None old new 997
bound-ends who o digest old new bound mine is there missed_it b =
    event-ends (own_note who) (Store o) (Bind Objects digest b.own) None old new b.before 997 997
    (claims-before (own_note who) (Store o) old b.before 997 mine (λ more n part. may-claim who o digest old is there missed_it more n (inl part)) b.claims)
    b.is (omega arith) (may-bind who o digest old is there missed_it b.before b.own) refl

full-is : (who : Who) (o : Object) (old new : View) (before : List Event) (n : ℕ) (moved : Bool) (at size : ℕ) → new ≡ record old { seen = event_of (own_note who) (Room n moved) ∷ before ++ old.seen }
    → at ≡ (tables_before new).counter → size ≡ (tables_before new).size
    → decided old.upstream (tables_after old.start (before ++ old.seen)) (Store o) ((own_note who).stage) (Room n moved) ≡ Some (reply.Full at n size)
full-is who o old new before n moved at size is at-is size-is =
    let P : View → Type 0 = λ v. at ≡ (tables_before v).counter → size ≡ (tables_before v).size
    → decided old.upstream (tables_after old.start (before ++ old.seen)) (Store o) ((own_note who).stage) (Room n moved) ≡ Some (reply.Full at n size) in
    subst P (sym is) (λ a s. λ i. Some (reply.Full (sym a i) n (sym s i))) at-is size-is

no-room : (who : Who) (o : Object) (old new : View) (at asked size : ℕ) → SpeaksFor old who → AreThere old.upstream old.start old.seen who 0 o.refs → missed old.start who is_own old.seen ≡ true
    → BindFull (own_note who) old new at asked size → HasNoRoom who o old new at asked size
no-room who o old new at asked size mine there missed_it b =
    let says = full-is who o old new b.before asked b.moved at size b.is b.at_is b.size_is in
    let here = event-ends (own_note who) (Store o) (Room asked b.moved) (Some (reply.Full at asked size)) old new b.before (997 - asked) 997
    (claims-before (own_note who) (Store o) old b.before (997 - asked) mine (λ more n part. may-claim who o (object_digest o) old refl there missed_it more n (inl part)) b.claims)
    b.is (let le = b.most in omega (arith, le)) (may-room who o (object_digest o) old refl there missed_it b.before asked b.moved (inl b.part)) says in
    record {
      ends = ends-more who (Store o) (Some (reply.Full at asked size)) old new 997 (object_cost o) (omega arith) here;
      last = event-last (own_note who) (Store o) (Room asked b.moved) (Some (reply.Full at asked size)) old new b.before b.is says;
      claim = inr (record { part = b.part; never = refused-never (own_note who) old new b.before (997 - asked) asked b.moved mine b.claims b.is });
    }

pub bind-stops : (who : Who) (o : Object) (old new : View) (error : PortError) → SpeaksFor old who → HasRefs who o.refs old → missed old.start who is_own old.seen ≡ true
    → BindRefused (own_note who) old new error → BringStops who o old new error
bind-stops who o old new port.Memory mine refs missed_it wants = wants-stops who (Store o) old new (object_cost o) wants
bind-stops who o old new (port.Full full) mine refs missed_it b =
    no-room who o old new full.at full.asked full.size mine (refs-there who o.refs old refs) missed_it b

-- ---- claim

claimed-adds : (who : Who) (n : ℕ) (old new : View) (block : Block) → HasClaimed (own_note who) n old new block → Adds old (shut new) (event_of (own_note who) (Claim n))
claimed-adds who n old new block c = record { others = c.others; foreign = c.foreign; is = ap shut c.is }

pub claimed-ends : (who : Who) (o : Object) (n : ℕ) (old new : View) (block : Block) → SpeaksFor old who → AreThere old.upstream old.start old.seen who 0 o.refs
    → missed old.start who is_own old.seen ≡ true → IsContentOf o n → HasClaimed (own_note who) n old new block → Ends who (Store o) None old (shut new) n
unfolding claimed-adds
claimed-ends who o n old new block mine there missed_it content c =
    adds-ends (own_note who) (Store o) (Claim n) None old (shut new) n mine (claimed-adds who n old new block c) (omega arith)
    (may-claim who o (object_digest o) old refl there missed_it c.others n (inr content)) refl

room-stops : (who : Who) (o : Object) (n : ℕ) (first old new : View) (error : PortError) (m : ℕ) → m + n ≤ object_cost o → SpeaksFor old who → AreThere old.upstream old.start old.seen who 0 o.refs
    → missed old.start who is_own old.seen ≡ true → IsContentOf o n → Ends who (Store o) None first old m → (place : Place) → place_of (tables old).bound Objects (object_digest o) ≡ Some place
    → binds who old.seen ≡ binds who first.seen + 1 → IsLawful old new → ClaimRefused (own_note who) n old new error → BringStops who o first new error
room-stops who o n first old new port.Memory m fits mine there missed_it content earlier place at once lawful wants =
    stops-more who (Store o) first new (m + 0) (object_cost o) (omega (arith, fits)) (then-stops who (Store o) first old new m 0 earlier (wants-stops who (Store o) old new 0 wants))
room-stops who o n first old new (port.Full full) m fits mine there missed_it content earlier place at once lawful (moved, adds, numbers) =
    let says = full-is who o old new adds.others n moved full.at full.size adds.is (ap (λ (f : Full). f.at) numbers) (ap (λ (f : Full). f.size) numbers) in
    let here = adds-ends (own_note who) (Store o) (Room n moved) (Some (reply.Full full.at n full.size)) old new n mine adds (omega arith) (may-room who o (object_digest o) old refl there missed_it adds.others n moved (inr content)) says in
    subst (λ k. HasNoRoom who o first new full.at k full.size) (sym (ap (λ (f : Full). f.asked) numbers)) (record {
      ends = ends-more who (Store o) _ first new (m + n) (object_cost o) fits (ends-then who (Store o) (Some (reply.Full full.at n full.size)) first old new m n earlier here);
      last = event-last (own_note who) (Store o) (Room n moved) (Some (reply.Full full.at n full.size)) old new adds.others adds.is says;
      claim = inl (record {
        content = content;
        bound = still-bound (object_digest o) place (event_of (own_note who) (Room n moved)) old new adds lawful.is at;
        once = room-never (own_note who) n moved old new mine adds ∙ once;
      });
    })

-- ---- the references lie below the claimed block

content-long : (words : List ℕ) → IsContent words → 0 < length words
content-long words content =
    let e : length words ≡ suc (length (content_places words ++ data_words (content_bytes words))) = ap length content.is in
    omega (arith, e)

cell-below : (up : State) (start : Tables) (seen : List Event) (d : Digest) → IsLawfulRun up start seen → 0 < cell_under (tables_after start seen) Objects d
    → cell_under (tables_after start seen) Objects d < (tables_after start seen).counter
cell-below up start seen d lawful some = step (under-cases (tables_after start seen) d (sound-run up start seen lawful)) where
  step : (cell_under (tables_after start seen) Objects d ≡ 0) ⊎ IsUnder (tables_after start seen) d → cell_under (tables_after start seen) Objects d < (tables_after start seen).counter
  step (inl none) = absurd (omega (arith, none, some))
  step (inr u) =
      let cell : cell_under (tables_after start seen) Objects d ≡ cell_of (tables_after start seen).filled u.place.at = ap (cell_at (tables_after start seen).filled) u.at in
      let fits = run-named-fits up start seen lawful (cell_of (tables_after start seen).filled u.place.at) (length u.words) (inr (u.words, u.there, refl)) in
      let given = (placed-run up start seen lawful).within_counter in
      let long = content-long u.words u.is.content in
      omega (arith, cell, fits.1, given, long)

refs-below : (s : Tables) (value : ℕ) (refs : List Digest) → IsSound s → AreFilled s refs → ((d : Digest) → 0 < cell_under s Objects d → cell_under s Objects d < value) → RefsBelow s value (places_in s refs)
refs-below s value [] sound filled below = tt
refs-below s value (d ∷ ds) sound filled below = step (refs-below s value ds sound filled.1 below) (under-cases s d sound) where
  step : RefsBelow s value (places_in s ds) → (cell_under s Objects d ≡ 0) ⊎ IsUnder s d → RefsBelow s value (places_in s (d ∷ ds))
  step rest (inl none) = let some = filled.0 in absurd (omega (arith, none, some))
  step rest (inr u) =
      let found = sound.tied.to Objects d u.place u.at in
      let cell : cell_under s Objects d ≡ cell_of s.filled u.place.at = ap (cell_at s.filled) u.at in
      let less = below d filled.0 in
      let P : ℕ → Type 0 = λ n. IsFilled s n × (cell_of s.filled n < value) in
      let here : P (place_number (place_of s.bound Objects d)) = subst P (sym (ap place_number u.at)) (record { object = record { found = found.0; is = found.1; in_space = found.2 }; filled = u.some }, omega (arith, cell, less)) in
      (here.0, here.1, rest)

places-same : (s t : Tables) (refs : List Digest) → s.bound ≡ t.bound → places_in s refs ≡ places_in t refs
places-same s t [] same = refl
places-same s t (d ∷ ds) same = λ i. place_number (place_of (same i) Objects d) ∷ places-same s t ds same i

digests-back : (s : Tables) (refs : List Digest) → IsSound s → AreFilled s refs → digests_at s.bound (places_in s refs) ≡ refs
digests-back s [] sound filled = refl
digests-back s (d ∷ ds) sound filled = step (digests-back s ds sound filled.1) (under-cases s d sound) where
  step : digests_at s.bound (places_in s ds) ≡ ds → (cell_under s Objects d ≡ 0) ⊎ IsUnder s d → digests_at s.bound (places_in s (d ∷ ds)) ≡ d ∷ ds
  step rest (inl none) = let some = filled.0 in absurd (omega (arith, none, some))
  step rest (inr u) =
      let found = sound.tied.to Objects d u.place u.at in
      let here : digest_at s.bound (place_number (place_of s.bound Objects d)) ≡ d = ap (λ p. digest_at s.bound (place_number p)) u.at ∙ ap digest_of_record found.1 ∙ found.3 in
      λ i. here i ∷ rest i

-- the words describe the object
object-content : (s : Tables) (refs : List Digest) (bytes : List ℕ) → length bytes ≤ 16777215 → EachIsByte bytes → IsSound s → AreFilled s refs
    → object_of s.bound (words_for s refs bytes) ≡ object_with refs bytes
object-content s refs bytes short ok sound filled =
    let p : content_places (words_for s refs bytes) ≡ places_in s refs = content_places-words (places_in s refs) bytes (omega arith) in
    let b : content_bytes (words_for s refs bytes) ≡ bytes = content_bytes-words (places_in s refs) bytes (omega arith) ok in
    let r : digests_at s.bound (content_places (words_for s refs bytes)) ≡ refs = ap (digests_at s.bound) p ∙ digests-back s refs sound filled in
    λ i. record { refs = r i; «data» = b i }

-- ---- a content that was begun

pub record Began (who : Who) (refs : List Digest) (bytes : List ℕ) (digest : Digest) (old claimed : View) (cell : Place) (block : Block) : Type 0 where
  pub mine : SpeaksFor claimed who
  pub refs_there : HasRefs who refs claimed
  pub up : claimed.upstream ≡ old.upstream
  pub takes : claimed.takes_memory ≡ old.takes_memory
  pub opened : claimed.opened ≡ block_of block who (none_written block.length) ∷ old.opened
  pub ends : Ends who (Store (object_with refs bytes)) None old (shut claimed) (997 + content_size (length refs) (length bytes))
  pub at : place_of (tables claimed).bound Objects digest ≡ Some cell
  pub below : RefsBelow (tables claimed) block.place.at (places_in (tables claimed) refs)
  pub placed : 0 < block.place.at
  pub long : block.length ≡ content_size (length refs) (length bytes)
  pub lawful : IsLawfulRun claimed.upstream claimed.start claimed.seen

-- what the claim itself gives
record Claims (who : Who) (refs : List Digest) (digest : Digest) (b claimed : View) (cell : Place) (block : Block) : Type 0 where
  pub at : place_of (tables claimed).bound Objects digest ≡ Some cell
  pub below : RefsBelow (tables claimed) block.place.at (places_in (tables claimed) refs)
  pub placed : 0 < block.place.at

claims : (who : Who) (refs : List Digest) (digest : Digest) (n : ℕ) (b claimed : View) (cell : Place) (block : Block) → AreFilled (tables b) refs → place_of (tables b).bound Objects digest ≡ Some cell
    → IsLawfulRun claimed.upstream claimed.start claimed.seen → HasClaimed (own_note who) n b claimed block → Claims who refs digest b claimed cell block
claims who refs digest n b claimed cell block filled at lawful c =
    let P : View → Type 0 = λ v. IsLawfulRun v.upstream v.start v.seen → block.place.at ≡ (tables_before v).counter → Claims who refs digest b v cell block in
    subst P (sym c.is) (λ run place.
    let s : Tables = tables_after b.start (c.others ++ b.seen) in
    let grows = grows-more b.upstream b.start c.others b.seen run.0 in
    let sound = sound-run b.upstream b.start (c.others ++ b.seen) run.0 in
    let less : (d : Digest) → 0 < cell_under s Objects d → cell_under s Objects d < block.place.at =
    λ d some. let lt = cell-below b.upstream b.start (c.others ++ b.seen) d run.0 some in omega (arith, lt, place) in
    let positive = sound.positive in
    record {
      at = grows.places Objects digest cell at;
      below = subst (λ (ns : List ℕ). RefsBelow (claimed_by s who n) block.place.at ns) (places-same s (claimed_by s who n) refs refl)
          (refs-last s (claimed_by s who n) (grows-act b.upstream s who (Claim n) run.1) block.place.at (places_in s refs) (refs-below s block.place.at refs sound (filled-grows (tables b) s refs grows filled) less));
      placed = omega (arith, positive, place);
    }) lawful c.place

pub begun : (who : Who) (refs : List Digest) (bytes : List ℕ) (digest : Digest) (old b claimed : View) (bound : Bound) (block : Block) → SpeaksFor old who → digest ≡ digest_of refs bytes → HasRefs who refs old
    → missed old.start who is_own old.seen ≡ true → BoundTo (own_note who) Objects digest old b bound → IsLawful old b → HasClaimed (own_note who) (content_size (length refs) (length bytes)) b claimed block
    → IsLawful b claimed → Began who refs bytes digest old claimed bound.place block
begun who refs bytes digest old b claimed bound block mine is there missed_it bd lawful-b c lawful-c =
    let o : Object = object_with refs bytes in
    let n : ℕ = content_size (length refs) (length bytes) in
    let first = bound-ends who o digest old b bound mine is (refs-there who refs old there) missed_it bd in
    let mine-b = goes-speaks who who old b first.goes mine in
    let there-b = refs-stay who who refs old b first.goes lawful-b.is there in
    let missed-b = subst (λ (v : View). missed v.start who is_own v.seen ≡ true) (sym first.goes.is) (missed-more old.start who is_own first.goes.more old.seen missed_it) in
    let second = claimed-ends who o n b claimed block mine-b (refs-there who refs b there-b) missed-b refl c in
    let both = ends-then who (Store o) None old b (shut claimed) 997 n first second in
    let there-c = refs-stay who who refs b (shut claimed) second.goes lawful-c.is there-b in
    let its = claims who refs digest n b claimed bound.place block there-b.filled bd.answer lawful-c.is c in
    let length-is : block.length ≡ n = c.length in
    record {
      mine = goes-speaks who who old (shut claimed) both.goes mine;
      refs_there = record { found = there-c.found; filled = there-c.filled };
      up = goes-upstream who old (shut claimed) both.goes;
      takes = goes-takes who old (shut claimed) both.goes;
      opened = ap (λ (v : View). v.opened) c.is ∙ (λ i. block_of block who (none_written (sym length-is i)) ∷ goes-opened who old b first.goes i);
      ends = both;
      at = its.at;
      below = its.below;
      placed = its.placed;
      long = length-is;
      lawful = lawful-c.is;
    }

pub claim-stops : (who : Who) (refs : List Digest) (bytes : List ℕ) (digest : Digest) (old b new : View) (bound : Bound) (error : PortError) → SpeaksFor old who → digest ≡ digest_of refs bytes → HasRefs who refs old
    → missed old.start who is_own old.seen ≡ true → BoundTo (own_note who) Objects digest old b bound → IsLawful old b → IsLawful b new → ClaimRefused (own_note who) (content_size (length refs) (length bytes)) b new error
    → BringStops who (object_with refs bytes) old new error
claim-stops who refs bytes digest old b new bound error mine is there missed_it bd lawful-b lawful-new refused =
    let o : Object = object_with refs bytes in
    let n : ℕ = content_size (length refs) (length bytes) in
    let first = bound-ends who o digest old b bound mine is (refs-there who refs old there) missed_it bd in
    let mine-b = goes-speaks who who old b first.goes mine in
    let there-b = refs-stay who who refs old b first.goes lawful-b.is there in
    let missed-b = subst (λ (v : View). missed v.start who is_own v.seen ≡ true) (sym first.goes.is) (missed-more old.start who is_own first.goes.more old.seen missed_it) in
    let at : place_of (tables b).bound Objects (digest_of refs bytes) ≡ Some bound.place = subst (λ (d : Digest). place_of (tables b).bound Objects d ≡ Some bound.place) is bd.answer in
    room-stops who o n old b new error 997 (omega arith) mine-b (refs-there who refs b there-b) missed-b refl first bound.place at (bound-once (own_note who) Objects digest old b bound mine bd) lawful-new refused

-- ---- fill

-- the words of the newest open block
open-head : (block : Block) (who : Who) (words : List (Option ℕ)) (rest : List OpenBlock) → open_words (block_of block who words ∷ rest) block.place.at ≡ words
open-head block who words rest = ap (λ b. cond b words (open_words rest block.place.at)) (eq-eqb block.place.at block.place.at refl)

close-head : (block : Block) (who : Who) (words : List (Option ℕ)) (rest : List OpenBlock) → close_block (block_of block who words ∷ rest) block.place.at ≡ rest
close-head block who words rest = ap (λ b. cond b rest (block_of block who words ∷ close_block rest block.place.at)) (eq-eqb block.place.at block.place.at refl)

fill-left : (s : Tables) (cell : Place) (value : ℕ) (words : List ℕ) → 0 < value → 0 < left_by s (Fill cell value words)
fill-left s cell value words some = step (cell_of s.filled cell.at) refl where
  step : (had : ℕ) → cell_of s.filled cell.at ≡ had → 0 < left_by s (Fill cell value words)
  step zero is = subst (λ n. 0 < value_left (fill_answer n value)) (sym is) some
  step (suc had) is = subst (λ n. 0 < value_left (fill_answer n value)) (sym is) (omega arith)

reply-some : (n : ℕ) (r : Reply) → 0 < n → reply_with n (λ _. Some r) ≡ Some r
reply-some zero r some = absurd (omega (arith, some))
reply-some (suc n) r some = refl

fill-filled : (s : Tables) (cell : Place) (value : ℕ) (words : List ℕ) → 0 < value → 0 < cell_of (filled_by s (cell_of s.filled cell.at) cell value words).filled cell.at
fill-filled s cell value words some = step (cell_of s.filled cell.at) refl where
  step : (had : ℕ) → cell_of s.filled cell.at ≡ had → 0 < cell_of (filled_by s had cell value words).filled cell.at
  step zero is = subst (λ b. 0 < cond b value (cell_of s.filled cell.at)) (sym (eq-eqb cell.at cell.at refl)) some
  step (suc had) is = omega (arith, is)

filled-bound : (s : Tables) (had : ℕ) (cell : Place) (value : ℕ) (words : List ℕ) → (filled_by s had cell value words).bound ≡ s.bound
filled-bound s zero cell value words = refl
filled-bound s (suc had) cell value words = refl

fill-under : (s : Tables) (cell : Place) (value : ℕ) (words : List ℕ) (d : Digest) → place_of s.bound Objects d ≡ Some cell → 0 < value
    → 0 < cell_under (filled_by s (cell_of s.filled cell.at) cell value words) Objects d
fill-under s cell value words d at some =
    let t : Tables = filled_by s (cell_of s.filled cell.at) cell value words in
    let place : place_of t.bound Objects d ≡ Some cell = ap (λ (rs : List Record). place_of rs Objects d) (filled-bound s (cell_of s.filled cell.at) cell value words) ∙ at in
    subst (λ (p : Option Place). 0 < cell_at t.filled p) (sym place) (fill-filled s cell value words some)

module _ (who : Who) (refs : List Digest) (bytes : List ℕ) (digest : Digest) (old claimed v : View) (cell : Place) (block : Block)
    (is : digest ≡ digest_of refs bytes) (few : length refs ≤ 65535) (short : length bytes ≤ 16777215) (ok : EachIsByte bytes) (lacks : fin.get old.upstream.objects digest ≡ None)
    (b : Began who refs bytes digest old claimed cell block) (lawful : IsLawful claimed v)
    (writes : Writes who (object_with refs bytes) claimed v block (map Some (words_for (tables claimed) refs bytes))) where
  grows-v : Grows (tables claimed) (tables v)
  grows-v = goes-grows who (shut claimed) (shut v) writes.ends.goes lawful.is

  open-is : open_words v.opened block.place.at ≡ map Some (words_for (tables claimed) refs bytes)
  open-is = ap (λ (os : List OpenBlock). open_words os block.place.at) writes.opened ∙ open-head block who (map Some (words_for (tables claimed) refs bytes)) (drop 1 claimed.opened)

  words-is : words_of v block ≡ words_for (tables claimed) refs bytes
  words-is = ap (map (λ (w : Option ℕ). unwrap_or w 0)) open-is ∙ words-some (words_for (tables claimed) refs bytes)

  up-v : v.upstream ≡ old.upstream
  up-v = goes-upstream who (shut claimed) (shut v) writes.ends.goes ∙ b.up

  sound-c : IsSound (tables claimed)
  sound-c = sound-run claimed.upstream claimed.start claimed.seen b.lawful

  content-c : object_of (tables claimed).bound (words_for (tables claimed) refs bytes) ≡ object_with refs bytes
  content-c = object-content (tables claimed) refs bytes short ok sound-c b.refs_there.filled

  rule-c : IsObjectRule v.upstream (tables claimed) digest block.place.at (words_for (tables claimed) refs bytes)
  rule-c =
      let few-places : length (places_in (tables claimed) refs) ≤ 65535 = let e = length-places (tables claimed) refs in omega (arith, e, few) in
      record {
        for = record {
          content = content_words-IsContent (places_in (tables claimed) refs) bytes few-places short ok;
          refs = subst (λ (ns : List ℕ). RefsBelow (tables claimed) block.place.at ns) (sym (content_places-words (places_in (tables claimed) refs) bytes (omega arith))) b.below;
          named = ap object_digest content-c ∙ sym is;
        };
        same = subst (λ (found : Option Object). Agrees found (object_of (tables claimed).bound (words_for (tables claimed) refs bytes))) (sym (ap (λ (s : State). fin.get s.objects digest) up-v ∙ lacks)) tt;
      }

  rule-v : IsObjectRule v.upstream (tables v) digest block.place.at (words_for (tables claimed) refs bytes)
  rule-v = object-rule-lasts v.upstream (tables claimed) (tables v) digest block.place.at (words_for (tables claimed) refs bytes) grows-v rule-c

  at-v : place_of (tables v).bound Objects digest ≡ Some cell
  at-v = grows-v.places Objects digest cell b.at

  pub fill-whole : IsWholeFill (own_note who) cell v block
  fill-whole =
      let found = (sound-run v.upstream v.start v.seen lawful.is).tied.to Objects digest cell at-v in
      record {
        opened = subst (λ (os : List OpenBlock). IsOpenFor os who block.place.at block.length) (sym writes.opened)
            (subst (λ (t : Bool). cond t ((who ≡ who) × (length (map Some (words_for (tables claimed) refs bytes)) ≡ block.length)) (IsOpenFor (drop 1 claimed.opened) who block.place.at block.length)) (sym (eq-eqb block.place.at block.place.at refl))
            (refl, length-map-some (words_for (tables claimed) refs bytes) ∙ length-content (tables claimed) refs bytes ∙ sym b.long));
        whole = ap all_written open-is ∙ all_written-some (words_for (tables claimed) refs bytes);
        found = found.0;
        bound = found.1;
        object = found.2;
        lawful = subst (λ (d : Digest). IsObjectRule v.upstream (tables v) d block.place.at (words_of v block)) (sym found.3)
            (subst (λ (xs : List ℕ). IsObjectRule v.upstream (tables v) digest block.place.at xs) (sym words-is) rule-v);
      }

  shut-opened : drop 1 v.opened ≡ old.opened
  shut-opened = ap (drop 1) writes.opened ∙ ap (drop 1) b.opened

  closed-is : close_block v.opened block.place.at ≡ drop 1 v.opened
  closed-is = ap (λ (os : List OpenBlock). close_block os block.place.at) writes.opened ∙ close-head block who (map Some (words_for (tables claimed) refs bytes)) (drop 1 claimed.opened) ∙ sym (ap (drop 1) writes.opened)

  ends-v : Ends who (Store (object_with refs bytes)) None old (shut v) (997 + content_size (length refs) (length bytes) + 0)
  ends-v = ends-then who (Store (object_with refs bytes)) None old (shut claimed) (shut v) (997 + content_size (length refs) (length bytes)) 0 b.ends writes.ends

  pub stops-v : IsTrue old.takes_memory → Stops who (Store (object_with refs bytes)) old (shut v) (object_cost (object_with refs bytes))
  stops-v takes =
      let same : shut v ≡ record (shut v) { opened = old.opened } = λ i. record v { opened = shut-opened i } in
      record {
        takes = takes;
        left = [];
        opened = shut-opened;
        ends = subst (λ (x : View). Ends who (Store (object_with refs bytes)) None old x (object_cost (object_with refs bytes))) same
            (ends-more who (Store (object_with refs bytes)) None old (shut v) (997 + content_size (length refs) (length bytes) + 0) (object_cost (object_with refs bytes)) (omega arith) ends-v);
      }

  pub fill-stops : (new : View) → Abandons v new block → Stops who (Store (object_with refs bytes)) old new (object_cost (object_with refs bytes))
  fill-stops new a =
      subst (λ (x : View). Stops who (Store (object_with refs bytes)) old x (object_cost (object_with refs bytes))) (sym (a.is ∙ ap (λ (os : List OpenBlock). record v { opened = os }) closed-is))
      (stops-v (subst IsTrue (goes-takes who (shut claimed) (shut v) writes.ends.goes ∙ b.takes) a.takes))

  pub fill-brings : (new : View) (filled : Filled) → IsLawful v new → HasFilled (own_note who) cell v new block filled → Brings who (object_with refs bytes) old new
  fill-brings new filled lawful-new f =
      let o : Object = object_with refs bytes in
      let xs : List ℕ = words_for (tables claimed) refs bytes in
      let new-is : new ≡ record (shut v) { seen = event_of (own_note who) (Fill cell block.place.at (words_for (tables claimed) refs bytes)) ∷ f.others ++ v.seen } =
      f.is ∙ (λ i. record v { seen = event_of (own_note who) (Fill cell block.place.at (words-is i)) ∷ f.others ++ v.seen; opened = closed-is i }) in
      let mine-v : SpeaksFor v who = goes-speaks who who (shut claimed) (shut v) writes.ends.goes b.mine in
      let run : IsLawfulRun v.upstream v.start (event_of (own_note who) (Fill cell block.place.at (words_for (tables claimed) refs bytes)) ∷ f.others ++ v.seen) =
      subst (λ (x : View). IsLawfulRun x.upstream x.start x.seen) new-is lawful-new.is in
      let s : Tables = tables_after v.start (f.others ++ v.seen) in
      let grows-s : Grows (tables v) s = grows-more v.upstream v.start f.others v.seen run.0 in
      let at-s : place_of s.bound Objects digest ≡ Some cell = grows-s.places Objects digest cell at-v in
      let content-s : object_of s.bound (words_for (tables claimed) refs bytes) ≡ object_with refs bytes =
      object-lasts (tables v) s grows-s block.place.at (words_for (tables claimed) refs bytes) rule-v.for.refs
      ∙ object-lasts (tables claimed) (tables v) grows-v block.place.at (words_for (tables claimed) refs bytes) rule-c.for.refs ∙ content-c in
      let there-v = refs-stay who who refs (shut claimed) (shut v) writes.ends.goes lawful.is (record { found = b.refs_there.found; filled = b.refs_there.filled }) in
      let may : MayAct v.upstream v.start (f.others ++ v.seen) who (Store o) Own (Fill cell block.place.at (words_for (tables claimed) refs bytes)) = (
        there-more v.upstream v.start f.others v.seen who 0 refs (refs-there who refs (shut v) there-v),
        subst (λ (d : Digest). place_of s.bound Objects d ≡ Some cell) is at-s,
        (content-s, ap (λ (st : State). fin.get st.objects (digest_of refs bytes)) up-v ∙ ap (fin.get old.upstream.objects) (sym is) ∙ lacks),
      ) in
      let says : decided v.upstream s (Store o) Own (Fill cell block.place.at (words_for (tables claimed) refs bytes)) ≡ Some (reply.Stored (object_digest o)) =
      reply-some (left_by s (Fill cell block.place.at (words_for (tables claimed) refs bytes))) (reply.Stored (object_digest o)) (fill-left s cell block.place.at (words_for (tables claimed) refs bytes) b.placed) in
      let adds : Adds (shut v) new (event_of (own_note who) (Fill cell block.place.at (words_for (tables claimed) refs bytes))) = record { others = f.others; foreign = f.foreign; is = new-is } in
      let here = event-ends (own_note who) (Store o) (Fill cell block.place.at (words_for (tables claimed) refs bytes)) (Some (reply.Stored (object_digest o))) (shut v) new f.others 0 0
      (foreign-before who (Store o) (shut v) f.others mine-v f.foreign) new-is (omega arith) may says in
      record {
        there = subst (λ (x : View). has (seen_state x) (object_digest o) ≡ true) (sym new-is)
            (cell-has (tables_after v.start (event_of (own_note who) (Fill cell block.place.at (words_for (tables claimed) refs bytes)) ∷ f.others ++ v.seen)) (object_digest o) (sound-run v.upstream v.start (event_of (own_note who) (Fill cell block.place.at (words_for (tables claimed) refs bytes)) ∷ f.others ++ v.seen) run)
            (fill-under s cell block.place.at (words_for (tables claimed) refs bytes) (object_digest o) (subst (λ (d : Digest). place_of s.bound Objects d ≡ Some cell) is at-s) b.placed));
        ends = ends-more who (Store o) (Some (reply.Stored (object_digest o))) old new _ (object_cost o) (omega arith)
            (ends-then who (Store o) (Some (reply.Stored (object_digest o))) old (shut v) new (997 + content_size (length refs) (length bytes) + 0) 0 ends-v here);
        last = event-last (own_note who) (Store o) (Fill cell block.place.at (words_for (tables claimed) refs bytes)) (Some (reply.Stored (object_digest o))) (shut v) new f.others new-is says;
      }

pub write-stopped : (who : Who) (refs : List Digest) (bytes : List ℕ) (digest : Digest) (old claimed v : View) (cell : Place) (block : Block) → Began who refs bytes digest old claimed cell block
    → WriteStops who (object_with refs bytes) claimed v block → Stops who (Store (object_with refs bytes)) old v (object_cost (object_with refs bytes))
write-stopped who refs bytes digest old claimed v cell block b w =
    let o : Object = object_with refs bytes in
    let rest : drop 1 claimed.opened ≡ old.opened = ap (drop 1) b.opened in
    let shut-is : drop 1 v.opened ≡ old.opened = ap (drop 1) w.writes.opened ∙ rest in
    record {
      takes = subst IsTrue b.takes w.takes;
      left = block_of block who w.words ∷ [];
      opened = w.writes.opened ∙ ap (λ (os : List OpenBlock). block_of block who w.words ∷ os) rest;
      ends = subst (λ (x : View). Ends who (Store o) None old x (object_cost o)) (λ i. record v { opened = shut-is i })
          (ends-more who (Store o) None old (shut v) (997 + content_size (length refs) (length bytes) + 0) (object_cost o) (omega arith)
          (ends-then who (Store o) None old (shut claimed) (shut v) (997 + content_size (length refs) (length bytes)) 0 b.ends w.writes.ends));
    }
