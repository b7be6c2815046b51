-- What the steps of bringing in an object fill.
use Rattle.std.proofs.Common.{◌≡◌, ℕ, ◌-◌, List, [], ◌∷◌, ◌++◌, Bool, true, false, ◌&&◌, inl, inr, Some, refl, ap, sym, ◌∙◌, subst}
use Rattle.std.specs.declared.option.Option.{Option}
use Rattle.cas_model.specs.declared.call.Who.{Who}
use Rattle.cas_model.specs.declared.digest.Digest.{Digest}
use Rattle.cas_model.specs.declared.place.Place.{Place}
use Rattle.cas_model.specs.declared.place.Space.TheVariants.{Objects}
use Rattle.cas_model.specs.Notes.{deep_note}
use Rattle.cas_model.specs.Tables.{Tables, place_of}
use Rattle.cas_history.specs.declared.event.Act.{Act}
use Rattle.cas_history.specs.declared.event.Act.TheVariants.{Look, Bind, Read, Claim, Room}
use Rattle.cas_history.specs.declared.event.Event.{Event}
use Rattle.cas_history.specs.Conduct.{same_who}
use Rattle.cas_history.specs.Run.{tables as tables_after}
use Rattle.cas_port.specs.declared.block.Block.{Block}
use Rattle.cas_port.specs.declared.block.Bound.{Bound}
use Rattle.cas_port.specs.declared.block.Filled.{Filled}
use Rattle.cas_port.specs.declared.block.PortError.{PortError}
use Rattle.cas_port.specs.declared.block.PortError.TheVariants as port
use Rattle.cas_port.specs.Calls.{event_of, words_of, Abandons, Adds, BindClaims, BindRefused, BoundTo, ClaimRefused, HasClaimed, HasFilled, HasRead, Looked, WantsMemory}
use Rattle.cas_port.specs.View.{View, Foreign}
use Rattle.graph_db.specs.Events.{SpeaksFor}
use Rattle.graph_db.proofs.Steps.{other-who}
use Rattle.fault_in.specs.Order.{FillsLast, HasNoFill, IsQuiet, is_fill}
use Rattle.fault_in.specs.Bringing.{HasWords}
use Rattle.fault_in.proofs.Visited.{quiet-self, quiet-then}

-- ---- events that fill nothing

and-false : (a b : Bool) → b ≡ false → (a && b) ≡ false
and-false true b h = h
and-false false b h = refl

no-fill-others : (speaks : ℕ → Bool) (who : Who) (e : Event) → speaks who.session ≡ true → speaks e.note.who.session ≡ false → (same_who e.note.who who && is_fill e.act) ≡ false
no-fill-others speaks who e mine other = ap (λ b. b && is_fill e.act) (other-who speaks e.note.who who other mine)

no-fill-foreign : (speaks : ℕ → Bool) (who : Who) (es : List Event) → speaks who.session ≡ true → Foreign speaks es → HasNoFill who es
no-fill-foreign speaks who [] mine foreign = tt
no-fill-foreign speaks who (e ∷ es) mine foreign = (no-fill-others speaks who e mine foreign.0, no-fill-foreign speaks who es mine foreign.1)

no-fill-claims : (speaks : ℕ → Bool) (who : Who) (es : List Event) (most : ℕ) → speaks who.session ≡ true → BindClaims speaks (deep_note who) es most → HasNoFill who es
no-fill-claims speaks who [] most mine claims = tt
no-fill-claims speaks who (e ∷ es) most mine (inl other) = (no-fill-others speaks who e mine other.0, no-fill-claims speaks who es most mine other.1)
no-fill-claims speaks who (e ∷ es) most mine (inr his) =
    (and-false (same_who e.note.who who) (is_fill e.act) (ap (λ (x : Event). is_fill x.act) his.1), no-fill-claims speaks who es (most - his.0) mine his.4)

-- one event of the call, after others
quiet-event : (who : Who) (act : Act) (before seen after : List Event) → is_fill act ≡ false → HasNoFill who before → after ≡ event_of (deep_note who) act ∷ before ++ seen → IsQuiet who seen after
quiet-event who act before seen after other none is = record { more = event_of (deep_note who) act ∷ before; is = is; none = (and-false (same_who who who) (is_fill act) other, none) }

adds-quiet : (who : Who) (act : Act) (old new : View) → SpeaksFor old who → is_fill act ≡ false → Adds old new (event_of (deep_note who) act) → IsQuiet who old.seen new.seen
adds-quiet who act old new mine other adds =
    quiet-event who act adds.others old.seen new.seen other (no-fill-foreign old.speaks who adds.others mine adds.foreign) (ap (λ (v : View). v.seen) adds.is)

quiet-same : (who : Who) (old new : View) → new.seen ≡ old.seen → IsQuiet who old.seen new.seen
quiet-same who old new same = subst (λ (s : List Event). IsQuiet who old.seen s) (sym same) (quiet-self who old.seen)

wants-quiet : (who : Who) (old new : View) → WantsMemory old new → IsQuiet who old.seen new.seen
wants-quiet who old new wants = quiet-same who old new (ap (λ (v : View). v.seen) wants.same)

-- ---- looking for an object

pub look-quiet : (who : Who) (digest : Digest) (old new : View) (place : Option Place) → SpeaksFor old who → Looked (deep_note who) Objects digest old new place → IsQuiet who old.seen new.seen
look-quiet who digest old new place mine looked = adds-quiet who (Look Objects digest) old new mine refl looked.adds

pub look-wants-quiet : (who : Who) (digest : Digest) (old mid new : View) (place : Option Place) → SpeaksFor old who → Looked (deep_note who) Objects digest old mid place → WantsMemory mid new
    → IsQuiet who old.seen new.seen
look-wants-quiet who digest old mid new place mine looked wants = quiet-then who old.seen mid.seen new.seen (look-quiet who digest old mid place mine looked) (wants-quiet who mid new wants)

pub read-quiet : (who : Who) (digest : Digest) (old mid new : View) (place : Option Place) (cell : Place) (value : ℕ) → SpeaksFor old who → Looked (deep_note who) Objects digest old mid place
    → HasRead (deep_note who) cell mid new value → IsQuiet who old.seen new.seen
read-quiet who digest old mid new place cell value mine looked read =
    quiet-then who old.seen mid.seen new.seen (look-quiet who digest old mid place mine looked)
    (adds-quiet who (Read cell) mid new (subst (λ (v : View). SpeaksFor v who) (sym looked.adds.is) mine) refl read.adds)

-- ---- bringing in one object

bound-quiet : (who : Who) (digest : Digest) (old b : View) (bound : Bound) → SpeaksFor old who → BoundTo (deep_note who) Objects digest old b bound → IsQuiet who old.seen b.seen
bound-quiet who digest old b bound mine h =
    quiet-event who (Bind Objects digest h.own) h.before old.seen b.seen refl (no-fill-claims old.speaks who h.before 997 mine h.claims) (ap (λ (v : View). v.seen) h.is)

-- the bind was refused
pub bind-stop-quiet : (who : Who) (old new : View) (error : PortError) → SpeaksFor old who → BindRefused (deep_note who) old new error → IsQuiet who old.seen new.seen
bind-stop-quiet who old new port.Memory mine wants = wants-quiet who old new wants
bind-stop-quiet who old new (port.Full full) mine h =
    quiet-event who (Room full.asked h.moved) h.before old.seen new.seen refl (no-fill-claims old.speaks who h.before (997 - full.asked) mine h.claims) (ap (λ (v : View). v.seen) h.is)

bound-speaks : (who : Who) (digest : Digest) (old b : View) (bound : Bound) → SpeaksFor old who → BoundTo (deep_note who) Objects digest old b bound → SpeaksFor b who
bound-speaks who digest old b bound mine h = subst (λ (v : View). SpeaksFor v who) (sym h.is) mine

-- the claim was refused
pub claim-stop-quiet : (who : Who) (digest : Digest) (n : ℕ) (old b new : View) (bound : Bound) (error : PortError) → SpeaksFor old who → BoundTo (deep_note who) Objects digest old b bound
    → ClaimRefused (deep_note who) n b new error → IsQuiet who old.seen new.seen
claim-stop-quiet who digest n old b new bound error mine bd refused = quiet-then who old.seen b.seen new.seen (bound-quiet who digest old b bound mine bd) (step error refused) where
  step : (e : PortError) → ClaimRefused (deep_note who) n b new e → IsQuiet who b.seen new.seen
  step port.Memory wants = wants-quiet who b new wants
  step (port.Full full) h = adds-quiet who (Room n h.0) b new (bound-speaks who digest old b bound mine bd) refl h.1

-- the words of its block were written
module _ (who : Who) (digest : Digest) (n : ℕ) (old b claimed v : View) (bound : Bound) (block : Block) (words : List (Option ℕ)) (mine : SpeaksFor old who)
    (bd : BoundTo (deep_note who) Objects digest old b bound) (c : HasClaimed (deep_note who) n b claimed block) (h : HasWords who claimed v block words) where
  written-quiet : IsQuiet who old.seen v.seen
  written-quiet =
      let mine-b = bound-speaks who digest old b bound mine bd in
      quiet-then who old.seen b.seen v.seen (bound-quiet who digest old b bound mine bd)
      (quiet-event who (Claim n) c.others b.seen v.seen refl (no-fill-foreign b.speaks who c.others mine-b c.foreign) (ap (λ (x : View). x.seen) h.is ∙ ap (λ (x : View). x.seen) c.is))

  written-speaks : v.speaks ≡ old.speaks
  written-speaks = ap (λ (x : View). x.speaks) h.is ∙ ap (λ (x : View). x.speaks) c.is ∙ ap (λ (x : View). x.speaks) bd.is

  written-start : v.start ≡ old.start
  written-start = ap (λ (x : View). x.start) h.is ∙ ap (λ (x : View). x.start) c.is ∙ ap (λ (x : View). x.start) bd.is

  -- memory was wanted for the fill
  pub abandoned-quiet : (new : View) → Abandons v new block → IsQuiet who old.seen new.seen
  abandoned-quiet new a = quiet-then who old.seen v.seen new.seen written-quiet (quiet-same who v new (ap (λ (x : View). x.seen) a.is))

  -- it was filled
  pub filled-last : (new : View) (cell : Place) (filled : Filled) → (f : HasFilled (deep_note who) cell v new block filled)
      → place_of (tables_after v.start (f.others ++ v.seen)).bound Objects digest ≡ Some cell → FillsLast old.start who digest old.seen new.seen
  filled-last new cell filled f at =
      let mine-v : v.speaks who.session ≡ true = ap (λ (s : ℕ → Bool). s who.session) written-speaks ∙ mine in
      record {
        earlier = f.others ++ v.seen;
        quiet = quiet-then who old.seen v.seen (f.others ++ v.seen) written-quiet (record { more = f.others; is = refl; none = no-fill-foreign v.speaks who f.others mine-v f.foreign });
        cell = cell;
        value = block.place.at;
        words = words_of v block;
        is = ap (λ (x : View). x.seen) f.is;
        at = subst (λ (s : Tables). place_of (tables_after s (f.others ++ v.seen)).bound Objects digest ≡ Some cell) written-start at;
      }
