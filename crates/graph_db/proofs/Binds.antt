-- How often a call bound a digest.
use Rattle.std.proofs.Common.{◌≡◌, ℕ, ◌+◌, ◌-◌, List, [], ◌∷◌, ◌++◌, Bool, true, false, cond, ◌&&◌, ◌⊎◌, inl, inr, Some, IsSome, refl, ap, sym, ◌∙◌, subst, zero-add, arith}
use Rattle.cas_model.specs.declared.call.Who.{Who}
use Rattle.cas_model.specs.declared.digest.Digest.{Digest}
use Rattle.cas_model.specs.declared.note.Note.{Note}
use Rattle.cas_model.specs.declared.place.Place.{Place}
use Rattle.cas_model.specs.declared.place.Space.{Space}
use Rattle.cas_model.specs.declared.place.Space.TheVariants.{Objects}
use Rattle.cas_model.specs.Tables.{place_of}
use Rattle.cas_history.specs.declared.event.Act.{Act}
use Rattle.cas_history.specs.declared.event.Act.TheVariants.{Look, Bind, Read, Claim, Room, Fill}
use Rattle.cas_history.specs.declared.event.Event.{Event}
use Rattle.cas_history.specs.Conduct.{same_who}
use Rattle.cas_history.specs.Lawful.{IsLawfulRun}
use Rattle.cas_history.proofs.Grown.{grows-more}
use Rattle.cas_port.specs.declared.block.Bound.{Bound}
use Rattle.cas_port.specs.Calls.{event_of, Adds, BindClaims, BoundTo}
use Rattle.cas_port.specs.View.{View, Foreign, tables}
use Rattle.graph_db.specs.Events.{SpeaksFor, AreReadings, Reads, binds, is_bind, is_reading}
use Rattle.graph_db.proofs.Found.{same-self}
use Rattle.graph_db.proofs.Steps.{other-who}

-- another act
binds-other : (who : Who) (e : Event) (earlier : List Event) → is_bind e.act ≡ false → binds who (e ∷ earlier) ≡ binds who earlier
binds-other who e earlier other = ap (λ n. n + binds who earlier) (none (same_who e.note.who who) (is_bind e.act) other) ∙ zero-add (binds who earlier) where
  count : Bool → ℕ
  count test = cond test 1 0

  none : (mine bind : Bool) → bind ≡ false → count (mine && bind) ≡ 0
  none mine true no_ = cc
  none true false no_ = refl
  none false false no_ = refl

-- another's event
binds-others : (speaks : ℕ → Bool) (who : Who) (e : Event) (earlier : List Event) → speaks who.session ≡ true → speaks e.note.who.session ≡ false → binds who (e ∷ earlier) ≡ binds who earlier
binds-others speaks who e earlier mine other = ap (λ b. cond (b && is_bind e.act) 1 0 + binds who earlier) (other-who speaks e.note.who who other mine) ∙ zero-add (binds who earlier)

binds-foreign : (speaks : ℕ → Bool) (who : Who) (es seen : List Event) → speaks who.session ≡ true → Foreign speaks es → binds who (es ++ seen) ≡ binds who seen
binds-foreign speaks who [] seen mine foreign = refl
binds-foreign speaks who (e ∷ es) seen mine foreign = binds-others speaks who e (es ++ seen) mine foreign.0 ∙ binds-foreign speaks who es seen mine foreign.1

binds-claims : (speaks : ℕ → Bool) (note : Note) (es seen : List Event) (most : ℕ) → speaks note.who.session ≡ true → BindClaims speaks note es most → binds note.who (es ++ seen) ≡ binds note.who seen
binds-claims speaks note [] seen most mine claims = refl
binds-claims speaks note (e ∷ es) seen most mine (inl other) = binds-others speaks note.who e (es ++ seen) mine other.0 ∙ binds-claims speaks note es seen most mine other.1
binds-claims speaks note (e ∷ es) seen most mine (inr his) =
    binds-other note.who e (es ++ seen) (ap (λ (x : Event). is_bind x.act) his.1) ∙ binds-claims speaks note es seen (most - his.0) mine his.4

binds-readings : (speaks : ℕ → Bool) (who : Who) (es seen : List Event) → speaks who.session ≡ true → AreReadings speaks who es → binds who (es ++ seen) ≡ binds who seen
binds-readings speaks who [] seen mine own = refl
binds-readings speaks who (e ∷ es) seen mine own = step (own.0) ∙ binds-readings speaks who es seen mine own.1 where
  reading : (act : Act) → is_reading act ≡ true → is_bind act ≡ false
  reading (Look space digest) h = refl
  reading (Read cell) h = refl
  reading (Bind space digest its) h = cc
  reading (Claim n) h = refl
  reading (Room n moved) h = refl
  reading (Fill cell value words) h = refl

  step : ((speaks e.note.who.session ≡ false) ⊎ ((e.note.who ≡ who) × (is_reading e.act ≡ true))) → binds who (e ∷ es ++ seen) ≡ binds who (es ++ seen)
  step (inl other) = binds-others speaks who e (es ++ seen) mine other
  step (inr his) = binds-other who e (es ++ seen) (reading e.act his.1)

-- looking binds nothing
pub reads-never : (who : Who) (old new : View) → SpeaksFor old who → Reads who old new → binds who new.seen ≡ binds who old.seen
reads-never who old new mine reads = ap (λ (v : View). binds who v.seen) reads.is ∙ binds-readings old.speaks who reads.more old.seen mine reads.own

-- a bind that was refused
pub refused-never : (note : Note) (old new : View) (before : List Event) (most asked : ℕ) (moved : Bool) → SpeaksFor old note.who → BindClaims old.speaks note before most
    → new ≡ record old { seen = event_of note (Room asked moved) ∷ before ++ old.seen } → binds note.who new.seen ≡ binds note.who old.seen
refused-never note old new before most asked moved mine claims is =
    ap (λ (v : View). binds note.who v.seen) is ∙ binds-other note.who (event_of note (Room asked moved)) (before ++ old.seen) refl ∙ binds-claims old.speaks note before old.seen most mine claims

-- a bind
pub bound-once : (note : Note) (space : Space) (digest : Digest) (old new : View) (bound : Bound) → SpeaksFor old note.who → BoundTo note space digest old new bound
    → binds note.who new.seen ≡ binds note.who old.seen + 1
bound-once note space digest old new bound mine b =
    let here : binds note.who new.seen ≡ cond (same_who note.who note.who && true) 1 0 + binds note.who (b.before ++ old.seen) = ap (λ (v : View). binds note.who v.seen) b.is in
    let count : Bool → ℕ = λ mine. cond (mine && true) 1 0 in
    let one = ap count (same-self note.who) in
    let rest = binds-claims old.speaks note b.before old.seen 997 mine b.claims in
    omega (arith, here, one, rest)

-- a claim that was refused
pub room-never : (note : Note) (n : ℕ) (moved : Bool) (old new : View) → SpeaksFor old note.who → Adds old new (event_of note (Room n moved)) → binds note.who new.seen ≡ binds note.who old.seen
room-never note n moved old new mine adds =
    ap (λ (v : View). binds note.who v.seen) adds.is ∙ binds-other note.who (event_of note (Room n moved)) (adds.others ++ old.seen) refl ∙ binds-foreign old.speaks note.who adds.others old.seen mine adds.foreign

-- what was bound is bound after one more event
pub still-bound : (digest : Digest) (place : Place) (event : Event) (old new : View) → Adds old new event → IsLawfulRun new.upstream new.start new.seen → place_of (tables old).bound Objects digest ≡ Some place
    → IsSome (place_of (tables new).bound Objects digest)
still-bound digest place event old new adds lawful at = subst IsSome (sym (later lawful)) refl where
  later : IsLawfulRun new.upstream new.start new.seen → place_of (tables new).bound Objects digest ≡ Some place
  later = subst (λ (v : View). IsLawfulRun v.upstream v.start v.seen → place_of (tables v).bound Objects digest ≡ Some place) (sym adds.is)
      (λ run. (grows-more old.upstream old.start (event ∷ adds.others) old.seen run).places Objects digest place at)
