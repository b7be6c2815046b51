-- The events of bringing in a tree, one after another.
use Rattle.std.proofs.Common.{◌≡◌, ℕ, ◌-◌, List, [], ◌∷◌, ◌++◌, Bool, true, false, ◌==◌, ◌&&◌, ◌||◌, ◌⊎◌, inl, inr, refl, ap, sym, ◌∙◌, subst, append_assoc}
use Rattle.std.proofs.lemmas.Bool.{eq-eqb}
use Rattle.cas_model.specs.declared.call.Who.{Who}
use Rattle.cas_model.specs.declared.digest.Digest.{Digest}
use Rattle.cas_model.specs.declared.note.Note.{Note}
use Rattle.cas_model.specs.State.{State}
use Rattle.cas_model.specs.Tables.{Tables}
use Rattle.cas_history.specs.declared.event.Act.{Act}
use Rattle.cas_history.specs.declared.event.Event.{Event}
use Rattle.cas_history.specs.Conduct.{same_who}
use Rattle.cas_history.specs.History.{is_miss}
use Rattle.cas_history.specs.Run.{tables as tables_after}
use Rattle.cas_port.specs.Calls.{event_of, Adds, BindClaims, WantsMemory}
use Rattle.cas_port.specs.View.{View, Foreign}
use Rattle.graph_db.specs.Events.{AreOf, Goes}
use Rattle.fault_in.specs.FaultIn.{Brings}
use Rattle.fault_in.specs.Tree.{AreBringing, IsBringing, missed_since}
use Rattle.cas_model.specs.Notes.{deep_note}

-- ---- misses

pub or-left : (a b : Bool) → a ≡ true → (a || b) ≡ true
or-left true b h = refl
or-left false b h = cc

pub or-right : (a b : Bool) → b ≡ true → (a || b) ≡ true
or-right true b h = refl
or-right false b h = h

pub and-both : (a b : Bool) → a ≡ true → b ≡ true → (a && b) ≡ true
and-both true b one two = two
and-both false b one two = cc

pub same-self : (who : Who) → same_who who who ≡ true
same-self who = and-both (who.session == who.session) (who.index == who.index) (eq-eqb who.session who.session refl) (eq-eqb who.index who.index refl)

pub missed-stays : (start : Tables) (who : Who) (more seen : List Event) → missed_since start who true more seen ≡ true
missed-stays start who [] seen = refl
missed-stays start who (e ∷ es) seen = or-right (same_who e.note.who who && is_miss (tables_after start (es ++ seen)) e.act) (missed_since start who true es seen) (missed-stays start who es seen)

pub missed-append : (start : Tables) (who : Who) (before : Bool) (ys xs seen : List Event)
    → missed_since start who before (ys ++ xs) seen ≡ missed_since start who (missed_since start who before xs seen) ys (xs ++ seen)
missed-append start who before [] xs seen = refl
missed-append start who before (e ∷ ys) xs seen =
    λ i. (same_who e.note.who who && is_miss (tables_after start (append_assoc ys xs seen i)) e.act) || missed-append start who before ys xs seen i

-- ---- events one after another

module _ (up : State) (start : Tables) (speaks : ℕ → Bool) (who : Who) (root : Digest) where
  pub bringing-append : (before : Bool) (ys xs seen : List Event) → AreBringing up start speaks who root before xs seen
      → AreBringing up start speaks who root (missed_since start who before xs seen) ys (xs ++ seen) → AreBringing up start speaks who root before (ys ++ xs) seen
  bringing-append before [] xs seen one two = one
  bringing-append before (e ∷ ys) xs seen one two = (step (two.0), bringing-append before ys xs seen one two.1) where
    step : ((speaks e.note.who.session ≡ false) ⊎ ((e.note ≡ deep_note who) × IsBringing up (tables_after start (ys ++ (xs ++ seen))) root (missed_since start who (missed_since start who before xs seen) ys (xs ++ seen)) e.act))
        → (speaks e.note.who.session ≡ false) ⊎ ((e.note ≡ deep_note who) × IsBringing up (tables_after start ((ys ++ xs) ++ seen)) root (missed_since start who before (ys ++ xs) seen) e.act)
    step (inl other) = inl other
    step (inr mine) = inr (
      mine.0,
      subst (λ (es : List Event). IsBringing up (tables_after start es) root (missed_since start who before (ys ++ xs) seen) e.act) (sym (append_assoc ys xs seen))
          (subst (λ (b : Bool). IsBringing up (tables_after start (ys ++ (xs ++ seen))) root b e.act) (sym (missed-append start who before ys xs seen)) mine.1),
    )

  pub bringing-foreign : (before : Bool) (es seen : List Event) → Foreign speaks es → AreBringing up start speaks who root before es seen
  bringing-foreign before [] seen foreign = tt
  bringing-foreign before (e ∷ es) seen foreign = (inl foreign.0, bringing-foreign before es seen foreign.1)

  pub bringing-are : (before : Bool) (es seen : List Event) → AreBringing up start speaks who root before es seen → AreOf speaks who es
  bringing-are before [] seen own = tt
  bringing-are before (e ∷ es) seen own = (elim (own.0) [ inl other ↦ inl other | inr mine ↦ inr (ap (λ (n : Note). n.who) mine.0) ], bringing-are before es seen own.1)

  -- the claims of a bind
  pub bringing-claims : (es seen : List Event) (most : ℕ) → BindClaims speaks (deep_note who) es most → AreBringing up start speaks who root true es seen
  bringing-claims [] seen most claims = tt
  bringing-claims (e ∷ es) seen most (inl other) = (inl other.0, bringing-claims es seen most other.1)
  bringing-claims (e ∷ es) seen most (inr his) =
      subst (λ (x : Event). AreBringing up start speaks who root true (x ∷ es) seen) (sym his.1)
      (inr (refl, (inl his.2, missed-stays start who es seen)), bringing-claims es seen (most - his.0) his.4)

-- ---- views one after another

-- the call brought, and had missed so before and after
abbrev pub Moved : Who → Digest → Bool → Bool → View → View → Type 0
Moved who root before after old new = (b : Brings who root before old new) × (missed_since old.start who before b.more old.seen ≡ after)

pub brings-self : (who : Who) (root : Digest) (before : Bool) (a : View) → Brings who root before a a
brings-self who root before a = record { more = []; is = refl; own = tt }

pub brings-goes : (who : Who) (root : Digest) (before : Bool) (a b : View) → Brings who root before a b → Goes who a b
brings-goes who root before a b h = record { more = h.more; is = h.is; own = bringing-are a.upstream a.start a.speaks who root before h.more a.seen h.own }

pub moved-then : (who : Who) (root : Digest) (x y z : Bool) (a b c : View) → Moved who root x y a b → Moved who root y z b c → Moved who root x z a c
moved-then who root x y z a b c ab bc = subst (λ (v : View). Moved who root y z v c → Moved who root x z a c) (sym ab.0.is) step bc where
  step : Moved who root y z (record a { seen = ab.0.more ++ a.seen }) c → Moved who root x z a c
  step h = (
    record {
      more = h.0.more ++ ab.0.more;
      is = h.0.is ∙ ap (λ (s : List Event). record a { seen = s }) (sym (append_assoc h.0.more ab.0.more a.seen));
      own = bringing-append a.upstream a.start a.speaks who root x h.0.more ab.0.more a.seen ab.0.own
          (subst (λ (m : Bool). AreBringing a.upstream a.start a.speaks who root m h.0.more (ab.0.more ++ a.seen)) (sym ab.1) h.0.own);
    },
    missed-append a.start who x h.0.more ab.0.more a.seen ∙ ap (λ m. missed_since a.start who m h.0.more (ab.0.more ++ a.seen)) ab.1 ∙ h.1,
  )

pub moved-true : (who : Who) (root : Digest) (a b : View) → Brings who root true a b → Moved who root true true a b
moved-true who root a b h = (h, missed-stays a.start who h.more a.seen)

pub moved-any : (who : Who) (root : Digest) (before : Bool) (a b : View) → (h : Brings who root before a b) → Moved who root before (missed_since a.start who before h.more a.seen) a b
moved-any who root before a b h = (h, refl)

pub brings-then : (who : Who) (root : Digest) (a b c : View) → Brings who root true a b → Brings who root true b c → Brings who root true a c
brings-then who root a b c ab bc = (moved-then who root true true true a b c (moved-true who root a b ab) (moved-true who root b c bc)).0

-- want of memory adds nothing
pub wants-brings : (who : Who) (root : Digest) (before : Bool) (a b : View) → WantsMemory a b → Brings who root before a b
wants-brings who root before a b wants = subst (λ (v : View). Brings who root before a v) (sym wants.same) (brings-self who root before a)

-- one event of the call
abbrev pub adds-brings : (who : Who) (root : Digest) (before : Bool) (act : Act) (old new : View) → (adds : Adds old new (event_of (deep_note who) act))
    → IsBringing old.upstream (tables_after old.start (adds.others ++ old.seen)) root (missed_since old.start who before adds.others old.seen) act → Brings who root before old new
adds-brings who root before act old new adds may = record {
  more = event_of (deep_note who) act ∷ adds.others;
  is = adds.is;
  own = (inr (refl, may), bringing-foreign old.upstream old.start old.speaks who root before adds.others old.seen adds.foreign);
}

-- an event that missed
pub miss-moved : (who : Who) (root : Digest) (before : Bool) (act : Act) (old new : View) → (adds : Adds old new (event_of (deep_note who) act))
    → IsBringing old.upstream (tables_after old.start (adds.others ++ old.seen)) root (missed_since old.start who before adds.others old.seen) act
    → is_miss (tables_after old.start (adds.others ++ old.seen)) act ≡ true → Moved who root before true old new
miss-moved who root before act old new adds may miss = (
  adds-brings who root before act old new adds may,
  or-left (same_who who who && is_miss (tables_after old.start (adds.others ++ old.seen)) act) (missed_since old.start who before adds.others old.seen)
      (and-both (same_who who who) (is_miss (tables_after old.start (adds.others ++ old.seen)) act) (same-self who) miss),
)
