-- The bind of a plain port is what the contract of a port says.
use Rattle.std.proofs.Common.{◌≡◌, ℕ, zero, suc, ◌+◌, ◌*◌, ◌-◌, ◌<◌, ◌≤◌, List, [], ◌∷◌, ◌++◌, Bool, true, false, cond, inl, inr, Some, None, Ok, Err, Result, IsErrAnd, IfErr, refl, ap, sym, ◌∙◌, subst, arith}
use Rattle.cas_model.specs.declared.digest.Digest.{Digest}
use Rattle.cas_model.specs.declared.note.Note.{Note}
use Rattle.cas_model.specs.declared.place.Full.{Full as Refusal}
use Rattle.cas_model.specs.declared.place.Place.{Place}
use Rattle.cas_model.specs.declared.place.Space.{Space}
use Rattle.cas_model.specs.State.{State}
use Rattle.cas_model.specs.Tables.{Tables, place_of}
use Rattle.cas_history.specs.declared.event.Act.TheVariants.{Bind, Claim, Room}
use Rattle.cas_history.specs.declared.event.Event.{Event}
use Rattle.cas_history.specs.Run.{tables}
use Rattle.cas_history.proofs.Grown.{for-self}
use Rattle.cas_port.specs.declared.block.OpenBlock.{OpenBlock}
use Rattle.cas_port.specs.declared.block.PortError.{PortError}
use Rattle.cas_port.specs.declared.block.PortError.TheVariants.{Full, Memory}
use Rattle.cas_port.specs.Calls.{event_of, BindClaims, BoundTo, BindRefused, BindFull, IsLawful}
use Rattle.cell_port.specs.Needed.{needed}
use Rattle.cell_port.specs.Plain.{Tied, BindsNew, BindStays, BindIsRefused, bind_claims, claims_on, granted}
use Rattle.cell_port.specs.PlainView.{plain_view}
use Rattle.cell_port.specs.Tables.{PlainRows}
use Rattle.cas_port.specs.View.{earlier}
use Rattle.cell_port.proofs.Depths.{needed-most}
use Rattle.cell_port.proofs.PlainTies.{tied-bind, bind-claims-tied, tied-room, bound-now, row}

-- the claims stand before what was seen
claims-append : (note : Note) (k : ℕ) (xs seen : List Event) → claims_on note k (xs ++ seen) ≡ claims_on note k xs ++ seen
claims-append note zero xs seen = refl
claims-append note (suc k) xs seen = ap (λ (es : List Event). event_of note (Claim 16) ∷ es) (claims-append note k xs seen)

pub bind-append : (note : Note) (k : ℕ) (seen : List Event) → bind_claims note k seen ≡ bind_claims note k [] ++ seen
bind-append note k seen = claims-append note k (event_of note (Claim 5) ∷ []) seen

claims-within : (speaks : ℕ → Bool) (note : Note) (k most : ℕ) → 5 + 16 * k ≤ most → BindClaims speaks note (bind_claims note k []) most
claims-within speaks note zero most le = inr (5, refl, inl refl, omega arith, tt)
claims-within speaks note (suc k) most le = inr (16, refl, inr refl, omega arith, claims-within speaks note k (most - 16) (omega arith))

-- ---- an unbound digest

module _ (up : State) (r : PlainRows) (opened : List OpenBlock) (seen : List Event) (t : Tied up r opened seen) (note : Note) (space : Space) (digest : Digest) where
  module _ (unbound : place_of r.bound space digest ≡ None) (new : PlainRows) (after : List Event) (place : Place) (binds : BindsNew note space digest r new seen after place) where
    pub tied-new : Tied up new opened after
    tied-new =
        subst (λ (x : PlainRows). Tied up x opened after) (sym binds.rows)
        (subst (λ (es : List Event). Tied up (record r {
          counter = r.counter + (5 + 16 * needed r.bound space digest);
          bound = (record { space = space; digest = digest; place = record { at = r.counter } }) ∷ r.bound;
        }) opened es) (sym binds.events) (tied-bind up r opened seen t note space digest (needed r.bound space digest) unbound binds.fits (omega arith)))

    there : place_of (tables r.start (event_of note (Bind space digest (Some (record { at = r.counter }))) ∷ bind_claims note (needed r.bound space digest) seen)).bound space digest ≡ Some (record { at = r.counter })
    there =
        ap (λ (s : Tables). place_of s.bound space digest) (bound-now up r opened seen t note space digest (needed r.bound space digest) unbound binds.fits)
        ∙ ap (λ b. cond b (Some (record { at = r.counter })) (place_of (tables r.start (bind_claims note (needed r.bound space digest) seen)).bound space digest))
        (for-self (row up r opened seen t note space digest (needed r.bound space digest) unbound binds.fits))

    pub bound-new : BoundTo note space digest (plain_view up r.start seen opened) (plain_view up new.start after opened) (record { place = place; level = 0 })
    bound-new =
        let most = needed-most r.bound space digest in
        let start : new.start ≡ r.start = ap (λ (x : PlainRows). x.start) binds.rows in
        record {
          own = Some (record { at = r.counter });
          before = bind_claims note (needed r.bound space digest) [];
          claims = claims-within (λ _. true) note (needed r.bound space digest) 997 (omega (arith, most));
          is = (λ i. plain_view up (start i) (binds.events i) opened) ∙ ap (λ (es : List Event). plain_view up r.start (event_of note (Bind space digest (Some (record { at = r.counter }))) ∷ es) opened) (bind-append note (needed r.bound space digest) seen);
          answer = (λ i. place_of (tables (start i) (binds.events i)).bound space digest) ∙ there ∙ ap (λ (p : Place). Some p) (sym binds.at);
          level = omega arith;
        }

    pub lawful-new : IsLawful (plain_view up r.start seen opened) (plain_view up new.start after opened)
    lawful-new = record { was = t.lawful; is = tied-new.lawful }

  -- ---- a refused bind

  refused-tied : (new : PlainRows) (after : List Event) (full : Refusal) → BindIsRefused note r new seen after full → Tied up new opened after
  refused-tied new after full (inl h) =
      subst (λ (x : PlainRows). Tied up x opened after) (sym h.1)
      (subst (λ (es : List Event). Tied up r opened es) (sym h.2) (tied-room up r opened seen t note 5 (omega arith) h.0))
  refused-tied new after full (inr h) =
      let fits : r.counter + (5 + 16 * granted r) ≤ r.start.size = omega (arith, h.0) in
      let claimed = bind-claims-tied up r opened seen note (granted r) t fits in
      subst (λ (x : PlainRows). Tied up x opened after) (sym h.1)
      (subst (λ (es : List Event). Tied up (record r { counter = r.counter + (5 + 16 * granted r) }) opened es) (sym h.2)
      (tied-room up _ opened _ claimed note 16 (omega arith) (omega (arith, h.0))))

  refused-full : (k : ℕ) → k ≤ 62 → r.start.size < r.counter + (5 + 16 * k) → (new : PlainRows) (after : List Event) (full : Refusal) → BindIsRefused note r new seen after full
      → BindFull note (plain_view up r.start seen opened) (plain_view up new.start after opened) full.at full.asked full.size
  refused-full k most past new after full (inl h) =
      let start : new.start ≡ r.start = ap (λ (x : PlainRows). x.start) h.1 in
      subst (λ (f : Refusal). BindFull note (plain_view up r.start seen opened) (plain_view up new.start after opened) f.at f.asked f.size) (sym h.3) (record {
        moved = false;
        before = [];
        part = inl refl;
        most = omega arith;
        claims = tt;
        is = λ i. plain_view up (start i) (h.2 i) opened;
        at_is = sym ((λ i. (tables (start i) (earlier (h.2 i))).counter) ∙ t.ties.counter_is);
        size_is = sym ((λ i. (tables (start i) (earlier (h.2 i))).size) ∙ t.ties.size_is);
      })
  refused-full k most past new after full (inr h) =
      let start : new.start ≡ r.start = ap (λ (x : PlainRows). x.start) h.1 in
      let fits : r.counter + (5 + 16 * granted r) ≤ r.start.size = omega (arith, h.0) in
      let claimed = bind-claims-tied up r opened seen note (granted r) t fits in
      subst (λ (f : Refusal). BindFull note (plain_view up r.start seen opened) (plain_view up new.start after opened) f.at f.asked f.size) (sym h.3) (record {
        moved = false;
        before = bind_claims note (granted r) [];
        part = inr refl;
        most = omega arith;
        claims = claims-within (λ _. true) note (granted r) (997 - 16) (omega (arith, h.0));
        is = (λ i. plain_view up (start i) (h.2 i) opened) ∙ ap (λ (es : List Event). plain_view up r.start (event_of note (Room 16 false) ∷ es) opened) (bind-append note (granted r) seen);
        at_is = sym ((λ i. (tables (start i) (earlier (h.2 i))).counter) ∙ claimed.ties.counter_is);
        size_is = sym ((λ i. (tables (start i) (earlier (h.2 i))).size) ∙ claimed.ties.size_is);
      })

  pub tied-stays : (k : ℕ) (new : PlainRows) (after : List Event) (e : PortError) → BindStays note k r new seen after e → Tied up new opened after
  tied-stays k new after Memory h = subst (λ (x : PlainRows). Tied up x opened after) (sym h.0) (subst (λ (es : List Event). Tied up r opened es) (sym h.1) t)
  tied-stays k new after (Full full) h = refused-tied new after full h.1

  pub refused-stays : (k : ℕ) → k ≤ 62 → (new : PlainRows) (after : List Event) (e : PortError) → BindStays note k r new seen after e
      → BindRefused note (plain_view up r.start seen opened) (plain_view up new.start after opened) e
  refused-stays k most new after Memory h = record { same = λ i. plain_view up (h.0 i).start (h.1 i) opened; takes = refl }
  refused-stays k most new after (Full full) h = refused-full k most h.0 new after full h.1

  pub lawful-stays : (k : ℕ) (new : PlainRows) (after : List Event) (e : PortError) → BindStays note k r new seen after e → IsLawful (plain_view up r.start seen opened) (plain_view up new.start after opened)
  lawful-stays k new after e h = record { was = t.lawful; is = (tied-stays k new after e h).lawful }

-- ---- the exit of a `?`

pub err-made : {T E : Type 0} (r : Result T E) (e : E) (P : E → Type 0) → IsErrAnd r (λ x. x ≡ e) → P e → IfErr r P
err-made (Ok x) e P made holds = tt
err-made (Err x) e P made holds = subst P (sym made) holds
