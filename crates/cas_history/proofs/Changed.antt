-- What one more event changes in the tables.
use Rattle.std.proofs.Common.{◌≡◌, ◌≢◌, ℕ, zero, suc, List, [], ◌∷◌, Bool, true, false, cond, ◌==◌, None, Some, refl, ap, sym, ◌∙◌}
use Rattle.std.specs.declared.option.Option.{Option}
use Rattle.std.proofs.lemmas.Bool.{eqb-true, eq-eqb}
use Rattle.cas_model.specs.declared.call.Who.{Who}
use Rattle.cas_model.specs.declared.digest.Digest.{Digest}
use Rattle.cas_model.specs.declared.place.Place.{Place}
use Rattle.cas_model.specs.declared.place.Space.{Space}
use Rattle.cas_model.specs.declared.tables.Content.{Content}
use Rattle.cas_model.specs.Tables.{Tables, place_of, record_at, cell_of, words_at, is_for}
use Rattle.cas_history.specs.declared.event.Act.{Act}
use Rattle.cas_history.specs.declared.event.Act.TheVariants.{Look, Bind, Read, Claim, Room, Fill}
use Rattle.cas_history.specs.Changes.{Changes, BindsOne, BindChanges, FillChanges, Publishes}
use Rattle.cas_history.specs.Run.{after_act, bound_by, filled_by, published}
use Rattle.cas_history.proofs.Grown.{for-is, for-self}

-- a test that fails leaves the other branch
other-branch : {X : Type 0} (b : Bool) (x y : X) → (b ≡ true → ⊥) → cond b x y ≡ y
other-branch true x y h = absurd (h refl)
other-branch false x y h = refl

binds-one : (s : Tables) (space : Space) (digest : Digest) (own : Place) → BindsOne s (bound_by s space digest None (Some own)) space digest own
binds-one s space digest own = record {
  bound = ap (λ b. cond b (Some own) (place_of s.bound space digest)) (for-self (record { space = space; digest = digest; place = own }));
  record_ = ap (λ b. cond b (Some (record { space = space; digest = digest; place = own })) (record_at s.bound own.at)) (eq-eqb own.at own.at refl);
  other_digests = λ its d other. other-branch (is_for its d (record { space = space; digest = digest; place = own })) (Some own) (place_of s.bound its d)
      (λ test. let for = for-is its d (record { space = space; digest = digest; place = own }) test in other (sym for.0, sym for.1));
  other_records = λ n other. other-branch (own.at == n) (Some (record { space = space; digest = digest; place = own })) (record_at s.bound n) (λ test. other (sym (eqb-true own.at n test)));
  rest = refl;
}

bind-changes : (s : Tables) (space : Space) (digest : Digest) (found own : Option Place) → BindChanges s (bound_by s space digest found own) space digest found own
bind-changes s space digest (Some p) own = refl
bind-changes s space digest None None = refl
bind-changes s space digest None (Some own) = binds-one s space digest own

published-there : (s t : Tables) (value : ℕ) (words : List ℕ) → t.blocks ≡ published value words s.blocks → Publishes t value words
published-there s t value [] e = tt
published-there s t value (w ∷ ws) e = ap (λ (cs : List Content). words_at cs value) e ∙ ap (λ b. cond b (Some (w ∷ ws)) (words_at s.blocks value)) (eq-eqb value value refl)

published-other : (value : ℕ) (words : List ℕ) (cs : List Content) (n : ℕ) → n ≢ value → words_at (published value words cs) n ≡ words_at cs n
published-other value [] cs n other = refl
published-other value (w ∷ ws) cs n other = other-branch (value == n) (Some (w ∷ ws)) (words_at cs n) (λ test. other (sym (eqb-true value n test)))

published-none : (value : ℕ) (words : List ℕ) (cs : List Content) → words ≡ [] → published value words cs ≡ cs
published-none value words cs e = ap (λ (ws : List ℕ). published value ws cs) e

fill-changes : (s : Tables) (had : ℕ) (cell : Place) (value : ℕ) (words : List ℕ) → FillChanges s (filled_by s had cell value words) had cell value words
fill-changes s (suc had) cell value words = refl
fill-changes s zero cell value words = record {
  filled = ap (λ b. cond b value (cell_of s.filled cell.at)) (eq-eqb cell.at cell.at refl);
  published = published-there s (filled_by s zero cell value words) value words refl;
  other_cells = λ n other. other-branch (cell.at == n) value (cell_of s.filled n) (λ test. other (sym (eqb-true cell.at n test)));
  other_contents = λ n other. published-other value words s.blocks n other;
  no_content = λ e. published-none value words s.blocks e;
  rest = refl;
}

-- an act changes what its kind changes
pub act-changes : (s : Tables) (who : Who) (act : Act) → Changes s who act (after_act s who act)
act-changes s who (Look space digest) = refl
act-changes s who (Bind space digest own) = bind-changes s space digest (place_of s.bound space digest) own
act-changes s who (Read cell) = refl
act-changes s who (Claim n) = refl
act-changes s who (Room n moved) = refl
act-changes s who (Fill cell value words) = fill-changes s (cell_of s.filled cell.at) cell value words
