-- What stays in every run, lawful or not: the size, bound places and filled cells.
use Rattle.std.proofs.Common.{◌≡◌, ℕ, zero, suc, ◌<◌, List, [], ◌∷◌, ◌++◌, Bool, true, false, cond, ◌==◌, None, Some, refl, ap, sym, ◌∙◌, subst, arith}
use Rattle.std.specs.declared.option.Option.{Option}
use Rattle.std.proofs.lemmas.Bool.{eqb-true}
use Rattle.cas_model.specs.declared.call.Who.{Who}
use Rattle.cas_model.specs.declared.digest.Digest.{Digest}
use Rattle.cas_model.specs.declared.place.Place.{Place}
use Rattle.cas_model.specs.declared.place.Space.{Space}
use Rattle.cas_model.specs.Tables.{Tables, place_of, cell_of, is_for}
use Rattle.cas_history.specs.declared.event.Act.{Act}
use Rattle.cas_history.specs.declared.event.Act.TheVariants.{Look, Bind, Read, Claim, Room, Fill}
use Rattle.cas_history.specs.declared.event.Event.{Event}
use Rattle.cas_history.specs.Run.{tables, after_act, bound_by, filled_by}
use Rattle.cas_history.proofs.Grown.{for-is}

-- the second tables have the size, the bound places and the filled cells of the first
pub record Stays (s t : Tables) : Type 0 where
  pub size : t.size ≡ s.size
  pub places : (space : Space) (digest : Digest) (p : Place) → place_of s.bound space digest ≡ Some p → place_of t.bound space digest ≡ Some p
  pub cells : (n : ℕ) → 0 < cell_of s.filled n → cell_of t.filled n ≡ cell_of s.filled n

stays-self : (s : Tables) → Stays s s
stays-self s = record { size = refl; places = λ space digest p h. h; cells = λ n h. refl }

stays-bind : (s : Tables) (space : Space) (digest : Digest) (found own : Option Place) → place_of s.bound space digest ≡ found → Stays s (bound_by s space digest found own)
stays-bind s space digest (Some p) own is = stays-self s
stays-bind s space digest None None is = stays-self s
stays-bind s space digest None (Some own) is = record { size = refl; places = λ its d p h. step its d p h (is_for its d (record { space = space; digest = digest; place = own })) refl; cells = λ n h. refl } where
  step : (its : Space) (d : Digest) (p : Place) → place_of s.bound its d ≡ Some p → (b : Bool) → is_for its d (record { space = space; digest = digest; place = own }) ≡ b
      → cond b (Some own) (place_of s.bound its d) ≡ Some p
  step its d p h true test =
      let for = for-is its d (record { space = space; digest = digest; place = own }) test in
      absurd (cc (h, (λ i. place_of s.bound (sym for.0 i) (sym for.1 i)) ∙ is))
  step its d p h false test = h

stays-fill : (s : Tables) (had : ℕ) (cell : Place) (value : ℕ) (words : List ℕ) → cell_of s.filled cell.at ≡ had → Stays s (filled_by s had cell value words)
stays-fill s (suc had) cell value words is = stays-self s
stays-fill s zero cell value words is = record { size = refl; places = λ space digest p h. h; cells = λ n h. step n h (cell.at == n) refl } where
  step : (n : ℕ) → 0 < cell_of s.filled n → (b : Bool) → (cell.at == n) ≡ b → cond b value (cell_of s.filled n) ≡ cell_of s.filled n
  step n h true test = absurd (let e : cell_of s.filled cell.at ≡ cell_of s.filled n = ap (cell_of s.filled) (eqb-true cell.at n test) in omega (arith, e, is, h))
  step n h false test = refl

stays-act : (s : Tables) (who : Who) (act : Act) → Stays s (after_act s who act)
stays-act s who (Look space digest) = stays-self s
stays-act s who (Bind space digest own) = stays-bind s space digest (place_of s.bound space digest) own refl
stays-act s who (Read cell) = stays-self s
stays-act s who (Claim n) = record { size = refl; places = λ space digest p h. h; cells = λ m h. refl }
stays-act s who (Room n moved) = record { size = refl; places = λ space digest p h. h; cells = λ m h. refl }
stays-act s who (Fill cell value words) = stays-fill s (cell_of s.filled cell.at) cell value words refl

stays-then : (a b c : Tables) → Stays a b → Stays b c → Stays a c
stays-then a b c one two = record {
  size = two.size ∙ one.size;
  places = λ space digest p h. two.places space digest p (one.places space digest p h);
  cells = λ n h. two.cells n (subst (λ m. 0 < m) (sym (one.cells n h)) h) ∙ one.cells n h;
}

pub stays-more : (start : Tables) (more seen : List Event) → Stays (tables start seen) (tables start (more ++ seen))
stays-more start [] seen = stays-self (tables start seen)
stays-more start (e ∷ es) seen =
    stays-then (tables start seen) (tables start (es ++ seen)) (tables start (e ∷ es ++ seen)) (stays-more start es seen) (stays-act (tables start (es ++ seen)) e.note.who e.act)

pub size-stays : (start : Tables) (seen : List Event) → (tables start seen).size ≡ start.size
size-stays start [] = refl
size-stays start (e ∷ es) = (stays-act (tables start es) e.note.who e.act).size ∙ size-stays start es
