-- Open objects that were not brought in before: none of them is a row of what was.
use Rattle.std.proofs.Common.{◌≡◌, ◌≢◌, ◌≤◌, List, [], ◌∷◌, ◌++◌, false, ap, arith, length}
use Rattle.cas_model.specs.declared.digest.Digest.{Digest}
use Rattle.cas_model.specs.declared.object.Object.{Object}
use Rattle.cas_model.specs.declared.place.Space.TheVariants.{Objects}
use Rattle.cas_model.specs.Primary.{cell_under, primary}
use Rattle.cas_model.specs.State.{State, has}
use Rattle.cas_model.specs.Tables.{Tables}
use Rattle.cas_history.specs.Cost.{Lacks, Row}
use Rattle.cas_history.proofs.Sound.{IsSound}
use Rattle.fault_in.specs.declared.walking.Open.{Open}
use Rattle.fault_in.proofs.Opened.{AreLinked, AreOpened}
use Rattle.fault_in.proofs.Lower.{refs-lower}

abbrev pub row_of : Digest → Object → Row
row_of digest o = record { digest = digest; object = o }

-- the state lacks the digest, and no row has it
pub record IsFresh (s : State) (rows : List Row) (digest : Digest) : Type 0 where
  pub absent : has s digest ≡ false
  pub lacks : Lacks digest rows

abbrev pub AreFresh : State → List Row → List Open → Type 0
AreFresh s rows [] = Unit {0}
AreFresh s rows (f ∷ fs) = IsFresh s rows f.digest × AreFresh s rows fs

pub fresh-push : (s : State) (rows : List Row) (fs : List Open) (f : Open) → AreFresh s rows fs → IsFresh s rows f.digest → AreFresh s rows (fs ++ (f ∷ []))
fresh-push s rows [] f h one = (one, tt)
fresh-push s rows (x ∷ fs) f h one = (h.0, fresh-push s rows fs f h.1 one)

pub fresh-pop : (s : State) (rows : List Row) (fs : List Open) (f : Open) → AreFresh s rows (fs ++ (f ∷ [])) → AreFresh s rows fs × IsFresh s rows f.digest
fresh-pop s rows [] f h = (tt, h.0)
fresh-pop s rows (x ∷ fs) f h = let rest = fresh-pop s rows fs f h.1 in ((h.0, rest.0), rest.1)

-- what waits for an object lies above it
linked-lower : (s t : Tables) (r root : Digest) (fs : List Open) (d : Digest) → IsSound t → AreOpened s (primary t) r fs → AreLinked root fs d → cell_under t Objects d ≤ cell_under t Objects root
linked-lower s t r root [] d sound opened linked = let e = ap (λ (x : Digest). cell_under t Objects x) linked in omega (arith, e)
linked-lower s t r root (f ∷ fs) d sound opened linked =
    let below = linked-lower s t r linked.1 fs d sound opened.1 linked.3 in
    let less = refs-lower t f.digest linked.1 f.object (length f.places.items) sound opened.0.below.is linked.2 in
    let e = ap (λ (x : Digest). cell_under t Objects x) linked.0 in
    omega (arith, below, less, e)

-- the object that was opened last is brought in
pub fresh-more : (s t : Tables) (first : State) (r root : Digest) (rows : List Row) (fs : List Open) (d : Digest) (o : Object) → IsSound t → AreOpened s (primary t) r fs → AreLinked root fs d
    → AreFresh first rows fs → AreFresh first (row_of d o ∷ rows) fs
fresh-more s t first r root rows [] d o sound opened linked h = tt
fresh-more s t first r root rows (f ∷ fs) d o sound opened linked h =
    let below = linked-lower s t r linked.1 fs d sound opened.1 linked.3 in
    let less = refs-lower t f.digest linked.1 f.object (length f.places.items) sound opened.0.below.is linked.2 in
    let other : d ≢ f.digest = λ same. let e = ap (λ (x : Digest). cell_under t Objects x) same in omega (arith, below, less, e) in
    (record { absent = h.0.absent; lacks = (other, h.0.lacks) }, fresh-more s t first r linked.1 rows fs d o sound opened.1 linked.3 h.1)
