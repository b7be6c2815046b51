-- The work that is left.
use Rattle.std.proofs.Common.{◌≡◌, ℕ, zero, suc, ◌+◌, ◌-◌, ◌*◌, ◌<◌, ◌≤◌, List, [], ◌∷◌, ◌++◌, ◌⊎◌, inl, inr, Some, refl, ap, sym, ◌∙◌, subst, arith, slice_get, length}
use Rattle.std.proofs.Math.Nat.{mul-le-mul_left}
use Rattle.std.specs.FinMap as fin
use Rattle.cas_model.specs.declared.digest.Digest.{Digest}
use Rattle.cas_model.specs.declared.object.Object.{Object}
use Rattle.cas_model.specs.declared.place.Space.TheVariants.{Objects}
use Rattle.cas_model.specs.Primary.{cell_under, primary}
use Rattle.cas_model.specs.State.{IsStorable}
use Rattle.cas_model.specs.Tables.{Tables}
use Rattle.cas_history.proofs.Sound.{IsSound}
use Rattle.fault_in.specs.declared.walking.Open.{Open}
use Rattle.fault_in.specs.Open.{HasAdded, IsOpening}
use Rattle.fault_in.proofs.Lower.{refs-lower}
use Rattle.fault_in.proofs.Opened.{AreLinked, get-within, linked-pop}

-- more than 65,536 objects may be opened below one
abbrev pub big : ℕ → ℕ
big zero = 1
big (suc n) = 65537 * big n

big-some : (n : ℕ) → 0 < big n
big-some zero = omega arith
big-some (suc n) = let e = big-some n in omega (arith, e)

less-cases : (m n : ℕ) → m < suc n → (m ≡ n) ⊎ (m < n)
less-cases zero zero lt = inl refl
less-cases zero (suc n) lt = inr (omega arith)
less-cases (suc m) zero lt = absurd (omega (arith, lt))
less-cases (suc m) (suc n) lt = elim (less-cases m n (omega (arith, lt))) [ inl e ↦ inl (ap suc e) | inr less ↦ inr (omega (arith, less)) ]

big-less : (m n : ℕ) → m < n → 65537 * big m ≤ big n
big-less m zero lt = absurd (omega (arith, lt))
big-less m (suc n) lt = step (big-less m n) (less-cases m n lt) where
  step : (m < n → 65537 * big m ≤ big n) → (m ≡ n) ⊎ (m < n) → 65537 * big m ≤ big (suc n)
  step again (inl e) = let same = ap big e in omega (arith, same)
  step again (inr less) = let below = again less in omega (arith, below)

-- how many references are not known to be filled, each as much as the object
abbrev pub weight : Tables → Open → ℕ
weight t f = big (cell_under t Objects f.digest) * (length f.object.refs - length f.places.items)

abbrev pub weights : Tables → List Open → ℕ
weights t [] = 0
weights t (f ∷ fs) = weight t f + weights t fs

abbrev pub work : Tables → List Open → Open → ℕ
work t waiting top = weight t top + big (cell_under t Objects top.digest) + weights t waiting

weights-more : (t : Tables) (fs : List Open) (f : Open) → weights t (fs ++ (f ∷ [])) ≡ weights t fs + weight t f
weights-more t [] f = omega arith
weights-more t (x ∷ fs) f = let e = weights-more t fs f in omega (arith, e)

one-less : (b r s : ℕ) → r ≡ s + 1 → b * r ≡ b * s + b
one-less b r s e = ap (λ n. b * n) e ∙ omega arith

length-more : (xs : List ℕ) (n : ℕ) → length (xs ++ (n ∷ [])) ≡ length xs + 1
length-more [] n = refl
length-more (x ∷ xs) n = ap suc (length-more xs n) ∙ omega arith

added-weight : (t : Tables) (f next : Open) (place : ℕ) (d : Digest) → slice_get f.object.refs (length f.places.items) ≡ Some d → HasAdded f next place
    → weight t f ≡ weight t next + big (cell_under t Objects next.digest)
added-weight t f next place d at added =
    let same : big (cell_under t Objects next.digest) ≡ big (cell_under t Objects f.digest) = ap (λ (x : Digest). big (cell_under t Objects x)) added.digest in
    let long : length next.places.items ≡ length f.places.items + 1 = ap length added.places ∙ length-more f.places.items place in
    let refs : length next.object.refs ≡ length f.object.refs = ap (λ (o : Object). length o.refs) added.object in
    let lt = get-within f.object.refs (length f.places.items) d at in
    let less : length f.object.refs - length f.places.items ≡ (length next.object.refs - length next.places.items) + 1 = omega (arith, long, refs, lt) in
    ap (λ b. b * (length f.object.refs - length f.places.items)) (sym same)
    ∙ one-less (big (cell_under t Objects next.digest)) (length f.object.refs - length f.places.items) (length next.object.refs - length next.places.items) less

pub less-found : (t : Tables) (waiting : List Open) (top next : Open) (place : ℕ) (d : Digest) → slice_get top.object.refs (length top.places.items) ≡ Some d → HasAdded top next place
    → work t waiting next < work t waiting top
less-found t waiting top next place d at added =
    let e = added-weight t top next place d at added in
    let same : big (cell_under t Objects next.digest) ≡ big (cell_under t Objects top.digest) = ap (λ (x : Digest). big (cell_under t Objects x)) added.digest in
    let some = big-some (cell_under t Objects top.digest) in
    omega (arith, e, same, some)

pub less-down : (t : Tables) (waiting later : List Open) (top next : Open) (child : Digest) → IsSound t → IsStorable (primary t) → fin.get (primary t).objects top.digest ≡ Some top.object
    → slice_get top.object.refs (length top.places.items) ≡ Some child → IsOpening (primary t) child next → later ≡ waiting ++ (top ∷ []) → work t later next < work t waiting top
less-down t waiting later top next child sound storable is at opening later-is =
    let c = cell_under t Objects next.digest in
    let lower : cell_under t Objects next.digest < cell_under t Objects top.digest =
    subst (λ (d : Digest). cell_under t Objects d < cell_under t Objects top.digest) (sym opening.digest_is) (refs-lower t top.digest child top.object (length top.places.items) sound is at) in
    let few = storable.few_refs child next.object opening.object_is in
    let left : length next.object.refs - length next.places.items ≤ 65535 = omega (arith, few) in
    let product : weight t next ≤ big (cell_under t Objects next.digest) * 65535 = mul-le-mul_left (big (cell_under t Objects next.digest)) left in
    let less = big-less (cell_under t Objects next.digest) (cell_under t Objects top.digest) lower in
    let some = big-some (cell_under t Objects next.digest) in
    let all : weights t later ≡ weights t waiting + weight t top = ap (weights t) later-is ∙ weights-more t waiting top in
    omega (arith, product, less, some, all)

pub less-up : (t : Tables) (waiting rest : List Open) (top parent next : Open) (place : ℕ) (root : Digest) → AreLinked root waiting top.digest → waiting ≡ rest ++ (parent ∷ []) → HasAdded parent next place
    → work t rest next < work t waiting top
less-up t waiting rest top parent next place root linked is added =
    let at = (linked-pop root rest parent top.digest (subst (λ (fs : List Open). AreLinked root fs top.digest) is linked)).1 in
    let e = added-weight t parent next place top.digest at added in
    let all : weights t waiting ≡ weights t rest + weight t parent = ap (weights t) is ∙ weights-more t rest parent in
    let some = big-some (cell_under t Objects top.digest) in
    omega (arith, e, all, some)

-- the work after all that was less before
pub less-then : (a b c : ℕ) → a < b → b ≤ c → a < c
less-then a b c ab bc = omega (arith, ab, bc)

pub less-still : (a b c : ℕ) → a < b → b ≤ c → a ≤ c
less-still a b c ab bc = omega (arith, ab, bc)

-- the list of waiting objects, with the one that was the newest
pub later-is : (later waiting : List Open) (parent top : Open) → later ≡ waiting ++ (parent ∷ []) → parent ≡ top → later ≡ waiting ++ (top ∷ [])
later-is later waiting parent top is same = is ∙ ap (λ (f : Open). waiting ++ (f ∷ [])) same
