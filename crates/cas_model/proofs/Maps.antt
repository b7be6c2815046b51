-- Maps under digests: what they answer, and what stands over what.
use Rattle.std.proofs.Common.{◌≡◌, ℕ, List, [], ◌∷◌, ◌++◌, Bool, true, false, cond, ◌||◌, ◌&&◌, None, Some, refl, ap, sym, ◌∙◌}
use Rattle.std.specs.declared.option.Option.{Option}
use Rattle.std.specs.Option.{option_or}
use Rattle.std.specs.FinMap as fin
use Rattle.std.specs.Ordering.{eq_by_cmp}
use Rattle.std.specs.Cmp.Lexicographic.{bytes_decides, texts_ties, on_texts}
use Rattle.std.specs.Cmp.{IsTotalOrder}
use Rattle.cas_model.specs.declared.digest.Digest.{Digest}
use Rattle.cas_model.specs.State.{State, digest_cmp}
use Rattle.cas_model.specs.Tables.{Tables, place_of, is_for, same_space, same_digest}
use Rattle.cas_model.specs.declared.tables.Record.{Record}
use Rattle.cas_model.specs.Primary.{put, collected, digests, primary, object_under, value_under, object_in, value_in, cell_at}
use Rattle.cas_model.specs.declared.place.Space.{Space}
use Rattle.cas_model.specs.declared.place.Space.TheVariants.{Objects, Actions}

pub digest_total : IsTotalOrder digest_cmp
digest_total = on_texts (λ (d : Digest). d.bytes)

pub digest_apart : fin.IsAntisymmetric digest_cmp
digest_apart a b e = ap (λ (bs : List ℕ). record { bytes = bs }) (fin.slice_cmp-IsAntisymmetric fin.nat_cmp-IsAntisymmetric a.bytes b.bytes e)

pub same-is : (a b : Digest) → same_digest a b ≡ true → a ≡ b
same-is a b h = ap (λ (bs : List ℕ). record { bytes = bs }) ((bytes_decides a.bytes b.bytes).0 h)

pub same-self : (a : Digest) → same_digest a a ≡ true
same-self a = (bytes_decides a.bytes a.bytes).1 refl

-- what a map has at a digest, after another value was put in
pub get-put : {X : Type 0} (m : fin.FinMap digest_cmp X) (k : Digest) (v : X) (q : Digest) → fin.get (fin.insert m k v) q ≡ cond (same_digest q k) (Some v) (fin.get m q)
get-put m k v q = fin.get-insert digest_total m k v q ∙ ap (λ b. cond b (Some v) (fin.get m q)) (sym (texts_ties q.bytes k.bytes))

pub same-maps : {X : Type 0} (m n : fin.FinMap digest_cmp X) → ((q : Digest) → fin.get m q ≡ fin.get n q) → m ≡ n
same-maps m n h = fin.same_map digest_total digest_apart m n h

-- what is there is not put in again
pub put-there : {X : Type 0} (m : fin.FinMap digest_cmp X) (k : Digest) (v : X) → fin.get m k ≡ Some v → fin.insert m k v ≡ m
put-there {X} m k v there = same-maps _ _ (λ q. get-put m k v q ∙ step q (same_digest q k) refl) where
  step : (q : Digest) (b : Bool) → same_digest q k ≡ b → cond b (Some v) (fin.get m q) ≡ fin.get m q
  step q true test = sym (ap (fin.get m) (same-is q k test) ∙ there)
  step q false test = refl

find-both : {X : Type 0} (q : Digest) (es fs : List (Digest × X)) → fin.find digest_cmp q (es ++ fs) ≡ option_or (fin.find digest_cmp q es) (fin.find digest_cmp q fs)
find-both q [] fs = refl
find-both {X} q (e ∷ es) fs = step (find-both q es fs) (eq_by_cmp digest_cmp q e.0) where
  step : fin.find digest_cmp q (es ++ fs) ≡ option_or (fin.find digest_cmp q es) (fin.find digest_cmp q fs)
      → (b : Bool) → cond b (Some e.1) (fin.find digest_cmp q (es ++ fs)) ≡ option_or (cond b (Some e.1) (fin.find digest_cmp q es)) (fin.find digest_cmp q fs)
  step again true = refl
  step again false = again

-- what both maps together have
pub get-both : {X : Type 0} (m n : fin.FinMap digest_cmp X) (q : Digest) → fin.get (fin.from_entries {R = digest_cmp} (fin.entries m ++ fin.entries n)) q ≡ option_or (fin.get m q) (fin.get n q)
get-both {X} m n q = fin.get-from_entries digest_total (fin.entries m ++ fin.entries n) q ∙ find-both q (fin.entries m) (fin.entries n)
    ∙ ap (λ (o : Option X). option_or o (fin.find digest_cmp q (fin.entries n))) (sym (fin.get-entries m q)) ∙ ap (option_or (fin.get m q)) (sym (fin.get-entries n q))

-- what is put into the first of both maps is put into both
pub put-both : {X : Type 0} (m n : fin.FinMap digest_cmp X) (k : Digest) (v : X)
    → fin.from_entries {R = digest_cmp} (fin.entries (fin.insert m k v) ++ fin.entries n) ≡ fin.insert (fin.from_entries {R = digest_cmp} (fin.entries m ++ fin.entries n)) k v
put-both {X} m n k v = same-maps _ _ (λ q. get-both (fin.insert m k v) n q ∙ ap (λ (o : Option X). option_or o (fin.get n q)) (get-put m k v q) ∙ step q (same_digest q k)
    ∙ sym (get-put (fin.from_entries {R = digest_cmp} (fin.entries m ++ fin.entries n)) k v q ∙ ap (cond (same_digest q k) (Some v)) (get-both m n q))) where
      step : (q : Digest) (b : Bool) → option_or (cond b (Some v) (fin.get m q)) (fin.get n q) ≡ cond b (Some v) (option_or (fin.get m q) (fin.get n q))
      step q true = refl
      step q false = refl

-- ---- the primary state

member : Digest → List Digest → Bool
member q [] = false
member q (d ∷ ds) = same_digest q d || member q ds

get-collected : {X : Type 0} (under : Digest → Option X) (ds : List Digest) (q : Digest) → fin.get (collected under ds) q ≡ cond (member q ds) (under q) None
unfolding member
get-collected under [] q = fin.get-empty digest_cmp q
get-collected {X} under (d ∷ ds) q = step (get-collected under ds q) (under d) refl (same_digest q d) refl where
  below : (b : Bool) → b ≡ true → under q ≡ None → cond (member q ds) (under q) None ≡ cond (b || member q ds) (under q) None
  below true is none = all-none (member q ds) none where
    all-none : (c : Bool) → under q ≡ None → cond c (under q) None ≡ under q
    all-none true none = refl
    all-none false none = sym none
  below false is none = cc

  step : fin.get (collected under ds) q ≡ cond (member q ds) (under q) None → (o : Option X) → under d ≡ o → (b : Bool) → same_digest q d ≡ b → fin.get (put d o (collected under ds)) q ≡ cond (b || member q ds) (under q) None
  step again None is true test = again ∙ below true refl (ap under (same-is q d test) ∙ is)
  step again None is false test = again
  step again (Some x) is true test = get-put (collected under ds) d x q ∙ ap (λ c. cond c (Some x) (fin.get (collected under ds) q)) test ∙ sym (ap under (same-is q d test) ∙ is)
  step again (Some x) is false test = get-put (collected under ds) d x q ∙ ap (λ c. cond c (Some x) (fin.get (collected under ds) q)) test ∙ again

or-both : (a b : Bool) → (a || b) ≡ false → (a ≡ false) × (b ≡ false)
or-both true b h = cc
or-both false b h = (refl, h)

and-other : (a b : Bool) → b ≡ false → (a && b) ≡ false
and-other true b h = h
and-other false b h = refl

flip-false : (a b : Digest) → same_digest a b ≡ false → same_digest b a ≡ false
flip-false a b h = step (same_digest b a) refl where
  step : (c : Bool) → same_digest b a ≡ c → c ≡ false
  step true test = absurd (cc (ap (same_digest a) (same-is b a test), same-self a, h))
  step false test = refl

-- a digest that no row has is not bound
none-bound : (rs : List Record) (space : Space) (q : Digest) → member q (digests rs) ≡ false → place_of rs space q ≡ None
unfolding member
none-bound [] space q h = refl
none-bound (r ∷ rs) space q h =
    let both = or-both (same_digest q r.digest) (member q (digests rs)) h in
    let other : is_for space q r ≡ false = and-other (same_space r.space space) (same_digest r.digest q) (flip-false q r.digest both.0) in
    ap (λ b. cond b (Some r.place) (place_of rs space q)) other ∙ none-bound rs space q both.1

where-none : {X : Type 0} (b : Bool) (x : Option X) → (b ≡ false → x ≡ None) → cond b x None ≡ x
where-none true x h = refl
where-none false x h = sym (h refl)

-- the primary state has just the objects of the filled records
pub get-object : (s : Tables) (d : Digest) → fin.get (primary s).objects d ≡ object_under s d
get-object s d = get-collected (object_under s) (digests s.bound) d
    ∙ where-none (member d (digests s.bound)) (object_under s d) (λ h. ap (λ p. object_in s (cell_at s.filled p)) (none-bound s.bound Objects d h))

-- and just the values of the filled keys
pub get-value : (s : Tables) (k : Digest) → fin.get (primary s).cache k ≡ value_under s k
get-value s k = get-collected (value_under s) (digests s.bound) k
    ∙ where-none (member k (digests s.bound)) (value_under s k) (λ h. ap (λ p. value_in s (cell_at s.filled p)) (none-bound s.bound Actions k h))

-- states that answer alike are equal
pub same-states : (a b : State) → ((d : Digest) → fin.get a.objects d ≡ fin.get b.objects d) → ((k : Digest) → fin.get a.cache k ≡ fin.get b.cache k) → a ≡ b
same-states a b objects cache =
    let one = same-maps a.objects b.objects objects in
    let two = same-maps a.cache b.cache cache in
    λ i. record { objects = one i; cache = two i }
