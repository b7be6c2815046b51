-- The claims of contents, whatever their order: where the words of tables are paid for, the claims of what the tables hold fit.
use Rattle.std.proofs.Common.{◌≡◌, ◌≢◌, ℕ, zero, suc, ◌+◌, ◌*◌, ◌/◌, ◌<◌, ◌≤◌, List, [], ◌∷◌, ◌++◌, length, Bool, true, false, cond, ◌==◌, Some, None, inl, inr, refl, sym, ap, ◌∙◌, subst, arith, append-nil, length-append, replicate, sum}
use Rattle.std.specs.declared.option.Option.{Option}
use Rattle.std.specs.Option.{option_map}
use Rattle.std.specs.FinMap as fin
use Rattle.std.proofs.lemmas.Bool.{eqb-true, ne_eqb}
use Rattle.std.proofs.lemmas.List.Sums.{sum_by-cons, sum_by-append}
use Rattle.std.proofs.lemmas.List.Folds.{sum_by-replicate}
use Rattle.cas_model.specs.declared.contents.Pair.{Pair}
use Rattle.cas_model.specs.declared.digest.Digest.{Digest}
use Rattle.cas_model.specs.declared.object.Object.{Object}
use Rattle.cas_model.specs.declared.place.Full.{Full}
use Rattle.cas_model.specs.declared.place.Place.{Place}
use Rattle.cas_model.specs.declared.place.Space.{Space}
use Rattle.cas_model.specs.declared.place.Space.TheVariants.{Objects, Actions}
use Rattle.cas_model.specs.declared.tables.Content.{Content}
use Rattle.cas_model.specs.declared.tables.Record.{Record}
use Rattle.cas_model.specs.Claims.{record_claims, object_claims, action_claims, contents_claims, IsFirstRefused, Fit, record_words, block_words}
use Rattle.cas_model.specs.Content.{IsContent, content_size, content_places, content_bytes, words_from}
use Rattle.cas_model.specs.Contents.{object_digests, pair_keys, objects_map, actions_map, contents_state, AreStorable, ArePuttable, AreLawfulContents}
use Rattle.cas_model.specs.Object.{object_digest}
use Rattle.cas_model.specs.Primary.{primary, cell_at, object_in, value_in, object_under, value_under}
use Rattle.cas_model.specs.Start.{IsTied, CellNames}
use Rattle.cas_model.specs.State.{State, Member, digest_cmp}
use Rattle.cas_model.specs.Tables.{Tables, place_of, record_at, words_at, cell_of, same_digest, object_of, digests_at}
use Rattle.cas_model.specs.Trie.{new_subtries, subtries}
use Rattle.cas_model.proofs.Maps.{get-put, get-object, get-value, same-is, same-self}
use Rattle.cas_model.proofs.Subtries.{Apart, fewer, subtries-moved}

-- claims that fit have no first that is refused
pub none-refused : (size start : ℕ) (claims : List ℕ) (full : Full) → Fit size start claims → IsFirstRefused size start claims full → ⊥
none-refused size start claims full fits first =
    let all : sum claims ≡ sum first.earlier + (full.asked + sum first.later) =
    ap sum first.is ∙ sum_by-append (λ n. n) first.earlier (full.asked ∷ first.later) ∙ ap (λ n. sum first.earlier + n) (sum_by-cons (λ n. n) full.asked first.later) in
    omega (arith, fits, all, first.at_is, first.past)

-- ---- the sum of the claims

-- the words of the contents of objects
abbrev pub content_total : List Object → ℕ
content_total [] = 0
content_total (o ∷ os) = content_size (length o.refs) (length o.data) + content_total os

sum-record : (known : List Digest) (d : Digest) → sum (record_claims known d) ≡ 5 + 16 * new_subtries known d 62
sum-record known d =
    sum_by-cons (λ n. n) 5 (replicate (new_subtries known d 62) 16) ∙ ap (λ n. 5 + n) (sum_by-replicate (λ n. n) (new_subtries known d 62) 16) ∙ turn (new_subtries known d 62)
  where
    turn : (k : ℕ) → 5 + k * 16 ≡ 5 + 16 * k
    turn k = omega arith

object-sum : (known : List Digest) (os : List Object) → sum (object_claims known os) + 16 * subtries known ≡ 5 * length os + content_total os + 16 * subtries (object_digests os ++ known)
object-sum known [] = omega arith
object-sum known (o ∷ os) =
    let d = object_digest o in
    let size = content_size (length o.refs) (length o.data) in
    let rest : List ℕ = object_claims (object_digest o ∷ known) os in
    together (sum (object_claims known (o ∷ os))) (sum (record_claims known (object_digest o))) (new_subtries known (object_digest o) 62) (content_size (length o.refs) (length o.data)) (sum (object_claims (object_digest o ∷ known) os)) (subtries known)
    (length os) (content_total os) (subtries (object_digests os ++ object_digest o ∷ known)) (subtries (object_digest o ∷ (object_digests os ++ known)))
    (sum_by-append (λ n. n) (record_claims known d) (size ∷ rest) ∙ ap (λ n. sum (record_claims known d) + n) (sum_by-cons (λ n. n) size rest))
    (sum-record known d) (object-sum (d ∷ known) os) (subtries-moved (object_digests os) known d)
  where
    together : (all record_ new size rest known long total before after : ℕ) → all ≡ record_ + (size + rest) → record_ ≡ 5 + 16 * new → rest + 16 * (new + known) ≡ 5 * long + total + 16 * before → before ≡ after
        → all + 16 * known ≡ 5 * suc long + (size + total) + 16 * after
    together all record_ new size rest known long total before after one two three four = omega (arith, one, two, three, four)

action-sum : (known : List Digest) (ps : List Pair) → sum (action_claims known ps) + 16 * subtries known ≡ 5 * length ps + 16 * subtries (pair_keys ps ++ known)
action-sum known [] = omega arith
action-sum known (p ∷ ps) =
    together (sum (action_claims known (p ∷ ps))) (sum (record_claims known p.key)) (new_subtries known p.key 62) (sum (action_claims (p.key ∷ known) ps)) (subtries known)
    (length ps) (subtries (pair_keys ps ++ p.key ∷ known)) (subtries (p.key ∷ (pair_keys ps ++ known)))
    (sum_by-append (λ n. n) (record_claims known p.key) (action_claims (p.key ∷ known) ps))
    (sum-record known p.key) (action-sum (p.key ∷ known) ps) (subtries-moved (pair_keys ps) known p.key)
  where
    together : (all record_ new rest known long before after : ℕ) → all ≡ record_ + rest → record_ ≡ 5 + 16 * new → rest + 16 * (new + known) ≡ 5 * long + 16 * before → before ≡ after
        → all + 16 * known ≡ 5 * suc long + 16 * after
    together all record_ new rest known long before after one two three four = omega (arith, one, two, three, four)

digests-long : (os : List Object) → length (object_digests os) ≡ length os
digests-long [] = refl
digests-long (o ∷ os) = ap suc (digests-long os)

keys-long : (ps : List Pair) → length (pair_keys ps) ≡ length ps
keys-long [] = refl
keys-long (p ∷ ps) = ap suc (keys-long ps)

-- the claims of contents are the words of their records and contents
pub contents-sum : (objects : List Object) (actions : List Pair) → sum (contents_claims objects actions) ≡ record_words (object_digests objects) + content_total objects + record_words (pair_keys actions)
contents-sum objects actions =
    together (sum (contents_claims objects actions)) (sum (object_claims [] objects)) (sum (action_claims [] actions)) (length objects) (content_total objects) (subtries (object_digests objects ++ [])) (subtries (object_digests objects))
    (length (object_digests objects)) (length actions) (subtries (pair_keys actions ++ [])) (subtries (pair_keys actions)) (length (pair_keys actions))
    (sum_by-append (λ n. n) (object_claims [] objects) (action_claims [] actions)) (object-sum [] objects) (action-sum [] actions)
    (ap subtries (append-nil (object_digests objects))) (ap subtries (append-nil (pair_keys actions))) (digests-long objects) (keys-long actions)
  where
    together : (all os ps long total before after digests more key_before key_after keys : ℕ) → all ≡ os + ps → os + 16 * 0 ≡ 5 * long + total + 16 * before → ps + 16 * 0 ≡ 5 * more + 16 * key_before
        → before ≡ after → key_before ≡ key_after → digests ≡ long → keys ≡ more → all ≡ 5 * digests + 16 * after + total + (5 * keys + 16 * key_after)
    together all os ps long total before after digests more key_before key_after keys a b c d e f g = omega (arith, a, b, c, d, e, f, g)

-- ---- each object has a content of its own

-- one of the contents is that of the object: it is as long, and its words tell the object's digest
record HasContent (name : List ℕ → Digest) (blocks : List Content) (o : Object) : Type 0 where
  place : ℕ
  words : List ℕ
  there : words_at blocks place ≡ Some words
  long : length words ≡ content_size (length o.refs) (length o.data)
  named : name words ≡ object_digest o

abbrev HaveContents : (List ℕ → Digest) → List Content → List Object → Type 0
HaveContents name blocks [] = Unit {0}
HaveContents name blocks (o ∷ os) = HasContent name blocks o × HaveContents name blocks os

-- without what is at a place
abbrev without : ℕ → List Content → List Content
without p [] = []
without p (c ∷ cs) = cond (c.place == p) (without p cs) (c ∷ without p cs)

without-less : (p : ℕ) (cs : List Content) → block_words (without p cs) ≤ block_words cs
without-less p [] = omega arith
without-less p (c ∷ cs) = step (c.place == p) (without-less p cs) where
  step : (b : Bool) → block_words (without p cs) ≤ block_words cs → block_words (cond b (without p cs) (c ∷ without p cs)) ≤ length c.words + block_words cs
  step true h = omega (arith, h)
  step false h = omega (arith, h)

without-there : (p : ℕ) (cs : List Content) (words : List ℕ) → words_at cs p ≡ Some words → block_words (without p cs) + length words ≤ block_words cs
without-there p [] words h = cc
without-there p (c ∷ cs) words h = step (c.place == p) h (λ again. without-there p cs words again) where
  step : (b : Bool) → cond b (Some c.words) (words_at cs p) ≡ Some words → (words_at cs p ≡ Some words → block_words (without p cs) + length words ≤ block_words cs)
      → block_words (cond b (without p cs) (c ∷ without p cs)) + length words ≤ length c.words + block_words cs
  step true is again = let same : c.words ≡ words = cc in omega (arith, ap length same, without-less p cs)
  step false is again = omega (arith, again is)

without-other : (p q : ℕ) (cs : List Content) → q ≢ p → words_at (without p cs) q ≡ words_at cs q
without-other p q [] other = refl
without-other p q (c ∷ cs) other = step (c.place == p) refl (without-other p q cs other) where
  step : (b : Bool) → (c.place == p) ≡ b → words_at (without p cs) q ≡ words_at cs q → words_at (cond b (without p cs) (c ∷ without p cs)) q ≡ cond (c.place == q) (Some c.words) (words_at cs q)
  step true test again = again ∙ sym (ap (λ b. cond b (Some c.words) (words_at cs q)) (ne_eqb c.place q (λ e. other (sym e ∙ eqb-true c.place p test))))
  step false test again = ap (cond (c.place == q) (Some c.words)) again

have-without : (name : List ℕ → Digest) (blocks : List Content) (d : Digest) (p : ℕ) (words : List ℕ) → words_at blocks p ≡ Some words → name words ≡ d → (os : List Object) → (Member d (object_digests os) → ⊥)
    → HaveContents name blocks os → HaveContents name (without p blocks) os
have-without name blocks d p words at named [] fresh have = tt
have-without name blocks d p words at named (o ∷ os) fresh have =
    let x = have.0 in (
      record {
        place = x.place;
        words = x.words;
        there = without-other p x.place blocks
            (λ e. let same : Some x.words ≡ Some words = sym x.there ∙ ap (words_at blocks) e ∙ at in
            let is : x.words ≡ words = cc in
            fresh (inl (sym x.named ∙ ap name is ∙ named))) ∙ x.there;
        long = x.long;
        named = x.named;
      },
      have-without name blocks d p words at named os (λ m. fresh (inr m)) have.1,
    )

contents-paid : (name : List ℕ → Digest) (blocks : List Content) (os : List Object) → Apart (object_digests os) → HaveContents name blocks os → content_total os ≤ block_words blocks
contents-paid name blocks [] apart have = omega arith
contents-paid name blocks (o ∷ os) apart have =
    let x = have.0 in
    let rest = contents-paid name (without x.place blocks) os apart.1 (have-without name blocks (object_digest o) x.place x.words x.there x.named os apart.0 have.1) in
    omega (arith, rest, without-there x.place blocks x.words x.there, x.long)

-- ---- lawful contents have no digest twice

storable-fresh : (d : Digest) (known : List Digest) (os : List Object) → Member d known → AreStorable known os → Member d (object_digests os) → ⊥
storable-fresh d known [] m s there = there
storable-fresh d known (o ∷ os) m s (inl is) = s.3 (subst (λ x. Member x known) (sym is) m)
storable-fresh d known (o ∷ os) m s (inr later) = storable-fresh d (object_digest o ∷ known) os (inr m) s.4 later

storable-apart : (known : List Digest) (os : List Object) → AreStorable known os → Apart (object_digests os)
storable-apart known [] s = tt
storable-apart known (o ∷ os) s = (storable-fresh (object_digest o) (object_digest o ∷ known) os (inl refl) s.4, storable-apart (object_digest o ∷ known) os s.4)

puttable-fresh : (ds : List Digest) (k : Digest) (known : List Digest) (ps : List Pair) → Member k known → ArePuttable ds known ps → Member k (pair_keys ps) → ⊥
puttable-fresh ds k known [] m s there = there
puttable-fresh ds k known (p ∷ ps) m s (inl is) = s.1 (subst (λ x. Member x known) (sym is) m)
puttable-fresh ds k known (p ∷ ps) m s (inr later) = puttable-fresh ds k (p.key ∷ known) ps (inr m) s.2 later

puttable-apart : (ds known : List Digest) (ps : List Pair) → ArePuttable ds known ps → Apart (pair_keys ps)
puttable-apart ds known [] s = tt
puttable-apart ds known (p ∷ ps) s = (puttable-fresh ds p.key (p.key ∷ known) ps (inl refl) s.2, puttable-apart ds (p.key ∷ known) ps s.2)

-- ---- what the maps of contents have

listed-object : (os : List Object) (q : Digest) (o : Object) → fin.get (objects_map os) q ≡ Some o → Member q (object_digests os)
listed-object [] q o is = absurd (cc (fin.get-empty {X = Object} digest_cmp q, is))
listed-object (x ∷ xs) q o is = step (same_digest q (object_digest x)) refl (λ h. listed-object xs q o h) where
  step : (b : Bool) → same_digest q (object_digest x) ≡ b → (fin.get (objects_map xs) q ≡ Some o → Member q (object_digests xs)) → Member q (object_digests (x ∷ xs))
  step true test again = inl (sym (same-is q (object_digest x) test))
  step false test again = inr (again (sym (get-put (objects_map xs) (object_digest x) x q ∙ ap (λ b. cond b (Some x) (fin.get (objects_map xs) q)) test) ∙ is))

object-listed : (os : List Object) (q : Digest) → Member q (object_digests os) → (o : Object) × (fin.get (objects_map os) q ≡ Some o)
object-listed [] q m = absurd m
object-listed (x ∷ xs) q m = step (same_digest q (object_digest x)) refl m (λ h. object-listed xs q h) where
  step : (b : Bool) → same_digest q (object_digest x) ≡ b → Member q (object_digests (x ∷ xs)) → (Member q (object_digests xs) → (o : Object) × (fin.get (objects_map xs) q ≡ Some o))
      → (o : Object) × (fin.get (objects_map (x ∷ xs)) q ≡ Some o)
  step true test m again = (x, get-put (objects_map xs) (object_digest x) x q ∙ ap (λ b. cond b (Some x) (fin.get (objects_map xs) q)) test)
  step false test (inl is) again = absurd (let hit : same_digest q (object_digest x) ≡ true = ap (same_digest q) is ∙ same-self q in cc)
  step false test (inr m) again = let y = again m in (y.0, get-put (objects_map xs) (object_digest x) x q ∙ ap (λ b. cond b (Some x) (fin.get (objects_map xs) q)) test ∙ y.1)

key-listed : (ps : List Pair) (q : Digest) → Member q (pair_keys ps) → (v : Digest) × (fin.get (actions_map ps) q ≡ Some v)
key-listed [] q m = absurd m
key-listed (p ∷ ps) q m = step (same_digest q p.key) refl m (λ h. key-listed ps q h) where
  step : (b : Bool) → same_digest q p.key ≡ b → Member q (pair_keys (p ∷ ps)) → (Member q (pair_keys ps) → (v : Digest) × (fin.get (actions_map ps) q ≡ Some v))
      → (v : Digest) × (fin.get (actions_map (p ∷ ps)) q ≡ Some v)
  step true test m again = (p.value, get-put (actions_map ps) p.key p.value q ∙ ap (λ b. cond b (Some p.value) (fin.get (actions_map ps) q)) test)
  step false test (inl is) again = absurd (let hit : same_digest q p.key ≡ true = ap (same_digest q) is ∙ same-self q in cc)
  step false test (inr m) again = let y = again m in (y.0, get-put (actions_map ps) p.key p.value q ∙ ap (λ b. cond b (Some p.value) (fin.get (actions_map ps) q)) test ∙ y.1)

-- ---- what tables name is in their rows

length-words_from : (n : ℕ) (bytes : List ℕ) → length (words_from n bytes) ≡ n
length-words_from zero bytes = refl
length-words_from (suc n) bytes = ap suc (length-words_from n _)

content-long : (words : List ℕ) → IsContent words → length words ≡ content_size (length (content_places words)) (length (content_bytes words))
content-long words content =
    ap length content.is ∙ ap suc (length-append (content_places words) (words_from ((length (content_bytes words) + 7) / 8) (content_bytes words)))
    ∙ ap (λ n. suc (length (content_places words) + n)) (length-words_from ((length (content_bytes words) + 7) / 8) (content_bytes words)) ∙ next (length (content_places words)) ((length (content_bytes words) + 7) / 8)
  where
    next : (a b : ℕ) → suc (a + b) ≡ 1 + a + b
    next a b = omega arith

length-digests_at : (bound : List Record) (ns : List ℕ) → length (digests_at bound ns) ≡ length ns
length-digests_at bound [] = refl
length-digests_at bound (n ∷ ns) = ap suc (length-digests_at bound ns)

-- each filled cell names what it may
abbrev pub AllName : Tables → Type 0
AllName s = (n : ℕ) (r : Record) → record_at s.bound n ≡ Some r → 0 < cell_of s.filled n → CellNames s r.space r.digest (cell_of s.filled n)

module _ (s : Tables) (tied : IsTied s.bound) (names : AllName s) where
  name : List ℕ → Digest
  name words = object_digest (object_of s.bound words)

  -- a value is found at a bound digest alone
  bound-place : {X : Type 0} (space : Space) (q : Digest) (read : ℕ → Option X) (x : X) → read 0 ≡ None → read (cell_at s.filled (place_of s.bound space q)) ≡ Some x
      → (p : Place) × (place_of s.bound space q ≡ Some p) × (read (cell_of s.filled p.at) ≡ Some x) × (0 < cell_of s.filled p.at)
  bound-place {X} space q read x none is = step (place_of s.bound space q) refl is where
    some : (n : ℕ) → read n ≡ Some x → 0 < n
    some zero h = absurd (cc (none, h))
    some (suc n) h = omega arith

    step : (o : Option Place) → place_of s.bound space q ≡ o → read (cell_at s.filled o) ≡ Some x
        → (p : Place) × (place_of s.bound space q ≡ Some p) × (read (cell_of s.filled p.at) ≡ Some x) × (0 < cell_of s.filled p.at)
    step None at h = absurd (cc (none, h))
    step (Some p) at h = (p, at, h, some (cell_of s.filled p.at) h)

  content-of : (o : Object) (value : ℕ) → object_in s value ≡ Some o → (words : List ℕ) × (words_at s.blocks value ≡ Some words) × (object_of s.bound words ≡ o)
  content-of o zero is = cc
  content-of o (suc n) is = step (words_at s.blocks (suc n)) refl is where
    step : (w : Option (List ℕ)) → words_at s.blocks (suc n) ≡ w → option_map (object_of s.bound) w ≡ Some o → (words : List ℕ) × (words_at s.blocks (suc n) ≡ Some words) × (object_of s.bound words ≡ o)
    step None at h = cc
    step (Some words) at h = (words, at, cc)

  has-content : (o : Object) → object_under s (object_digest o) ≡ Some o → HasContent (λ words. object_digest (object_of s.bound words)) s.blocks o
  has-content o is =
      let b = bound-place Objects (object_digest o) (object_in s) o refl is in
      let at = tied.to Objects (object_digest o) b.0 b.1 in
      let x = content-of o (cell_of s.filled b.0.at) b.2 in
      let content = named at.0.digest (cell_of s.filled b.0.at) at.0.space at.2 (names b.0.at at.0 at.1 b.3) x.0 x.1 in
      record {
        place = cell_of s.filled b.0.at;
        words = x.0;
        there = x.1;
        long = content-long x.0 content ∙ (λ i. content_size (sym (length-digests_at s.bound (content_places x.0)) i) (length (content_bytes x.0))) ∙ ap (λ (y : Object). content_size (length y.refs) (length y.data)) x.2;
        named = ap object_digest x.2;
      }
    where
      named : (d : Digest) (value : ℕ) (space : Space) → space ≡ Objects → CellNames s space d value → (words : List ℕ) → words_at s.blocks value ≡ Some words → IsContent words
      named d value Actions e there words at = cc
      named d value Objects e there words at = let same : there.0 ≡ words = cc (there.1, at) in subst IsContent same there.2.content

  have-contents : (os : List Object) → Apart (object_digests os) → ((q : Digest) (o : Object) → fin.get (objects_map os) q ≡ Some o → object_under s q ≡ Some o) → HaveContents (λ words. object_digest (object_of s.bound words)) s.blocks os
  have-contents [] apart under = tt
  have-contents (o ∷ os) apart under = (
    has-content o (under (object_digest o) o (get-put (objects_map os) (object_digest o) o (object_digest o) ∙ ap (λ b. cond b (Some o) (fin.get (objects_map os) (object_digest o))) (same-self (object_digest o)))),
    have-contents os apart.1 (λ q x is. under q x (later q x is (same_digest q (object_digest o)) refl)),
  ) where
    later : (q : Digest) (x : Object) → fin.get (objects_map os) q ≡ Some x → (b : Bool) → same_digest q (object_digest o) ≡ b → fin.get (objects_map (o ∷ os)) q ≡ Some x
    later q x is true test = absurd (apart.0 (subst (λ d. Member d (object_digests os)) (same-is q (object_digest o) test) (listed-object os q x is)))
    later q x is false test = get-put (objects_map os) (object_digest o) o q ∙ ap (λ b. cond b (Some o) (fin.get (objects_map os) q)) test ∙ is

  -- the claims of what the tables hold ask for no more than the words of their records, subtries and contents
  pub contents-fit : (objects : List Object) (actions : List Pair) (known keys : List Digest) (size : ℕ) → AreLawfulContents objects actions → contents_state objects actions ≡ primary s
      → ((d : Digest) (p : Place) → place_of s.bound Objects d ≡ Some p → Member d known) → ((d : Digest) (p : Place) → place_of s.bound Actions d ≡ Some p → Member d keys)
      → 520 + (record_words known + record_words keys + block_words s.blocks) ≤ size → Fit size 520 (contents_claims objects actions)
  contents-fit objects actions known keys size lawful state in_known in_keys paid =
      let under : (q : Digest) (o : Object) → fin.get (objects_map objects) q ≡ Some o → object_under s q ≡ Some o = λ q o is. sym (get-object s q) ∙ ap (λ (x : State). fin.get x.objects q) (sym state) ∙ is in
      let value : (q v : Digest) → fin.get (actions_map actions) q ≡ Some v → value_under s q ≡ Some v = λ q v is. sym (get-value s q) ∙ ap (λ (x : State). fin.get x.cache q) (sym state) ∙ is in
      let apart = storable-apart [] objects lawful.storable in
      let few = fewer (object_digests objects) known apart (λ d m.
      let x = object-listed objects d m in
      let b = bound-place Objects d (object_in s) x.0 refl (under d x.0 x.1) in
      in_known d b.0 b.1) in
      let few_keys = fewer (pair_keys actions) keys (puttable-apart (object_digests objects) [] actions lawful.puttable) (λ d m.
      let x = key-listed actions d m in
      let b = bound-place Actions d (value_in s) x.0 refl (value d x.0 x.1) in
      in_keys d b.0 b.1) in
      let total = contents-paid (λ words. object_digest (object_of s.bound words)) s.blocks objects apart (have-contents objects apart under) in
      omega (arith, contents-sum objects actions, few.0, few.1, few_keys.0, few_keys.1, total, paid)
