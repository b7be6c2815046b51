-- What the first of a list does in the map of the list.
use Rattle.std.proofs.Common.{◌≡◌, ℕ, suc, ◌+◌, ◌<◌, ◌≤◌, List, [], ◌∷◌, ◌++◌, Bool, true, false, cond, None, Some, length, take, drop, get_or, refl, ap, sym, ◌∙◌, add-one, append_assoc, append-nil, w64}
use Rattle.std.proofs.lemmas.List.{take_more, drop_all}
use Rattle.std.specs.Int.{to_le_bytes}
use Rattle.std.proofs.Math.Seq.{drop-cons}
use Rattle.std.specs.FinMap as fin
use Rattle.cas_model.specs.Content.{bytes_of}
use Rattle.cas_model.specs.Contents.{objects_map, actions_map}
use Rattle.cas_model.specs.Object.{object_digest}
use Rattle.cas_model.specs.State.{digest_cmp}
use Rattle.cas_model.specs.Tables.{same_digest, digest_at, digests_at}
use Rattle.cas_model.specs.declared.contents.Pair.{Pair}
use Rattle.cas_model.specs.declared.digest.Digest.{Digest}
use Rattle.cas_model.specs.declared.object.Object.{Object}
use Rattle.cas_model.specs.declared.tables.Record.{Record}
use Rattle.cas_model.proofs.Maps.{get-put, same-is, same-self}

hit : {X : Type 0} (m : fin.FinMap digest_cmp X) (k q : Digest) (v : X) → same_digest k q ≡ true → fin.get (fin.insert m k v) q ≡ Some v
hit m k q v test =
    let e : q ≡ k = sym (same-is k q test) in
    get-put m k v q ∙ ap (λ b. cond b (Some v) (fin.get m q)) (ap (λ (d : Digest). same_digest d k) e ∙ same-self k)

miss : {X : Type 0} (m : fin.FinMap digest_cmp X) (k q : Digest) (v : X) → same_digest k q ≡ false → fin.get (fin.insert m k v) q ≡ fin.get m q
miss m k q v test = get-put m k v q ∙ step (same_digest q k) refl where
  step : (b : Bool) → same_digest q k ≡ b → cond b (Some v) (fin.get m q) ≡ fin.get m q
  step true other = absurd (cc (ap (λ (d : Digest). same_digest k d) (same-is q k other), same-self k, test))
  step false other = refl

next : {X : Type 0} (xs : List X) (i : ℕ) (x y : X) → i < length xs → x ≡ get_or xs i y → drop i xs ≡ x ∷ drop (i + 1) xs
next xs i x y lt is = drop-cons xs i y lt ∙ ap (λ z. z ∷ drop (suc i) xs) (sym is) ∙ ap (λ n. x ∷ drop n xs) (sym (add-one i))

pub object-hit : (os : List Object) (i : ℕ) (o : Object) (d q : Digest) → i < length os → o ≡ get_or os i o → d ≡ object_digest o → same_digest d q ≡ true → fin.get (objects_map (drop i os)) q ≡ Some o
object-hit os i o d q lt is named test =
    ap (λ (xs : List Object). fin.get (objects_map xs) q) (next os i o o lt is) ∙ hit (objects_map (drop (i + 1) os)) (object_digest o) q o (ap (λ (k : Digest). same_digest k q) (sym named) ∙ test)

pub object-miss : (os : List Object) (i : ℕ) (o : Object) (d q : Digest) → i < length os → o ≡ get_or os i o → d ≡ object_digest o → same_digest d q ≡ false
    → fin.get (objects_map (drop (i + 1) os)) q ≡ fin.get (objects_map (drop i os)) q
object-miss os i o d q lt is named test =
    sym (ap (λ (xs : List Object). fin.get (objects_map xs) q) (next os i o o lt is) ∙ miss (objects_map (drop (i + 1) os)) (object_digest o) q o (ap (λ (k : Digest). same_digest k q) (sym named) ∙ test))

pub value-hit : (ps : List Pair) (i : ℕ) (p q : Pair) (k : Digest) → i < length ps → p ≡ get_or ps i q → same_digest p.key k ≡ true → fin.get (actions_map (drop i ps)) k ≡ Some p.value
value-hit ps i p q k lt is test =
    ap (λ (xs : List Pair). fin.get (actions_map xs) k) (next ps i p q lt is) ∙ hit (actions_map (drop (i + 1) ps)) p.key k p.value test

pub value-miss : (ps : List Pair) (i : ℕ) (p q : Pair) (k : Digest) → i < length ps → p ≡ get_or ps i q → same_digest p.key k ≡ false
    → fin.get (actions_map (drop (i + 1) ps)) k ≡ fin.get (actions_map (drop i ps)) k
value-miss ps i p q k lt is test =
    sym (ap (λ (xs : List Pair). fin.get (actions_map xs) k) (next ps i p q lt is) ∙ miss (actions_map (drop (i + 1) ps)) p.key k p.value test)

pub no-object : (os : List Object) (i : ℕ) (q : Digest) → length os ≤ i → fin.get (objects_map (drop i os)) q ≡ None
no-object os i q le = ap (λ (xs : List Object). fin.get (objects_map xs) q) (drop_all i os le) ∙ fin.get-empty digest_cmp q

pub no-value : (ps : List Pair) (i : ℕ) (q : Digest) → length ps ≤ i → fin.get (actions_map (drop i ps)) q ≡ None
no-value ps i q le = ap (λ (xs : List Pair). fin.get (actions_map xs) q) (drop_all i ps le) ∙ fin.get-empty digest_cmp q

-- ---- one more place, and one more word

digests-both : (bound : List Record) (ns ms : List ℕ) → digests_at bound (ns ++ ms) ≡ digests_at bound ns ++ digests_at bound ms
digests-both bound [] ms = refl
digests-both bound (n ∷ ns) ms = ap (λ ds. digest_at bound n ∷ ds) (digests-both bound ns ms)

pub digests-more : (bound : List Record) (ns : List ℕ) (i d : ℕ) → i < length ns → digests_at bound (take (i + 1) ns) ≡ digests_at bound (take i ns) ++ digest_at bound (get_or ns i d) ∷ []
digests-more bound ns i d lt = ap (digests_at bound) (take_more ns i d lt) ∙ digests-both bound (take i ns) (get_or ns i d ∷ [])

bytes-both : (ws vs : List ℕ) → bytes_of (ws ++ vs) ≡ bytes_of ws ++ bytes_of vs
bytes-both [] vs = refl
bytes-both (w ∷ ws) vs = ap (λ bs. to_le_bytes w64 w ++ bs) (bytes-both ws vs) ∙ sym (append_assoc (to_le_bytes w64 w) (bytes_of ws) (bytes_of vs))

pub bytes-more : (ws : List ℕ) (i d : ℕ) → i < length ws → bytes_of (take (i + 1) ws) ≡ bytes_of (take i ws) ++ to_le_bytes w64 (get_or ws i d)
bytes-more ws i d lt = ap bytes_of (take_more ws i d lt) ∙ bytes-both (take i ws) (get_or ws i d ∷ []) ∙ ap (λ bs. bytes_of (take i ws) ++ bs) (append-nil (to_le_bytes w64 (get_or ws i d)))
