-- Contents are stored one after the other.
use Rattle.std.proofs.Common.{◌≡◌, ℕ, ◌+◌, ◌*◌, ◌<◌, ◌≤◌, ◌++◌, List, [], ◌∷◌, None, length, get_or, drop, reverse, sum, refl, ap, sym, ◌∙◌, subst, arith, append-nil, append_assoc, add-one}
use mathlib.Core.Logic.Iff as Iff
use Rattle.std.proofs.Math.Seq.{drop-cons, drop-length}
use Rattle.cas_model.specs.declared.contents.Pair.{Pair}
use Rattle.cas_model.specs.declared.digest.Digest.{Digest}
use Rattle.cas_model.specs.declared.object.Object.{Object}
use Rattle.cas_model.specs.declared.place.Space.TheVariants.{Objects, Actions}
use Rattle.cas_model.specs.Content.{content_size, content_words}
use Rattle.cas_model.specs.Contents.{contents_state, object_digests, pair_keys, AreStorable, ArePuttable, AreLawfulContents}
use Rattle.cas_model.specs.Object.{object_digest}
use Rattle.cas_model.specs.State.{Member, AreBytes}
use Rattle.cas_model.specs.Tables.{Tables, place_of}
use Rattle.cas_history.proofs.Ended.{empty-start}
use Rattle.cas_port.specs.declared.block.PortError.{PortError}
use Rattle.cas_model.specs.Claims.{record_claims, object_claims, action_claims, contents_claims}
use Rattle.cell_port.specs.Claims.{Refuses}
use Rattle.cell_port.specs.Needed.{bound_in, needed}
use Rattle.cell_port.specs.Parts.{places_of, with_object, with_action, IsBuilt, StoresObjects, PutsPairs, OpensAt, BindsExactly}
use Rattle.cell_port.specs.Tables.{PlainRows, as_start, empty_rows}
use Rattle.cell_port.proofs.ClaimLists.{sum-append, sum-cons, sum-claims, refuses-first, refuses-then}
use Rattle.cell_port.proofs.ContentWords.{length-content, length-places}
use Rattle.cell_port.proofs.PartsAction.{action-built}
use Rattle.cell_port.proofs.PartsBuilt.{none-in, bound-are}
use Rattle.cell_port.proofs.PartsLists.{reverse-cons, objects-reverse, actions-reverse, digests-reverse, pair-keys-reverse, puttable-there}
use Rattle.cell_port.proofs.PartsObject.{object-built}

-- ---- the objects

built-none : (size : ℕ) → 4096 ≤ size → size ≤ 67108864 → IsBuilt size 0 [] [] (empty_rows size)
built-none size least most = record {
  start = refl;
  counter_is = omega arith;
  lawful = empty-start size least most;
  known = refl;
  keys = refl;
  state = refl;
  order = refl;
  rows = tt;
  paid = omega arith;
}

pub stores-none : (size : ℕ) (objects : List Object) (actions : List Pair) → 4096 ≤ size → size ≤ 67108864 → AreLawfulContents objects actions → StoresObjects size objects 0 (empty_rows size)
stores-none size objects actions least most lawful = record {
  done = [];
  claims = [];
  built = built-none size least most;
  left = lawful.storable;
  split = sym (append-nil (reverse objects));
  claimed = refl;
}

-- what the next object has
pub record IsNext (r : PlainRows) (o : Object) : Type 0 where
  pub few_refs : length o.refs ≤ 65535
  pub short : length o.data ≤ 16777215
  pub unbound : place_of r.bound Objects (object_digest o) ≡ None

module _ (size : ℕ) (objects : List Object) (i : ℕ) (r : PlainRows) (stores : StoresObjects size objects i r) (o : Object) (lt : i < length objects) (is : o ≡ get_or objects i o) where
  next : drop i objects ≡ o ∷ drop (i + 1) objects
  next = drop-cons objects i o lt ∙ (λ j. sym is j ∷ drop (sym (add-one i) j) objects)

  left : AreStorable (object_digests stores.done) (o ∷ drop (i + 1) objects)
  left = subst (λ (os : List Object). AreStorable (object_digests stores.done) os) next stores.left

  pub is-next : IsNext r o
  is-next = record {
    few_refs = left.0;
    short = left.1;
    unbound = none-in r.bound Objects (object_digest o) (subst (λ (ds : List Digest). Member (object_digest o) ds → ⊥) (sym stores.built.known) left.3);
  }

  -- the claims of this object, and those of the others
  abbrev mine : List ℕ
  mine = record_claims (bound_in Objects r.bound) (object_digest o) ++ content_size (length o.refs) (length o.data) ∷ []

  abbrev rest : List ℕ
  rest = object_claims (object_digest o ∷ object_digests stores.done) (drop (i + 1) objects)

  claims-are : object_claims [] objects ≡ stores.claims ++ (mine ++ rest)
  claims-are =
      stores.claimed
      ∙ ap (λ (os : List Object). stores.claims ++ object_claims (object_digests stores.done) os) next
      ∙ ap (λ (ds : List Digest). stores.claims ++ (record_claims ds (object_digest o) ++ content_size (length o.refs) (length o.data) ∷ rest)) (sym stores.built.known)
      ∙ ap (λ (ns : List ℕ). stores.claims ++ ns) (sym (append_assoc (record_claims (bound_in Objects r.bound) (object_digest o)) (content_size (length o.refs) (length o.data) ∷ []) rest))

  sum-mine : sum mine ≡ (5 + 16 * needed r.bound Objects (object_digest o)) + length (content_words (places_of r.bound o.refs) o.data)
  sum-mine =
      let both = sum-append (record_claims (bound_in Objects r.bound) (object_digest o)) (content_size (length o.refs) (length o.data) ∷ []) in
      let one = sum-cons (content_size (length o.refs) (length o.data)) [] in
      let first = sum-claims r.bound Objects (object_digest o) in
      let long : length (content_words (places_of r.bound o.refs) o.data) ≡ content_size (length o.refs) (length o.data) =
      length-content (places_of r.bound o.refs) o.data ∙ ap (λ n. content_size n (length o.data)) (length-places r.bound o.refs) in
      let none : sum [] ≡ 0 = refl in
      omega (arith, both, one, first, long, none)

  -- the object is stored
  pub stores-more : (new : PlainRows) → new ≡ with_object r o → AreBytes o.data → new.counter ≤ r.start.size → StoresObjects size objects (i + 1) new
  stores-more new rows bytes fits = subst (λ (x : PlainRows). StoresObjects size objects (i + 1) x) (sym rows) (record {
    done = o ∷ stores.done;
    claims = stores.claims ++ mine;
    built = subst (λ n. IsBuilt size n (o ∷ stores.done) [] (with_object r o)) (let both = sum-append stores.claims mine in let own = sum-mine in omega arith)
        (object-built r size (sum stores.claims) stores.done stores.built o left.0 left.1 bytes left.2 left.3 (subst (λ (x : PlainRows). x.counter ≤ r.start.size) rows fits));
    left = left.4;
    split = stores.split ∙ ap (λ (os : List Object). reverse os ++ stores.done) next ∙ ap (λ (os : List Object). os ++ stores.done) (reverse-cons o (drop (i + 1) objects))
        ∙ append_assoc (reverse (drop (i + 1) objects)) (o ∷ []) stores.done;
    claimed = claims-are ∙ sym (append_assoc stores.claims mine rest);
  })

  -- a claim of the object is refused
  pub object-refuses : (actions : List Pair) (e : PortError) → Refuses r.start.size r.counter mine e → Refuses size 520 (contents_claims objects actions) e
  object-refuses actions e h =
      let start : r.start.size ≡ size = ap (λ (t : Tables). t.size) stores.built.start in
      let here : Refuses size r.counter mine e = subst (λ n. Refuses n r.counter mine e) start h in
      let all : Refuses size 520 (stores.claims ++ (mine ++ rest)) e =
      refuses-then size 520 r.counter stores.claims (mine ++ rest) e stores.built.counter_is (refuses-first size r.counter mine rest e here) in
      subst (λ (ns : List ℕ). Refuses size 520 (ns ++ action_claims [] actions) e) (sym claims-are) (refuses-first size 520 (stores.claims ++ (mine ++ rest)) (action_claims [] actions) e all)

-- ---- the actions

pub puts-none : (size : ℕ) (objects : List Object) (actions : List Pair) (n : ℕ) (r : PlainRows) → AreLawfulContents objects actions → n ≡ length objects → StoresObjects size objects n r
    → PutsPairs size objects actions 0 r
puts-none size objects actions n r lawful is stores =
    let none : drop n objects ≡ [] = ap (λ m. drop m objects) is ∙ drop-length objects in
    let done : reverse objects ≡ stores.done = stores.split ∙ ap (λ (os : List Object). reverse os ++ stores.done) none in
    let claims : object_claims [] objects ≡ stores.claims =
    stores.claimed ∙ ap (λ (os : List Object). stores.claims ++ object_claims (object_digests stores.done) os) none ∙ append-nil stores.claims in
    let total : sum stores.claims ≡ sum (object_claims [] objects) + sum [] = let e = ap sum claims in let zero_ : sum [] ≡ 0 = refl in omega (arith, e, zero_) in
    record {
      done = [];
      claims = [];
      built = subst (λ (os : List Object). IsBuilt size (sum (object_claims [] objects) + sum []) os [] r) (sym done) (subst (λ m. IsBuilt size m stores.done [] r) total stores.built);
      left = puttable-there (object_digests objects) (object_digests (reverse objects)) [] actions (λ d. (digests-reverse objects d).1) lawful.puttable;
      split = sym (append-nil (reverse actions));
      claimed = refl;
    }

module _ (size : ℕ) (objects : List Object) (actions : List Pair) (i : ℕ) (r : PlainRows) (puts : PutsPairs size objects actions i r) (p : Pair) (lt : i < length actions) (is : p ≡ get_or actions i p) where
  next-pair : drop i actions ≡ p ∷ drop (i + 1) actions
  next-pair = drop-cons actions i p lt ∙ (λ j. sym is j ∷ drop (sym (add-one i) j) actions)

  left-pairs : ArePuttable (object_digests (reverse objects)) (pair_keys puts.done) (p ∷ drop (i + 1) actions)
  left-pairs = subst (λ (ps : List Pair). ArePuttable (object_digests (reverse objects)) (pair_keys puts.done) ps) next-pair puts.left

  pub key-unbound : place_of r.bound Actions p.key ≡ None
  key-unbound = none-in r.bound Actions p.key (subst (λ (ds : List Digest). Member p.key ds → ⊥) (sym puts.built.keys) left-pairs.1)

  abbrev own_claims : List ℕ
  own_claims = record_claims (bound_in Actions r.bound) p.key

  abbrev others : List ℕ
  others = action_claims (p.key ∷ pair_keys puts.done) (drop (i + 1) actions)

  pair-claims : action_claims [] actions ≡ puts.claims ++ (own_claims ++ others)
  pair-claims =
      puts.claimed
      ∙ ap (λ (ps : List Pair). puts.claims ++ action_claims (pair_keys puts.done) ps) next-pair
      ∙ ap (λ (ds : List Digest). puts.claims ++ (record_claims ds p.key ++ others)) (sym puts.built.keys)

  pub puts-more : (new : PlainRows) → new ≡ with_action r p → new.counter ≤ r.start.size → PutsPairs size objects actions (i + 1) new
  puts-more new rows fits = subst (λ (x : PlainRows). PutsPairs size objects actions (i + 1) x) (sym rows) (record {
    done = p ∷ puts.done;
    claims = puts.claims ++ own_claims;
    built = subst (λ n. IsBuilt size n (reverse objects) (p ∷ puts.done) (with_action r p))
        (let both = sum-append puts.claims own_claims in let own = sum-claims r.bound Actions p.key in omega arith)
        (action-built r size (sum (object_claims [] objects) + sum puts.claims) (reverse objects) puts.done puts.built p left-pairs.0 left-pairs.1 (subst (λ (x : PlainRows). x.counter ≤ r.start.size) rows fits));
    left = left-pairs.2;
    split = puts.split ∙ ap (λ (ps : List Pair). reverse ps ++ puts.done) next-pair ∙ ap (λ (ps : List Pair). ps ++ puts.done) (reverse-cons p (drop (i + 1) actions))
        ∙ append_assoc (reverse (drop (i + 1) actions)) (p ∷ []) puts.done;
    claimed = pair-claims ∙ sym (append_assoc puts.claims own_claims others);
  })

  pub action-refuses : (e : PortError) → Refuses r.start.size r.counter own_claims e → Refuses size 520 (contents_claims objects actions) e
  action-refuses e h =
      let start : r.start.size ≡ size = ap (λ (t : Tables). t.size) puts.built.start in
      let here : Refuses size r.counter own_claims e = subst (λ n. Refuses n r.counter own_claims e) start h in
      let at : r.counter ≡ 520 + sum (object_claims [] objects ++ puts.claims) = let both = sum-append (object_claims [] objects) puts.claims in omega (arith, both, puts.built.counter_is) in
      let all : Refuses size 520 ((object_claims [] objects ++ puts.claims) ++ (own_claims ++ others)) e =
      refuses-then size 520 r.counter (object_claims [] objects ++ puts.claims) (own_claims ++ others) e at (refuses-first size r.counter own_claims others e here) in
      subst (λ (ns : List ℕ). Refuses size 520 ns e) (append_assoc (object_claims [] objects) puts.claims (own_claims ++ others) ∙ ap (λ (ns : List ℕ). object_claims [] objects ++ ns) (sym pair-claims)) all

-- ---- the end

-- every pair is put
all-put : (size : ℕ) (objects : List Object) (actions : List Pair) (r : PlainRows) (puts : PutsPairs size objects actions (length actions) r) → reverse actions ≡ puts.done
all-put size objects actions r puts = puts.split ∙ ap (λ (ps : List Pair). reverse ps ++ puts.done) (drop-length actions)

pub opens-at : (size : ℕ) (objects : List Object) (actions : List Pair) (r : PlainRows) → AreLawfulContents objects actions → PutsPairs size objects actions (length actions) r
    → OpensAt objects actions size (as_start r)
opens-at size objects actions r lawful puts =
    let none : drop (length actions) actions ≡ [] = drop-length actions in
    let done = all-put size objects actions r puts in
    let claims : action_claims [] actions ≡ puts.claims =
    puts.claimed ∙ ap (λ (ps : List Pair). puts.claims ++ action_claims (pair_keys puts.done) ps) none ∙ append-nil puts.claims in
    let both = sum-append (object_claims [] objects) (action_claims [] actions) in
    let same : sum (action_claims [] actions) ≡ sum puts.claims = ap sum claims in
    let one = objects-reverse [] objects lawful.storable in
    let two = actions-reverse (object_digests objects) [] actions lawful.puttable in
    record {
      lawful = puts.built.lawful;
      size_is = ap (λ (t : Tables). t.size) puts.built.start;
      counter_is = omega (arith, both, same, puts.built.counter_is);
      state = puts.built.state ∙ ap (λ (ps : List Pair). contents_state (reverse objects) ps) (sym done) ∙ (λ j. record { objects = one j; cache = two j });
      order = puts.built.order;
    }

-- and no other digests are bound
pub binds-exactly : (size : ℕ) (objects : List Object) (actions : List Pair) (r : PlainRows) → PutsPairs size objects actions (length actions) r → BindsExactly objects actions (as_start r)
binds-exactly size objects actions r puts =
    let keys = puts.built.keys ∙ ap pair_keys (sym (all-put size objects actions r puts)) in
    record {
      objects_are = λ d. Iff.trans (bound-are r.bound Objects (object_digests (reverse objects)) puts.built.known d) (digests-reverse objects d);
      keys_are = λ d. Iff.trans (bound-are r.bound Actions (pair_keys (reverse actions)) keys d) (pair-keys-reverse actions d);
    }
