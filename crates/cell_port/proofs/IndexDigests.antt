-- The digests that the maps have, as one is put in or taken out.
use Rattle.std.proofs.Common.{◌≡◌, ℕ, ◌+◌, List, ◌∷◌, Bool, true, false, cond, None, refl, ap, sym, ◌∙◌, subst, arith}
use Rattle.std.specs.Prelude.{IsSome}
use Rattle.std.specs.BTreeMap as tree
use Rattle.std.specs.Map.{remove_entry}
use Rattle.std.specs.Ordering.{nat_cmp}
use Rattle.std.specs.Cmp.Lexicographic.{slice_cmp}
use Rattle.cas_model.specs.declared.digest.Digest.{Digest}
use Rattle.cas_model.specs.declared.place.Place.{Place}
use Rattle.cas_model.specs.declared.place.Space.{Space}
use Rattle.cas_model.specs.declared.place.Space.TheVariants.{Objects, Actions}
use Rattle.cas_model.specs.declared.tables.Record.{Record}
use Rattle.cas_model.specs.Tables.{same_space}
use Rattle.cas_model.specs.Trie.{sharing}
use Rattle.cell_port.specs.declared.index.Index.{Index}
use Rattle.cell_port.specs.Depth.{shares, digests_of}
use Rattle.cell_port.specs.Index.{indexed_place, indexed_digests, HasOneMore, HasAsMany}
use Rattle.cell_port.specs.Needed.{bound_in}
use Rattle.cell_port.proofs.Depths.{one_if}
use Rattle.cell_port.proofs.KeyCounts.{Entry, count, count-is, count-inserted, count-removed, sharing-cons}

-- the digest of a record is in the map of one space, and the other map stays
objects-more : (index more : Index) (r : Record) → r.space ≡ Objects → more.actions ≡ index.actions
    → ((d : Digest) (l : ℕ) → count d more.objects.entries l ≡ one_if (shares r.digest d l) + count d index.objects.entries l) → HasOneMore index more r
objects-more index more r is other counts Objects d l =
    count-is d more.objects.entries l ∙ counts d l ∙ ap (λ n. one_if (shares r.digest d l) + n) (sym (count-is d index.objects.entries l))
    ∙ sym (sharing-cons r.digest d (indexed_digests index Objects) l)
    ∙ sym (ap (λ s. sharing (cond (same_space s Objects) (r.digest ∷ indexed_digests index Objects) (indexed_digests index Objects)) d l) is)
objects-more index more r is other counts Actions d l =
    ap (λ (m : tree.BTreeMap (List ℕ) Place). sharing (digests_of (tree.keys m)) d l) other
    ∙ sym (ap (λ s. sharing (cond (same_space s Actions) (r.digest ∷ indexed_digests index Actions) (indexed_digests index Actions)) d l) is)

actions-more : (index more : Index) (r : Record) → r.space ≡ Actions → more.objects ≡ index.objects
    → ((d : Digest) (l : ℕ) → count d more.actions.entries l ≡ one_if (shares r.digest d l) + count d index.actions.entries l) → HasOneMore index more r
actions-more index more r is other counts Actions d l =
    count-is d more.actions.entries l ∙ counts d l ∙ ap (λ n. one_if (shares r.digest d l) + n) (sym (count-is d index.actions.entries l))
    ∙ sym (sharing-cons r.digest d (indexed_digests index Actions) l)
    ∙ sym (ap (λ s. sharing (cond (same_space s Actions) (r.digest ∷ indexed_digests index Actions) (indexed_digests index Actions)) d l) is)
actions-more index more r is other counts Objects d l =
    ap (λ (m : tree.BTreeMap (List ℕ) Place). sharing (digests_of (tree.keys m)) d l) other
    ∙ sym (ap (λ s. sharing (cond (same_space s Objects) (r.digest ∷ indexed_digests index Objects) (indexed_digests index Objects)) d l) is)

-- a digest is put into the map of its space, or taken out of it
pub objects-gain : (index : Index) (more : tree.BTreeMap (List ℕ) Place) (r : Record) → r.space ≡ Objects → indexed_place index r.space r.digest ≡ None
    → more.entries ≡ tree.insert_entry (slice_cmp nat_cmp) index.objects.entries r.digest.bytes r.place
    → HasOneMore index (record { objects = more; actions = index.actions; records = index.records }) r
objects-gain index more r is none entries =
    objects-more index (record { objects = more; actions = index.actions; records = index.records }) r is refl
    (λ d l. ap (λ (es : List Entry). count d es l) entries ∙ count-inserted d l r.digest.bytes r.place index.objects.entries (sym (ap (λ s. indexed_place index s r.digest) is) ∙ none))

pub actions-gain : (index : Index) (more : tree.BTreeMap (List ℕ) Place) (r : Record) → r.space ≡ Actions → indexed_place index r.space r.digest ≡ None
    → more.entries ≡ tree.insert_entry (slice_cmp nat_cmp) index.actions.entries r.digest.bytes r.place
    → HasOneMore index (record { objects = index.objects; actions = more; records = index.records }) r
actions-gain index more r is none entries =
    actions-more index (record { objects = index.objects; actions = more; records = index.records }) r is refl
    (λ d l. ap (λ (es : List Entry). count d es l) entries ∙ count-inserted d l r.digest.bytes r.place index.actions.entries (sym (ap (λ s. indexed_place index s r.digest) is) ∙ none))

pub objects-loss : (index : Index) (less : tree.BTreeMap (List ℕ) Place) (r : Record) → r.space ≡ Objects → IsSome (indexed_place index r.space r.digest)
    → less.entries ≡ remove_entry (tree.is_at (slice_cmp nat_cmp r.digest.bytes)) index.objects.entries
    → HasOneMore (record { objects = less; actions = index.actions; records = index.records }) index r
objects-loss index less r is some entries =
    objects-more (record { objects = less; actions = index.actions; records = index.records }) index r is refl
    (λ d l. count-removed d l r.digest.bytes index.objects.entries (subst (λ s. IsSome (indexed_place index s r.digest)) is some) ∙ ap (λ (es : List Entry). one_if (shares r.digest d l) + count d es l) (sym entries))

pub actions-loss : (index : Index) (less : tree.BTreeMap (List ℕ) Place) (r : Record) → r.space ≡ Actions → IsSome (indexed_place index r.space r.digest)
    → less.entries ≡ remove_entry (tree.is_at (slice_cmp nat_cmp r.digest.bytes)) index.actions.entries
    → HasOneMore (record { objects = index.objects; actions = less; records = index.records }) index r
actions-loss index less r is some entries =
    actions-more (record { objects = index.objects; actions = less; records = index.records }) index r is refl
    (λ d l. count-removed d l r.digest.bytes index.actions.entries (subst (λ s. IsSome (indexed_place index s r.digest)) is some) ∙ ap (λ (es : List Entry). one_if (shares r.digest d l) + count d es l) (sym entries))

-- what was put in and taken out again
pub digests-undone : (index more other : Index) (records : tree.BTreeMap ℕ Record) (r : Record) → HasOneMore index more r
    → HasOneMore other (record { objects = more.objects; actions = more.actions; records = records }) r → HasAsMany index other
digests-undone index more other records r put taken space d l = step (same_space r.space space) (sym (taken space d l) ∙ apart space ∙ put space d l) where
  apart : (space : Space) → sharing (indexed_digests (record { objects = more.objects; actions = more.actions; records = records }) space) d l ≡ sharing (indexed_digests more space) d l
  apart Objects = refl
  apart Actions = refl

  step : (b : Bool) → sharing (cond b (r.digest ∷ indexed_digests other space) (indexed_digests other space)) d l ≡ sharing (cond b (r.digest ∷ indexed_digests index space) (indexed_digests index space)) d l
      → sharing (indexed_digests other space) d l ≡ sharing (indexed_digests index space) d l
  step true h = omega (arith, h, sharing-cons r.digest d (indexed_digests other space) l, sharing-cons r.digest d (indexed_digests index space) l)
  step false h = h

-- the rows have one more too
pub digests-more : (index more : Index) (bound : List Record) (r : Record)
    → ((space : Space) (d : Digest) (l : ℕ) → sharing (indexed_digests index space) d l ≡ sharing (bound_in space bound) d l) → HasOneMore index more r
    → (space : Space) (d : Digest) (l : ℕ) → sharing (indexed_digests more space) d l ≡ sharing (bound_in space (r ∷ bound)) d l
digests-more index more bound r held put space d l = put space d l ∙ step (same_space r.space space) where
  step : (b : Bool) → sharing (cond b (r.digest ∷ indexed_digests index space) (indexed_digests index space)) d l ≡ sharing (cond b (r.digest ∷ bound_in space bound) (bound_in space bound)) d l
  step true =
      sharing-cons r.digest d (indexed_digests index space) l ∙ ap (λ n. one_if (shares r.digest d l) + n) (held space d l)
      ∙ sym (sharing-cons r.digest d (bound_in space bound) l)
  step false = held space d l
