-- Maps that answer as rows do, as the rows grow.
use Rattle.std.proofs.Common.{◌≡◌, ℕ, List, ◌∷◌, cond, ◌&&◌, ◌==◌, Some, ap, sym, ◌∙◌}
use Rattle.std.specs.declared.option.Option.{Option}
use Rattle.std.specs.BTreeMap as tree
use Rattle.std.specs.Ordering.{nat_cmp}
use Rattle.std.specs.Cmp.Lexicographic.{slice_cmp, texts_ties}
use Rattle.cas_model.specs.declared.digest.Digest.{Digest}
use Rattle.cas_model.specs.declared.place.Place.{Place}
use Rattle.cas_model.specs.declared.place.Space.{Space}
use Rattle.cas_model.specs.declared.place.Space.TheVariants.{Objects, Actions}
use Rattle.cas_model.specs.declared.tables.Record.{Record}
use Rattle.cas_model.specs.Tables.{is_for, same_space, same_digest}
use Rattle.cell_port.specs.declared.index.Index.{Index}
use Rattle.cell_port.specs.Index.{indexed_place, indexed_record, HasOneMore, HasAsMany, IndexesBound}
use Rattle.cell_port.proofs.IndexDigests.{digests-more}

-- ---- a place that is put in or taken out

-- the map of one space says w at the digest of a record
abbrev pub WithPlace : tree.BTreeMap (List ℕ) Place → tree.BTreeMap (List ℕ) Place → Record → Option Place → Type 0
WithPlace places more r w =
    (q : List ℕ) → tree.get (slice_cmp nat_cmp) more q ≡ cond (tree.is_at (slice_cmp nat_cmp r.digest.bytes) q) w (tree.get (slice_cmp nat_cmp) places q)

pub objects-put : (index : Index) (more : tree.BTreeMap (List ℕ) Place) (r : Record) (w : Option Place) → r.space ≡ Objects → WithPlace index.objects more r w
    → (space : Space) → (digest : Digest) → indexed_place (record { objects = more; actions = index.actions; records = index.records }) space digest ≡ cond (is_for space digest r) w (indexed_place index space digest)
objects-put index more r w is puts Objects digest =
    puts digest.bytes ∙ ap (λ b. cond b w (indexed_place index Objects digest)) (sym (texts_ties r.digest.bytes digest.bytes))
    ∙ sym (ap (λ s. cond (same_space s Objects && same_digest r.digest digest) w (indexed_place index Objects digest)) is)
objects-put index more r w is puts Actions digest = sym (ap (λ s. cond (same_space s Actions && same_digest r.digest digest) w (indexed_place index Actions digest)) is)

pub actions-put : (index : Index) (more : tree.BTreeMap (List ℕ) Place) (r : Record) (w : Option Place) → r.space ≡ Actions → WithPlace index.actions more r w
    → (space : Space) → (digest : Digest) → indexed_place (record { objects = index.objects; actions = more; records = index.records }) space digest ≡ cond (is_for space digest r) w (indexed_place index space digest)
actions-put index more r w is puts Actions digest =
    puts digest.bytes ∙ ap (λ b. cond b w (indexed_place index Actions digest)) (sym (texts_ties r.digest.bytes digest.bytes))
    ∙ sym (ap (λ s. cond (same_space s Actions && same_digest r.digest digest) w (indexed_place index Actions digest)) is)
actions-put index more r w is puts Objects digest = sym (ap (λ s. cond (same_space s Objects && same_digest r.digest digest) w (indexed_place index Objects digest)) is)

-- ---- rows more

-- a record is bound
pub bound-more : (index more : Index) (bound : List Record) (r : Record) → IndexesBound index bound
    → ((space : Space) → (digest : Digest) → indexed_place more space digest ≡ cond (is_for space digest r) (Some r.place) (indexed_place index space digest))
    → ((at : ℕ) → indexed_record more at ≡ cond (r.place.at == at) (Some r) (indexed_record index at)) → HasOneMore index more r → IndexesBound more (r ∷ bound)
bound-more index more bound r held places records digests = record {
  places = λ space digest. places space digest ∙ ap (cond (is_for space digest r) (Some r.place)) (held.places space digest);
  records = λ at. records at ∙ ap (cond (r.place.at == at) (Some r)) (held.records at);
  digests = digests-more index more bound r held.digests digests;
}

-- nothing is bound
pub bound-same : (index other : Index) (bound : List Record) → IndexesBound index bound
    → ((space : Space) → (digest : Digest) → indexed_place other space digest ≡ indexed_place index space digest)
    → ((at : ℕ) → indexed_record other at ≡ indexed_record index at) → HasAsMany index other → IndexesBound other bound
bound-same index other bound held places records digests = record {
  places = λ space digest. places space digest ∙ held.places space digest;
  records = λ at. records at ∙ held.records at;
  digests = λ space digest level. digests space digest level ∙ held.digests space digest level;
}
