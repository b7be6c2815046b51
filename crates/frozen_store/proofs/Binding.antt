-- The tables of closed words bind just the records that the words have.
use Rattle.std.proofs.Common.{◌≡◌, ℕ, suc, List, ◌∷◌, Some, length, sym, ap, ◌∙◌, subst}
use Rattle.cas_model.specs.declared.digest.Digest.{Digest}
use Rattle.cas_model.specs.declared.place.Place.{Place}
use Rattle.cas_model.specs.declared.place.Space.{Space}
use Rattle.cas_model.specs.Tables.{place_of}
use Rattle.cas_model.specs.Trie.{path, index_of}
use Rattle.region_core.specs.Found.{heap_of, tables_in}
use Rattle.region_core.specs.Heap.{Record}
use Rattle.region_core.specs.Leads.{IsSlot, digest_there}
use Rattle.region_core.proofs.Labels.{digest_is, record_named, record_label}
use Rattle.frozen_store.specs.Bound.{HasRecordAt, BindsItsRecords, BindsOnPaths, BindsWithCells}
use Rattle.frozen_store.specs.Seen.{IsFrozen}
use Rattle.frozen_store.proofs.Facts.{certified, go, cell_is}

module _ (words : List ℕ) (objects actions : ℕ) (x : IsFrozen words objects actions) where
  has_record : (s : Space) (d : Digest) (p : Place) → place_of (tables_in words).bound s d ≡ Some p → HasRecordAt words s d p.at
  has_record s d p h =
      let laid = (certified words objects actions x).laid in
      let z = ((go words objects actions x).places s d p).0 h in
      (record_named (heap_of words) words laid p.at s d.bytes z.0 z.1, digest_is (heap_of words) words laid p.at s d.bytes z.0 z.1)

  is_bound : (s : Space) (d : Digest) (p : Place) → HasRecordAt words s d p.at → place_of (tables_in words).bound s d ≡ Some p
  is_bound s d p h =
      let laid = (certified words objects actions x).laid in
      let z = record_label (heap_of words) words laid p.at s h.0 in
      let own : z.0 ≡ d.bytes = ap (λ (q : Digest). q.bytes) (sym (digest_is (heap_of words) words laid p.at s z.0 z.1 z.2) ∙ h.1) in
      ((go words objects actions x).places s d p).1 (z.1, z.2 ∙ ap (λ bytes. Record s bytes z.1) own)

  pub binds_its_records : BindsItsRecords (record { words = words; tables = tables_in words })
  binds_its_records s d p = (has_record s d p, is_bound s d p)

  pub binds_on_paths : BindsOnPaths (record { words = words; tables = tables_in words })
  binds_on_paths s d p h =
      let r = has_record s d p h in
      let above : List ℕ = r.0.0 in
      let j : ℕ = r.0.1 in
      let slot : ℕ = r.0.2 in
      let way = r.0.3 in
      let leads : path (digest_there words p.at).bytes (suc (length above)) ≡ j ∷ above = x.stands.paths s above j slot p.at way r.0.4 in
      let own : path d.bytes (suc (length above)) ≡ j ∷ above = ap (λ (q : Digest). path q.bytes (suc (length above))) (sym r.1) ∙ leads in
      let index : index_of d.bytes (length above) ≡ j = cc in
      let rest : path d.bytes (length above) ≡ above = cc in
      (length above, slot, x.stands.levels s above way.0 way.1, subst (λ k. IsSlot words s (path d.bytes (length above)) k slot) (sym index) (subst (λ ks. IsSlot words s ks j slot) (sym rest) way), r.0.4)

  pub binds_with_cells : BindsWithCells (record { words = words; tables = tables_in words })
  binds_with_cells s d p h = cell_is words objects actions x s d p h
