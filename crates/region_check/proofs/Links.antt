-- What slots show are the flaws of the table.
use Rattle.std.proofs.Common.{◌≡◌, ℕ, suc, ◌+◌, ◌<◌, ◌≤◌, min, List, ◌∷◌, length, get_or, inl, inr, refl, sym, ap, ◌∙◌, subst, arith}
use Rattle.std.specs.Prelude.{◌↔◌}
use Rattle.std.specs.declared.option.Option.{Option}
use Rattle.std.proofs.lemmas.Bool.{cases_eq}
use Rattle.cas_model.specs.declared.digest.Digest.{Digest}
use Rattle.cas_model.specs.declared.place.Space.{Space}
use Rattle.cas_model.specs.declared.place.Space.TheVariants.{Objects, Actions}
use Rattle.cas_model.specs.Trie.{path, index_of}
use Rattle.region_core.specs.Leads.{NamesTableAt, NamesRecordAt, Leads, IsSlot, digest_there}
use Rattle.region_core.specs.Words.{width}
use Rattle.region_check.specs.declared.reach.Table.{Table}
use Rattle.region_check.specs.declared.slot_flaws.Row.{Row}
use Rattle.region_check.specs.declared.slot_flaws.Row.TheVariants as rows
use Rattle.region_check.specs.Flaws.{IsSlotOf, IsNoSlot, NamesOutside, BadSlot, BadRange, BadPath, BadValue, IsShared}
use Rattle.region_check.specs.Passes.{RowOf, HasNoneBefore}
use Rattle.region_check.specs.Reach.{slots_of, table_of, AreTables}
use Rattle.region_check.specs.Shown.{LeastWhere, LeadsTo, BothShown, Shown, TrieShown, AreTries}
use Rattle.region_core.proofs.Finding.{index_within, length-path}
use Rattle.region_core.proofs.Founding.{there_digest}
use Rattle.region_check.proofs.Reaching.{slots_are}
use Rattle.region_check.proofs.Rows.{least_same}
use Rattle.region_check.proofs.Unique.{one_slot, none_shared}

-- a slot at the level of its table
pub record AtLevel (words : List ℕ) (s : Space) (level slot : ℕ) : Type 0 where
  pub above : List ℕ
  pub index : ℕ
  pub is : IsSlot words s above index slot
  pub level_is : level ≡ min (length above) 64

module _ (words : List ℕ) (row : Row) (s : Space) (tables : List Table) (are : AreTables words s tables) where
  to_slot : (p : ℕ) → TrieShown words row s tables (length tables) p → (slot level : ℕ) × AtLevel words s level slot × Shown words row s level slot p
  to_slot p x =
      let table : Table = table_of tables x.0 in
      let led = are.only x.0 x.1 in
      let wide = slots_are words s led.above (table_of tables x.0) (table_of tables x.0).place led led.leads refl in (
        (table_of tables x.0).place + x.2.0,
        (table_of tables x.0).level,
        record { above = led.above; index = x.2.0; is = ((table_of tables x.0).place, led.leads, omega (arith, x.2.1, wide), refl); level_is = led.level },
        x.2.2,
      )

  from_slot : (slot p : ℕ) → IsSlotOf words s slot → ((level : ℕ) → AtLevel words s level slot → Shown words row s level slot p) → TrieShown words row s tables (length tables) p
  from_slot slot p y show =
      let l = are.all y.0 y.2.0 y.2.1 in
      let led = are.only l.0 l.1 in
      let wide = slots_are words s y.0 (table_of tables l.0) y.2.0 led y.2.1 l.2 in
      let inside : y.1 < slots_of (table_of tables l.0) = omega (arith, y.2.2, wide) in
      let own = slots_are words s led.above (table_of tables l.0) (table_of tables l.0).place led led.leads refl in
      let at : slot ≡ (table_of tables l.0).place + y.1 = y.2.3 ∙ ap (λ k. k + y.1) (sym l.2) in
      let level : AtLevel words s (table_of tables l.0).level ((table_of tables l.0).place + y.1) = record { above = led.above; index = y.1; is = ((table_of tables l.0).place, led.leads, omega (arith, inside, own), refl); level_is = led.level } in
      (l.0, l.1, (y.1, inside, subst (λ k. Shown words row s (table_of tables l.0).level k p) at (show (table_of tables l.0).level (subst (AtLevel words s (table_of tables l.0).level) (sym at) level))))

slot_of_level : (words : List ℕ) (s : Space) (level slot : ℕ) → AtLevel words s level slot → IsSlotOf words s slot
slot_of_level words s level slot x = (x.above, x.index, x.is)

module _ (words : List ℕ) (objects actions : List Table) (tries : AreTries words objects actions) where
  -- a slot of either trie
  in_trie : (row : Row) (s : Space) (slot p : ℕ) → IsSlotOf words s slot → ((level : ℕ) → AtLevel words s level slot → Shown words row s level slot p) → BothShown words row objects actions p
  in_trie row Objects slot p y show = inl (from_slot words row Objects objects tries.objects_are slot p y show)
  in_trie row Actions slot p y show = inr (from_slot words row Actions actions tries.actions_are slot p y show)

  of_tries : (row : Row) (p : ℕ) → BothShown words row objects actions p → (s : Space) × (slot level : ℕ) × AtLevel words s level slot × Shown words row s level slot p
  of_tries row p x = elim x [
    | inl a ↦ let z = to_slot words row Objects objects tries.objects_are p a in (Objects, z.0, z.1, z.2, z.3)
    | inr a ↦ let z = to_slot words row Actions actions tries.actions_are p a in (Actions, z.0, z.1, z.2, z.3)
  ]

  level_low : (level n : ℕ) → level ≡ min n 64 → level ≤ 63 → level ≡ n
  level_low level n is h = omega arith

  slot_row : (p : ℕ) → BothShown words rows.Slot objects actions p ↔ BadSlot words p
  slot_row p = (
    λ x. let z = of_tries rows.Slot p x in (z.0, subst (IsSlotOf words z.0) (sym z.4.0) (slot_of_level words z.0 z.2 z.1 z.3), subst (λ k. IsNoSlot (get_or words k 0)) (sym z.4.0) z.4.1),
    λ y. in_trie rows.Slot y.0 p p y.1 (λ level at. (refl, y.2)),
  )

  range_row : (p : ℕ) → BothShown words rows.Range objects actions p ↔ BadRange words p
  range_row p = (
    λ x.
        let z = of_tries rows.Range p x in
        elim z.4 [
          | inl a ↦ inl (z.0, subst (IsSlotOf words z.0) (sym a.0) (slot_of_level words z.0 z.2 z.1 z.3), subst (NamesOutside words) (sym a.0) a.1)
          | inr a ↦ inr (a.1.0, (z.3.above, z.3.index, z.1, subst (λ (s : Space). IsSlot words s z.3.above z.3.index z.1) a.0 z.3.is, a.1.1), a.1.2, a.1.3)
        ],
    λ y. elim y [
      | inl a ↦ in_trie rows.Range a.0 p p a.1 (λ level at. inl (refl, a.2))
      | inr a ↦ in_trie rows.Range Objects a.1.2 p (a.1.0, a.1.1, a.1.3) (λ level at. inr (refl, (a.0, a.1.4, a.2, a.3)))
    ],
  )

  value_row : (p : ℕ) → BothShown words rows.Value objects actions p ↔ BadValue words p
  value_row p = (
    λ x.
        let z = of_tries rows.Value p x in
        let a = z.4 in
        (a.1.0, (z.3.above, z.3.index, z.1, subst (λ (s : Space). IsSlot words s z.3.above z.3.index z.1) a.0 z.3.is, a.1.1), a.1.2, a.1.3, a.1.4),
    λ y. in_trie rows.Value Actions y.1.2 p (y.1.0, y.1.1, y.1.3) (λ level at. (refl, (y.0, y.1.4, y.2, y.3, y.4))),
  )

  -- ---- paths

  module _ (apart : (w : ℕ) → IsShared words w → ⊥) where
    -- a digest leads to a slot just where its path ends there
    leads_here : (s : Space) (above : List ℕ) (j slot : ℕ) (d : Digest) → IsSlot words s above j slot → length above ≤ 62 → path d.bytes (suc (length above)) ≡ j ∷ above → LeadsTo words s d slot
    leads_here s above j slot d x high is =
        let index_is : index_of d.bytes (length above) ≡ j = cc in
        let path_is : path d.bytes (length above) ≡ above = cc in
        (length above, high, x.0, subst (λ a. Leads words s a x.0) (sym path_is) x.1, x.3 ∙ ap (λ k. x.0 + k) (sym index_is))

    leads_path : (s : Space) (above : List ℕ) (j slot : ℕ) (d : Digest) → IsSlot words s above j slot → (y : LeadsTo words s d slot) → index_of d.bytes y.0 < width (path d.bytes y.0) → (length above ≡ y.0) × (path d.bytes (suc (length above)) ≡ j ∷ above)
    leads_path s above j slot d x y within =
        let z = one_slot words apart s s above (path d.bytes y.0) j (index_of d.bytes y.0) slot x (y.2, y.3, within, y.4) in
        let long : length above ≡ y.0 = ap length z.1 ∙ length-path d.bytes y.0 in
        (long, ap (λ n. path d.bytes (suc n)) long ∙ (λ i. sym z.2 i ∷ sym z.1 i))

  path_row : (apart : (w : ℕ) → IsShared words w → ⊥) (p : ℕ) → BothShown words rows.Path objects actions p ↔ BadPath words p
  path_row apart p = (
    λ x.
        let z = of_tries rows.Path p x in
        let at = z.3 in
        let is : IsSlot words z.0 at.above at.index p = subst (IsSlot words z.0 at.above at.index) (sym z.4.0) at.is in (
          z.0,
          at.above,
          at.index,
          is,
          elim z.4.1 [
            | inl deep ↦ inl (omega (arith, deep.0, at.level_is), subst (λ k. (t : ℕ) × NamesTableAt words k t) (sym z.4.0) deep.1)
            | inr lost ↦
                let long : z.2 ≡ length at.above = level_low z.2 (length at.above) at.level_is lost.0 in
                let named : NamesRecordAt words p lost.1.0 = subst (λ k. NamesRecordAt words k lost.1.0) (sym z.4.0) lost.1.1 in
                let astray : LeadsTo words z.0 (digest_there words lost.1.0) p → ⊥ = λ way. lost.1.2 (subst (LeadsTo words z.0 (digest_there words lost.1.0)) z.4.0 way) in
                inr (
                  lost.1.0,
                  named,
                  elim (cases_eq (length at.above) 63) [
                    | inl last ↦ inl last
                    | inr less ↦ let high : length at.above ≤ 62 = omega (arith, long, lost.0, less) in inr (high, λ same. astray (leads_here apart z.0 at.above at.index p (digest_there words lost.1.0) is high same))
                  ],
                )
          ],
        ),
    λ y. in_trie rows.Path y.0 p p (y.1, y.2, y.3) (λ level at.
        let one = one_slot words apart y.0 y.0 y.1 at.above y.2 at.index p y.3 at.is in
        let long : level ≡ min (length y.1) 64 = at.level_is ∙ ap (λ (a : List ℕ). min (length a) 64) (sym one.1) in (
          refl,
          elim y.4 [
            | inl deep ↦ inl (omega (arith, long, deep.0), deep.1)
            | inr lost ↦ inr (
              elim lost.2 [ inl last ↦ omega (arith, long, last) | inr other ↦ omega (arith, long, other.0) ],
              (
                lost.0,
                lost.1,
                λ way.
                    let digest = there_digest words lost.0 in
                    let z = leads_path apart y.0 y.1 y.2 p (digest_there words lost.0) y.3 way (index_within (digest_there words lost.0).bytes way.0 digest) in
                    elim lost.2 [ inl last ↦ omega (arith, last, z.0, way.1) | inr other ↦ other.1 z.1 ],
              ),
            )
          ],
        )),
  )

  -- ---- the least ones

  pub slot_least : (o : Option ℕ) → LeastWhere (BothShown words rows.Slot objects actions) o → LeastWhere (RowOf words 3) o
  slot_least o h = least_same (BothShown words rows.Slot objects actions) (RowOf words 3) o (λ p. (slot_row p).0) (λ p. (slot_row p).1) h

  pub range_least : (o : Option ℕ) → LeastWhere (BothShown words rows.Range objects actions) o → LeastWhere (RowOf words 4) o
  range_least o h = least_same (BothShown words rows.Range objects actions) (RowOf words 4) o (λ p. (range_row p).0) (λ p. (range_row p).1) h

  pub path_least : (o : Option ℕ) → LeastWhere (BothShown words rows.Path objects actions) o → HasNoneBefore words 7 → LeastWhere (RowOf words 7) o
  path_least o h none = least_same (BothShown words rows.Path objects actions) (RowOf words 7) o (λ p. (path_row (none_shared words none) p).0) (λ p. (path_row (none_shared words none) p).1) h

  pub value_least : (o : Option ℕ) → LeastWhere (TrieShown words rows.Value Actions actions (length actions)) o → LeastWhere (RowOf words 12) o
  value_least o h = least_same (TrieShown words rows.Value Actions actions (length actions)) (RowOf words 12) o (λ p x. (refl, (value_row p).0 (inr x))) (λ p y. from_value p y.1) h
    where
      from_value : (p : ℕ) → BadValue words p → TrieShown words rows.Value Actions actions (length actions) p
      from_value p y = from_slot words rows.Value Actions actions tries.actions_are y.1.2 p (y.1.0, y.1.1, y.1.3) (λ level at. (refl, (y.0, y.1.4, y.2, y.3, y.4)))
