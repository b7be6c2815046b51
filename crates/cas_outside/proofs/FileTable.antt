-- Files in memory: what the entries of a tree answer, as a finite map.
use Rattle.std.proofs.Common.{◌≡◌, ℕ, ◌+◌, List, [], ◌∷◌, map, Bool, true, false, cond, Some, None, refl, ap, sym, ◌∙◌, zero-add, option_map, is_some, count_by, nat_eq}
use Rattle.std.specs.declared.option.Option.{Option}
use Rattle.std.specs.declared.cmp.Ordering.{Ordering}
use Rattle.std.specs.declared.cmp.Ordering.TheVariants.{Less, Equal, Greater}
use Rattle.std.specs.declared.vec.Vec.{Vec}
use Rattle.std.specs.declared.alloc.Global.{Global}
use Rattle.std.specs.Ordering.{nat_cmp, eq_by_cmp, is_eq, match_ordering}
use Rattle.std.specs.Cmp.Lexicographic.{slice_cmp, pointwise, nat_list_cmp_total, bytes_decides, texts_ties}
use Rattle.std.specs.List.{AllByRecursion, IsDistinct}
use Rattle.std.specs.Map.{lookup, remove_entry, keys_of}
use Rattle.std.specs.BTreeMap as tree
use Rattle.std.specs.FinMap as fin
use Rattle.std.specs.FinMap.Entries.{by_order, put, find-put}
use Rattle.std.specs.Cmp.{eq_by_cmp_equiv}
use Rattle.std.proofs.lemmas.List.Sums.{sum_by-cons}
use Rattle.std.proofs.lemmas.Map.Keys.{IsDistinct-head, IsDistinct-tail}
use Rattle.cas_outside.specs.Folder.{Files, ListsNames}
use Rattle.cas_outside.specs.FileTable.{file_of, files_of}

abbrev Entry : Type 0
Entry = Vec ℕ Global × Vec ℕ Global

abbrev order : List ℕ → List ℕ → Ordering
order = slice_cmp nat_cmp

-- the order of the tree's keys
abbrev pub key_order : Vec ℕ Global → Vec ℕ Global → Ordering
key_order x y = slice_cmp nat_cmp x.items y.items

-- whether a key is this name
abbrev pub at : List ℕ → Vec ℕ Global → Bool
at name key = is_eq (slice_cmp nat_cmp name key.items)

apart : fin.IsAntisymmetric order
apart = fin.slice_cmp-IsAntisymmetric fin.nat_cmp-IsAntisymmetric

same-name : (a b : List ℕ) → is_eq (order a b) ≡ true → a ≡ b
same-name a b h = (bytes_decides a b).0 (texts_ties a b ∙ h)

same-files : (m n : Files) → ((q : List ℕ) → fin.get m q ≡ fin.get n q) → m ≡ n
same-files m n h = fin.same_map nat_list_cmp_total apart m n h

-- ---- what is there

find-files : (name : List ℕ) (es : List Entry) → fin.find order name (map file_of es) ≡ option_map (λ v. v.items) (lookup (at name) es)
find-files name [] = refl
find-files name (e ∷ es) =
    elim (at name e.0) as (λ b. cond b (Some e.1.items) (fin.find order name (map file_of es)) ≡ option_map (λ v. v.items) (cond b (Some e.1) (lookup (at name) es))) [ true ↦ refl | false ↦ find-files name es ]

pub get-files : (es : List Entry) (name : List ℕ) → fin.get (files_of es) name ≡ option_map (λ v. v.items) (lookup (at name) es)
get-files es name = fin.get-from_entries nat_list_cmp_total (map file_of es) name ∙ find-files name es

-- ---- a file that is put in

put-files : (es : List Entry) (k v : Vec ℕ Global) → map file_of (tree.insert_entry key_order es k v) ≡ put order k.items v.items (map file_of es)
put-files [] k v = refl
put-files (e ∷ es) k v =
    elim (order k.items e.0.items) as (λ o. map file_of (match_ordering o ((k, v) ∷ e ∷ es) ((e.0, v) ∷ es) (e ∷ tree.insert_entry key_order es k v)) ≡ by_order o (file_of (k, v) ∷ map file_of (e ∷ es)) ((e.0.items, v.items) ∷ map file_of es) (file_of e ∷ put order k.items v.items (map file_of es))) [
      | Less ↦ refl
      | Equal ↦ refl
      | Greater ↦ ap (λ t. file_of e ∷ t) (put-files es k v)
    ]

pub insert-files : (es : List Entry) (k v : Vec ℕ Global) → files_of (tree.insert_entry key_order es k v) ≡ fin.insert (files_of es) k.items v.items
insert-files es k v = same-files _ _ (λ q. fin.get-from_entries nat_list_cmp_total _ q ∙ ap (fin.find order q) (put-files es k v)
    ∙ find-put order nat_list_cmp_total q k.items v.items (map file_of es)
    ∙ sym (fin.get-insert nat_list_cmp_total (files_of es) k.items v.items q ∙ ap (cond (eq_by_cmp order q k.items) (Some v.items)) (fin.get-from_entries nat_list_cmp_total (map file_of es) q)))

-- ---- a file that is removed

find-removed : (q name : List ℕ) → is_eq (order q name) ≡ false → (es : List Entry) → fin.find order q (map file_of (remove_entry (at name) es)) ≡ fin.find order q (map file_of es)
find-removed q name other [] = refl
find-removed q name other (e ∷ es) = step (at name e.0) refl (find-removed q name other es) where
  step : (b : Bool) → at name e.0 ≡ b → fin.find order q (map file_of (remove_entry (at name) es)) ≡ fin.find order q (map file_of es)
      → fin.find order q (map file_of (cond b es (e ∷ remove_entry (at name) es))) ≡ fin.find order q (map file_of (e ∷ es))
  step true is again = sym (ap (λ c. cond c (Some e.1.items) (fin.find order q (map file_of es))) (ap (λ n. is_eq (order q n)) (sym (same-name name e.0.items is)) ∙ other))
  step false is again = ap (cond (is_eq (order q e.0.items)) (Some e.1.items)) again

pub remove-files : (es : List Entry) (name : List ℕ) → lookup (at name) (remove_entry (at name) es) ≡ None → files_of (remove_entry (at name) es) ≡ fin.remove (files_of es) name
remove-files es name gone = same-files _ _ (λ q. fin.get-from_entries nat_list_cmp_total _ q ∙ step q (is_eq (order q name)) refl
    ∙ sym (fin.get-remove nat_list_cmp_total (files_of es) name q ∙ ap (cond (eq_by_cmp order q name) None) (fin.get-from_entries nat_list_cmp_total (map file_of es) q))) where
      step : (q : List ℕ) (b : Bool) → is_eq (order q name) ≡ b → fin.find order q (map file_of (remove_entry (at name) es)) ≡ cond b None (fin.find order q (map file_of es))
      step q true is = ap (λ n. fin.find order n (map file_of (remove_entry (at name) es))) (same-name q name is) ∙ find-files name _ ∙ ap (option_map (λ v. v.items)) gone
      step q false is = find-removed q name is es

-- ---- the names

-- the keys as names
abbrev pub names_of : List (Vec ℕ Global) → List (List ℕ)
names_of ks = map (λ k. k.items) ks

ties : (a b : List ℕ) → pointwise nat_eq a b ≡ is_eq (order b a)
ties a b = texts_ties a b ∙ (eq_by_cmp_equiv nat_list_cmp_total).symm a b

none-counted : (k : Vec ℕ Global) (ks : List (Vec ℕ Global)) → AllByRecursion (λ y. eq_by_cmp key_order k y ≡ false) ks → count_by (λ n. pointwise nat_eq n k.items) (names_of ks) ≡ 0
none-counted k [] others = refl
none-counted k (x ∷ xs) others = sum_by-cons (λ n. cond (pointwise nat_eq n k.items) 1 0) x.items (names_of xs)
    ∙ ap (λ b. cond b 1 0 + count_by (λ n. pointwise nat_eq n k.items) (names_of xs)) (ties x.items k.items ∙ others.0)
    ∙ ap (λ n. 0 + n) (none-counted k xs others.1)

counted : (name : List ℕ) (es : List Entry) → IsDistinct (eq_by_cmp key_order) (keys_of es)
    → count_by (λ n. pointwise nat_eq n name) (names_of (keys_of es)) ≡ cond (is_some (fin.find order name (map file_of es))) 1 0
counted name [] distinct = refl
counted name (e ∷ es) distinct = sum_by-cons (λ n. cond (pointwise nat_eq n name) 1 0) e.0.items (names_of (keys_of es))
    ∙ ap (λ b. cond b 1 0 + others) (ties e.0.items name) ∙ step (at name e.0) refl (counted name es (IsDistinct-tail _ e.0 (keys_of es) distinct)) where
      others : ℕ
      others = count_by (λ n. pointwise nat_eq n name) (names_of (keys_of es))

      rest : Option (List ℕ)
      rest = fin.find order name (map file_of es)

      step : (b : Bool) → at name e.0 ≡ b → others ≡ cond (is_some rest) 1 0 → cond (at name e.0) 1 0 + others ≡ cond (is_some (cond (at name e.0) (Some e.1.items) rest)) 1 0
      step true is again = ap (λ c. cond c 1 0 + others) is
          ∙ ap (λ n. 1 + n) (ap (λ n. count_by (λ m. pointwise nat_eq m n) (names_of (keys_of es))) (same-name name e.0.items is)
          ∙ none-counted e.0 (keys_of es) (IsDistinct-head _ e.0 (keys_of es) distinct))
          ∙ sym (ap (λ c. cond (is_some (cond c (Some e.1.items) rest)) 1 0) is)
      step false is again = ap (λ c. cond c 1 0 + others) is ∙ zero-add others ∙ again
          ∙ sym (ap (λ c. cond (is_some (cond c (Some e.1.items) rest)) 1 0) is)

pub names-listed : (es : List Entry) → IsDistinct (eq_by_cmp key_order) (keys_of es) → ListsNames (Some (files_of es)) (names_of (keys_of es))
names-listed es distinct name = counted name es distinct ∙ ap (λ o. cond (is_some o) 1 0) (sym (fin.get-from_entries nat_list_cmp_total (map file_of es) name))
