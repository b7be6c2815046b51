use Rattle.std.proofs.Common.{◌≡◌, ◌∙◌, ap, cond, count_by, map, nat_eq}
use Rattle.std.specs.Cmp.Lexicographic.{pointwise}
use Rattle.std.specs.FinMap as fin
use Rattle.std.specs.Map.Iter.{deref}
use Rattle.std.specs.BTreeMap as tree
use Rattle.std.proofs.lemmas.Map.Iter.{iter_end}
use Rattle.std.proofs.lemmas.Map.Keys.{IsDistinct-from_sorted}
use Rattle.cas_outside.proofs.FileTable.{key_order, names_of, names-listed}
use Rattle.cas_outside.proofs.file_table.FileTable.names.Goals as goal

pub returns : goal.returns
returns c = λ name.
    let all : map deref c.loop-name.yielded ≡ tree.keys c.self.inside.files
    = (iter_end deref _ _ _ _ _ _ (c.into_iter-name-iterator.ensures.into_iter_gives ∙ c.keys-name-items.ensures.rest) c.loop-name.yielded_by c.in-None.is c.next.ensures.steps).0 in
    ap (count_by (λ n. pointwise nat_eq n name)) (c.loop-name.invariant ∙ ap names_of all)
    ∙ names-listed c.self.inside.files.entries (IsDistinct-from_sorted key_order _ c.keys-name-items.ensures.ordered) name
    ∙ ap (λ m. cond (fin.contains_key m name) 1 0) c.self.view_is
