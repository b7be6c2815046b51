use Rattle.std.proofs.Common.{◌∙◌, ap, ◌+◌}
use Rattle.graph_db.proofs.Loaded.{head-refs}
use Rattle.graph_db.proofs.loading.read_object.Goals as goal

pub read_refs-requires-clause-count : goal.read_refs-requires-clause-count
read_refs-requires-clause-count g c = head-refs _ _ _ _ _ c.word.ensures.same c.requires c.word.ensures.word c.split_head-refs.ensures.refs

pub read_data-requires-clause-begin : goal.read_data-requires-clause-begin
read_data-requires-clause-begin g c = ap (λ n. n + 1) (head-refs _ _ _ _ _ (c.read_refs.ensures.same ∙ c.word.ensures.same) c.requires c.word.ensures.word c.split_head-refs.ensures.refs)
