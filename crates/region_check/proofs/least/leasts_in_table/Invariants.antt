use Rattle.region_check.specs.Shown.{LeastOfEach, TableShown}
use Rattle.region_check.proofs.least.leasts_in_table.Given as goal

abbrev pub invariant-loop-index : goal.invariant-loop-index
invariant-loop-index l = LeastOfEach (λ row. TableShown l.words row l.space l.table l.index) l.rows l.leasts
