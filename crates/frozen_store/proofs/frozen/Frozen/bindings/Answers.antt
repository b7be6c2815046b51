use Rattle.std.proofs.Common.{subst}
use Rattle.frozen_store.specs.Bound.{BindsItsRecords, BindsOnPaths, BindsWithCells}
use Rattle.frozen_store.proofs.Binding.{binds_its_records, binds_on_paths, binds_with_cells}
use Rattle.frozen_store.proofs.frozen.Frozen.bindings.Goals as goal

pub returns-clause-records : goal.returns-clause-records
returns-clause-records c = subst BindsItsRecords c.self.view_is (binds_its_records c.self.inside.words.items c.self.inside.counts.objects c.self.inside.counts.actions c.self.invariant)

pub returns-clause-paths : goal.returns-clause-paths
returns-clause-paths c = subst BindsOnPaths c.self.view_is (binds_on_paths c.self.inside.words.items c.self.inside.counts.objects c.self.inside.counts.actions c.self.invariant)

pub returns-clause-cells : goal.returns-clause-cells
returns-clause-cells c = subst BindsWithCells c.self.view_is (binds_with_cells c.self.inside.words.items c.self.inside.counts.objects c.self.inside.counts.actions c.self.invariant)
