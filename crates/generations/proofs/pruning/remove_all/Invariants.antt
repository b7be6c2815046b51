use Rattle.std.proofs.Common.{◌≡◌, take}
use Rattle.generations.specs.Removing.{HasRemoved}
use Rattle.generations.proofs.pruning.remove_all.Given as goal

-- the numbers so far were removed, and before the first nothing was changed
abbrev pub invariant-loop-number : goal.invariant-loop-number
invariant-loop-number g l = record {
  removed : HasRemoved (take l.number-index l.numbers) (g.F.Folder.view l.fn.folder) (g.F.Folder.view l.folder);
  still : l.number-index ≡ 0 → (g.F.Folder.view l.folder).changes ≡ (g.F.Folder.view l.fn.folder).changes;
}
