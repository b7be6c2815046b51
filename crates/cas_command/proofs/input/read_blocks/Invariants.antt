use Rattle.std.proofs.Common.{◌≤◌, ◌-◌, ◌+◌, vec_len}
use Rattle.std.specs.Io.KnownBytes.{Consumes}
use Rattle.cas_command.proofs.input.read_blocks.Given as goal

-- these bytes were taken from the source
abbrev pub invariant-loop-all : goal.invariant-loop-all
invariant-loop-all g l = record {
  fits : vec_len l.all ≤ l.most + 1;
  took : Consumes (g.S.Source.view l.fn.source).left (g.S.Source.view l.source).left l.all.items;
  later : (g.S.Source.view l.fn.source).faults ≤ (g.S.Source.view l.source).faults;
}

abbrev pub decreases-loop-all : goal.decreases-loop-all
decreases-loop-all g l = l.most + 2 - vec_len l.all
