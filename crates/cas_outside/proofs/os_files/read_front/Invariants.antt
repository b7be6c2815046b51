use Rattle.std.proofs.Common.{◌≤◌, ◌-◌, vec_len}
use Rattle.std.specs.Io.KnownBytes.{Consumes}
use Rattle.cas_outside.proofs.os_files.read_front.Given as goal

-- these bytes were taken from the source
abbrev pub invariant-loop-front : goal.invariant-loop-front
invariant-loop-front g l = record {
  fits : vec_len l.front ≤ l.most;
  took : Consumes (g.S.Source.view l.fn.source).left (g.S.Source.view l.source).left l.front.items;
}

abbrev pub decreases-loop-front : goal.decreases-loop-front
decreases-loop-front g l = l.most - vec_len l.front
