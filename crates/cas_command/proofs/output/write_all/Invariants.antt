use Rattle.std.proofs.Common.{◌≤◌, ◌-◌, length, take}
use Rattle.std.specs.Io.KnownBytes.{Appends}
use Rattle.cas_command.proofs.output.write_all.Given as goal

-- the first bytes are written
abbrev pub invariant-loop-at : goal.invariant-loop-at
invariant-loop-at g l = record {
  within : l.at ≤ length l.bytes;
  wrote : Appends (g.W.Sink.view l.fn.sink).held (g.W.Sink.view l.sink).held (take l.at l.bytes);
  later : (g.W.Sink.view l.fn.sink).faults ≤ (g.W.Sink.view l.sink).faults;
}

abbrev pub decreases-loop-at : goal.decreases-loop-at
decreases-loop-at g l = length l.bytes - l.at
