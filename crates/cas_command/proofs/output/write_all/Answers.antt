use Rattle.std.proofs.Common.{arith}
use Rattle.cas_command.proofs.StreamLemmas.{part-written, one-written, room-left, ends-on}
use Rattle.cas_command.proofs.output.write_all.Goals as goal

pub returns-in_err-at-clause-part : goal.returns-in_err-at-clause-part
returns-in_err-at-clause-part g c = ends-on _ (part-written _ _ _ _ _ c.loop-at.invariant.wrote c.in_err-at.ensures.bytes)

pub loop-at-preserved : goal.loop-at-preserved
loop-at-preserved g c = record {
  within = room-left _ _ _ c.loop-at.invariant.within c.in_ok-at.ensures.most;
  wrote = one-written _ _ _ _ _ _ c.loop-at.invariant.wrote c.in_ok-at.ensures.bytes;
  later = omega (arith, c.loop-at.invariant.later, c.in_ok-at.ensures.cause.later);
}
