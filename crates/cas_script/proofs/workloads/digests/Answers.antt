use Rattle.std.proofs.Common.{ap, ◌∙◌, arith, []}
use Rattle.cas_model.specs.Object.{digest_of}
use Rattle.cas_script.specs.Workload.{header_digest, header_digests}
use Rattle.cas_script.proofs.MadeLists.{item-more, items-all}
use Rattle.cas_script.proofs.workloads.digests.Goals as goal

pub loop-number-preserved : goal.loop-number-preserved
loop-number-preserved c = item-more header_digest c.loop-number.number _ _ _ c.loop-number.invariant c.in_ok-push.ensures.items (c.of.ensures ∙ ap (digest_of []) (c.deref.ensures.value ∙ c.in_ok-data.ensures))

pub returns : goal.returns
unfolding header_digests
returns c = items-all header_digest c.loop-number.number 4 _ (omega arith) c.loop-number.invariant
