-- where there is no upstream
use Rattle.std.proofs.Common.{ap}
use Rattle.std.specs.Prelude.{option_copied}
use Rattle.unified_cas.specs.Upstream.{upstream_state}
use Rattle.cas_command.proofs.HistoryLemmas.{none-own}
use Rattle.cas_command.proofs.running.Running.run_over.Goals as goal

pub run-requires-clause-digests : goal.run-requires-clause-digests
run-requires-clause-digests g c = none-own _ (ap (λ o. upstream_state (option_copied o)) c.in-None.is)
