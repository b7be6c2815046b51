-- what was made, as the front shows it
use Rattle.cas_command.proofs.MadeLemmas.{made-shown}
use Rattle.cas_command.proofs.running.run_work.Goals as goal

pub returns-clause-made : goal.returns-clause-made
returns-clause-made g c =
    made-shown c.args.opened c.args.up _ c.args.work c.args.rotation c.of.result c.run_over-events.result.0 c.run_over-events.result.1 c.as_ref.ensures.value c.of.ensures c.run_over-events.ensures.size
    c.run_over-events.ensures.counter c.run_over-events.ensures.ok
