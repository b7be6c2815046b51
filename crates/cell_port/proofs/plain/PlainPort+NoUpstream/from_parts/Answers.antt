use Rattle.cell_port.proofs.PartsLoops.{opens-at, binds-exactly}
use Rattle.cell_port.proofs.plain.PlainPort+NoUpstream.from_parts.Goals as goal

pub returns-clause-start : goal.returns-clause-start
returns-clause-start c = rw c.settled.ensures (opens-at c.args.size _ _ _ c.requires.lawful c.in_ok-tables.ensures.ok)

pub returns-clause-bound : goal.returns-clause-bound
returns-clause-bound c = rw c.settled.ensures (binds-exactly c.args.size _ _ _ c.in_ok-tables.ensures.ok)
