use Rattle.cas_history.specs.Run.{tables}
use Rattle.cas_history.proofs.Changed.{act-changes}
use Rattle.cas_history.proofs.laws.events_change_their_kind.Goals as goal

pub returns : goal.returns
returns c = λ up start event seen lawful. act-changes (tables start seen) event.note.who event.act
