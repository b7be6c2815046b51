use Rattle.cas_history.proofs.Free.{free-more}
use Rattle.cas_history.proofs.Grown.{grows-more}
use Rattle.cas_history.proofs.Promised.{lawful-before}
use Rattle.cas_history.proofs.RulesLast.{object-rule-lasts, action-rule-lasts}
use Rattle.cas_history.proofs.Stays.{size-stays, stays-more}
use Rattle.cas_history.proofs.laws.runs_grow.Goals as goal

pub returns-clause-never_changes : goal.returns-clause-never_changes
returns-clause-never_changes c = grows-more

pub returns-clause-before : goal.returns-clause-before
returns-clause-before c = lawful-before

pub returns-clause-object : goal.returns-clause-object
returns-clause-object c = λ up start more seen digest value words lawful rule. object-rule-lasts up _ _ digest value words (grows-more up start more seen lawful) rule

pub returns-clause-action : goal.returns-clause-action
returns-clause-action c = λ up start more seen key value lawful rule. action-rule-lasts up _ _ key value (grows-more up start more seen lawful) rule

pub returns-clause-free : goal.returns-clause-free
returns-clause-free c = free-more

pub returns-clause-size : goal.returns-clause-size
returns-clause-size c = size-stays

pub returns-clause-places : goal.returns-clause-places
returns-clause-places c = λ start more seen space digest p is. (stays-more start more seen).places space digest p is

pub returns-clause-cells : goal.returns-clause-cells
returns-clause-cells c = λ start more seen n some. (stays-more start more seen).cells n some
