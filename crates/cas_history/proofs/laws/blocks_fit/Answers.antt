use Rattle.cas_history.specs.Run.{tables}
use Rattle.cas_history.proofs.Blocks.{counter-grows, counter-fits, given-or-full, given-fits, run-named-fits, record-fits, run-claim-fits, named-apart, free-apart, apart-claims}
use Rattle.cas_history.proofs.Others.{room-asked}
use Rattle.cas_history.proofs.Placed.{placed-run, lawful-start}
use Rattle.cas_history.proofs.laws.blocks_fit.Goals as goal

pub returns-clause-grows : goal.returns-clause-grows
returns-clause-grows c = counter-grows

pub returns-clause-fits : goal.returns-clause-fits
returns-clause-fits c = counter-fits

pub returns-clause-full : goal.returns-clause-full
returns-clause-full c = given-or-full

pub returns-clause-given : goal.returns-clause-given
returns-clause-given c = given-fits

pub returns-clause-named : goal.returns-clause-named
returns-clause-named c = λ up start seen n words lawful named. run-named-fits up start seen lawful n words named

pub returns-clause-records : goal.returns-clause-records
returns-clause-records c = λ up start seen n r lawful is. record-fits up start seen lawful n r is

pub returns-clause-claims : goal.returns-clause-claims
returns-clause-claims c = λ up start seen who place n lawful claim. run-claim-fits up start seen lawful who place n claim

pub returns-clause-named_apart : goal.returns-clause-named_apart
returns-clause-named_apart c = λ up start seen n m a b lawful one two differ. named-apart start (tables start seen) (lawful-start up start seen lawful) (placed-run up start seen lawful) n m a b one two differ

pub returns-clause-free_apart : goal.returns-clause-free_apart
returns-clause-free_apart c = λ up start seen who place n m b lawful free named. free-apart start (tables start seen) (lawful-start up start seen lawful) (placed-run up start seen lawful) who place m n b free named

pub returns-clause-claims_apart : goal.returns-clause-claims_apart
returns-clause-claims_apart c = λ up start seen who him n m a b lawful one two. apart-claims start (tables start seen) (lawful-start up start seen lawful) (placed-run up start seen lawful) who him n m a b one two

pub returns-clause-room : goal.returns-clause-room
returns-clause-room c = room-asked
