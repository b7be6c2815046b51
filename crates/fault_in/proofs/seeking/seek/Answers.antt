use Rattle.graph_db.proofs.Found.{not-zero-less}
use Rattle.graph_db.proofs.Steps.{ends-on}
use Rattle.fault_in.proofs.Costs.{asks-wants}
use Rattle.fault_in.proofs.Quiet.{look-quiet, look-wants-quiet, read-quiet}
use Rattle.fault_in.proofs.Sought.{look-asks, look-wants-asks, looked-none, looked-record, looked-wants, read-asks, read-found, read-missed}
use Rattle.fault_in.proofs.seeking.seek.Goals as goal

pub read-requires-clause-bound : goal.read-requires-clause-bound
read-requires-clause-bound g c = looked-record c.args.who c.args.digest.now _ _ c.in-Some.place (rw c.in-Some.is at c.in_ok-look.ensures.looked) c.in_ok-look.ensures.lawful

pub returns-in_err-read-in-Some-clause-err : goal.returns-in_err-read-in-Some-clause-err
returns-in_err-read-in-Some-clause-err g c =
    ends-on _ (looked-wants c.args.who c.args.digest.now _ _ c.in-Some.place (rw c.in-Some.is at c.in_ok-look.ensures.looked) _ c.in_err-read-in-Some.ensures.memory)

pub returns-then-branch-eq0-clause-ok : goal.returns-then-branch-eq0-clause-ok
returns-then-branch-eq0-clause-ok g c =
    read-missed c.args.who c.args.digest.now _ _ c.in-Some.place (rw c.in-Some.is at c.in_ok-look.ensures.looked) _ _ c.in_ok-read-in-Some.ensures.lawful c.in_ok-read-in-Some.ensures.value c.if-branch-eq0.true

pub returns-in-None-clause-ok : goal.returns-in-None-clause-ok
returns-in-None-clause-ok g c = looked-none c.args.who c.args.digest.now _ _ (rw c.in-None.is at c.in_ok-look.ensures.looked)

pub returns-else-branch-eq0-clause-ok : goal.returns-else-branch-eq0-clause-ok
returns-else-branch-eq0-clause-ok g c =
    read-found c.args.who c.args.digest.now _ _ c.in-Some.place (rw c.in-Some.is at c.in_ok-look.ensures.looked) _ _ c.in_ok-read-in-Some.ensures.lawful c.in_ok-read-in-Some.ensures.value (not-zero-less _ c.if-branch-eq0.false)

pub returns-in_err-look-clause-cost : goal.returns-in_err-look-clause-cost
returns-in_err-look-clause-cost g c = asks-wants c.args.who _ _ 0 c.in_err-look.ensures.memory

pub returns-in_err-read-in-Some-clause-cost : goal.returns-in_err-read-in-Some-clause-cost
returns-in_err-read-in-Some-clause-cost g c = look-wants-asks c.args.who c.args.digest.now _ _ _ _ c.requires c.in_ok-look.ensures.looked c.in_err-read-in-Some.ensures.memory

pub returns-in-None-clause-cost : goal.returns-in-None-clause-cost
returns-in-None-clause-cost g c = look-asks c.args.who c.args.digest.now _ _ _ c.requires c.in_ok-look.ensures.looked

pub returns-then-branch-eq0-clause-cost : goal.returns-then-branch-eq0-clause-cost
returns-then-branch-eq0-clause-cost g c = read-asks c.args.who c.args.digest.now _ _ _ _ c.in-Some.place _ c.requires c.in_ok-look.ensures.looked c.in_ok-read-in-Some.ensures.value

pub returns-else-branch-eq0-clause-cost : goal.returns-else-branch-eq0-clause-cost
returns-else-branch-eq0-clause-cost g c = read-asks c.args.who c.args.digest.now _ _ _ _ c.in-Some.place _ c.requires c.in_ok-look.ensures.looked c.in_ok-read-in-Some.ensures.value

pub returns-in_err-read-in-Some-clause-quiet : goal.returns-in_err-read-in-Some-clause-quiet
returns-in_err-read-in-Some-clause-quiet g c = look-wants-quiet c.args.who c.args.digest.now _ _ _ _ c.requires c.in_ok-look.ensures.looked c.in_err-read-in-Some.ensures.memory

pub returns-in-None-clause-quiet : goal.returns-in-None-clause-quiet
returns-in-None-clause-quiet g c = look-quiet c.args.who c.args.digest.now _ _ _ c.requires c.in_ok-look.ensures.looked

pub returns-then-branch-eq0-clause-quiet : goal.returns-then-branch-eq0-clause-quiet
returns-then-branch-eq0-clause-quiet g c = read-quiet c.args.who c.args.digest.now _ _ _ _ c.in-Some.place _ c.requires c.in_ok-look.ensures.looked c.in_ok-read-in-Some.ensures.value

pub returns-else-branch-eq0-clause-quiet : goal.returns-else-branch-eq0-clause-quiet
returns-else-branch-eq0-clause-quiet g c = read-quiet c.args.who c.args.digest.now _ _ _ _ c.in-Some.place _ c.requires c.in_ok-look.ensures.looked c.in_ok-read-in-Some.ensures.value
