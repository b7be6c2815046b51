use Rattle.std.proofs.Common.{List, ap, sym, subst, ◌∙◌, arith}
use Rattle.cas_script.specs.declared.script.Session.{Session}
use Rattle.cas_script.specs.declared.script.Script.{Script}
use Rattle.cas_script.specs.Limits.{FitsScript}
use Rattle.cas_script.specs.Workload.{work_session, workload_script}
use Rattle.cas_script.proofs.WorkFits.{workload-fits}
use Rattle.cas_script.proofs.MadeLists.{item-more, items-all}
use Rattle.cas_script.proofs.workloads.workload.Goals as goal

pub loop-session-preserved : goal.loop-session-preserved
loop-session-preserved c =
    item-more (work_session c.args.rounds) c.loop-session.session _ _ _ c.loop-session.invariant c.in_ok-push.ensures.items c.in_ok-session_of.ensures

pub returns-clause-is : goal.returns-clause-is
unfolding workload_script
returns-clause-is c =
    ap (λ (sessions : List Session). let script : Script = record { sessions = sessions } in script)
    (c.from_vec.ensures ∙ items-all (work_session c.args.rounds) c.loop-session.session 8 _ (omega arith) c.loop-session.invariant)

pub returns-clause-fits : goal.returns-clause-fits
returns-clause-fits c = λ few. subst FitsScript (sym (returns-clause-is c)) (workload-fits c.args.rounds few)
