-- the run of the sessions, and what it made
use Rattle.std.proofs.Common.{ℕ, ap, subst, ◌∙◌}
use Rattle.cas_model.specs.Claims.{Fit, contents_claims}
use Rattle.cas_model.specs.Tables.{Tables}
use Rattle.cas_command.proofs.StreamLemmas.{ends-on}
use Rattle.cas_command.proofs.HistoryLemmas.{answered-script, ran-script}
use Rattle.cas_command.proofs.MadeLemmas.{due-known, grows-to, reports-counted, run-to}
use Rattle.cas_command.proofs.ReplyLemmas.{has-one-reply}
use Rattle.cas_command.proofs.running.Running.run_sessions.Goals as goal

pub returns-in_err-replies-clause-err : goal.returns-in_err-replies-clause-err
returns-in_err-replies-clause-err g c =
    ends-on _ (ran-script _ _ c.args.self.now.opened.now.tables c.args.port.now c.requires.at c.requires.digests c.run_in_turn.new.port _ c.run_in_turn.ensures.lawful c.in_err-replies.ensures.memory).1

pub returns-in_err-contents-clause-err : goal.returns-in_err-contents-clause-err
returns-in_err-contents-clause-err g c =
    ends-on _ (answered-script _ _ c.args.self.now.opened.now.tables c.args.port.now c.requires.at c.requires.digests c.run_in_turn.new.port _ c.run_in_turn.ensures.lawful _ c.in_ok-replies.ensures.ran).1.runs

pub output_of-requires-clause-one : goal.output_of-requires-clause-one
output_of-requires-clause-one g c =
    has-one-reply c.args.self.now.work.now.report c.args.self.now.work.now c.in_ok-replies.replies _ _ _ _ c.requires.one
    (answered-script _ _ c.args.self.now.opened.now.tables c.args.port.now c.requires.at c.requires.digests c.run_in_turn.new.port _ c.run_in_turn.ensures.lawful _ c.in_ok-replies.ensures.ran).1

pub returns-in_err-output_of-clause-err : goal.returns-in_err-output_of-clause-err
returns-in_err-output_of-clause-err g c =
    ends-on _ (answered-script _ _ c.args.self.now.opened.now.tables c.args.port.now c.requires.at c.requires.digests c.run_in_turn.new.port _ c.run_in_turn.ensures.lawful _ c.in_ok-replies.ensures.ran).1.runs

pub images_due-requires-clause-grows : goal.images_due-requires-clause-grows
images_due-requires-clause-grows g c =
    grows-to _ _ _ c.run_in_turn.new.port.start c.run_in_turn.new.port.seen _ _
    (answered-script _ _ c.args.self.now.opened.now.tables c.args.port.now c.requires.at c.requires.digests c.run_in_turn.new.port _ c.run_in_turn.ensures.lawful _ c.in_ok-replies.ensures.ran).1.runs
    c.in_ok-contents.ensures.held

pub images_due-requires-clause-fits : goal.images_due-requires-clause-fits
images_due-requires-clause-fits g c =
    let start =
    (answered-script _ _ c.args.self.now.opened.now.tables c.args.port.now c.requires.at c.requires.digests c.run_in_turn.new.port _ c.run_in_turn.ensures.lawful _ c.in_ok-replies.ensures.ran).0 in
    subst (λ (n : ℕ). Fit n 520 (contents_claims c.in_ok-contents.contents.objects.items c.in_ok-contents.contents.actions.items)) (ap (λ (s : Tables). s.size) start ∙ c.requires.at.size)
    c.in_ok-contents.ensures.fits

pub returns-in_err-images_due-clause-err : goal.returns-in_err-images_due-clause-err
returns-in_err-images_due-clause-err g c =
    ends-on _ (answered-script _ _ c.args.self.now.opened.now.tables c.args.port.now c.requires.at c.requires.digests c.run_in_turn.new.port _ c.run_in_turn.ensures.lawful _ c.in_ok-replies.ensures.ran).1.runs

pub returns-clause-ok : goal.returns-clause-ok
returns-clause-ok g c =
    run-to c.args.self.now.opened.now _ c.args.self.now.work.now c.args.self.now.rotation c.in_ok-replies.replies c.run_in_turn.new.port.start c.run_in_turn.new.port.seen
    c.in_ok-contents.contents.objects.items c.in_ok-contents.contents.actions.items _
    (answered-script _ _ c.args.self.now.opened.now.tables c.args.port.now c.requires.at c.requires.digests c.run_in_turn.new.port _ c.run_in_turn.ensures.lawful _ c.in_ok-replies.ensures.ran).1
    c.in_ok-contents.ensures.held
    (reports-counted _ _ _ _ _ _ _ _ c.counts_of.ensures.objects c.counts_of.ensures.actions c.in_ok-output_of.ensures)
    (due-known _ _ _ _ _ _ _ _ c.full_seen-full.ensures c.in_ok-images_due.ensures)
