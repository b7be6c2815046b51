-- the lines of one more session
use Rattle.std.proofs.Common.{◌<◌, ◌≤◌, List, length, ap, sym, ◌∙◌, arith, add-one}
use Rattle.cas_model.specs.declared.call.Reply.{Reply}
use Rattle.sessions.specs.declared.replies.SessionReplies.{SessionReplies}
use Rattle.cas_script.specs.declared.script.Line.{Line}
use Rattle.cas_script.specs.Limits.{FitsSession}
use Rattle.sessions.specs.Summary.{full_in_session}
use Rattle.sessions.proofs.LinesRun.{item-at, all-at}
use Rattle.sessions.proofs.Counted.{full-few, full-next}
use Rattle.sessions.proofs.tally.full_lines.Goals as goal

-- it has at most 65,536
few-more : (c : goal.After-full_in_session-full) → c.full_in_session-full.result ≤ 65536
few-more c =
    let own = all-at FitsSession _ _ _ c.requires.fits.each (item-at _ _ _ _ c.list-session-items.ensures c.loop-number-test.true c.session-item.is) in
    let few = own.few in
    let counted = full-few c.list.result.now c.list-own.result.now in
    let many = ap length c.list.ensures in
    omega (arith, few, counted, many, c.full_in_session-full.ensures)

-- there are as many lists of replies as sessions
is-answered : (c : goal.After-full_in_session-full) → c.loop-number.number < length c.list-answered.result.now
is-answered c =
    let test = c.loop-number-test.true in
    let sessions = ap length c.list-session-items.ensures in
    let replies = ap length c.list-answered.ensures in
    omega (arith, test, sessions, replies, c.requires.many)

pub overflow_add-full : goal.overflow_add-full
overflow_add-full c =
    let more = few-more c in
    let number = c.requires.fits.few in
    let before = c.loop-number.invariant.few in
    let test = c.loop-number-test.true in
    let few = ap length c.list-session-items.ensures in
    omega (arith, more, number, before, test, few)

pub loop-number-preserved : goal.loop-number-preserved
loop-number-preserved c = record {
  is = rw add-one (full-next c.loop-number.full c.full_in_session-full.result c.loop-number.number _ _ c.session-item.result c.index-answered-number.result _
      (item-at _ _ _ _ c.list-session-items.ensures c.loop-number-test.true c.session-item.is)
      (item-at _ _ _ _ c.list-answered.ensures (is-answered c) c.index-answered-number.is)
      (c.full_in_session-full.ensures ∙ ap (λ (lines : List Line). full_in_session lines c.list-own.result.now) c.list.ensures
      ∙ ap (λ (replies : List Reply). full_in_session c.session-item.result.lines replies) (c.list-own.ensures ∙ ap (λ (own : SessionReplies). own.replies) (sym c.index-answered-number.is)))
      c.loop-number.invariant.is);
  few = let more = few-more c in let before = c.loop-number.invariant.few in omega (arith, more, before);
}
