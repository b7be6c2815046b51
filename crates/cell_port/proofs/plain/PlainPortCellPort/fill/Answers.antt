use Rattle.std.proofs.Common.{◌≡◌, ℕ, ◌∙◌, ap}
use Rattle.cell_port.specs.Tables.{PlainRows}
use Rattle.cas_port.specs.View.{open_words, written_words}
use Rattle.cell_port.proofs.PlainKeeps.{keeps-opens, keeps-fill, whole-some}
use Rattle.cell_port.proofs.PlainOpens.{open-found}
use Rattle.cell_port.proofs.PlainTies.{tied-close, tied-whole, rows-counter, filled-view}
use Rattle.cell_port.proofs.plain.PlainPortCellPort.fill.Goals as goal

pub unreachable-requires : goal.unreachable-requires
unreachable-requires g c =
    let whole = rw (← c.self.view_is) at c.requires.whole in
    let found = rw (c.in_default.is, c.place-at.ensures) at c.take_open.ensures.found in
    cc (found.1 (open-found _ _ _ _ whole.opened))

pub invariant_of-self : goal.invariant_of-self
invariant_of-self g c =
    rw (c.take_open.ensures.closed, c.in_err-filled.ensures.err_rows, c.in_err-filled.ensures.err_events, c.in_err-filled.ensures.err_shown)
    (keeps-opens _ _ _ _ _ c.self.invariant _ (tied-close _ _ _ _ c.self.invariant.tied _))

-- the words are those written in the block
words-are : (g : _) (c : goal.In_ok-filled g) → c.into_words-words.result ≡ written_words (open_words c.self.inside.opened.items c.args.block.place.at)
words-are g c =
    c.into_words-words.ensures ∙ ap written_words c.in-Some.ensures.words ∙ ap (λ (p : ℕ). written_words (open_words c.self.inside.opened.items p)) (ap (λ p. p.at) c.place-at.ensures)

pub invariant_of-self-2 : goal.invariant_of-self-2
invariant_of-self-2 g c =
    let whole = rw (← c.self.view_is) at c.requires.whole in
    let words = words-are g c in
    rw (c.in_ok-filled.ensures.rows, c.in_ok-filled.ensures.events, c.in_ok-filled.ensures.shown, c.take_open.ensures.closed, c.place-at.ensures)
    (keeps-fill _ _ _ _ _ c.self.invariant c.args.note c.args.record_ c.args.block.place.at _ c.into_words-words.result _ (whole-some _ _ _ _ _ whole words)
    (tied-whole _ _ _ _ c.self.invariant.tied c.args.note c.args.record_ c.args.block c.into_words-words.result whole words))

pub returns-clause-lawful : goal.returns-clause-lawful
returns-clause-lawful g c = rw (← c.self.view_is) (record { was = c.self.invariant.tied.lawful; is = (invariant_of-self-2 g c).tied.lawful })

pub returns-clause-filled : goal.returns-clause-filled
returns-clause-filled g c =
    let start = ap (λ (x : PlainRows). x.start) c.in_ok-filled.ensures.rows ∙ (rows-counter c.self.inside.tables _ _ _ _).1 in
    let events = rw c.place-at.ensures at c.in_ok-filled.ensures.events in
    let closed = rw c.place-at.ensures at c.take_open.ensures.closed in
    let answer = rw c.place-at.ensures at c.in_ok-filled.ensures.answer in
    rw (← c.self.view_is)
    (filled-view _ _ _ _ c.self.invariant.tied c.args.note c.args.record_ c.args.block c.into_words-words.result _ _ _ c.in_ok-filled.filled start events closed (words-are g c) answer)
