use Rattle.std.proofs.Common.{ℕ, sym, ap, ◌∙◌, arith}
use Rattle.std.specs.Slots.{slots_items}
use Rattle.region_words.specs.Closing.{kept}
use Rattle.region_words.specs.Seen.{RegionSeen, SeatSeen}
use Rattle.region_words.proofs.Ending.{closes-as, stands-as, has-state, names-the-end}
use Rattle.region_words.proofs.region.Region.close.Goals as goal

pub keep_words-words-requires-clause-least : goal.keep_words-words-requires-clause-least
keep_words-words-requires-clause-least c =
    let told = c.stop-rows.ensures.ends in
    let size = c.self.invariant.0 in
    let least = c.self.invariant.3.start.least in
    (told.least, omega arith)

pub of-ended-requires : goal.of-ended-requires
of-ended-requires c =
    let told = c.stop-rows.ensures.ends in
    closes-as _ _ _ _ _ _ (ap (λ (r : RegionSeen). r.key) (c.self.view_is ∙ sym c.of-about.ensures)) (ap (λ (s : SeatSeen). s.view) (c.seat.view_is ∙ sym c.of-seen.ensures))
    (ap (λ (n : ℕ). kept n (slots_items c.stop-rows.result.words)) (sym c.self.invariant.0) ∙ sym c.keep_words-words.ensures) (told.log, told.ends, told.stand)

pub of_closed-frozen-requires : goal.of_closed-frozen-requires
of_closed-frozen-requires c = has-state _ _ _ c.of-ended.ensures.1

pub returns-clause-tables : goal.returns-clause-tables
returns-clause-tables c =
    names-the-end _ _ _ (stands-as _ _ _ _ _ (ap (λ (r : RegionSeen). r.key) c.of-about.ensures) (sym c.of_closed-frozen.ensures) c.of-ended.ensures.1) c.seen.ensures
