use Rattle.std.proofs.Common.{sym, ap, ◌∙◌, subst, arith}
use Rattle.atomic_table.specs.Seated.{TableId}
use Rattle.region_words.specs.Rule.{origin, HasWordIn}
use Rattle.region_words.specs.Seen.{RegionSeen, SeatSeen}
use Rattle.region_words.proofs.Calling.{stores-as}
use Rattle.region_words.proofs.Holding.{held-inside}
use Rattle.region_words.proofs.Seating.{seated-stored}
use Rattle.region_words.proofs.region.Region.store_word_as.Goals as goal

pub store-requires : goal.store-requires
store-requires g c =
    let mine = c.seat.invariant in
    let same = ap (λ (s : SeatSeen). s.table_id) c.seat.view_is ∙ (c.requires.own ∙ sym (ap (λ (r : RegionSeen). r.table_id) c.self.view_is)) in
    let low = subst (λ (s : SeatSeen). HasWordIn g.A.Asking.hold s.view g.A.Asking.place g.A.Asking.index) (sym c.seat.view_is) c.requires.inside in
    let most = held-inside _ g.A.Asking.hold c.seat.inside.seat.me.0 g.A.Asking.place g.A.Asking.index mine.4 low in (
      same,
      (let p = c.requires.at.0 in let i = c.requires.at.1 in let w = ap (λ (z : TableId). z.words) same in omega arith),
      stores-as c.self.inside.table.shared.key _ _ c.seat.inside.seat.me g.A.Asking.hold g.A.Asking.place g.A.Asking.index c.args.place c.args.index c.args.word c.requires.at.0 c.requires.at.1 low,
    )

pub overflow_add-place : goal.overflow_add-place
overflow_add-place g c =
    let key = ap (λ (r : RegionSeen). origin r.key) c.self.view_is in
    let inv = c.self.invariant in
    let mine = c.seat.invariant in
    let low = subst (λ (s : SeatSeen). HasWordIn g.A.Asking.hold s.view g.A.Asking.place g.A.Asking.index) (sym c.seat.view_is) c.requires.inside in
    let most = held-inside _ g.A.Asking.hold c.seat.inside.seat.me.0 g.A.Asking.place g.A.Asking.index mine.4 low in
    let same = ap (λ (s : SeatSeen). s.table_id) c.seat.view_is ∙ (c.requires.own ∙ sym (ap (λ (r : RegionSeen). r.table_id) c.self.view_is)) in
    let words = ap (λ (z : TableId). z.words) same in
    let small = inv.3.start.most in
    let size = inv.0 in
    let all = inv.1 in
    let p = c.requires.at.0 in
    let i = c.requires.at.1 in
    omega arith

pub invariant_of-seat : goal.invariant_of-seat
invariant_of-seat g c =
    seated-stored g.A.Asking.hold g.A.Asking.place g.A.Asking.index c.args.word c.seat.inside.number c.seat.inside.given c.seat.inside.seat.table_id.words c.store.new.seat.table_id.words c.seat.inside.seat.me c.store.new.seat.me
    (ap (λ (z : TableId). z.words) c.store.ensures.0) c.seat.invariant c.store.ensures.2
