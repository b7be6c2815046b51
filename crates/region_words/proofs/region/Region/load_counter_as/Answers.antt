use Rattle.std.proofs.Common.{sym, ap, ◌∙◌, subst, arith}
use Rattle.region_words.specs.Rule.{origin, AsksFor}
use Rattle.region_words.specs.Seen.{RegionSeen, SeatSeen}
use Rattle.region_words.proofs.Calling.{has-own, inside, loads-as}
use Rattle.region_words.proofs.region.Region.load_counter_as.Goals as goal

pub load-requires : goal.load-requires
load-requires g c =
    let key = ap (λ (r : RegionSeen). origin r.key) c.self.view_is in
    let inv = c.self.invariant in
    let mine = c.seat.invariant in
    let asks = subst (λ (s : SeatSeen). AsksFor g.A.Asking.note g.A.Asking.asked s.view) (sym c.seat.view_is) c.requires.asks in (
      ap (λ (s : SeatSeen). s.table_id) c.seat.view_is ∙ (c.requires.own ∙ sym (ap (λ (r : RegionSeen). r.table_id) c.self.view_is)),
      inside c.self.inside.table.shared.key _ c.self.inside.size 3 inv.0 inv.1 inv.3 (omega arith),
      loads-as g.A.Asking.origin c.self.inside.table.shared.key (c.requires.origin ∙ sym key) inv.3 _ _ _ g.A.Asking.note g.A.Asking.asked asks (has-own g.A.Asking.note.who.session c.seat.inside.number c.seat.inside.seat.me.0 asks.0 mine.0 mine.1),
    )
