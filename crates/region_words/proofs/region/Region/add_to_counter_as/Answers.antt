use Rattle.std.proofs.Common.{◌≡◌, sym, ap, ◌∙◌, subst, arith}
use Rattle.atomic_table.specs.Seated.{TableId}
use Rattle.region_words.specs.Rule.{origin, AsksFor, FoundRoom}
use Rattle.region_words.specs.Running.{Origin}
use Rattle.region_words.specs.Seen.{RegionSeen, SeatSeen}
use Rattle.region_words.proofs.Calling.{has-own, inside, adds-as}
use Rattle.region_words.proofs.Seating.{seated-added}
use Rattle.region_words.proofs.region.Region.add_to_counter_as.Goals as goal

pub fetch_add-requires : goal.fetch_add-requires
fetch_add-requires g c =
    let key = ap (λ (r : RegionSeen). origin r.key) c.self.view_is in
    let inv = c.self.invariant in
    let mine = c.seat.invariant in
    let asks = subst (λ (s : SeatSeen). AsksFor g.A.Asking.note g.A.Asking.asked s.view) (sym c.seat.view_is) c.requires.asks in
    let room = subst (λ (s : SeatSeen). FoundRoom g.A.Asking.origin g.A.Asking.asked s.view) (sym c.seat.view_is) c.requires.room in (
      ap (λ (s : SeatSeen). s.table_id) c.seat.view_is ∙ (c.requires.own ∙ sym (ap (λ (r : RegionSeen). r.table_id) c.self.view_is)),
      inside c.self.inside.table.shared.key _ c.self.inside.size 3 inv.0 inv.1 inv.3 (omega arith),
      adds-as g.A.Asking.origin c.self.inside.table.shared.key (c.requires.origin ∙ sym key) inv.3 _ _ _ g.A.Asking.hold g.A.Asking.note g.A.Asking.asked c.args.words c.requires.words asks
          (has-own g.A.Asking.note.who.session c.seat.inside.number c.seat.inside.seat.me.0 asks.0 mine.0 mine.1) room,
    )

pub invariant_of-seat : goal.invariant_of-seat
invariant_of-seat g c =
    let key = ap (λ (r : RegionSeen). origin r.key) c.self.view_is in
    let inv = c.self.invariant in
    let table = ap (λ (s : SeatSeen). s.table_id) c.seat.view_is ∙ (c.requires.own ∙ sym (ap (λ (r : RegionSeen). r.table_id) c.self.view_is)) in
    let size : g.A.Asking.origin.start.size ≡ c.seat.inside.seat.table_id.words = ap (λ (o : Origin). o.start.size) (c.requires.origin ∙ sym key) ∙ sym inv.0 ∙ sym inv.1 ∙ sym (ap (λ (z : TableId). z.words) table) in
    seated-added g.A.Asking.origin g.A.Asking.hold g.A.Asking.note g.A.Asking.asked c.seat.inside.number c.seat.inside.given c.seat.inside.seat.table_id.words c.fetch_add.new.seat.table_id.words c.fetch_add.result c.seat.inside.seat.me c.fetch_add.new.seat.me
    size (ap (λ (z : TableId). z.words) c.fetch_add.ensures.0) c.seat.invariant c.fetch_add.ensures.2
