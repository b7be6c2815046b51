use Rattle.std.proofs.Common.{◌<◌, sym, ap, ◌∙◌, subst, arith}
use Rattle.region_words.specs.Numbers.{own_number}
use Rattle.region_words.specs.Seen.{RegionSeen, SeatSeen}
use Rattle.region_words.proofs.Calling.{inside}
use Rattle.region_words.proofs.Meeting.{splits}
use Rattle.region_words.proofs.region.RegionSeat.cut.Goals as goal

pub split_seat-seat-requires : goal.split_seat-seat-requires
split_seat-seat-requires c =
    let inv = c.region.invariant in (
      ap (λ (s : SeatSeen). s.table_id) c.self.view_is ∙ (c.requires.own ∙ sym (ap (λ (r : RegionSeen). r.table_id) c.region.view_is)),
      inside c.region.inside.table.shared.key _ c.region.inside.size 0 inv.0 inv.1 inv.3 (omega arith),
      splits c.region.inside.table.shared.key _ c.self.inside.seat.me.0 (ap (λ (s : SeatSeen). own_number s.view) c.self.view_is ∙ c.requires.first) (subst (λ (s : SeatSeen). s.view.given < 64) (sym c.self.view_is) c.requires.room),
    )
