use Rattle.std.proofs.Common.{ℕ, sym, ap, ◌∙◌, subst, arith}
use Rattle.atomic_table.specs.Seated.{TableId}
use Rattle.region_words.specs.Blocks.{EndBy, all_blocks}
use Rattle.region_words.specs.Numbers.{Has}
use Rattle.region_words.specs.Seen.{RegionSeen, SeatSeen}
use Rattle.region_words.proofs.Calling.{inside}
use Rattle.region_words.proofs.Meeting.{joins}
use Rattle.region_words.proofs.Seating.{seated-joined}
use Rattle.region_words.proofs.region.RegionSeat.glue.Goals as goal

pub join_seat-requires : goal.join_seat-requires
join_seat-requires c =
    let inv = c.region.invariant in
    let table = sym (ap (λ (r : RegionSeen). r.table_id) c.region.view_is) in (
      ap (λ (s : SeatSeen). s.table_id) c.self.view_is ∙ (c.requires.own.0 ∙ table),
      ap (λ (s : SeatSeen). s.table_id) c.other.view_is ∙ (c.requires.own.1 ∙ table),
      c.other.invariant.3,
      inside c.region.inside.table.shared.key _ c.region.inside.size 0 inv.0 inv.1 inv.3 (omega arith),
      joins c.region.inside.table.shared.key _ c.self.inside.seat.me.0 _ c.other.inside.seat.me.0 (subst (λ (n : ℕ). Has n c.self.inside.seat.me.0.numbers) c.self.invariant.0 c.self.invariant.1),
    )

pub invariant_of-self : goal.invariant_of-self
invariant_of-self c =
    let same = ap (λ (s : SeatSeen). s.table_id) c.other.view_is ∙ (c.requires.own.1 ∙ sym c.requires.own.0) ∙ sym (ap (λ (s : SeatSeen). s.table_id) c.self.view_is) in
    seated-joined c.self.inside.number c.self.inside.given c.self.inside.seat.table_id.words c.join_seat.new.seat.table_id.words c.self.inside.seat.me c.other.inside.seat.me c.join_seat.new.seat.me
    (ap (λ (z : TableId). z.words) c.join_seat.ensures.0) c.self.invariant (subst (λ (z : TableId). EndBy z.words (all_blocks c.other.inside.seat.me.0)) same c.other.invariant.4) c.join_seat.ensures.2
