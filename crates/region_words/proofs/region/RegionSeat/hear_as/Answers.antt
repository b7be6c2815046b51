use Rattle.std.proofs.Common.{sym, ap, ◌∙◌, arith}
use Rattle.region_words.specs.Rule.{origin}
use Rattle.region_words.specs.Seen.{RegionSeen, SeatSeen}
use Rattle.region_words.proofs.Calling.{inside, hears-as}
use Rattle.region_words.proofs.region.RegionSeat.hear_as.Goals as goal

pub load-requires : goal.load-requires
load-requires g c =
    let inv = c.region.invariant in (
      ap (λ (s : SeatSeen). s.table_id) c.self.view_is ∙ (c.requires.own ∙ sym (ap (λ (r : RegionSeen). r.table_id) c.region.view_is)),
      inside c.region.inside.table.shared.key _ c.region.inside.size 0 inv.0 inv.1 inv.3 (omega arith),
      hears-as g.A.Asking.origin c.region.inside.table.shared.key (c.requires.origin ∙ sym (ap (λ (r : RegionSeen). origin r.key) c.region.view_is)) inv.3 _ _ 0 _,
    )
