-- What contracts see of a region and of a seat.
use Rattle.atomic_table.specs.Seated.{TableId}
use Rattle.region_words.specs.declared.rule.Key.{Key}
use Rattle.region_words.specs.declared.view.SeatView.{SeatView}

pub record RegionSeen : Type 0 where
  pub table_id : TableId
  pub key : Key

pub record SeatSeen : Type 0 where
  pub table_id : TableId
  pub view : SeatView
