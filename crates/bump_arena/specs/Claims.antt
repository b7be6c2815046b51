-- What a claim did.
use Rattle.std.specs.Prelude.{◌≡◌, ℕ, ◌+◌, ◌<◌, ◌≤◌, List, ◌∷◌, ◌++◌, Bool}
use Rattle.cas_model.specs.declared.note.Note.{Note}
use Rattle.cas_model.specs.declared.place.Full.{Full}
use Rattle.cas_history.specs.declared.event.Act.TheVariants.{Claim, Room}
use Rattle.cas_history.specs.declared.event.Event.{Event}
use Rattle.cas_port.specs.declared.block.Block.{Block}
use Rattle.region_words.specs.Numbers.{AreOthers}
use Rattle.region_words.specs.Rule.{event, seeing, claiming}
use Rattle.region_words.specs.Running.{Origin, IsRun, after}
use Rattle.region_words.specs.declared.hold.Hold.{Hold}
use Rattle.region_words.specs.declared.view.SeatView.{SeatView}

-- a block at the counter was claimed, after events of others, and the seat holds it with nothing written
pub record Claims (o : Origin) (hold : Hold) (note : Note) (n : ℕ) (v w : SeatView) (block : Block) : Type 0 where
  pub between : List Event
  pub others : AreOthers v.numbers between
  pub run : IsRun o w.seen
  pub place : block.place.at ≡ (after o (between ++ v.seen)).counter
  pub length : block.length ≡ n
  pub room : block.place.at + n ≤ o.start.size
  pub is : w ≡ claiming hold v (event note (Claim n) ∷ between ++ v.seen) block.place.at note n

-- there was no room at the counter, after events of others. The claim may have moved the counter
pub record Refuses (o : Origin) (note : Note) (n : ℕ) (v w : SeatView) (full : Full) : Type 0 where
  pub between : List Event
  pub moved : Bool
  pub others : AreOthers v.numbers between
  pub run : IsRun o w.seen
  pub numbers : full ≡ record { at = (after o (between ++ v.seen)).counter; asked = n; size = o.start.size }
  pub none : o.start.size < full.at + n
  pub is : w ≡ seeing v (event note (Room n moved) ∷ between ++ v.seen)
