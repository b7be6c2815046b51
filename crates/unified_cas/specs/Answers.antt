-- What one call of a store adds to what its port has seen, and its reply.
use Rattle.std.specs.Prelude.{◌≡◌, ℕ, ◌+◌, ◌≤◌, ◌⊎◌, List, ◌++◌, IsTrue, Some}
use Rattle.std.specs.declared.option.Option.{Option}
use Rattle.cas_model.specs.declared.call.Call.{Call}
use Rattle.cas_model.specs.declared.call.Call.TheVariants.{Load}
use Rattle.cas_model.specs.declared.call.Reply.{Reply}
use Rattle.cas_model.specs.declared.call.Reply.TheVariants as reply
use Rattle.cas_model.specs.declared.call.Who.{Who}
use Rattle.cas_model.specs.declared.digest.Digest.{Digest}
use Rattle.cas_model.specs.declared.note.Note.{Note}
use Rattle.cas_model.specs.declared.object.Object.{Object}
use Rattle.cas_history.specs.Conduct.{CallOpen}
use Rattle.cas_history.specs.Cost.{asked, IsWithinCost}
use Rattle.cas_port.specs.declared.block.OpenBlock.{OpenBlock}
use Rattle.cas_port.specs.View.{View}
use Rattle.graph_db.specs.Events.{CallDecided, Goes, Last}
use Rattle.unified_cas.specs.Upstream.{HadToBring, NeedsTree}

-- what the call claimed, and was refused, is within its cost
pub record CostsAtMost (who : Who) (call : Call) (old new : View) : Type 0 where
  pub words : ℕ
  pub within : IsWithinCost old.upstream call words
  pub most : asked who new.seen ≤ asked who old.seen + words

-- events of the call were added. They keep conduct, the last of them decides the call by this reply, and their claims are within its cost
pub record Answers (who : Who) (call : Call) (given : Reply) (old new : View) : Type 0 where
  pub goes : Goes who old new
  pub stands : (calls : Who → Option Call) → calls who ≡ Some call → CallOpen old.upstream old.start calls who old.seen
      → CallDecided new.upstream new.start calls who call given new.seen
  pub cost : CostsAtMost who call old new
  pub note : Note
  pub own : note.who ≡ who
  pub last : Last note call (Some given) new

-- memory was wanted, by a port that takes memory or where the call missed something and has to bring a tree in: events of the call were added, which
-- keep conduct and do not decide it. Blocks that it claimed may have stayed open
pub record Stops (who : Who) (call : Call) (old new : View) : Type 0 where
  pub takes : IsTrue old.takes_memory ⊎ NeedsTree call old
  pub brings : IsTrue old.takes_memory ⊎ HadToBring who call old new
  pub left : List OpenBlock
  pub opened : new.opened ≡ left ++ old.opened
  pub goes : Goes who old (record new { opened = old.opened })
  pub stands : (calls : Who → Option Call) → calls who ≡ Some call → CallOpen old.upstream old.start calls who old.seen
      → CallOpen new.upstream new.start calls who new.seen
  pub cost : CostsAtMost who call old new

-- memory was wanted; or there was none for the object, after its load was decided
abbrev pub LoadStops : Who → Digest → View → View → Type 0
LoadStops who digest old new = Stops who (Load digest) old new ⊎ ((o : Object) × Answers who (Load digest) (reply.Found o) old new)
