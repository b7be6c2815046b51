-- A sink in memory.
use Rattle.std.specs.Prelude.{◌≡◌, ℕ, ◌-◌, ◌==◌, ◌||◌, List, [], Some, Option, is_err, min, if◌then◌else◌, IfOk, MatchResult}
use Rattle.std.specs.declared.result.Result.{Result}
use Rattle.cas_outside.specs.declared.Failed.{Failed}
use Rattle.cas_outside.specs.declared.mem_sink.MemSink.{MemSink}
use Rattle.cas_outside.specs.Plan.{is_planned, next}

abbrev pub sink_held : MemSink → Option (List ℕ)
sink_held s = Some s.bytes.items

pub record IsFreshSink (room most : ℕ) (fail : List ℕ) (s : MemSink) : Type 0 where
  pub empty : s.bytes.items ≡ []
  pub room_is : s.room ≡ room
  pub most_is : s.most ≡ most
  pub fail_is : s.fail.items ≡ fail
  pub calls : s.calls ≡ 0
  pub faults : s.faults ≡ 0

-- the call fails exactly where its number is listed or there is no room, and takes as much as it may
pub record WritesAsPlanned (asked : ℕ) (old new : MemSink) (result : Result ℕ Failed) : Type 0 where
  pub calls : new.calls ≡ next old.calls
  pub fails : is_err result ≡ ((old.room == 0) || is_planned old.fail.items new.calls)
  pub faults : new.faults ≡ (if (old.room == 0) || is_planned old.fail.items new.calls then next old.faults else old.faults)
  pub takes : IfOk result (λ n. n ≡ min (min asked old.most) old.room)

-- the room falls by what was taken and stays at a failure; the most at a time and the failing calls stay in any case
pub record KeepsSinkPlan (old new : MemSink) (result : Result ℕ Failed) : Type 0 where
  pub room : MatchResult result (λ n. new.room ≡ old.room - n) (λ _. new.room ≡ old.room)
  pub most : new.most ≡ old.most
  pub fail : new.fail.items ≡ old.fail.items
