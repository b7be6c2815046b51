-- A source in memory.
use Rattle.std.specs.Prelude.{◌≡◌, ℕ, ◌+◌, ◌-◌, List, length, drop, min, Some, Option, is_err, if◌then◌else◌, IfOk, MatchResult}
use Rattle.std.specs.declared.result.Result.{Result}
use Rattle.cas_outside.specs.declared.Failed.{Failed}
use Rattle.cas_outside.specs.declared.mem_source.MemSource.{MemSource}
use Rattle.cas_outside.specs.Plan.{is_planned, next}

abbrev pub source_left : MemSource → Option (List ℕ)
source_left s = Some (drop s.at s.bytes.items)

pub record IsFreshSource (bytes fail : List ℕ) (s : MemSource) : Type 0 where
  pub bytes_are : source_left s ≡ Some bytes
  pub fail_is : s.fail.items ≡ fail
  pub calls : s.calls ≡ 0
  pub faults : s.faults ≡ 0

-- the call fails exactly where its number is listed, and is then counted as a fault
pub record ReadsAsPlanned (old new : MemSource) (result : Result ℕ Failed) : Type 0 where
  pub calls : new.calls ≡ next old.calls
  pub fail_stays : new.fail.items ≡ old.fail.items
  pub fails : is_err result ≡ is_planned old.fail.items new.calls
  pub faults : new.faults ≡ (if is_planned old.fail.items new.calls then next old.faults else old.faults)

-- a call gives as many bytes as there is room for, and none where it fails; the source goes on behind them
pub record GivesAll (room : ℕ) (old new : MemSource) (result : Result ℕ Failed) : Type 0 where
  pub bytes : new.bytes.items ≡ old.bytes.items
  pub at : MatchResult result (λ n. new.at ≡ old.at + n) (λ _. new.at ≡ old.at)
  pub gives : IfOk result (λ n. n ≡ min (length old.bytes.items - old.at) room)
