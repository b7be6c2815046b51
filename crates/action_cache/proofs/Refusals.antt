-- Why a put was refused, one clause a kind.
use Rattle.std.proofs.Common.{Ok, Err, IfErr}
use Rattle.std.specs.declared.result.Result.{Result}
use Rattle.cas_model.specs.declared.call.Who.{Who}
use Rattle.cas_model.specs.declared.digest.Digest.{Digest}
use Rattle.cas_port.specs.View.{View}
use Rattle.graph_db.specs.declared.error.StoreError.{StoreError}
use Rattle.graph_db.specs.declared.error.StoreError.TheVariants.{Dangling, Full, Memory}
use Rattle.graph_db.specs.Errors.{IfDangling, IfFull, OnMemory}
use Rattle.action_cache.specs.Puts.{HasNoRoom, IsRefused, LacksValue, PutStops}

module _ {T : Type 0} (who : Who) (key value : Digest) (old new : View) where
  pub to-dangling : (result : Result T StoreError) → IfErr result (IsRefused who key value old new) → IfErr result (IfDangling (LacksValue who key value old new))
  to-dangling (Ok x) h = tt
  to-dangling (Err (Dangling i d)) h = h
  to-dangling (Err (Full full)) h = tt
  to-dangling (Err Memory) h = tt

  pub to-full : (result : Result T StoreError) → IfErr result (IsRefused who key value old new) → IfErr result (IfFull (HasNoRoom who key value old new))
  to-full (Ok x) h = tt
  to-full (Err (Dangling i d)) h = tt
  to-full (Err (Full full)) h = h
  to-full (Err Memory) h = tt

  pub to-memory : (result : Result T StoreError) → IfErr result (IsRefused who key value old new) → IfErr result (OnMemory (PutStops who key value old new))
  to-memory (Ok x) h = tt
  to-memory (Err (Dangling i d)) h = tt
  to-memory (Err (Full full)) h = tt
  to-memory (Err Memory) h = h

  pub all-refused : (result : Result T StoreError) → IfErr result (IfDangling (LacksValue who key value old new)) → IfErr result (IfFull (HasNoRoom who key value old new))
      → IfErr result (OnMemory (PutStops who key value old new)) → IfErr result (IsRefused who key value old new)
  all-refused (Ok x) dangling full memory = tt
  all-refused (Err (Dangling i d)) dangling full memory = dangling
  all-refused (Err (Full f)) dangling full memory = full
  all-refused (Err Memory) dangling full memory = memory
