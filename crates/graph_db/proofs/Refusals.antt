-- Why a store was refused, one clause a kind.
use Rattle.std.proofs.Common.{Ok, Err, IfErr}
use Rattle.std.specs.declared.result.Result.{Result}
use Rattle.cas_model.specs.declared.call.Call.TheVariants.{Store}
use Rattle.cas_model.specs.declared.call.Who.{Who}
use Rattle.cas_model.specs.declared.object.Object.{Object}
use Rattle.cas_history.specs.Cost.{object_cost}
use Rattle.cas_port.specs.View.{View}
use Rattle.graph_db.specs.declared.error.StoreError.{StoreError}
use Rattle.graph_db.specs.declared.error.StoreError.TheVariants.{Dangling, Full, Memory}
use Rattle.graph_db.specs.Errors.{IfDangling, IfFull, OnMemory}
use Rattle.graph_db.specs.Events.{Stops}
use Rattle.graph_db.specs.Stores.{HasNoRoom, IsDangling, IsRefused}

module _ {T : Type 0} (who : Who) (o : Object) (old new : View) where
  pub to-dangling : (result : Result T StoreError) → IfErr result (IsRefused who o old new) → IfErr result (IfDangling (IsDangling who o old new))
  to-dangling (Ok x) h = tt
  to-dangling (Err (Dangling i d)) h = h
  to-dangling (Err (Full full)) h = tt
  to-dangling (Err Memory) h = tt

  pub to-full : (result : Result T StoreError) → IfErr result (IsRefused who o old new) → IfErr result (IfFull (HasNoRoom who o old new))
  to-full (Ok x) h = tt
  to-full (Err (Dangling i d)) h = tt
  to-full (Err (Full full)) h = h
  to-full (Err Memory) h = tt

  pub to-memory : (result : Result T StoreError) → IfErr result (IsRefused who o old new) → IfErr result (OnMemory (Stops who (Store o) old new (object_cost o)))
  to-memory (Ok x) h = tt
  to-memory (Err (Dangling i d)) h = tt
  to-memory (Err (Full full)) h = tt
  to-memory (Err Memory) h = h

  pub all-refused : (result : Result T StoreError) → IfErr result (IfDangling (IsDangling who o old new)) → IfErr result (IfFull (HasNoRoom who o old new))
      → IfErr result (OnMemory (Stops who (Store o) old new (object_cost o))) → IfErr result (IsRefused who o old new)
  all-refused (Ok x) dangling full memory = tt
  all-refused (Err (Dangling i d)) dangling full memory = dangling
  all-refused (Err (Full f)) dangling full memory = full
  all-refused (Err Memory) dangling full memory = memory
