-- The steps of a one-thread object store and action cache, and its legal histories.
use Rattle.std.specs.Prelude.{◌≡◌, ℕ, ◌+◌, ◌<◌, List, [], ◌∷◌, true, false, None, Some, take, slice_get}
use Rattle.std.specs.declared.option.Option.{Option}
use Rattle.std.specs.FinMap as fin
use Rattle.cas_model.specs.declared.digest.Digest.{Digest}
use Rattle.cas_model.specs.declared.object.Object.{Object}
use Rattle.cas_model.specs.declared.call.Who.{Who}
use Rattle.cas_model.specs.declared.call.Call.{Call}
use Rattle.cas_model.specs.declared.call.Call.TheVariants.{Store, Load, Put, Get}
use Rattle.cas_model.specs.declared.call.Reply.{Reply}
use Rattle.cas_model.specs.declared.call.Reply.TheVariants.{Stored, Found, Missing, Kept, Hit, Miss, Dangling, Full}
use Rattle.cas_model.specs.Object.{object_digest}
use Rattle.cas_model.specs.State.{State, has, HasAll}

-- the state with an object added under its digest, where nothing stands there yet
abbrev pub added : State → Object → Option Object → State
added s o (Some _) = s
added s o None = record s { objects = fin.insert s.objects (object_digest o) o }

-- a put keeps the value that is there, and else its own
abbrev pub Keeps : State → Digest → Digest → Option Digest → Digest → State → Type 0
Keeps s k v (Some there) kept new = (kept ≡ there) × (new ≡ s)
Keeps s k v None kept new = (kept ≡ v) × (new ≡ record s { cache = fin.insert s.cache k v })

-- the digest at this index is the first that the state lacks
abbrev pub IsFirstLacked : State → List Digest → ℕ → Digest → Type 0
IsFirstLacked s ds i d = HasAll s (take i ds) × (slice_get ds i ≡ Some d) × (has s d ≡ false)

-- a claim of so many words at this place passes the end
abbrev pub IsFull : ℕ → ℕ → ℕ → ℕ → Type 0
IsFull size at asked limit = (limit ≡ size) × (size < at + asked)

-- from the first state, a call may have this reply and leave the second state
abbrev pub Step : ℕ → State → Call → Reply → State → Type 0
Step size s (Store o) (Stored d) new = HasAll s o.refs × (d ≡ object_digest o) × (new ≡ added s o (fin.get s.objects (object_digest o)))
Step size s (Store o) (Dangling i d) new = IsFirstLacked s o.refs i d × (new ≡ s)
Step size s (Load d) (Found o) new = (fin.get s.objects d ≡ Some o) × (new ≡ s)
Step size s (Load d) Missing new = (has s d ≡ false) × (new ≡ s)
Step size s (Put k v) (Kept d) new = (has s v ≡ true) × Keeps s k v (fin.get s.cache k) d new
Step size s (Put k v) (Dangling i d) new = IsFirstLacked s (v ∷ []) i d × (new ≡ s)
Step size s (Get k) (Hit d) new = (fin.get s.cache k ≡ Some d) × (new ≡ s)
Step size s (Get k) Miss new = (fin.get s.cache k ≡ None) × (new ≡ s)
Step size s call (Full at asked limit) new = IsFull size at asked limit × (new ≡ s)
-- no other reply is given
Step size s call reply new = ⊥

-- one call that was answered
pub record Entry : Type 0 where
  pub who : Who
  pub call : Call
  pub reply : Reply

-- a legal history, the newest entry first
abbrev pub IsLegal : ℕ → State → List Entry → State → Type 0
IsLegal size s [] new = new ≡ s
IsLegal size s (entry ∷ earlier) new = (mid : State) × IsLegal size s earlier mid × Step size mid entry.call entry.reply new
