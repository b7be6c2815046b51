-- What a store leaves in its port.
use Rattle.std.specs.Prelude.{◌≡◌, ℕ, ◌+◌, List, true, not, ◌⊎◌, Some, IsSome, length}
use Rattle.cas_model.specs.declared.call.Call.TheVariants.{Store}
use Rattle.cas_model.specs.declared.call.Reply.TheVariants as reply
use Rattle.cas_model.specs.declared.call.Who.{Who}
use Rattle.cas_model.specs.declared.digest.Digest.{Digest}
use Rattle.cas_model.specs.declared.object.Object.{Object}
use Rattle.cas_model.specs.declared.place.Space.TheVariants.{Objects}
use Rattle.cas_model.specs.Content.{content_size}
use Rattle.cas_model.specs.Notes.{own_note, ref_note}
use Rattle.cas_model.specs.Object.{object_digest}
use Rattle.cas_model.specs.State.{has}
use Rattle.cas_model.specs.Step.{IsFirstLacked}
use Rattle.cas_model.specs.Tables.{place_of}
use Rattle.cas_history.specs.Conduct.{IsPart, missed, is_ref}
use Rattle.cas_history.specs.Cost.{object_cost}
use Rattle.cas_history.specs.History.{reply_where}
use Rattle.cas_port.specs.View.{View, tables}
use Rattle.graph_db.specs.declared.error.StoreError.{StoreError}
use Rattle.graph_db.specs.declared.error.StoreError.TheVariants.{Dangling, Full, Memory}
use Rattle.graph_db.specs.Events.{Ends, Last, Reads, Stops, binds, seen_state}

abbrev pub object_with : List Digest → List ℕ → Object
object_with refs bytes = record { refs = refs; «data» = bytes }

-- the call is decided by Stored, and the primary has the digest. What was there already has only been looked for and read
pub record HasStored (who : Who) (o : Object) (old new : View) (digest : Digest) : Type 0 where
  pub is : digest ≡ object_digest o
  pub there : has (seen_state new) digest ≡ true
  pub reads : has (seen_state old) digest ≡ true → Reads who old new
  pub ends : Ends who (Store o) (Some (reply.Stored digest)) old new (object_cost o)
  pub last : Last (own_note who) (Store o) (Some (reply.Stored digest)) new

-- the reference at this index is the first that the primary lacks, and the newest event missed it. It decides the call where the upstream lacks the
-- reference too, and else nothing. The call has only looked and read
pub record IsDangling (who : Who) (o : Object) (old new : View) (i : ℕ) (digest : Digest) : Type 0 where
  pub first : IsFirstLacked (seen_state new) o.refs i digest
  pub reads : Reads who old new
  pub ends : Ends who (Store o) (reply_where (not (has old.upstream digest)) (reply.Dangling i digest)) old new 0
  pub last : Last (ref_note who i) (Store o) (reply_where (not (has old.upstream digest)) (reply.Dangling i digest)) new
  pub missed : missed new.start who (is_ref i) new.seen ≡ true

-- the claim was for the content: it comes after the call has bound its digest, which is bound in what the port has seen
pub record IsForContent (who : Who) (o : Object) (old new : View) (asked : ℕ) : Type 0 where
  pub content : asked ≡ content_size (length o.refs) (length o.data)
  pub bound : IsSome (place_of (tables new).bound Objects (object_digest o))
  pub once : binds who new.seen ≡ binds who old.seen + 1

-- the claim was for a record or a subtrie, and the call has not bound its digest
pub record IsForPart (who : Who) (old new : View) (asked : ℕ) : Type 0 where
  pub part : IsPart asked
  pub never : binds who new.seen ≡ binds who old.seen

-- the newest event is a refused claim with these numbers, and decides the call. The record is bound before the content is claimed
pub record HasNoRoom (who : Who) (o : Object) (old new : View) (at asked size : ℕ) : Type 0 where
  pub ends : Ends who (Store o) (Some (reply.Full at asked size)) old new (object_cost o)
  pub last : Last (own_note who) (Store o) (Some (reply.Full at asked size)) new
  pub claim : IsForContent who o old new asked ⊎ IsForPart who old new asked

-- why a store was refused
abbrev pub IsRefused : Who → Object → View → View → StoreError → Type 0
IsRefused who o old new (Dangling i digest) = IsDangling who o old new i digest
IsRefused who o old new (Full full) = HasNoRoom who o old new full.at full.asked full.size
IsRefused who o old new Memory = Stops who (Store o) old new (object_cost o)
