-- The parts of a call over an upstream.
use Rattle.std.specs.Prelude.{◌≡◌, ℕ, ◌+◌, ◌≤◌, List, [], ◌∷◌, Bool, true, false, Ok, Err, Some, None, alloc_error}
use Rattle.std.specs.declared.alloc.AllocError.{AllocError}
use Rattle.std.specs.declared.option.Option.{Option}
use Rattle.std.specs.declared.result.Result.{Result}
use Rattle.cas_model.specs.declared.call.Call.{Call}
use Rattle.cas_model.specs.declared.call.Call.TheVariants.{Store, Load, Put}
use Rattle.cas_model.specs.declared.call.Reply.{Reply}
use Rattle.cas_model.specs.declared.call.Reply.TheVariants as reply
use Rattle.cas_model.specs.declared.call.Who.{Who}
use Rattle.cas_model.specs.declared.digest.Digest.{Digest}
use Rattle.cas_model.specs.Object.{digest_of}
use Rattle.cas_model.specs.State.{State, HasAll, has}
use Rattle.cas_history.specs.Conduct.{AreThere, CallOpen, is_shallow, missed}
use Rattle.cas_history.specs.Cost.{AreOfTree, Row, asked, rows_cost}
use Rattle.cas_port.specs.Calls.{IsLawful}
use Rattle.cas_port.specs.View.{View}
use Rattle.fault_in.specs.declared.error.FaultInError.{FaultInError}
use Rattle.fault_in.specs.declared.error.FaultInError.TheVariants as fault
use Rattle.fault_in.specs.Tree.{HasRows, HasTree}
use Rattle.graph_db.specs.declared.error.StoreError.{StoreError}
use Rattle.graph_db.specs.declared.error.StoreError.TheVariants as store
use Rattle.graph_db.specs.Events.{Ends, Goes, Last, Reads, seen_state}
use Rattle.graph_db.specs.Events as graph
use Rattle.graph_db.specs.Storing.{IsLawfulOrSame}
use Rattle.graph_db.specs.Stores.{object_with}
use Rattle.cas_model.specs.Notes.{ref_note}
use Rattle.unified_cas.specs.declared.storing.FoundRefs.{FoundRefs}
use Rattle.unified_cas.specs.declared.storing.FoundRefs.TheVariants.{All, Lacking, Absent}
use Rattle.unified_cas.specs.Answers.{Answers, Stops, LoadStops}
use Rattle.unified_cas.specs.Reading.{ReadsAlone}
use Rattle.unified_cas.specs.Upstream.{AreVisible, HasToBring, IsLacking, LacksOne, NeedsTree}

-- ---- a call goes on

-- the first events of a call: they keep its conduct and do not decide it, and their claims ask together for at most the cost of these objects of its
-- tree, which the primary has now
pub record IsUnderWay (who : Who) (call : Call) (old new : View) : Type 0 where
  pub lawful : IsLawfulOrSame old new
  pub goes : Goes who old new
  pub stands : (calls : Who → Option Call) → calls who ≡ Some call → CallOpen old.upstream old.start calls who old.seen
      → CallOpen new.upstream new.start calls who new.seen
  pub rows : List Row
  pub tree : AreOfTree old.upstream call rows
  pub there : HasRows (seen_state new) rows
  pub most : asked who new.seen ≤ asked who old.seen + rows_cost rows

-- ---- a call ends early

-- a claim was refused, which decides the call, or memory was wanted
abbrev pub EndsEarly : Who → Call → View → View → FaultInError → Type 0
EndsEarly who call old new (fault.Full full) = Answers who call (reply.Full full.at full.asked full.size) old new
EndsEarly who call old new fault.Memory = Stops who call old new

-- the same of a load, for whose object there may be no memory
abbrev pub LoadEndsEarly : Who → Digest → View → View → FaultInError → Type 0
LoadEndsEarly who digest old new (fault.Full full) = Answers who (Load digest) (reply.Full full.at full.asked full.size) old new
LoadEndsEarly who digest old new fault.Memory = LoadStops who digest old new

-- a refused claim as a reply, and want of memory as an error
abbrev pub answer_of : Result Reply FaultInError → Result Reply AllocError
answer_of (Ok given) = Ok given
answer_of (Err (fault.Full full)) = Ok (reply.Full full.at full.asked full.size)
answer_of (Err fault.Memory) = Err alloc_error

-- an absent object as a reply, and all else as an early end
abbrev pub refused_as : StoreError → Result Reply FaultInError
refused_as (store.Dangling i digest) = Ok (reply.Dangling i digest)
refused_as (store.Full full) = Err (fault.Full full)
refused_as store.Memory = Err fault.Memory

abbrev pub stored_as : Result Digest StoreError → Result Reply FaultInError
stored_as (Ok digest) = Ok (reply.Stored digest)
stored_as (Err error) = refused_as error

abbrev pub kept_as : Result Digest StoreError → Result Reply FaultInError
kept_as (Ok value) = Ok (reply.Kept value)
kept_as (Err error) = refused_as error

-- the primary lacks an object that the upstream has
abbrev pub misses_of : State → Result Digest StoreError → Bool
misses_of up (Ok digest) = false
misses_of up (Err (store.Dangling i digest)) = has up digest
misses_of up (Err (store.Full full)) = false
misses_of up (Err store.Memory) = false

-- ---- bringing in a tree

-- the tree is whole in the primary, and each call that has it and missed before goes on
pub record HasTreeIn (who : Who) (root : Digest) (old new : View) : Type 0 where
  pub there : has (seen_state new) root ≡ true
  pub goes : Goes who old new
  pub goes_on : (first : View) (call : Call) → HasTree old.upstream call root → missed old.start who is_shallow old.seen ≡ true → IsUnderWay who call first old
      → IsUnderWay who call first new

-- each such call ends, if it has to bring something in wherever the upstream alone has the root
abbrev pub TreeStops : Who → Digest → View → View → FaultInError → Type 0
TreeStops who root old new error =
    (first : View) (call : Call) → HasTree old.upstream call root → missed old.start who is_shallow old.seen ≡ true → IsUnderWay who call first old
    → (IsLacking root old → HasToBring call first old) → EndsEarly who call first new error

-- ---- the references of a store

-- the call missed one of the references, which the upstream has
pub record HasMissedOne (who : Who) (refs : List Digest) (old new : View) : Type 0 where
  pub lawful : IsLawful old new
  pub one : LacksOne refs old
  pub missed : missed new.start who is_shallow new.seen ≡ true

-- the call missed one, or the primary has these
abbrev pub Misses : Who → List Digest → List Digest → Bool → View → View → Type 0
Misses who all refs true old new = HasMissedOne who all old new
Misses who all refs false old new = HasAll (seen_state new) refs

-- the call of each object with these references has only looked and read, and the first of them are there
pub record SeeksRefs (who : Who) (all refs : List Digest) (lacking : Bool) (old new : View) : Type 0 where
  pub lawful : IsLawfulOrSame old new
  pub reads : Reads who old new
  pub ends : (bytes : List ℕ) → Ends who (Store (object_with all bytes)) None old new 0
  pub there : AreThere new.upstream new.start new.seen who 0 refs
  pub visible : AreVisible new.upstream (seen_state new) refs
  pub misses : Misses who all refs lacking old new

-- a reference is absent, which decides the call. It has only looked and read
pub record IsAbsent (who : Who) (all : List Digest) (old new : View) (i : ℕ) (digest : Digest) : Type 0 where
  pub lawful : IsLawful old new
  pub reads : Reads who old new
  pub ends : (bytes : List ℕ) → Ends who (Store (object_with all bytes)) (Some (reply.Dangling i digest)) old new 0
  pub last : (bytes : List ℕ) → Last (ref_note who i) (Store (object_with all bytes)) (Some (reply.Dangling i digest)) new

abbrev pub FindsRefs : Who → List Digest → View → View → FoundRefs → Type 0
FindsRefs who refs old new All = SeeksRefs who refs refs false old new
FindsRefs who refs old new Lacking = SeeksRefs who refs refs true old new
FindsRefs who refs old new (Absent i digest) = IsAbsent who refs old new i digest

-- memory was wanted by the port
abbrev pub FindStops : Who → List Digest → View → View → Type 0
FindStops who refs old new = (bytes : List ℕ) → graph.Stops who (Store (object_with refs bytes)) old new 0

-- the primary has each of these references, and the call of each object that has them all goes on
pub record BringsRefs (who : Who) (all refs : List Digest) (old new : View) : Type 0 where
  pub lawful : IsLawfulOrSame old new
  pub goes : Goes who old new
  pub there : HasAll (seen_state new) refs
  pub goes_on : (first : View) (bytes : List ℕ) → IsUnderWay who (Store (object_with all bytes)) first old → IsUnderWay who (Store (object_with all bytes)) first new

-- the call of each object with these references ends, if one is lacking
abbrev pub RefsStop : Who → List Digest → View → View → FaultInError → Type 0
RefsStop who refs old new error =
    (first : View) (bytes : List ℕ) → IsUnderWay who (Store (object_with refs bytes)) first old → NeedsTree (Store (object_with refs bytes)) first → LacksOne refs first
    → EndsEarly who (Store (object_with refs bytes)) first new error

-- the references are in the primary, and the call goes on. Where they were there before, it has only looked and read
pub record HasRefsIn (who : Who) (refs : List Digest) (old new : View) : Type 0 where
  pub reads : HasAll (seen_state old) refs → Reads who old new
  pub brings : BringsRefs who refs refs old new
  pub found : AreThere new.upstream new.start new.seen who 0 refs

-- the call of each object with these references is answered, and has only looked and read
pub record AnswersRefs (who : Who) (refs : List Digest) (old new : View) (given : Reply) : Type 0 where
  pub lawful : IsLawful old new
  pub reads : Reads who old new
  pub answers : (first : View) (bytes : List ℕ) → IsUnderWay who (Store (object_with refs bytes)) first old → Answers who (Store (object_with refs bytes)) given first new

-- the references are in, or the call is answered
abbrev pub SettlesRefs : Who → List Digest → View → View → Option Reply → Type 0
SettlesRefs who refs old new None = HasRefsIn who refs old new
SettlesRefs who refs old new (Some given) = AnswersRefs who refs old new given

abbrev pub SettleStops : Who → List Digest → View → View → FaultInError → Type 0
SettleStops who refs old new error =
    (first : View) (bytes : List ℕ) → IsUnderWay who (Store (object_with refs bytes)) first old → EndsEarly who (Store (object_with refs bytes)) first new error

-- the store of each object with these references and this digest is answered, or ends early
abbrev pub AnswersKnown : Who → List Digest → Digest → View → View → Reply → Type 0
AnswersKnown who refs digest old new given = (bytes : List ℕ) → digest ≡ digest_of refs bytes → Answers who (Store (object_with refs bytes)) given old new

abbrev pub KnownEndsEarly : Who → List Digest → Digest → View → View → FaultInError → Type 0
KnownEndsEarly who refs digest old new error = (bytes : List ℕ) → digest ≡ digest_of refs bytes → EndsEarly who (Store (object_with refs bytes)) old new error

-- the store of each object with these references and this digest has only looked and read, where its reply says so
abbrev pub ReadsKnown : Who → List Digest → Digest → View → View → Reply → Type 0
ReadsKnown who refs digest old new given = (bytes : List ℕ) → digest ≡ digest_of refs bytes → ReadsAlone who (Store (object_with refs bytes)) given old new

-- ---- the value of a put

-- the call of each key has only looked and read, and its value is the upstream's or was found
pub record HasFoundValue (who : Who) (value : Digest) (old new : View) : Type 0 where
  pub reads : Reads who old new
  pub visible : AreVisible new.upstream (seen_state new) (value ∷ [])
  pub ends : (key : Digest) → Ends who (Put key value) None old new 0
  pub there : AreThere new.upstream new.start new.seen who 0 (value ∷ [])

-- the value is absent, which decides the call of each key. It has only looked and read
pub record IsAbsentValue (who : Who) (value : Digest) (old new : View) : Type 0 where
  pub reads : Reads who old new
  pub ends : (key : Digest) → Ends who (Put key value) (Some (reply.Dangling 0 value)) old new 0
  pub last : (key : Digest) → Last (ref_note who 0) (Put key value) (Some (reply.Dangling 0 value)) new

abbrev pub FindsValue : Who → Digest → View → View → Bool → Type 0
FindsValue who value old new true = HasFoundValue who value old new
FindsValue who value old new false = IsAbsentValue who value old new

-- memory was wanted by the port
abbrev pub ValueStops : Who → Digest → View → View → Type 0
ValueStops who value old new = (key : Digest) → graph.Stops who (Put key value) old new 0
