-- What loads give, in a legal history: exactly what was stored.
use Rattle.std.specs.Prelude.{◌≡◌, ℕ, ◌⊎◌, List, [], ◌∷◌, Some}
use Rattle.std.specs.FinMap as fin
use Rattle.cas_model.specs.declared.call.Call.{Call}
use Rattle.cas_model.specs.declared.call.Call.TheVariants.{Store, Load, Put, Get}
use Rattle.cas_model.specs.declared.call.Reply.{Reply}
use Rattle.cas_model.specs.declared.call.Reply.TheVariants.{Found}
use Rattle.cas_model.specs.declared.digest.Digest.{Digest}
use Rattle.cas_model.specs.declared.object.Object.{Object}
use Rattle.cas_model.specs.Object.{object_digest}
use Rattle.cas_model.specs.State.{State}
use Rattle.cas_model.specs.Step.{Entry, IsLegal}

-- each object stands under its own digest
abbrev pub HasOwnDigests : State → Type 0
HasOwnDigests s = (d : Digest) (o : Object) → fin.get s.objects d ≡ Some o → object_digest o ≡ d

-- the object is one of these
abbrev pub IsIn : Object → List Object → Type 0
IsIn o [] = ⊥
IsIn o (x ∷ xs) = (x ≡ o) ⊎ IsIn o xs

-- the object was in the opened state, or is one that is stored
abbrev pub IsKnown : State → List Object → Object → Type 0
IsKnown opened stored o = (fin.get opened.objects (object_digest o) ≡ Some o) ⊎ IsIn o stored

-- no two of the objects that were opened or are stored share a digest
abbrev pub ShareNoDigest : State → List Object → Type 0
ShareNoDigest opened stored = (a b : Object) → IsKnown opened stored a → IsKnown opened stored b → object_digest a ≡ object_digest b → a ≡ b

-- the object that a load found has the digest that it was asked for; and where no two objects share a digest, it is the only one that has it
pub record IsExact (opened : State) (stored : List Object) (d : Digest) (o : Object) : Type 0 where
  pub digest : object_digest o ≡ d
  pub only : ShareNoDigest opened stored → (x : Object) → IsKnown opened stored x → object_digest x ≡ d → x ≡ o

-- so is what this call found, where it is a load that found an object
abbrev pub FindsExactly : State → List Object → Call → Reply → Type 0
FindsExactly opened stored (Load d) (Found o) = IsExact opened stored d o
FindsExactly opened stored call reply = Unit {0}

-- so is what each load of the history found
abbrev pub LoadsAreExact : State → List Object → List Entry → Type 0
LoadsAreExact opened stored [] = Unit {0}
LoadsAreExact opened stored (entry ∷ earlier) = FindsExactly opened stored entry.call entry.reply × LoadsAreExact opened stored earlier

-- what this call stores, if anything, is one of these
abbrev pub IsAmong : List Object → Call → Type 0
IsAmong stored (Store o) = IsIn o stored
IsAmong stored (Load d) = Unit {0}
IsAmong stored (Put k v) = Unit {0}
IsAmong stored (Get k) = Unit {0}

-- the history stores only such objects
abbrev pub StoresOnly : List Object → List Entry → Type 0
StoresOnly stored [] = Unit {0}
StoresOnly stored (entry ∷ earlier) = IsAmong stored entry.call × StoresOnly stored earlier

-- each load of a legal history is exact, where it begins with a state that has each object under its own digest
abbrev pub LegalLoadsAreExact : Type 0
LegalLoadsAreExact = (size : ℕ) (opened closed : State) (stored : List Object) (entries : List Entry) → HasOwnDigests opened → IsLegal size opened entries closed
    → StoresOnly stored entries → LoadsAreExact opened stored entries
