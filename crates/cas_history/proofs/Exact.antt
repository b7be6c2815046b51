-- Loads of a legal history find what was opened or stored.
use Rattle.std.proofs.Common.{◌≡◌, ℕ, ◌⊎◌, inl, inr, List, [], ◌∷◌, Bool, true, false, cond, None, Some, refl, ap, sym, ◌∙◌, subst}
use Rattle.std.specs.declared.option.Option.{Option}
use Rattle.std.specs.FinMap as fin
use Rattle.cas_model.specs.declared.call.Call.{Call}
use Rattle.cas_model.specs.declared.call.Call.TheVariants.{Store, Load, Put, Get}
use Rattle.cas_model.specs.declared.call.Reply.{Reply}
use Rattle.cas_model.specs.declared.call.Reply.TheVariants.{Stored, Found, Missing, Kept, Hit, Miss, Dangling, Full}
use Rattle.cas_model.specs.declared.digest.Digest.{Digest}
use Rattle.cas_model.specs.declared.object.Object.{Object}
use Rattle.cas_model.specs.Object.{object_digest}
use Rattle.cas_model.specs.State.{State, digest_cmp}
use Rattle.cas_model.specs.Step.{Entry, IsLegal, Step, Keeps, added}
use Rattle.cas_model.specs.Tables.{same_digest}
use Rattle.cas_model.proofs.Maps.{get-put, same-is}
use Rattle.cas_history.specs.Loads.{IsIn, IsKnown, IsExact, FindsExactly, LoadsAreExact, IsAmong, StoresOnly, HasOwnDigests}

-- each object of the state stands under its own digest, and is known
pub record HasKnown (opened : State) (stored : List Object) (s : State) : Type 0 where
  pub own : (d : Digest) (o : Object) → fin.get s.objects d ≡ Some o → object_digest o ≡ d
  pub known : (d : Digest) (o : Object) → fin.get s.objects d ≡ Some o → IsKnown opened stored o

some-is : {X : Type 0} (a b : X) → Some a ≡ Some b → a ≡ b
some-is a b h = cc h

as-opened : (opened : State) (stored : List Object) → HasOwnDigests opened → HasKnown opened stored opened
as-opened opened stored own = record { own = own; known = λ d o there. inl (subst (λ x. fin.get opened.objects x ≡ Some o) (sym (own d o there)) there) }

same-known : (opened : State) (stored : List Object) (s new : State) → HasKnown opened stored s → new ≡ s → HasKnown opened stored new
same-known opened stored s new h is = subst (λ (x : State). HasKnown opened stored x) (sym is) h

-- the object under a digest, after one was added: the new one under its own digest, and else the old
one-of : (m : fin.FinMap digest_cmp Object) (o : Object) (d : Digest) (x : Object) → fin.get (fin.insert m (object_digest o) o) d ≡ Some x
    → ((object_digest o ≡ d) × (x ≡ o)) ⊎ (fin.get m d ≡ Some x)
one-of m o d x there = step (same_digest d (object_digest o)) refl (sym (get-put m (object_digest o) o d) ∙ there) where
  step : (b : Bool) → same_digest d (object_digest o) ≡ b → cond b (Some o) (fin.get m d) ≡ Some x → ((object_digest o ≡ d) × (x ≡ o)) ⊎ (fin.get m d ≡ Some x)
  step true test h = inl (sym (same-is d (object_digest o) test), sym (some-is o x h))
  step false test h = inr h

stored-known : (opened : State) (stored : List Object) (s : State) (o : Object) (there : Option Object) → HasKnown opened stored s → IsIn o stored → HasKnown opened stored (added s o there)
stored-known opened stored s o (Some x) h is = h
stored-known opened stored s o None h is = record {
  own = λ d x there. elim (one-of s.objects o d x there) [ inl new ↦ ap object_digest new.1 ∙ new.0 | inr old ↦ h.own d x old ];
  known = λ d x there. elim (one-of s.objects o d x there) [ inl new ↦ inr (subst (λ y. IsIn y stored) (sym new.1) is) | inr old ↦ h.known d x old ];
}

kept-known : (opened : State) (stored : List Object) (s : State) (k v : Digest) (there : Option Digest) (kept : Digest) (new : State) → HasKnown opened stored s → Keeps s k v there kept new
    → HasKnown opened stored new
kept-known opened stored s k v (Some w) kept new h step = same-known opened stored s new h step.1
kept-known opened stored s k v None kept new h step =
    subst (λ (x : State). HasKnown opened stored x) (sym step.1) (record { own = h.own; known = h.known })

-- what stands after a step is known
step-known : (opened : State) (stored : List Object) (size : ℕ) (s new : State) (call : Call) (reply : Reply) → HasKnown opened stored s → Step size s call reply new → IsAmong stored call
    → HasKnown opened stored new
step-known opened stored size s new (Store o) (Stored d) h step among =
    same-known opened stored (added s o (fin.get s.objects (object_digest o))) new (stored-known opened stored s o (fin.get s.objects (object_digest o)) h among) step.2
step-known opened stored size s new (Store o) (Dangling i d) h step among = same-known opened stored s new h step.1
step-known opened stored size s new (Store o) (Full at asked limit) h step among = same-known opened stored s new h step.1
step-known opened stored size s new (Store o) (Found x) h step among = absurd step
step-known opened stored size s new (Store o) Missing h step among = absurd step
step-known opened stored size s new (Store o) (Kept d) h step among = absurd step
step-known opened stored size s new (Store o) (Hit d) h step among = absurd step
step-known opened stored size s new (Store o) Miss h step among = absurd step
step-known opened stored size s new (Load d) (Found o) h step among = same-known opened stored s new h step.1
step-known opened stored size s new (Load d) Missing h step among = same-known opened stored s new h step.1
step-known opened stored size s new (Load d) (Full at asked limit) h step among = same-known opened stored s new h step.1
step-known opened stored size s new (Load d) (Stored x) h step among = absurd step
step-known opened stored size s new (Load d) (Dangling i x) h step among = absurd step
step-known opened stored size s new (Load d) (Kept x) h step among = absurd step
step-known opened stored size s new (Load d) (Hit x) h step among = absurd step
step-known opened stored size s new (Load d) Miss h step among = absurd step
step-known opened stored size s new (Put k v) (Kept d) h step among = kept-known opened stored s k v (fin.get s.cache k) d new h step.1
step-known opened stored size s new (Put k v) (Dangling i d) h step among = same-known opened stored s new h step.1
step-known opened stored size s new (Put k v) (Full at asked limit) h step among = same-known opened stored s new h step.1
step-known opened stored size s new (Put k v) (Stored x) h step among = absurd step
step-known opened stored size s new (Put k v) (Found x) h step among = absurd step
step-known opened stored size s new (Put k v) Missing h step among = absurd step
step-known opened stored size s new (Put k v) (Hit x) h step among = absurd step
step-known opened stored size s new (Put k v) Miss h step among = absurd step
step-known opened stored size s new (Get k) (Hit d) h step among = same-known opened stored s new h step.1
step-known opened stored size s new (Get k) Miss h step among = same-known opened stored s new h step.1
step-known opened stored size s new (Get k) (Full at asked limit) h step among = same-known opened stored s new h step.1
step-known opened stored size s new (Get k) (Stored x) h step among = absurd step
step-known opened stored size s new (Get k) (Found x) h step among = absurd step
step-known opened stored size s new (Get k) Missing h step among = absurd step
step-known opened stored size s new (Get k) (Kept x) h step among = absurd step
step-known opened stored size s new (Get k) (Dangling i x) h step among = absurd step

exact-in : (opened : State) (stored : List Object) (s : State) (d : Digest) (o : Object) → HasKnown opened stored s → fin.get s.objects d ≡ Some o → IsExact opened stored d o
exact-in opened stored s d o h there = record {
  digest = h.own d o there;
  only = λ apart x known is. apart x o known (h.known d o there) (is ∙ sym (h.own d o there));
}

step-exact : (opened : State) (stored : List Object) (size : ℕ) (s new : State) (call : Call) (reply : Reply) → HasKnown opened stored s → Step size s call reply new
    → FindsExactly opened stored call reply
step-exact opened stored size s new (Load d) (Found o) h step = exact-in opened stored s d o h step.0
step-exact opened stored size s new (Load d) Missing h step = tt
step-exact opened stored size s new (Load d) (Full at asked limit) h step = tt
step-exact opened stored size s new (Load d) (Stored x) h step = tt
step-exact opened stored size s new (Load d) (Dangling i x) h step = tt
step-exact opened stored size s new (Load d) (Kept x) h step = tt
step-exact opened stored size s new (Load d) (Hit x) h step = tt
step-exact opened stored size s new (Load d) Miss h step = tt
step-exact opened stored size s new (Store o) reply h step = tt
step-exact opened stored size s new (Put k v) reply h step = tt
step-exact opened stored size s new (Get k) reply h step = tt

known-at : (size : ℕ) (opened closed : State) (stored : List Object) (entries : List Entry) → HasOwnDigests opened → IsLegal size opened entries closed → StoresOnly stored entries
    → HasKnown opened stored closed
known-at size opened closed stored [] own legal only = same-known opened stored opened closed (as-opened opened stored own) legal
known-at size opened closed stored (entry ∷ earlier) own legal only =
    step-known opened stored size legal.0 closed entry.call entry.reply (known-at size opened legal.0 stored earlier own legal.1 only.1) legal.2 only.0

pub loads-exact : (size : ℕ) (opened closed : State) (stored : List Object) (entries : List Entry) → HasOwnDigests opened → IsLegal size opened entries closed → StoresOnly stored entries
    → LoadsAreExact opened stored entries
loads-exact size opened closed stored [] own legal only = tt
loads-exact size opened closed stored (entry ∷ earlier) own legal only = (
  step-exact opened stored size legal.0 closed entry.call entry.reply (known-at size opened legal.0 stored earlier own legal.1 only.1) legal.2,
  loads-exact size opened legal.0 stored earlier own legal.1 only.1,
)
