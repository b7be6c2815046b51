-- Calls where there is no upstream: what the calls over a port leave, as one call of a store.
use Rattle.std.proofs.Common.{◌≡◌, ℕ, ◌+◌, ◌≤◌, Bool, false, not, inl, inr, [], IsTrue, OnErr, Ok, Err, None, Some, is_none, is_some, refl, ap, sym, ◌∙◌, subst, arith}
use Rattle.std.specs.declared.option.Option.{Option}
use Rattle.std.specs.declared.result.Result.{Result}
use Rattle.std.specs.FinMap as fin
use Rattle.cas_model.specs.declared.call.Call.{Call}
use Rattle.cas_model.specs.declared.call.Call.TheVariants.{Store, Load, Put, Get}
use Rattle.cas_model.specs.declared.call.Reply.{Reply}
use Rattle.cas_model.specs.declared.call.Reply.TheVariants as reply
use Rattle.cas_model.specs.declared.call.Who.{Who}
use Rattle.cas_model.specs.declared.digest.Digest.{Digest}
use Rattle.cas_model.specs.declared.note.Note.{Note}
use Rattle.cas_model.specs.declared.object.Object.{Object}
use Rattle.cas_model.specs.State.{State, digest_cmp, empty_state, has}
use Rattle.cas_history.specs.Cost.{asked, own_cost, IsWithinCost}
use Rattle.cas_history.specs.History.{reply_where}
use Rattle.cas_port.specs.View.{View}
use Rattle.graph_db.specs.Events.{Ends, Last, IsBrought}
use Rattle.graph_db.specs.Events as graph
use Rattle.cas_model.specs.Notes as notes
use Rattle.graph_db.specs.Stores as stores
use Rattle.graph_db.specs.Loads as loads
use Rattle.action_cache.specs.Puts as puts
use Rattle.action_cache.specs.Gets as gets
use Rattle.unified_cas.specs.Answers.{Answers, Stops, LoadStops, CostsAtMost}

-- ---- the empty upstream

pub has-none : (up : State) (d : Digest) → up ≡ empty_state → has up d ≡ false
has-none up d is = ap (λ (s : State). has s d) is ∙ ap is_some (fin.get-empty digest_cmp d)

pub no-value : (up : State) (k : Digest) → up ≡ empty_state → fin.get up.cache k ≡ None
no-value up k is = ap (λ (s : State). fin.get s.cache k) is ∙ fin.get-empty digest_cmp k

pub brought : (v : View) (d : Digest) → v.upstream ≡ empty_state → IsBrought v d
brought v d is there = let none = has-none v.upstream d is in cc

-- a fact that always holds, as one for an error
pub on-error : {T E : Type 0} {P : Type 0} (result : Result T E) → P → OnErr result P
on-error (Ok x) p = tt
on-error (Err e) p = p

-- ---- what a call leaves

within : (up : State) (call : Call) (n : ℕ) → n ≤ own_cost call → IsWithinCost up call n
within up call n most = record { rows = []; tree = tt; most = omega (arith, most) }

costs : (who : Who) (call : Call) (old new : View) (n : ℕ) → n ≤ own_cost call → asked who new.seen ≤ asked who old.seen + n → CostsAtMost who call old new
costs who call old new n most cost = record { words = n; within = within old.upstream call n most; most = cost }

answers : (who : Who) (call : Call) (given : Reply) (old new : View) (n : ℕ) (note : Note) → Ends who call (Some given) old new n → n ≤ own_cost call → note.who ≡ who → Last note call (Some given) new
    → Answers who call given old new
answers who call given old new n note ends most own last =
    record { goes = ends.goes; stands = ends.stands; cost = costs who call old new n most ends.cost; note = note; own = own; last = last }

-- a call that the upstream's lack decides
lacking : (who : Who) (call : Call) (given : Reply) (old new : View) (there : Bool) (note : Note) → there ≡ false → Ends who call (reply_where (not there) given) old new 0
    → note.who ≡ who → Last note call (reply_where (not there) given) new → Answers who call given old new
lacking who call given old new there note none ends own last =
    let some : reply_where (not there) given ≡ Some given = ap (λ b. reply_where (not b) given) none in
    answers who call given old new 0 note (subst (λ r. Ends who call r old new 0) some ends) (omega arith) own (subst (λ r. Last note call r new) some last)

stops : (who : Who) (call : Call) (old new : View) (n : ℕ) → n ≤ own_cost call → graph.Stops who call old new n → Stops who call old new
stops who call old new n most h = record {
  takes = inl h.takes;
  brings = inl h.takes;
  left = h.left;
  opened = h.opened;
  goes = h.ends.goes;
  stands = h.ends.stands;
  cost = costs who call old new n most h.ends.cost;
}

-- want of memory with no block left
ended : (who : Who) (call : Call) (old new : View) (n : ℕ) → n ≤ own_cost call → IsTrue old.takes_memory → Ends who call None old new n → Stops who call old new
ended who call old new n most takes ends =
    let same : new.opened ≡ old.opened = ap (λ (v : View). v.opened) ends.goes.is in
    record {
      takes = inl takes;
      brings = inl takes;
      left = [];
      opened = same;
      goes = record { more = ends.goes.more; is = ap (λ (v : View). record v { opened = old.opened }) ends.goes.is; own = ends.goes.own };
      stands = ends.stands;
      cost = costs who call old new n most ends.cost;
    }

-- ---- the four calls

pub stored : (who : Who) (o : Object) (old new : View) (d : Digest) → stores.HasStored who o old new d → Answers who (Store o) (reply.Stored d) old new
stored who o old new d h = answers who (Store o) (reply.Stored d) old new _ (notes.own_note who) h.ends (omega arith) refl h.last

pub found : (who : Who) (d : Digest) (o : Object) (old new : View) → loads.HasFound who d old new o → Answers who (Load d) (reply.Found o) old new
found who d o old new h = answers who (Load d) (reply.Found o) old new 0 (notes.own_note who) h.ends (omega arith) refl h.last

pub missing : (who : Who) (d : Digest) (old new : View) → old.upstream ≡ empty_state → loads.IsMissing who d old new → Answers who (Load d) reply.Missing old new
missing who d old new none h =
    lacking who (Load d) reply.Missing old new (has old.upstream d) (notes.own_note who) (has-none old.upstream d none) h.ends refl h.last

pub load-stops : (who : Who) (d : Digest) (old new : View) → loads.LoadStops who d old new → LoadStops who d old new
load-stops who d old new h = elim h [ inl early ↦ inl (stops who (Load d) old new 0 (omega arith) early) | inr late ↦ inr (late.0, found who d late.0 old new late.1) ]

pub kept : (who : Who) (k v d : Digest) (old new : View) → puts.HasKept who k v old new d → Answers who (Put k v) (reply.Kept d) old new
kept who k v d old new h = answers who (Put k v) (reply.Kept d) old new _ (notes.key_note who) h.ends (omega arith) refl h.last

pub put-refused : (who : Who) (k v : Digest) (old new : View) (i : ℕ) (d : Digest) → old.upstream ≡ empty_state → puts.LacksValue who k v old new i d
    → Answers who (Put k v) (reply.Dangling i d) old new
put-refused who k v old new i d none h =
    subst (λ n. Answers who (Put k v) (reply.Dangling n d) old new) (sym h.first)
    (subst (λ w. Answers who (Put k v) (reply.Dangling 0 w) old new) (sym h.is)
    (lacking who (Put k v) (reply.Dangling 0 v) old new (has old.upstream v) (notes.ref_note who 0) (has-none old.upstream v none) h.ends refl h.last))

pub put-stops : (who : Who) (k v : Digest) (old new : View) → puts.PutStops who k v old new → Stops who (Put k v) old new
put-stops who k v old new h = ended who (Put k v) old new 997 (omega arith) h.takes h.ends

pub hit : (who : Who) (k v : Digest) (old new : View) → gets.HasHit who k old new v → Answers who (Get k) (reply.Hit v) old new
hit who k v old new h = answers who (Get k) (reply.Hit v) old new 0 (notes.key_note who) h.ends (omega arith) refl h.last

pub missed : (who : Who) (k : Digest) (old new : View) → old.upstream ≡ empty_state → gets.HasMissed who k old new → Answers who (Get k) reply.Miss old new
missed who k old new none h =
    let some : reply_where (is_none (fin.get old.upstream.cache k)) reply.Miss ≡ Some reply.Miss =
    ap (λ (w : Option Digest). reply_where (is_none w) reply.Miss) (no-value old.upstream k none) in
    answers who (Get k) reply.Miss old new 0 (notes.key_note who) (subst (λ r. Ends who (Get k) r old new 0) some h.ends) (omega arith) refl
    (subst (λ r. Last (notes.key_note who) (Get k) r new) some h.last)

pub get-stops : (who : Who) (k : Digest) (old new : View) → gets.GetStops who k old new → Stops who (Get k) old new
get-stops who k old new h = ended who (Get k) old new 0 (omega arith) h.takes h.ends
