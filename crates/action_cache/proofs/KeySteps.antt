-- What the conduct allows a call to do with its key, and whose the events of a key are.
use Rattle.std.proofs.Common.{◌≡◌, ℕ, zero, suc, ◌-◌, ◌<◌, List, [], ◌∷◌, ◌++◌, Bool, true, false, ◌&&◌, inl, inr, None, Some, is_none, refl, ap, sym, ◌∙◌, subst, arith, append_assoc, IfErr, Ok, Err}
use Rattle.std.specs.declared.option.Option.{Option}
use Rattle.std.specs.declared.result.Result.{Result}
use Rattle.std.specs.FinMap as fin
use Rattle.cas_model.specs.declared.call.Call.{Call}
use Rattle.cas_model.specs.declared.call.Call.TheVariants.{Store, Load, Put, Get}
use Rattle.cas_model.specs.declared.call.Reply.{Reply}
use Rattle.cas_model.specs.declared.call.Reply.TheVariants as reply
use Rattle.cas_model.specs.declared.call.Who.{Who}
use Rattle.cas_model.specs.declared.digest.Digest.{Digest}
use Rattle.cas_model.specs.declared.note.Note.{Note}
use Rattle.cas_model.specs.declared.note.Stage.TheVariants.{Key}
use Rattle.cas_model.specs.declared.place.Place.{Place}
use Rattle.cas_model.specs.declared.place.Space.TheVariants.{Actions}
use Rattle.cas_model.specs.State.{State}
use Rattle.cas_model.specs.Tables.{Tables, place_of, digest_at}
use Rattle.cas_history.specs.declared.event.Act.{Act}
use Rattle.cas_history.specs.declared.event.Act.TheVariants.{Look, Bind, Read, Claim, Room, Fill}
use Rattle.cas_history.specs.declared.event.Event.{Event}
use Rattle.cas_history.specs.Conduct.{MayAct, IsPart, IsValue, missed, is_key}
use Rattle.cas_history.specs.History.{decided, decided_at, reply_where, reply_with, got, is_miss, left_by}
use Rattle.cas_history.specs.Run.{tables as tables_after}
use Rattle.cas_port.specs.Calls.{BindClaims}
use Rattle.cas_port.specs.View.{View, Foreign}
use Rattle.graph_db.specs.Events.{AreOf, Goes}
use Rattle.graph_db.proofs.Sought.{there-more}
use Rattle.action_cache.specs.Keys.{MayKeep, kept_reply, AreOfKey, GoesOnKey}
use Rattle.cas_model.specs.Notes.{key_note}

-- ---- whose the events are

pub key-foreign : (speaks : ℕ → Bool) (who : Who) (es : List Event) → Foreign speaks es → AreOfKey speaks who es
key-foreign speaks who [] foreign = tt
key-foreign speaks who (e ∷ es) foreign = (inl foreign.0, key-foreign speaks who es foreign.1)

pub key-append : (speaks : ℕ → Bool) (who : Who) (xs ys : List Event) → AreOfKey speaks who xs → AreOfKey speaks who ys → AreOfKey speaks who (xs ++ ys)
key-append speaks who [] ys one two = two
key-append speaks who (x ∷ xs) ys one two = (one.0, key-append speaks who xs ys one.1 two)

pub key-claims : (speaks : ℕ → Bool) (who : Who) (es : List Event) (most : ℕ) → BindClaims speaks (key_note who) es most → AreOfKey speaks who es
key-claims speaks who [] most claims = tt
key-claims speaks who (e ∷ es) most (inl other) = (inl other.0, key-claims speaks who es most other.1)
key-claims speaks who (e ∷ es) most (inr his) = (inr (ap (λ (x : Event). x.note) his.1), key-claims speaks who es (most - his.0) his.4)

key-are : (speaks : ℕ → Bool) (who : Who) (es : List Event) → AreOfKey speaks who es → AreOf speaks who es
key-are speaks who [] own = tt
key-are speaks who (e ∷ es) own = (elim (own.0) [ inl other ↦ inl other | inr mine ↦ inr (ap (λ (n : Note). n.who) mine) ], key-are speaks who es own.1)

pub key-goes : (who : Who) (a b : View) → GoesOnKey who a b → Goes who a b
key-goes who a b g = record { more = g.more; is = g.is; own = key-are a.speaks who g.more g.own }

pub key-goes-self : (who : Who) (a : View) → GoesOnKey who a a
key-goes-self who a = record { more = []; is = refl; own = tt }

pub key-goes-then : (who : Who) (a b c : View) → GoesOnKey who a b → GoesOnKey who b c → GoesOnKey who a c
key-goes-then who a b c ab bc = record {
  more = bc.more ++ ab.more;
  is = bc.is ∙ ap (λ (v : View). record v { seen = bc.more ++ v.seen }) ab.is ∙ ap (λ (s : List Event). record a { seen = s }) (sym (append_assoc bc.more ab.more a.seen));
  own = key-append a.speaks who bc.more ab.more (subst (λ (f : ℕ → Bool). AreOfKey f who bc.more) (ap (λ (v : View). v.speaks) ab.is) bc.own) ab.own;
}

-- ---- what the conduct allows

pub key-more : (up : State) (start : Tables) (more seen : List Event) (who : Who) (call : Call) (key : Digest)
    → MayAct up start seen who call Key (Look Actions key) → MayAct up start (more ++ seen) who call Key (Look Actions key)
key-more up start more seen who (Store o) key may = absurd may
key-more up start more seen who (Load d) key may = absurd may
key-more up start more seen who (Put k v) key may = (there-more up start more seen who 0 (v ∷ []) may.0, may.1, tt)
key-more up start more seen who (Get k) key may = may

at-same : (s : Tables) (d its : Digest) (cell : Place) → d ≡ its → place_of s.bound Actions d ≡ Some cell → place_of s.bound Actions its ≡ Some cell
at-same s d its cell same at = subst (λ (x : Digest). place_of s.bound Actions x ≡ Some cell) same at

pub key-read : (up : State) (start : Tables) (seen : List Event) (who : Who) (call : Call) (key : Digest) (cell : Place)
    → MayAct up start seen who call Key (Look Actions key) → place_of (tables_after start seen).bound Actions key ≡ Some cell → MayAct up start seen who call Key (Read cell)
key-read up start seen who (Store o) key cell may at = absurd may
key-read up start seen who (Load d) key cell may at = absurd may
key-read up start seen who (Put k v) key cell may at = (may.0, at-same (tables_after start seen) key k cell may.1.1 at, tt)
key-read up start seen who (Get k) key cell may at = (at-same (tables_after start seen) key k cell may.0.1 at, tt)

pub key-bind : (up : State) (start : Tables) (seen : List Event) (who : Who) (call : Call) (key : Digest) (own : Option Place)
    → MayAct up start seen who call Key (Look Actions key) → MayAct up start seen who call Key (Bind Actions key own)
key-bind up start seen who (Store o) key own may = absurd may
key-bind up start seen who (Load d) key own may = absurd may
key-bind up start seen who (Put k v) key own may = may
key-bind up start seen who (Get k) key own may = may

pub key-claim : (up : State) (start : Tables) (seen : List Event) (who : Who) (call : Call) (key : Digest) (n : ℕ)
    → MayAct up start seen who call Key (Look Actions key) → IsPart n → missed start who is_key seen ≡ true → MayAct up start seen who call Key (Claim n)
key-claim up start seen who (Store o) key n may part miss = absurd may
key-claim up start seen who (Load d) key n may part miss = absurd may
key-claim up start seen who (Put k v) key n may part miss = (may.0, tt, (part, miss))
key-claim up start seen who (Get k) key n may part miss = (tt, (part, miss))

pub key-room : (up : State) (start : Tables) (seen : List Event) (who : Who) (call : Call) (key : Digest) (n : ℕ) (moved : Bool)
    → MayAct up start seen who call Key (Look Actions key) → IsPart n → missed start who is_key seen ≡ true → MayAct up start seen who call Key (Room n moved)
key-room up start seen who (Store o) key n moved may part miss = absurd may
key-room up start seen who (Load d) key n moved may part miss = absurd may
key-room up start seen who (Put k v) key n moved may part miss = (may.0, tt, (part, miss))
key-room up start seen who (Get k) key n moved may part miss = (tt, (part, miss))

pub key-fill : (up : State) (start : Tables) (seen : List Event) (who : Who) (call : Call) (key value : Digest) (cell : Place) (n : ℕ)
    → MayAct up start seen who call Key (Look Actions key) → place_of (tables_after start seen).bound Actions key ≡ Some cell → MayKeep up call value
    → digest_at (tables_after start seen).bound n ≡ value → MayAct up start seen who call Key (Fill cell n [])
key-fill up start seen who (Store o) key value cell n may at keep is = absurd may
key-fill up start seen who (Load d) key value cell n may at keep is = absurd may
key-fill up start seen who (Put k v) key value cell n may at keep is =
    (may.0, at-same (tables_after start seen) key k cell may.1.1 at, subst (λ (d : Digest). IsValue (fin.get up.cache k) v d) (sym is) keep)
key-fill up start seen who (Get k) key value cell n may at keep is =
    (at-same (tables_after start seen) key k cell may.0.1 at, keep ∙ ap (λ (d : Digest). Some d) (sym is))

-- ---- what the events decide

-- a look that finds the key's record decides nothing
pub key-look-quiet : (up : State) (s : Tables) (call : Call) (key : Digest) → is_miss s (Look Actions key) ≡ false → decided up s call Key (Look Actions key) ≡ None
key-look-quiet up s (Store o) key h = refl
key-look-quiet up s (Load d) key h = refl
key-look-quiet up s (Put k v) key h = refl
key-look-quiet up s (Get k) key h = ap (λ b. reply_where (b && is_none (fin.get up.cache k)) reply.Miss) h

-- a filled cell decides the value
pub key-says : (up : State) (s : Tables) (call : Call) (act : Act) (cell : ℕ) → left_by s act ≡ cell → 0 < cell → decided_at up s call Key act ≡ kept_reply call (digest_at s.bound cell)
key-says up s (Store o) act cell left some = refl
key-says up s (Load d) act cell left some = refl
key-says up s (Put k v) act cell left some = ap (λ n. reply_with n (λ c. Some (reply.Kept (digest_at s.bound c)))) left ∙ with-some cell (λ c. Some (reply.Kept (digest_at s.bound c))) some where
  with-some : (n : ℕ) (f : ℕ → Option Reply) → 0 < n → reply_with n f ≡ f n
  with-some zero f some = absurd (omega (arith, some))
  with-some (suc n) f some = refl
key-says up s (Get k) act cell left some = ap (got up s k act) left ∙ got-some cell some where
  got-some : (n : ℕ) → 0 < n → got up s k act n ≡ Some (reply.Hit (digest_at s.bound n))
  got-some zero some = absurd (omega (arith, some))
  got-some (suc n) some = refl

-- ---- results

pub err-then : {T E : Type 0} {P Q : E → Type 0} (r : Result T E) → ((e : E) → P e → Q e) → IfErr r P → IfErr r Q
err-then (Ok x) f h = tt
err-then (Err e) f h = f e h
