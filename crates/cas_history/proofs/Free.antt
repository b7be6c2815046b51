-- A free block of a call stays free while other calls go on.
use Rattle.std.proofs.Common.{◌≡◌, ◌≢◌, ℕ, zero, suc, ◌+◌, ◌<◌, ◌≤◌, List, [], ◌∷◌, ◌++◌, Bool, true, false, cond, ◌==◌, ◌⊎◌, inl, inr, None, Some, length, refl, arith}
use Rattle.std.specs.declared.option.Option.{Option}
use Rattle.std.proofs.lemmas.Bool.{eqb-true}
use Rattle.cas_model.specs.declared.digest.Digest.{Digest}
use Rattle.cas_model.specs.declared.place.Place.{Place}
use Rattle.cas_model.specs.declared.place.Space.{Space}
use Rattle.cas_model.specs.declared.place.Space.TheVariants.{Objects, Actions}
use Rattle.cas_model.specs.declared.call.Who.{Who}
use Rattle.cas_model.specs.State.{State}
use Rattle.cas_history.specs.declared.event.Act.{Act}
use Rattle.cas_history.specs.declared.event.Act.TheVariants.{Look, Bind, Read, Claim, Room, Fill}
use Rattle.cas_history.specs.declared.event.Event.{Event}
use Rattle.cas_model.specs.declared.tables.Record.{Record}
use Rattle.cas_model.specs.Tables.{Tables, place_of, record_at, cell_of, HasClaim}
use Rattle.cas_history.specs.Run.{tables, after_act, bound_by, filled_by}
use Rattle.cas_history.specs.Lawful.{IsLawfulRun, IsFreeBlock, MayHappen, MayBind, MayFill, MayFillAt}
use Rattle.cas_history.specs.Laws.{AreOfOthers}
use Rattle.cas_history.proofs.Placed.{IsPlaced, claim-within, claims-apart, published-none, placed-run}

module _ (start s : Tables) (placed : IsPlaced start s) (him who : Who) (other : him ≢ who) (place n : ℕ) (free : IsFreeBlock s who place n) where
  -- a block of another call lies elsewhere
  elsewhere : (at m : ℕ) → HasClaim s.claims him at m → at ≡ place → ⊥
  elsewhere at m there same = step (claims-apart start.counter s.given s.claims him who at place m n placed.claims there free.claimed) where
    one : 0 < m
    one = (claim-within start.counter s.given s.claims him at m placed.claims there).2

    two : 0 < n
    two = (claim-within start.counter s.given s.claims who place n placed.claims free.claimed).2

    step : ((him ≡ who) × (at ≡ place) × (m ≡ n)) ⊎ (at + m ≤ place) ⊎ (place + n ≤ at) → ⊥
    step (inl e) = other e.0
    step (inr (inl h)) = omega (arith, h, same, one)
    step (inr (inr h)) = omega (arith, h, same, two)

  free-bind : (space : Space) (digest : Digest) (found own : Option Place) → MayBind s him found own → IsFreeBlock (bound_by s space digest found own) who place n
  free-bind space digest (Some p) own may = free
  free-bind space digest None None may = absurd may
  free-bind space digest None (Some own) may = record {
    claimed = free.claimed;
    no_record = step (own.at == place) refl;
    no_content = free.no_content;
  } where
    step : (b : Bool) → (own.at == place) ≡ b → cond b (Some (record { space = space; digest = digest; place = own })) (record_at s.bound place) ≡ None
    step true test = absurd (elsewhere own.at 5 may.claimed (eqb-true own.at place test))
    step false test = free.no_record

  free-filled : (had : ℕ) (cell : Place) (value : ℕ) (words : List ℕ) → ((words ≡ [] → ⊥) → HasClaim s.claims him value (length words))
      → IsFreeBlock (filled_by s had cell value words) who place n
  free-filled (suc had) cell value words claimed = free
  free-filled zero cell value words claimed = record {
    claimed = free.claimed;
    no_record = free.no_record;
    no_content = published-none value words s.blocks place (λ many e. elsewhere value (length words) (claimed many) e) free.no_content;
  }

  fill-claimed : (up : State) (space : Space) (d : Digest) (value : ℕ) (words : List ℕ) → MayFill up s him space d value words → (words ≡ [] → ⊥) → HasClaim s.claims him value (length words)
  fill-claimed up Objects d value words may many = may.free.claimed
  fill-claimed up Actions d value words may many = absurd (many may.no_words)

  fill-at-claimed : (up : State) (found : Option Record) (value : ℕ) (words : List ℕ) → MayFillAt up s him found value words → (words ≡ [] → ⊥) → HasClaim s.claims him value (length words)
  fill-at-claimed up None value words may many = absurd may
  fill-at-claimed up (Some r) value words may many = fill-claimed up r.space r.digest value words may many

  pub free-act : (up : State) (act : Act) → MayHappen up s him act → IsFreeBlock (after_act s him act) who place n
  free-act up (Look space digest) may = free
  free-act up (Bind space digest own) may = free-bind space digest (place_of s.bound space digest) own may
  free-act up (Read cell) may = free
  free-act up (Claim m) may = record { claimed = inr free.claimed; no_record = free.no_record; no_content = free.no_content }
  free-act up (Room m moved) may = record { claimed = free.claimed; no_record = free.no_record; no_content = free.no_content }
  free-act up (Fill cell value words) may = free-filled (cell_of s.filled cell.at) cell value words (fill-at-claimed up (record_at s.bound cell.at) value words may)

pub free-more : (up : State) (start : Tables) (more seen : List Event) (who : Who) (place n : ℕ) → IsLawfulRun up start (more ++ seen) → AreOfOthers who more
    → IsFreeBlock (tables start seen) who place n → IsFreeBlock (tables start (more ++ seen)) who place n
free-more up start [] seen who place n lawful others free = free
free-more up start (e ∷ es) seen who place n lawful others free =
    free-act start (tables start (es ++ seen)) (placed-run up start (es ++ seen) lawful.0) e.note.who who others.0 place n (free-more up start es seen who place n lawful.0 others.1 free) up e.act lawful.1
