-- The named and the claimed blocks of a lawful run: where they lie, and that no two have a common word.
use Rattle.std.proofs.Common.{◌≡◌, ◌≢◌, ℕ, ◌+◌, ◌<◌, ◌≤◌, List, [], ◌∷◌, ◌++◌, false, cond, ◌⊎◌, inl, inr, None, Some, is_some, IsSome, length, refl, ap, sym, subst, arith}
use Rattle.std.specs.declared.option.Option.{Option}
use Rattle.cas_model.specs.declared.call.Who.{Who}
use Rattle.cas_model.specs.declared.tables.Record.{Record}
use Rattle.cas_model.specs.Start.{IsLawfulStart, IsNamed}
use Rattle.cas_model.specs.State.{State}
use Rattle.cas_model.specs.Tables.{Tables, HasClaim, place_of, record_at, cell_of, words_at}
use Rattle.cas_history.specs.declared.event.Act.{Act}
use Rattle.cas_history.specs.declared.event.Act.TheVariants.{Look, Bind, Read, Claim, Room, Fill}
use Rattle.cas_history.specs.declared.event.Event.{Event}
use Rattle.cas_history.specs.Laws.{NoneMoved, is_moved}
use Rattle.cas_history.specs.Lawful.{IsLawfulRun, IsFreeBlock, MayHappen}
use Rattle.cas_history.specs.Run.{tables, after_act}
use Rattle.cas_history.proofs.Grown.{size-same, bound-counter, filled-counter, room-grows}
use Rattle.cas_history.proofs.Placed.{IsPlaced, placed-run, lawful-start, between-least, claim-within, claims-apart}

-- ---- at one moment

module _ (start s : Tables) (lawful : IsLawfulStart start) (placed : IsPlaced start s) where
  -- a named block is the start's, or a claim gave it
  named-cases : (n w : ℕ) → IsNamed s n w → IsNamed start n w ⊎ ((who : Who) × HasClaim s.claims who n w)
  named-cases n w (inl (there, five)) = by_record (record_at s.bound n) refl there where
    by_cases : IsSome (record_at start.bound n) ⊎ ((who : Who) × HasClaim s.claims who n 5) → IsNamed start n w ⊎ ((who : Who) × HasClaim s.claims who n w)
    by_cases (inl old) = inl (inl (old, five))
    by_cases (inr (who, claim)) = inr (who, subst (λ (x : ℕ). HasClaim s.claims who n x) (sym five) claim)

    by_record : (o : Option Record) → record_at s.bound n ≡ o → IsSome o → IsNamed start n w ⊎ ((who : Who) × HasClaim s.claims who n w)
    by_record None is h = cc
    by_record (Some r) is h = by_cases (placed.records n r is)
  named-cases n w (inr (ws, there, long)) = by_cases (placed.blocks n ws there) where
    by_cases : (words_at start.blocks n ≡ Some ws) ⊎ ((who : Who) × HasClaim s.claims who n (length ws)) → IsNamed start n w ⊎ ((who : Who) × HasClaim s.claims who n w)
    by_cases (inl old) = inl (inr (ws, old, long))
    by_cases (inr (who, claim)) = inr (who, subst (λ (x : ℕ). HasClaim s.claims who n x) (sym long) claim)

  pub given-least : start.counter ≤ s.given
  given-least = between-least start.counter s.given s.claims placed.claims

  pub claim-fits : (who : Who) (n a : ℕ) → HasClaim s.claims who n a → (start.counter ≤ n) × (n + a ≤ s.given) × (0 < a)
  claim-fits who n a claim = claim-within start.counter s.given s.claims who n a placed.claims claim

  pub named-fits : (n w : ℕ) → IsNamed s n w → (520 ≤ n) × (n + w ≤ s.given)
  named-fits n w named = step (named-cases n w named) where
    step : IsNamed start n w ⊎ ((who : Who) × HasClaim s.claims who n w) → (520 ≤ n) × (n + w ≤ s.given)
    step (inl old) = let there = lawful.within n w old in (there.0, omega (arith, there.1, given-least))
    step (inr (who, claim)) = let there = claim-fits who n w claim in (omega (arith, there.0, lawful.counter_least), there.1)

  pub apart-claims : (who him : Who) (n m a b : ℕ) → HasClaim s.claims who n a → HasClaim s.claims him m b → ((who ≡ him) × (n ≡ m) × (a ≡ b)) ⊎ (n + a ≤ m) ⊎ (m + b ≤ n)
  apart-claims who him n m a b one two = claims-apart start.counter s.given s.claims who him n m a b placed.claims one two

  -- a claimed block and a named one at another place
  claim-apart : (who : Who) (n m a b : ℕ) → HasClaim s.claims who n a → IsNamed s m b → n ≢ m → (n + a ≤ m) ⊎ (m + b ≤ n)
  claim-apart who n m a b claim named differ = step (named-cases m b named) where
    of_claims : (him : Who) → ((who ≡ him) × (n ≡ m) × (a ≡ b)) ⊎ (n + a ≤ m) ⊎ (m + b ≤ n) → (n + a ≤ m) ⊎ (m + b ≤ n)
    of_claims him (inl same) = absurd (differ same.1)
    of_claims him (inr h) = h

    step : IsNamed start m b ⊎ ((him : Who) × HasClaim s.claims him m b) → (n + a ≤ m) ⊎ (m + b ≤ n)
    step (inl old) = let there = lawful.within m b old in let here = claim-fits who n a claim in inr (omega (arith, there.1, here.0))
    step (inr (him, other)) = of_claims him (apart-claims who him n m a b claim other)

  flipped : (n m a b : ℕ) → (m + b ≤ n) ⊎ (n + a ≤ m) → (n + a ≤ m) ⊎ (m + b ≤ n)
  flipped n m a b (inl h) = inr h
  flipped n m a b (inr h) = inl h

  pub named-apart : (n m a b : ℕ) → IsNamed s n a → IsNamed s m b → n ≢ m → (n + a ≤ m) ⊎ (m + b ≤ n)
  named-apart n m a b one two differ = step (named-cases n a one) (named-cases m b two) where
    step : IsNamed start n a ⊎ ((who : Who) × HasClaim s.claims who n a) → IsNamed start m b ⊎ ((who : Who) × HasClaim s.claims who m b) → (n + a ≤ m) ⊎ (m + b ≤ n)
    step (inl x) (inl y) = lawful.apart n m a b x y differ
    step (inr (who, x)) y = claim-apart who n m a b x two differ
    step (inl x) (inr (him, y)) = flipped n m a b (claim-apart him m n b a y one (λ e. differ (sym e)))

  -- nothing is named at the place of a free block
  free-unnamed : (who : Who) (n a m b : ℕ) → IsFreeBlock s who n a → IsNamed s m b → n ≢ m
  free-unnamed who n a m b free (inl (there, five)) e = cc (ap (record_at s.bound) e, free.no_record, there)
  free-unnamed who n a m b free (inr (ws, there, long)) e = cc (ap (words_at s.blocks) e, free.no_content, there)

  pub free-apart : (who : Who) (n m a b : ℕ) → IsFreeBlock s who n a → IsNamed s m b → (n + a ≤ m) ⊎ (m + b ≤ n)
  free-apart who n m a b free named = claim-apart who n m a b free.claimed named (free-unnamed who n a m b free named)

-- ---- of a run

module _ (up : State) (start : Tables) (seen : List Event) (lawful : IsLawfulRun up start seen) where
  here : IsPlaced start (tables start seen)
  here = placed-run up start seen lawful

  begun : IsLawfulStart start
  begun = lawful-start up start seen lawful

  pub given-or-full : ((tables start seen).given ≡ (tables start seen).counter) ⊎ (start.size < (tables start seen).counter)
  given-or-full = subst (λ n. ((tables start seen).given ≡ (tables start seen).counter) ⊎ (n < (tables start seen).counter)) (size-same up start seen lawful) here.or_full

  pub given-fits : ((tables start seen).given ≤ (tables start seen).counter) × ((tables start seen).given ≤ start.size)
  given-fits = (here.within_counter, let e = size-same up start seen lawful in omega (arith, e, here.within_size))

  pub run-named-fits : (n words : ℕ) → IsNamed (tables start seen) n words → (520 ≤ n) × (n + words ≤ (tables start seen).given)
  run-named-fits n words named = named-fits start (tables start seen) begun here n words named

  pub record-fits : (n : ℕ) (r : Record) → record_at (tables start seen).bound n ≡ Some r → (520 ≤ n) × (n + 5 ≤ start.size)
  record-fits n r is =
      let fits = run-named-fits n 5 (inl (ap is_some is, refl)) in
      (fits.0, omega (arith, fits.1, given-fits.1))

  pub run-claim-fits : (who : Who) (place n : ℕ) → HasClaim (tables start seen).claims who place n
      → (0 < n) × (start.counter ≤ place) × (place + n ≤ (tables start seen).given) × (place + n ≤ start.size)
  run-claim-fits who place n claim =
      let fits = claim-fits start (tables start seen) begun here who place n claim in
      (fits.2, fits.0, fits.1, omega (arith, fits.1, given-fits.1))

-- ---- the counter

act-grows : (s : Tables) (who : Who) (act : Act) → s.counter ≤ (after_act s who act).counter
act-grows s who (Look space digest) = omega arith
act-grows s who (Bind space digest own) = let e = bound-counter s space digest (place_of s.bound space digest) own in omega (arith, e)
act-grows s who (Read cell) = omega arith
act-grows s who (Claim n) = omega arith
act-grows s who (Room n moved) = room-grows moved s.counter n
act-grows s who (Fill cell value words) = let e = filled-counter s (cell_of s.filled cell.at) cell value words in omega (arith, e)

pub counter-grows : (start : Tables) (more seen : List Event) → (tables start seen).counter ≤ (tables start (more ++ seen)).counter
counter-grows start [] seen = omega arith
counter-grows start (e ∷ es) seen =
    let below = counter-grows start es seen in
    let one = act-grows (tables start (es ++ seen)) e.note.who e.act in
    omega (arith, below, one)

act-fits : (up : State) (s : Tables) (who : Who) (act : Act) → MayHappen up s who act → is_moved act ≡ false → s.counter ≤ s.size → (after_act s who act).counter ≤ s.size
act-fits up s who (Look space digest) may still fits = fits
act-fits up s who (Bind space digest own) may still fits = let e = bound-counter s space digest (place_of s.bound space digest) own in omega (arith, e, fits)
act-fits up s who (Read cell) may still fits = fits
act-fits up s who (Claim n) may still fits = may.1
act-fits up s who (Room n moved) may still fits = subst (λ b. cond b (s.counter + n) s.counter ≤ s.size) (sym still) fits
act-fits up s who (Fill cell value words) may still fits = let e = filled-counter s (cell_of s.filled cell.at) cell value words in omega (arith, e, fits)

pub counter-fits : (up : State) (start : Tables) (seen : List Event) → IsLawfulRun up start seen → NoneMoved seen → (tables start seen).counter ≤ start.size
counter-fits up start [] lawful still = lawful.counter_most
counter-fits up start (e ∷ es) lawful still =
    let same = size-same up start es lawful.0 in
    let below = counter-fits up start es lawful.0 still.1 in
    let one = act-fits up (tables start es) e.note.who e.act lawful.1 still.0 (omega (arith, same, below)) in
    omega (arith, same, one)
