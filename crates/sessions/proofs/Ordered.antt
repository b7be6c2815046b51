-- Sessions that run one after another add their events in turn.
use Rattle.std.proofs.Common.{◌≡◌, ℕ, suc, ◌<◌, ◌≤◌, ◌⊎◌, inl, inr, List, [], ◌∷◌, ◌++◌, Bool, false, All, AllPairs, refl, ap, sym, ◌∙◌, subst, append_assoc, arith}
use Rattle.std.proofs.lemmas.List.Elements.{All-nil, All-cons}
use Rattle.std.proofs.lemmas.List.Kept.{AllPairs-cons}
use Rattle.cas_history.specs.declared.event.Event.{Event}
use Rattle.cas_port.specs.View.{View}
use Rattle.sessions.specs.Order.{IsNotLower, AddsInTurn}
use Rattle.sessions.specs.Turns.{AreOfThese, AddsOfThese, LeavesOfThese}
use Rattle.sessions.proofs.Stood.{these-append, these-more}

-- events of sessions below this number were added in turn
pub record HaveAddedInTurn (count : ℕ) (a v : View) : Type 0 where
  pub turns : AddsInTurn a v
  pub below : AreOfThese a.speaks (λ n. n < count) turns.more

-- an event of this session is not lower than one of a session up to it
not-lower : (speaks : ℕ → Bool) (count : ℕ) (later earlier : Event) → (speaks later.note.who.session ≡ false) ⊎ (later.note.who.session ≡ count)
    → (speaks earlier.note.who.session ≡ false) ⊎ (earlier.note.who.session ≤ count) → IsNotLower speaks later earlier
not-lower speaks count later earlier (inl foreign) own one two = cc
not-lower speaks count later earlier (inr same) (inl foreign) one two = cc
not-lower speaks count later earlier (inr same) (inr low) one two = omega (arith, same, low)

all-not-lower : (speaks : ℕ → Bool) (count : ℕ) (later : Event) (es : List Event) → (speaks later.note.who.session ≡ false) ⊎ (later.note.who.session ≡ count) → AreOfThese speaks (λ n. n ≤ count) es
    → All (IsNotLower speaks later) es
all-not-lower speaks count later [] own low = All-nil (IsNotLower speaks later)
all-not-lower speaks count later (e ∷ es) own low =
    All-cons (IsNotLower speaks later) e es (not-lower speaks count later e own low.0) (all-not-lower speaks count later es own low.1)

-- events of this session after events of lower ones
order-append : (speaks : ℕ → Bool) (count : ℕ) (xs ys : List Event) → AreOfThese speaks (λ n. n ≡ count) xs → AreOfThese speaks (λ n. n < count) ys → AllPairs (IsNotLower speaks) ys
    → AllPairs (IsNotLower speaks) (xs ++ ys)
order-append speaks count [] ys own below order = order
order-append speaks count (x ∷ xs) ys own below order =
    AllPairs-cons (IsNotLower speaks) x (xs ++ ys) (all-not-lower speaks count x (xs ++ ys) own.0 low) (order-append speaks count xs ys own.1 below order) where
      low : AreOfThese speaks (λ n. n ≤ count) (xs ++ ys)
      low = these-append speaks (λ n. n ≤ count) xs ys (these-more speaks (λ n. n ≡ count) (λ n. n ≤ count) xs (λ n same. omega (arith, same)) own.1)
          (these-more speaks (λ n. n < count) (λ n. n ≤ count) ys (λ n less. omega (arith, less)) below)

pub in-turn-none : (a : View) → HaveAddedInTurn 0 a a
in-turn-none a = record { turns = record { more = []; is = refl; order = λ i j d before within. absurd (omega (arith, within)) }; below = tt }

pub in-turn-next : (count : ℕ) (a v w : View) → AddsOfThese (λ n. n < count) a v → HaveAddedInTurn count a v → AddsOfThese (λ n. n ≡ count) v w → HaveAddedInTurn (suc count) a w
in-turn-next count a v w adds added more =
    record {
      turns = record {
        more = more.more ++ added.turns.more;
        is = ap (λ (x : View). x.seen) more.is ∙ ap (λ (es : List Event). more.more ++ es) added.turns.is ∙ sym (append_assoc more.more added.turns.more a.seen);
        order = order-append a.speaks count more.more added.turns.more own added.below added.turns.order;
      };
      below = these-append a.speaks (λ n. n < suc count) more.more added.turns.more (these-more a.speaks (λ n. n ≡ count) (λ n. n < suc count) more.more (λ n same. omega (arith, same)) own)
          (these-more a.speaks (λ n. n < count) (λ n. n < suc count) added.turns.more (λ n less. omega (arith, less)) added.below);
    } where
      own : AreOfThese a.speaks (λ n. n ≡ count) more.more
      own = subst (λ (f : ℕ → Bool). AreOfThese f (λ n. n ≡ count) more.more) (ap (λ (x : View). x.speaks) adds.is) more.own

-- the last of the sessions was cut off
pub in-turn-stops : (count : ℕ) (a v w : View) → AddsOfThese (λ n. n < count) a v → HaveAddedInTurn count a v → LeavesOfThese (λ n. n ≡ count) v w → AddsInTurn a w
in-turn-stops count a v w adds added leaves =
    let last = in-turn-next count a v (record w { opened = v.opened }) adds added leaves.adds in
    record { more = last.turns.more; is = last.turns.is; order = last.turns.order }
