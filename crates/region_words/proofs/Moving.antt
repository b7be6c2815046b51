-- How far refused claims move the counter.
use Rattle.std.proofs.Common.{◌≡◌, ◌⊎◌, ℕ, zero, suc, ◌+◌, ◌*◌, ◌<◌, ◌≤◌, ◌==◌, List, [], ◌∷◌, Bool, true, false, cond, refl, subst, inl, inr, arith, le_refl, eq-eqb, ne_eqb, suc-mul}
use mathlib.Core.Logic.{dite}
use native.Mathlib.Decide.{ℕ_discrete}
use Rattle.cas_model.specs.State.{State}
use Rattle.cas_model.specs.Tables.{Tables, place_of, cell_of}
use Rattle.cas_history.specs.declared.event.Act.{Act}
use Rattle.cas_history.specs.declared.event.Act.TheVariants.{Look, Bind, Read, Claim, Room, Fill}
use Rattle.cas_history.specs.declared.event.Event.{Event}
use Rattle.cas_history.specs.History.{events_of}
use Rattle.cas_history.specs.Lawful.{IsLawfulRun, MayHappen}
use Rattle.cas_history.specs.Run.{tables, after_act}
use Rattle.cas_history.proofs.Blocks.{counter-grows}
use Rattle.cas_history.proofs.Grown.{bound-counter, filled-counter, size-same}
use Rattle.region_words.specs.Moves.{moved_by, moves, moves_in, moved_in, MovesAreSmall, counter_limit}

quiet-act : (up : State) (t : Tables) (e : Event) (m : ℕ) → MayHappen up t e.note.who e.act → (after_act t e.note.who e.act).counter ≤ t.size → m ≡ 0 → moves e.act + m ≡ 0
quiet-act up t e m may low z = one e.act may low
  where
    one : (a : Act) → MayHappen up t e.note.who a → (after_act t e.note.who a).counter ≤ t.size → moves a + m ≡ 0
    one (Claim n) may low = omega arith
    one (Room n true) may low = let full = may.1 in absurd (omega arith)
    one (Room n false) may low = omega arith
    one (Look space digest) may low = omega arith
    one (Bind space digest own) may low = omega arith
    one (Read cell) may low = omega arith
    one (Fill cell value words) may low = omega arith

-- while the counter is within the size, no refused claim has moved it
pub quiet : (up : State) (start : Tables) (seen : List Event) → IsLawfulRun up start seen → (tables start seen).counter ≤ start.size → moves_in seen ≡ 0
quiet up start [] run low = refl
quiet up start (e ∷ es) run low =
    let grows = counter-grows start (e ∷ []) es in
    let same = size-same up start es run.0 in
    quiet-act up (tables start es) e (moves_in es) run.1 (omega arith) (quiet up start es run.0 (omega arith))

moves-cond : (b : Bool) (e : Event) (es : List Event) → moves_in (cond b (e ∷ es) es) ≡ cond b (moves e.act + moves_in es) (moves_in es)
moves-cond true e es = refl
moves-cond false e es = refl

moved-cond : (b : Bool) (e : Event) (es : List Event) → moved_in (cond b (e ∷ es) es) ≡ cond b (moved_by e.act + moved_in es) (moved_in es)
moved-cond true e es = refl
moved-cond false e es = refl

fewer-one : (b : Bool) (m x y : ℕ) → x ≤ y → cond b (m + x) x ≤ m + y
fewer-one true m x y h = omega arith
fewer-one false m x y h = omega arith

-- a session moved it no more often than all
pub moves-of : (n : ℕ) (es : List Event) → moves_in (events_of n es) ≤ moves_in es
moves-of n [] = le_refl _
moves-of n (e ∷ es) = rw moves-cond (fewer-one (e.note.who.session == n) (moves e.act) (moves_in (events_of n es)) (moves_in es) (moves-of n es))

small-cond : (b : Bool) (e : Event) (es : List Event) → (moves e.act ≡ 1 → (e.note.who.session ≤ 64) × (moved_by e.act ≤ 2162688)) → MovesAreSmall es → MovesAreSmall (cond b (e ∷ es) es)
small-cond true e es h t = (h, t)
small-cond false e es h t = t

small-of : (n : ℕ) (es : List Event) → MovesAreSmall es → MovesAreSmall (events_of n es)
small-of n [] h = tt
small-of n (e ∷ es) h = small-cond (e.note.who.session == n) e (events_of n es) h.0 (small-of n es h.1)

-- a refused claim has moved the counter by so much, or has not
moved-or-not : (a : Act) → (moves a ≡ 1) ⊎ ((moves a ≡ 0) × (moved_by a ≡ 0))
moved-or-not (Claim n) = inr (refl, refl)
moved-or-not (Room n true) = inl refl
moved-or-not (Room n false) = inr (refl, refl)
moved-or-not (Look space digest) = inr (refl, refl)
moved-or-not (Bind space digest own) = inr (refl, refl)
moved-or-not (Read cell) = inr (refl, refl)
moved-or-not (Fill cell value words) = inr (refl, refl)

none-moved : (es : List Event) → moves_in es ≡ 0 → moved_in es ≡ 0
none-moved [] h = refl
none-moved (e ∷ es) h =
    let rest = none-moved es (omega arith) in
    elim (moved-or-not e.act) [
      | inl one ↦ absurd (omega arith)
      | inr still ↦ let b = still.1 in omega arith
    ]

moved-once : (es : List Event) → MovesAreSmall es → moves_in es ≤ 1 → moved_in es ≤ 2162688
moved-once [] s h = omega arith
moved-once (e ∷ es) s h =
    elim (moved-or-not e.act) [
      | inl one ↦
          let m = (s.0 one).1 in
          let rest = none-moved es (omega arith) in
          omega arith
      | inr still ↦
          let a = still.0 in
          let b = still.1 in
          let rest = moved-once es s.1 (omega arith) in
          omega arith
    ]

unfoldable sums : (ℕ → ℕ) → ℕ → ℕ
sums f zero = 0
sums f (suc k) = f k + sums f k

sums-le : (f g : ℕ → ℕ) (k : ℕ) → ((n : ℕ) → f n ≤ g n) → sums f k ≤ sums g k
unfolding sums
sums-le f g zero h = omega arith
sums-le f g (suc k) h = let rest = sums-le f g k h in let one = h k in omega arith

sums-at : (f g : ℕ → ℕ) (s m k : ℕ) → ((n : ℕ) → f n ≤ g n) → f s + m ≤ g s → s < k → sums f k + m ≤ sums g k
unfolding sums
sums-at f g s m zero h at below = absurd (omega arith)
sums-at f g s m (suc k) h at below = dite (ℕ_discrete s k)
    (λ is. let rest = sums-le f g k h in let here : f k + m ≤ g k = subst (λ (z : ℕ). f z + m ≤ g z) is at in omega arith)
    (λ other. let rest = sums-at f g s m k h at (omega arith) in let one = h k in omega arith)

sums-most : (f : ℕ → ℕ) (c k : ℕ) → ((n : ℕ) → f n ≤ c) → sums f k ≤ k * c
unfolding sums
sums-most f c zero h = omega arith
sums-most f c (suc k) h = let rest = sums-most f c k h in let one = h k in omega (arith, suc-mul k c)

more-cond : (b : Bool) (m x : ℕ) → x ≤ cond b (m + x) x
more-cond true m x = omega arith
more-cond false m x = le_refl x

here-cond : (b : Bool) (m x : ℕ) → b ≡ true → x + m ≤ cond b (m + x) x
here-cond b m x e = rw e (omega arith)

zero-least : (n : ℕ) → 0 ≤ n
zero-least n = omega arith

moved-sum : (es : List Event) → MovesAreSmall es → moved_in es ≤ sums (λ n. moved_in (events_of n es)) 65
moved-sum [] h = zero-least _
moved-sum (e ∷ es) h =
    let f : ℕ → ℕ = λ n. moved_in (events_of n es) in
    let g : ℕ → ℕ = λ n. moved_in (events_of n (e ∷ es)) in
    let s : ℕ = e.note.who.session in
    let rest : moved_in es ≤ sums f 65 = moved-sum es h.1 in
    let more : (n : ℕ) → f n ≤ g n = λ n. rw moved-cond (more-cond (e.note.who.session == n) (moved_by e.act) (f n)) in
    let at : f s + moved_by e.act ≤ g s = rw moved-cond (here-cond (e.note.who.session == s) (moved_by e.act) (f s) (eq-eqb s s refl)) in
    elim (moved-or-not e.act) [
      | inl one ↦ let low = (h.0 one).0 in let all = sums-at f g s (moved_by e.act) 65 more at (omega arith) in omega arith
      | inr still ↦ let b = still.1 in let all = sums-le f g 65 more in omega arith
    ]

-- refused claims moved the counter by at most so many words in all
moved-most : (es : List Event) → MovesAreSmall es → ((n : ℕ) → moves_in (events_of n es) ≤ 1) → moved_in es ≤ 65 * 2162688
moved-most es small once =
    let f : ℕ → ℕ = λ n. moved_in (events_of n es) in
    let all : moved_in es ≤ sums f 65 = moved-sum es small in
    let each : sums f 65 ≤ 65 * 2162688 = sums-most f 2162688 65 (λ n. moved-once (events_of n es) (small-of n es small) (once n)) in
    omega arith

by-act : (up : State) (t : Tables) (e : Event) (m : ℕ) → MayHappen up t e.note.who e.act → t.counter ≤ t.size + m → (after_act t e.note.who e.act).counter ≤ t.size + (moved_by e.act + m)
by-act up t e m may low = one e.act may
  where
    one : (a : Act) → MayHappen up t e.note.who a → (after_act t e.note.who a).counter ≤ t.size + (moved_by a + m)
    one (Claim n) may = let room = may.1 in omega arith
    one (Room n true) may = omega arith
    one (Room n false) may = omega arith
    one (Look space digest) may = omega arith
    one (Bind space digest own) may = let same = bound-counter t space digest (place_of t.bound space digest) own in omega arith
    one (Read cell) may = omega arith
    one (Fill cell value words) may = let same = filled-counter t (cell_of t.filled cell.at) cell value words in omega arith

counter-by : (up : State) (start : Tables) (seen : List Event) → start.counter ≤ start.size → IsLawfulRun up start seen → (tables start seen).counter ≤ start.size + moved_in seen
counter-by up start [] low run = omega arith
counter-by up start (e ∷ es) low run =
    let same = size-same up start es run.0 in
    let before = counter-by up start es low run.0 in
    let now = by-act up (tables start es) e (moved_in es) run.1 (omega arith) in
    omega arith

-- the counter never passes its limit
pub counter-most : (up : State) (start : Tables) (seen : List Event) → start.counter ≤ start.size → IsLawfulRun up start seen → MovesAreSmall seen → ((n : ℕ) → moves_in (events_of n seen) ≤ 1)
    → (tables start seen).counter ≤ counter_limit start.size
counter-most up start seen low run small once = let a = counter-by up start seen low run in let b = moved-most seen small once in omega arith

-- ---- one more event

once-cond : (b : Bool) (e : Event) (es : List Event) → (b ≡ true → moves e.act + moves_in es ≤ 1) → moves_in es ≤ 1 → moves_in (cond b (e ∷ es) es) ≤ 1
once-cond true e es h low = h refl
once-cond false e es h low = low

-- an event that moves nothing leaves each session's count as it was
pub once-more : (log : List Event) (e : Event) → moves e.act ≡ 0 → ((n : ℕ) → moves_in (events_of n log) ≤ 1) → (n : ℕ) → moves_in (events_of n (e ∷ log)) ≤ 1
once-more log e z once n = once-cond (e.note.who.session == n) e (events_of n log) (λ _. let o = once n in omega (arith, z)) (once n)

moves-most : (a : Act) → moves a ≤ 1
moves-most (Claim n) = omega arith
moves-most (Room n true) = omega arith
moves-most (Room n false) = omega arith
moves-most (Look space digest) = omega arith
moves-most (Bind space digest own) = omega arith
moves-most (Read cell) = omega arith
moves-most (Fill cell value words) = omega arith

-- the first event of its session that moved the counter
pub once-first : (log : List Event) (e : Event) → moves_in (events_of e.note.who.session log) ≡ 0 → ((n : ℕ) → moves_in (events_of n log) ≤ 1) → (n : ℕ) → moves_in (events_of n (e ∷ log)) ≤ 1
once-first log e none once n = dite (ℕ_discrete e.note.who.session n)
    (λ is. once-cond (e.note.who.session == n) e (events_of n log) (λ _. let z : moves_in (events_of n log) ≡ 0 = subst (λ (k : ℕ). moves_in (events_of k log) ≡ 0) is none in let m = moves-most e.act in omega arith) (once n))
    (λ other. once-cond (e.note.who.session == n) e (events_of n log) (λ hit. let miss = ne_eqb e.note.who.session n other in absurd (cc (hit, miss))) (once n))
