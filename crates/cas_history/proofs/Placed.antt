-- Where the blocks of a run lie: each named block is the start's or a claim's, and no two have a common word.
use Rattle.std.proofs.Common.{◌≡◌, ℕ, zero, suc, ◌+◌, ◌<◌, ◌≤◌, List, [], ◌∷◌, Bool, true, false, cond, ◌==◌, ◌⊎◌, inl, inr, None, Some, is_some, IsSome, length, refl, ap, sym, ◌∙◌, subst, arith}
use Rattle.std.specs.declared.option.Option.{Option}
use Rattle.std.proofs.lemmas.Bool.{eqb-true, eq-eqb}
use Rattle.cas_model.specs.declared.digest.Digest.{Digest}
use Rattle.cas_model.specs.declared.place.Place.{Place}
use Rattle.cas_model.specs.declared.place.Space.{Space}
use Rattle.cas_model.specs.declared.place.Space.TheVariants.{Objects, Actions}
use Rattle.cas_model.specs.declared.call.Who.{Who}
use Rattle.cas_model.specs.State.{State}
use Rattle.cas_history.specs.declared.event.Act.{Act}
use Rattle.cas_history.specs.declared.event.Act.TheVariants.{Look, Bind, Read, Claim, Room, Fill}
use Rattle.cas_model.specs.declared.tables.Content.{Content}
use Rattle.cas_history.specs.declared.event.Event.{Event}
use Rattle.cas_model.specs.declared.tables.Record.{Record}
use Rattle.cas_model.specs.Tables.{Tables, Claimed, place_of, record_at, cell_of, words_at, HasClaim}
use Rattle.cas_history.specs.Run.{tables, after_act, bound_by, filled_by, published}
use Rattle.cas_history.specs.Lawful.{IsLawfulRun, IsFreeBlock, MayHappen, MayBind, MayFill, MayFillAt}
use Rattle.cas_model.specs.Start.{IsLawfulStart, IsRecord}
use Rattle.cas_history.proofs.Grown.{room-grows}
use Rattle.cas_history.proofs.Sound.{IsSound, sound-run}

-- the claims lie one above the other, from the first number to the second
abbrev pub ClaimsBetween : ℕ → ℕ → List Claimed → Type 0
ClaimsBetween low high [] = low ≤ high
ClaimsBetween low high (c ∷ cs) = (c.place + c.length ≤ high) × (0 < c.length) × ClaimsBetween low c.place cs

between-wider : (low high more : ℕ) (cs : List Claimed) → high ≤ more → ClaimsBetween low high cs → ClaimsBetween low more cs
between-wider low high more [] le h = omega (arith, le, h)
between-wider low high more (c ∷ cs) le h = (omega (arith, le, h.0), h.1, h.2)

pub between-least : (low high : ℕ) (cs : List Claimed) → ClaimsBetween low high cs → low ≤ high
between-least low high [] h = h
between-least low high (c ∷ cs) h = let below = between-least low c.place cs h.2 in omega (arith, below, h.0)

pub claim-within : (low high : ℕ) (cs : List Claimed) (who : Who) (place n : ℕ) → ClaimsBetween low high cs → HasClaim cs who place n → (low ≤ place) × (place + n ≤ high) × (0 < n)
claim-within low high [] who place n h there = absurd there
claim-within low high (x ∷ xs) who place n h (inl e) =
    let below = between-least low x.place xs h.2 in
    subst (λ (y : Claimed). (low ≤ y.place) × (y.place + y.length ≤ high) × (0 < y.length)) e (below, h.0, h.1)
claim-within low high (x ∷ xs) who place n h (inr there) =
    let within = claim-within low x.place xs who place n h.2 there in
    (within.0, omega (arith, within.1, h.0), within.2)

-- two claims are one, or have no common word
pub claims-apart : (low high : ℕ) (cs : List Claimed) (who him : Who) (n m a b : ℕ) → ClaimsBetween low high cs → HasClaim cs who n a → HasClaim cs him m b
    → ((who ≡ him) × (n ≡ m) × (a ≡ b)) ⊎ (n + a ≤ m) ⊎ (m + b ≤ n)
claims-apart low high [] who him n m a b h one two = absurd one
claims-apart low high (x ∷ xs) who him n m a b h (inl e) (inl f) =
    inl (sym (ap (λ (y : Claimed). y.who) e) ∙ ap (λ (y : Claimed). y.who) f, sym (ap (λ (y : Claimed). y.place) e) ∙ ap (λ (y : Claimed). y.place) f, sym (ap (λ (y : Claimed). y.length) e) ∙ ap (λ (y : Claimed). y.length) f)
claims-apart low high (x ∷ xs) who him n m a b h (inl e) (inr two) =
    let within = claim-within low x.place xs him m b h.2 two in
    let at : x.place ≡ n = ap (λ (y : Claimed). y.place) e in
    inr (inr (omega (arith, within.1, at)))
claims-apart low high (x ∷ xs) who him n m a b h (inr one) (inl f) =
    let within = claim-within low x.place xs who n a h.2 one in
    let at : x.place ≡ m = ap (λ (y : Claimed). y.place) f in
    inr (inl (omega (arith, within.1, at)))
claims-apart low high (x ∷ xs) who him n m a b h (inr one) (inr two) = claims-apart low x.place xs who him n m a b h.2 one two

-- where the blocks of a run lie
pub record IsPlaced (start s : Tables) : Type 0 where
  pub within_size : s.given ≤ s.size
  pub within_counter : s.given ≤ s.counter
  pub or_full : (s.given ≡ s.counter) ⊎ (s.size < s.counter)
  pub claims : ClaimsBetween start.counter s.given s.claims
  pub records : (n : ℕ) (r : Record) → record_at s.bound n ≡ Some r → IsSome (record_at start.bound n) ⊎ ((who : Who) × HasClaim s.claims who n 5)
  pub blocks : (n : ℕ) (ws : List ℕ) → words_at s.blocks n ≡ Some ws → (words_at start.blocks n ≡ Some ws) ⊎ ((who : Who) × HasClaim s.claims who n (length ws))
  pub one_kind : (n : ℕ) → IsSome (record_at s.bound n) → words_at s.blocks n ≡ None
  pub used : (n : ℕ) (ws : List ℕ) → words_at s.blocks n ≡ Some ws → (cell : ℕ) × IsRecord s Objects cell × (cell_of s.filled cell ≡ n)

placed-start : (s : Tables) → IsLawfulStart s → IsPlaced s s
placed-start s lawful = record {
  within_size = omega (arith, lawful.gave, lawful.counter_most);
  within_counter = omega (arith, lawful.gave);
  or_full = inl lawful.gave;
  claims = subst (λ (cs : List Claimed). ClaimsBetween s.counter s.given cs) (sym lawful.unclaimed) (omega (arith, lawful.gave));
  records = λ n r is. inl (ap is_some is);
  blocks = λ n ws is. inl is;
  one_kind = lawful.one_kind;
  used = lawful.used;
}

-- ---- bind

module _ (start s : Tables) (who : Who) (space : Space) (digest : Digest) (own : Place) (placed : IsPlaced start s) (free : IsFreeBlock s who own.at 5) where
  abbrev pub wider : Tables
  wider = record s { bound = (record { space = space; digest = digest; place = own }) ∷ s.bound }

  bind-records : (n : ℕ) (r : Record) → record_at wider.bound n ≡ Some r → IsSome (record_at start.bound n) ⊎ ((who : Who) × HasClaim s.claims who n 5)
  bind-records n r is = step (own.at == n) refl is where
    step : (b : Bool) → (own.at == n) ≡ b → cond b (Some (record { space = space; digest = digest; place = own })) (record_at s.bound n) ≡ Some r
        → IsSome (record_at start.bound n) ⊎ ((who : Who) × HasClaim s.claims who n 5)
    step true test is = inr (who, subst (λ m. HasClaim s.claims who m 5) (eqb-true own.at n test) free.claimed)
    step false test is = placed.records n r is

  bind-kind : (n : ℕ) → IsSome (record_at wider.bound n) → words_at s.blocks n ≡ None
  bind-kind n is = step (own.at == n) refl is where
    step : (b : Bool) → (own.at == n) ≡ b → IsSome (cond b (Some (record { space = space; digest = digest; place = own })) (record_at s.bound n)) → words_at s.blocks n ≡ None
    step true test is = ap (words_at s.blocks) (sym (eqb-true own.at n test)) ∙ free.no_content
    step false test is = placed.one_kind n is

  record-wider : (n : ℕ) → IsRecord s Objects n → IsRecord wider Objects n
  record-wider n is = step (own.at == n) refl where
    step : (b : Bool) → (own.at == n) ≡ b → IsRecord wider Objects n
    step true test = absurd (cc (is.is, free.no_record, ap (record_at s.bound) (eqb-true own.at n test)))
    step false test = record { found = is.found; is = ap (λ b. cond b (Some (record { space = space; digest = digest; place = own })) (record_at s.bound n)) test ∙ is.is; in_space = is.in_space }

  pub placed-wider : IsPlaced start wider
  placed-wider = record {
    within_size = placed.within_size;
    within_counter = placed.within_counter;
    or_full = placed.or_full;
    claims = placed.claims;
    records = bind-records;
    blocks = placed.blocks;
    one_kind = bind-kind;
    used = λ n ws is. let there = placed.used n ws is in (there.0, record-wider there.0 there.1, there.2);
  }

placed-bind : (start s : Tables) (who : Who) (space : Space) (digest : Digest) (found own : Option Place) → IsPlaced start s → MayBind s who found own → IsPlaced start (bound_by s space digest found own)
placed-bind start s who space digest (Some p) own placed may = placed
placed-bind start s who space digest None None placed may = absurd may
placed-bind start s who space digest None (Some own) placed may = placed-wider start s who space digest own placed may

-- ---- fill

module _ (start s : Tables) (who : Who) (cell : Place) (value : ℕ) (words : List ℕ) (placed : IsPlaced start s) (empty : cell_of s.filled cell.at ≡ 0) where
  abbrev pub fuller : Tables
  fuller = filled_by s zero cell value words

  -- a block that was named by a cell is named by it still
  still-used : 0 < value → (n : ℕ) (ws : List ℕ) → words_at s.blocks n ≡ Some ws → 0 < n → (c : ℕ) × IsRecord s Objects c × (cell_of fuller.filled c ≡ n)
  still-used some n ws is positive = let there = placed.used n ws is in (there.0, there.1, step there.0 there.2 (cell.at == there.0) refl) where
    step : (c : ℕ) → cell_of s.filled c ≡ n → (b : Bool) → (cell.at == c) ≡ b → cond b value (cell_of s.filled c) ≡ n
    step c at true test = absurd (let e : cell_of s.filled cell.at ≡ cell_of s.filled c = ap (cell_of s.filled) (eqb-true cell.at c test) in omega (arith, e, empty, at, positive))
    step c at false test = at

published-cases : (value : ℕ) (words : List ℕ) (cs : List Content) (n : ℕ) (ws : List ℕ) → words_at (published value words cs) n ≡ Some ws
    → ((value ≡ n) × (words ≡ ws) × (words ≡ [] → ⊥)) ⊎ (words_at cs n ≡ Some ws)
published-cases value [] cs n ws is = inr is
published-cases value (x ∷ xs) cs n ws is = step (value == n) refl is where
  step : (b : Bool) → (value == n) ≡ b → cond b (Some (x ∷ xs)) (words_at cs n) ≡ Some ws → ((value ≡ n) × (x ∷ xs ≡ ws) × (x ∷ xs ≡ [] → ⊥)) ⊎ (words_at cs n ≡ Some ws)
  step true test is = let same : x ∷ xs ≡ ws = cc in inl (eqb-true value n test, same, λ h. cc)
  step false test is = inr is

pub published-none : (value : ℕ) (words : List ℕ) (cs : List Content) (n : ℕ) → ((words ≡ [] → ⊥) → value ≡ n → ⊥) → words_at cs n ≡ None → words_at (published value words cs) n ≡ None
published-none value [] cs n apart none = none
published-none value (x ∷ xs) cs n apart none = step (value == n) refl where
  step : (b : Bool) → (value == n) ≡ b → cond b (Some (x ∷ xs)) (words_at cs n) ≡ None
  step true test = absurd (apart (λ h. cc) (eqb-true value n test))
  step false test = none

-- what a fill with words has
pub record HasBlock (s : Tables) (who : Who) (cell : Place) (value : ℕ) (words : List ℕ) : Type 0 where
  pub claimed : HasClaim s.claims who value (length words)
  pub no_record : record_at s.bound value ≡ None
  pub object : IsRecord s Objects cell.at

has-block : (up : State) (s : Tables) (who : Who) (cell : Place) (value : ℕ) (words : List ℕ) (r : Record) (space : Space) → r.space ≡ space → record_at s.bound cell.at ≡ Some r
    → MayFill up s who space r.digest value words → (words ≡ [] → ⊥) → HasBlock s who cell value words
has-block up s who cell value words r Objects is at may some = record { claimed = may.free.claimed; no_record = may.free.no_record; object = record { found = r; is = at; in_space = is } }
has-block up s who cell value words r Actions is at may some = absurd (some may.no_words)

module _ (start s : Tables) (lawful : IsLawfulStart start) (placed : IsPlaced start s) where
  block-positive : (n : ℕ) (ws : List ℕ) → words_at s.blocks n ≡ Some ws → 0 < n
  block-positive n ws is = step (placed.blocks n ws is) where
    step : (words_at start.blocks n ≡ Some ws) ⊎ ((who : Who) × HasClaim s.claims who n (length ws)) → 0 < n
    step (inl old) = let w = lawful.within n (length ws) (inr (ws, old, refl)) in omega (arith, w.0)
    step (inr (who, there)) = let w = claim-within start.counter s.given s.claims _ _ _ placed.claims there in omega (arith, w.0, lawful.counter_least)

  placed-fill : (who : Who) (had : ℕ) (cell : Place) (value : ℕ) (words : List ℕ) → cell_of s.filled cell.at ≡ had → 0 < value → ((words ≡ [] → ⊥) → HasBlock s who cell value words)
      → IsPlaced start (filled_by s had cell value words)
  placed-fill who (suc had) cell value words is some has = placed
  placed-fill who zero cell value words is some has = record {
    within_size = placed.within_size;
    within_counter = placed.within_counter;
    or_full = placed.or_full;
    claims = placed.claims;
    records = placed.records;
    blocks = λ n ws at. blocks n ws (published-cases value words s.blocks n ws at);
    one_kind = λ n there. published-none value words s.blocks n (λ many e. cc (e, (has many).no_record, there)) (placed.one_kind n there);
    used = λ n ws at. used n ws (published-cases value words s.blocks n ws at);
  } where
    blocks : (n : ℕ) (ws : List ℕ) → ((value ≡ n) × (words ≡ ws) × (words ≡ [] → ⊥)) ⊎ (words_at s.blocks n ≡ Some ws)
        → (words_at start.blocks n ≡ Some ws) ⊎ ((who : Who) × HasClaim s.claims who n (length ws))
    blocks n ws (inl (at, same, many)) = inr (
      who,
      subst (λ (x : ℕ). HasClaim s.claims who x (length ws)) at
          (subst (λ (x : List ℕ). HasClaim s.claims who value (length x)) same (has many).claimed),
    )
    blocks n ws (inr old) = placed.blocks n ws old

    used : (n : ℕ) (ws : List ℕ) → ((value ≡ n) × (words ≡ ws) × (words ≡ [] → ⊥)) ⊎ (words_at s.blocks n ≡ Some ws)
        → (c : ℕ) × IsRecord (filled_by s zero cell value words) Objects c × (cell_of (filled_by s zero cell value words).filled c ≡ n)
    used n ws (inl (at, same, many)) =
        let object = (has many).object in
        (cell.at, record { found = object.found; is = object.is; in_space = object.in_space }, ap (λ b. cond b value (cell_of s.filled cell.at)) (eq-eqb cell.at cell.at refl) ∙ at)
    used n ws (inr old) =
        let there = still-used start s who cell value words placed is some n ws old (block-positive n ws old) in
        (there.0, record { found = there.1.found; is = there.1.is; in_space = there.1.in_space }, there.2)

fill-value : (up : State) (s : Tables) (who : Who) (space : Space) (d : Digest) (value : ℕ) (words : List ℕ) → IsSound s → MayFill up s who space d value words → 0 < value
fill-value up s who Objects d value words sound may = sound.claimed who value (length words) may.free.claimed
fill-value up s who Actions d value words sound may = sound.placed value may.rule.object.object.found may.rule.object.object.is

placed-fill-at : (up : State) (start s : Tables) (who : Who) (cell : Place) (value : ℕ) (words : List ℕ) (found : Option Record) → IsLawfulStart start → IsPlaced start s → IsSound s
    → record_at s.bound cell.at ≡ found → MayFillAt up s who found value words → IsPlaced start (filled_by s (cell_of s.filled cell.at) cell value words)
placed-fill-at up start s who cell value words None lawful placed sound at may = absurd may
placed-fill-at up start s who cell value words (Some r) lawful placed sound at may =
    placed-fill start s lawful placed who (cell_of s.filled cell.at) cell value words refl (fill-value up s who r.space r.digest value words sound may) (has-block up s who cell value words r r.space refl at may)

room-full : (moved : Bool) (given counter n size : ℕ) → size < counter + n → (given ≡ counter) ⊎ (size < counter)
    → (given ≡ cond moved (counter + n) counter) ⊎ (size < cond moved (counter + n) counter)
room-full true given counter n size past full = inr past
room-full false given counter n size past full = full

placed-act : (up : State) (start s : Tables) (who : Who) (act : Act) → IsLawfulStart start → IsPlaced start s → IsSound s → MayHappen up s who act → IsPlaced start (after_act s who act)
placed-act up start s who (Look space digest) lawful placed sound may = placed
placed-act up start s who (Bind space digest own) lawful placed sound may = placed-bind start s who space digest (place_of s.bound space digest) own placed may
placed-act up start s who (Read cell) lawful placed sound may = placed
placed-act up start s who (Claim n) lawful placed sound may = record {
  within_size = may.1;
  within_counter = omega arith;
  or_full = inl refl;
  claims = (omega arith, may.0, between-wider start.counter s.given s.counter s.claims placed.within_counter placed.claims);
  records = λ m r is. wider-record m (placed.records m r is);
  blocks = λ m ws is. wider-block m ws (placed.blocks m ws is);
  one_kind = placed.one_kind;
  used = λ m ws is. let there = placed.used m ws is in (there.0, record { found = there.1.found; is = there.1.is; in_space = there.1.in_space }, there.2);
} where
  claim : Claimed
  claim = record { who = who; place = s.counter; length = n }

  wider-record : (m : ℕ) → IsSome (record_at start.bound m) ⊎ ((w : Who) × HasClaim s.claims w m 5)
      → IsSome (record_at start.bound m) ⊎ ((w : Who) × HasClaim ((record { who = who; place = s.counter; length = n }) ∷ s.claims) w m 5)
  wider-record m (inl old) = inl old
  wider-record m (inr (w, there)) = inr (w, inr there)

  wider-block : (m : ℕ) (ws : List ℕ) → (words_at start.blocks m ≡ Some ws) ⊎ ((w : Who) × HasClaim s.claims w m (length ws))
      → (words_at start.blocks m ≡ Some ws) ⊎ ((w : Who) × HasClaim ((record { who = who; place = s.counter; length = n }) ∷ s.claims) w m (length ws))
  wider-block m ws (inl old) = inl old
  wider-block m ws (inr (w, there)) = inr (w, inr there)
placed-act up start s who (Room n moved) lawful placed sound may = record {
  within_size = placed.within_size;
  within_counter = omega (arith, placed.within_counter, room-grows moved s.counter n);
  or_full = room-full moved s.given s.counter n s.size may.1 placed.or_full;
  claims = placed.claims;
  records = placed.records;
  blocks = placed.blocks;
  one_kind = placed.one_kind;
  used = λ m ws is. let there = placed.used m ws is in (there.0, record { found = there.1.found; is = there.1.is; in_space = there.1.in_space }, there.2);
}
placed-act up start s who (Fill cell value words) lawful placed sound may = placed-fill-at up start s who cell value words (record_at s.bound cell.at) lawful placed sound refl may

pub lawful-start : (up : State) (start : Tables) (seen : List Event) → IsLawfulRun up start seen → IsLawfulStart start
lawful-start up start [] lawful = lawful
lawful-start up start (e ∷ es) lawful = lawful-start up start es lawful.0

pub placed-run : (up : State) (start : Tables) (seen : List Event) → IsLawfulRun up start seen → IsPlaced start (tables start seen)
placed-run up start [] lawful = placed-start start lawful
placed-run up start (e ∷ es) lawful = placed-act up start (tables start es) e.note.who e.act (lawful-start up start es lawful.0) (placed-run up start es lawful.0) (sound-run up start es lawful.0) lawful.1
