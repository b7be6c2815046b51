-- What a plain port keeps goes with its run, event by event.
use Rattle.std.proofs.Common.{◌≡◌, ℕ, zero, suc, ◌+◌, ◌*◌, ◌<◌, ◌≤◌, List, [], ◌∷◌, Bool, true, false, cond, ◌==◌, inl, inr, Some, None, is_some, IsSome, length, slice_set, refl, ap, sym, ◌∙◌, subst, arith, length-set}
use Rattle.std.specs.declared.option.Option.{Option}
use Rattle.cas_model.specs.declared.call.Who.{Who}
use Rattle.cas_model.specs.declared.digest.Digest.{Digest}
use Rattle.cas_model.specs.declared.note.Note.{Note}
use Rattle.cas_model.specs.declared.place.Place.{Place}
use Rattle.cas_model.specs.declared.place.Space.{Space}
use Rattle.cas_model.specs.declared.place.Space.TheVariants.{Objects, Actions}
use Rattle.cas_model.specs.declared.tables.Cell.{Cell}
use Rattle.cas_model.specs.declared.tables.Content.{Content}
use Rattle.cas_model.specs.declared.tables.Record.{Record}
use Rattle.cas_model.specs.Claims.{record_words, block_words}
use Rattle.cas_model.specs.Start.{IsRecord, CellNames}
use Rattle.cas_model.specs.State.{State}
use Rattle.cas_model.specs.Tables.{Tables, place_of, record_at, words_at, cell_of}
use Rattle.cas_model.specs.Trie.{new_subtries, subtries}
use Rattle.cas_history.specs.declared.event.Act.TheVariants.{Look, Bind, Read, Claim, Room, Fill}
use Rattle.cas_history.specs.declared.event.Event.{Event}
use Rattle.cas_history.specs.Lawful.{IsLawfulRun, IsFreeBlock, MayBind, MayFillAt, MayFill, IsObjectRule, IsActionRule}
use Rattle.cas_history.specs.Run.{tables, claimed_by, bound_by, filled_by, published}
use Rattle.cas_history.proofs.Blocks.{run-named-fits}
use Rattle.cas_history.proofs.Placed.{placed-run, lawful-start, between-least, claim-within}
use Rattle.cas_history.proofs.Sound.{sound-run, content-some}
use Rattle.cas_port.specs.declared.block.OpenBlock.{OpenBlock}
use Rattle.cas_port.specs.Blank.{none_written}
use Rattle.cas_port.specs.declared.block.Block.{Block}
use Rattle.cas_port.specs.declared.block.Filled.{Filled}
use Rattle.cas_port.specs.Calls.{event_of, IsWholeFill, HasFilled, WordIs, filled_as, digest_word}
use Rattle.cell_port.specs.PlainView.{plain_view}
use Rattle.cas_port.specs.View.{open_words, write_word, close_block, IsOpenFor, written_words, earlier}
use Rattle.cell_port.specs.Tables.{PlainRows}
use Rattle.cell_port.specs.Needed.{needed, bound_in}
use Rattle.cell_port.specs.Plain.{Ties, Tied, OpensBelow, IsPaid, open_total, claims_on, bind_claims, rows_filled}
use Rattle.cell_port.proofs.RowsGrow.{rows-bound, rows-object, rows-action}
use Rattle.cell_port.proofs.PlainOpens.{opens-more, opens-claim, opens-bind, opens-close, opens-write, opens-fill, opens-cell, open-free, open-length, length-written, with_record}

-- a content has a word
pub content-long : (up : State) (start : Tables) (seen : List Event) → IsLawfulRun up start seen → (n : ℕ) (ws : List ℕ) → 0 < n → words_at (tables start seen).blocks n ≡ Some ws → 0 < length ws
content-long up start seen lawful n ws some is = step used.1.found.space used.1.in_space names where
  s : Tables
  s = tables start seen

  used : (cell : ℕ) × IsRecord (tables start seen) Objects cell × (cell_of (tables start seen).filled cell ≡ n)
  used = (placed-run up start seen lawful).used n ws is

  names : CellNames (tables start seen) used.1.found.space used.1.found.digest (cell_of (tables start seen).filled used.0)
  names = (sound-run up start seen lawful).names used.0 used.1.found used.1.is (omega (arith, used.2))

  long : (words : List ℕ) → (words ≡ [] → ⊥) → 0 < length words
  long [] some = absurd (some refl)
  long (w ∷ ws) some = omega arith

  step : (space : Space) → space ≡ Objects → CellNames (tables start seen) space used.1.found.digest (cell_of (tables start seen).filled used.0) → 0 < length ws
  step Actions e named = cc
  step Objects e named =
      let same : Some named.0 ≡ Some ws = sym named.1 ∙ ap (words_at (tables start seen).blocks) used.2 ∙ is in
      let words : named.0 ≡ ws = cc in
      subst (λ (x : List ℕ). 0 < length x) words (long named.0 (content-some named.0 named.2.content))

pub length-none : (n : ℕ) → length (none_written n) ≡ n
length-none zero = refl
length-none (suc n) = ap suc (length-none n)

-- ---- what the counter pays for

total-write : (os : List OpenBlock) (at i w : ℕ) → open_total (write_word os at i w) ≡ open_total os
total-write [] at i w = refl
total-write (o ∷ os) at i w = step (o.place == at) (total-write os at i w) where
  step : (b : Bool) → open_total (write_word os at i w) ≡ open_total os → open_total (cond b (record o { words = slice_set o.words i (Some w) } ∷ os) (o ∷ write_word os at i w)) ≡ length o.words + open_total os
  step true again = ap (λ n. n + open_total os) (length-set o.words i (Some w))
  step false again = ap (λ n. length o.words + n) again

total-close : (os : List OpenBlock) (at : ℕ) → open_total (close_block os at) ≤ open_total os
total-close [] at = omega arith
total-close (o ∷ os) at = step (o.place == at) (total-close os at) where
  step : (b : Bool) → open_total (close_block os at) ≤ open_total os → open_total (cond b os (o ∷ close_block os at)) ≤ length o.words + open_total os
  step true again = omega arith
  step false again = omega (arith, again)

-- a block of its length is closed
total-open : (os : List OpenBlock) (who : Who) (at n : ℕ) → IsOpenFor os who at n → open_total (close_block os at) + n ≤ open_total os
total-open [] who at n opened = absurd opened
total-open (o ∷ os) who at n opened = step (o.place == at) opened (λ h. total-open os who at n h) where
  step : (b : Bool) → cond b ((o.who ≡ who) × (length o.words ≡ n)) (IsOpenFor os who at n) → (IsOpenFor os who at n → open_total (close_block os at) + n ≤ open_total os)
      → open_total (cond b os (o ∷ close_block os at)) + n ≤ length o.words + open_total os
  step true here again = omega (arith, here.1)
  step false rest again = omega (arith, again rest)

words-bound : (bound : List Record) (space : Space) (digest : Digest) (place : Place)
    → record_words (bound_in Objects ((record { space = space; digest = digest; place = place }) ∷ bound)) + record_words (bound_in Actions ((record { space = space; digest = digest; place = place }) ∷ bound))
    ≡ record_words (bound_in Objects bound) + record_words (bound_in Actions bound) + (5 + 16 * needed bound space digest)
unfolding needed
words-bound bound Objects digest place =
    more (length (bound_in Objects bound)) (subtries (bound_in Objects bound)) (new_subtries (bound_in Objects bound) digest 62) (record_words (bound_in Actions bound)) where
      more : (n s k other : ℕ) → 5 * suc n + 16 * (k + s) + other ≡ 5 * n + 16 * s + other + (5 + 16 * k)
      more n s k other = omega arith
words-bound bound Actions digest place =
    more (length (bound_in Actions bound)) (subtries (bound_in Actions bound)) (new_subtries (bound_in Actions bound) digest 62) (record_words (bound_in Objects bound)) where
      more : (n s k other : ℕ) → other + (5 * suc n + 16 * (k + s)) ≡ other + (5 * n + 16 * s) + (5 + 16 * k)
      more n s k other = omega arith

words-published : (value : ℕ) (words : List ℕ) (blocks : List Content) → block_words (published value words blocks) ≡ length words + block_words blocks
words-published value [] blocks = omega arith
words-published value (w ∷ ws) blocks = refl

-- an open block is published, or closed alone
paid-filled : (r : PlainRows) (opened : List OpenBlock) (who : Who) (had : ℕ) (cell : Place) (value n : ℕ) (words : List ℕ) → IsOpenFor opened who value n → length words ≡ n → IsPaid r opened
    → IsPaid (rows_filled had r cell value words) (close_block opened value)
paid-filled r opened who (suc had) cell value n words opens long paid = omega (arith, paid, total-open opened who value n opens)
paid-filled r opened who zero cell value n words opens long paid = omega (arith, paid, total-open opened who value n opens, long, words-published value words r.blocks)

paid-placed : (r : PlainRows) (opened : List OpenBlock) (had : ℕ) (cell : Place) (value : ℕ) → IsPaid r opened → IsPaid (rows_filled had r cell value []) opened
paid-placed r opened (suc had) cell value paid = paid
paid-placed r opened zero cell value paid = paid

module _ (up : State) (r : PlainRows) (opened : List OpenBlock) (seen : List Event) (t : Tied up r opened seen) where
  abbrev pub now : Tables
  now = tables r.start seen

  counter-some : 0 < r.counter
  counter-some =
      let placed = placed-run up r.start seen t.lawful in
      let start = lawful-start up r.start seen t.lawful in
      let least = between-least r.start.counter now.given now.claims placed.claims in
      omega (arith, least, start.counter_least, placed.within_counter, t.ties.counter_is)

  -- nothing is named at the counter
  pub counter-free : (record_at now.bound r.counter ≡ None) × (words_at now.blocks r.counter ≡ None)
  counter-free = (by_record (record_at now.bound r.counter) refl, by_content (words_at now.blocks r.counter) refl) where
    by_record : (o : Option Record) → record_at now.bound r.counter ≡ o → o ≡ None
    by_record None is = refl
    by_record (Some x) is =
        let fits = run-named-fits up r.start seen t.lawful r.counter 5 (inl (ap is_some is, refl)) in
        absurd (omega (arith, fits.1, t.ties.given_is))

    by_content : (o : Option (List ℕ)) → words_at now.blocks r.counter ≡ o → o ≡ None
    by_content None is = refl
    by_content (Some ws) is =
        let some : 0 < r.counter = counter-some in
        let long = content-long up r.start seen t.lawful r.counter ws some is in
        let fits = run-named-fits up r.start seen t.lawful r.counter (length ws) (inr (ws, is, refl)) in
        absurd (omega (arith, fits.1, t.ties.given_is, long))

  -- ---- events that leave the tables as they are

  pub tied-look : (note : Note) (space : Space) (digest : Digest) → Tied up r opened (event_of note (Look space digest) ∷ seen)
  tied-look note space digest = record { ties = t.ties; lawful = (t.lawful, tt); within = t.within; opens = t.opens; paid = t.paid; rows = t.rows }

  pub tied-read : (note : Note) (cell : Place) → IsSome (record_at now.bound cell.at) → Tied up r opened (event_of note (Read cell) ∷ seen)
  tied-read note cell there = record { ties = t.ties; lawful = (t.lawful, there); within = t.within; opens = t.opens; paid = t.paid; rows = t.rows }

  pub tied-room : (note : Note) (n : ℕ) → 0 < n → r.start.size < r.counter + n → Tied up r opened (event_of note (Room n false) ∷ seen)
  tied-room note n some full = record {
    ties = t.ties;
    lawful = (t.lawful, (some, omega (arith, t.ties.size_is, t.ties.counter_is)));
    within = t.within;
    opens = t.opens;
    paid = t.paid;
    rows = t.rows;
  }

  -- a bound digest is bound again
  pub tied-again : (note : Note) (space : Space) (digest : Digest) (p : Place) → place_of r.bound space digest ≡ Some p → Tied up r opened (event_of note (Bind space digest None) ∷ seen)
  tied-again note space digest p at =
      let found : place_of now.bound space digest ≡ Some p = ap (λ (rs : List Record). place_of rs space digest) t.ties.bound_is ∙ at in
      let same : bound_by now space digest (place_of now.bound space digest) None ≡ now = ap (λ (o : Option Place). bound_by now space digest o None) found in
      record {
        ties = subst (λ (s : Tables). Ties s r) (sym same) t.ties;
        lawful = (t.lawful, subst (λ (o : Option Place). MayBind now note.who o None) (sym found) tt);
        within = t.within;
        opens = subst (λ (s : Tables). OpensBelow s r.counter opened) (sym same) t.opens;
        paid = t.paid;
        rows = t.rows;
      }

  -- ---- claims

  pub tied-claim : (note : Note) (n : ℕ) → 0 < n → r.counter + n ≤ r.start.size → Tied up (record r { counter = r.counter + n }) opened (event_of note (Claim n) ∷ seen)
  tied-claim note n some fits = record {
    ties = record {
      size_is = t.ties.size_is;
      counter_is = ap (λ k. k + n) t.ties.counter_is;
      given_is = ap (λ k. k + n) t.ties.counter_is;
      bound_is = t.ties.bound_is;
      filled_is = t.ties.filled_is;
      blocks_is = t.ties.blocks_is;
    };
    lawful = (t.lawful, (some, omega (arith, t.ties.size_is, t.ties.counter_is)));
    within = fits;
    opens = opens-more (claimed_by now note.who n) opened r.counter (r.counter + n) (omega arith) (opens-claim now note.who n opened r.counter t.opens);
    paid = omega (arith, t.paid);
    rows = t.rows;
  }

  -- a claim gives a free block
  pub claim-free : (who : Who) (n : ℕ) → IsFreeBlock (claimed_by now who n) who r.counter n
  claim-free who n = record {
    claimed = inl (ap (λ k. record { who = who; place = k; length = n }) t.ties.counter_is);
    no_record = counter-free.0;
    no_content = counter-free.1;
  }

  pub tied-open : (note : Note) (n : ℕ) → 0 < n → r.counter + n ≤ r.start.size
      → Tied up (record r { counter = r.counter + n }) ((record { place = r.counter; who = note.who; words = none_written n }) ∷ opened) (event_of note (Claim n) ∷ seen)
  tied-open note n some fits =
      let c = tied-claim note n some fits in
      record {
        ties = c.ties;
        lawful = c.lawful;
        within = fits;
        opens = (
          omega arith,
          subst (λ k. IsFreeBlock (claimed_by now note.who n) note.who r.counter k) (sym (length-none n)) (claim-free note.who n),
          opens-claim now note.who n opened r.counter t.opens,
        );
        paid = omega (arith, t.paid, length-none n);
        rows = t.rows;
      }

  -- ---- open blocks

  pub tied-write : (at i w : ℕ) → Tied up r (write_word opened at i w) seen
  tied-write at i w = record { ties = t.ties; lawful = t.lawful; within = t.within; opens = opens-write now opened r.counter at i w t.opens; paid = omega (arith, t.paid, total-write opened at i w); rows = t.rows }

  pub tied-close : (at : ℕ) → Tied up r (close_block opened at) seen
  tied-close at = record { ties = t.ties; lawful = t.lawful; within = t.within; opens = opens-close now opened r.counter at t.opens; paid = omega (arith, t.paid, total-close opened at); rows = t.rows }

-- ---- the claims of a bind

-- so many claims of subtries
claims-tied : (up : State) (r : PlainRows) (opened : List OpenBlock) (seen : List Event) (note : Note) (k n : ℕ) → Tied up r opened seen → n ≡ r.counter + 16 * k → n ≤ r.start.size
    → Tied up (record r { counter = n }) opened (claims_on note k seen)
claims-tied up r opened seen note zero n t is fits = let e : r.counter ≡ n = omega arith in subst (λ m. Tied up (record r { counter = m }) opened seen) e t
claims-tied up r opened seen note (suc k) n t is fits =
    let before = claims-tied up r opened seen note k (r.counter + 16 * k) t refl (omega (arith, is, fits)) in
    let e : r.counter + 16 * k + 16 ≡ n = omega arith in
    subst (λ m. Tied up (record r { counter = m }) opened (event_of note (Claim 16) ∷ claims_on note k seen)) e
    (tied-claim up (record r { counter = r.counter + 16 * k }) opened (claims_on note k seen) before note 16 (omega arith) (omega (arith, e, fits)))

-- they leave what is bound, free and open
bound-claims : (start : Tables) (seen : List Event) (note : Note) (k : ℕ) → (tables start (claims_on note k seen)).bound ≡ (tables start seen).bound
bound-claims start seen note zero = refl
bound-claims start seen note (suc k) = bound-claims start seen note k

free-claims : (start : Tables) (seen : List Event) (note : Note) (k : ℕ) (who : Who) (place n : ℕ) → IsFreeBlock (tables start seen) who place n → IsFreeBlock (tables start (claims_on note k seen)) who place n
free-claims start seen note zero who place n free = free
free-claims start seen note (suc k) who place n free =
    let before = free-claims start seen note k who place n free in
    record { claimed = inr before.claimed; no_record = before.no_record; no_content = before.no_content }

opens-claims : (start : Tables) (seen : List Event) (note : Note) (k : ℕ) (os : List OpenBlock) (n : ℕ) → OpensBelow (tables start seen) n os → OpensBelow (tables start (claims_on note k seen)) n os
opens-claims start seen note zero os n below = below
opens-claims start seen note (suc k) os n below = opens-claim (tables start (claims_on note k seen)) note.who 16 os n (opens-claims start seen note k os n below)

-- a claim of a record, and so many of subtries
pub bind-claims-tied : (up : State) (r : PlainRows) (opened : List OpenBlock) (seen : List Event) (note : Note) (k : ℕ) → Tied up r opened seen → r.counter + (5 + 16 * k) ≤ r.start.size
    → Tied up (record r { counter = r.counter + (5 + 16 * k) }) opened (bind_claims note k seen)
bind-claims-tied up r opened seen note k t fits =
    let first = tied-claim up r opened seen t note 5 (omega arith) (omega (arith, fits)) in
    claims-tied up (record r { counter = r.counter + 5 }) opened (event_of note (Claim 5) ∷ seen) note k (r.counter + (5 + 16 * k)) first (omega arith) fits

-- and then the digest is bound to the record
module _ (up : State) (r : PlainRows) (opened : List OpenBlock) (seen : List Event) (t : Tied up r opened seen) (note : Note) (space : Space) (digest : Digest) (k : ℕ)
    (unbound : place_of r.bound space digest ≡ None) (fits : r.counter + (5 + 16 * k) ≤ r.start.size) where
  abbrev pub own : Place
  own = record { at = r.counter }

  abbrev pub row : Record
  row = record { space = space; digest = digest; place = record { at = r.counter } }

  abbrev pub claimed : Tables
  claimed = tables r.start (bind_claims note k seen)

  none-bound : place_of claimed.bound space digest ≡ None
  none-bound = ap (λ (rs : List Record). place_of rs space digest) (bound-claims r.start (event_of note (Claim 5) ∷ seen) note k ∙ t.ties.bound_is) ∙ unbound

  free : IsFreeBlock claimed note.who r.counter 5
  free = free-claims r.start (event_of note (Claim 5) ∷ seen) note k note.who r.counter 5 (claim-free up r opened seen t note.who 5)

  -- no record is at the counter
  fresh : record_at r.bound r.counter ≡ None
  fresh = ap (λ (rs : List Record). record_at rs r.counter) (sym t.ties.bound_is) ∙ (counter-free up r opened seen t).0

  pub bound-now : bound_by claimed space digest (place_of claimed.bound space digest) (Some own) ≡ with_record claimed row
  bound-now = ap (λ (o : Option Place). bound_by claimed space digest o (Some own)) none-bound

  pub tied-bind : needed r.bound space digest ≤ k → Tied up (record r { counter = r.counter + (5 + 16 * k); bound = row ∷ r.bound }) opened (event_of note (Bind space digest (Some own)) ∷ bind_claims note k seen)
  tied-bind enough =
      let before = bind-claims-tied up r opened seen note k t fits in
      let opens = opens-bind claimed row opened r.counter (omega arith)
      (opens-claims r.start (event_of note (Claim 5) ∷ seen) note k opened r.counter (opens-claim (tables r.start seen) note.who 5 opened r.counter t.opens)) in
      record {
        ties = subst (λ (s : Tables). Ties s (record r { counter = r.counter + (5 + 16 * k); bound = row ∷ r.bound })) (sym bound-now) (record {
          size_is = before.ties.size_is;
          counter_is = before.ties.counter_is;
          given_is = before.ties.given_is;
          bound_is = ap (λ (rs : List Record). row ∷ rs) before.ties.bound_is;
          filled_is = before.ties.filled_is;
          blocks_is = before.ties.blocks_is;
        });
        lawful = (before.lawful, subst (λ (o : Option Place). MayBind claimed note.who o (Some own)) (sym none-bound) free);
        within = fits;
        opens = subst (λ (s : Tables). OpensBelow s (r.counter + (5 + 16 * k)) opened) (sym bound-now) (opens-more _ opened r.counter (r.counter + (5 + 16 * k)) (omega arith) opens);
        paid = omega (arith, t.paid, words-bound r.bound space digest (record { at = r.counter }), enough);
        rows = rows-bound row r.bound r.blocks r.filled fresh t.rows;
      }

-- ---- fills

ties-filled : (s : Tables) (r : PlainRows) (had : ℕ) (cell : Place) (value : ℕ) (words : List ℕ) → Ties s r → Ties (filled_by s had cell value words) (rows_filled had r cell value words)
ties-filled s r (suc had) cell value words t = t
ties-filled s r zero cell value [] t = record {
  size_is = t.size_is;
  counter_is = t.counter_is;
  given_is = t.given_is;
  bound_is = t.bound_is;
  filled_is = ap (λ (cs : List Cell). (record { of = cell; value = value }) ∷ cs) t.filled_is;
  blocks_is = t.blocks_is;
}
ties-filled s r zero cell value (w ∷ ws) t = record {
  size_is = t.size_is;
  counter_is = t.counter_is;
  given_is = t.given_is;
  bound_is = t.bound_is;
  filled_is = ap (λ (cs : List Cell). (record { of = cell; value = value }) ∷ cs) t.filled_is;
  blocks_is = ap (λ (bs : List Content). (record { place = value; words = w ∷ ws }) ∷ bs) t.blocks_is;
}

opens-filled : (s : Tables) (os : List OpenBlock) (n had : ℕ) (cell : Place) (value : ℕ) (words : List ℕ) → (words ≡ [] → ⊥) → OpensBelow s n os → OpensBelow (filled_by s had cell value words) n (close_block os value)
opens-filled s os n (suc had) cell value words some below = opens-close s os n value below
opens-filled s os n zero cell value [] some below = absurd (some refl)
opens-filled s os n zero cell value (w ∷ ws) some below = opens-fill s cell value w ws os n below

opens-placed : (s : Tables) (os : List OpenBlock) (n had : ℕ) (cell : Place) (value : ℕ) → OpensBelow s n os → OpensBelow (filled_by s had cell value []) n os
opens-placed s os n (suc had) cell value below = below
opens-placed s os n zero cell value below = opens-cell s cell value os n below

-- the counter and the size are as they were
pub rows-counter : (r : PlainRows) (had : ℕ) (cell : Place) (value : ℕ) (words : List ℕ) → ((rows_filled had r cell value words).counter ≡ r.counter) × ((rows_filled had r cell value words).start ≡ r.start)
rows-counter r (suc had) cell value words = (refl, refl)
rows-counter r zero cell value words = (refl, refl)

may-object : (up : State) (s : Tables) (who : Who) (found : Record) (cell : Place) (value : ℕ) (words : List ℕ) (space : Space) → found.space ≡ space → space ≡ Objects → record_at s.bound cell.at ≡ Some found
    → IsFreeBlock s who value (length words) → IsObjectRule up s found.digest value words → MayFillAt up s who (record_at s.bound cell.at) value words
may-object up s who found cell value words Objects is object at free rule =
    subst (λ (o : Option Record). MayFillAt up s who o value words) (sym at)
    (subst (λ (sp : Space). MayFill up s who sp found.digest value words) (sym is) (record { free = free; rule = rule }))
may-object up s who found cell value words Actions is object at free rule = cc

may-action : (up : State) (s : Tables) (who : Who) (found : Record) (cell : Place) (value : ℕ) → found.space ≡ Actions → record_at s.bound cell.at ≡ Some found → IsActionRule up s found.digest value
    → MayFillAt up s who (record_at s.bound cell.at) value []
may-action up s who found cell value is at rule =
    subst (λ (o : Option Record). MayFillAt up s who o value []) (sym at) (subst (λ (sp : Space). MayFill up s who sp found.digest value []) (sym is) (record { no_words = refl; rule = rule }))

module _ (up : State) (r : PlainRows) (opened : List OpenBlock) (seen : List Event) (t : Tied up r opened seen) (note : Note) (cell : Place) where
  had-is : cell_of (tables r.start seen).filled cell.at ≡ cell_of r.filled cell.at
  had-is = ap (λ (cs : List Cell). cell_of cs cell.at) t.ties.filled_is

  -- a claimed block and a record do not lie at 0
  claim-some : (value n : ℕ) → IsFreeBlock (tables r.start seen) note.who value n → 0 < value
  claim-some value n free =
      let within = claim-within r.start.counter (tables r.start seen).given (tables r.start seen).claims note.who value n (placed-run up r.start seen t.lawful).claims free.claimed in
      let start = lawful-start up r.start seen t.lawful in
      omega (arith, within.0, start.counter_least)

  record-some : (n : ℕ) (found : Record) → record_at (tables r.start seen).bound n ≡ Some found → 0 < n
  record-some n found is = let fits = run-named-fits up r.start seen t.lawful n 5 (inl (ap is_some is, refl)) in omega (arith, fits.0)

  -- an object's fill with a block that is open
  pub tied-fill : (value n : ℕ) (words : List ℕ) (found : Record) → IsOpenFor opened note.who value n → length words ≡ n → record_at (tables r.start seen).bound cell.at ≡ Some found → found.space ≡ Objects
      → IsObjectRule up (tables r.start seen) found.digest value words
      → Tied up (rows_filled (cell_of r.filled cell.at) r cell value words) (close_block opened value) (event_of note (Fill cell value words) ∷ seen)
  tied-fill value n words found opens long at object rule =
      let s = tables r.start seen in
      let free = open-free s opened r.counter note.who value n t.opens opens in
      let rows = rows_filled (cell_of r.filled cell.at) r cell value words in
      let same = rows-counter r (cell_of r.filled cell.at) cell value words in
      let after = filled_by s (cell_of s.filled cell.at) cell value words in
      record {
        ties = subst (λ (start : Tables). Ties (tables start (event_of note (Fill cell value words) ∷ seen)) rows) (sym same.1)
            (subst (λ had. Ties (filled_by s had cell value words) rows) (sym had-is) (ties-filled s r (cell_of r.filled cell.at) cell value words t.ties));
        lawful = subst (λ (start : Tables). IsLawfulRun up start (event_of note (Fill cell value words) ∷ seen)) (sym same.1)
            (t.lawful, may-object up s note.who found cell value words found.space refl object at (subst (λ k. IsFreeBlock s note.who value k) (sym long) free.0) rule);
        within = subst (λ (start : Tables). rows.counter ≤ start.size) (sym same.1) (subst (λ k. k ≤ r.start.size) (sym same.0) t.within);
        opens = subst (λ (start : Tables). OpensBelow (tables start (event_of note (Fill cell value words) ∷ seen)) rows.counter (close_block opened value)) (sym same.1)
            (subst (λ k. OpensBelow after k (close_block opened value)) (sym same.0)
            (opens-filled s opened r.counter (cell_of s.filled cell.at) cell value words (λ none. content-some words rule.for.content none) t.opens));
        paid = paid-filled r opened note.who (cell_of r.filled cell.at) cell value n words opens long t.paid;
        rows = rows-object s r t.ties (cell_of r.filled cell.at) cell value words found refl at object free.0.no_content (claim-some value n free.0) (λ none. content-some words rule.for.content none) rule.for t.rows;
      }

  -- an action's fill
  pub tied-place : (value : ℕ) (found : Record) → record_at (tables r.start seen).bound cell.at ≡ Some found → found.space ≡ Actions → IsActionRule up (tables r.start seen) found.digest value
      → Tied up (rows_filled (cell_of r.filled cell.at) r cell value []) opened (event_of note (Fill cell value []) ∷ seen)
  tied-place value found at action rule =
      let s = tables r.start seen in
      let rows = rows_filled (cell_of r.filled cell.at) r cell value [] in
      let same = rows-counter r (cell_of r.filled cell.at) cell value [] in
      let after = filled_by s (cell_of s.filled cell.at) cell value [] in
      record {
        ties = subst (λ (start : Tables). Ties (tables start (event_of note (Fill cell value []) ∷ seen)) rows) (sym same.1)
            (subst (λ had. Ties (filled_by s had cell value []) rows) (sym had-is) (ties-filled s r (cell_of r.filled cell.at) cell value [] t.ties));
        lawful = subst (λ (start : Tables). IsLawfulRun up start (event_of note (Fill cell value []) ∷ seen)) (sym same.1)
            (t.lawful, may-action up s note.who found cell value action at rule);
        within = subst (λ (start : Tables). rows.counter ≤ start.size) (sym same.1) (subst (λ k. k ≤ r.start.size) (sym same.0) t.within);
        opens = subst (λ (start : Tables). OpensBelow (tables start (event_of note (Fill cell value []) ∷ seen)) rows.counter opened) (sym same.1)
            (subst (λ k. OpensBelow after k opened) (sym same.0) (opens-placed s opened r.counter (cell_of s.filled cell.at) cell value t.opens));
        paid = paid-placed r opened (cell_of r.filled cell.at) cell value t.paid;
        rows = rows-action s r t.ties (cell_of r.filled cell.at) cell value found refl at action (record-some value rule.object.object.found rule.object.object.is) rule.object t.rows;
      }

  -- the fill that the port's contract asks for
  pub tied-whole : (block : Block) (words : List ℕ) → IsWholeFill note cell (plain_view up r.start seen opened) block → words ≡ written_words (open_words opened block.place.at)
      → Tied up (rows_filled (cell_of r.filled cell.at) r cell block.place.at words) (close_block opened block.place.at) (event_of note (Fill cell block.place.at words) ∷ seen)
  tied-whole block words whole is =
      tied-fill block.place.at block.length words whole.found whole.opened
      (ap length is ∙ length-written (open_words opened block.place.at) ∙ open-length opened note.who block.place.at block.length whole.opened) whole.bound whole.object
      (subst (λ (ws : List ℕ). IsObjectRule up (tables r.start seen) whole.found.digest block.place.at ws) (sym is) whole.lawful)

-- the fill is what the port's contract says
pub filled-view : (up : State) (r : PlainRows) (opened : List OpenBlock) (seen : List Event) → Tied up r opened seen → (note : Note) (cell : Place) (block : Block) (words : List ℕ)
    → (start : Tables) (after : List Event) (left : List OpenBlock) (filled : Filled) → start ≡ r.start → after ≡ event_of note (Fill cell block.place.at words) ∷ seen
    → left ≡ close_block opened block.place.at → words ≡ written_words (open_words opened block.place.at) → filled ≡ filled_as (cell_of r.filled cell.at) block.place.at
    → HasFilled note cell (plain_view up r.start seen opened) (plain_view up start after left) block filled
filled-view up r opened seen t note cell block words start after left filled start_is after_is left_is words_are filled_is = record {
  others = [];
  foreign = tt;
  is =
      (λ i. plain_view up (start_is i) (after_is i) (left_is i))
      ∙ ap (λ (ws : List ℕ). plain_view up r.start (event_of note (Fill cell block.place.at ws) ∷ seen) (close_block opened block.place.at)) words_are;
  answer =
      filled_is ∙ ap (λ (cs : List Cell). filled_as (cell_of cs cell.at) block.place.at) (sym t.ties.filled_is)
      ∙ sym (λ i. filled_as (cell_of (tables (start_is i) (earlier (after_is i))).filled cell.at) block.place.at);
}

-- ---- words

-- a record's digest words are read from its row
pub word-of-record : (up : State) (r : PlainRows) (opened : List OpenBlock) (seen : List Event) → Tied up r opened seen → (place : Place) (i w : ℕ) (found : Record)
    → record_at r.bound place.at ≡ Some found → w ≡ digest_word found.digest i → WordIs (plain_view up r.start seen opened) place i w
word-of-record up r opened seen t place i w found at is =
    let there : record_at (tables r.start seen).bound place.at ≡ Some found = ap (λ (rs : List Record). record_at rs place.at) t.ties.bound_is ∙ at in
    record {
      of_record = λ x x_at lt. let e : Some found ≡ Some x = sym there ∙ x_at in let same : found ≡ x = cc in is ∙ ap (λ (y : Record). digest_word y.digest i) same;
      of_content = λ words words_at lt. let none = (placed-run up r.start seen t.lawful).one_kind place.at (ap is_some there) in absurd (cc (none, words_at));
    }
