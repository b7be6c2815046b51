-- The open blocks of a plain port stay claimed and unnamed.
use Rattle.std.proofs.Common.{◌≡◌, ℕ, suc, ◌<◌, ◌≤◌, List, [], ◌∷◌, Bool, true, false, cond, ◌==◌, inr, Some, length, slice_set, refl, ap, sym, ◌∙◌, subst, arith, length-set}
use Rattle.std.specs.declared.option.Option.{Option}
use Rattle.std.proofs.lemmas.Bool.{eqb-true, ne_eqb, eqb-false}
use Rattle.cas_model.specs.declared.call.Who.{Who}
use Rattle.cas_model.specs.declared.place.Place.{Place}
use Rattle.cas_model.specs.declared.tables.Record.{Record}
use Rattle.cas_model.specs.Tables.{Tables, record_at, words_at}
use Rattle.cas_history.specs.Lawful.{IsFreeBlock}
use Rattle.cas_history.specs.Run.{claimed_by, filled_by}
use Rattle.cas_port.specs.declared.block.OpenBlock.{OpenBlock}
use Rattle.cas_port.specs.View.{open_words, write_word, close_block, IsOpenFor, written_words}
use Rattle.cell_port.specs.Tables.{first_at}
use Rattle.cell_port.specs.Plain.{OpensBelow}

apart : (a b : ℕ) → (a ≡ b → ⊥) → (a == b) ≡ false
apart a b differ = ne_eqb a b differ

pub opens-more : (s : Tables) (os : List OpenBlock) (m n : ℕ) → m ≤ n → OpensBelow s m os → OpensBelow s n os
opens-more s [] m n le below = tt
opens-more s (o ∷ os) m n le below = (omega (arith, below.0), below.1, below.2)

pub opens-close : (s : Tables) (os : List OpenBlock) (n at : ℕ) → OpensBelow s n os → OpensBelow s n (close_block os at)
opens-close s [] n at below = tt
opens-close s (o ∷ os) n at below = by_test (o.place == at) (opens-close s os o.place at below.2) where
  by_test : (b : Bool) → OpensBelow s o.place (close_block os at) → OpensBelow s n (cond b os (o ∷ close_block os at))
  by_test true rest = opens-more s os o.place n (omega (arith, below.0)) below.2
  by_test false rest = (below.0, below.1, rest)

pub opens-write : (s : Tables) (os : List OpenBlock) (n at i w : ℕ) → OpensBelow s n os → OpensBelow s n (write_word os at i w)
opens-write s [] n at i w below = tt
opens-write s (o ∷ os) n at i w below = by_test (o.place == at) (opens-write s os o.place at i w below.2) where
  by_test : (b : Bool) → OpensBelow s o.place (write_word os at i w) → OpensBelow s n (cond b (record o { words = slice_set o.words i (Some w) } ∷ os) (o ∷ write_word os at i w))
  by_test true rest = (below.0, subst (λ k. IsFreeBlock s o.who o.place k) (sym (length-set o.words i (Some w))) below.1, below.2)
  by_test false rest = (below.0, below.1, rest)

pub opens-claim : (s : Tables) (who : Who) (k : ℕ) (os : List OpenBlock) (n : ℕ) → OpensBelow s n os → OpensBelow (claimed_by s who k) n os
opens-claim s who k [] n below = tt
opens-claim s who k (o ∷ os) n below =
    (below.0, record { claimed = inr below.1.claimed; no_record = below.1.no_record; no_content = below.1.no_content }, opens-claim s who k os o.place below.2)

-- the tables with a record more
abbrev pub with_record : Tables → Record → Tables
with_record s r = record s { bound = r ∷ s.bound }

pub opens-bind : (s : Tables) (r : Record) (os : List OpenBlock) (n : ℕ) → n ≤ r.place.at → OpensBelow s n os → OpensBelow (with_record s r) n os
opens-bind s r [] n le below = tt
opens-bind s r (o ∷ os) n le below =
    let other : (r.place.at == o.place) ≡ false = apart r.place.at o.place (λ same. omega (arith, below.0)) in (
      below.0,
      record { claimed = below.1.claimed; no_record = ap (λ b. cond b (Some r) (record_at s.bound o.place)) other ∙ below.1.no_record; no_content = below.1.no_content },
      opens-bind s r os o.place (omega (arith, below.0)) below.2,
    )

-- the tables with a content more
abbrev pub with_content : Tables → Place → ℕ → ℕ → List ℕ → Tables
with_content s cell value w ws = filled_by s 0 cell value (w ∷ ws)

free-fill : (s : Tables) (cell : Place) (value w : ℕ) (ws : List ℕ) (who : Who) (at n : ℕ) → (value == at) ≡ false → IsFreeBlock s who at n → IsFreeBlock (with_content s cell value w ws) who at n
free-fill s cell value w ws who at n other free = record {
  claimed = free.claimed;
  no_record = free.no_record;
  no_content = ap (λ b. cond b (Some (w ∷ ws)) (words_at s.blocks at)) other ∙ free.no_content;
}

opens-fill-below : (s : Tables) (cell : Place) (value w : ℕ) (ws : List ℕ) (os : List OpenBlock) (n : ℕ) → n ≤ value → OpensBelow s n os → OpensBelow (with_content s cell value w ws) n os
opens-fill-below s cell value w ws [] n le below = tt
opens-fill-below s cell value w ws (o ∷ os) n le below = (
  below.0,
  free-fill s cell value w ws o.who o.place (length o.words) (apart value o.place (λ same. omega (arith, below.0))) below.1,
  opens-fill-below s cell value w ws os o.place (omega (arith, below.0)) below.2,
)

pub opens-fill : (s : Tables) (cell : Place) (value w : ℕ) (ws : List ℕ) (os : List OpenBlock) (n : ℕ) → OpensBelow s n os → OpensBelow (with_content s cell value w ws) n (close_block os value)
opens-fill s cell value w ws [] n below = tt
opens-fill s cell value w ws (o ∷ os) n below = by_test (o.place == value) refl (opens-fill s cell value w ws os o.place below.2) where
  by_test : (b : Bool) → (o.place == value) ≡ b → OpensBelow (with_content s cell value w ws) o.place (close_block os value)
      → OpensBelow (with_content s cell value w ws) n (cond b os (o ∷ close_block os value))
  by_test true test rest =
      let at : o.place ≡ value = eqb-true o.place value test in
      opens-more (with_content s cell value w ws) os o.place n (omega (arith, below.0)) (opens-fill-below s cell value w ws os o.place (omega arith) below.2)
  by_test false test rest =
      let other : (value == o.place) ≡ false = apart value o.place (λ same. eqb-false o.place value test (sym same)) in
      (below.0, free-fill s cell value w ws o.who o.place (length o.words) other below.1, rest)

-- the tables with a filled cell more, and no content
abbrev pub with_cell : Tables → Place → ℕ → Tables
with_cell s cell value = filled_by s 0 cell value []

pub opens-cell : (s : Tables) (cell : Place) (value : ℕ) (os : List OpenBlock) (n : ℕ) → OpensBelow s n os → OpensBelow (with_cell s cell value) n os
opens-cell s cell value [] n below = tt
opens-cell s cell value (o ∷ os) n below =
    (below.0, record { claimed = below.1.claimed; no_record = below.1.no_record; no_content = below.1.no_content }, opens-cell s cell value os o.place below.2)

-- an open block is free, and lies below
pub open-free : (s : Tables) (os : List OpenBlock) (n : ℕ) (who : Who) (at k : ℕ) → OpensBelow s n os → IsOpenFor os who at k → IsFreeBlock s who at k × (at < n)
open-free s [] n who at k below opened = absurd opened
open-free s (o ∷ os) n who at k below opened = by_test (o.place == at) refl opened (λ h. open-free s os o.place who at k below.2 h) where
  by_test : (b : Bool) → (o.place == at) ≡ b → cond b ((o.who ≡ who) × (length o.words ≡ k)) (IsOpenFor os who at k)
      → (IsOpenFor os who at k → IsFreeBlock s who at k × (at < o.place)) → IsFreeBlock s who at k × (at < n)
  by_test true test here again =
      let e : o.place ≡ at = eqb-true o.place at test in
      (subst (λ (w : Who). IsFreeBlock s w at k) here.0 (subst (λ p. IsFreeBlock s o.who p k) e (subst (λ l. IsFreeBlock s o.who o.place l) here.1 below.1)), omega (arith, below.0))
  by_test false test rest again =
      let r = again rest in
      (r.0, omega (arith, r.1, below.0))

-- an open block has its length
pub open-length : (os : List OpenBlock) (who : Who) (at n : ℕ) → IsOpenFor os who at n → length (open_words os at) ≡ n
open-length [] who at n opened = absurd opened
open-length (o ∷ os) who at n opened = by_test (o.place == at) opened (λ h. open-length os who at n h) where
  by_test : (b : Bool) → cond b ((o.who ≡ who) × (length o.words ≡ n)) (IsOpenFor os who at n) → (IsOpenFor os who at n → length (open_words os at) ≡ n)
      → length (cond b o.words (open_words os at)) ≡ n
  by_test true here again = here.1
  by_test false rest again = again rest

-- an open block is found
pub open-found : (os : List OpenBlock) (who : Who) (at n : ℕ) → IsOpenFor os who at n → first_at os at < length os
open-found [] who at n opened = absurd opened
open-found (o ∷ os) who at n opened = by_test (o.place == at) opened (λ h. open-found os who at n h) where
  by_test : (b : Bool) → cond b ((o.who ≡ who) × (length o.words ≡ n)) (IsOpenFor os who at n) → (IsOpenFor os who at n → first_at os at < length os)
      → cond b 0 (suc (first_at os at)) < suc (length os)
  by_test true here again = omega arith
  by_test false rest again = omega (arith, again rest)

-- a block has as many words as are written
pub length-written : (v : List (Option ℕ)) → length (written_words v) ≡ length v
length-written [] = refl
length-written (x ∷ xs) = ap suc (length-written xs)
