-- The words of a running region, cut at the counter, stand for what its tables name.
use Rattle.std.proofs.Common.{◌≡◌, ◌≢◌, ◌⊎◌, ℕ, zero, suc, inl, inr, get_or, take, length-set, get_or-set_same, get_or-set_other, ◌<◌, ◌≤◌, List, [], ◌∷◌, length, Some, refl, ap, sym, ◌∙◌, subst, arith, min}
use Rattle.std.proofs.lemmas.Bool.{cases_lt}
use Rattle.std.specs.Prelude.{slice_index}
use mathlib.Core.Option.{some}
use lib.ListN.{get_elem?}
use Rattle.atomic_table.specs.Table.{Final, Seen}
use Rattle.cas_model.specs.declared.place.Space.TheVariants.{Objects}
use Rattle.cas_model.specs.declared.tables.Record as rows
use Rattle.cas_model.specs.Content.{content_places}
use Rattle.cas_model.specs.Object.{object_digest}
use Rattle.cas_model.specs.Primary.{primary}
use Rattle.cas_model.specs.Start.{CellNames, IsContentFor, IsFilled, RefsBelow}
use Rattle.cas_model.specs.Tables.{Tables, record_at, cell_of, words_at}
use Rattle.cas_history.specs.declared.event.Event.{Event}
use Rattle.cas_history.specs.Run.{primary_of}
use Rattle.cas_history.proofs.Grown.{size-same}
use Rattle.cas_history.proofs.Placed.{placed-run}
use Rattle.cas_history.proofs.Sound.{sound-run}
use Rattle.frozen_store.specs.Seen.{FrozenSeen, IsSeen, HasState}
use Rattle.region_core.specs.Certificate.{AllBelow, AreContents, IsBelow, IsContentIn}
use Rattle.region_core.specs.Goes.{Goes, row, row_in, cell_in, words_in}
use Rattle.region_core.specs.Heap.{Block, Record, Content, Laid, extent, memory_of}
use Rattle.region_core.specs.Stands.{Stands}
use Rattle.region_core.proofs.Finishing.{header_laid, certificate_stands}
use Rattle.region_core.proofs.Starts.{one_state}
use Rattle.region_core.proofs.Tables.{row_out, object_row, primary_names}
use Rattle.region_words.specs.Closing.{Ends, StandFor, NamesTheEnd, ClosesWith, cut_at, kept}
use Rattle.region_words.specs.Numbers.{ViewsGo}
use Rattle.region_words.specs.Rule.{Holds, origin}
use Rattle.region_words.specs.Running.{Origin, after, IsRunning}
use Rattle.region_words.specs.declared.rule.Key.{Key}
use Rattle.region_words.specs.declared.view.SeatView.{SeatView}
use Rattle.region_words.proofs.Counting.{given-least}
use Rattle.region_words.proofs.Meeting.{alone-others}
use Rattle.region_words.proofs.Seating.{goes-on}

-- each filled cell names what it may
abbrev pub CellsName : Tables → Type 0
CellsName t = (n : ℕ) (r : rows.Record) → record_at t.bound n ≡ Some r → 0 < cell_of t.filled n → CellNames t r.space r.digest (cell_of t.filled n)

-- the first words of a running region, but for the counter
pub record IsRunningHead (words : List ℕ) (size : ℕ) : Type 0 where
  pub magic : slice_index words 0 ≡ 6000011104285311299
  pub version : slice_index words 1 ≡ 1
  pub size_there : slice_index words 2 ≡ size
  pub zeros : (i : ℕ) → 4 ≤ i → i < 8 → slice_index words i ≡ 0
  pub least : 4096 ≤ size
  pub most : size ≤ 67108864

pub laid-higher : (heap : ℕ → Block) (memory : ℕ → ℕ) (n m : ℕ) → n ≤ m → Laid heap memory n → Laid heap memory m
laid-higher heap memory n m more laid = record {
  shape = record { apart = laid.shape.apart; low = laid.shape.low; high = λ p h. let e = laid.shape.high p h in omega (arith, e, more); solid = laid.shape.solid };
  keeps = record { held = laid.keeps.held; clear = λ i h. laid.keeps.clear i (omega (arith, h, more)) };
  tries = laid.tries;
  cells = laid.cells;
}

-- a filled object's record of the tables, in the labelling
is-below : (heap : ℕ → Block) (t : Tables) (v n : ℕ) → Goes heap t → IsFilled t n → cell_of t.filled n < v → IsBelow heap v n
is-below heap t v n goes filled low =
    let x = filled.object in
    let own = row_out n (heap n) x.found (sym (goes.rows n) ∙ x.is) in
    let here : heap n ≡ Record Objects x.found.digest.bytes own.0 = own.1 ∙ ap (λ s. Record s x.found.digest.bytes own.0) x.in_space in
    let cell : cell_of t.filled n ≡ own.0 = goes.cells n ∙ ap cell_in here in
    record {
      digest = x.found.digest.bytes;
      content = own.0;
      here = here;
      filled = λ zero. let some = filled.filled in omega (arith, some, cell, zero);
      below = omega (arith, low, cell);
    }

all-below : (heap : ℕ → Block) (t : Tables) (v : ℕ) (ns : List ℕ) → Goes heap t → RefsBelow t v ns → AllBelow heap v ns
all-below heap t v [] goes h = tt
all-below heap t v (n ∷ ns) goes h = (is-below heap t v n goes h.0 h.1, all-below heap t v ns goes h.2)

content-in : (heap : ℕ → Block) (t : Tables) (v : ℕ) (d ws : List ℕ) → Goes heap t → IsContentFor t (record { bytes = d }) v ws → IsContentIn heap v d ws
content-in heap t v d ws goes for =
    let refs = all-below heap t v (content_places ws) goes for.refs in
    record { content = for.content; refs = refs; named = ap object_digest (sym (object_row heap t goes v ws refs)) ∙ for.named }

-- a content has words, and so lies past the header
content-low : (heap : ℕ → Block) (memory : ℕ → ℕ) (given p r : ℕ) (ws : List ℕ) → Laid heap memory given → heap p ≡ Content r ws → 8 ≤ p
content-low heap memory given p r [] laid content = let free = sym content ∙ laid.shape.solid p (ap extent content) in cc free
content-low heap memory given p r (w ∷ ws) laid content = laid.shape.low p (let e : extent (heap p) ≡ suc (length ws) = ap extent content in omega (arith, e))

pub contents-lawful : (heap : ℕ → Block) (memory : ℕ → ℕ) (given : ℕ) (t : Tables) → Laid heap memory given → Goes heap t → CellsName t → AreContents heap
contents-lawful heap memory given t laid goes names p r d ws content record_ =
    let bound : record_at t.bound r ≡ Some (row Objects d r) = goes.rows r ∙ ap (row_in r) record_ in
    let cell : cell_of t.filled r ≡ p = goes.cells r ∙ ap cell_in record_ in
    let there : words_at t.blocks p ≡ Some ws = goes.blocks p ∙ ap words_in content in
    let some = content-low heap memory given p r ws laid content in
    let named = subst (λ c. CellNames t Objects (record { bytes = d }) c) cell (names r (row Objects d r) bound (omega (arith, cell, some))) in
    let same : named.0 ≡ ws = let e = sym named.1 ∙ there in cc e in
    content-in heap t p d ws goes (subst (IsContentFor t (record { bytes = d }) p) same named.2)

-- ---- the words that are kept

kept-below : (xs : List ℕ) (n i : ℕ) → i < n → get_or (take n xs) i 0 ≡ get_or xs i 0
kept-below xs zero i low = absurd (omega (arith, low))
kept-below [] (suc n) i low = refl
kept-below (x ∷ xs) (suc n) zero low = refl
kept-below (x ∷ xs) (suc n) (suc i) low = kept-below xs n i (omega (arith, low))

kept-past : (xs : List ℕ) (n i : ℕ) → n ≤ i → get_or (take n xs) i 0 ≡ 0
kept-past xs zero i high = refl
kept-past [] (suc n) i high = refl
kept-past (x ∷ xs) (suc n) zero high = absurd (omega (arith, high))
kept-past (x ∷ xs) (suc n) (suc i) high = kept-past xs n i (omega (arith, high))

kept-long : (xs : List ℕ) (n : ℕ) → n ≤ length xs → length (take n xs) ≡ n
kept-long xs zero low = refl
kept-long [] (suc n) low = absurd (omega (arith, low))
kept-long (x ∷ xs) (suc n) low = ap suc (kept-long xs n (omega (arith, low)))

module _ (heap : ℕ → Block) (words : List ℕ) (size n : ℕ) (t : Tables) (head : IsRunningHead words size) (laid : Laid heap (memory_of words) t.given) (goes : Goes heap t) (names : CellsName t)
    (gave : t.given ≤ n) (least : 520 ≤ n) (most : n ≤ size) (long : n ≤ length words) where
  cut_long : length (cut_at n words) ≡ n
  cut_long = length-set (take n words) 3 n ∙ kept-long words n long

  cut_same : (i : ℕ) → i ≢ 3 → get_or (cut_at n words) i 0 ≡ get_or words i 0
  cut_same i other = get_or-set_other (take n words) 3 i n 0 other ∙ elim (cases_lt i n) [
    | inl low ↦ kept-below words n i low
    | inr high ↦ kept-past words n i (omega (arith, high)) ∙ sym (laid.keeps.clear i (omega (arith, high, gave)))
  ]

  cut_counter : get_or (cut_at n words) 3 0 ≡ n
  cut_counter = get_or-set_same (take n words) 3 n 0 (let e = kept-long words n long in omega (arith, e, least))

  cut_laid : Laid heap (memory_of (cut_at n words)) (length (cut_at n words))
  cut_laid = subst (Laid heap (memory_of (cut_at n words))) (sym cut_long)
      (header_laid heap (memory_of words) (memory_of (cut_at n words)) n 3 n (omega arith) least (record { now = cut_counter; same = cut_same }) (laid-higher heap (memory_of words) t.given n gave laid))

  pub closed-stands : Stands (cut_at n words) size (primary t)
  closed-stands =
      let contents = contents-lawful heap (memory_of words) t.given t laid goes names in
      certificate_stands (cut_at n words) size (primary t) (record {
        heap = heap;
        certified = record {
          headed = record {
            magic = cut_same 0 (λ e. omega arith) ∙ head.magic;
            version = cut_same 1 (λ e. omega arith) ∙ head.version;
            size_there = cut_same 2 (λ e. omega arith) ∙ head.size_there;
            counter = cut_counter ∙ sym cut_long;
            zeros = λ i lo hi. cut_same i (λ e. omega (arith, lo, e)) ∙ head.zeros i lo hi;
            least = head.least;
            most = head.most;
            long = (let e = cut_long in omega (arith, e, least));
            within = (let e = cut_long in omega (arith, e, most));
          };
          laid = cut_laid;
          contents = contents;
          names = primary_names heap (memory_of words) t.given laid contents t goes;
        };
      })

-- ---- closing

min-cases : (a b : ℕ) → ((min a b ≡ a) × (a ≤ b)) ⊎ ((min a b ≡ b) × (b ≤ a))
min-cases a b = elim (cases_lt a b) [
  | inl low ↦ inl (omega arith, omega arith)
  | inr high ↦ inr (omega arith, high)
]

module _ (key : Key) (seen : IsSeen key.primary.value) (log : List Event) (heap : ℕ → Block) (words : List ℕ) (views : List SeatView) (r : IsRunning key.primary.value.words (origin key) log heap words views) where
  head : IsRunningHead words key.primary.value.tables.size
  head =
      let h = seen.stands.headed in
      record {
        magic = r.header 0 (omega arith) (λ e. omega arith) ∙ h.magic;
        version = r.header 1 (omega arith) (λ e. omega arith) ∙ h.version;
        size_there = r.header 2 (omega arith) (λ e. omega arith) ∙ h.size_there;
        zeros = λ i lo hi. r.header i hi (λ e. omega (arith, lo, e)) ∙ h.zeros i lo hi;
        least = h.least;
        most = h.most;
      }

  pub stands-for : StandFor (origin key) log (kept key.primary.value.tables.size words)
  stands-for =
      let placed = placed-run (origin key).upstream (origin key).start log r.run in
      let same = size-same (origin key).upstream (origin key).start log r.run in
      let low = given-least key.primary.value.words (origin key) seen.start log heap words views r in
      let counter = r.counter in
      let all = r.size in
      let below = placed.within_counter in
      let inside = placed.within_size in
      let n : ℕ = min (slice_index words 3) key.primary.value.tables.size in
      let least : 520 ≤ min (slice_index words 3) key.primary.value.tables.size = elim (min-cases (slice_index words 3) key.primary.value.tables.size) [ inl t ↦ let e = t.0 in omega arith | inr t ↦ let e = t.0 in omega arith ] in
      let gave : (after (origin key) log).given ≤ min (slice_index words 3) key.primary.value.tables.size = elim (min-cases (slice_index words 3) key.primary.value.tables.size) [ inl t ↦ let e = t.0 in omega arith | inr t ↦ let e = t.0 in omega arith ] in
      let most : min (slice_index words 3) key.primary.value.tables.size ≤ key.primary.value.tables.size = elim (min-cases (slice_index words 3) key.primary.value.tables.size) [ inl t ↦ let e = t.0 in let m = t.1 in omega arith | inr t ↦ let e = t.0 in omega arith ] in
      record {
        long = length-set (take (min (slice_index words 3) key.primary.value.tables.size) words) 3 (min (slice_index words 3) key.primary.value.tables.size)
            ∙ kept-long words (min (slice_index words 3) key.primary.value.tables.size) (omega arith)
            ∙ ap (λ (c : ℕ). min c key.primary.value.tables.size) r.counter;
        stands = closed-stands heap words key.primary.value.tables.size (min (slice_index words 3) key.primary.value.tables.size) (after (origin key) log) head r.laid r.goes
            (sound-run (origin key).upstream (origin key).start log r.run).names gave least most (omega arith);
      }

  pub counter-least : 520 ≤ slice_index words 3
  counter-least =
      let low = given-least key.primary.value.words (origin key) seen.start log heap words views r in
      let below = (placed-run (origin key).upstream (origin key).start log r.run).within_counter in
      let counter = r.counter in
      omega arith

  pub ends : (id : ℕ) (v : SeatView) → get_elem? views id ≡ some v → ViewsGo log views → Ends (origin key) v log
  ends id v at go = record {
    goes_on = let p = go.begins id v at in goes-on v.numbers v.seen log p.0 p.1 (λ n has. go.own id v at n has);
    run = r.run;
    whole = λ has. alone-others log views go id v at has;
  }

-- what the last state of the table tells
pub closes : (key : Key) → IsSeen key.primary.value → (id : ℕ) (v : SeatView) (words : List ℕ) (slots : List (Unit {0})) → Final (Seen (Holds key) id v) words slots → ClosesWith key v words
closes key seen id v words slots final =
    subst (λ (ws : List ℕ). ClosesWith key v ws) final.2 record {
      least = counter-least key seen final.1.0.0 final.1.0.1 final.0.words final.0.views final.1.0.2;
      log = final.1.0.0;
      ends = ends key seen final.1.0.0 final.1.0.1 final.0.words final.0.views final.1.0.2 id v final.1.1 final.1.0.3;
      stand = stands-for key seen final.1.0.0 final.1.0.1 final.0.words final.0.views final.1.0.2;
    }

-- the closed words have a state, and their tables name it
pub has-state : (o : Origin) (log : List Event) (words : List ℕ) → StandFor o log words → HasState words
has-state o log words s = record { state = primary_of o.start log; stands = subst (λ (n : ℕ). Stands words n (primary_of o.start log)) (sym s.stands.headed.size_there) s.stands }

pub names-the-end : (o : Origin) (log : List Event) (frozen : FrozenSeen) → StandFor o log frozen.words → IsSeen frozen → NamesTheEnd o log frozen
names-the-end o log frozen s seen = record {
  size = sym seen.stands.headed.size_there ∙ s.stands.headed.size_there;
  counter = seen.counter ∙ s.long;
  state = one_state frozen.words frozen.tables.size o.start.size (primary frozen.tables) (primary_of o.start log) seen.stands s.stands;
}

-- the same, where the region, the seat and the words go by other names
pub closes-as : (key key' : Key) (v v' : SeatView) (words words' : List ℕ) → key ≡ key' → v ≡ v' → words ≡ words' → ((log : List Event) × Ends (origin key) v log × StandFor (origin key) log words) → (log : List Event) × Ends (origin key') v' log × StandFor (origin key') log words'
closes-as key key' v v' words words' k w l told =
    subst (λ (z : Key). (log : List Event) × Ends (origin z) v' log × StandFor (origin z) log words') k
    (subst (λ (z : SeatView). (log : List Event) × Ends (origin key) z log × StandFor (origin key) log words') w
    (subst (λ (z : List ℕ). (log : List Event) × Ends (origin key) v log × StandFor (origin key) log z) l told))

pub stands-as : (key key' : Key) (log : List Event) (words words' : List ℕ) → key ≡ key' → words ≡ words' → StandFor (origin key) log words → StandFor (origin key') log words'
stands-as key key' log words words' k l s = subst (λ (z : Key). StandFor (origin z) log words') k (subst (λ (z : List ℕ). StandFor (origin key) log z) l s)
