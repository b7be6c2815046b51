-- A plain port keeps the words of its run's contents in the events.
use Rattle.std.proofs.Common.{◌≡◌, ℕ, zero, suc, ◌+◌, ◌-◌, ◌<◌, ◌≤◌, List, [], ◌∷◌, ◌++◌, Bool, true, false, cond, ◌==◌, inl, inr, Some, None, length, get_or, refl, ap, sym, ◌∙◌, subst, arith, length-append}
use Rattle.std.proofs.lemmas.Bool.{eq-eqb, eqb-true, eqb-false, ne_eqb}
use Rattle.cas_model.specs.declared.digest.Digest.{Digest}
use Rattle.cas_model.specs.declared.note.Note.{Note}
use Rattle.cas_model.specs.declared.place.Full.{Full as Refusal}
use Rattle.cas_model.specs.declared.place.Place.{Place}
use Rattle.cas_model.specs.declared.place.Space.{Space}
use Rattle.cas_model.specs.declared.tables.Content.{Content}
use Rattle.cas_model.specs.State.{State}
use Rattle.cas_model.specs.Tables.{place_of, words_at}
use Rattle.cas_history.specs.declared.event.Act.{Act}
use Rattle.cas_history.specs.declared.event.Act.TheVariants.{Look, Bind, Read, Claim, Room, Fill}
use Rattle.cas_history.specs.declared.event.Event.{Event}
use Rattle.cas_history.proofs.Sound.{content-some}
use Rattle.cas_port.specs.declared.block.Block.{Block}
use Rattle.cas_port.specs.declared.block.OpenBlock.{OpenBlock}
use Rattle.cas_port.specs.declared.block.PortError.{PortError}
use Rattle.cas_port.specs.declared.block.PortError.TheVariants.{Full, Memory}
use Rattle.cell_port.specs.declared.shown.Shown.{Shown}
use Rattle.cas_port.specs.Calls.{event_of, IsWholeFill, words_of}
use Rattle.cell_port.specs.Needed.{needed}
use Rattle.cell_port.specs.Plain.{Tied, Keeps, BindsNew, BindStays, BindIsRefused, bind_claims, granted, rows_filled}
use Rattle.cell_port.specs.Shown.{act_words, words_before, shown_in, AreBelow, contents_of, number_at, shown_more}
use Rattle.cell_port.specs.Tables.{PlainRows}
use Rattle.cas_port.specs.View.{View}
use Rattle.cell_port.proofs.PlainBinds.{bind-append, tied-new, tied-stays}

-- ---- the words of an event

-- the events are listed with the newest first
pub words-at : (es : List Event) (n : ℕ) (d : Event) → n < length es → words_before es n ≡ act_words (get_or es (length es - 1 - n) d).act
words-at [] n d lt = absurd (omega arith)
words-at (e ∷ es) n d lt = step (length es == n) refl (λ lower. words-at es n d lower) where
  step : (b : Bool) → (length es == n) ≡ b → (n < length es → words_before es n ≡ act_words (get_or es (length es - 1 - n) d).act)
      → cond b (act_words e.act) (words_before es n) ≡ act_words (get_or (e ∷ es) (suc (length es) - 1 - n) d).act
  step true test below =
      let same : length es ≡ n = eqb-true (length es) n test in
      let here : suc (length es) - 1 - n ≡ 0 = omega (arith, same) in
      sym (ap (λ k. act_words (get_or (e ∷ es) k d).act) here)
  step false test below =
      let lower : n < length es = omega (arith, lt, eqb-false (length es) n test) in
      let next : suc (length es) - 1 - n ≡ suc (length es - 1 - n) = omega (arith, lower) in
      below lower ∙ sym (ap (λ k. act_words (get_or (e ∷ es) k d).act) next)

pub not-fill : (a : Act) → ((cell : Place) (value : ℕ) (words : List ℕ) → a ≡ Fill cell value words → ⊥) → act_words a ≡ []
not-fill (Look space digest) other = refl
not-fill (Bind space digest own) other = refl
not-fill (Read cell) other = refl
not-fill (Claim n) other = refl
not-fill (Room n moved) other = refl
not-fill (Fill cell value words) other = absurd (other cell value words refl)

-- where a fill that was found is
pub number-below : (n : ℕ) (ss : List Shown) (place k : ℕ) → AreBelow n ss → Some k ≡ number_at ss place → k < n
number-below n [] place k below is = cc
number-below n (s ∷ ss) place k below is = step (s.place == place) is (λ h. number-below n ss place k below.1 h) where
  step : (b : Bool) → Some k ≡ cond b (Some s.before) (number_at ss place) → (Some k ≡ number_at ss place → k < n) → k < n
  step true h again = let same : k ≡ s.before = cc in subst (λ m. m < n) (sym same) below.0
  step false h again = again h

-- the content at a place is that of the first fill there
pub shown-found : (seen : List Event) (ss : List Shown) (blocks : List Content) (place k : ℕ) → Some k ≡ number_at ss place → words_at (shown_in seen ss ++ blocks) place ≡ Some (words_before seen k)
shown-found seen [] blocks place k is = cc
shown-found seen (s ∷ ss) blocks place k is = step (s.place == place) is (λ h. shown-found seen ss blocks place k h) where
  step : (b : Bool) → Some k ≡ cond b (Some s.before) (number_at ss place) → (Some k ≡ number_at ss place → words_at (shown_in seen ss ++ blocks) place ≡ Some (words_before seen k))
      → cond b (Some (words_before seen s.before)) (words_at (shown_in seen ss ++ blocks) place) ≡ Some (words_before seen k)
  step true h again = let same : k ≡ s.before = cc in ap (λ n. Some (words_before seen n)) (sym same)
  step false h again = again h

-- or that of the rows
pub shown-not : (seen : List Event) (ss : List Shown) (blocks : List Content) (place : ℕ) → None ≡ number_at ss place → words_at (shown_in seen ss ++ blocks) place ≡ words_at blocks place
shown-not seen [] blocks place is = refl
shown-not seen (s ∷ ss) blocks place is = step (s.place == place) is (λ h. shown-not seen ss blocks place h) where
  step : (b : Bool) → None ≡ cond b (Some s.before) (number_at ss place) → (None ≡ number_at ss place → words_at (shown_in seen ss ++ blocks) place ≡ words_at blocks place)
      → cond b (Some (words_before seen s.before)) (words_at (shown_in seen ss ++ blocks) place) ≡ words_at blocks place
  step true h again = cc
  step false h again = again h

-- what comes after leaves them
words-more : (seen xs : List Event) (n : ℕ) → n < length seen → words_before (xs ++ seen) n ≡ words_before seen n
words-more seen [] n lt = refl
words-more seen (x ∷ xs) n lt =
    let long : length (xs ++ seen) ≡ length xs + length seen = length-append xs seen in
    let other : (length (xs ++ seen) == n) ≡ false = ne_eqb (length (xs ++ seen)) n (λ same. omega (arith, long, lt, same)) in
    ap (λ b. cond b (act_words x.act) (words_before (xs ++ seen) n)) other ∙ words-more seen xs n lt

shown-same : (seen xs : List Event) (ss : List Shown) → AreBelow (length seen) ss → shown_in (xs ++ seen) ss ≡ shown_in seen ss
shown-same seen xs [] below = refl
shown-same seen xs (s ∷ ss) below = λ i. (record { place = s.place; words = words-more seen xs s.before below.0 i }) ∷ shown-same seen xs ss below.1 i

below-more : (m n : ℕ) (ss : List Shown) → m ≤ n → AreBelow m ss → AreBelow n ss
below-more m n [] le below = tt
below-more m n (s ∷ ss) le below = (omega (arith, below.0), below-more m n ss le below.1)

-- ---- the moves of a port

-- the rows with all contents
abbrev pub whole : PlainRows → List Event → List Shown → PlainRows
whole r seen shown = record r { blocks = contents_of seen shown r }

module _ (up : State) (r : PlainRows) (opened : List OpenBlock) (seen : List Event) (shown : List Shown) (k : Keeps up r opened seen shown) where
  -- events that publish nothing
  pub keeps-more : (xs : List Event) (new : PlainRows) (left : List OpenBlock) (after : List Event) → after ≡ xs ++ seen → new.blocks ≡ r.blocks
      → Tied up (record new { blocks = contents_of seen shown r }) left after → Keeps up new left after shown
  keeps-more xs new left after is blocks tied = record {
    tied = subst (λ (bs : List Content). Tied up (record new { blocks = bs }) left after) (sym now) tied;
    below = subst (λ (es : List Event). AreBelow (length es) shown) (sym is) (below-more (length seen) (length (xs ++ seen)) shown (omega (arith, length-append xs seen)) k.below);
  } where
    now : shown_in after shown ++ new.blocks ≡ shown_in seen shown ++ r.blocks
    now = (λ i. shown_in (is i) shown ++ blocks i) ∙ ap (λ (bs : List Content). bs ++ r.blocks) (shown-same seen xs shown k.below)

  -- one event
  pub keeps-one : (e : Event) (new : PlainRows) (left : List OpenBlock) → new.blocks ≡ r.blocks → Tied up (record new { blocks = contents_of seen shown r }) left (e ∷ seen) → Keeps up new left (e ∷ seen) shown
  keeps-one e new left blocks tied = keeps-more (e ∷ []) new left (e ∷ seen) refl blocks tied

  -- other open blocks
  pub keeps-opens : (left : List OpenBlock) → Tied up (whole r seen shown) left seen → Keeps up r left seen shown
  keeps-opens left tied = record { tied = tied; below = k.below }

  -- a cell is filled with a place
  pub keeps-place : (note : Note) (cell : Place) (value had : ℕ) (left : List OpenBlock) → Tied up (rows_filled had (whole r seen shown) cell value []) left (event_of note (Fill cell value []) ∷ seen)
      → Keeps up (rows_filled had r cell value []) left (event_of note (Fill cell value []) ∷ seen) shown
  keeps-place note cell value (suc had) left tied = keeps-one (event_of note (Fill cell value [])) r left refl tied
  keeps-place note cell value zero left tied = keeps-one (event_of note (Fill cell value [])) (rows_filled zero r cell value []) left refl tied

  -- a content is published
  pub keeps-fill : (note : Note) (cell : Place) (value had : ℕ) (words : List ℕ) (left : List OpenBlock) → (words ≡ [] → ⊥)
      → Tied up (rows_filled had (whole r seen shown) cell value words) left (event_of note (Fill cell value words) ∷ seen)
      → Keeps up (rows_filled had r cell value []) left (event_of note (Fill cell value words) ∷ seen) (shown_more had value (length seen) shown)
  keeps-fill note cell value (suc had) words left some tied = keeps-one (event_of note (Fill cell value words)) r left refl tied
  keeps-fill note cell value zero [] left some tied = absurd (some refl)
  keeps-fill note cell value zero (w ∷ ws) left some tied =
      let e = event_of note (Fill cell value (w ∷ ws)) in
      let here : words_before (e ∷ seen) (length seen) ≡ w ∷ ws = ap (λ b. cond b (w ∷ ws) (words_before seen (length seen))) (eq-eqb (length seen) (length seen) refl) in
      let rest = shown-same seen (e ∷ []) shown k.below in
      record {
        tied = subst (λ (bs : List Content). Tied up (record r { filled = (record { of = cell; value = value }) ∷ r.filled; blocks = bs }) left (e ∷ seen))
            (sym (λ i. (record { place = value; words = here i }) ∷ (rest i ++ r.blocks))) tied;
        below = (omega arith, below-more (length seen) (suc (length seen)) shown (omega arith) k.below);
      }

-- the words of a fill are some
pub whole-some : (note : Note) (cell : Place) (v : View) (block : Block) (words : List ℕ) → IsWholeFill note cell v block → words ≡ words_of v block → words ≡ [] → ⊥
whole-some note cell v block words whole is none = content-some (words_of v block) whole.lawful.for.content (sym is ∙ none)

-- ---- binds

-- the events of a bind, and that it publishes nothing
binds-events : (note : Note) (space : Space) (digest : Digest) (r new : PlainRows) (seen after : List Event) (place : Place) → BindsNew note space digest r new seen after place
    → (xs : List Event) × (after ≡ xs ++ seen) × (new.blocks ≡ r.blocks)
binds-events note space digest r new seen after place b =
    let e = event_of note (Bind space digest (Some (record { at = r.counter }))) in (
      e ∷ bind_claims note (needed r.bound space digest) [],
      b.events ∙ ap (λ (es : List Event). e ∷ es) (bind-append note (needed r.bound space digest) seen),
      ap (λ (x : PlainRows). x.blocks) b.rows,
    )

refused-events : (note : Note) (r new : PlainRows) (seen after : List Event) (full : Refusal) → BindIsRefused note r new seen after full → (xs : List Event) × (after ≡ xs ++ seen) × (new.blocks ≡ r.blocks)
refused-events note r new seen after full (inl h) = (event_of note (Room 5 false) ∷ [], h.2, ap (λ (x : PlainRows). x.blocks) h.1)
refused-events note r new seen after full (inr h) =
    let e = event_of note (Room 16 false) in (
      e ∷ bind_claims note (granted r) [],
      h.2 ∙ ap (λ (es : List Event). e ∷ es) (bind-append note (granted r) seen),
      ap (λ (x : PlainRows). x.blocks) h.1,
    )

stays-events : (note : Note) (n : ℕ) (r new : PlainRows) (seen after : List Event) (e : PortError) → BindStays note n r new seen after e → (xs : List Event) × (after ≡ xs ++ seen) × (new.blocks ≡ r.blocks)
stays-events note n r new seen after Memory h = ([], h.1, ap (λ (x : PlainRows). x.blocks) h.0)
stays-events note n r new seen after (Full full) h = refused-events note r new seen after full h.1

refused-over : (note : Note) (r new : PlainRows) (seen after : List Event) (blocks : List Content) (full : Refusal) → BindIsRefused note r new seen after full
    → BindIsRefused note (record r { blocks = blocks }) (record new { blocks = blocks }) seen after full
refused-over note r new seen after blocks full (inl h) = inl (h.0, ap (λ (x : PlainRows). record x { blocks = blocks }) h.1, h.2, h.3)
refused-over note r new seen after blocks full (inr h) = inr (h.0, ap (λ (x : PlainRows). record x { blocks = blocks }) h.1, h.2, h.3)

module _ (up : State) (r : PlainRows) (opened : List OpenBlock) (seen : List Event) (shown : List Shown) (k : Keeps up r opened seen shown) (note : Note) (space : Space) (digest : Digest) (new : PlainRows) (after : List Event) where
  -- the same, over all contents
  pub binds-whole : (place : Place) → BindsNew note space digest r new seen after place → BindsNew note space digest (whole r seen shown) (record new { blocks = contents_of seen shown r }) seen after place
  binds-whole place b = record { fits = b.fits; at = b.at; rows = ap (λ (x : PlainRows). record x { blocks = contents_of seen shown r }) b.rows; events = b.events }

  pub stays-whole : (n : ℕ) (e : PortError) → BindStays note n r new seen after e → BindStays note n (whole r seen shown) (record new { blocks = contents_of seen shown r }) seen after e
  stays-whole n Memory h = (ap (λ (x : PlainRows). record x { blocks = contents_of seen shown r }) h.0, h.1)
  stays-whole n (Full full) h = (h.0, refused-over note r new seen after (contents_of seen shown r) full h.1)

  pub keeps-new : (place : Place) → place_of r.bound space digest ≡ None → BindsNew note space digest r new seen after place → Keeps up new opened after shown
  keeps-new place unbound b =
      let events = binds-events note space digest r new seen after place b in
      keeps-more up r opened seen shown k events.0 new opened after events.1 events.2
      (tied-new up (whole r seen shown) opened seen k.tied note space digest unbound (record new { blocks = contents_of seen shown r }) after place (binds-whole place b))

  pub keeps-stays : (n : ℕ) (e : PortError) → BindStays note n r new seen after e → Keeps up new opened after shown
  keeps-stays n e h =
      let events = stays-events note n r new seen after e h in
      keeps-more up r opened seen shown k events.0 new opened after events.1 events.2
      (tied-stays up (whole r seen shown) opened seen k.tied note space digest n (record new { blocks = contents_of seen shown r }) after e (stays-whole n e h))
