-- Looking for a key: a look, and a read of its record.
use Rattle.std.proofs.Common.{◌≡◌, ℕ, List, ◌∷◌, ◌++◌, Bool, true, ◌==◌, inr, None, Some, is_none, is_some, refl, ap, sym, ◌∙◌, subst, arith}
use Rattle.std.specs.declared.option.Option.{Option}
use Rattle.cas_model.specs.declared.call.Call.{Call}
use Rattle.cas_model.specs.declared.call.Reply.{Reply}
use Rattle.cas_model.specs.declared.call.Who.{Who}
use Rattle.cas_model.specs.declared.digest.Digest.{Digest}
use Rattle.cas_model.specs.declared.note.Stage.TheVariants.{Key}
use Rattle.cas_model.specs.declared.place.Place.{Place}
use Rattle.cas_model.specs.declared.place.Space.TheVariants.{Actions}
use Rattle.cas_model.specs.Primary.{cell_at}
use Rattle.cas_model.specs.Tables.{Tables, place_of, cell_of}
use Rattle.cas_history.specs.declared.event.Act.TheVariants.{Look, Read}
use Rattle.cas_history.specs.declared.event.Event.{Event}
use Rattle.cas_history.specs.Conduct.{CallOpen}
use Rattle.cas_history.specs.Cost.{asked}
use Rattle.cas_history.specs.History.{decided}
use Rattle.cas_history.specs.Lawful.{IsLawfulRun}
use Rattle.cas_history.specs.Run.{tables as tables_after}
use Rattle.cas_history.proofs.Grown.{grows-more}
use Rattle.cas_history.proofs.Sound.{sound-run}
use Rattle.cas_port.specs.Calls.{event_of, WantsMemory, IsLawful, Looked, HasRead, HasRecord}
use Rattle.cas_port.specs.View.{View, tables, Foreign}
use Rattle.graph_db.specs.Events.{SpeaksFor, Reads, Stands}
use Rattle.graph_db.proofs.Steps.{stands-event, foreign-before, readings-foreign, reads-then, asked-readings}
use Rattle.action_cache.specs.Keys.{MaySeekKey, GoesOnKey, HasSoughtKey, KeyStops}
use Rattle.cas_model.specs.Notes.{key_note}
use Rattle.action_cache.proofs.KeySteps.{key-foreign, key-goes-then, key-more, key-read, key-look-quiet}

-- ---- the look

module _ (who : Who) (key : Digest) (old : View) (others : List Event) (mine : SpeaksFor old who) (foreign : Foreign old.speaks others) where
  look-reads : Reads who old (record old { seen = event_of (key_note who) (Look Actions key) ∷ others ++ old.seen })
  look-reads = record { more = event_of (key_note who) (Look Actions key) ∷ others; is = refl; own = (inr (refl, refl), readings-foreign old.speaks who others foreign) }

  look-goes : GoesOnKey who old (record old { seen = event_of (key_note who) (Look Actions key) ∷ others ++ old.seen })
  look-goes = record { more = event_of (key_note who) (Look Actions key) ∷ others; is = refl; own = (inr refl, key-foreign old.speaks who others foreign) }

  look-stands : (calls : Who → Option Call) (call : Call) → calls who ≡ Some call → MaySeekKey old who call key → CallOpen old.upstream old.start calls who old.seen
      → Stands old.upstream old.start calls who call (decided old.upstream (tables_after old.start (others ++ old.seen)) call Key (Look Actions key)) (event_of (key_note who) (Look Actions key) ∷ others ++ old.seen)
  look-stands calls call is may opens =
      stands-event old.upstream old.start calls (key_note who) call (Look Actions key) (others ++ old.seen) (decided old.upstream (tables_after old.start (others ++ old.seen)) call Key (Look Actions key)) is
      (key-more old.upstream old.start others old.seen who call key may) ((foreign-before who call old others mine foreign).opens calls is opens) refl

  look-none : place_of (tables_after old.start (others ++ old.seen)).bound Actions key ≡ None
      → HasSoughtKey who key old (record old { seen = event_of (key_note who) (Look Actions key) ∷ others ++ old.seen }) 0
  unfolding look-reads
  look-none none =
      let s : Tables = tables_after old.start (others ++ old.seen) in
      record {
        value_is = sym (ap (cell_at s.filled) none);
        goes = look-goes;
        reads = look-reads;
        cost = let e = asked-readings old.speaks who (event_of (key_note who) (Look Actions key) ∷ others) old.seen look-reads.own mine in omega (arith, e);
        act = Look Actions key;
        earlier = others ++ old.seen;
        is = refl;
        same = refl;
        missed = ap is_none none;
        left = refl;
        decides = λ call. refl;
        stands = look-stands;
      }

pub looked-none : (who : Who) (key : Digest) (old new : View) → SpeaksFor old who → Looked (key_note who) Actions key old new None → HasSoughtKey who key old new 0
looked-none who key old new mine looked =
    let P : View → Type 0 = λ v. (None ≡ place_of (tables v).bound Actions key) → HasSoughtKey who key old v 0 in
    subst P (sym looked.adds.is) (λ none. look-none who key old looked.adds.others mine looked.adds.foreign (sym none)) looked.answer

pub looked-record : (who : Who) (key : Digest) (old new : View) (place : Place) → IsLawful old new → Looked (key_note who) Actions key old new (Some place) → HasRecord new place
looked-record who key old new place lawful looked =
    let found = (sound-run new.upstream new.start new.seen lawful.is).tied.to Actions key place (sym looked.answer) in
    ap is_some found.1

looked-stands : (who : Who) (key : Digest) (old new : View) (place : Place) → SpeaksFor old who → Looked (key_note who) Actions key old new (Some place)
    → (calls : Who → Option Call) (call : Call) → calls who ≡ Some call → MaySeekKey old who call key → CallOpen old.upstream old.start calls who old.seen
    → CallOpen new.upstream new.start calls who new.seen
looked-stands who key old new place mine looked calls call is may opens =
    let P : View → Type 0 = λ v. (Some place ≡ place_of (tables v).bound Actions key) → CallOpen v.upstream v.start calls who v.seen in
    subst P (sym looked.adds.is) (λ found.
    subst (λ (r : Option Reply). Stands old.upstream old.start calls who call r (event_of (key_note who) (Look Actions key) ∷ looked.adds.others ++ old.seen))
    (key-look-quiet old.upstream (tables_after old.start (looked.adds.others ++ old.seen)) call key (ap is_none (sym found)))
    (look-stands who key old looked.adds.others mine looked.adds.foreign calls call is may opens)) looked.answer

looked-reads : (who : Who) (key : Digest) (old new : View) (place : Option Place) → SpeaksFor old who → Looked (key_note who) Actions key old new place → Reads who old new × GoesOnKey who old new
looked-reads who key old new place mine looked =
    let P : View → Type 0 = λ v. Reads who old v × GoesOnKey who old v in
    subst P (sym looked.adds.is) (look-reads who key old looked.adds.others mine looked.adds.foreign, look-goes who key old looked.adds.others mine looked.adds.foreign)

looked-speaks : (who : Who) (key : Digest) (old new : View) (place : Option Place) → SpeaksFor old who → Looked (key_note who) Actions key old new place → SpeaksFor new who
looked-speaks who key old new place mine looked = subst (λ (v : View). SpeaksFor v who) (sym looked.adds.is) mine

looked-may : (who : Who) (call : Call) (key : Digest) (old new : View) (place : Option Place) → Looked (key_note who) Actions key old new place → MaySeekKey old who call key → MaySeekKey new who call key
looked-may who call key old new place looked may =
    subst (λ (v : View). MaySeekKey v who call key) (sym looked.adds.is) (key-more old.upstream old.start (event_of (key_note who) (Look Actions key) ∷ looked.adds.others) old.seen who call key may)

-- ---- the read

module _ (who : Who) (key : Digest) (cell : Place) (old : View) (others : List Event) (mine : SpeaksFor old who) (foreign : Foreign old.speaks others)
    (at : place_of (tables old).bound Actions key ≡ Some cell) (lawful : IsLawfulRun old.upstream old.start (event_of (key_note who) (Read cell) ∷ others ++ old.seen)) where
  read-at : place_of (tables_after old.start (others ++ old.seen)).bound Actions key ≡ Some cell
  read-at = (grows-more old.upstream old.start others old.seen lawful.0).places Actions key cell at

  read-reads : Reads who old (record old { seen = event_of (key_note who) (Read cell) ∷ others ++ old.seen })
  read-reads = record { more = event_of (key_note who) (Read cell) ∷ others; is = refl; own = (inr (refl, refl), readings-foreign old.speaks who others foreign) }

  read-value : (value : ℕ) → value ≡ cell_of (tables_after old.start (others ++ old.seen)).filled cell.at
      → HasSoughtKey who key old (record old { seen = event_of (key_note who) (Read cell) ∷ others ++ old.seen }) value
  unfolding read-reads
  read-value value is =
      let s : Tables = tables_after old.start (others ++ old.seen) in
      record {
        value_is = is ∙ sym (ap (cell_at s.filled) read-at);
        goes = record { more = event_of (key_note who) (Read cell) ∷ others; is = refl; own = (inr refl, key-foreign old.speaks who others foreign) };
        reads = read-reads;
        cost = let e = asked-readings old.speaks who (event_of (key_note who) (Read cell) ∷ others) old.seen read-reads.own mine in omega (arith, e);
        act = Read cell;
        earlier = others ++ old.seen;
        is = refl;
        same = refl;
        missed = ap (λ n. n == 0) (sym is);
        left = sym is;
        decides = λ call. refl;
        stands = λ calls call known may opens.
            stands-event old.upstream old.start calls (key_note who) call (Read cell) (others ++ old.seen) (decided old.upstream (tables_after old.start (others ++ old.seen)) call Key (Read cell)) known
            (key-read old.upstream old.start (others ++ old.seen) who call key cell (key-more old.upstream old.start others old.seen who call key may) read-at)
            ((foreign-before who call old others mine foreign).opens calls known opens) refl;
      }

pub read-sought : (who : Who) (key : Digest) (cell : Place) (old mid new : View) (value : ℕ) → SpeaksFor old who → Looked (key_note who) Actions key old mid (Some cell)
    → IsLawful mid new → HasRead (key_note who) cell mid new value → HasSoughtKey who key old new value
read-sought who key cell old mid new value mine looked lawful read =
    let P : View → Type 0 = λ v. IsLawfulRun v.upstream v.start v.seen → value ≡ cell_of (tables v).filled cell.at → HasSoughtKey who key mid v value in
    let h : HasSoughtKey who key mid new value =
    subst P (sym read.adds.is) (λ run is. read-value who key cell mid read.adds.others (looked-speaks who key old mid (Some cell) mine looked) read.adds.foreign (sym looked.answer) run value is) lawful.is read.answer in
    let first = looked-reads who key old mid (Some cell) mine looked in
    record {
      value_is = h.value_is;
      goes = key-goes-then who old mid new first.1 h.goes;
      reads = reads-then who old mid new first.0 h.reads;
      cost =
          let e : asked who mid.seen ≡ asked who old.seen = ap (λ (v : View). asked who v.seen) first.0.is ∙ asked-readings old.speaks who first.0.more old.seen first.0.own mine in
          omega (arith, e, h.cost);
      act = h.act;
      earlier = h.earlier;
      is = h.is;
      same = h.same;
      missed = h.missed;
      left = h.left;
      decides = h.decides;
      stands = λ calls call is may opens. h.stands calls call is (looked-may who call key old mid (Some cell) looked may) (looked-stands who key old mid cell mine looked calls call is may opens);
    }

-- ---- want of memory

pub looked-wants : (who : Who) (key : Digest) (cell : Place) (old mid new : View) → SpeaksFor old who → Looked (key_note who) Actions key old mid (Some cell) → WantsMemory mid new → KeyStops who key old new
looked-wants who key cell old mid new mine looked wants =
    let first = looked-reads who key old mid (Some cell) mine looked in
    subst (λ (v : View). KeyStops who key old v) (sym wants.same) (record {
      takes = subst (λ (b : Bool). b ≡ true) (ap (λ (v : View). v.takes_memory) first.0.is) wants.takes;
      goes = first.1;
      reads = first.0;
      cost =
          let e : asked who mid.seen ≡ asked who old.seen = ap (λ (v : View). asked who v.seen) first.0.is ∙ asked-readings old.speaks who first.0.more old.seen first.0.own mine in
          omega (arith, e);
      stands = λ calls call is may opens. looked-stands who key old mid cell mine looked calls call is may opens;
    })
