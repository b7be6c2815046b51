-- What stays as a run goes on.
use Rattle.std.proofs.Common.{◌≡◌, ℕ, zero, suc, ◌+◌, ◌<◌, ◌≤◌, List, [], ◌∷◌, ◌++◌, Bool, true, false, cond, ◌==◌, ◌&&◌, None, Some, refl, ap, sym, ◌∙◌, subst, arith}
use Rattle.std.specs.declared.option.Option.{Option}
use Rattle.std.proofs.lemmas.Bool.{eqb-true}
use Rattle.cas_model.specs.declared.digest.Digest.{Digest}
use Rattle.cas_model.specs.declared.place.Place.{Place}
use Rattle.cas_model.specs.declared.place.Space.{Space}
use Rattle.cas_model.specs.declared.place.Space.TheVariants.{Objects, Actions}
use Rattle.cas_model.specs.declared.call.Who.{Who}
use Rattle.cas_model.specs.State.{State}
use Rattle.cas_model.specs.Object.{object_digest}
use Rattle.cas_model.proofs.Maps.{same-is, same-self}
use Rattle.cas_history.specs.declared.event.Act.{Act}
use Rattle.cas_history.specs.declared.event.Act.TheVariants.{Look, Bind, Read, Claim, Room, Fill}
use Rattle.cas_model.specs.declared.tables.Cell.{Cell}
use Rattle.cas_model.specs.declared.tables.Content.{Content}
use Rattle.cas_history.specs.declared.event.Event.{Event}
use Rattle.cas_model.specs.declared.tables.Record.{Record}
pub use Rattle.cas_history.specs.Grows.{Grows}
use Rattle.cas_model.specs.Tables.{Tables, place_of, record_at, cell_of, words_at, digest_at, digest_of_record, digests_at, object_of, is_for, same_space, same_digest}
use Rattle.cas_history.specs.Run.{tables, after_act, bound_by, filled_by, published}
use Rattle.cas_history.specs.Lawful.{IsLawfulRun, MayHappen, MayBind, MayFill, MayFillAt}
use Rattle.cas_model.specs.Start.{IsRecord, IsFilled, RefsBelow, IsContentFor, CellNames}
use Rattle.cas_model.specs.Content.{content_places, content_bytes}

pub grows-self : (s : Tables) → Grows s s
grows-self s = record { size = refl; records = λ n r h. h; places = λ space digest p h. h; cells = λ n h. refl; blocks = λ n words h. h }

pub grows-then : (a b c : Tables) → Grows a b → Grows b c → Grows a c
grows-then a b c one two = record {
  size = two.size ∙ one.size;
  records = λ n r h. two.records n r (one.records n r h);
  places = λ space digest p h. two.places space digest p (one.places space digest p h);
  cells = λ n h. two.cells n (subst (λ m. 0 < m) (sym (one.cells n h)) h) ∙ one.cells n h;
  blocks = λ n words h. two.blocks n words (one.blocks n words h);
}

-- ---- one row more

record-more : (r : Record) (rs : List Record) (n : ℕ) (old : Record) → record_at rs r.place.at ≡ None → record_at rs n ≡ Some old → record_at (r ∷ rs) n ≡ Some old
record-more r rs n old none is = step (r.place.at == n) refl where
  step : (b : Bool) → (r.place.at == n) ≡ b → cond b (Some r) (record_at rs n) ≡ Some old
  step true test = absurd (cc (ap (record_at rs) (eqb-true r.place.at n test), none, is))
  step false test = is

cell-more : (c : Cell) (cs : List Cell) (n : ℕ) → cell_of cs c.of.at ≡ 0 → 0 < cell_of cs n → cell_of (c ∷ cs) n ≡ cell_of cs n
cell-more c cs n zero_ some = step (c.of.at == n) refl where
  step : (b : Bool) → (c.of.at == n) ≡ b → cond b c.value (cell_of cs n) ≡ cell_of cs n
  step true test = absurd (let e : cell_of cs c.of.at ≡ cell_of cs n = ap (cell_of cs) (eqb-true c.of.at n test) in omega (arith, e, zero_, some))
  step false test = refl

words-more : (c : Content) (cs : List Content) (n : ℕ) (old : List ℕ) → words_at cs c.place ≡ None → words_at cs n ≡ Some old → words_at (c ∷ cs) n ≡ Some old
words-more c cs n old none is = step (c.place == n) refl where
  step : (b : Bool) → (c.place == n) ≡ b → cond b (Some c.words) (words_at cs n) ≡ Some old
  step true test = absurd (cc (ap (words_at cs) (eqb-true c.place n test), none, is))
  step false test = is

published-more : (value : ℕ) (words : List ℕ) (cs : List Content) (n : ℕ) (old : List ℕ) → ((words ≡ [] → ⊥) → words_at cs value ≡ None) → words_at cs n ≡ Some old → words_at (published value words cs) n ≡ Some old
published-more value [] cs n old none is = is
published-more value (w ∷ ws) cs n old none is = words-more (record { place = value; words = w ∷ ws }) cs n old (none (λ h. cc)) is

-- the place of a digest is not bound again where the digest was bound to nothing
place-more : (space : Space) (digest : Digest) (own : Place) (rs : List Record) (its : Space) (d : Digest) (p : Place)
    → ((b : Bool) → is_for its d (record { space = space; digest = digest; place = own }) ≡ b → b ≡ true → place_of rs its d ≡ None)
    → place_of rs its d ≡ Some p → place_of ((record { space = space; digest = digest; place = own }) ∷ rs) its d ≡ Some p
place-more space digest own rs its d p none is = step (is_for its d (record { space = space; digest = digest; place = own })) refl where
  step : (b : Bool) → is_for its d (record { space = space; digest = digest; place = own }) ≡ b → cond b (Some own) (place_of rs its d) ≡ Some p
  step true test = absurd (cc (none true test refl, is))
  step false test = is

space-is : (a b : Space) → same_space a b ≡ true → a ≡ b
space-is Objects Objects h = refl
space-is Actions Actions h = refl
space-is Objects Actions h = cc
space-is Actions Objects h = cc

pub space-self : (a : Space) → same_space a a ≡ true
space-self Objects = refl
space-self Actions = refl

and-left : (a b : Bool) → (a && b) ≡ true → a ≡ true
and-left true b h = refl
and-left false b h = cc

and-right : (a b : Bool) → (a && b) ≡ true → b ≡ true
and-right true b h = h
and-right false b h = cc

-- a record that passes the test is that of the digest
pub for-is : (space : Space) (digest : Digest) (r : Record) → is_for space digest r ≡ true → (r.space ≡ space) × (r.digest ≡ digest)
for-is space digest r h = (space-is r.space space (and-left _ _ h), same-is r.digest digest (and-right _ _ h))

pub for-self : (r : Record) → is_for r.space r.digest r ≡ true
for-self r = ap (λ b. b && same_digest r.digest r.digest) (space-self r.space) ∙ same-self r.digest

-- ---- one event

pub grows-bind : (s : Tables) (who : Who) (space : Space) (digest : Digest) (found own : Option Place) → place_of s.bound space digest ≡ found → MayBind s who found own
    → Grows s (bound_by s space digest found own)
grows-bind s who space digest (Some p) own is may = grows-self s
grows-bind s who space digest None None is may = absurd may
grows-bind s who space digest None (Some own) is may =
    let new : Record = record { space = space; digest = digest; place = own } in
    let same : (its : Space) (d : Digest) (b : Bool) → is_for its d new ≡ b → b ≡ true → place_of s.bound its d ≡ None =
    λ its d b test e. let for = for-is its d new (test ∙ e) in
    (λ i. place_of s.bound (sym for.0 i) (sym for.1 i)) ∙ is in
    record {
      size = refl;
      records = λ n r h. record-more new s.bound n r may.no_record h;
      places = λ its d p h. place-more space digest own s.bound its d p (same its d) h;
      cells = λ n h. refl;
      blocks = λ n words h. h;
    }

pub grows-fill : (s : Tables) (had : ℕ) (cell : Place) (value : ℕ) (words : List ℕ) → cell_of s.filled cell.at ≡ had → ((words ≡ [] → ⊥) → words_at s.blocks value ≡ None)
    → Grows s (filled_by s had cell value words)
grows-fill s (suc had) cell value words is free = grows-self s
grows-fill s zero cell value words is free = record {
  size = refl;
  records = λ n r h. h;
  places = λ space digest p h. h;
  cells = λ n h. cell-more (record { of = cell; value = value }) s.filled n is h;
  blocks = λ n old h. published-more value words s.blocks n old free h;
}

-- a lawful fill has words only where nothing names them yet
pub free-words : (up : State) (s : Tables) (who : Who) (space : Space) (digest : Digest) (value : ℕ) (words : List ℕ) → MayFill up s who space digest value words
    → (words ≡ [] → ⊥) → words_at s.blocks value ≡ None
free-words up s who Objects digest value words may some = may.free.no_content
free-words up s who Actions digest value words may some = absurd (some may.no_words)

pub free-at : (up : State) (s : Tables) (who : Who) (found : Option Record) (value : ℕ) (words : List ℕ) → MayFillAt up s who found value words
    → (words ≡ [] → ⊥) → words_at s.blocks value ≡ None
free-at up s who None value words may some = absurd may
free-at up s who (Some r) value words may some = free-words up s who r.space r.digest value words may some

pub room-grows : (moved : Bool) (a n : ℕ) → a ≤ cond moved (a + n) a
room-grows true a n = omega arith
room-grows false a n = omega arith

-- a bind and a fill leave the counter
pub bound-counter : (s : Tables) (space : Space) (digest : Digest) (found own : Option Place) → (bound_by s space digest found own).counter ≡ s.counter
bound-counter s space digest (Some p) own = refl
bound-counter s space digest None None = refl
bound-counter s space digest None (Some own) = refl

pub filled-counter : (s : Tables) (had : ℕ) (cell : Place) (value : ℕ) (words : List ℕ) → (filled_by s had cell value words).counter ≡ s.counter
filled-counter s (suc had) cell value words = refl
filled-counter s zero cell value words = refl

-- an event that may happen leaves what is bound, filled and published
pub grows-act : (up : State) (s : Tables) (who : Who) (act : Act) → MayHappen up s who act → Grows s (after_act s who act)
grows-act up s who (Look space digest) may = grows-self s
grows-act up s who (Bind space digest own) may = grows-bind s who space digest (place_of s.bound space digest) own refl may
grows-act up s who (Read cell) may = grows-self s
grows-act up s who (Claim n) may = record { size = refl; records = λ m r h. h; places = λ space digest p h. h; cells = λ m h. refl; blocks = λ m words h. h }
grows-act up s who (Room n moved) may = record { size = refl; records = λ m r h. h; places = λ space digest p h. h; cells = λ m h. refl; blocks = λ m words h. h }
grows-act up s who (Fill cell value words) may = grows-fill s (cell_of s.filled cell.at) cell value words refl (free-at up s who (record_at s.bound cell.at) value words may)

-- a lawful run that goes on grows
pub grows-more : (up : State) (start : Tables) (more seen : List Event) → IsLawfulRun up start (more ++ seen) → Grows (tables start seen) (tables start (more ++ seen))
grows-more up start [] seen lawful = grows-self (tables start seen)
grows-more up start (e ∷ es) seen lawful =
    grows-then (tables start seen) (tables start (es ++ seen)) (tables start (e ∷ es ++ seen)) (grows-more up start es seen lawful.0) (grows-act up (tables start (es ++ seen)) e.note.who e.act lawful.1)

-- the size is the start's
pub size-same : (up : State) (start : Tables) (seen : List Event) → IsLawfulRun up start seen → (tables start seen).size ≡ start.size
size-same up start [] lawful = refl
size-same up start (e ∷ es) lawful = (grows-act up (tables start es) e.note.who e.act lawful.1).size ∙ size-same up start es lawful.0

-- ---- what lasts as tables grow

module _ (s t : Tables) (grows : Grows s t) where
  pub record-lasts : (space : Space) (n : ℕ) → IsRecord s space n → IsRecord t space n
  record-lasts space n is = record { found = is.found; is = grows.records n is.found is.is; in_space = is.in_space }

  pub filled-lasts : (n : ℕ) → IsFilled s n → IsFilled t n
  filled-lasts n is = record { object = record-lasts Objects n is.object; filled = subst (λ m. 0 < m) (sym (grows.cells n is.filled)) is.filled }

  pub digest-lasts : (n : ℕ) (r : Record) → record_at s.bound n ≡ Some r → digest_at t.bound n ≡ digest_at s.bound n
  digest-lasts n r is = ap digest_of_record (grows.records n r is) ∙ sym (ap digest_of_record is)

  pub refs-last : (value : ℕ) (ns : List ℕ) → RefsBelow s value ns → RefsBelow t value ns
  refs-last value [] refs = tt
  refs-last value (n ∷ ns) refs = (filled-lasts n refs.0, subst (λ m. m < value) (sym (grows.cells n refs.0.filled)) refs.1, refs-last value ns refs.2)

  pub digests-last : (value : ℕ) (ns : List ℕ) → RefsBelow s value ns → digests_at t.bound ns ≡ digests_at s.bound ns
  digests-last value [] refs = refl
  digests-last value (n ∷ ns) refs = λ i. digest-lasts n refs.0.object.found refs.0.object.is i ∷ digests-last value ns refs.2 i

  pub object-lasts : (value : ℕ) (words : List ℕ) → RefsBelow s value (content_places words) → object_of t.bound words ≡ object_of s.bound words
  object-lasts value words refs = λ i. record { refs = digests-last value (content_places words) refs i; «data» = content_bytes words }

  -- a lawful fill of an object's cell stays lawful
  pub content-lasts : (digest : Digest) (value : ℕ) (words : List ℕ) → IsContentFor s digest value words → IsContentFor t digest value words
  content-lasts digest value words is = record {
    content = is.content;
    refs = refs-last value (content_places words) is.refs;
    named = ap object_digest (object-lasts value words is.refs) ∙ is.named;
  }

  pub names-last : (space : Space) (digest : Digest) (value : ℕ) → CellNames s space digest value → CellNames t space digest value
  names-last Objects digest value (words, there, is) = (words, grows.blocks value words there, content-lasts digest value words is)
  names-last Actions digest value is = filled-lasts value is
