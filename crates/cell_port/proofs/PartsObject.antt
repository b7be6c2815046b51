-- One more object in the rows of contents.
use Rattle.std.proofs.Common.{◌≡◌, ℕ, ◌+◌, ◌*◌, ◌^◌, ◌<◌, ◌≤◌, ◌++◌, List, [], ◌∷◌, cond, Some, None, length, refl, ap, sym, ◌∙◌, subst, arith}
use Rattle.std.specs.declared.option.Option.{Option}
use Rattle.std.specs.FinMap as fin
use Rattle.std.proofs.lemmas.Bool.{eq-eqb}
use Rattle.cas_model.specs.declared.digest.Digest.{Digest}
use Rattle.cas_model.specs.declared.object.Object.{Object}
use Rattle.cas_model.specs.declared.place.Place.{Place}
use Rattle.cas_model.specs.declared.place.Space.TheVariants.{Objects}
use Rattle.cas_model.specs.declared.tables.Cell.{Cell}
use Rattle.cas_model.specs.declared.tables.Content.{Content}
use Rattle.cas_model.specs.declared.tables.Record.{Record}
use Rattle.cas_model.specs.Content.{content_words, content_places, content_bytes}
use Rattle.cas_model.specs.Contents.{contents_state, object_digests, AllMembers}
use Rattle.cas_model.specs.Object.{object_digest}
use Rattle.cas_model.specs.Primary.{primary}
use Rattle.cas_model.specs.Start.{IsLawfulStart, RefsBelow}
use Rattle.cas_model.specs.State.{State, empty_state, digest_cmp, Member, AreBytes}
use Rattle.cas_model.specs.Tables.{Tables, place_of, record_at, words_at, cell_of, object_of, digests_at}
use Rattle.cas_model.proofs.ContentLemmas.{content_places-words, content_bytes-words, content_words-IsContent}
use Rattle.cas_history.specs.declared.event.Act.TheVariants.{Bind, Claim, Fill}
use Rattle.cas_history.specs.declared.event.Event.{Event}
use Rattle.cas_history.specs.Carried.{carried, state_filled_by}
use Rattle.cas_history.specs.End.{ended}
use Rattle.cas_history.specs.Grows.{Grows}
use Rattle.cas_history.specs.Lawful.{IsObjectRule, Agrees}
use Rattle.cas_history.specs.Run.{tables, published}
use Rattle.cas_history.proofs.Ended.{end-is-start}
use Rattle.cas_history.proofs.Under.{carried-is}
use Rattle.cas_port.specs.declared.block.OpenBlock.{OpenBlock}
use Rattle.cas_port.specs.Blank.{none_written}
use Rattle.cas_port.specs.Calls.{event_of}
use Rattle.cell_port.specs.FilledRows.{filled_objects, row_object, object_with}
use Rattle.cell_port.specs.Needed.{needed}
use Rattle.cell_port.specs.Parts.{places_of, with_object, IsBuilt}
use Rattle.cell_port.specs.Plain.{Tied, bind_claims, rows_filled}
use Rattle.cell_port.specs.Tables.{PlainRows, as_start}
use Rattle.cas_port.specs.View.{IsOpenFor, close_block}
use Rattle.cell_port.proofs.ContentWords.{length-content, length-places}
use Rattle.cell_port.proofs.PlainTies.{tied-bind, tied-open, tied-fill, length-none, counter-free}
use Rattle.cell_port.proofs.RowsGrow.{RecordsStay, ContentsStay, records-more, contents-more}
use Rattle.cas_model.proofs.DataBytes.{bytes-at}
use Rattle.cell_port.proofs.PartsBuilt.{somebody, from_here, tied-here, ended-is, carried-claims, ref-is, refs-there, none-in, grows-run, filled-stay}

module _ (r : PlainRows) (size claimed : ℕ) (objects : List Object) (built : IsBuilt size claimed objects [] r) (o : Object) (few : length o.refs ≤ 65535) (short : length o.data ≤ 16777215)
    (bytes : AreBytes o.data) (all : AllMembers o.refs (object_digests objects)) (fresh : Member (object_digest o) (object_digests objects) → ⊥)
    (fits : (with_object r o).counter ≤ r.start.size) where
  abbrev here : PlainRows
  here = from_here r

  abbrev k : ℕ
  k = needed r.bound Objects (object_digest o)

  abbrev value : ℕ
  value = r.counter + (5 + 16 * needed r.bound Objects (object_digest o))

  abbrev words : List ℕ
  words = content_words (places_of r.bound o.refs) o.data

  abbrev row : Record
  row = record { space = Objects; digest = object_digest o; place = record { at = r.counter } }

  pub unbound : place_of r.bound Objects (object_digest o) ≡ None
  unbound = none-in r.bound Objects (object_digest o) (subst (λ (ds : List Digest). Member (object_digest o) ds → ⊥) (sym built.known) fresh)

  many : 0 < length words
  many = let long = length-content (places_of r.bound o.refs) o.data in omega (arith, long)

  abbrev bound_events : List Event
  bound_events = event_of somebody (Bind Objects (object_digest o) (Some (record { at = r.counter }))) ∷ bind_claims somebody k []

  t1 : Tied empty_state (record here { counter = value; bound = row ∷ r.bound }) [] bound_events
  t1 = tied-bind empty_state here [] [] (tied-here r built.lawful built.rows built.paid) somebody Objects (object_digest o) k unbound (omega (arith, fits, many)) (omega arith)

  abbrev opens : List OpenBlock
  opens = (record { place = value; who = somebody.who; words = none_written (length words) }) ∷ []

  abbrev claimed_events : List Event
  claimed_events = event_of somebody (Claim (length words)) ∷ bound_events

  t2 : Tied empty_state (record here { counter = value + length words; bound = row ∷ r.bound }) opens claimed_events
  t2 = tied-open empty_state _ [] bound_events t1 somebody (length words) many fits

  abbrev now : Tables
  now = tables (as_start r) claimed_events

  own-row : record_at now.bound r.counter ≡ Some row
  own-row = ap (λ (rs : List Record). record_at rs r.counter) t2.ties.bound_is ∙ ap (λ b. cond b (Some row) (record_at r.bound r.counter)) (eq-eqb r.counter r.counter refl)

  grows : Grows (as_start r) now
  grows = grows-run empty_state (as_start r) claimed_events t2.lawful

  refs : RefsBelow now value (places_of r.bound o.refs) × (digests_at now.bound (places_of r.bound o.refs) ≡ o.refs)
  refs = refs-there r now value grows (omega arith) o.refs (object_digests objects) (λ x m. ref-is r objects [] built.lawful built.state x m) all

  long : length o.data < 2 ^ 32
  long = omega (arith, short)

  places-are : content_places words ≡ places_of r.bound o.refs
  places-are = content_places-words (places_of r.bound o.refs) o.data long

  object-is : object_of now.bound words ≡ o
  object-is =
      let refs_are : digests_at now.bound (content_places words) ≡ o.refs = ap (digests_at now.bound) places-are ∙ refs.1 in
      let bytes_are : content_bytes words ≡ o.data = content_bytes-words (places_of r.bound o.refs) o.data long (bytes-at o.data bytes) in
      λ i. record { refs = refs_are i; «data» = bytes_are i }

  rule : IsObjectRule empty_state now (object_digest o) value words
  rule = record {
    for = record {
      content = content_words-IsContent (places_of r.bound o.refs) o.data (let same = length-places r.bound o.refs in omega (arith, same, few)) short (bytes-at o.data bytes);
      refs = subst (λ (ns : List ℕ). RefsBelow now value ns) (sym places-are) refs.0;
      named = ap object_digest object-is;
    };
    same = subst (λ (x : Option Object). Agrees x (object_of now.bound words)) (sym (fin.get-empty digest_cmp (object_digest o))) tt;
  }

  opens-for : IsOpenFor opens somebody.who value (length words)
  opens-for = subst (λ b. cond b ((somebody.who ≡ somebody.who) × (length (none_written (length words)) ≡ length words)) ⊥) (sym (eq-eqb value value refl)) (refl, length-none (length words))

  abbrev cell : Place
  cell = record { at = r.counter }

  t3 : Tied empty_state (rows_filled (cell_of r.filled r.counter) (record here { counter = value + length words; bound = row ∷ r.bound }) cell value words) (close_block opens value)
      (event_of somebody (Fill cell value words) ∷ claimed_events)
  t3 = tied-fill empty_state _ opens claimed_events t2 somebody cell value (length words) words row opens-for refl own-row refl rule

  -- nothing was at the counter
  no-record : record_at r.bound r.counter ≡ None
  no-record = (counter-free empty_state here [] [] (tied-here r built.lawful built.rows built.paid)).0

  no-cell : cell_of r.filled r.counter ≡ 0
  no-cell = built.lawful.rooted r.counter no-record

  -- nothing was at the content's place
  no-content : words_at r.blocks value ≡ None
  no-content = ap (λ (bs : List Content). words_at bs value) (sym t1.ties.blocks_is) ∙ (counter-free empty_state _ [] bound_events t1).1

  abbrev filled_events : List Event
  filled_events = event_of somebody (Fill cell value words) ∷ claimed_events

  t4 : Tied empty_state (record (with_object r o) { start = as_start r }) (close_block opens value) filled_events
  t4 = subst (λ n. Tied empty_state (rows_filled n (record here { counter = value + length words; bound = row ∷ r.bound }) cell value words) (close_block opens value) filled_events) no-cell t3

  abbrev end : Tables
  end = tables (as_start r) filled_events

  end-is : ended end ≡ as_start (with_object r o)
  end-is = ended-is end (record (with_object r o) { start = as_start r }) t4.ties t4.within

  now-cell : cell_of now.filled r.counter ≡ 0
  now-cell = ap (λ (cs : List Cell). cell_of cs r.counter) t2.ties.filled_is ∙ no-cell

  state-is : primary (as_start (with_object r o)) ≡ contents_state (o ∷ objects) []
  state-is =
      let before : carried (as_start r) claimed_events ≡ primary (as_start r) = carried-claims (as_start r) somebody k (event_of somebody (Claim 5) ∷ []) in
      let filled : carried (as_start r) filled_events ≡ record (primary (as_start r)) { objects = fin.insert (primary (as_start r)).objects (object_digest o) o } =
      (λ i. state_filled_by (before i) now (now-cell i) (own-row i) value words)
      ∙ ap (λ (x : Object). record (primary (as_start r)) { objects = fin.insert (primary (as_start r)).objects (object_digest o) x }) object-is in
      ap primary (sym end-is)
      ∙ sym (carried-is empty_state (as_start r) filled_events t4.lawful)
      ∙ filled
      ∙ ap (λ (s : State). record s { objects = fin.insert s.objects (object_digest o) o }) built.state

  records : RecordsStay r.bound (row ∷ r.bound)
  records = records-more row r.bound no-record

  contents : ContentsStay r.blocks (published value words r.blocks)
  contents = contents-more value words r.blocks no-content

  order-is : filled_objects (row ∷ r.bound) (published value words r.blocks) ((record { of = cell; value = value }) ∷ r.filled) ≡ o ∷ objects
  order-is =
      let row_there : record_at (row ∷ r.bound) r.counter ≡ Some row = ap (λ b. cond b (Some row) (record_at r.bound r.counter)) (eq-eqb r.counter r.counter refl) in
      let words_there : words_at (published value words r.blocks) value ≡ Some words = ap (λ b. cond b (Some words) (words_at r.blocks value)) (eq-eqb value value refl) in
      let this : object_of (row ∷ r.bound) words ≡ o = ap (λ (rs : List Record). object_of rs words) (sym t2.ties.bound_is) ∙ object-is in
      let first : row_object (row ∷ r.bound) (published value words r.blocks) (record_at (row ∷ r.bound) r.counter) value ≡ o ∷ [] =
      ap (λ (x : Option Record). row_object (row ∷ r.bound) (published value words r.blocks) x value) row_there
      ∙ ap (object_with (row ∷ r.bound)) words_there
      ∙ ap (λ (x : Object). x ∷ []) this in
      (λ i. first i ++ filled_objects (row ∷ r.bound) (published value words r.blocks) r.filled)
      ∙ ap (λ (os : List Object). o ∷ os) (filled-stay r.bound (row ∷ r.bound) r.blocks (published value words r.blocks) records contents r.filled built.rows ∙ built.order)

  pub object-built : IsBuilt size (claimed + ((5 + 16 * needed r.bound Objects (object_digest o)) + length words)) (o ∷ objects) [] (with_object r o)
  object-built = record {
    start = built.start;
    counter_is = omega (arith, built.counter_is);
    lawful = subst IsLawfulStart end-is (end-is-start empty_state (as_start r) filled_events t4.lawful);
    known = ap (λ (ds : List Digest). object_digest o ∷ ds) built.known;
    keys = built.keys;
    state = state-is;
    order = order-is;
    rows = t4.rows;
    paid = omega (arith, t4.paid);
  }
