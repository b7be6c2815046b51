-- One more action in the rows of contents.
use Rattle.std.proofs.Common.{◌≡◌, ℕ, ◌+◌, ◌*◌, ◌<◌, ◌≤◌, ◌++◌, List, [], ◌∷◌, cond, Some, None, refl, ap, sym, ◌∙◌, subst, arith}
use Rattle.std.specs.declared.option.Option.{Option}
use Rattle.std.specs.FinMap as fin
use Rattle.std.proofs.lemmas.Bool.{eq-eqb}
use Rattle.cas_model.specs.declared.contents.Pair.{Pair}
use Rattle.cas_model.specs.declared.digest.Digest.{Digest}
use Rattle.cas_model.specs.declared.object.Object.{Object}
use Rattle.cas_model.specs.declared.place.Place.{Place}
use Rattle.cas_model.specs.declared.place.Space.TheVariants.{Objects, Actions}
use Rattle.cas_model.specs.declared.tables.Cell.{Cell}
use Rattle.cas_model.specs.declared.tables.Record.{Record}
use Rattle.cas_model.specs.Contents.{contents_state, object_digests, pair_keys}
use Rattle.cas_model.specs.Primary.{primary}
use Rattle.cas_model.specs.Start.{IsLawfulStart, IsFilled}
use Rattle.cas_model.specs.State.{State, empty_state, digest_cmp, Member}
use Rattle.cas_model.specs.Tables.{Tables, place_of, record_at, cell_of, digest_at, digest_of_record}
use Rattle.cas_history.specs.declared.event.Act.TheVariants.{Bind, Claim, Fill}
use Rattle.cas_history.specs.declared.event.Event.{Event}
use Rattle.cas_history.specs.Carried.{carried, state_filled_by}
use Rattle.cas_history.specs.End.{ended}
use Rattle.cas_history.specs.Grows.{Grows}
use Rattle.cas_history.specs.Lawful.{IsActionRule, Agrees}
use Rattle.cas_history.specs.Run.{tables}
use Rattle.cas_history.proofs.Ended.{end-is-start}
use Rattle.cas_history.proofs.Under.{carried-is}
use Rattle.cas_port.specs.Calls.{event_of}
use Rattle.cell_port.specs.FilledRows.{filled_objects, row_object}
use Rattle.cell_port.specs.Needed.{needed}
use Rattle.cell_port.specs.Parts.{at_place, with_action, IsBuilt}
use Rattle.cell_port.specs.Plain.{Tied, bind_claims, rows_filled}
use Rattle.cell_port.specs.Tables.{PlainRows, as_start}
use Rattle.cell_port.proofs.PlainTies.{tied-bind, tied-place, counter-free}
use Rattle.cell_port.proofs.RowsGrow.{records-more, contents-same}
use Rattle.cell_port.proofs.PartsBuilt.{somebody, from_here, tied-here, ended-is, carried-claims, RefIs, ref-is, none-in, grows-run, filled-stay}

module _ (r : PlainRows) (size claimed : ℕ) (objects : List Object) (pairs : List Pair) (built : IsBuilt size claimed objects pairs r) (p : Pair)
    (there : Member p.value (object_digests objects)) (fresh : Member p.key (pair_keys pairs) → ⊥) (fits : (with_action r p).counter ≤ r.start.size) where
  abbrev here : PlainRows
  here = from_here r

  abbrev value : ℕ
  value = at_place (place_of r.bound Objects p.value)

  abbrev row : Record
  row = record { space = Actions; digest = p.key; place = record { at = r.counter } }

  abbrev cell : Place
  cell = record { at = r.counter }

  pub unbound-key : place_of r.bound Actions p.key ≡ None
  unbound-key = none-in r.bound Actions p.key (subst (λ (ds : List Digest). Member p.key ds → ⊥) (sym built.keys) fresh)

  abbrev bound_events : List Event
  bound_events = event_of somebody (Bind Actions p.key (Some (record { at = r.counter }))) ∷ bind_claims somebody (needed r.bound Actions p.key) []

  t1 : Tied empty_state (record here { counter = (with_action r p).counter; bound = row ∷ r.bound }) [] bound_events
  t1 = tied-bind empty_state here [] [] (tied-here r built.lawful built.rows built.paid) somebody Actions p.key (needed r.bound Actions p.key) unbound-key fits (omega arith)

  abbrev now : Tables
  now = tables (as_start r) bound_events

  grows : Grows (as_start r) now
  grows = grows-run empty_state (as_start r) bound_events t1.lawful

  ref : RefIs r p.value
  ref = ref-is r objects pairs built.lawful built.state p.value there

  value-is : value ≡ ref.place.at
  value-is = ap at_place ref.at

  value-row : record_at now.bound ref.place.at ≡ Some ref.found
  value-row = grows.records ref.place.at ref.found ref.is

  named : digest_at now.bound value ≡ p.value
  named = ap (digest_at now.bound) value-is ∙ ap digest_of_record value-row ∙ ref.named

  rule : IsActionRule empty_state now p.key value
  rule = record {
    object = subst (λ n. IsFilled now n) (sym value-is) (record {
      object = record { found = ref.found; is = value-row; in_space = ref.object };
      filled = subst (λ n. 0 < n) (sym (grows.cells ref.place.at ref.some)) ref.some;
    });
    same = subst (λ (x : Option Digest). Agrees x (digest_at now.bound value)) (sym (fin.get-empty digest_cmp p.key)) tt;
  }

  own-row : record_at now.bound r.counter ≡ Some row
  own-row = ap (λ (rs : List Record). record_at rs r.counter) t1.ties.bound_is ∙ ap (λ b. cond b (Some row) (record_at r.bound r.counter)) (eq-eqb r.counter r.counter refl)

  no-record : record_at r.bound r.counter ≡ None
  no-record = (counter-free empty_state here [] [] (tied-here r built.lawful built.rows built.paid)).0

  no-cell : cell_of r.filled r.counter ≡ 0
  no-cell = built.lawful.rooted r.counter no-record

  abbrev filled_events : List Event
  filled_events = event_of somebody (Fill cell value []) ∷ bound_events

  t2 : Tied empty_state (record (with_action r p) { start = as_start r }) [] filled_events
  t2 = subst (λ n. Tied empty_state (rows_filled n (record here { counter = (with_action r p).counter; bound = row ∷ r.bound }) cell value []) [] filled_events) no-cell
      (tied-place empty_state _ [] bound_events t1 somebody cell value row own-row refl rule)

  end-is : ended (tables (as_start r) filled_events) ≡ as_start (with_action r p)
  end-is = ended-is _ (record (with_action r p) { start = as_start r }) t2.ties t2.within

  now-cell : cell_of now.filled r.counter ≡ 0
  now-cell = ap (λ (cs : List Cell). cell_of cs r.counter) t1.ties.filled_is ∙ no-cell

  state-is : primary (as_start (with_action r p)) ≡ contents_state objects (p ∷ pairs)
  state-is =
      let before : carried (as_start r) bound_events ≡ primary (as_start r) = carried-claims (as_start r) somebody (needed r.bound Actions p.key) (event_of somebody (Claim 5) ∷ []) in
      let filled : carried (as_start r) filled_events ≡ record (primary (as_start r)) { cache = fin.insert (primary (as_start r)).cache p.key p.value } =
      (λ i. state_filled_by (before i) now (now-cell i) (own-row i) value [])
      ∙ ap (λ (x : Digest). record (primary (as_start r)) { cache = fin.insert (primary (as_start r)).cache p.key x }) named in
      ap primary (sym end-is)
      ∙ sym (carried-is empty_state (as_start r) filled_events t2.lawful)
      ∙ filled
      ∙ ap (λ (s : State). record s { cache = fin.insert s.cache p.key p.value }) built.state

  order-is : filled_objects (row ∷ r.bound) r.blocks ((record { of = cell; value = value }) ∷ r.filled) ≡ objects
  order-is =
      let row_there : record_at (row ∷ r.bound) r.counter ≡ Some row = ap (λ b. cond b (Some row) (record_at r.bound r.counter)) (eq-eqb r.counter r.counter refl) in
      (λ i. row_object (row ∷ r.bound) r.blocks (row_there i) value ++ filled_objects (row ∷ r.bound) r.blocks r.filled)
      ∙ filled-stay r.bound (row ∷ r.bound) r.blocks r.blocks (records-more row r.bound no-record) (contents-same r.blocks) r.filled built.rows
      ∙ built.order

  pub action-built : IsBuilt size (claimed + (5 + 16 * needed r.bound Actions p.key)) objects (p ∷ pairs) (with_action r p)
  action-built = record {
    start = built.start;
    counter_is = omega (arith, built.counter_is);
    lawful = subst IsLawfulStart end-is (end-is-start empty_state (as_start r) filled_events t2.lawful);
    known = built.known;
    keys = ap (λ (ds : List Digest). p.key ∷ ds) built.keys;
    state = state-is;
    order = order-is;
    rows = t2.rows;
    paid = t2.paid;
  }
