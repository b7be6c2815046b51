-- A lawful run whose sessions have conduct is a legal history.
use Rattle.std.proofs.Common.{length, ◌≡◌, ℕ, zero, suc, ◌+◌, ◌<◌, List, [], ◌∷◌, Bool, true, false, not, ◌&&◌, None, Some, is_some, is_none, take, refl, ap, sym, ◌∙◌, subst, arith}
use Rattle.std.specs.Prelude.{slice_get}
use Rattle.std.specs.declared.option.Option.{Option}
use Rattle.std.specs.Option.{option_map, option_or}
use Rattle.cas_model.specs.declared.digest.Digest.{Digest}
use Rattle.cas_model.specs.declared.object.Object.{Object}
use Rattle.cas_model.specs.declared.call.Call.{Call}
use Rattle.cas_model.specs.declared.call.Call.TheVariants.{Store, Load, Put, Get}
use Rattle.cas_model.specs.declared.place.Place.{Place}
use Rattle.cas_model.specs.declared.call.Reply.{Reply}
use Rattle.cas_model.specs.declared.call.Reply.TheVariants.{Stored, Found, Missing, Kept, Miss, Dangling, Full}
use Rattle.cas_model.specs.declared.place.Space.{Space}
use Rattle.cas_model.specs.declared.place.Space.TheVariants.{Objects, Actions}
use Rattle.cas_model.specs.declared.note.Stage.{Stage}
use Rattle.cas_model.specs.declared.note.Stage.TheVariants.{Ref, Own, Key, Deep}
use Rattle.cas_model.specs.declared.call.Who.{Who}
use Rattle.cas_model.specs.Object.{object_digest}
use Rattle.cas_model.specs.State.{State, has, HasAll, over}
use Rattle.cas_model.specs.Step.{Step, Entry, IsLegal, Keeps, added}
use Rattle.cas_history.specs.Answers.{fill_answer}
use Rattle.cas_history.specs.declared.event.Act.{Act}
use Rattle.cas_history.specs.declared.event.Act.TheVariants.{Look, Bind, Read, Claim, Room, Fill}
use Rattle.cas_history.specs.declared.event.Event.{Event}
use Rattle.cas_model.specs.declared.tables.Record.{Record}
use Rattle.cas_model.specs.Tables.{Tables, place_of, record_at, cell_of, digest_at, object_of}
use Rattle.cas_history.specs.Run.{tables, primary_of}
use Rattle.cas_history.specs.Lawful.{IsLawfulRun, MayHappen, MayFill, MayFillAt, Agrees}
use Rattle.cas_model.specs.Primary.{cell_at, cell_under, object_in, value_in, primary}
use Rattle.cas_history.specs.Carried.{filled_state, state_filled_by, carried_by}
use Rattle.cas_history.specs.History.{history, decided, decided_at, with_entry, with_event, is_miss, read_by, value_left, reply_where, reply_with, is_absent, dangling, loaded, got}
use Rattle.cas_history.specs.Conduct.{HasConduct, MayAct, MayMake, MayLookFor, MayStore, MayLoad, MayPut, MayGet, MayBring, IsAbout, IsValue, AreThere}
use Rattle.cas_model.proofs.Maps.{put-there}
use Rattle.cas_history.proofs.Grown.{size-same}
use Rattle.cas_history.proofs.Sound.{IsSound, sound-run}
use Rattle.cas_history.proofs.Under.{primary-act, value-at}
use Rattle.cas_history.proofs.Visible.{miss-empty, read-shows, cell-has, see-object, see-value, see-own, over-filled, there-all, taken-at, plus-zero, refs_of}
use Rattle.std.specs.FinMap as fin

-- what an event that decides this makes of the visible state
abbrev pub Next : ℕ → State → Call → Option Reply → State → Type 0
Next size v call None new = new ≡ v
Next size v call (Some reply) new = Step size v call reply new

-- a winning fill of this space and digest, and nothing where the cell was filled
abbrev pub filled_had : State → ℕ → Space → Digest → Object → Digest → State
filled_had p (suc _) space d o value = p
filled_had p zero space d o value = filled_state p space d o value

-- ---- a fill is of the digest that its event is about

pub record IsFillOf (up : State) (s : Tables) (who : Who) (space : Space) (d : Digest) (cell : Place) (value : ℕ) (words : List ℕ) : Type 0 where
  pub may : MayFill up s who space d value words
  pub cell_is : cell_under s space d ≡ cell_of s.filled cell.at
  pub state : (p : State) (had : ℕ) → state_filled_by p s had (record_at s.bound cell.at) value words ≡ filled_had p had space d (object_of s.bound words) (digest_at s.bound value)

fill-of : (up : State) (s : Tables) (who : Who) (space : Space) (d : Digest) (cell : Place) (value : ℕ) (words : List ℕ) → IsSound s → place_of s.bound space d ≡ Some cell
    → MayFillAt up s who (record_at s.bound cell.at) value words → IsFillOf up s who space d cell value words
fill-of up s who space d cell value words sound at may =
    let there = sound.tied.to space d cell at in
    let named : MayFill up s who there.0.space there.0.digest value words = subst (λ (f : Option Record). MayFillAt up s who f value words) there.1 may in
    record {
      may = subst (λ (x : Digest). MayFill up s who space x value words) there.3 (subst (λ (sp : Space). MayFill up s who sp there.0.digest value words) there.2 named);
      cell_is = ap (cell_at s.filled) at;
      state = λ p had. ap (λ (f : Option Record). state_filled_by p s had f value words) there.1 ∙ by_had p had there.0 there.2 there.3;
    } where
      by_had : (p : State) (had : ℕ) (r : Record) → r.space ≡ space → r.digest ≡ d
          → state_filled_by p s had (Some r) value words ≡ filled_had p had space d (object_of s.bound words) (digest_at s.bound value)
      by_had p (suc had) r one two = refl
      by_had p zero r one two = λ i. filled_state p (one i) (two i) (object_of s.bound words) (digest_at s.bound value)

-- ---- what the visible state has and lacks

module _ (up : State) (s : Tables) (sound : IsSound s) where
  abbrev pub seen_state : State
  seen_state = over (primary s) up

  is-none-value : (b : Option Digest) → is_none b ≡ true → b ≡ None
  is-none-value None h = refl
  is-none-value (Some x) h = cc

  pub sees-none : (d : Digest) → cell_under s Objects d ≡ 0 → fin.get seen_state.objects d ≡ fin.get up.objects d
  sees-none d empty = see-object s up d ∙ ap (λ n. option_or (object_in s n) (fin.get up.objects d)) empty

  pub sees-no-value : (k : Digest) → cell_under s Actions k ≡ 0 → fin.get seen_state.cache k ≡ fin.get up.cache k
  sees-no-value k empty = see-value s up k ∙ ap (λ n. option_or (value_in s n) (fin.get up.cache k)) empty

  pub sees-value : (k : Digest) (n : ℕ) → cell_under s Actions k ≡ n → 0 < n → fin.get seen_state.cache k ≡ Some (digest_at s.bound n)
  sees-value k n is some = see-value s up k ∙ ap (λ m. option_or (value_in s m) (fin.get up.cache k)) is ∙ ap (λ (o : Option Digest). option_or o (fin.get up.cache k)) (value-at s n some)

  pub sees-object : (d : Digest) (n : ℕ) (o : Object) → cell_under s Objects d ≡ n → object_in s n ≡ Some o → fin.get seen_state.objects d ≡ Some o
  sees-object d n o is there = see-object s up d ∙ ap (λ m. option_or (object_in s m) (fin.get up.objects d)) is ∙ ap (λ (x : Option Object). option_or x (fin.get up.objects d)) there

  pub sees-has : (d : Digest) → 0 < cell_under s Objects d → has seen_state d ≡ true
  sees-has d some = see-own (primary s) up d (cell-has s d sound some)

  not-is : (b : Bool) → not b ≡ true → b ≡ false
  not-is false h = refl
  not-is true h = cc

  and-both : (a b : Bool) → (a && b) ≡ true → (a ≡ true) × (b ≡ true)
  and-both true b h = (refl, h)
  and-both false b h = cc

  -- an absent digest is not visible
  pub absent-lacks : (d : Digest) (act : Act) → IsAbout s Objects d act → is_absent up s act d ≡ true → has seen_state d ≡ false
  absent-lacks d act about h =
      let both = and-both (is_miss s act) (not (has up d)) h in
      ap is_some (sees-none d (miss-empty s Objects d act about both.0)) ∙ not-is (has up d) both.1

  -- ---- rows of the table of steps

  abbrev pub NextHere : Call → Option Reply → State → Type 0
  NextHere call reply new = Next s.size seen_state call reply new

  where-next : (call : Call) (b : Bool) (reply : Reply) → (b ≡ true → Step s.size seen_state call reply seen_state) → NextHere call (reply_where b reply) seen_state
  where-next call true reply step = step refl
  where-next call false reply step = refl

  pub room-next : (call : Call) (n : ℕ) → s.size < s.counter + n → Step s.size seen_state call (Full s.counter n s.size) seen_state
  room-next (Store o) n h = ((refl, h), refl)
  room-next (Load d) n h = ((refl, h), refl)
  room-next (Put k v) n h = ((refl, h), refl)
  room-next (Get k) n h = ((refl, h), refl)

  -- looking for a reference
  dangling-store : (o : Object) (i : ℕ) (found : Option Digest) (act : Act) → slice_get o.refs i ≡ found
      → ((d : Digest) → found ≡ Some d → HasAll seen_state (take i o.refs) × IsAbout s Objects d act) → NextHere (Store o) (dangling up s i found act) seen_state
  dangling-store o i None act is facts = refl
  dangling-store o i (Some d) act is facts =
      where-next (Store o) (is_absent up s act d) (Dangling i d) (λ h. (((facts d refl).0, is, absent-lacks d act (facts d refl).1 h), refl))

  dangling-put : (k v : Digest) (i : ℕ) (found : Option Digest) (act : Act) → slice_get (v ∷ []) i ≡ found
      → ((d : Digest) → found ≡ Some d → HasAll seen_state (take i (v ∷ [])) × IsAbout s Objects d act) → NextHere (Put k v) (dangling up s i found act) seen_state
  dangling-put k v i None act is facts = refl
  dangling-put k v i (Some d) act is facts =
      where-next (Put k v) (is_absent up s act d) (Dangling i d) (λ h. (((facts d refl).0, is, absent-lacks d act (facts d refl).1 h), refl))

  -- a load's own look or read
  found-next : (d : Digest) (n : ℕ) (found : Option Object) → cell_under s Objects d ≡ n → object_in s n ≡ found → NextHere (Load d) (option_map (λ o. Found o) found) seen_state
  found-next d n None is there = refl
  found-next d n (Some o) is there = (sees-object d n o is there, refl)

  pub load-next : (d : Digest) (act : Act) → IsAbout s Objects d act → (n : ℕ) → read_by s act ≡ n → NextHere (Load d) (loaded up s d act n) seen_state
  load-next d act about zero is = where-next (Load d) (is_absent up s act d) Missing (λ h. (absent-lacks d act about h, refl))
  load-next d act about (suc n) is =
      let some : 0 < read_by s act = omega (arith, is) in
      found-next d (suc n) (object_in s (suc n)) (read-shows s Objects d act about some ∙ is) refl

  added-there : (v : State) (o : Object) (found : Option Object) → is_some found ≡ true → v ≡ added v o found
  added-there v o (Some x) h = refl
  added-there v o None h = cc

  -- a store's digest is there
  pub stored-there : (o : Object) → HasAll seen_state o.refs → 0 < cell_under s Objects (object_digest o) → Step s.size seen_state (Store o) (Stored (object_digest o)) seen_state
  stored-there o refs some = (refs, refl, added-there seen_state o _ (sees-has (object_digest o) some))

  pub store-read : (o : Object) (cell : Place) → HasAll seen_state o.refs → place_of s.bound Objects (object_digest o) ≡ Some cell → (n : ℕ) → cell_of s.filled cell.at ≡ n
      → NextHere (Store o) (reply_with n (λ _. Some (Stored (object_digest o)))) seen_state
  store-read o cell refs at zero is = refl
  store-read o cell refs at (suc n) is =
      let shown : cell_under s Objects (object_digest o) ≡ suc n = ap (cell_at s.filled) at ∙ is in
      stored-there o refs (omega (arith, shown))

  -- a store's fill
  pub store-fill : (o : Object) (value had : ℕ) (x : Object) (w : Digest) → HasAll seen_state o.refs → x ≡ o → fin.get up.objects (object_digest o) ≡ None
      → cell_under s Objects (object_digest o) ≡ had → 0 < value
      → NextHere (Store o) (reply_with (value_left (fill_answer had value)) (λ _. Some (Stored (object_digest o)))) (over (filled_had (primary s) had Objects (object_digest o) x w) up)
  store-fill o value (suc had) x w refs same lacks is some = stored-there o refs (omega (arith, is))
  store-fill o zero zero x w refs same lacks is some = absurd (omega (arith, some))
  store-fill o (suc value) zero x w refs same lacks is some =
      let none : fin.get seen_state.objects (object_digest o) ≡ None = sees-none (object_digest o) is ∙ lacks in
      (refs, refl, over-filled (primary s) up Objects (object_digest o) x w ∙ (λ i. record seen_state { objects = fin.insert seen_state.objects (object_digest o) (same i) }) ∙ sym (ap (added seen_state o) none))

  -- a put's key is there
  pub kept-there : (k v kept : Digest) → has seen_state v ≡ true → fin.get seen_state.cache k ≡ Some kept → Step s.size seen_state (Put k v) (Kept kept) seen_state
  kept-there k v kept there is = (there, subst (λ (x : Option Digest). Keeps seen_state k v x kept seen_state) (sym is) (refl, refl))

  pub put-read : (k v : Digest) (cell : Place) → has seen_state v ≡ true → place_of s.bound Actions k ≡ Some cell → (n : ℕ) → cell_of s.filled cell.at ≡ n
      → NextHere (Put k v) (reply_with n (λ c. Some (Kept (digest_at s.bound c)))) seen_state
  put-read k v cell there at zero is = refl
  put-read k v cell there at (suc n) is = kept-there k v _ there (sees-value k (suc n) (ap (cell_at s.filled) at ∙ is) (omega arith))

  -- the upstream's value, put in for its key, changes nothing that is visible
  value-again : (k w : Digest) (o : Object) → fin.get seen_state.cache k ≡ Some w → over (filled_state (primary s) Actions k o w) up ≡ seen_state
  value-again k w o is = over-filled (primary s) up Actions k o w ∙ (λ i. record seen_state { cache = put-there seen_state.cache k w is i })

  put-new : (k v w : Digest) (o : Object) (theirs : Option Digest) → has seen_state v ≡ true → fin.get seen_state.cache k ≡ theirs → IsValue theirs v w
      → Step s.size seen_state (Put k v) (Kept w) (over (filled_state (primary s) Actions k o w) up)
  put-new k v w o (Some x) there is value =
      let same : fin.get seen_state.cache k ≡ Some w = is ∙ ap (λ y. Some y) (sym value) in
      subst (λ (new : State). Step s.size seen_state (Put k v) (Kept w) new) (sym (value-again k w o same)) (kept-there k v w there same)
  put-new k v w o None there is value = (
    there,
    subst (λ (x : Option Digest). Keeps seen_state k v x w (over (filled_state (primary s) Actions k o w) up)) (sym is)
        (value, over-filled (primary s) up Actions k o w ∙ (λ i. record seen_state { cache = fin.insert seen_state.cache k (value i) })),
  )

  pub put-fill : (k v : Digest) (value had : ℕ) (o : Object) → has seen_state v ≡ true → IsValue (fin.get up.cache k) v (digest_at s.bound value) → cell_under s Actions k ≡ had → 0 < value
      → NextHere (Put k v) (reply_with (value_left (fill_answer had value)) (λ c. Some (Kept (digest_at s.bound c)))) (over (filled_had (primary s) had Actions k o (digest_at s.bound value)) up)
  put-fill k v value (suc had) o there is cell some = kept-there k v _ there (sees-value k (suc had) cell (omega arith))
  put-fill k v zero zero o there is cell some = absurd (omega (arith, some))
  put-fill k v (suc value) zero o there is cell some = put-new k v _ o (fin.get up.cache k) there (sees-no-value k cell) is

  -- a get's look or read of its key
  pub get-looks : (k : Digest) (act : Act) → IsAbout s Actions k act → (n : ℕ) → (0 < n → cell_under s Actions k ≡ n) → NextHere (Get k) (got up s k act n) seen_state
  get-looks k act about zero is = where-next (Get k) (is_miss s act && is_none (fin.get up.cache k)) Miss (λ h.
      let both = and-both (is_miss s act) (is_none (fin.get up.cache k)) h in
      (sees-no-value k (miss-empty s Actions k act about both.0) ∙ is-none-value (fin.get up.cache k) both.1, refl))
  get-looks k act about (suc n) is = (sees-value k (suc n) (is (omega arith)) (omega arith), refl)

  pub get-fill : (k : Digest) (act : Act) (value had : ℕ) (o : Object) → fin.get up.cache k ≡ Some (digest_at s.bound value) → cell_under s Actions k ≡ had → 0 < value
      → NextHere (Get k) (got up s k act (value_left (fill_answer had value))) (over (filled_had (primary s) had Actions k o (digest_at s.bound value)) up)
  get-fill k act value (suc had) o is cell some = (sees-value k (suc had) cell (omega arith), refl)
  get-fill k act zero zero o is cell some = absurd (omega (arith, some))
  get-fill k act (suc value) zero o is cell some =
      let there : fin.get seen_state.cache k ≡ Some (digest_at s.bound (suc value)) = sees-no-value k cell ∙ is in
      (there, value-again k _ o there)

  -- the upstream's object, brought in, changes nothing that is visible
  pub brought-same : (d : Digest) (o : Object) (w : Digest) (had : ℕ) → fin.get up.objects d ≡ Some o → cell_under s Objects d ≡ had → over (filled_had (primary s) had Objects d o w) up ≡ seen_state
  brought-same d o w (suc had) is cell = refl
  brought-same d o w zero is cell = over-filled (primary s) up Objects d o w ∙ (λ i. record seen_state { objects = put-there seen_state.objects d o (sees-none d cell ∙ is) i })

-- ---- one event of a call

module _ (up : State) (start : Tables) (calls : Who → Option Call) (seen : List Event) (lawful : IsLawfulRun up start seen) (who : Who)
    (conduct : HasConduct up start calls who.session seen) where
  abbrev pub now : Tables
  now = tables start seen

  abbrev pub visible : State
  visible = over (primary now) up

  sound : IsSound now
  sound = sound-run up start seen lawful

  -- what the event makes of what is visible
  abbrev pub seen_after : Act → State
  seen_after act = over (carried_by (primary now) now act) up

  abbrev pub NextBy : Call → Stage → Act → Type 0
  NextBy call stage act = Next now.size visible call (decided up now call stage act) (seen_after act)

  deep-none : (call : Call) (act : Act) → decided_at up now call Deep act ≡ None
  deep-none (Store o) act = refl
  deep-none (Load d) act = refl
  deep-none (Put k v) act = refl
  deep-none (Get k) act = refl

  still : (call : Call) (reply : Option Reply) → reply ≡ None → Next now.size visible call reply visible
  still call reply none = subst (λ (r : Option Reply). Next now.size visible call r visible) (sym none) refl

  full-next : (call : Call) (n : ℕ) → now.size < now.counter + n → Step now.size visible call (Full now.counter n now.size) visible
  full-next call n h = room-next up now sound call n h

  agrees-is : {X : Type 0} (theirs : Option X) (mine its : X) → theirs ≡ Some its → Agrees theirs mine → theirs ≡ Some mine
  agrees-is None mine its is same = cc
  agrees-is (Some y) mine its is same = ap (λ x. Some x) (sym same)

  deep-next : (call : Call) (act : Act) → MayBring up start seen who call act → MayHappen up now who act → NextBy call Deep act
  deep-next call (Look space digest) may happens = still call _ (deep-none call (Look space digest))
  deep-next call (Bind space digest own) may happens = refl
  deep-next call (Read cell) may happens = still call _ (deep-none call (Read cell))
  deep-next call (Claim n) may happens = refl
  deep-next call (Room n moved) may happens = full-next call n happens.1
  deep-next call (Fill cell value words) may happens =
      let d = may.0 in
      let fill = fill-of up now who Objects d cell value words sound may.3 happens in
      let theirs : fin.get up.objects d ≡ Some (object_of now.bound words) = agrees-is (fin.get up.objects d) (object_of now.bound words) may.1 may.2.is fill.may.rule.same in
      let same : seen_after (Fill cell value words) ≡ visible =
      ap (λ p. over p up) (fill.state (primary now) (cell_of now.filled cell.at))
      ∙ brought-same up now sound d (object_of now.bound words) (digest_at now.bound value) (cell_of now.filled cell.at) theirs fill.cell_is in
      subst (λ (r : Option Reply). Next now.size visible call r (seen_after (Fill cell value words))) (sym (deep-none call (Fill cell value words))) same

  all-there : (call : Call) → calls who ≡ Some call → (ds : List Digest) → ((k : ℕ) (d : Digest) → slice_get ds k ≡ Some d → slice_get (refs_of call) k ≡ Some d)
      → AreThere up start seen who 0 ds → HasAll visible ds
  all-there call is ds at there = there-all up start calls seen who call 0 ds lawful conduct is (λ k d h. ap (slice_get (refs_of call)) (plus-zero k) ∙ at k d h) there

  look-facts : (refs : List Digest) (i : ℕ) (found : Option Digest) (act : Act) → (AreThere up start seen who 0 (take i refs) → HasAll visible (take i refs)) → MayLookFor up start seen who refs i found act
      → (d : Digest) → found ≡ Some d → HasAll visible (take i refs) × IsAbout now Objects d act
  look-facts refs i None act all may d is = absurd may
  look-facts refs i (Some x) act all may d is =
      let same : x ≡ d = cc in
      (all may.0, subst (λ (y : Digest). IsAbout now Objects y act) same may.1)

  no-room : (refs : List Digest) (i : ℕ) (found : Option Digest) (n : ℕ) (moved : Bool) → MayLookFor up start seen who refs i found (Room n moved) → ⊥
  no-room refs i None n moved may = may
  no-room refs i (Some d) n moved may = may.2

  no-fill : (refs : List Digest) (i : ℕ) (found : Option Digest) (cell : Place) (value : ℕ) (words : List ℕ) → MayLookFor up start seen who refs i found (Fill cell value words) → ⊥
  no-fill refs i None cell value words may = may
  no-fill refs i (Some d) cell value words may = may.2

  store-ref : (o : Object) (i : ℕ) (act : Act) → calls who ≡ Some (Store o) → MayLookFor up start seen who o.refs i (slice_get o.refs i) act → NextBy (Store o) (Ref i) act
  store-ref o i act is may = by_act act may where
    facts : (act : Act) → MayLookFor up start seen who o.refs i (slice_get o.refs i) act → (d : Digest) → slice_get o.refs i ≡ Some d → HasAll visible (take i o.refs) × IsAbout now Objects d act
    facts act may = look-facts o.refs i (slice_get o.refs i) act (all-there (Store o) is (take i o.refs) (taken-at i o.refs)) may

    by_act : (act : Act) → MayLookFor up start seen who o.refs i (slice_get o.refs i) act → NextBy (Store o) (Ref i) act
    by_act (Look space digest) may = dangling-store up now sound o i (slice_get o.refs i) (Look space digest) refl (facts (Look space digest) may)
    by_act (Read cell) may = dangling-store up now sound o i (slice_get o.refs i) (Read cell) refl (facts (Read cell) may)
    by_act (Bind space digest own) may = refl
    by_act (Claim n) may = refl
    by_act (Room n moved) may = absurd (no-room o.refs i (slice_get o.refs i) n moved may)
    by_act (Fill cell value words) may = absurd (no-fill o.refs i (slice_get o.refs i) cell value words may)

  put-ref : (k v : Digest) (i : ℕ) (act : Act) → calls who ≡ Some (Put k v) → MayLookFor up start seen who (v ∷ []) i (slice_get (v ∷ []) i) act → NextBy (Put k v) (Ref i) act
  put-ref k v i act is may = by_act act may where
    facts : (act : Act) → MayLookFor up start seen who (v ∷ []) i (slice_get (v ∷ []) i) act → (d : Digest) → slice_get (v ∷ []) i ≡ Some d → HasAll visible (take i (v ∷ [])) × IsAbout now Objects d act
    facts act may = look-facts (v ∷ []) i (slice_get (v ∷ []) i) act (all-there (Put k v) is (take i (v ∷ [])) (taken-at i (v ∷ []))) may

    by_act : (act : Act) → MayLookFor up start seen who (v ∷ []) i (slice_get (v ∷ []) i) act → NextBy (Put k v) (Ref i) act
    by_act (Look space digest) may = dangling-put up now sound k v i (slice_get (v ∷ []) i) (Look space digest) refl (facts (Look space digest) may)
    by_act (Read cell) may = dangling-put up now sound k v i (slice_get (v ∷ []) i) (Read cell) refl (facts (Read cell) may)
    by_act (Bind space digest own) may = refl
    by_act (Claim n) may = refl
    by_act (Room n moved) may = absurd (no-room (v ∷ []) i (slice_get (v ∷ []) i) n moved may)
    by_act (Fill cell value words) may = absurd (no-fill (v ∷ []) i (slice_get (v ∷ []) i) cell value words may)

  store-own : (o : Object) (act : Act) → calls who ≡ Some (Store o) → MayStore up start seen who o act → MayHappen up now who act → NextBy (Store o) Own act
  store-own o act is may happens = by_act act may happens where
    refs : AreThere up start seen who 0 o.refs → HasAll visible o.refs
    refs there = all-there (Store o) is o.refs (λ k d h. h) there

    by_act : (act : Act) → MayStore up start seen who o act → MayHappen up now who act → NextBy (Store o) Own act
    by_act (Look space digest) may happens = refl
    by_act (Read cell) may happens = store-read up now sound o cell (refs may.0) may.1 (cell_of now.filled cell.at) refl
    by_act (Bind space digest own) may happens = refl
    by_act (Claim n) may happens = refl
    by_act (Room n moved) may happens = full-next (Store o) n happens.1
    by_act (Fill cell value words) may happens =
        let fill = fill-of up now who Objects (object_digest o) cell value words sound may.1 happens in
        subst (λ (p : State). Next now.size visible (Store o) (decided up now (Store o) Own (Fill cell value words)) (over p up)) (sym (fill.state (primary now) (cell_of now.filled cell.at)))
        (store-fill up now sound o value (cell_of now.filled cell.at) (object_of now.bound words) (digest_at now.bound value) (refs may.0) may.2.0 may.2.1 fill.cell_is (sound.claimed who value (length words) fill.may.free.claimed))

  load-own : (d : Digest) (act : Act) → MayLoad start seen d act → MayHappen up now who act → NextBy (Load d) Own act
  load-own d (Look space digest) may happens = load-next up now sound d (Look space digest) may.0 0 refl
  load-own d (Read cell) may happens = load-next up now sound d (Read cell) may.0 (cell_of now.filled cell.at) refl
  load-own d (Bind space digest own) may happens = refl
  load-own d (Claim n) may happens = refl
  load-own d (Room n moved) may happens = absurd may.1
  load-own d (Fill cell value words) may happens = absurd may.1

  put-key : (k v : Digest) (act : Act) → calls who ≡ Some (Put k v) → MayPut up start seen who k v act → MayHappen up now who act → NextBy (Put k v) Key act
  put-key k v act is may happens = by_act act may happens where
    value_there : AreThere up start seen who 0 (v ∷ []) → has visible v ≡ true
    value_there there = (all-there (Put k v) is (v ∷ []) (λ k d h. h) there).0

    by_act : (act : Act) → MayPut up start seen who k v act → MayHappen up now who act → NextBy (Put k v) Key act
    by_act (Look space digest) may happens = refl
    by_act (Read cell) may happens = put-read up now sound k v cell (value_there may.0) may.1 (cell_of now.filled cell.at) refl
    by_act (Bind space digest own) may happens = refl
    by_act (Claim n) may happens = refl
    by_act (Room n moved) may happens = full-next (Put k v) n happens.1
    by_act (Fill cell value words) may happens =
        let fill = fill-of up now who Actions k cell value words sound may.1 happens in
        subst (λ (p : State). Next now.size visible (Put k v) (decided up now (Put k v) Key (Fill cell value words)) (over p up)) (sym (fill.state (primary now) (cell_of now.filled cell.at)))
        (put-fill up now sound k v value (cell_of now.filled cell.at) (object_of now.bound words) (value_there may.0) may.2 fill.cell_is (sound.placed value fill.may.rule.object.object.found fill.may.rule.object.object.is))

  get-key : (k : Digest) (act : Act) → MayGet up start seen who k act → MayHappen up now who act → NextBy (Get k) Key act
  get-key k (Look space digest) may happens = get-looks up now sound k (Look space digest) may.0 0 (λ h. absurd (omega (arith, h)))
  get-key k (Read cell) may happens = get-looks up now sound k (Read cell) may.0 (cell_of now.filled cell.at) (λ h. ap (cell_at now.filled) may.0)
  get-key k (Bind space digest own) may happens = refl
  get-key k (Claim n) may happens = refl
  get-key k (Room n moved) may happens = full-next (Get k) n happens.1
  get-key k (Fill cell value words) may happens =
      let fill = fill-of up now who Actions k cell value words sound may.0 happens in
      subst (λ (p : State). Next now.size visible (Get k) (decided up now (Get k) Key (Fill cell value words)) (over p up)) (sym (fill.state (primary now) (cell_of now.filled cell.at)))
      (get-fill up now sound k (Fill cell value words) value (cell_of now.filled cell.at) (object_of now.bound words) may.1 fill.cell_is (sound.placed value fill.may.rule.object.object.found fill.may.rule.object.object.is))

  pub next-act : (call : Call) (stage : Stage) (act : Act) → calls who ≡ Some call → MayAct up start seen who call stage act → MayHappen up now who act → NextBy call stage act
  next-act (Store o) Deep act is may happens = deep-next (Store o) act may happens
  next-act (Load d) Deep act is may happens = deep-next (Load d) act may happens
  next-act (Put k v) Deep act is may happens = deep-next (Put k v) act may happens
  next-act (Get k) Deep act is may happens = deep-next (Get k) act may happens
  next-act (Store o) (Ref i) act is may happens = store-ref o i act is may
  next-act (Store o) Own act is may happens = store-own o act is may happens
  next-act (Store o) Key act is may happens = absurd may
  next-act (Load d) (Ref i) act is may happens = absurd may
  next-act (Load d) Own act is may happens = load-own d act may happens
  next-act (Load d) Key act is may happens = absurd may
  next-act (Put k v) (Ref i) act is may happens = put-ref k v i act is may
  next-act (Put k v) Own act is may happens = absurd may
  next-act (Put k v) Key act is may happens = put-key k v act is may happens
  next-act (Get k) (Ref i) act is may happens = absurd may
  next-act (Get k) Own act is may happens = absurd may
  next-act (Get k) Key act is may happens = get-key k act may happens

  -- ---- one entry more, where the event decides

  entry-more : (bound : ℕ) (first : State) (earlier : List Entry) (call : Call) (reply : Option Reply) (new : State) → IsLegal bound first earlier visible → now.size ≡ bound
      → Next now.size visible call reply new → IsLegal bound first (with_entry who call reply earlier) new
  entry-more bound first earlier call None new legal size-same next = subst (λ (v : State). IsLegal bound first earlier v) (sym next) legal
  entry-more bound first earlier call (Some reply) new legal size-same next = (visible, legal, subst (λ n. Step n visible call reply new) size-same next)

legal-event : (up : State) (start : Tables) (calls : Who → Option Call) (e : Event) (es : List Event) → IsLawfulRun up start (e ∷ es) → ((session : ℕ) → HasConduct up start calls session es)
    → IsLegal start.size (over (primary start) up) (history up start calls es) (over (primary_of start es) up)
    → (call : Option Call) → calls e.note.who ≡ call → MayMake up start es call e
    → IsLegal start.size (over (primary start) up) (with_event up (tables start es) call e (history up start calls es)) (over (primary_of start (e ∷ es)) up)
legal-event up start calls e es lawful conduct legal None is may = absurd may
legal-event up start calls e es lawful conduct legal (Some call) is may =
    let change = primary-act up (tables start es) e.note.who e.act (sound-run up start es lawful.0) lawful.1 in
    let next = next-act up start calls es lawful.0 e.note.who (conduct e.note.who.session) call e.note.stage e.act is may lawful.1 in
    subst (λ (p : State). IsLegal start.size (over (primary start) up) (with_event up (tables start es) (Some call) e (history up start calls es)) (over p up)) (sym change)
    (entry-more up start calls es lawful.0 e.note.who (conduct e.note.who.session) start.size (over (primary start) up) (history up start calls es) call
    (decided up (tables start es) call e.note.stage e.act) (over (carried_by (primary_of start es) (tables start es) e.act) up) legal (size-same up start es lawful.0) next)

-- the history of a lawful run with conduct is legal
pub legal-run : (up : State) (start : Tables) (calls : Who → Option Call) (seen : List Event) → IsLawfulRun up start seen → ((session : ℕ) → HasConduct up start calls session seen)
    → IsLegal start.size (over (primary start) up) (history up start calls seen) (over (primary_of start seen) up)
legal-run up start calls [] lawful conduct = refl
legal-run up start calls (e ∷ es) lawful conduct =
    legal-event up start calls e es lawful (λ session. (conduct session).0) (legal-run up start calls es lawful.0 (λ session. (conduct session).0))
    (calls e.note.who) refl ((conduct e.note.who.session).1 refl).1
