-- The events of a call, one after another.
use Rattle.std.proofs.Common.{◌≡◌, ◌≢◌, ℕ, suc, ◌+◌, ◌-◌, ◌<◌, ◌≤◌, List, [], ◌∷◌, ◌++◌, Bool, true, false, cond, ◌==◌, ◌&&◌, ◌||◌, ◌⊎◌, inl, inr, None, Some, IsTrue, refl, ap, sym, ◌∙◌, subst, append_assoc, zero-add, arith, OnErr, IfErr, IfOk, IsErrAnd, Ok, Err}
use Rattle.std.specs.declared.option.Option.{Option}
use Rattle.std.specs.declared.result.Result.{Result}
use Rattle.std.proofs.lemmas.Bool.{eqb-true, eq-eqb}
use Rattle.cas_model.specs.declared.call.Call.{Call}
use Rattle.cas_model.specs.declared.call.Reply.{Reply}
use Rattle.cas_model.specs.declared.call.Who.{Who}
use Rattle.cas_model.specs.declared.note.Note.{Note}
use Rattle.cas_model.specs.declared.note.Stage.{Stage}
use Rattle.cas_model.specs.State.{State}
use Rattle.cas_model.specs.Step.{Entry}
use Rattle.cas_model.specs.Tables.{Tables}
use Rattle.cas_history.specs.declared.event.Act.{Act}
use Rattle.cas_history.specs.declared.event.Act.TheVariants.{Look, Bind, Read, Claim, Room, Fill}
use Rattle.cas_history.specs.declared.event.Event.{Event}
use Rattle.cas_history.specs.Conduct.{CallOpen, MayAct, same_who, missed, IsPart}
use Rattle.cas_history.specs.Cost.{asked, asked_by}
use Rattle.cas_history.specs.History.{history, decided, count_of, with_event, with_entry, is_miss}
use Rattle.cas_history.specs.Laws.{AreOfOtherSessions}
use Rattle.cas_history.specs.Run.{tables as tables_after}
use Rattle.cas_history.proofs.Others.{others-leave, events-keep}
use Rattle.cas_port.specs.declared.block.OpenBlock.{OpenBlock}
use Rattle.cas_port.specs.Calls.{event_of, Adds, WantsMemory, BindClaims, IsLawful}
use Rattle.cas_port.specs.View.{View, Foreign}
use Rattle.graph_db.specs.Events.{SpeaksFor, AreOf, Goes, is_reading, AreReadings, Reads, Last, Stands, Ends, Stops}

-- ---- whose events they are

pub are-foreign : (speaks : ℕ → Bool) (who : Who) (es : List Event) → Foreign speaks es → AreOf speaks who es
are-foreign speaks who [] foreign = tt
are-foreign speaks who (e ∷ es) foreign = (inl foreign.0, are-foreign speaks who es foreign.1)

are-append : (speaks : ℕ → Bool) (who : Who) (xs ys : List Event) → AreOf speaks who xs → AreOf speaks who ys → AreOf speaks who (xs ++ ys)
are-append speaks who [] ys one two = two
are-append speaks who (x ∷ xs) ys one two = (one.0, are-append speaks who xs ys one.1 two)

pub readings-foreign : (speaks : ℕ → Bool) (who : Who) (es : List Event) → Foreign speaks es → AreReadings speaks who es
readings-foreign speaks who [] foreign = tt
readings-foreign speaks who (e ∷ es) foreign = (inl foreign.0, readings-foreign speaks who es foreign.1)

readings-append : (speaks : ℕ → Bool) (who : Who) (xs ys : List Event) → AreReadings speaks who xs → AreReadings speaks who ys → AreReadings speaks who (xs ++ ys)
readings-append speaks who [] ys one two = two
readings-append speaks who (x ∷ xs) ys one two = (one.0, readings-append speaks who xs ys one.1 two)

readings-are : (speaks : ℕ → Bool) (who : Who) (es : List Event) → AreReadings speaks who es → AreOf speaks who es
readings-are speaks who [] own = tt
readings-are speaks who (e ∷ es) own = (elim (own.0) [ inl other ↦ inl other | inr mine ↦ inr mine.0 ], readings-are speaks who es own.1)

pub goes-self : (who : Who) (a : View) → Goes who a a
goes-self who a = record { more = []; is = refl; own = tt }

pub goes-then : (who : Who) (a b c : View) → Goes who a b → Goes who b c → Goes who a c
goes-then who a b c ab bc = record {
  more = bc.more ++ ab.more;
  is = bc.is ∙ ap (λ (v : View). record v { seen = bc.more ++ v.seen }) ab.is ∙ ap (λ (s : List Event). record a { seen = s }) (sym (append_assoc bc.more ab.more a.seen));
  own = are-append a.speaks who bc.more ab.more (subst (λ (f : ℕ → Bool). AreOf f who bc.more) (ap (λ (v : View). v.speaks) ab.is) bc.own) ab.own;
}

pub reads-self : (who : Who) (a : View) → Reads who a a
reads-self who a = record { more = []; is = refl; own = tt }

pub reads-then : (who : Who) (a b c : View) → Reads who a b → Reads who b c → Reads who a c
reads-then who a b c ab bc = record {
  more = bc.more ++ ab.more;
  is = bc.is ∙ ap (λ (v : View). record v { seen = bc.more ++ v.seen }) ab.is ∙ ap (λ (s : List Event). record a { seen = s }) (sym (append_assoc bc.more ab.more a.seen));
  own = readings-append a.speaks who bc.more ab.more (subst (λ (f : ℕ → Bool). AreReadings f who bc.more) (ap (λ (v : View). v.speaks) ab.is) bc.own) ab.own;
}

pub reads-goes : (who : Who) (a b : View) → Reads who a b → Goes who a b
reads-goes who a b r = record { more = r.more; is = r.is; own = readings-are a.speaks who r.more r.own }

-- ---- what stays as a call goes on

pub goes-speaks : (who him : Who) (a b : View) → Goes who a b → SpeaksFor a him → SpeaksFor b him
goes-speaks who him a b goes speaks = ap (λ (v : View). v.speaks him.session) goes.is ∙ speaks

pub goes-upstream : (who : Who) (a b : View) → Goes who a b → b.upstream ≡ a.upstream
goes-upstream who a b goes = ap (λ (v : View). v.upstream) goes.is

pub goes-start : (who : Who) (a b : View) → Goes who a b → b.start ≡ a.start
goes-start who a b goes = ap (λ (v : View). v.start) goes.is

pub goes-takes : (who : Who) (a b : View) → Goes who a b → b.takes_memory ≡ a.takes_memory
goes-takes who a b goes = ap (λ (v : View). v.takes_memory) goes.is

pub goes-opened : (who : Who) (a b : View) → Goes who a b → b.opened ≡ a.opened
goes-opened who a b goes = ap (λ (v : View). v.opened) goes.is

or-true : (a b : Bool) → b ≡ true → (a || b) ≡ true
or-true true b h = refl
or-true false b h = h

pub missed-more : (start : Tables) (who : Who) (which : Stage → Bool) (more seen : List Event) → missed start who which seen ≡ true → missed start who which (more ++ seen) ≡ true
missed-more start who which [] seen h = h
missed-more start who which (e ∷ es) seen h = or-true (same_who e.note.who who && which e.note.stage && is_miss (tables_after start (es ++ seen)) e.act) (missed start who which (es ++ seen)) (missed-more start who which es seen h)

-- ---- what others do

not-same : (speaks : ℕ → Bool) (a b : ℕ) → speaks a ≡ false → speaks b ≡ true → a ≢ b
not-same speaks a b no_ yes_ same = let e = ap speaks same in cc

pub foreign-others : (speaks : ℕ → Bool) (session : ℕ) (es : List Event) → speaks session ≡ true → Foreign speaks es → AreOfOtherSessions session es
foreign-others speaks session [] mine foreign = tt
foreign-others speaks session (e ∷ es) mine foreign = (not-same speaks e.note.who.session session foreign.0 mine, foreign-others speaks session es mine foreign.1)

pub other-who : (speaks : ℕ → Bool) (him who : Who) → speaks him.session ≡ false → speaks who.session ≡ true → same_who him who ≡ false
other-who speaks him who no_ yes_ = step (him.session == who.session) refl where
  step : (b : Bool) → (him.session == who.session) ≡ b → (b && (him.index == who.index)) ≡ false
  step true test = absurd (not-same speaks him.session who.session no_ yes_ (eqb-true him.session who.session test))
  step false test = refl

foreign-asked : (speaks : ℕ → Bool) (who : Who) (e : Event) (earlier : List Event) → speaks who.session ≡ true → speaks e.note.who.session ≡ false
    → asked who (e ∷ earlier) ≡ asked who earlier
foreign-asked speaks who e earlier mine other = ap (λ b. cond b (asked_by e.act) 0 + asked who earlier) (other-who speaks e.note.who who other mine) ∙ zero-add (asked who earlier)

pub asked-foreign : (speaks : ℕ → Bool) (who : Who) (es seen : List Event) → speaks who.session ≡ true → Foreign speaks es → asked who (es ++ seen) ≡ asked who seen
asked-foreign speaks who [] seen mine foreign = refl
asked-foreign speaks who (e ∷ es) seen mine foreign = foreign-asked speaks who e (es ++ seen) mine foreign.0 ∙ asked-foreign speaks who es seen mine foreign.1

reading-asks : (act : Act) → is_reading act ≡ true → asked_by act ≡ 0
reading-asks (Look space digest) h = refl
reading-asks (Read cell) h = refl
reading-asks (Bind space digest own) h = refl
reading-asks (Claim n) h = cc
reading-asks (Room n moved) h = cc
reading-asks (Fill cell value words) h = refl

nothing-asked : (b : Bool) (n : ℕ) → n ≡ 0 → cond b n 0 ≡ 0
nothing-asked true n e = e
nothing-asked false n e = refl

pub asked-readings : (speaks : ℕ → Bool) (who : Who) (es seen : List Event) → AreReadings speaks who es → speaks who.session ≡ true → asked who (es ++ seen) ≡ asked who seen
asked-readings speaks who [] seen own mine = refl
asked-readings speaks who (e ∷ es) seen own mine = step (own.0) ∙ asked-readings speaks who es seen own.1 mine where
  step : ((speaks e.note.who.session ≡ false) ⊎ ((e.note.who ≡ who) × (is_reading e.act ≡ true))) → asked who (e ∷ es ++ seen) ≡ asked who (es ++ seen)
  step (inl other) = foreign-asked speaks who e (es ++ seen) mine other
  step (inr his) = ap (λ n. n + asked who (es ++ seen)) (nothing-asked (same_who e.note.who who) (asked_by e.act) (reading-asks e.act his.1)) ∙ zero-add (asked who (es ++ seen))

-- ---- one event decides

-- an event that an open call may make leaves it as it decides
pub stands-event : (up : State) (start : Tables) (calls : Who → Option Call) (note : Note) (call : Call) (act : Act) (seen : List Event) (reply : Option Reply)
    → calls note.who ≡ Some call → MayAct up start seen note.who call note.stage act → CallOpen up start calls note.who seen
    → decided up (tables_after start seen) call note.stage act ≡ reply → Stands up start calls note.who call reply (event_of note act ∷ seen)
stands-event up start calls note call act seen None is may opens says = (events-keep up start calls note call act seen is may opens).1 says
stands-event up start calls note call act seen (Some reply) is may opens says = record {
  conduct = (events-keep up start calls note call act seen is may opens).0;
  earlier = history up start calls seen;
  entries = entries;
  next = (λ i. suc (opens.next i)) ∙ sym (counted (note.who.session == note.who.session) (eq-eqb note.who.session note.who.session refl)) ∙ ap (count_of note.who.session) (sym entries);
} where
  entry : Entry
  entry = record { who = note.who; call = call; reply = reply }

  entries : history up start calls (event_of note act ∷ seen) ≡ (record { who = note.who; call = call; reply = reply }) ∷ history up start calls seen
  entries =
      ap (λ (c : Option Call). with_event up (tables_after start seen) c (event_of note act) (history up start calls seen)) is
      ∙ ap (λ (r : Option Reply). with_entry note.who call r (history up start calls seen)) says

  counted : (b : Bool) → b ≡ true → cond b (suc (count_of note.who.session (history up start calls seen))) (count_of note.who.session (history up start calls seen)) ≡ suc (count_of note.who.session (history up start calls seen))
  counted true h = refl
  counted false h = cc

-- events before the one that a call asks for: they leave the call open, and ask for at most so many words
pub record Before (who : Who) (call : Call) (old : View) (before : List Event) (most : ℕ) : Type 0 where
  pub own : AreOf old.speaks who before
  pub opens : (calls : Who → Option Call) → calls who ≡ Some call → CallOpen old.upstream old.start calls who old.seen → CallOpen old.upstream old.start calls who (before ++ old.seen)
  pub cost : asked who (before ++ old.seen) ≤ asked who old.seen + most

pub foreign-before : (who : Who) (call : Call) (old : View) (others : List Event) → SpeaksFor old who → Foreign old.speaks others → Before who call old others 0
foreign-before who call old others mine foreign = record {
  own = are-foreign old.speaks who others foreign;
  opens = λ calls is opens. others-leave old.upstream old.start calls who others old.seen (foreign-others old.speaks who.session others mine foreign) opens;
  cost = let e = asked-foreign old.speaks who others old.seen mine foreign in omega (arith, e);
}

at-most : (b : Bool) (n : ℕ) → cond b n 0 ≤ n
at-most true n = omega arith
at-most false n = omega arith

-- the claims of a bind
pub claims-before : (note : Note) (call : Call) (old : View) (before : List Event) (most : ℕ) → SpeaksFor old note.who
    → ((more : List Event) (n : ℕ) → IsPart n → MayAct old.upstream old.start (more ++ old.seen) note.who call note.stage (Claim n))
    → BindClaims old.speaks note before most → Before note.who call old before most
claims-before note call old before most mine may claims = go before most claims where
  go : (es : List Event) (n : ℕ) → BindClaims old.speaks note es n → Before note.who call old es n
  go [] n claims = record { own = tt; opens = λ calls is opens. opens; cost = omega arith }
  go (e ∷ es) n (inl other) = let rest = go es n other.1 in record {
    own = (inl other.0, rest.own);
    opens = λ calls is opens. others-leave old.upstream old.start calls note.who (e ∷ []) (es ++ old.seen) (foreign-others old.speaks note.who.session (e ∷ []) mine (other.0, tt)) (rest.opens calls is opens);
    cost = let same = foreign-asked old.speaks note.who e (es ++ old.seen) mine other.0 in omega (arith, same, rest.cost);
  }
  go (e ∷ es) n (inr his) = let rest = go es (n - his.0) his.4 in
      subst (λ (x : Event). Before note.who call old (x ∷ es) n) (sym his.1) (record {
        own = (inr refl, rest.own);
        opens = λ calls is opens. (events-keep old.upstream old.start calls note call (Claim his.0) (es ++ old.seen) is (may es his.0 his.2) (rest.opens calls is opens)).1 refl;
        cost = let one = at-most (same_who note.who note.who) his.0 in omega (arith, one, rest.cost, his.3);
      })

-- one event of the call, after those
pub event-ends : (note : Note) (call : Call) (act : Act) (reply : Option Reply) (old new : View) (before : List Event) (m n : ℕ) → Before note.who call old before m
    → new ≡ record old { seen = event_of note act ∷ before ++ old.seen } → asked_by act + m ≤ n
    → MayAct old.upstream old.start (before ++ old.seen) note.who call note.stage act → decided old.upstream (tables_after old.start (before ++ old.seen)) call note.stage act ≡ reply
    → Ends note.who call reply old new n
event-ends note call act reply old new before m n first is fits may says =
    let P : View → Type 0 = λ v. Ends note.who call reply old v n in
    subst P (sym is) (record {
      goes = record { more = event_of note act ∷ before; is = refl; own = (inr refl, first.own) };
      stands = λ calls known opens. stands-event old.upstream old.start calls note call act (before ++ old.seen) reply known may (first.opens calls known opens) says;
      cost = let one = at-most (same_who note.who note.who) (asked_by act) in omega (arith, one, first.cost, fits);
    })

pub adds-ends : (note : Note) (call : Call) (act : Act) (reply : Option Reply) (old new : View) (n : ℕ) → SpeaksFor old note.who → (adds : Adds old new (event_of note act)) → asked_by act ≤ n
    → MayAct old.upstream old.start (adds.others ++ old.seen) note.who call note.stage act → decided old.upstream (tables_after old.start (adds.others ++ old.seen)) call note.stage act ≡ reply
    → Ends note.who call reply old new n
adds-ends note call act reply old new n mine adds fits may says =
    event-ends note call act reply old new adds.others 0 n (foreign-before note.who call old adds.others mine adds.foreign) adds.is (omega (arith, fits)) may says

-- it is the newest
pub event-last : (note : Note) (call : Call) (act : Act) (reply : Option Reply) (old new : View) (before : List Event)
    → new ≡ record old { seen = event_of note act ∷ before ++ old.seen }
    → decided old.upstream (tables_after old.start (before ++ old.seen)) call note.stage act ≡ reply → Last note call reply new
event-last note call act reply old new before is says =
    subst (λ (v : View). Last note call reply v) (sym is) (record { act = act; earlier = before ++ old.seen; is = refl; decides = says })

-- ---- ends

pub ends-self : (who : Who) (call : Call) (a : View) (n : ℕ) → Ends who call None a a n
ends-self who call a n = record { goes = goes-self who a; stands = λ calls is opens. opens; cost = omega arith }

pub ends-then : (who : Who) (call : Call) (reply : Option Reply) (a b c : View) (m n : ℕ) → Ends who call None a b m → Ends who call reply b c n → Ends who call reply a c (m + n)
ends-then who call reply a b c m n ab bc = record {
  goes = goes-then who a b c ab.goes bc.goes;
  stands = λ calls is opens. bc.stands calls is (ab.stands calls is opens);
  cost = let one = ab.cost in let two = bc.cost in omega (arith, one, two);
}

pub ends-more : (who : Who) (call : Call) (reply : Option Reply) (a b : View) (m n : ℕ) → m ≤ n → Ends who call reply a b m → Ends who call reply a b n
ends-more who call reply a b m n le e = record { goes = e.goes; stands = e.stands; cost = let one = e.cost in omega (arith, one, le) }

pub wants-stops : (who : Who) (call : Call) (a b : View) (n : ℕ) → WantsMemory a b → Stops who call a b n
wants-stops who call a b n wants = subst (λ (v : View). Stops who call a v n) (sym wants.same) (record { takes = wants.takes; left = []; opened = refl; ends = ends-self who call a n })

-- want of memory after events that decide nothing
pub then-stops : (who : Who) (call : Call) (a b c : View) (m n : ℕ) → Ends who call None a b m → Stops who call b c n → Stops who call a c (m + n)
then-stops who call a b c m n ab bc = record {
  takes = subst IsTrue (goes-takes who a b ab.goes) bc.takes;
  left = bc.left;
  opened = bc.opened ∙ ap (λ (os : List OpenBlock). bc.left ++ os) (goes-opened who a b ab.goes);
  ends = ends-then who call None a b (record c { opened = a.opened }) m n ab
      (subst (λ (os : List OpenBlock). Ends who call None b (record c { opened = os }) n) (goes-opened who a b ab.goes) bc.ends);
}

pub stops-more : (who : Who) (call : Call) (a b : View) (m n : ℕ) → m ≤ n → Stops who call a b m → Stops who call a b n
stops-more who call a b m n le s = record { takes = s.takes; left = s.left; opened = s.opened; ends = ends-more who call None a (record b { opened = a.opened }) m n le s.ends }

-- ---- lawful runs

pub lawful-then : (a b c : View) → IsLawful a b → IsLawful b c → IsLawful a c
lawful-then a b c ab bc = record { was = ab.was; is = bc.is }

-- ---- results

-- a fact that always holds, as one for an error
pub ends-on : {T E : Type 0} {P : Type 0} (r : Result T E) → P → OnErr r P
ends-on (Ok x) p = tt
ends-on (Err e) p = p

-- the error that a `?` makes
pub err-made : {T E : Type 0} (P : E → Type 0) (e : E) (r : Result T E) → IsErrAnd r (λ x. x ≡ e) → P e → IfErr r P
err-made P e (Ok x) made p = absurd made
err-made P e (Err x) made p = subst P (sym made) p

pub ok-then : {T E : Type 0} {P Q : T → Type 0} (r : Result T E) → ((x : T) → P x → Q x) → IfOk r P → IfOk r Q
ok-then (Ok x) f h = f x h
ok-then (Err e) f h = tt

pub on-err-then : {T E : Type 0} {P Q : Type 0} (r : Result T E) → (P → Q) → OnErr r P → OnErr r Q
on-err-then (Ok x) f h = tt
on-err-then (Err e) f h = f h

pub within : {i n m : ℕ} → n ≡ m → i < n → i < m
within {i} is lt = subst (λ k. i < k) is lt
