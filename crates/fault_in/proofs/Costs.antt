-- How many words the claims of a call ask for, and the objects of the tree that they are for.
use Rattle.std.proofs.Common.{◌≡◌, ℕ, ◌+◌, ◌-◌, ◌≤◌, List, [], ◌∷◌, ◌++◌, Bool, true, false, cond, inl, inr, is_some, refl, ap, sym, ◌∙◌, subst, arith, length}
use Rattle.std.specs.declared.option.Option.{Option}
use Rattle.cas_model.specs.declared.call.Who.{Who}
use Rattle.cas_model.specs.declared.digest.Digest.{Digest}
use Rattle.cas_model.specs.declared.object.Object.{Object}
use Rattle.cas_model.specs.declared.place.Place.{Place}
use Rattle.cas_model.specs.declared.place.Space.TheVariants.{Objects}
use Rattle.cas_model.specs.Content.{content_size}
use Rattle.cas_model.specs.Primary.{cell_under, primary}
use Rattle.cas_model.specs.State.{State, has}
use Rattle.cas_model.specs.Tables.{Tables}
use Rattle.cas_model.proofs.Maps.{get-object}
use Rattle.cas_history.specs.declared.event.Act.{Act}
use Rattle.cas_history.specs.declared.event.Act.TheVariants.{Bind, Claim, Room, Fill}
use Rattle.cas_history.specs.declared.event.Event.{Event}
use Rattle.cas_history.specs.Conduct.{same_who}
use Rattle.cas_history.specs.Cost.{Lacks, Row, asked, asked_by, object_cost}
use Rattle.cas_history.proofs.Grown.{Grows}
use Rattle.cas_history.proofs.Sound.{IsSound}
use Rattle.cas_history.proofs.Under.{under-none}
use Rattle.cas_history.proofs.Visible.{has-stays}
use Rattle.cas_port.specs.declared.block.Block.{Block}
use Rattle.cas_port.specs.declared.block.Bound.{Bound}
use Rattle.cas_port.specs.declared.block.Filled.{Filled}
use Rattle.cas_port.specs.declared.block.PortError.{PortError}
use Rattle.cas_port.specs.declared.block.PortError.TheVariants as port
use Rattle.cas_port.specs.Calls.{event_of, words_of, Abandons, Adds, BindClaims, BindRefused, BoundTo, ClaimRefused, HasClaimed, HasFilled, WantsMemory}
use Rattle.cas_port.specs.View.{View}
use Rattle.graph_db.specs.Events.{SpeaksFor}
use Rattle.graph_db.proofs.Steps.{asked-foreign}
use Rattle.fault_in.specs.FaultIn.{CostsOfBrought}
use Rattle.fault_in.specs.Bringing.{AsksAtMost, HasWords}
use Rattle.fault_in.specs.Tree.{AreMissing, HasRows}
use Rattle.cas_model.specs.Notes.{deep_note}

-- ---- what events ask for

at-most : (b : Bool) (n : ℕ) → cond b n 0 ≤ n
at-most true n = omega arith
at-most false n = omega arith

pub asks-claims : (speaks : ℕ → Bool) (who : Who) (es seen : List Event) (most : ℕ) → speaks who.session ≡ true → BindClaims speaks (deep_note who) es most
    → asked who (es ++ seen) ≤ asked who seen + most
asks-claims speaks who [] seen most mine claims = omega arith
asks-claims speaks who (e ∷ es) seen most mine (inl other) =
    let same = asked-foreign speaks who (e ∷ []) (es ++ seen) mine (other.0, tt) in
    let rest = asks-claims speaks who es seen most mine other.1 in
    omega (arith, same, rest)
asks-claims speaks who (e ∷ es) seen most mine (inr his) =
    let rest = asks-claims speaks who es seen (most - his.0) mine his.4 in
    let one = at-most (same_who who who) his.0 in
    let less = his.3 in
    subst (λ (x : Event). asked who (x ∷ es ++ seen) ≤ asked who seen + most) (sym his.1) (omega (arith, one, rest, less))

-- an event of the call, after others
pub asks-event : (who : Who) (act : Act) (old new : View) (before : List Event) (m n : ℕ) → asked who (before ++ old.seen) ≤ asked who old.seen + m
    → new.seen ≡ event_of (deep_note who) act ∷ before ++ old.seen → asked_by act + m ≤ n → AsksAtMost who n old new
asks-event who act old new before m n first is fits =
    let one = at-most (same_who who who) (asked_by act) in
    subst (λ (s : List Event). asked who s ≤ asked who old.seen + n) (sym is) (omega (arith, one, first, fits))

pub asks-adds : (who : Who) (act : Act) (old new : View) (n : ℕ) → SpeaksFor old who → Adds old new (event_of (deep_note who) act) → asked_by act ≤ n → AsksAtMost who n old new
asks-adds who act old new n mine adds fits =
    let same = asked-foreign old.speaks who adds.others old.seen mine adds.foreign in
    asks-event who act old new adds.others 0 n (omega (arith, same)) (ap (λ (v : View). v.seen) adds.is) (omega (arith, fits))

pub asks-same : (who : Who) (old new : View) (n : ℕ) → new.seen ≡ old.seen → AsksAtMost who n old new
asks-same who old new n same = subst (λ (s : List Event). asked who s ≤ asked who old.seen + n) (sym same) (omega arith)

pub asks-wants : (who : Who) (old new : View) (n : ℕ) → WantsMemory old new → AsksAtMost who n old new
asks-wants who old new n wants = asks-same who old new n (ap (λ (v : View). v.seen) wants.same)

pub asks-then : (who : Who) (m n : ℕ) (a b c : View) → AsksAtMost who m a b → AsksAtMost who n b c → AsksAtMost who (m + n) a c
asks-then who m n a b c ab bc = omega (arith, ab, bc)

-- ---- what bringing in one object asks for

bound-asks : (who : Who) (digest : Digest) (old b : View) (bound : Bound) → SpeaksFor old who → BoundTo (deep_note who) Objects digest old b bound → AsksAtMost who 997 old b
bound-asks who digest old b bound mine h =
    asks-event who (Bind Objects digest h.own) old b h.before 997 997 (asks-claims old.speaks who h.before old.seen 997 mine h.claims) (ap (λ (v : View). v.seen) h.is) (omega arith)

bound-speaks : (who : Who) (digest : Digest) (old b : View) (bound : Bound) → SpeaksFor old who → BoundTo (deep_note who) Objects digest old b bound → SpeaksFor b who
bound-speaks who digest old b bound mine h = subst (λ (v : View). SpeaksFor v who) (sym h.is) mine

-- the bind was refused
pub bind-stop-asks : (who : Who) (o : Object) (old new : View) (error : PortError) → SpeaksFor old who → BindRefused (deep_note who) old new error → AsksAtMost who (object_cost o) old new
bind-stop-asks who o old new port.Memory mine wants = asks-wants who old new (object_cost o) wants
bind-stop-asks who o old new (port.Full full) mine h =
    let less = h.most in
    asks-event who (Room full.asked h.moved) old new h.before (997 - full.asked) (object_cost o) (asks-claims old.speaks who h.before old.seen (997 - full.asked) mine h.claims) (ap (λ (v : View). v.seen) h.is)
    (omega (arith, less))

claim-asks : (who : Who) (n : ℕ) (b new : View) (error : PortError) → SpeaksFor b who → ClaimRefused (deep_note who) n b new error → AsksAtMost who n b new
claim-asks who n b new port.Memory mine wants = asks-wants who b new n wants
claim-asks who n b new (port.Full full) mine h = asks-adds who (Room n h.0) b new n mine h.1 (omega arith)

-- the claim was refused
pub claim-stop-asks : (who : Who) (digest : Digest) (o : Object) (n : ℕ) (old b new : View) (bound : Bound) (error : PortError) → SpeaksFor old who → n ≡ content_size (length o.refs) (length o.data)
    → BoundTo (deep_note who) Objects digest old b bound → ClaimRefused (deep_note who) n b new error → AsksAtMost who (object_cost o) old new
claim-stop-asks who digest o n old b new bound error mine size bd stops =
    let first = bound-asks who digest old b bound mine bd in
    let then = claim-asks who n b new error (bound-speaks who digest old b bound mine bd) stops in
    omega (arith, first, then, size)

-- the content was claimed
claimed-asks : (who : Who) (digest : Digest) (o : Object) (n : ℕ) (old b claimed : View) (bound : Bound) (block : Block) → SpeaksFor old who → n ≡ content_size (length o.refs) (length o.data)
    → BoundTo (deep_note who) Objects digest old b bound → HasClaimed (deep_note who) n b claimed block → AsksAtMost who (object_cost o) old claimed
claimed-asks who digest o n old b claimed bound block mine size bd c =
    let first = bound-asks who digest old b bound mine bd in
    let same = asked-foreign b.speaks who c.others b.seen (bound-speaks who digest old b bound mine bd) c.foreign in
    let then = asks-event who (Claim n) b claimed c.others 0 n (omega (arith, same)) (ap (λ (v : View). v.seen) c.is) (omega arith) in
    omega (arith, first, then, size)

claimed-speaks : (who : Who) (digest : Digest) (n : ℕ) (old b claimed : View) (bound : Bound) (block : Block) → BoundTo (deep_note who) Objects digest old b bound → HasClaimed (deep_note who) n b claimed block
    → claimed.speaks ≡ old.speaks
claimed-speaks who digest n old b claimed bound block bd c = ap (λ (v : View). v.speaks) c.is ∙ ap (λ (v : View). v.speaks) bd.is

-- its words were written, and the fill was made, or memory was wanted for it
module _ (who : Who) (digest : Digest) (o : Object) (n : ℕ) (old b claimed v new : View) (bound : Bound) (block : Block) (words : List (Option ℕ)) (mine : SpeaksFor old who)
    (size : n ≡ content_size (length o.refs) (length o.data)) (bd : BoundTo (deep_note who) Objects digest old b bound) (c : HasClaimed (deep_note who) n b claimed block) (h : HasWords who claimed v block words) where
  written-asks : AsksAtMost who (object_cost o) old v
  written-asks =
      let first = claimed-asks who digest o n old b claimed bound block mine size bd c in
      let written = asks-same who claimed v 0 (ap (λ (x : View). x.seen) h.is) in
      omega (arith, first, written)

  pub filled-asks : (cell : Place) (filled : Filled) → HasFilled (deep_note who) cell v new block filled → AsksAtMost who (object_cost o) old new
  filled-asks cell filled f =
      let speaks-v : SpeaksFor v who = subst (λ (x : View). SpeaksFor x who) (sym h.is) (ap (λ (s : ℕ → Bool). s who.session) (claimed-speaks who digest n old b claimed bound block bd c) ∙ mine) in
      let same = asked-foreign v.speaks who f.others v.seen speaks-v f.foreign in
      let then = asks-event who (Fill cell block.place.at (words_of v block)) v new f.others 0 0 (omega (arith, same)) (ap (λ (x : View). x.seen) f.is) (omega arith) in
      let first = written-asks in
      omega (arith, first, then)

  pub abandoned-asks : Abandons v new block → AsksAtMost who (object_cost o) old new
  abandoned-asks a =
      let left = asks-same who v new 0 (ap (λ (x : View). x.seen) a.is) in
      let first = written-asks in
      omega (arith, first, left)

-- ---- objects that are missing, and objects that are there

pub rows-stay : (s t : Tables) (rows : List Row) → IsSound s → Grows s t → HasRows (primary s) rows → HasRows (primary t) rows
rows-stay s t [] sound grows h = tt
rows-stay s t (r ∷ rs) sound grows h = (has-stays s t r.digest sound grows h.0, rows-stay s t rs sound grows h.1)

pub lacked-before : (s t : Tables) (d : Digest) → IsSound s → Grows s t → has (primary t) d ≡ false → has (primary s) d ≡ false
lacked-before s t d sound grows none = step (has (primary s) d) refl where
  step : (b : Bool) → has (primary s) d ≡ b → has (primary s) d ≡ false
  step false is = is
  step true is = absurd (cc (has-stays s t d sound grows is, none))

pub missing-before : (up : State) (root : Digest) (s t : Tables) (rows : List Row) → IsSound s → Grows s t → AreMissing up root (primary t) rows → AreMissing up root (primary s) rows
missing-before up root s t [] sound grows h = tt
missing-before up root s t (r ∷ rs) sound grows h = (h.0, lacked-before s t r.digest sound grows h.1, h.2, missing-before up root s t rs sound grows h.3)

pub lacks-row : (s : State) (d : Digest) (rows : List Row) → HasRows s rows → has s d ≡ false → Lacks d rows
lacks-row s d [] h none = tt
lacks-row s d (r ∷ rs) h none = (λ same. cc (subst (λ (x : Digest). has s x ≡ true) same h.0, none), lacks-row s d rs h.1 none)

-- ---- costs

-- without the object's cell, the state lacks it
pub cell-lacks : (t : Tables) (d : Digest) → cell_under t Objects d ≡ 0 → has (primary t) d ≡ false
cell-lacks t d none = ap is_some (get-object t d ∙ under-none t d none)

abbrev pub costs-self : (who : Who) (root : Digest) (v : View) → CostsOfBrought who root v v
costs-self who root v = record { rows = []; missing = tt; there = tt; most = omega arith }
