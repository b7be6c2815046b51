-- Where there is room for the costs of all calls, no claim is refused.
use Rattle.std.proofs.Common.{◌≡◌, ℕ, ◌+◌, ◌≤◌, List, [], ◌∷◌, true, false, cond, ◌&&◌, ◌==◌, inl, inr, refl, ap, sym, ◌∙◌, arith}
use Rattle.std.specs.declared.option.Option.{Option}
use Rattle.std.proofs.lemmas.Bool.{eq-eqb}
use Rattle.cas_model.specs.declared.call.Call.{Call}
use Rattle.cas_model.specs.declared.call.Who.{Who}
use Rattle.cas_model.specs.declared.note.Note.{Note}
use Rattle.cas_model.specs.State.{State}
use Rattle.cas_model.specs.Tables.{Tables}
use Rattle.cas_history.specs.declared.event.Act.{Act}
use Rattle.cas_history.specs.declared.event.Act.TheVariants.{Look, Bind, Read, Claim, Room, Fill}
use Rattle.cas_history.specs.declared.event.Event.{Event}
use Rattle.cas_history.specs.Conduct.{same_who}
use Rattle.cas_history.specs.Cost.{asked_by, asked, asked_by_all, AreWithinCost, HasRoomFor}
use Rattle.cas_history.specs.Laws.{IsAmong, AreOf, AskForCosts, NoneRefused, is_refused}
use Rattle.cas_history.specs.Lawful.{IsLawfulRun}
use Rattle.cas_history.proofs.Others.{room-asked}

-- how many words these calls ask for together
abbrev pub asked_by_these : List Who → List Event → ℕ
asked_by_these [] seen = 0
asked_by_these (who ∷ whos) seen = asked who seen + asked_by_these whos seen

same-who : (a b : Who) → a ≡ b → same_who a b ≡ true
same-who a b e =
    let one : a.session ≡ b.session = ap (λ (w : Who). w.session) e in
    let two : a.index ≡ b.index = ap (λ (w : Who). w.index) e in
    ap (λ t. t && (a.index == b.index)) (eq-eqb a.session b.session one) ∙ eq-eqb a.index b.index two

these-more : (whos : List Who) (e : Event) (seen : List Event) → asked_by_these whos seen ≤ asked_by_these whos (e ∷ seen)
these-more [] e seen = omega arith
these-more (who ∷ whos) e seen = let below = these-more whos e seen in omega (arith, below)

-- an event of one of the calls is counted
these-count : (whos : List Who) (e : Event) (seen : List Event) → IsAmong e.note.who whos → asked_by e.act + asked_by_these whos seen ≤ asked_by_these whos (e ∷ seen)
these-count [] e seen among = absurd among
these-count (who ∷ whos) e seen (inl is) =
    let more = these-more whos e seen in
    let counted : cond (same_who e.note.who who) (asked_by e.act) 0 ≡ asked_by e.act = ap (λ b. cond b (asked_by e.act) 0) (same-who e.note.who who (sym is)) in
    omega (arith, more, counted)
these-count (who ∷ whos) e seen (inr among) = let below = these-count whos e seen among in omega (arith, below)

all-asked : (whos : List Who) (seen : List Event) → AreOf whos seen → asked_by_all seen ≤ asked_by_these whos seen
all-asked whos [] are = omega arith
all-asked whos (e ∷ es) are =
    let below = all-asked whos es are.1 in
    let more = these-count whos e es are.0 in
    omega (arith, below, more)

costs-are : (up : State) (calls : Who → Option Call) (seen : List Event) (whos : List Who) (list : List Call) → AskForCosts up calls seen whos list → AreWithinCost up list (asked_by_these whos seen)
costs-are up calls seen [] [] ask = omega arith
costs-are up calls seen [] (call ∷ rest) ask = absurd ask
costs-are up calls seen (who ∷ whos) [] ask = absurd ask
costs-are up calls seen (who ∷ whos) (call ∷ rest) ask = (asked who seen, asked_by_these whos seen, ask.1, costs-are up calls seen whos rest ask.2, omega arith)

not-refused : (up : State) (start : Tables) (note : Note) (act : Act) (seen : List Event) → IsLawfulRun up start (record { note = note; act = act } ∷ seen)
    → start.counter + (asked_by act + asked_by_all seen) ≤ start.size → is_refused act ≡ false
not-refused up start note (Look space digest) seen lawful room = refl
not-refused up start note (Bind space digest own) seen lawful room = refl
not-refused up start note (Read cell) seen lawful room = refl
not-refused up start note (Claim n) seen lawful room = refl
not-refused up start note (Fill cell value words) seen lawful room = refl
not-refused up start note (Room n moved) seen lawful room = absurd (let past = room-asked up start note n moved seen lawful in omega (arith, past, room))

-- a run that asks for no more than there is room for is refused no claim
none-refused : (up : State) (start : Tables) (seen : List Event) → IsLawfulRun up start seen → start.counter + asked_by_all seen ≤ start.size → NoneRefused seen
none-refused up start [] lawful room = tt
none-refused up start (e ∷ es) lawful room = (not-refused up start e.note e.act es lawful room, none-refused up start es lawful.0 (omega (arith, room)))

pub full-never-comes : (up : State) (start : Tables) (calls : Who → Option Call) (whos : List Who) (list : List Call) (seen : List Event) → IsLawfulRun up start seen → AreOf whos seen
    → AskForCosts up calls seen whos list → HasRoomFor up list start.counter start.size → NoneRefused seen
full-never-comes up start calls whos list seen lawful are ask room =
    let within = room (asked_by_these whos seen) (costs-are up calls seen whos list ask) in
    let all = all-asked whos seen are in
    none-refused up start seen lawful (omega (arith, within, all))
