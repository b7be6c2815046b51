-- A load of the counter and an addition to it, one after the other, are one claim.
use Rattle.std.proofs.Common.{◌≡◌, ℕ, ◌+◌, ◌<◌, ◌≤◌, List, [], ◌∷◌, ◌++◌, true, false, refl, sym, ap, ◌∙◌, subst, inl, inr, arith}
use Rattle.std.proofs.lemmas.List.{append_assoc}
use Rattle.cas_model.specs.declared.note.Note.{Note}
use Rattle.cas_history.specs.declared.event.Act.TheVariants.{Claim, Room}
use Rattle.cas_history.specs.declared.event.Event.{Event}
use Rattle.cas_history.specs.Laws.{AreOfOtherSessions}
use Rattle.cas_port.specs.declared.block.Block.{Block}
use Rattle.region_words.specs.Rule.{event, seeing, claiming, FoundRoom, LoadsCounter, AddsToCounter}
use Rattle.region_words.specs.Running.{Origin, after}
use Rattle.region_words.specs.declared.hold.Hold.{Hold}
use Rattle.region_words.specs.declared.hold.Hold.TheVariants.{Caller, Bind}
use Rattle.region_words.specs.declared.view.SeatView.{SeatView}
use Rattle.bump_arena.specs.Claims.{Claims, Refuses}

others-both : (n : ℕ) (xs ys : List Event) → AreOfOtherSessions n xs → AreOfOtherSessions n ys → AreOfOtherSessions n (xs ++ ys)
others-both n [] ys one two = two
others-both n (x ∷ xs) ys one two = (one.0, others-both n xs ys one.1 two)

-- what the load left where there was room
pub loaded-view : (o : Origin) (note : Note) (n : ℕ) (v : SeatView) (found : ℕ) (m : SeatView) → found + n ≤ o.start.size → (l : LoadsCounter o note n v found m) → m ≡ seeing v (l.between ++ v.seen)
loaded-view o note n v found m room l = elim l.then [ inl t ↦ t.1 | inr t ↦ let a = t.0 in absurd (omega arith) ]

pub found-room : (o : Origin) (note : Note) (n : ℕ) (v : SeatView) (found : ℕ) (m : SeatView) → found + n ≤ o.start.size → LoadsCounter o note n v found m → FoundRoom o n m
found-room o note n v found m room l = subst (FoundRoom o n) (sym (loaded-view o note n v found m room l)) (let c = l.finds.counter in omega arith)

same-claiming : (hold : Hold) (v : SeatView) (seen events : List Event) (at : ℕ) (note : Note) (n : ℕ) → claiming hold (seeing v seen) events at note n ≡ claiming hold v events at note n
same-claiming Caller v seen events at note n = refl
same-claiming Bind v seen events at note n = refl

pub claims-block : (o : Origin) (hold : Hold) (note : Note) (n : ℕ) (v : SeatView) (first : ℕ) (m w : SeatView) (block : Block) → first + n ≤ o.start.size → block.place.at + n ≤ o.start.size → block.length ≡ n
    → LoadsCounter o note n v first m → AddsToCounter o hold note n m block.place.at w → Claims o hold note n v w block
claims-block o hold note n v first m w block room room' long l a = at-view (subst (λ (z : SeatView). AddsToCounter o hold note n z block.place.at w) (loaded-view o note n v first m room l) a)
  where
    at-view : AddsToCounter o hold note n (seeing v (l.between ++ v.seen)) block.place.at w → Claims o hold note n v w block
    at-view a =
        let same = append_assoc a.between l.between v.seen in
        record {
          between = a.between ++ l.between;
          others = λ k has. others-both k a.between l.between (a.finds.others k has) (l.finds.others k has);
          run = a.run;
          place = a.finds.counter ∙ ap (λ (es : List Event). (after o es).counter) (sym same);
          length = long;
          room = room';
          is = elim a.then [
            | inl t ↦
                t.1 ∙ same-claiming hold v (l.between ++ v.seen) (event note (Claim n) ∷ a.between ++ (l.between ++ v.seen)) block.place.at note n
                ∙ ap (λ (es : List Event). claiming hold v (event note (Claim n) ∷ es) block.place.at note n) (sym same)
            | inr t ↦ let x = t.0 in absurd (omega arith)
          ];
        }

pub refuses-late : (o : Origin) (hold : Hold) (note : Note) (n : ℕ) (v : SeatView) (first : ℕ) (m w : SeatView) (at size : ℕ) → first + n ≤ o.start.size → o.start.size < at + n → size ≡ o.start.size
    → LoadsCounter o note n v first m → AddsToCounter o hold note n m at w → Refuses o note n v w (record { at = at; asked = n; size = size })
refuses-late o hold note n v first m w at size room none is l a = at-view (subst (λ (z : SeatView). AddsToCounter o hold note n z at w) (loaded-view o note n v first m room l) a)
  where
    at-view : AddsToCounter o hold note n (seeing v (l.between ++ v.seen)) at w → Refuses o note n v w (record { at = at; asked = n; size = size })
    at-view a =
        let same = append_assoc a.between l.between v.seen in
        let counter = a.finds.counter ∙ ap (λ (es : List Event). (after o es).counter) (sym same) in
        record {
          between = a.between ++ l.between;
          moved = true;
          others = λ k has. others-both k a.between l.between (a.finds.others k has) (l.finds.others k has);
          run = a.run;
          numbers = λ i. record { at = counter i; asked = n; size = is i };
          none = none;
          is = elim a.then [
            | inl t ↦ let x = t.0 in absurd (omega arith)
            | inr t ↦ t.1 ∙ ap (λ (es : List Event). seeing v (event note (Room n true) ∷ es)) (sym same)
          ];
        }

pub refuses-early : (o : Origin) (note : Note) (n : ℕ) (v w : SeatView) (at size : ℕ) → o.start.size < at + n → size ≡ o.start.size → LoadsCounter o note n v at w → Refuses o note n v w (record { at = at; asked = n; size = size })
refuses-early o note n v w at size none is l = record {
  between = l.between;
  moved = false;
  others = l.finds.others;
  run = l.run;
  numbers = λ i. record { at = l.finds.counter i; asked = n; size = is i };
  none = none;
  is = elim l.then [
    | inl t ↦ let x = t.0 in absurd (omega arith)
    | inr t ↦ t.1
  ];
}
