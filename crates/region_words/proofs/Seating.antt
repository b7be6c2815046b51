-- A seat's own numbers go with its view after each step.
use Rattle.std.proofs.Common.{◌≡◌, ℕ, ◌<◌, List, [], ◌∷◌, ◌++◌, length, refl, sym, ap, ◌∙◌, subst, inl, inr, arith, length-append}
use Rattle.std.specs.Prelude.{slice_index}
use Rattle.atomic_table.specs.Table.{Me}
use Rattle.cas_model.specs.declared.note.Note.{Note}
use Rattle.cas_history.specs.declared.event.Act.TheVariants.{Claim}
use Rattle.cas_history.specs.declared.event.Event.{Event}
use Rattle.cas_history.specs.History.{events_of}
use Rattle.region_words.specs.Blocks.{EndBy, all_blocks}
use Rattle.region_words.specs.Numbers.{Has, own_number}
use Rattle.region_words.specs.Rule.{AddsToCounter, writing, event, joining, hearing, Hears, GoesOn, TakesIn}
use Rattle.region_words.specs.Running.{Origin}
use Rattle.region_words.specs.declared.hold.Hold.{Hold}
use Rattle.region_words.specs.declared.view.SeatView.{SeatView}
use Rattle.region_words.proofs.Holding.{claiming-end, claiming-numbers, claiming-given, writing-end, writing-numbers, writing-given, both-end}
use Rattle.region_words.proofs.Lists.{has-left, no-items}
use Rattle.region_words.proofs.Viewing.{events-append, others-of}

-- a seat's number, how many it has given, and the table's words, beside what the table has of the seat
abbrev pub IsSeated : ℕ → ℕ → ℕ → Me (Unit {0}) SeatView → Type 0
IsSeated number given words me = (number ≡ own_number me.0) × Has number me.0.numbers × (given ≡ me.0.given) × (me.1 ≡ []) × EndBy words (all_blocks me.0)

same-numbers : (number given words : ℕ) (me me' : Me (Unit {0}) SeatView) → IsSeated number given words me → me'.0.numbers ≡ me.0.numbers → me'.0.given ≡ me.0.given → me'.1 ≡ me.1 → EndBy words (all_blocks me'.0) → IsSeated number given words me'
same-numbers number given words me me' s numbers gave slots ends = (
  s.0 ∙ ap (λ (l : List ℕ). slice_index l 0) (sym numbers),
  subst (Has number) (sym numbers) s.1,
  s.2 ∙ sym gave,
  slots ∙ s.3,
  ends,
)

pub seated-added : (o : Origin) (hold : Hold) (note : Note) (n number given words words' found : ℕ) (me me' : Me (Unit {0}) SeatView) → o.start.size ≡ words → words' ≡ words → IsSeated number given words me → AddsToCounter o hold note n me.0 found me'.0 × (me'.1 ≡ me.1) → IsSeated number given words' me'
seated-added o hold note n number given words words' found me me' size same s told =
    subst (λ (z : ℕ). IsSeated number given z me') (sym same) (elim told.0.then [
      | inl t ↦
          let is = t.1 in
          same-numbers number given words me me' s
          (ap (λ (z : SeatView). z.numbers) is ∙ claiming-numbers me.0 (event note (Claim n) ∷ told.0.between ++ me.0.seen) found note n hold)
          (ap (λ (z : SeatView). z.given) is ∙ claiming-given me.0 (event note (Claim n) ∷ told.0.between ++ me.0.seen) found note n hold) told.1
          (subst (λ (z : SeatView). EndBy words (all_blocks z)) (sym is) (claiming-end me.0 (event note (Claim n) ∷ told.0.between ++ me.0.seen) found note n words hold (let room = t.0 in omega arith) s.4))
      | inr t ↦
          let is = t.1 in
          same-numbers number given words me me' s (ap (λ (z : SeatView). z.numbers) is) (ap (λ (z : SeatView). z.given) is) told.1
          (subst (λ (z : SeatView). EndBy words (all_blocks z)) (sym is) s.4)
    ])

pub seated-stored : (hold : Hold) (place index word number given words words' : ℕ) (me me' : Me (Unit {0}) SeatView) → words' ≡ words → IsSeated number given words me → (me'.0 ≡ writing hold me.0 place index word) × (me'.1 ≡ me.1) → IsSeated number given words' me'
seated-stored hold place index word number given words words' me me' same s told =
    subst (λ (z : ℕ). IsSeated number given z me') (sym same)
    (same-numbers number given words me me' s
    (ap (λ (z : SeatView). z.numbers) told.0 ∙ writing-numbers me.0 place index word hold)
    (ap (λ (z : SeatView). z.given) told.0 ∙ writing-given me.0 place index word hold) told.1
    (subst (λ (z : SeatView). EndBy words (all_blocks z)) (sym told.0) (writing-end words hold me.0 place index word s.4)))

own-joined : (xs ys : List ℕ) (n : ℕ) → Has n xs → slice_index (xs ++ ys) 0 ≡ slice_index xs 0
own-joined [] ys n h = absurd h
own-joined (x ∷ xs) ys n h = refl

pub seated-joined : (number given words words' : ℕ) (me other me' : Me (Unit {0}) SeatView) → words' ≡ words → IsSeated number given words me → EndBy words (all_blocks other.0) → me' ≡ (joining me.0 other.0, me.1) → IsSeated number given words' me'
seated-joined number given words words' me other me' same s ends is =
    subst (λ (z : ℕ). IsSeated number given z me') (sym same)
    (subst (λ (z : Me (Unit {0}) SeatView). IsSeated number given words z) (sym is) (
      s.0 ∙ sym (own-joined me.0.numbers other.0.numbers number s.1),
      has-left number me.0.numbers other.0.numbers s.1,
      s.2,
      s.3,
      both-end words me.0 other.0 s.4 ends,
    ))

-- ---- what a join tells

pub goes-on : (numbers : List ℕ) (seen log : List Event) (above : List Event) → log ≡ above ++ seen → ((n : ℕ) → Has n numbers → events_of n log ≡ events_of n seen) → GoesOn numbers seen log
goes-on numbers seen log above is same = record {
  above = above;
  is = is;
  others = λ n has.
      let e : events_of n above ++ events_of n seen ≡ events_of n seen = sym (events-append n above seen) ∙ ap (events_of n) (sym is) ∙ same n has in
      let l : length (events_of n above ++ events_of n seen) ≡ length (events_of n seen) = ap length e in
      others-of n above (no-items (events_of n above) (omega (arith, length-append (events_of n above) (events_of n seen))));
}

pub takes-in : (o : Origin) (v u m w : SeatView) → m ≡ joining v u → Hears o m w → TakesIn o v u w
takes-in o v u m w is told = at (subst (λ (z : SeatView). Hears o z w) is told)
  where
    at : Hears o (joining v u) w → TakesIn o v u w
    at h =
        let one = h.heard 0 (hearing v) refl in
        let two = h.heard 1 (hearing u) refl in
        record {
          run = h.run;
          first = goes-on v.numbers v.seen w.seen one.begins.0 one.begins.1 (λ n has. (one.own n has).1);
          second = goes-on u.numbers u.seen w.seen two.begins.0 two.begins.1 (λ n has. (two.own n has).1);
          rest = h.is ∙ ap (λ (l : List Event). record (joining v u) { seen = l; heard = [] }) (sym (ap (λ (z : SeatView). z.seen) h.is));
          whole = λ has n off. h.whole (ap own_number (sym h.is) ∙ has.0) (λ k low. subst (λ (z : SeatView). Has k z.numbers) h.is (has.1 k (subst (λ (z : SeatView). k < z.given) (sym h.is) low))) n (λ z. off (subst (λ (z : SeatView). Has n z.numbers) (sym h.is) z));
        }
