-- The blocks of a seat, looked up by their places.
use Rattle.std.proofs.Common.{◌≡◌, ◌≢◌, ◌⊎◌, ℕ, ◌+◌, ◌<◌, ◌≤◌, ◌==◌, List, [], ◌∷◌, ◌++◌, length, length-set, Some, None, Bool, true, false, cond, refl, sym, ap, ◌∙◌, subst, inl, inr, arith}
use Rattle.std.specs.declared.option.Option.{Option}
use Rattle.std.proofs.lemmas.Bool.{cases_eq, cases_Bool, cond-true, cond-false, eq-eqb, eqb-true, ne_eqb}
use Rattle.cas_model.specs.declared.note.Note.{Note}
use Rattle.cas_history.specs.declared.event.Event.{Event}
use Rattle.std.specs.Prelude.{slice_set}
use Rattle.cas_port.specs.declared.block.OpenBlock.{OpenBlock}
use Rattle.cas_port.specs.View.{open_words, write_word}
use Rattle.region_words.specs.Blocks.{block_at, AreSingle, EndBy, all_blocks, held, new_block}
use Rattle.region_words.specs.Rule.{claiming, writing}
use Rattle.region_words.proofs.Labelling.{length-none}
use Rattle.region_words.specs.declared.hold.Hold.{Hold}
use Rattle.region_words.specs.declared.hold.Hold.TheVariants.{Caller, Bind}
use Rattle.region_words.specs.declared.view.SeatView.{SeatView}

some-not-none : (a : OpenBlock) → Some a ≡ None → ⊥
some-not-none a h = cc h

-- the first of the blocks is at the place, or the others have it
hit : (o : OpenBlock) (os : List OpenBlock) (q : ℕ) → (o.place == q) ≡ true → block_at (o ∷ os) q ≡ Some o
hit o os q e = cond-true (o.place == q) (Some o) (block_at os q) e

miss : (o : OpenBlock) (os : List OpenBlock) (q : ℕ) → (o.place == q) ≡ false → block_at (o ∷ os) q ≡ block_at os q
miss o os q e = cond-false (o.place == q) (Some o) (block_at os q) e

pub at-place : (os : List OpenBlock) (q : ℕ) (b : OpenBlock) → block_at os q ≡ Some b → b.place ≡ q
at-place [] q b h = absurd (cc h)
at-place (o ∷ os) q b h = elim (cases_Bool (o.place == q)) [
  | inl e ↦ let both : Some o ≡ Some b = sym (hit o os q e) ∙ h in let one : o ≡ b = cc in ap (λ (z : OpenBlock). z.place) (sym one) ∙ eqb-true o.place q e
  | inr e ↦ at-place os q b (sym (miss o os q e) ∙ h)
]

pub at-front : (xs ys : List OpenBlock) (q : ℕ) (b : OpenBlock) → block_at xs q ≡ Some b → block_at (xs ++ ys) q ≡ Some b
at-front [] ys q b h = absurd (cc h)
at-front (x ∷ xs) ys q b h = elim (cases_Bool (x.place == q)) [
  | inl e ↦ hit x (xs ++ ys) q e ∙ sym (hit x xs q e) ∙ h
  | inr e ↦ miss x (xs ++ ys) q e ∙ at-front xs ys q b (sym (miss x xs q e) ∙ h)
]

pub at-back : (xs ys : List OpenBlock) (q : ℕ) → block_at xs q ≡ None → block_at (xs ++ ys) q ≡ block_at ys q
at-back [] ys q h = refl
at-back (x ∷ xs) ys q h = elim (cases_Bool (x.place == q)) [
  | inl e ↦ absurd (some-not-none x (sym (hit x xs q e) ∙ h))
  | inr e ↦ miss x (xs ++ ys) q e ∙ at-back xs ys q (sym (miss x xs q e) ∙ h)
]

pub none-front : (xs ys : List OpenBlock) (q : ℕ) → block_at (xs ++ ys) q ≡ None → block_at xs q ≡ None
none-front [] ys q h = refl
none-front (x ∷ xs) ys q h = elim (cases_Bool (x.place == q)) [
  | inl e ↦ absurd (some-not-none x (sym (hit x (xs ++ ys) q e) ∙ h))
  | inr e ↦ miss x xs q e ∙ none-front xs ys q (sym (miss x (xs ++ ys) q e) ∙ h)
]

pub none-back : (xs ys : List OpenBlock) (q : ℕ) → block_at (xs ++ ys) q ≡ None → block_at ys q ≡ None
none-back xs ys q h = sym (at-back xs ys q (none-front xs ys q h)) ∙ h

pub none-both : (xs ys : List OpenBlock) (q : ℕ) → block_at xs q ≡ None → block_at ys q ≡ None → block_at (xs ++ ys) q ≡ None
none-both xs ys q h k = at-back xs ys q h ∙ k

-- a block is at the place, or none
pub cases-at : (os : List OpenBlock) (q : ℕ) → ((b : OpenBlock) × (block_at os q ≡ Some b)) ⊎ (block_at os q ≡ None)
cases-at os q = step (block_at os q) refl
  where
    step : (o : Option OpenBlock) → block_at os q ≡ o → ((b : OpenBlock) × (block_at os q ≡ Some b)) ⊎ (block_at os q ≡ None)
    step None e = inr e
    step (Some b) e = inl (b, e)

pub at-either : (xs ys : List OpenBlock) (q : ℕ) (b : OpenBlock) → block_at (xs ++ ys) q ≡ Some b → (block_at xs q ≡ Some b) ⊎ ((block_at xs q ≡ None) × (block_at ys q ≡ Some b))
at-either xs ys q b h = elim (cases-at xs q) [
  | inl t ↦ inl (t.1 ∙ sym (at-front xs ys q t.0 t.1) ∙ h)
  | inr e ↦ inr (e, sym (at-back xs ys q e) ∙ h)
]

-- ---- no two at one place

-- no place has a block in both lists
abbrev pub HaveNoPlace : List OpenBlock → List OpenBlock → Type 0
HaveNoPlace xs ys = (q : ℕ) (a b : OpenBlock) → block_at xs q ≡ Some a → block_at ys q ≡ Some b → ⊥

pub single-front : (xs ys : List OpenBlock) → AreSingle (xs ++ ys) → AreSingle xs
single-front [] ys h = tt
single-front (x ∷ xs) ys h = (none-front xs ys x.place h.0, single-front xs ys h.1)

pub single-back : (xs ys : List OpenBlock) → AreSingle (xs ++ ys) → AreSingle ys
single-back [] ys h = h
single-back (x ∷ xs) ys h = single-back xs ys h.1

pub single-apart : (xs ys : List OpenBlock) → AreSingle (xs ++ ys) → HaveNoPlace xs ys
single-apart [] ys h q a b x y = absurd (cc x)
single-apart (z ∷ zs) ys h q a b x y = elim (cases_Bool (z.place == q)) [
  | inl e ↦ some-not-none b (sym y ∙ ap (block_at ys) (sym (eqb-true z.place q e)) ∙ none-back zs ys z.place h.0)
  | inr e ↦ single-apart zs ys h.1 q a b (sym (miss z zs q e) ∙ x) y
]

none-there : (x : OpenBlock) (xs ys : List OpenBlock) → HaveNoPlace (x ∷ xs) ys → block_at ys x.place ≡ None
none-there x xs ys apart = elim (cases-at ys x.place) [
  | inl t ↦ absurd (apart x.place x t.0 (hit x xs x.place (eq-eqb x.place x.place refl)) t.1)
  | inr e ↦ e
]

apart-rest : (x : OpenBlock) (xs ys : List OpenBlock) → AreSingle (x ∷ xs) → HaveNoPlace (x ∷ xs) ys → HaveNoPlace xs ys
apart-rest x xs ys single apart q a b h k = elim (cases_Bool (x.place == q)) [
  | inl e ↦ some-not-none a (sym h ∙ ap (block_at xs) (sym (eqb-true x.place q e)) ∙ single.0)
  | inr e ↦ apart q a b (miss x xs q e ∙ h) k
]

pub single-append : (xs ys : List OpenBlock) → AreSingle xs → AreSingle ys → HaveNoPlace xs ys → AreSingle (xs ++ ys)
single-append [] ys h k apart = k
single-append (x ∷ xs) ys h k apart = (none-both xs ys x.place h.0 (none-there x xs ys apart), single-append xs ys h.1 k (apart-rest x xs ys h apart))

-- ---- one more block

none-insert : (xs ys : List OpenBlock) (b : OpenBlock) (q : ℕ) → q ≢ b.place → block_at (xs ++ ys) q ≡ None → block_at (xs ++ b ∷ ys) q ≡ None
none-insert xs ys b q other h = none-both xs (b ∷ ys) q (none-front xs ys q h) (miss b ys q (ne_eqb b.place q (λ e. other (sym e))) ∙ none-back xs ys q h)

pub insert-at : (xs ys : List OpenBlock) (b : OpenBlock) (q : ℕ) (c : OpenBlock) → block_at (xs ++ ys) b.place ≡ None → block_at (xs ++ b ∷ ys) q ≡ Some c → ((q ≡ b.place) × (b ≡ c)) ⊎ ((q ≢ b.place) × (block_at (xs ++ ys) q ≡ Some c))
insert-at xs ys b q c none h = elim (at-either xs (b ∷ ys) q c h) [
  | inl x ↦ inr ((λ e. some-not-none c (sym x ∙ ap (block_at xs) e ∙ none-front xs ys b.place none)), at-front xs ys q c x)
  | inr t ↦
      elim (cases_eq q b.place) [
        | inl is ↦ let both : Some b ≡ Some c = sym (hit b ys q (eq-eqb b.place q (sym is))) ∙ t.1 in inl (is, cc both)
        | inr off ↦ inr (off, at-back xs ys q t.0 ∙ sym (miss b ys q (ne_eqb b.place q (λ e. off (sym e)))) ∙ t.1)
      ]
]

pub insert-single : (xs ys : List OpenBlock) (b : OpenBlock) → block_at (xs ++ ys) b.place ≡ None → AreSingle (xs ++ ys) → AreSingle (xs ++ b ∷ ys)
insert-single [] ys b none single = (none, single)
insert-single (x ∷ xs) ys b none single = elim (cases_Bool (x.place == b.place)) [
  | inl e ↦ absurd (some-not-none x (sym (hit x (xs ++ ys) b.place e) ∙ none))
  | inr e ↦ (none-insert xs ys b x.place (λ is. let t = eq-eqb x.place b.place is in cc (t, e)) single.0, insert-single xs ys b (sym (miss x (xs ++ ys) b.place e) ∙ none) single.1)
]

-- ---- where blocks end

pub end-front : (most : ℕ) (xs ys : List OpenBlock) → EndBy most (xs ++ ys) → EndBy most xs
end-front most [] ys h = tt
end-front most (x ∷ xs) ys h = (h.0, end-front most xs ys h.1)

pub end-back : (most : ℕ) (xs ys : List OpenBlock) → EndBy most (xs ++ ys) → EndBy most ys
end-back most [] ys h = h
end-back most (x ∷ xs) ys h = end-back most xs ys h.1

pub end-append : (most : ℕ) (xs ys : List OpenBlock) → EndBy most xs → EndBy most ys → EndBy most (xs ++ ys)
end-append most [] ys h k = k
end-append most (x ∷ xs) ys h k = (h.0, end-append most xs ys h.1 k)

pub end-insert : (most : ℕ) (xs ys : List OpenBlock) (b : OpenBlock) → b.place + length b.words ≤ most → EndBy most (xs ++ ys) → EndBy most (xs ++ b ∷ ys)
end-insert most xs ys b low h = end-append most xs (b ∷ ys) (end-front most xs ys h) (low, end-back most xs ys h)

pub end-at : (most : ℕ) (os : List OpenBlock) (q : ℕ) (b : OpenBlock) → EndBy most os → block_at os q ≡ Some b → q + length b.words ≤ most
end-at most [] q b h at = absurd (cc at)
end-at most (o ∷ os) q b h at = elim (cases_Bool (o.place == q)) [
  | inl e ↦
      let both : Some o ≡ Some b = sym (hit o os q e) ∙ at in
      let one : o ≡ b = cc both in
      let place = eqb-true o.place q e in
      let long : length o.words ≡ length b.words = ap (λ (z : OpenBlock). length z.words) one in
      let low = h.0 in
      omega arith
  | inr e ↦ end-at most os q b h.1 (sym (miss o os q e) ∙ at)
]

-- ---- a word is written

abbrev pub put_in : ℕ → ℕ → OpenBlock → OpenBlock
put_in index word o = record o { words = slice_set o.words index (Some word) }

pub words-open : (os : List OpenBlock) (q index : ℕ) → index < length (open_words os q) → (b : OpenBlock) × (block_at os q ≡ Some b) × (index < length b.words)
words-open [] q index low = absurd (omega arith)
words-open (o ∷ os) q index low = step (o.place == q) (words-open os q index) low
  where
    step : (c : Bool) → (index < length (open_words os q) → (b : OpenBlock) × (block_at os q ≡ Some b) × (index < length b.words)) → index < length (cond c o.words (open_words os q))
        → (b : OpenBlock) × (cond c (Some o) (block_at os q) ≡ Some b) × (index < length b.words)
    step true rest low = (o, refl, low)
    step false rest low = rest low

write-hit : (o : OpenBlock) (os : List OpenBlock) (q i x : ℕ) → (o.place == q) ≡ true → write_word (o ∷ os) q i x ≡ put_in i x o ∷ os
write-hit o os q i x e = cond-true (o.place == q) (put_in i x o ∷ os) (o ∷ write_word os q i x) e

write-miss : (o : OpenBlock) (os : List OpenBlock) (q i x : ℕ) → (o.place == q) ≡ false → write_word (o ∷ os) q i x ≡ o ∷ write_word os q i x
write-miss o os q i x e = cond-false (o.place == q) (put_in i x o ∷ os) (o ∷ write_word os q i x) e

pub write-front : (xs ys : List OpenBlock) (q i x : ℕ) (b : OpenBlock) → block_at xs q ≡ Some b → write_word (xs ++ ys) q i x ≡ write_word xs q i x ++ ys
write-front [] ys q i x b h = absurd (cc h)
write-front (z ∷ zs) ys q i x b h = elim (cases_Bool (z.place == q)) [
  | inl e ↦ write-hit z (zs ++ ys) q i x e ∙ ap (λ l. l ++ ys) (sym (write-hit z zs q i x e))
  | inr e ↦ write-miss z (zs ++ ys) q i x e ∙ ap (λ l. z ∷ l) (write-front zs ys q i x b (sym (miss z zs q e) ∙ h)) ∙ ap (λ l. l ++ ys) (sym (write-miss z zs q i x e))
]

pub write-back : (xs ys : List OpenBlock) (q i x : ℕ) → block_at xs q ≡ None → write_word (xs ++ ys) q i x ≡ xs ++ write_word ys q i x
write-back [] ys q i x h = refl
write-back (z ∷ zs) ys q i x h = elim (cases_Bool (z.place == q)) [
  | inl e ↦ absurd (some-not-none z (sym (hit z zs q e) ∙ h))
  | inr e ↦ write-miss z (zs ++ ys) q i x e ∙ ap (λ l. z ∷ l) (write-back zs ys q i x (sym (miss z zs q e) ∙ h))
]

-- the block at a place after a write was there before it
pub write-at : (q i x p : ℕ) (os : List OpenBlock) (c : OpenBlock) → block_at (write_word os q i x) p ≡ Some c → (b : OpenBlock) × (block_at os p ≡ Some b) × (((q ≡ p) × (c ≡ put_in i x b)) ⊎ ((q ≢ p) × (c ≡ b)))
write-at q i x p [] c h = absurd (cc h)
write-at q i x p (o ∷ os) c h = elim (cases_Bool (o.place == q)) [
  | inl e ↦
      let w : block_at (put_in i x o ∷ os) p ≡ Some c = ap (λ l. block_at l p) (sym (write-hit o os q i x e)) ∙ h in
      elim (cases_Bool (o.place == p)) [
        | inl f ↦
            let both : Some (put_in i x o) ≡ Some c = sym (hit (put_in i x o) os p f) ∙ w in
            let one : put_in i x o ≡ c = cc both in
            (o, hit o os p f, inl (sym (eqb-true o.place q e) ∙ eqb-true o.place p f, sym one))
        | inr f ↦
            let there : block_at os p ≡ Some c = sym (miss (put_in i x o) os p f) ∙ w in
            (c, miss o os p f ∙ there, inr ((λ qp. let t = eq-eqb o.place p (eqb-true o.place q e ∙ qp) in cc (t, f)), refl))
      ]
  | inr e ↦
      let w : block_at (o ∷ write_word os q i x) p ≡ Some c = ap (λ l. block_at l p) (sym (write-miss o os q i x e)) ∙ h in
      elim (cases_Bool (o.place == p)) [
        | inl f ↦
            let both : Some o ≡ Some c = sym (hit o (write_word os q i x) p f) ∙ w in
            let one : o ≡ c = cc both in
            (o, hit o os p f, inr ((λ qp. let t = eq-eqb o.place q (eqb-true o.place p f ∙ sym qp) in cc (t, e)), sym one))
        | inr f ↦
            let z = write-at q i x p os c (sym (miss o (write_word os q i x) p f) ∙ w) in
            (z.0, miss o os p f ∙ z.1, z.2)
      ]
]

write-none : (q i x p : ℕ) (os : List OpenBlock) → block_at os p ≡ None → block_at (write_word os q i x) p ≡ None
write-none q i x p os h = elim (cases-at (write_word os q i x) p) [
  | inl t ↦ let z = write-at q i x p os t.0 t.1 in absurd (some-not-none z.0 (sym z.1 ∙ h))
  | inr e ↦ e
]

pub write-single : (q i x : ℕ) (os : List OpenBlock) → AreSingle os → AreSingle (write_word os q i x)
write-single q i x [] h = tt
write-single q i x (o ∷ os) h = elim (cases_Bool (o.place == q)) [
  | inl e ↦ subst AreSingle (sym (write-hit o os q i x e)) (h.0, h.1)
  | inr e ↦ subst AreSingle (sym (write-miss o os q i x e)) (write-none q i x o.place os h.0, write-single q i x os h.1)
]

pub write-end : (most q i x : ℕ) (os : List OpenBlock) → EndBy most os → EndBy most (write_word os q i x)
write-end most q i x [] h = tt
write-end most q i x (o ∷ os) h = elim (cases_Bool (o.place == q)) [
  | inl e ↦ subst (EndBy most) (sym (write-hit o os q i x e)) (subst (λ (n : ℕ). o.place + n ≤ most) (sym (length-set o.words i (Some x))) h.0, h.1)
  | inr e ↦ subst (EndBy most) (sym (write-miss o os q i x e)) (h.0, write-end most q i x os h.1)
]

-- ---- blocks that are held

pub held-at : (hold : Hold) (v : SeatView) (q : ℕ) (b : OpenBlock) → AreSingle (all_blocks v) → block_at (held hold v) q ≡ Some b → block_at (all_blocks v) q ≡ Some b
held-at Caller v q b single h = at-front v.blocks v.working q b h
held-at Bind v q b single h = elim (cases-at v.blocks q) [
  | inl t ↦ absurd (single-apart v.blocks v.working single q t.0 b t.1 h)
  | inr e ↦ at-back v.blocks v.working q e ∙ h
]

pub writing-all : (hold : Hold) (v : SeatView) (q i x : ℕ) (b : OpenBlock) → AreSingle (all_blocks v) → block_at (held hold v) q ≡ Some b → all_blocks (writing hold v q i x) ≡ write_word (all_blocks v) q i x
writing-all Caller v q i x b single h = sym (write-front v.blocks v.working q i x b h)
writing-all Bind v q i x b single h = elim (cases-at v.blocks q) [
  | inl t ↦ absurd (single-apart v.blocks v.working single q t.0 b t.1 h)
  | inr e ↦ sym (write-back v.blocks v.working q i x e)
]

-- a block that is held ends where all do
pub held-end : (most : ℕ) (hold : Hold) (v : SeatView) → EndBy most (all_blocks v) → EndBy most (held hold v)
held-end most Caller v h = end-front most v.blocks v.working h
held-end most Bind v h = end-back most v.blocks v.working h

pub held-inside : (most : ℕ) (hold : Hold) (v : SeatView) (q index : ℕ) → EndBy most (all_blocks v) → index < length (open_words (held hold v) q) → q + index < most
held-inside most hold v q index ends low =
    let t = words-open (held hold v) q index low in
    let e = end-at most (held hold v) q t.0 (held-end most hold v ends) t.1 in
    let l = t.2 in
    omega arith

pub writing-end : (most : ℕ) (hold : Hold) (v : SeatView) (q i x : ℕ) → EndBy most (all_blocks v) → EndBy most (all_blocks (writing hold v q i x))
writing-end most Caller v q i x h = end-append most (write_word v.blocks q i x) v.working (write-end most q i x v.blocks (end-front most v.blocks v.working h)) (end-back most v.blocks v.working h)
writing-end most Bind v q i x h = end-append most v.blocks (write_word v.working q i x) (end-front most v.blocks v.working h) (write-end most q i x v.working (end-back most v.blocks v.working h))

-- ---- two seats' blocks

module _ (v w : SeatView) (sv : AreSingle (all_blocks v)) (sw : AreSingle (all_blocks w)) where
  pub both-at : (q : ℕ) (b : OpenBlock) → block_at ((v.blocks ++ w.blocks) ++ (v.working ++ w.working)) q ≡ Some b → (block_at (all_blocks v) q ≡ Some b) ⊎ (block_at (all_blocks w) q ≡ Some b)
  both-at q b h = elim (at-either (v.blocks ++ w.blocks) (v.working ++ w.working) q b h) [
    | inl x ↦
        elim (at-either v.blocks w.blocks q b x) [
          | inl y ↦ inl (at-front v.blocks v.working q b y)
          | inr y ↦ inr (at-front w.blocks w.working q b y.1)
        ]
    | inr x ↦
        elim (at-either v.working w.working q b x.1) [
          | inl y ↦ inl (held-at Bind v q b sv y)
          | inr y ↦ inr (held-at Bind w q b sw y.1)
        ]
  ]

  pub both-single : HaveNoPlace (all_blocks v) (all_blocks w) → AreSingle ((v.blocks ++ w.blocks) ++ (v.working ++ w.working))
  both-single apart = single-append (v.blocks ++ w.blocks) (v.working ++ w.working)
      (single-append v.blocks w.blocks (single-front v.blocks v.working sv) (single-front w.blocks w.working sw) (λ q a b x y. apart q a b (held-at Caller v q a sv x) (held-at Caller w q b sw y)))
      (single-append v.working w.working (single-back v.blocks v.working sv) (single-back w.blocks w.working sw) (λ q a b x y. apart q a b (held-at Bind v q a sv x) (held-at Bind w q b sw y)))
      (λ q a b x y. elim (at-either v.blocks w.blocks q a x) [
        | inl s ↦
            elim (at-either v.working w.working q b y) [
              | inl t ↦ single-apart v.blocks v.working sv q a b s t
              | inr t ↦ apart q a b (held-at Caller v q a sv s) (held-at Bind w q b sw t.1)
            ]
        | inr s ↦
            elim (at-either v.working w.working q b y) [
              | inl t ↦ apart q b a (held-at Bind v q b sv t) (held-at Caller w q a sw s.1)
              | inr t ↦ single-apart w.blocks w.working sw q a b s.1 t.1
            ]
      ])

pub both-end : (most : ℕ) (v w : SeatView) → EndBy most (all_blocks v) → EndBy most (all_blocks w) → EndBy most ((v.blocks ++ w.blocks) ++ (v.working ++ w.working))
both-end most v w h k = end-append most (v.blocks ++ w.blocks) (v.working ++ w.working)
    (end-append most v.blocks w.blocks (end-front most v.blocks v.working h) (end-front most w.blocks w.working k))
    (end-append most v.working w.working (end-back most v.blocks v.working h) (end-back most w.blocks w.working k))

-- ---- a new block that is held

module _ (v : SeatView) (events : List Event) (p : ℕ) (note : Note) (n : ℕ) where
  pub claiming-at : (hold : Hold) (q : ℕ) (c : OpenBlock) → block_at (all_blocks v) p ≡ None → block_at (all_blocks (claiming hold v events p note n)) q ≡ Some c
      → ((q ≡ p) × (new_block p note.who n ≡ c)) ⊎ ((q ≢ p) × (block_at (all_blocks v) q ≡ Some c))
  claiming-at Caller q c none h = insert-at [] (v.blocks ++ v.working) (new_block p note.who n) q c none h
  claiming-at Bind q c none h = insert-at v.blocks v.working (new_block p note.who n) q c none h

  pub claiming-single : (hold : Hold) → block_at (all_blocks v) p ≡ None → AreSingle (all_blocks v) → AreSingle (all_blocks (claiming hold v events p note n))
  claiming-single Caller none single = insert-single [] (v.blocks ++ v.working) (new_block p note.who n) none single
  claiming-single Bind none single = insert-single v.blocks v.working (new_block p note.who n) none single

  pub claiming-end : (most : ℕ) (hold : Hold) → p + n ≤ most → EndBy most (all_blocks v) → EndBy most (all_blocks (claiming hold v events p note n))
  claiming-end most Caller low h = end-insert most [] (v.blocks ++ v.working) (new_block p note.who n) (subst (λ (k : ℕ). p + k ≤ most) (sym (length-none n)) low) h
  claiming-end most Bind low h = end-insert most v.blocks v.working (new_block p note.who n) (subst (λ (k : ℕ). p + k ≤ most) (sym (length-none n)) low) h

  -- the rest of the view
  pub claiming-known : (hold : Hold) → (claiming hold v events p note n).known ≡ v.known
  claiming-known Caller = refl
  claiming-known Bind = refl

  pub claiming-seen : (hold : Hold) → (claiming hold v events p note n).seen ≡ events
  claiming-seen Caller = refl
  claiming-seen Bind = refl

  pub claiming-numbers : (hold : Hold) → (claiming hold v events p note n).numbers ≡ v.numbers
  claiming-numbers Caller = refl
  claiming-numbers Bind = refl

  pub claiming-given : (hold : Hold) → (claiming hold v events p note n).given ≡ v.given
  claiming-given Caller = refl
  claiming-given Bind = refl

  pub claiming-heard : (hold : Hold) → (claiming hold v events p note n).heard ≡ []
  claiming-heard Caller = refl
  claiming-heard Bind = refl

module _ (v : SeatView) (p i x : ℕ) where
  pub writing-known : (hold : Hold) → (writing hold v p i x).known ≡ v.known
  writing-known Caller = refl
  writing-known Bind = refl

  pub writing-seen : (hold : Hold) → (writing hold v p i x).seen ≡ v.seen
  writing-seen Caller = refl
  writing-seen Bind = refl

  pub writing-numbers : (hold : Hold) → (writing hold v p i x).numbers ≡ v.numbers
  writing-numbers Caller = refl
  writing-numbers Bind = refl

  pub writing-given : (hold : Hold) → (writing hold v p i x).given ≡ v.given
  writing-given Caller = refl
  writing-given Bind = refl

  pub writing-heard : (hold : Hold) → (writing hold v p i x).heard ≡ v.heard
  writing-heard Caller = refl
  writing-heard Bind = refl
