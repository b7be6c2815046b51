-- A cell is filled.
use Rattle.std.proofs.Common.{◌≡◌, ◌≢◌, ℕ, ◌+◌, ◌<◌, List, length, inl, inr, refl, sym, ap, ◌∙◌, arith}
use Rattle.std.proofs.lemmas.Bool.{cases_eq}
use Rattle.cas_model.specs.declared.place.Space.{Space}
use Rattle.cas_model.specs.declared.place.Space.TheVariants.{Objects, Actions}
use Rattle.region_core.specs.Heap.{Block, Free, Table, Record, Content, Claimed, extent, fixed, Shape, Keeps, Tries, Laid}
use Rattle.region_core.specs.Change.{Wrote, Placed}
use Rattle.region_core.proofs.Claim.{plain_tries, plain_back}
use Rattle.region_core.proofs.Heap.{SameTries, placed_shape, same_tries, stay, came, wrote_keeps, placed_keeps, slots_same}

-- only the cell of a record changes
pub cell_on : (heap heap' : ℕ → Block) (q : ℕ) (s : Space) (d : List ℕ) (old new : ℕ) → Placed heap heap' q (Record s d new) → heap q ≡ Record s d old → SameTries heap heap'
cell_on heap heap' q s d old new placed was = record {
  table = λ p t π h. stay heap heap' q p (Record s d old) (Record s d new) (Table t π) placed was h (λ e. cc);
  record_ = λ p t e c h. elim (cases_eq p q) [
    | inl at ↦
        let same : Record t e c ≡ Record s d old = sym h ∙ ap heap at ∙ was in
        let t_is : t ≡ s = cc in
        let e_is : e ≡ d = cc in
        (new, ap heap' at ∙ placed.now ∙ sym (ap (λ x. Record t x new) e_is ∙ ap (λ x. Record x d new) t_is))
    | inr at ↦ (c, placed.same p at ∙ h)
  ];
}

pub cell_back : (heap heap' : ℕ → Block) (q : ℕ) (s : Space) (d : List ℕ) (old new : ℕ) → Placed heap heap' q (Record s d new) → heap q ≡ Record s d old → SameTries heap' heap
cell_back heap heap' q s d old new placed was =
    cell_on heap' heap q s d new old record { now = was; same = λ p e. sym (placed.same p e) } placed.now

module _ (heap heap' : ℕ → Block) (memory memory' : ℕ → ℕ) (counter : ℕ)
    (s : Space) (d : List ℕ) (q v : ℕ)
    (laid : Laid heap memory counter)
    (was : heap q ≡ Record s d 0)
    (wrote : Wrote memory memory' (q + 4) v)
    (placed : Placed heap heap' q (Record s d v)) where
  fill-shape : Shape heap' counter
  fill-shape = placed_shape heap heap' counter q (Record s d v) placed (sym (ap extent was)) (λ free. let clash : Record s d 0 ≡ Free = sym was ∙ free in cc) laid.shape

  fits : 4 < length (fixed (heap q))
  fits = rw was (omega arith)

  fill-keeps : Keeps heap' memory' counter
  fill-keeps = wrote_keeps heap heap' memory memory' counter q 4 v (Record s d v) laid.shape laid.keeps placed wrote fits (rw was refl)

  fill-tries : Tries heap' memory'
  fill-tries = same_tries heap heap' memory memory' (cell_on heap heap' q s d 0 v placed was) (cell_back heap heap' q s d 0 v placed was) (slots_same heap memory memory' counter q 4 v laid.shape wrote fits) laid.tries

-- an action's cell gets the place of a filled object record
pub fill_place : (heap heap' : ℕ → Block) (memory memory' : ℕ → ℕ) (counter : ℕ) (d e : List ℕ) (q r n : ℕ) → Laid heap memory counter → heap q ≡ Record Actions d 0 → heap r ≡ Record Objects e n → n ≢ 0 → Wrote memory memory' (q + 4) r → Placed heap heap' q (Record Actions d r) → Laid heap' memory' counter
fill_place heap heap' memory memory' counter d e q r n laid was value filled wrote placed = record {
  shape = fill-shape heap heap' memory memory' counter Actions d q r laid was wrote placed;
  keeps = fill-keeps heap heap' memory memory' counter Actions d q r laid was wrote placed;
  tries = fill-tries heap heap' memory memory' counter Actions d q r laid was wrote placed;
  cells = record {
    objects = λ p x c h h0.
        let y = laid.cells.objects p x c (came heap heap' q p (Record Actions d r) (Record Objects x c) placed h (λ e. cc)) h0 in
        record { words = y.words; here = stay heap heap' q c (Record Actions d 0) (Record Actions d r) (Content p y.words) placed was y.here (λ e. cc) };
    contents = λ p t xs h.
        let y = laid.cells.contents p t xs (came heap heap' q p (Record Actions d r) (Content t xs) placed h (λ e. cc)) in
        record { digest = y.digest; here = stay heap heap' q t (Record Actions d 0) (Record Actions d r) (Record Objects y.digest p) placed was y.here (λ e. cc) };
    actions = λ p x c h h0. elim (cases_eq p q) [
      | inl at ↦
          let same : Record Actions x c ≡ Record Actions d r = sym h ∙ ap heap' at ∙ placed.now in
          let c_is : c ≡ r = cc in
          record {
            digest = e;
            content = n;
            filled = filled;
            here = ap heap' c_is ∙ stay heap heap' q r (Record Actions d 0) (Record Actions d r) (Record Objects e n) placed was value (λ e. cc);
          }
      | inr at ↦
          let y = laid.cells.actions p x c (sym (placed.same p at) ∙ h) h0 in
          record { digest = y.digest; content = y.content; filled = y.filled; here = stay heap heap' q c (Record Actions d 0) (Record Actions d r) (Record Objects y.digest y.content) placed was y.here (λ e. cc) }
    ];
  };
}

-- an object's cell gets the place of a claimed block, which becomes its content
module _ (heap mid heap' : ℕ → Block) (memory memory' : ℕ → ℕ) (counter : ℕ)
    (d : List ℕ) (q v : ℕ) (ws : List ℕ)
    (laid : Laid heap memory counter)
    (was : heap q ≡ Record Objects d 0)
    (mine : heap v ≡ Claimed ws)
    (wrote : Wrote memory memory' (q + 4) v)
    (first : Placed heap mid q (Record Objects d v))
    (second : Placed mid heap' v (Content q ws)) where
  other : v ≢ q
  other e = let clash : Claimed ws ≡ Record Objects d 0 = sym mine ∙ ap heap e ∙ was in cc

  mine_mid : mid v ≡ Claimed ws
  mine_mid = first.same v other ∙ mine

  now_record : heap' q ≡ Record Objects d v
  now_record = second.same q (λ e. other (sym e)) ∙ first.now

  kept : (p : ℕ) (b : Block) → heap p ≡ b → b ≢ Record Objects d 0 → b ≢ Claimed ws → heap' p ≡ b
  kept p b h r c = stay mid heap' v p (Claimed ws) (Content q ws) b second mine_mid (stay heap mid q p (Record Objects d 0) (Record Objects d v) b first was h r) c

  earlier : (p : ℕ) (b : Block) → heap' p ≡ b → p ≢ q → p ≢ v → heap p ≡ b
  earlier p b h nq nv = sym (first.same p nq) ∙ sym (second.same p nv) ∙ h

  pub fill : Laid heap' memory' counter
  fill =
      let shape = fill-shape heap mid memory memory' counter Objects d q v laid was wrote first in
      record {
        shape = placed_shape mid heap' counter v (Content q ws) second (sym (ap extent mine_mid)) (λ free. let clash : Claimed ws ≡ Free = sym mine_mid ∙ free in cc) shape;
        keeps = placed_keeps mid heap' memory' counter v (Content q ws) (fill-keeps heap mid memory memory' counter Objects d q v laid was wrote first) second (sym (ap fixed mine_mid));
        tries = same_tries mid heap' memory' memory'
            (plain_tries mid heap' v (Claimed ws) (Content q ws) second mine_mid (λ s π e. cc) (λ s d c e. cc))
            (plain_back mid heap' v (Content q ws) second (λ s π e. cc) (λ s d c e. cc))
            (λ p s π j h hj. refl)
            (fill-tries heap mid memory memory' counter Objects d q v laid was wrote first);
        cells = record {
          objects = λ p x c h h0. elim (cases_eq p q) [
            | inl at ↦
                let same : Record Objects x c ≡ Record Objects d v = sym h ∙ ap heap' at ∙ now_record in
                let c_is : c ≡ v = cc in
                record { words = ws; here = ap heap' c_is ∙ second.now ∙ ap (λ y. Content y ws) (sym at) }
            | inr at ↦
                let not_v : p ≢ v = λ e. let clash : Record Objects x c ≡ Content q ws = sym h ∙ ap heap' e ∙ second.now in cc in
                let y = laid.cells.objects p x c (earlier p (Record Objects x c) h at not_v) h0 in
                record { words = y.words; here = kept c (Content p y.words) y.here (λ e. cc) (λ e. cc) }
          ];
          contents = λ p t xs h. elim (cases_eq p v) [
            | inl at ↦
                let same : Content t xs ≡ Content q ws = sym h ∙ ap heap' at ∙ second.now in
                let t_is : t ≡ q = cc in
                record { digest = d; here = ap heap' t_is ∙ now_record ∙ ap (λ y. Record Objects d y) (sym at) }
            | inr at ↦
                let not_q : p ≢ q = λ e. let clash : Content t xs ≡ Record Objects d v = sym h ∙ ap heap' e ∙ now_record in cc in
                let y = laid.cells.contents p t xs (earlier p (Content t xs) h not_q at) in
                let begun : p ≢ 0 = λ e. omega (
                  arith,
                  laid.shape.low p (elim (cases_eq (extent (heap p)) 0) [
                    | inl none ↦ absurd (let clash : Content t xs ≡ Free = sym (earlier p (Content t xs) h not_q at) ∙ laid.shape.solid p none in cc)
                    | inr some ↦ omega arith
                  ]),
                ) in
                record { digest = y.digest; here = kept t (Record Objects y.digest p) y.here (λ e. let zero_is : p ≡ 0 = cc in begun zero_is) (λ e. cc) }
          ];
          actions = λ p x c h h0.
              let not_q : p ≢ q = λ e. let clash : Record Actions x c ≡ Record Objects d v = sym h ∙ ap heap' e ∙ now_record in cc in
              let not_v : p ≢ v = λ e. let clash : Record Actions x c ≡ Content q ws = sym h ∙ ap heap' e ∙ second.now in cc in
              let y = laid.cells.actions p x c (earlier p (Record Actions x c) h not_q not_v) h0 in
              record {
                digest = y.digest;
                content = y.content;
                filled = y.filled;
                here = kept c (Record Objects y.digest y.content) y.here (λ e. let zero_is : y.content ≡ 0 = cc in y.filled zero_is) (λ e. cc);
              };
        };
      }
