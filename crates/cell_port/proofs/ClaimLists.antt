-- The first claim of a list that is refused.
use Rattle.std.proofs.Common.{◌≡◌, ℕ, zero, suc, ◌+◌, ◌*◌, ◌-◌, ◌<◌, ◌≤◌, List, [], ◌∷◌, ◌++◌, replicate, sum, inl, inr, refl, ap, sym, ◌∙◌, subst, arith, append_assoc}
use Rattle.std.proofs.lemmas.List.Sums.{sum_by-append, sum_by-cons}
use Rattle.std.proofs.lemmas.List.Folds.{sum_by-replicate}
use Rattle.cas_model.specs.declared.digest.Digest.{Digest}
use Rattle.cas_model.specs.declared.note.Note.{Note}
use Rattle.cas_model.specs.declared.place.Full.{Full as Refusal}
use Rattle.cas_model.specs.declared.place.Space.{Space}
use Rattle.cas_model.specs.declared.tables.Record.{Record}
use Rattle.cas_model.specs.Trie.{new_subtries}
use Rattle.cas_history.specs.declared.event.Event.{Event}
use Rattle.cas_port.specs.declared.block.PortError.{PortError}
use Rattle.cas_port.specs.declared.block.PortError.TheVariants.{Full, Memory}
use Rattle.cas_model.specs.Claims.{record_claims, IsFirstRefused}
use Rattle.cell_port.specs.Claims.{Refuses}
use Rattle.cell_port.specs.Needed.{needed, bound_in}
use Rattle.cell_port.specs.Plain.{BindStays, BindIsRefused, granted}
use Rattle.cell_port.specs.Tables.{PlainRows}

-- so many claims of subtries
abbrev parts : ℕ → List ℕ
parts k = replicate k 16

parts-split : (g k : ℕ) → g < k → parts k ≡ parts g ++ 16 ∷ parts (k - g - 1)
parts-split g zero lt = absurd (omega arith)
parts-split zero (suc k) lt = let e : suc k - 0 - 1 ≡ k = omega arith in ap (λ (n : ℕ). 16 ∷ parts n) (sym e)
parts-split (suc g) (suc k) lt =
    let e : suc k - suc g - 1 ≡ k - g - 1 = omega arith in
    ap (λ (ns : List ℕ). 16 ∷ ns) (parts-split g k (omega arith)) ∙ ap (λ (n : ℕ). 16 ∷ (parts g ++ 16 ∷ parts n)) (sym e)

pub sum-append : (xs ys : List ℕ) → sum (xs ++ ys) ≡ sum xs + sum ys
sum-append xs ys = sum_by-append (λ (n : ℕ). n) xs ys

pub sum-cons : (x : ℕ) (xs : List ℕ) → sum (x ∷ xs) ≡ x + sum xs
sum-cons x xs = sum_by-cons (λ (n : ℕ). n) x xs

sum-record : (k : ℕ) → sum (5 ∷ parts k) ≡ 5 + 16 * k
sum-record k =
    let first = sum-cons 5 (parts k) in
    let rest : sum (parts k) ≡ k * 16 = sum_by-replicate (λ (n : ℕ). n) k 16 in
    omega (arith, first, rest)

pub refuses-more : (size start : ℕ) (xs ys : List ℕ) (full : Refusal) → IsFirstRefused size start xs full → IsFirstRefused size start (xs ++ ys) full
refuses-more size start xs ys full is = record {
  earlier = is.earlier;
  later = is.later ++ ys;
  is = ap (λ (ns : List ℕ). ns ++ ys) is.is ∙ append_assoc is.earlier (full.asked ∷ is.later) ys;
  at_is = is.at_is;
  fits = is.fits;
  past = is.past;
  size_is = is.size_is;
}

pub refuses-after : (size start next : ℕ) (xs ys : List ℕ) (full : Refusal) → next ≡ start + sum xs → IsFirstRefused size next ys full → IsFirstRefused size start (xs ++ ys) full
refuses-after size start next xs ys full begins is = record {
  earlier = xs ++ is.earlier;
  later = is.later;
  is = ap (λ (ns : List ℕ). xs ++ ns) is.is ∙ sym (append_assoc xs is.earlier (full.asked ∷ is.later));
  at_is = let both = sum-append xs is.earlier in omega (arith, both, begins, is.at_is);
  fits = is.fits;
  past = is.past;
  size_is = is.size_is;
}

-- ---- a refused bind

part-refused : (note : Note) (k : ℕ) (r new : PlainRows) (seen after : List Event) (full : Refusal) → r.counter ≤ r.start.size → r.start.size < r.counter + (5 + 16 * k)
    → BindIsRefused note r new seen after full → IsFirstRefused r.start.size r.counter (5 ∷ parts k) full
part-refused note k r new seen after full within past (inl h) = subst (IsFirstRefused r.start.size r.counter (5 ∷ parts k)) (sym h.3) (record {
  earlier = [];
  later = parts k;
  is = refl;
  at_is = omega arith;
  fits = within;
  past = h.0;
  size_is = refl;
})
part-refused note k r new seen after full within past (inr h) =
    let g = granted r in
    let lt : granted r < k = omega (arith, h.0) in
    subst (IsFirstRefused r.start.size r.counter (5 ∷ parts k)) (sym h.3) (record {
      earlier = 5 ∷ parts g;
      later = parts (k - g - 1);
      is = ap (λ (ns : List ℕ). 5 ∷ ns) (parts-split g k lt);
      at_is = let all = sum-record g in omega (arith, all);
      fits = omega (arith, h.0);
      past = omega (arith, h.0);
      size_is = refl;
    })

-- the claims of a record are those that it needs
pub sum-claims : (bound : List Record) (space : Space) (d : Digest) → sum (record_claims (bound_in space bound) d) ≡ 5 + 16 * needed bound space d
unfolding needed
sum-claims bound space d = sum-record (new_subtries (bound_in space bound) d 62)

bind-full : (note : Note) (space : Space) (d : Digest) (r new : PlainRows) (seen after : List Event) (full : Refusal) → r.counter ≤ r.start.size → r.start.size < r.counter + (5 + 16 * needed r.bound space d)
    → BindIsRefused note r new seen after full → IsFirstRefused r.start.size r.counter (record_claims (bound_in space r.bound) d) full
unfolding needed
bind-full note space d r new seen after full within past is = part-refused note (new_subtries (bound_in space r.bound) d 62) r new seen after full within past is

pub bind-refuses : (note : Note) (space : Space) (d : Digest) (r new : PlainRows) (seen after : List Event) (e : PortError) → r.counter ≤ r.start.size
    → BindStays note (needed r.bound space d) r new seen after e → Refuses r.start.size r.counter (record_claims (bound_in space r.bound) d) e
bind-refuses note space d r new seen after Memory within h = tt
bind-refuses note space d r new seen after (Full full) within h = bind-full note space d r new seen after full within h.0 h.1

pub refuses-first : (size start : ℕ) (xs ys : List ℕ) (e : PortError) → Refuses size start xs e → Refuses size start (xs ++ ys) e
refuses-first size start xs ys Memory h = tt
refuses-first size start xs ys (Full full) h = refuses-more size start xs ys full h

pub refuses-then : (size start next : ℕ) (xs ys : List ℕ) (e : PortError) → next ≡ start + sum xs → Refuses size next ys e → Refuses size start (xs ++ ys) e
refuses-then size start next xs ys Memory begins h = tt
refuses-then size start next xs ys (Full full) begins h = refuses-after size start next xs ys full begins h

-- a claim after these that does not fit
pub last-refuses : (size start at asked n limit : ℕ) (claims : List ℕ) → at ≡ start + sum claims → asked ≡ n → limit ≡ size → at ≤ limit → limit < at + asked
    → IsFirstRefused size start (claims ++ n ∷ []) (record { at = at; asked = asked; size = limit })
last-refuses size start at asked n limit claims begins same is within past = record {
  earlier = claims;
  later = [];
  is = ap (λ (m : ℕ). claims ++ m ∷ []) (sym same);
  at_is = begins;
  fits = omega (arith, within, is);
  past = omega (arith, past, is);
  size_is = is;
}
