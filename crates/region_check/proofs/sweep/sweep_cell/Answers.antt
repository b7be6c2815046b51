use Rattle.std.proofs.Common.{◌≡◌, ◌-◌, get_or, true, false, refl, subst, inl, inr, arith}
use Rattle.region_core.specs.Leads.{length_told}
use Rattle.region_check.specs.Sweep.{BlockMarked}
use Rattle.region_check.proofs.Sweeping.{cell_reached, cell_outside, content_ends, size_back, no_cell}
use Rattle.region_check.proofs.sweep.sweep_cell.Goals.{then-place-lt520-via-then-place-lt520, then-place-lt520-via-else-place-lt520+then-place-words}
use Rattle.region_check.proofs.sweep.sweep_cell.Goals as goal

pub mark_block-requires-clause-inside : goal.mark_block-requires-clause-inside
mark_block-requires-clause-inside c =
    let ends = content_ends c.args.words.now (get_or c.args.words.now c.args.cell 0) (λ bad. let clash : false ≡ true = c.if-is_too_long.ensures.1 bad in cc) in
    omega (arith, ends, c.end_of-end.ensures, c.requires.roles.long)

pub returns-then-roles-cell-eq0 : goal.returns-then-roles-cell-eq0
returns-then-roles-cell-eq0 c = inl (inr (refl, refl, no_cell c.args.words.now c.args.roles.now c.args.cell c.requires.roles c.if-roles-cell-eq0.true))

pub returns-then-place-lt520 : goal.returns-then-place-lt520
returns-then-place-lt520 c = inl (inr (
  refl,
  refl,
  cell_outside c.args.words.now c.args.cell (get_or c.args.words.now c.args.cell 0) refl (elim c.then-place-lt520.branch [
    | then-place-lt520-via-then-place-lt520 w ↦ inl (omega (arith, w.if-place-lt520.true))
    | then-place-lt520-via-else-place-lt520+then-place-words w ↦ inr (omega (arith, w.if-place-words.true))
  ]),
))

pub returns-then-is_too_long : goal.returns-then-is_too_long
returns-then-is_too_long c =
    let z = cell_reached c.args.words.now c.args.roles.now c.args.cell (get_or c.args.words.now c.args.cell 0) c.requires.roles c.if-roles-cell-eq0.false refl (omega (arith, c.if-place-lt520.false)) (omega (arith, c.if-place-words.false)) in
    inr (refl, (get_or c.args.words.now c.args.cell 0, (z.0, z.2, c.if-is_too_long.ensures.0 refl)))

pub returns : goal.returns
returns c =
    let z = cell_reached c.args.words.now c.args.roles.now c.args.cell (get_or c.args.words.now c.args.cell 0) c.requires.roles c.if-roles-cell-eq0.false refl (omega (arith, c.if-place-lt520.false)) (omega (arith, c.if-place-words.false)) in
    let size : c.end_of-end.result - get_or c.args.words.now c.args.cell 0 ≡ length_told (get_or c.args.words.now (get_or c.args.words.now c.args.cell 0) 0) = size_back (get_or c.args.words.now c.args.cell 0) (length_told (get_or c.args.words.now (get_or c.args.words.now c.args.cell 0) 0)) c.end_of-end.result c.end_of-end.ensures in
    inl (inl (get_or c.args.words.now c.args.cell 0, length_told (get_or c.args.words.now (get_or c.args.words.now c.args.cell 0) 0), (z.0, z.1, z.2, refl), subst (λ n. BlockMarked c.args.roles.now c.mark_block.new.roles (get_or c.args.words.now c.args.cell 0) n c.mark_block.result) size c.mark_block.ensures))
