use Rattle.std.proofs.Common.{◌≡◌, ℕ, ◌+◌, ◌-◌, List, [], drop, ap, sym, ◌∙◌, arith}
use Rattle.std.proofs.Math.Seq.{drop-length}
use Rattle.std.specs.BTreeMap.{is_at}
use Rattle.std.specs.Cmp.Lexicographic.{slice_cmp}
use Rattle.std.specs.FinMap as fin
use Rattle.std.specs.Map.{lookup}
use Rattle.std.specs.Ordering.{nat_cmp}
use Rattle.cas_model.specs.State.{digest_cmp}
use Rattle.cas_model.specs.declared.tables.Cell.{Cell}
use Rattle.cas_model.specs.Contents.{actions_map}
use Rattle.cas_model.specs.Tables.{record_at}
use Rattle.cell_port.specs.FilledRows.{filled_pairs, row_pair, value_over}
use Rattle.cell_port.proofs.PairRows.{row-value, pairs-more}
use Rattle.cell_port.proofs.pairs.values.Goals as goal

pub loop-i-init : goal.loop-i-init
loop-i-init c =
    let none : drop c.cell_count-i.result c.args.tables.now.filled ≡ [] = ap (λ (n : ℕ). drop n c.args.tables.now.filled) c.cell_count-i.ensures ∙ drop-length c.args.tables.now.filled in (
      omega (arith, c.cell_count-i.ensures),
      λ q. ap (lookup (is_at (slice_cmp nat_cmp q.bytes))) c.new-values.ensures.empty
          ∙ sym (fin.get-empty digest_cmp q)
          ∙ sym (ap (λ (cs : List Cell). fin.get (actions_map (filled_pairs c.args.tables.now.bound cs)) q) none),
    )

pub add_pair-requires : goal.add_pair-requires
add_pair-requires c = row-value _ _ c.args.tables.now.filled (c.loop-i.i - 1) c.cell.result c.requires.1 c.cell.ensures

pub loop-i-preserved : goal.loop-i-preserved
loop-i-preserved c =
    let within = c.loop-i.invariant.0 in
    let next : c.loop-i.i ≡ c.loop-i.i - 1 + 1 = omega (arith, c.loop-i-test.true) in
    let b = c.args.tables.now.bound in
    let row = row_pair b (record_at b c.cell.result.of.at) c.cell.result.value in (
      omega arith,
      λ q. c.in_ok-add_pair.ensures q
          ∙ ap (λ o. value_over row o q) (c.loop-i.invariant.1 q ∙ ap (λ (n : ℕ). fin.get (actions_map (filled_pairs b (drop n c.args.tables.now.filled))) q) next)
          ∙ pairs-more b c.args.tables.now.filled (c.loop-i.i - 1) c.cell.result q c.cell.ensures,
    )
