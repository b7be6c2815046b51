use Rattle.std.proofs.Common.{◌≡◌, ℕ, ◌+◌, ◌-◌, ◌++◌, List, reverse, drop, ap, ◌∙◌, arith}
use Rattle.cas_model.specs.declared.object.Object.{Object}
use Rattle.cas_model.specs.Tables.{record_at}
use Rattle.cell_port.specs.FilledRows.{filled_objects, row_object}
use Rattle.cell_port.specs.Shown.{contents_of}
use Rattle.cell_port.proofs.ReadBack.{row-readable, objects-more}
use Rattle.cell_port.proofs.holdings.objects.Goals as goal

pub add_object-requires-clause-readable : goal.add_object-requires-clause-readable
add_object-requires-clause-readable c = row-readable _ _ c.args.tables.now.filled (c.loop-i.i - 1) c.cell.result c.requires.rows c.cell.ensures

pub loop-i-preserved : goal.loop-i-preserved
loop-i-preserved c =
    let within = c.loop-i.invariant.0 in
    let next : c.loop-i.i ≡ c.loop-i.i - 1 + 1 = omega (arith, c.loop-i-test.true) in
    let b = c.args.tables.now.bound in
    let k = contents_of c.args.events.now.items c.args.shown.now c.args.tables.now in (
      omega arith,
      c.in_ok-add_object.ensures
          ∙ ap (λ (os : List Object). os ++ row_object b k (record_at b c.cell.result.of.at) c.cell.result.value)
          (c.loop-i.invariant.1 ∙ ap (λ (n : ℕ). reverse (filled_objects b k (drop n c.args.tables.now.filled))) next)
          ∙ objects-more b k c.args.tables.now.filled (c.loop-i.i - 1) c.cell.result c.cell.ensures,
    )
