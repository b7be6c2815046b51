use Rattle.cell_port.specs.Parts.{StoresObjects, PutsPairs}
use Rattle.cell_port.proofs.parts.store_contents.Given as goal

abbrev pub invariant-loop-i : goal.invariant-loop-i
invariant-loop-i l = StoresObjects l.fn.size l.contents.objects.items l.i l.tables

abbrev pub invariant-loop-i-2 : goal.invariant-loop-i-2
invariant-loop-i-2 l = PutsPairs l.fn.size l.contents.objects.items l.contents.actions.items l.i l.tables
