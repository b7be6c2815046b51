use Rattle.std.proofs.Common.{◌≡◌, take}
use Rattle.cas_model.specs.Tables.{digests_at}
use Rattle.cell_port.proofs.holdings.read_refs.Given as goal

abbrev pub invariant-loop-place : goal.invariant-loop-place
invariant-loop-place l = l.refs.items ≡ digests_at l.tables.bound (take l.place-index l.places)
