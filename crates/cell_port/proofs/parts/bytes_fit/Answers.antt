use Rattle.std.proofs.Common.{arith}
use Rattle.cell_port.proofs.ContentWords.{are-bytes}
use Rattle.cell_port.proofs.parts.bytes_fit.Goals as goal

pub returns : goal.returns
returns c = are-bytes c.args.data.now (λ i. omega (arith, c.type_inv.data i))
