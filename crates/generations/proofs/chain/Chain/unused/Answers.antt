use Rattle.std.proofs.Common.{arith}
use Rattle.generations.proofs.NameLemmas.{named-once}
use Rattle.generations.proofs.chain.Chain.unused.Goals as goal

pub returns-else-number-unwrap_or-clause-none : goal.returns-else-number-unwrap_or-clause-none
returns-else-number-unwrap_or-clause-none c = λ number is.
    let same = named-once number c.in_ok-number.number c.args.name.now is c.in_ok-number.ensures.found in
    omega (arith, same)
