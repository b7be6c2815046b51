use Rattle.std.proofs.Common.{arith}
use Rattle.generations.proofs.ChainLemmas.{passed, name-raised, name-inserted, name-stayed}
use Rattle.generations.proofs.chain.Chain.with.Goals as goal
use Rattle.generations.proofs.chain.Chain.with.Goals.{else-number-primary-2-via-then-number-primary-2+else-number-unwrap_or, else-number-primary-2-via-else-number-primary-2}

pub returns-in_default : goal.returns-in_default
returns-in_default c = λ names h. passed names c.args.name.now _ _ c.in_default.ensures.none h

pub returns-then-number-primary : goal.returns-then-number-primary
returns-then-number-primary c = λ names h. name-raised names c.args.name.now c.in-Some.number c.in-Some.ensures.found _ _ h (omega arith)

pub returns-then-number-unwrap_or : goal.returns-then-number-unwrap_or
returns-then-number-unwrap_or c = λ names h. name-inserted names c.args.name.now c.in-Some.number c.in-Some.ensures.found _ _ h (omega arith) (omega arith)

pub returns-else-number-primary-2 : goal.returns-else-number-primary-2
returns-else-number-primary-2 c = λ names h.
    name-stayed names c.args.name.now c.in-Some.number c.in-Some.ensures.found _ _ h (omega arith)
    (λ below. elim c.else-number-primary-2.branch [
      | else-number-primary-2-via-then-number-primary-2+else-number-unwrap_or w ↦ omega arith
      | else-number-primary-2-via-else-number-primary-2 w ↦ omega arith
    ])
