use Rattle.std.proofs.Common.{sym, subst}
use Rattle.cas_port.specs.Calls.{HasWord}
use Rattle.cas_port.specs.View.{View}
use Rattle.port_tests.proofs.plain_tests.words_at.Goals as goal

pub word-requires : goal.word-requires
word-requires g c =
    subst (λ (v : View). HasWord v c.args.place c.loop-index.index) (sym c.loop-index.invariant) (c.requires c.loop-index.index c.loop-index-test.true)
