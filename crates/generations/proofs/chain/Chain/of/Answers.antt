use Rattle.std.proofs.Common.{◌≡◌, ◌<◌, ◌≤◌, [], ◌∷◌, ◌++◌, length, take, get_or, ap, sym, ◌∙◌, subst, arith}
use Rattle.std.proofs.lemmas.List.{take_more, take_all}
use Rattle.generations.specs.Chain.{AreTwoHighest, IsListed}
use Rattle.generations.proofs.chain.Chain.of.Goals as goal

pub loop-name-preserved : goal.loop-name-preserved
loop-name-preserved c =
    let i = c.loop-name.name-index in
    let names = c.args.names.now in
    let below : i < length names = omega arith in
    let here : c.list.result.now ≡ get_or names i c.name-item.result = c.list.ensures ∙ c.name-item.is in
    subst (λ ns. AreTwoHighest (IsListed ns) c.with-chain.result.primary c.with-chain.result.upstream)
    (ap (λ x. take i names ++ x ∷ []) here ∙ sym (take_more names i c.name-item.result below)) (c.with-chain.ensures (take i names) c.loop-name.invariant)

pub returns : goal.returns
returns c =
    let all : length c.args.names.now ≤ c.loop-name.name-index = omega arith in
    subst (λ ns. AreTwoHighest (IsListed ns) c.loop-name.chain.primary c.loop-name.chain.upstream) (take_all c.loop-name.name-index c.args.names.now all) c.loop-name.invariant
