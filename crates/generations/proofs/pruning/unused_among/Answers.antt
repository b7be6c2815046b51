use Rattle.std.proofs.Common.{◌≡◌, ◌<◌, ◌≤◌, unwrap_or, [], ◌∷◌, ◌++◌, length, take, get_or, ap, sym, ◌∙◌, subst, arith}
use Rattle.std.proofs.lemmas.List.{take_more, take_all}
use Rattle.generations.proofs.PruningLemmas.{Gathered, gathered-more, gathered-none, gathered-passed, sorted-numbers}
use Rattle.generations.proofs.pruning.unused_among.Goals as goal
use Rattle.generations.proofs.pruning.unused_among.Goals.{in-Some+in_ok-push, in_default}

pub loop-name-init : goal.loop-name-init
loop-name-init c =
    let bound = unwrap_or c.of-chain.result.upstream 0 in
    subst (Gathered [] bound) (sym c.new-numbers.ensures.items) (gathered-none bound)

pub loop-name-preserved : goal.loop-name-preserved
loop-name-preserved c =
    let i = c.loop-name.name-index in
    let names = c.args.names.now in
    let bound = unwrap_or c.of-chain.result.upstream 0 in
    let below : i < length names = omega arith in
    let here : c.list.result.now ≡ get_or names i c.name-item.result = c.list.ensures ∙ c.name-item.is in
    subst (λ ns. Gathered ns bound c.match-unused.numbers.items) (ap (λ x. take i names ++ x ∷ []) here ∙ sym (take_more names i c.name-item.result below))
    (elim c.match-unused.branch [
      | in-Some+in_ok-push w ↦
          subst (Gathered (take i names ++ c.list.result.now ∷ []) bound) (sym (ap (λ v. v.items) w.numbers-is ∙ w.in_ok-push.ensures.items))
          (gathered-more (take i names) c.list.result.now bound c.loop-name.numbers.items w.in-Some.number c.loop-name.invariant w.in-Some.ensures.found w.in-Some.ensures.below)
      | in_default w ↦
          subst (Gathered (take i names ++ c.list.result.now ∷ []) bound) (sym (ap (λ v. v.items) w.numbers-is))
          (gathered-passed (take i names) c.list.result.now bound c.loop-name.numbers.items c.loop-name.invariant w.in_default.ensures.none)
    ])

pub returns : goal.returns
returns c =
    let all : length c.args.names.now ≤ c.loop-name.name-index = omega arith in
    let bound = unwrap_or c.of-chain.result.upstream 0 in
    sorted-numbers c.args.names.now c.of-chain.result.primary c.of-chain.result.upstream c.loop-name.numbers.items _ c.of-chain.ensures
    (subst (λ ns. Gathered ns bound c.loop-name.numbers.items) (take_all c.loop-name.name-index c.args.names.now all) c.loop-name.invariant) c.sort_unstable.ensures.permutation c.sort_unstable.ensures.sorted
