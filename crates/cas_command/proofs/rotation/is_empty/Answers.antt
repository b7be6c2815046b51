-- whether a region holds nothing, by its counts
use Rattle.std.proofs.Common.{◌≡◌, true, false, sym, ◌∙◌}
use Rattle.std.proofs.lemmas.Bool.{eq-eqb, eqb-true}
use Rattle.cas_command.proofs.RotationLemmas.{counts-of-nothing, holds-nothing}
use Rattle.cas_command.proofs.rotation.is_empty.Goals as goal

pub returns-then-counts-eq0-clause-empty : goal.returns-then-counts-eq0-clause-empty
returns-then-counts-eq0-clause-empty c none =
    holds-nothing _ (sym c.counts-counts.ensures.objects ∙ c.if-counts-eq0.true)
    (sym c.counts-counts.ensures.actions ∙ eqb-true c.counts-counts.result.actions 0 none)

pub returns-then-counts-eq0-clause-some : goal.returns-then-counts-eq0-clause-some
returns-then-counts-eq0-clause-some c some is =
    let clash : false ≡ true = sym some ∙ eq-eqb c.counts-counts.result.actions 0 (c.counts-counts.ensures.actions ∙ (counts-of-nothing _ is).1) in cc clash

pub returns-else-counts-eq0-clause-some : goal.returns-else-counts-eq0-clause-some
returns-else-counts-eq0-clause-some c some is =
    let clash : false ≡ true = sym some ∙ eq-eqb c.counts-counts.result.objects 0 (c.counts-counts.ensures.objects ∙ (counts-of-nothing _ is).0) in cc clash
