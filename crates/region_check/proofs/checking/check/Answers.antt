use Rattle.std.proofs.Common.{ℕ, List, subst}
use Rattle.std.specs.declared.option.Option.{Option}
use Rattle.std.specs.Prelude.{MatchOption}
use Rattle.frozen_store.specs.Seen.{HasState}
use Rattle.region_check.specs.declared.flaw.Flaw.{Flaw}
use Rattle.region_check.specs.Flaws.{IsFirstFlaw}
use Rattle.region_check.proofs.Denied.{flaw_denied}
use Rattle.region_check.proofs.checking.check.Goals as goal

pub returns-in-Some-clause-refused : goal.returns-in-Some-clause-refused
returns-in-Some-clause-refused c =
    let there = subst (λ (o : Option Flaw). MatchOption o (HasState c.as_slice.result.now) (λ flaw. IsFirstFlaw c.as_slice.result.now flaw)) c.in-Some.is c.in_ok-flaw.ensures in
    let first = subst (λ (ws : List ℕ). IsFirstFlaw ws c.in-Some.flaw) c.as_slice.ensures.value there in
    (first, λ size state stands. flaw_denied c.args.words.items size state stands c.in-Some.flaw.kind c.in-Some.flaw.place first.here)
