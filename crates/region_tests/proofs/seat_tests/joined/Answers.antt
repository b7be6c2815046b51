use Rattle.std.proofs.Common.{◌≡◌, suc, List, All, ◌∙◌, subst, arith}
use Rattle.region_tests.proofs.seat_tests.joined.Goals as goal

pub loop-seat-preserved : goal.loop-seat-preserved
loop-seat-preserved c = (
  tt,
  tt,
  c.join-first.ensures.own ∙ c.loop-seat.invariant.2,
  (λ k d low. let all = subst (λ (l : List _). All (λ s. s.table_id ≡ c.args.region.now.table_id) l) c.in-Some.ensures.steps.0 c.loop-seat.invariant.3 in all (suc k) d (omega arith)),
)
