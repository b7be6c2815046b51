use Rattle.std.proofs.Common.{arith, refl}
use Rattle.region_tests.proofs.Samples.{two_lawful}
use Rattle.region_tests.proofs.closing_tests.two_and_key.Goals as goal

pub returns : goal.returns
returns c = two_lawful c.of-a.result c.of-b.result _ _ c.of-a.ensures c.of-b.ensures c.if-eq.ensures _ _ c.in_ok-one.one c.in_ok-two.two _ c.in_ok-from_array.ensures.items c.in_ok-from_array-2.ensures.items c.in_ok-one.ensures.refs c.in_ok-two.ensures.refs c.in_ok-one.ensures.bytes c.in_ok-two.ensures.bytes (omega arith) (omega arith) refl
