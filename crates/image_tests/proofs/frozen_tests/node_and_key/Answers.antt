use Rattle.std.proofs.Common.{arith, refl}
use Rattle.frozen_store.proofs.Samples.{node_lawful}
use Rattle.image_tests.proofs.frozen_tests.node_and_key.Goals as goal

pub returns : goal.returns
returns c = node_lawful c.of-a.result c.of-b.result c.of-node.result _ _ _ c.of-a.ensures c.of-b.ensures c.of-node.ensures c.if-eq.ensures c.if-eq-2.ensures c.if-eq-3.ensures _ _ c.in_ok-one.one c.in_ok-two.two c.in_ok-three.three _ c.in_ok-from_array.ensures.items c.in_ok-from_array-2.ensures.items c.in_ok-one.ensures.refs c.in_ok-two.ensures.refs c.in_ok-three.ensures.refs c.in_ok-one.ensures.bytes c.in_ok-two.ensures.bytes c.in_ok-three.ensures.bytes (omega arith) (omega arith) (omega arith) refl
