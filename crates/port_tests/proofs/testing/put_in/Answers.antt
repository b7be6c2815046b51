use Rattle.std.proofs.Common.{◌≡◌, Some, None}
use Rattle.std.specs.declared.option.Option.{Option}
use Rattle.std.specs.FinMap as fin
use Rattle.cas_model.specs.declared.digest.Digest.{Digest}
use Rattle.cas_model.specs.declared.upstream.NoUpstream.{NoUpstream}
use Rattle.cas_model.specs.State.{empty_state, digest_cmp}
use Rattle.cell_port.specs.Plain.{upstream_of}
use Rattle.port_tests.proofs.testing.put_in.Goals as goal

-- no upstream has no key
lacks-keys : (up : Option NoUpstream) (k : Digest) → fin.get (upstream_of (λ (n : NoUpstream). empty_state) up).cache k ≡ None
lacks-keys None k = fin.get-empty digest_cmp k
lacks-keys (Some n) k = fin.get-empty digest_cmp k

pub put-requires-clause-lacks : goal.put-requires-clause-lacks
put-requires-clause-lacks c = lacks-keys _ _
