-- no upstream has nothing
use Rattle.std.proofs.Common.{◌≡◌, true, false, Some, None, is_some, sym, ap, ◌∙◌}
use Rattle.std.specs.declared.option.Option.{Option}
use Rattle.std.specs.FinMap as fin
use Rattle.cas_model.specs.declared.digest.Digest.{Digest}
use Rattle.cas_model.specs.declared.upstream.NoUpstream.{NoUpstream}
use Rattle.cas_model.specs.State.{has, empty_state, digest_cmp}
use Rattle.cell_port.specs.Plain.{upstream_of}
use Rattle.port_tests.proofs.testing.store_in.Goals as goal

apart : true ≡ false → ⊥
apart h = cc h

lacks-all : (up : Option NoUpstream) (d : Digest) → has (upstream_of (λ (n : NoUpstream). empty_state) up) d ≡ true → ⊥
lacks-all None d h = apart (sym h ∙ ap is_some (fin.get-empty digest_cmp d))
lacks-all (Some n) d h = apart (sym h ∙ ap is_some (fin.get-empty digest_cmp d))

pub store-requires-clause-brought : goal.store-requires-clause-brought
store-requires-clause-brought c = λ h. absurd (lacks-all _ _ h)
