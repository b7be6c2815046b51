-- When a new generation is due.
use Rattle.std.proofs.Common.{◌≡◌, ℕ, ◌≤◌, None, Some, ap, ◌∙◌}
use Rattle.std.specs.Prelude.{unwrap_or}
use Rattle.std.specs.declared.option.Option.{Option}
use Rattle.std.specs.FinMap as fin
use Rattle.cas_model.specs.State.{State, digest_cmp, empty_state}
use Rattle.cas_command.specs.Rotation.{IsSizeFor}

-- a state without objects and keys is the empty one
pub holds-nothing : (s : State) → fin.len s.objects ≡ 0 → fin.len s.cache ≡ 0 → s ≡ empty_state
holds-nothing s one two = λ i. record { objects = fin.empty_of_len s.objects one i; cache = fin.empty_of_len s.cache two i }

-- and the empty one has none
pub counts-of-nothing : (s : State) → s ≡ empty_state → (fin.len s.objects ≡ 0) × (fin.len s.cache ≡ 0)
counts-of-nothing s is = (ap (λ (x : State). fin.len x.objects) is ∙ fin.len-empty digest_cmp _, ap (λ (x : State). fin.len x.cache) is ∙ fin.len-empty digest_cmp _)

-- the size of a new generation lies within the limits, as the primary's does
pub size-of-next : (asked : Option ℕ) (own : ℕ) → IsSizeFor asked → 4096 ≤ own → own ≤ 67108864 → (4096 ≤ unwrap_or asked own) × (unwrap_or asked own ≤ 67108864)
size-of-next None own within least most = (least, most)
size-of-next (Some size) own within least most = within
