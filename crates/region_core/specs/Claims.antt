-- Which error tells the first claim that is refused.
use Rattle.std.specs.Prelude.{ℕ, List}
use Rattle.cas_model.specs.Claims.{IsFirstRefused}
use Rattle.region_core.specs.declared.insertion.BuildError.{BuildError}
use Rattle.region_core.specs.declared.insertion.BuildError.TheVariants as errors

-- the error tells the first claim that is refused, or that there is no memory
abbrev pub Refuses : ℕ → ℕ → List ℕ → BuildError → Type 0
Refuses size start claims (errors.Full full) = IsFirstRefused size start claims full
Refuses size start claims errors.Memory = Unit {0}
