-- Which error tells the first claim that is refused.
use Rattle.std.specs.Prelude.{ℕ, List}
use Rattle.cas_model.specs.Claims.{IsFirstRefused}
use Rattle.cas_port.specs.declared.block.PortError.{PortError}
use Rattle.cas_port.specs.declared.block.PortError.TheVariants.{Full, Memory}

-- the error tells the first claim that is refused, or that memory was wanted
abbrev pub Refuses : ℕ → ℕ → List ℕ → PortError → Type 0
Refuses size start claims (Full full) = IsFirstRefused size start claims full
Refuses size start claims Memory = Unit {0}
