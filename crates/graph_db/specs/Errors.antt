-- How a port's error is answered, and what holds of an error of one kind.
use Rattle.std.specs.Prelude.{ℕ}
use Rattle.cas_model.specs.declared.digest.Digest.{Digest}
use Rattle.cas_port.specs.declared.block.PortError.{PortError}
use Rattle.cas_port.specs.declared.block.PortError.TheVariants as port
use Rattle.graph_db.specs.declared.error.StoreError.{StoreError}
use Rattle.graph_db.specs.declared.error.StoreError.TheVariants.{Dangling, Full, Memory}

abbrev pub store_error : PortError → StoreError
store_error (port.Full full) = Full full
store_error port.Memory = Memory

-- what holds of a reference that is absent
abbrev pub IfDangling : (ℕ → Digest → Type 0) → StoreError → Type 0
IfDangling P (Dangling index digest) = P index digest
IfDangling P (Full full) = Unit {0}
IfDangling P Memory = Unit {0}

-- what holds of a claim that was refused, with its numbers
abbrev pub IfFull : (ℕ → ℕ → ℕ → Type 0) → StoreError → Type 0
IfFull P (Dangling index digest) = Unit {0}
IfFull P (Full full) = P full.at full.asked full.size
IfFull P Memory = Unit {0}

-- what holds where memory was wanted
abbrev pub OnMemory : Type 0 → StoreError → Type 0
OnMemory P (Dangling index digest) = Unit {0}
OnMemory P (Full full) = Unit {0}
OnMemory P Memory = P
