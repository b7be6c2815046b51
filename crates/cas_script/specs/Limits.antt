-- The limits of a script that was read.
use Rattle.std.specs.Prelude.{ℕ, ◌≤◌, List, length}
use Rattle.std.specs.List.{AllByRecursion}
use Rattle.cas_model.specs.declared.digest.Digest.{Digest}
use Rattle.cas_script.specs.declared.script.Line.{Line}
use Rattle.cas_script.specs.declared.script.Line.TheVariants.{Store, Load, Put, Get, Act}
use Rattle.cas_script.specs.declared.script.Session.{Session}
use Rattle.cas_script.specs.declared.script.Script.{Script}

-- an object of so many references and so much data can be stored
pub record FitsObject (refs : List Digest) (bytes : List ℕ) : Type 0 where
  pub few : length refs ≤ 65535
  pub short : length bytes ≤ 16777215

-- the object of a line that stores one can be stored
abbrev pub FitsLine : Line → Type 0
FitsLine (Store refs bytes) = FitsObject refs bytes
FitsLine (Load digest) = Unit {0}
FitsLine (Put key value) = Unit {0}
FitsLine (Get key) = Unit {0}
FitsLine (Act key refs bytes) = FitsObject refs bytes

pub record FitsSession (session : Session) : Type 0 where
  pub few : length session.lines ≤ 65536
  pub each : AllByRecursion FitsLine session.lines

pub record FitsScript (script : Script) : Type 0 where
  pub few : length script.sessions ≤ 64
  pub each : AllByRecursion FitsSession script.sessions
