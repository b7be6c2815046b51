-- Files in memory, as a finite map.
use Rattle.std.specs.Prelude.{ℕ, List, map}
use Rattle.std.specs.declared.vec.Vec.{Vec}
use Rattle.std.specs.declared.alloc.Global.{Global}
use Rattle.std.specs.FinMap as fin
use Rattle.cas_outside.specs.Folder.{Files}

-- a name and its bytes
abbrev pub file_of : Vec ℕ Global × Vec ℕ Global → List ℕ × List ℕ
file_of e = (e.0.items, e.1.items)

-- the files that the entries name
abbrev pub files_of : List (Vec ℕ Global × Vec ℕ Global) → Files
files_of es = fin.from_entries (map file_of es)
