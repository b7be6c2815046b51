-- What the system's files answer: the lock on one of them, and the names of a folder.
use Rattle.std.specs.Prelude.{◌≡◌, List, ◌∷◌, ◌++◌, ℕ, All, IsErr, true, Some, None}
use Rattle.std.specs.declared.option.Option.{Option}
use Rattle.std.specs.declared.result.Result.{Result}
use Rattle.std.specs.declared.result.Result.TheVariants.{Ok, Err}
use Rattle.std.specs.declared.fs.File.{File}
use Rattle.std.specs.declared.fs.TryLockError.{TryLockError}
use Rattle.std.specs.declared.fs.TryLockError.TheVariants.{Error, WouldBlock}
use Rattle.cas_outside.specs.declared.folder.FolderError.{FolderError}
use Rattle.cas_outside.specs.MemFolder.{is_free_name}

-- the path of a name in a folder, behind a slash
abbrev pub path_in : List ℕ → List ℕ → List ℕ
path_in dir name = dir ++ 47 ∷ name

-- a file that was locked is the answer, a lock that another holds is answered by none, and the rest is an error
abbrev pub LockAnswers : File → Result (Unit {0}) TryLockError → Result (Option File) FolderError → Type 0
LockAnswers file (Ok x) result = result ≡ Ok (Some file)
LockAnswers file (Err WouldBlock) result = result ≡ Ok None
LockAnswers file (Err (Error error)) result = IsErr result

-- no name in the list is one of the folder's own two
abbrev pub ListsFreeNames : List (List ℕ) → Type 0
ListsFreeNames names = All (λ name. is_free_name name ≡ true) names
