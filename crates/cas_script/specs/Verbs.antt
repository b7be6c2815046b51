-- The words that a line begins with, and the number of arguments of each.
use Rattle.std.specs.Prelude.{ℕ, ◌-◌, List, codes, Bool, true, false, nat_le, ◌==◌, if◌then◌else◌, Result, Ok, Err}
use Rattle.cas_script.specs.declared.verb.Verb.{Verb}
use Rattle.cas_script.specs.declared.verb.Verb.TheVariants.{Store, Load, Put, Get, Act}
use Rattle.cas_script.specs.declared.error.LineKind.{LineKind}
use Rattle.cas_script.specs.declared.error.LineKind.TheVariants.{BadArguments, TooManyRefs}

-- the word that begins a session
abbrev pub session_word : List ℕ
session_word = codes "session"

-- a line's other words
abbrev pub verb_word : Verb → List ℕ
verb_word Store = codes "store"
verb_word Load = codes "load"
verb_word Put = codes "put"
verb_word Get = codes "get"
verb_word Act = codes "act"

-- how many arguments stand before the references
abbrev pub leading : Verb → ℕ
leading Store = 1
leading Load = 1
leading Put = 2
leading Get = 1
leading Act = 2

-- whether references may follow
abbrev pub takes_refs : Verb → Bool
takes_refs Store = true
takes_refs Load = false
takes_refs Put = false
takes_refs Get = false
takes_refs Act = true

-- whether a line with this word may have so many arguments
abbrev pub fits_count : Verb → ℕ → Bool
fits_count verb count = if takes_refs verb then nat_le (leading verb) count else count == leading verb

-- the first refusal that the number of arguments gives
abbrev pub count_check : Verb → ℕ → Result (Unit {0}) LineKind
count_check verb count =
    if fits_count verb count then (if nat_le (count - leading verb) 65535 then Ok tt else Err TooManyRefs)
    else Err BadArguments
