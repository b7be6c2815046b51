-- Why words are refused.
use Rattle.std.specs.Prelude.{List, String}
use Rattle.std.specs.declared.alloc.Global.{Global}
use Rattle.command_line.specs.declared.command.Options.{Options}
use Rattle.command_line.specs.declared.command.Verb.{Verb}
use Rattle.command_line.specs.declared.refusal.UsageKind.{UsageKind}
use Rattle.command_line.specs.declared.refusal.UsageKind.TheVariants.{Words, Operands, BadOperand}
use Rattle.command_line.specs.declared.refusal.WordsError.{WordsError}
use Rattle.command_line.specs.declared.refusal.WordsError.TheVariants.{Usage, TooManyReferences, Memory}
use Rattle.command_line.specs.Words.{IsFirstBad, Names, NameNone, HaveWrongCount, HaveBadOperand, HaveTooMany}

-- the words are no command, for this reason
abbrev pub IsBadUsage : List (String Global) → UsageKind → Type 0
IsBadUsage words Words = NameNone words
IsBadUsage words (Operands n) = HaveWrongCount words n
IsBadUsage words (BadOperand k error) = HaveBadOperand words k error

-- the words name a command, with these operands and options or with others
abbrev pub NameSome : List (String Global) → Type 0
NameSome words = (verb : Verb) × (operands : List (String Global)) × (options : Options) × Names words verb operands options

-- the words are refused for this reason. Memory is wanted only for operands
abbrev pub AreRefused : List (String Global) → WordsError → Type 0
AreRefused words (Usage kind) = IsBadUsage words kind
AreRefused words (TooManyReferences number) = HaveTooMany words number
AreRefused words Memory = NameSome words

-- ---- on the way

-- why the operands of this command did not read
abbrev pub OperandsRefused : Verb → List (String Global) → WordsError → Type 0
OperandsRefused verb operands (Usage (BadOperand k error)) = IsFirstBad verb operands k error
OperandsRefused verb operands Memory = Unit {0}
OperandsRefused verb operands error = ⊥
