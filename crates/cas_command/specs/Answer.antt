-- The status and the text of each answer.
use Rattle.std.specs.Prelude.{ℕ, List, [], ◌∷◌, ◌++◌, codes}
use Rattle.std.specs.Fmt.{decimal}
use Rattle.hex.specs.Hex.{encode_lower}
use Rattle.cas_model.specs.declared.digest.Digest.{Digest}
use Rattle.cas_model.specs.declared.id.IdError.{IdError}
use Rattle.cas_model.specs.declared.place.Full.{Full as Refusal}
use Rattle.cas_model.specs.declared.id.IdError.TheVariants.{BadPrefix, BadLength, BadDigit}
use Rattle.cas_model.specs.Id.{id_text}
use Rattle.image_file.specs.declared.error.ImageError.{ImageError}
use Rattle.image_file.specs.declared.error.ImageError.TheVariants as image
use Rattle.region_check.specs.declared.flaw.FlawKind.{FlawKind}
use Rattle.region_check.specs.declared.flaw.FlawKind.TheVariants.{Header, Slot, Range, Overlap, Path, Length, Padding, Reference, Order, DigestDiffers, ActionValue, PastCounter}
use Rattle.cas_script.specs.declared.error.LineKind.{LineKind}
use Rattle.cas_script.specs.declared.error.LineKind.TheVariants.{BadVerb, BadArguments, BadId, BadData, BadReference, NoSession, TooManySessions, TooManyLines, TooManyRefs}
use Rattle.cas_command.specs.declared.answer.Answer.{Answer}
use Rattle.cas_command.specs.declared.answer.Answer.TheVariants.{Done, Missing, Usage, ReadFault, WriteFault, FolderFault, Damaged, Full, Poisoned, Dangling, BadScript, Held, TooLarge, NoMemory}
use Rattle.cas_command.specs.declared.answer.Large.TheVariants.{Data, References, Script}
use Rattle.command_line.specs.declared.refusal.UsageKind.TheVariants.{Words, Operands, BadOperand}

abbrev pub status_of : Answer → ℕ
status_of Done = 0
status_of (Missing digest) = 1
status_of (Usage kind) = 2
status_of ReadFault = 3
status_of WriteFault = 4
status_of FolderFault = 5
status_of (Damaged name error) = 6
status_of (Full full) = 7
status_of (Poisoned wanted kept) = 8
status_of (Dangling index digest) = 9
status_of (BadScript line kind) = 10
status_of Held = 11
status_of (TooLarge what number) = 12
status_of NoMemory = 70

-- a line of standard error with these words
abbrev pub line_with : List ℕ → List ℕ
line_with words = codes "llvm-cas: " ++ words ++ 10 ∷ []

-- the end of a line that says why an operand did not read
abbrev pub reason_of : IdError → List ℕ
reason_of BadPrefix = codes ": prefix" ++ 10 ∷ []
reason_of BadLength = codes ": length" ++ 10 ∷ []
reason_of (BadDigit k) = codes ": digit " ++ decimal k ++ 10 ∷ []

-- the number of a line's refusal
abbrev pub kind_number : LineKind → ℕ
kind_number BadVerb = 1
kind_number BadArguments = 2
kind_number BadId = 3
kind_number BadData = 4
kind_number BadReference = 5
kind_number NoSession = 6
kind_number TooManySessions = 7
kind_number TooManyLines = 8
kind_number TooManyRefs = 9

-- the end of a line that says why a script's line has no reading
abbrev pub kind_end : LineKind → List ℕ
kind_end kind = codes ": " ++ decimal (kind_number kind) ++ 10 ∷ []

-- the number of a flaw's kind
abbrev pub flaw_number : FlawKind → ℕ
flaw_number Header = 1
flaw_number Slot = 2
flaw_number Range = 3
flaw_number Overlap = 4
flaw_number Path = 5
flaw_number Length = 6
flaw_number Padding = 7
flaw_number Reference = 8
flaw_number Order = 9
flaw_number (DigestDiffers kept found) = 10
flaw_number ActionValue = 11
flaw_number PastCounter = 12

-- a space, and the 64 lower-case digits of a digest
abbrev pub digits_after : Digest → List ℕ
digits_after digest = 32 ∷ encode_lower digest.bytes

-- both digests, where a content has another one than its record
abbrev pub flaw_digests : FlawKind → List ℕ
flaw_digests (DigestDiffers kept found) = digits_after kept ++ digits_after found
flaw_digests kind = []

abbrev pub flaw_words : FlawKind → ℕ → List ℕ
flaw_words kind place = codes "flaw " ++ decimal (flaw_number kind) ++ codes " at " ++ decimal place ++ flaw_digests kind

-- what is wrong with an image
abbrev pub damage_words : ImageError → List ℕ
damage_words image.Long = codes "too long"
damage_words image.Short = codes "too short"
damage_words image.Ragged = codes "ragged"
damage_words (image.Sum kept found) = codes "sum" ++ digits_after kept ++ digits_after found
damage_words (image.Version version) = codes "version " ++ decimal version
damage_words (image.Flaw flaw) = flaw_words flaw.kind flaw.place
damage_words image.Memory = []

-- want of memory is no damage
abbrev pub damaged_line : ℕ → ImageError → List ℕ
damaged_line name image.Memory = []
damaged_line name error = line_with (codes "damaged v1." ++ decimal name ++ codes ": " ++ damage_words error)

-- the numbers of a refused claim
abbrev pub full_line : Refusal → List ℕ
full_line full = codes "llvm-cas: full " ++ decimal full.at ++ codes " " ++ decimal full.asked ++ codes " " ++ decimal full.size ++ 10 ∷ []

-- the line for an answer, none for `Done`
abbrev pub answer_line : Answer → List ℕ
answer_line Done = []
answer_line (Missing digest) = line_with (codes "missing " ++ id_text digest)
answer_line (Usage Words) = line_with (codes "usage: bad words")
answer_line (Usage (Operands n)) = codes "llvm-cas: usage: " ++ decimal n ++ codes " operands\n"
answer_line (Usage (BadOperand k error)) = codes "llvm-cas: usage: operand " ++ decimal k ++ reason_of error
answer_line ReadFault = line_with (codes "cannot read the input")
answer_line WriteFault = line_with (codes "cannot write the output")
answer_line FolderFault = line_with (codes "cannot use the folder")
answer_line (Damaged name error) = damaged_line name error
answer_line (Full full) = full_line full
answer_line (Poisoned wanted kept) = line_with (codes "poisoned " ++ id_text wanted ++ codes " " ++ id_text kept)
answer_line (Dangling index digest) = line_with (codes "dangling " ++ decimal index ++ codes " " ++ id_text digest)
answer_line (BadScript line kind) = codes "llvm-cas: script line " ++ decimal line ++ kind_end kind
answer_line Held = line_with (codes "the folder is in use")
answer_line (TooLarge Data number) = line_with (codes "too large: data " ++ decimal number)
answer_line (TooLarge References number) = line_with (codes "too large: references " ++ decimal number)
answer_line (TooLarge Script number) = line_with (codes "too large: script " ++ decimal number)
answer_line NoMemory = line_with (codes "no memory")
