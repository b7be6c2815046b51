-- The workload: eight sessions that share headers and repeat one another's work, as a function of a number of rounds.
use Rattle.std.specs.Prelude.{ℕ, ◌+◌, ◌*◌, ◌%◌, List, [], ◌++◌, map, codes, decimal}
use Rattle.std.specs.List.{range_with_len}
use Rattle.cas_model.specs.declared.digest.Digest.{Digest}
use Rattle.cas_model.specs.Object.{digest_of, key_digest}
use Rattle.cas_script.specs.declared.script.Line.{Line}
use Rattle.cas_script.specs.declared.script.Line.TheVariants.{Store, Act}
use Rattle.cas_script.specs.declared.script.Session.{Session}
use Rattle.cas_script.specs.declared.script.Script.{Script}
use Rattle.cas_script.specs.Parsing.{session_of}

-- the data of the header with this number
abbrev pub header_name : ℕ → List ℕ
header_name number = codes "header-" ++ decimal number

-- the line that stores it, with no references
abbrev pub header_line : ℕ → Line
header_line number = Store [] (header_name number)

-- its digest
abbrev pub header_digest : ℕ → Digest
header_digest number = digest_of [] (header_name number)

-- four headers, with which each session begins
unfoldable pub header_lines : List Line
header_lines = map header_line (range_with_len 0 4)

-- their digests
unfoldable pub header_digests : List Digest
header_digests = map header_digest (range_with_len 0 4)

-- the text of the key of the work with this number, which is also the data of its result
abbrev pub work_name : ℕ → List ℕ
work_name number = codes "work-" ++ decimal number

-- the work with this number, whose result refers to the four headers
abbrev pub work_line : ℕ → Line
work_line number = Act (key_digest (work_name number)) header_digests (work_name number)

-- the number of the work that a session does in a round
abbrev pub work_number : ℕ → ℕ → ℕ → ℕ
work_number rounds session round = (7 * session + round * round) % (2 * rounds + 1)

-- the work of a session, round by round
abbrev pub work_lines : ℕ → ℕ → ℕ → List Line
work_lines rounds session count = map (λ (round : ℕ). work_line (work_number rounds session round)) (range_with_len 0 count)

-- the session with this number: the headers, and its work in all rounds
abbrev pub work_session : ℕ → ℕ → Session
work_session rounds session = session_of (header_lines ++ work_lines rounds session rounds)

-- the sessions with the numbers 0 to 7
unfoldable pub workload_script : ℕ → Script
workload_script rounds = record { sessions = map (work_session rounds) (range_with_len 0 8) }
