-- The tables at the end of a run, from which another may start.
use Rattle.std.specs.Prelude.{[], min}
use Rattle.cas_model.specs.Tables.{Tables}

-- the claims are forgotten, the counter is at most the size, and all words below it are the next start's
abbrev pub ended : Tables → Tables
ended s = record s { counter = min s.counter s.size; given = min s.counter s.size; claims = [] }
