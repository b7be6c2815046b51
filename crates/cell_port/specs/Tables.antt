-- What a plain port keeps: the tables of its start, and the rows that stand now, the newest first.
use Rattle.std.specs.Prelude.{ℕ, suc, List, [], ◌∷◌, cond, ◌==◌}
use Rattle.cas_model.specs.declared.tables.Cell.{Cell}
use Rattle.cas_model.specs.declared.tables.Content.{Content}
use Rattle.cas_model.specs.declared.tables.Record.{Record}
use Rattle.cas_model.specs.Tables.{Tables, empty_start}
use Rattle.cas_port.specs.declared.block.OpenBlock.{OpenBlock}

-- the rows at the start, and now. Places and the counter are in words
pub record PlainRows : Type 0 where
  pub start : Tables
  pub counter : ℕ
  pub bound : List Record
  pub filled : List Cell
  pub blocks : List Content

-- nothing is stored
abbrev pub empty_rows : ℕ → PlainRows
empty_rows size = record { start = empty_start size; counter = 520; bound = []; filled = []; blocks = [] }

-- the rows now, as the tables of a start
abbrev pub as_start : PlainRows → Tables
as_start r = record { size = r.start.size; counter = r.counter; given = r.counter; bound = r.bound; filled = r.filled; blocks = r.blocks; claims = [] }

-- ---- searches

-- the index of the first open block at a place, or how many open blocks there are
abbrev pub first_at : List OpenBlock → ℕ → ℕ
first_at [] place = 0
first_at (o ∷ os) place = cond (o.place == place) 0 (suc (first_at os place))
