use Rattle.std.proofs.Common.{◌≡◌, ◌+◌, length}
use Rattle.cas_model.specs.Content.{content_words}
use Rattle.cas_port.specs.Calls.{IsLawful}
use Rattle.cas_port.specs.View.{tables}
use Rattle.graph_db.specs.Stores.{object_with}
use Rattle.graph_db.specs.Storing.{Writes, partly, places_in}
use Rattle.graph_db.proofs.storing.write_content.Given as goal

-- the head word and the places of the first i references are written
abbrev pub invariant-loop-i : goal.invariant-loop-i
invariant-loop-i g l = record {
  writes : Writes l.fn.who (object_with l.refs l.«data») (g.P.CellPort.view l.fn.port) (g.P.CellPort.view l.port) l.fn.block (partly (l.i + 1) (content_words (places_in (tables (g.P.CellPort.view l.fn.port)) l.refs) l.«data»));
  lawful : IsLawful (g.P.CellPort.view l.fn.port) (g.P.CellPort.view l.port);
  same : l.block ≡ l.fn.block;
}

-- these, and the first words of the data
abbrev pub invariant-loop-index : goal.invariant-loop-index
invariant-loop-index g l = record {
  writes : Writes l.fn.who (object_with l.refs l.«data») (g.P.CellPort.view l.fn.port) (g.P.CellPort.view l.port) l.fn.block (partly (length l.refs + 1 + l.index) (content_words (places_in (tables (g.P.CellPort.view l.fn.port)) l.refs) l.«data»));
  lawful : IsLawful (g.P.CellPort.view l.fn.port) (g.P.CellPort.view l.port);
  same : l.block ≡ l.fn.block;
}
