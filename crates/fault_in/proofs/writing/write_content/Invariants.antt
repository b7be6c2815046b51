use Rattle.std.proofs.Common.{◌≡◌, ◌+◌, length}
use Rattle.cas_model.specs.Content.{content_words}
use Rattle.cas_port.specs.Calls.{IsLawful}
use Rattle.graph_db.specs.Storing.{partly}
use Rattle.fault_in.specs.Bringing.{HasWords}
use Rattle.fault_in.proofs.writing.write_content.Given as goal

-- the head word and the places of the first i references are written
abbrev pub invariant-loop-i : goal.invariant-loop-i
invariant-loop-i g l = record {
  words : HasWords l.fn.who (g.P.CellPort.view l.fn.port) (g.P.CellPort.view l.port) l.fn.block (partly (l.i + 1) (content_words l.places l.«data»));
  lawful : IsLawful (g.P.CellPort.view l.fn.port) (g.P.CellPort.view l.port);
  same : l.block ≡ l.fn.block;
}

-- these, and the first words of the data
abbrev pub invariant-loop-index : goal.invariant-loop-index
invariant-loop-index g l = record {
  words : HasWords l.fn.who (g.P.CellPort.view l.fn.port) (g.P.CellPort.view l.port) l.fn.block (partly (length l.places + 1 + l.index) (content_words l.places l.«data»));
  lawful : IsLawful (g.P.CellPort.view l.fn.port) (g.P.CellPort.view l.port);
  same : l.block ≡ l.fn.block;
}
