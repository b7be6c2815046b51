use Rattle.std.proofs.Common.{◌≡◌, take, drop}
use Rattle.cas_model.specs.Content.{bytes_of}
use Rattle.cas_port.specs.View.{tables}
use Rattle.graph_db.specs.Storing.{content_at}
use Rattle.graph_db.proofs.loading.read_data.Given as goal

-- the first words of the data were read
abbrev pub invariant-loop-i : goal.invariant-loop-i
invariant-loop-i g l = record {
  same : g.P.CellPort.view l.port ≡ g.P.CellPort.view l.fn.port;
  read : l.bytes.items ≡ bytes_of (take l.i (drop l.begin (content_at (tables (g.P.CellPort.view l.fn.port)) l.content.at)));
}
