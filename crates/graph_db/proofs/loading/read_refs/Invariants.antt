use Rattle.std.proofs.Common.{◌≡◌, take}
use Rattle.cas_model.specs.Content.{content_places}
use Rattle.cas_model.specs.Tables.{digests_at}
use Rattle.cas_port.specs.View.{tables}
use Rattle.graph_db.specs.Storing.{content_at}
use Rattle.graph_db.proofs.loading.read_refs.Given as goal

-- the first references were read
abbrev pub invariant-loop-i : goal.invariant-loop-i
invariant-loop-i g l = record {
  same : g.P.CellPort.view l.port ≡ g.P.CellPort.view l.fn.port;
  read : l.refs.items ≡ digests_at (tables (g.P.CellPort.view l.fn.port)).bound (take l.i (content_places (content_at (tables (g.P.CellPort.view l.fn.port)) l.content.at)));
}
