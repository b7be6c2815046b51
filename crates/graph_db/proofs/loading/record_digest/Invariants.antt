use Rattle.std.proofs.Common.{◌≡◌, ◌*◌, take, length}
use Rattle.cas_model.specs.Tables.{digest_at}
use Rattle.cas_port.specs.View.{tables}
use Rattle.graph_db.proofs.loading.record_digest.Given as goal

-- eight bytes a word were read
abbrev pub invariant-loop-i : goal.invariant-loop-i
invariant-loop-i g l = record {
  same : g.P.CellPort.view l.port ≡ g.P.CellPort.view l.fn.port;
  long : length l.bytes ≡ 32;
  read : take (8 * l.i) l.bytes ≡ take (8 * l.i) (digest_at (tables (g.P.CellPort.view l.fn.port)).bound l.record_.at).bytes;
}
