use Rattle.cell_port.proofs.IndexDigests.{digests-undone}
use Rattle.cell_port.proofs.index.Index.bind.Goals as goal

pub returns-then-is_err-clause-err_digests : goal.returns-then-is_err-clause-err_digests
returns-then-is_err-clause-err_digests c = digests-undone c.args.self.now c.put_place.new.self c.take_place.new.self c.insert.new.self c.args.record_ c.in_ok-put_place.ensures.ok_digests c.take_place.ensures.digests
