-- what bringing in the references leaves
use Rattle.std.proofs.Common.{option_copied}
use Rattle.unified_cas.specs.Upstream.{upstream_state}
use Rattle.std.proofs.lemmas.Option.{slice_get-get_or}
use Rattle.graph_db.proofs.Steps.{err-made}
use Rattle.unified_cas.proofs.StoresOver.{brings-early, brings-more}
use Rattle.unified_cas.proofs.storing.bring_refs.Goals as goal

pub returns-in_err-bring_tree-clause-err : goal.returns-in_err-bring_tree-clause-err
returns-in_err-bring_tree-clause-err g c =
    err-made _ _ _ c.from_residual.ensures.1
    (brings-early c.args.who c.args.refs.now _ _ _ _ (slice_get-get_or _ _ _ c.loop-digest-test.true) c.loop-digest.invariant c.requires.missed _ _ c.requires.visible c.bring_tree.ensures.lawful c.in_err-bring_tree.ensures.err)

pub loop-digest-preserved : goal.loop-digest-preserved
loop-digest-preserved g c =
    brings-more c.args.who c.args.refs.now _ _ _ _ (slice_get-get_or _ _ _ c.loop-digest-test.true) c.loop-digest.invariant c.requires.missed _ _ _ (upstream_state (option_copied c.args.up)) c.requires.upstream c.requires.visible
    c.bring_tree.ensures.lawful c.bring_tree.ensures.lacks c.in_ok-bring_tree.was c.in_ok-bring_tree.ensures.ok
