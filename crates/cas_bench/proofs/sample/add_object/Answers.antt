use Rattle.std.proofs.Common.{sym, ap, subst, ◌∙◌}
use Rattle.cas_model.specs.Object.{digest_of}
use Rattle.cas_model.specs.State.{digest_cmp}
use Rattle.std.specs.BTreeMap.{is_at}
use Rattle.std.specs.BTreeSet.{contains}
use Rattle.cas_model.specs.declared.digest.Digest.{Digest}
use Rattle.cas_bench.specs.Samples.{IsSample}
use Rattle.cas_bench.proofs.Adding.{sample_more, cond_on, not_there}
use Rattle.cas_bench.proofs.sample.add_object.Goals as goal

pub returns-in_ok-push : goal.returns-in_ok-push
returns-in_ok-push c =
    let o = c.args.object in
    let short = c.requires.short in
    let sample = sample_more o c.requires.refs (short) (contains digest_cmp c.args.known.now) (contains digest_cmp c.insert.new.self) c.args.objects.now.items c.requires.sample in
    let is = c.of-digest.ensures ∙ (ap (λ rs. digest_of rs c.list-2.result.now) c.list.ensures ∙ ap (digest_of o.refs) c.list-2.ensures) in
    let updates = c.in_ok-added.ensures.updates in
    let on = λ (q : Digest). cond_on (is_at (digest_cmp c.of-digest.result) q) (contains digest_cmp c.args.known.now q) (contains digest_cmp c.insert.new.self q) (updates.0 q) in
    let fresh = not_there (contains digest_cmp c.args.known.now c.of-digest.result) c.in_ok-added.added c.in_ok-added.ensures.added c.if-added.true in
    subst (IsSample (contains digest_cmp c.insert.new.self)) (sym c.in_ok-push.ensures.items) (sample (ap (contains digest_cmp c.args.known.now) (sym is) ∙ fresh) (ap (contains digest_cmp c.insert.new.self) (sym is) ∙ updates.1) on)
