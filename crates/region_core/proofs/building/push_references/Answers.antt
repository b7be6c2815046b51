use Rattle.std.proofs.Common.{◌≡◌, take, ap, ◌∙◌, subst, arith, List, length}
use Rattle.std.proofs.Math.Seq.{take-length}
use Rattle.cas_model.specs.declared.digest.Digest.{Digest}
use Rattle.region_core.specs.Builds.{HasPlaces}
use Rattle.region_core.proofs.Pushing.{places_none, region_kept, region_there, reference_found, places_more}
use Rattle.region_core.proofs.building.push_references.Goals as goal

pub loop-reference-init : goal.loop-reference-init
loop-reference-init c = places_none (take c.args.end c.args.words.now.items) c.args.words.now.items

pub look-requires : goal.look-requires
look-requires c =
    let same = region_kept c.args.end c.args.words.now.items c.loop-reference.words.items (take c.loop-reference.reference-index c.args.refs.now) c.requires.end c.loop-reference.invariant in
    region_there (take c.args.end c.args.words.now.items) (take c.args.end c.deref.result.now) c.args.refs.now (ap (take c.args.end) c.deref.ensures.value ∙ same) c.requires.references

pub unreachable-requires : goal.unreachable-requires
unreachable-requires c =
    let same = region_kept c.args.end c.args.words.now.items c.loop-reference.words.items (take c.loop-reference.reference-index c.args.refs.now) c.requires.end c.loop-reference.invariant in
    reference_found (take c.args.end c.args.words.now.items) (take c.args.end c.deref.result.now) c.args.refs.now c.loop-reference.reference-index (ap (take c.args.end) c.deref.ensures.value ∙ same) c.requires.references c.loop-reference-test.true c.in-None.ensures

pub loop-reference-preserved : goal.loop-reference-preserved
loop-reference-preserved c =
    let same = region_kept c.args.end c.args.words.now.items c.loop-reference.words.items (take c.loop-reference.reference-index c.args.refs.now) c.requires.end c.loop-reference.invariant in
    places_more (take c.args.end c.args.words.now.items) (take c.args.end c.deref.result.now) c.args.words.now.items c.loop-reference.words.items c.push.new.self.items c.args.refs.now c.loop-reference.reference-index c.in-Some.place.at
    (ap (take c.args.end) c.deref.ensures.value ∙ same) c.loop-reference.invariant c.loop-reference-test.true c.in-Some.ensures c.in_ok-push-in-Some.ensures.items

pub returns-clause-places : goal.returns-clause-places
returns-clause-places c =
    let all : take c.loop-reference.reference-index c.args.refs.now ≡ c.args.refs.now = ap (λ n. take n c.args.refs.now) (let e : c.loop-reference.reference-index ≡ length c.args.refs.now = omega (arith, c.loop-reference-test.false) in e) ∙ take-length c.args.refs.now in
    subst (λ (refs : List Digest). HasPlaces (take c.args.end c.args.words.now.items) c.args.words.now.items c.loop-reference.words.items refs) all c.loop-reference.invariant
