use Rattle.std.proofs.Common.{◌≡◌, ◌+◌, ◌∷◌, [], ◌<◌, ◌≤◌, ◌∙◌, subst, arith, List, ℕ, length}
use Rattle.std.proofs.lemmas.Result.{err_from_is_err_and}
use Rattle.cas_model.specs.declared.digest.Digest.{Digest}
use Rattle.cas_model.specs.declared.object.Object.{Object}
use Rattle.cas_model.specs.declared.place.Space.TheVariants.{Objects}
use Rattle.cas_model.specs.Contents.{object_digests}
use Rattle.cas_model.specs.Object.{digest_of, object_digest}
use Rattle.cas_model.specs.Content.{content_size}
use Rattle.region_core.specs.declared.insertion.BuildError.{BuildError}
use Rattle.region_core.specs.Builds.{RefusesObject}
use Rattle.cas_model.specs.Claims.{record_claims}
use Rattle.region_core.specs.Claims.{Refuses}
use Rattle.region_core.specs.Inserts.{RefusesInsert}
use Rattle.region_core.proofs.Gathering.{ready_for, references_there, object_done, refuses_more, refused_content, object_head, building_long, cell_within}
use Rattle.region_core.proofs.building.add_object.Goals as goal

pub insert_record-requires-clause-can : goal.insert_record-requires-clause-can
insert_record-requires-clause-can c =
    let d_is : c.of-digest.result ≡ object_digest c.args.object.now = c.of-digest.ensures ∙ (λ i. digest_of (c.list.ensures i) (c.list-2.ensures i)) in
    record {
      heap = c.requires.can.heap;
      known = object_digests c.requires.can.objects;
      ready = ready_for c.requires.can.heap c.args.words.now.items c.requires.can.objects [] c.args.object.now c.of-digest.result c.requires.can.building c.requires.can.next d_is;
    }

pub push_content-requires-clause-references : goal.push_content-requires-clause-references
push_content-requires-clause-references c =
    let d_is : c.of-digest.result ≡ object_digest c.args.object.now = c.of-digest.ensures ∙ (λ i. digest_of (c.list.ensures i) (c.list-2.ensures i)) in
    let ready = ready_for c.requires.can.heap c.args.words.now.items c.requires.can.objects [] c.args.object.now c.of-digest.result c.requires.can.building c.requires.can.next d_is in
    references_there c.requires.can.heap c.args.words.now.items c.insert_record.new.words.items c.requires.can.objects [] c.args.object.now c.of-digest.result c.in_ok-owner.owner.at c.requires.can.building c.requires.can.next
    (c.in_ok-owner.ensures.inserted c.requires.can.heap (object_digests c.requires.can.objects) ready)

pub returns-clause-added : goal.returns-clause-added
returns-clause-added c = λ heap objects building next.
    let d_is : c.of-digest.result ≡ object_digest c.args.object.now = c.of-digest.ensures ∙ (λ i. digest_of (c.list.ensures i) (c.list-2.ensures i)) in
    let ready = ready_for heap c.args.words.now.items objects [] c.args.object.now c.of-digest.result building next d_is in
    let done = object_done heap objects c.args.words.now.items c.insert_record.new.words.items c.push_content.new.words.items c.args.object.now c.of-digest.result c.in_ok-owner.owner.at c.in_ok-content.content building next d_is
    (c.in_ok-owner.ensures.inserted heap (object_digests objects) ready) c.in_ok-owner.ensures.place c.in_ok-content.ensures.content c.in_ok-content.ensures.place c.in_ok-content.ensures.bytes in
    record { built = done.0; grown = done.1 }

pub returns-clause-head : goal.returns-clause-head
returns-clause-head c =
    let long = building_long c.requires.can.heap c.args.words.now.items c.requires.can.objects [] c.requires.can.building in
    let d_is : c.of-digest.result ≡ object_digest c.args.object.now = c.of-digest.ensures ∙ (λ i. digest_of (c.list.ensures i) (c.list-2.ensures i)) in
    let ready = ready_for c.requires.can.heap c.args.words.now.items c.requires.can.objects [] c.args.object.now c.of-digest.result c.requires.can.building c.requires.can.next d_is in
    let x = c.in_ok-owner.ensures.inserted c.requires.can.heap (object_digests c.requires.can.objects) ready in
    let mid_long : 520 ≤ length c.insert_record.new.words.items = longer (length c.args.words.now.items) (length c.insert_record.new.words.items) c.in_ok-owner.owner.at _ c.in_ok-owner.ensures.place x.grown long in
    object_head c.args.words.now.items c.insert_record.new.words.items c.push_content.new.words.items c.args.object.now c.in_ok-owner.owner.at c.in_ok-content.content c.in_ok-owner.ensures.head c.in_ok-content.ensures.content c.in_ok-owner.ensures.place long (enough (length c.insert_record.new.words.items) mid_long)
  where
    longer : (first mid owner n : ℕ) → owner ≡ first → mid ≡ owner + 5 + n → 520 ≤ first → 520 ≤ mid
    longer first mid owner n a b c = omega arith

    enough : (n : ℕ) → 520 ≤ n → 8 ≤ n
    enough n h = omega arith

pub returns-in_err-owner-clause-refused : goal.returns-in_err-owner-clause-refused
returns-in_err-owner-clause-refused c =
    let p = err_from_is_err_and c.from_residual.result c.from_residual.ensures.1 in
    rw (p.1, p.2) (told c.args.words.now.items c.args.size c.args.object.now c.of-digest.result c.in_err-owner.field-0.0 (c.of-digest.ensures ∙ (λ i. digest_of (c.list.ensures i) (c.list-2.ensures i))) c.in_err-owner.ensures.refused)
  where
    told : (words : List ℕ) (size : ℕ) (o : Object) (d : Digest) (error : BuildError) → d ≡ object_digest o → RefusesInsert words size Objects d error → RefusesObject words size o error
    told words size o d error d_is refused = λ heap objects building next.
        refuses_more size (length words) (record_claims (object_digests objects) (object_digest o)) (content_size (length o.refs) (length o.data) ∷ []) error
        (subst (λ z. Refuses size (length words) (record_claims (object_digests objects) z) error) d_is (refused heap (object_digests objects) (ready_for heap words objects [] o d building next d_is)))

pub returns-in_err-content-clause-refused : goal.returns-in_err-content-clause-refused
returns-in_err-content-clause-refused c =
    let p = err_from_is_err_and c.from_residual-in_err-content.result c.from_residual-in_err-content.ensures.1 in
    let d_is : c.of-digest.result ≡ object_digest c.args.object.now = c.of-digest.ensures ∙ (λ i. digest_of (c.list.ensures i) (c.list-2.ensures i)) in
    rw (p.1, p.2) (λ heap objects building next.
    refused_content heap objects c.args.words.now.items c.insert_record.new.words.items c.args.object.now c.of-digest.result c.in_ok-owner.owner.at c.args.size c.in_err-content.field-0.0 d_is
    (c.in_ok-owner.ensures.inserted heap (object_digests objects) (ready_for heap c.args.words.now.items objects [] c.args.object.now c.of-digest.result building next d_is))
    c.in_ok-owner.ensures.place c.in_ok-owner.ensures.within c.in_err-content.ensures.refused)

pub index_mut-requires : goal.index_mut-requires
index_mut-requires c =
    let d_is : c.of-digest.result ≡ object_digest c.args.object.now = c.of-digest.ensures ∙ (λ i. digest_of (c.list.ensures i) (c.list-2.ensures i)) in
    let ready = ready_for c.requires.can.heap c.args.words.now.items c.requires.can.objects [] c.args.object.now c.of-digest.result c.requires.can.building c.requires.can.next d_is in
    let x = c.in_ok-owner.ensures.inserted c.requires.can.heap (object_digests c.requires.can.objects) ready in
    let inside : c.in_ok-owner.owner.at + 4 < length c.push_content.new.words.items = cell_within c.insert_record.new.words.items c.push_content.new.words.items c.args.object.now c.in_ok-owner.owner.at _ c.in_ok-content.ensures.content x.grown in
    omega (arith, inside, c.push_content.new.words.ok)
