use Rattle.std.proofs.Common.{◌≡◌, ◌+◌, ◌++◌, ◌≤◌, sym, ap, ◌∙◌, subst, arith, ℕ, length, take}
use Rattle.cas_model.specs.Content.{content_size, content_head, data_words}
use Rattle.region_core.specs.Builds.{HasReferences, HasPlaces, HasContent}
use Rattle.region_core.proofs.Gathering.{old_region, content_pushed, content_long}
use Rattle.region_core.proofs.building.push_content.Goals as goal

pub push_references-requires-clause-references : goal.push_references-requires-clause-references
push_references-requires-clause-references c =
    let end : c.len-place.result ≡ length c.args.words.now.items = omega (arith, c.len-place.ensures, c.args.words.now.ok) in
    let region : take c.len-place.result c.push.new.self.items ≡ c.args.words.now.items = old_region c.args.words.now.items c.push.new.self.items c.head_word.result c.len-place.result c.in_ok-push.ensures.items end in
    subst (λ ws. HasReferences ws c.list-refs.result.now) (sym region) (subst (HasReferences c.args.words.now.items) (sym c.list-refs.ensures) c.requires.references)

pub returns-clause-content : goal.returns-clause-content
returns-clause-content c =
    let end : c.len-place.result ≡ length c.args.words.now.items = omega (arith, c.len-place.ensures, c.args.words.now.ok) in
    let refs : c.list-refs.result.now ≡ c.args.object.now.refs = c.list-refs.ensures in
    let bytes : c.list-bytes.result.now ≡ c.args.object.now.data = c.list-bytes.ensures in
    content_pushed c.args.words.now.items c.push.new.self.items c.push_references.new.words.items c.push_data.new.words.items c.args.object.now c.head_word.result c.len-place.result c.in_ok-push.ensures.items end
    (c.head_word.ensures ∙ (λ i. content_head (length (refs i)) (length (bytes i)))) c.requires.references
    (subst (HasPlaces (take c.len-place.result c.push.new.self.items) c.push.new.self.items c.push_references.new.words.items) refs c.in_ok-push_references.ensures.places)
    (c.in_ok-push_data.ensures.words ∙ ap (λ bs. c.push_references.new.words.items ++ data_words bs) bytes)

pub returns-clause-within : goal.returns-clause-within
returns-clause-within c =
    let end : c.len-place.result ≡ length c.args.words.now.items = omega (arith, c.len-place.ensures, c.args.words.now.ok) in
    let refs : c.list-refs.result.now ≡ c.args.object.now.refs = c.list-refs.ensures in
    let bytes : c.list-bytes.result.now ≡ c.args.object.now.data = c.list-bytes.ensures in
    let content : HasContent c.args.words.now.items c.push_data.new.words.items c.args.object.now = content_pushed c.args.words.now.items c.push.new.self.items c.push_references.new.words.items c.push_data.new.words.items c.args.object.now c.head_word.result c.len-place.result c.in_ok-push.ensures.items end
    (c.head_word.ensures ∙ (λ i. content_head (length (refs i)) (length (bytes i)))) c.requires.references
    (subst (HasPlaces (take c.len-place.result c.push.new.self.items) c.push.new.self.items c.push_references.new.words.items) refs c.in_ok-push_references.ensures.places)
    (c.in_ok-push_data.ensures.words ∙ ap (λ bs. c.push_references.new.words.items ++ data_words bs) bytes) in
    let long = content_long c.args.words.now.items c.push_data.new.words.items c.args.object.now c.requires.references content in
    let asked : c.content_length.result ≡ content_size (length c.args.object.now.refs) (length c.args.object.now.data) = c.content_length.ensures ∙ (λ i. content_size (length (refs i)) (length (bytes i))) in
    within (length c.push_data.new.words.items) (length c.args.words.now.items) c.len-place.result c.content_length.result (content_size (length c.args.object.now.refs) (length c.args.object.now.data)) c.args.size long asked end c.in_ok-claim.ensures
  where
    within : (total old place asked n size : ℕ) → total ≡ old + n → asked ≡ n → place ≡ old → place + asked ≤ size → total ≤ size
    within total old place asked n size a b d e = omega arith
