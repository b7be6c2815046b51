use Rattle.std.proofs.Common.{◌≡◌, ◌+◌, ◌-◌, ◌/◌, ◌%◌, ◌^◌, ℕ, take, drop, get_or, sym, ap, ◌∙◌, arith}
use Rattle.cas_model.specs.Content.{bytes_of, content_places, content_bytes}
use Rattle.region_core.specs.Leads.{content_there}
use Rattle.frozen_store.proofs.Readings.{parts_of, bounds_of, references_within, object_read}
use Rattle.frozen_store.proofs.reading.object_at.Goals as goal

back : (a b : ℕ) → a + b - a ≡ b
back a b = omega arith

pub offset_bounds-words-place : goal.offset_bounds-words-place
offset_bounds-words-place c =
    let p = parts_of c.args.words.now c.args.place c.requires in
    omega (arith, p.within, c.requires.stands.headed.within, c.requires.stands.headed.most)

pub bounds-words-place : goal.bounds-words-place
bounds-words-place c =
    let p = parts_of c.args.words.now c.args.place c.requires in
    omega (arith, p.within)

pub overflow_add-first : goal.overflow_add-first
overflow_add-first c =
    let p = parts_of c.args.words.now c.args.place c.requires in
    omega (arith, p.within, c.requires.stands.headed.within, c.requires.stands.headed.most)

pub overflow_add-after : goal.overflow_add-after
overflow_add-after c =
    let b = bounds_of c.args.words.now c.args.place c.split_head-refs.result.0 c.split_head-refs.result.1 c.requires c.split_head-refs.ensures.refs c.split_head-refs.ensures.length in
    omega (arith, b.within, b.short)

pub overflow_add-end : goal.overflow_add-end
overflow_add-end c =
    let b = bounds_of c.args.words.now c.args.place c.split_head-refs.result.0 c.split_head-refs.result.1 c.requires c.split_head-refs.ensures.refs c.split_head-refs.ensures.length in
    omega (arith, b.within, b.short, c.div_ceil.ensures)

pub offset_bounds-words-first : goal.offset_bounds-words-first
offset_bounds-words-first c =
    let b = bounds_of c.args.words.now c.args.place c.split_head-refs.result.0 c.split_head-refs.result.1 c.requires c.split_head-refs.ensures.refs c.split_head-refs.ensures.length in
    omega (arith, b.within, b.short)

pub slice_bounds-digests_at-end : goal.slice_bounds-digests_at-end
slice_bounds-digests_at-end c =
    let b = bounds_of c.args.words.now c.args.place c.split_head-refs.result.0 c.split_head-refs.result.1 c.requires c.split_head-refs.ensures.refs c.split_head-refs.ensures.length in
    omega (arith, b.within)

pub digests_at-requires : goal.digests_at-requires
digests_at-requires c =
    let p = parts_of c.args.words.now c.args.place c.requires in
    let count : c.args.place + 1 + c.split_head-refs.result.0 - (c.args.place + 1) ≡ get_or c.args.words.now c.args.place 0 / 2 ^ 32 = back (c.args.place + 1) c.split_head-refs.result.0 ∙ c.split_head-refs.ensures.refs in
    let places : take (c.args.place + 1 + c.split_head-refs.result.0 - (c.args.place + 1)) (drop (c.args.place + 1) c.args.words.now) ≡ content_places (content_there c.args.words.now c.args.place) = ap (λ n. take n (drop (c.args.place + 1) c.args.words.now)) count ∙ sym p.refs_are in
    references_within c.args.words.now c.args.place (take (c.args.place + 1 + c.split_head-refs.result.0 - (c.args.place + 1)) (drop (c.args.place + 1) c.args.words.now)) c.requires places

pub offset_bounds-words-after : goal.offset_bounds-words-after
offset_bounds-words-after c =
    let b = bounds_of c.args.words.now c.args.place c.split_head-refs.result.0 c.split_head-refs.result.1 c.requires c.split_head-refs.ensures.refs c.split_head-refs.ensures.length in
    omega (arith, b.within, b.short)

pub slice_bounds-bytes_at-end : goal.slice_bounds-bytes_at-end
slice_bounds-bytes_at-end c =
    let b = bounds_of c.args.words.now c.args.place c.split_head-refs.result.0 c.split_head-refs.result.1 c.requires c.split_head-refs.ensures.refs c.split_head-refs.ensures.length in
    omega (arith, b.within, c.div_ceil.ensures)

pub returns : goal.returns
returns c =
    let p = parts_of c.args.words.now c.args.place c.requires in
    let count : c.args.place + 1 + c.split_head-refs.result.0 - (c.args.place + 1) ≡ get_or c.args.words.now c.args.place 0 / 2 ^ 32 = back (c.args.place + 1) c.split_head-refs.result.0 ∙ c.split_head-refs.ensures.refs in
    let places : take (c.args.place + 1 + c.split_head-refs.result.0 - (c.args.place + 1)) (drop (c.args.place + 1) c.args.words.now) ≡ content_places (content_there c.args.words.now c.args.place) = ap (λ n. take n (drop (c.args.place + 1) c.args.words.now)) count ∙ sym p.refs_are in
    let after : ℕ = c.args.place + 1 + c.split_head-refs.result.0 in
    let after_is : c.args.place + 1 + c.split_head-refs.result.0 ≡ c.args.place + 1 + get_or c.args.words.now c.args.place 0 / 2 ^ 32 = ap (λ n. c.args.place + 1 + n) c.split_head-refs.ensures.refs in
    let size : c.args.place + 1 + c.split_head-refs.result.0 + c.div_ceil.result - (c.args.place + 1 + c.split_head-refs.result.0) ≡ (get_or c.args.words.now c.args.place 0 % 2 ^ 32 + 7) / 8 = back (c.args.place + 1 + c.split_head-refs.result.0) c.div_ceil.result ∙ omega (arith, c.div_ceil.ensures, c.split_head-refs.ensures.length) in
    let data_is : c.in_ok-of-2.field-0 ≡ content_bytes (content_there c.args.words.now c.args.place) =
    c.in_ok-of-2.ensures ∙ c.as_slice-2.ensures.value ∙ c.in_ok-bytes.ensures ∙ (λ i. take (c.split_head-refs.ensures.length i) (bytes_of (take (size i) (drop (after_is i) c.args.words.now)))) ∙ sym p.bytes_are in
    object_read c.args.words.now c.args.place (record { refs = c.in_ok-of.field-0; «data» = c.in_ok-of-2.field-0 }) (take (c.args.place + 1 + c.split_head-refs.result.0 - (c.args.place + 1)) (drop (c.args.place + 1) c.args.words.now))
    (c.in_ok-of.ensures ∙ c.as_slice.ensures.value ∙ c.in_ok-digests.ensures) places data_is
