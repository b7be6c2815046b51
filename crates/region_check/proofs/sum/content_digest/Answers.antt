use Rattle.std.proofs.Common.{◌≡◌, ℕ, ◌+◌, ◌-◌, ◌/◌, ◌%◌, ◌^◌, List, [], ◌++◌, take, drop, get_or, ap, ◌∙◌, arith}
use Rattle.sha2.specs.Sha256.{sha256}
use Rattle.cas_model.specs.Content.{bytes_of}
use Rattle.cas_model.specs.Object.{ref_bytes}
use Rattle.region_core.specs.Leads.{digests_there}
use Rattle.region_check.proofs.Summing.{canon_parts}
use Rattle.region_check.proofs.sum.content_digest.Goals as goal

back : (a b : ℕ) → a + b - a ≡ b
back a b = omega arith

pub returns : goal.returns
returns c =
    let words : List ℕ = c.args.words.now in
    let refs : ℕ = c.split_head-refs.result.0 in
    let count : ℕ = c.split_head-refs.result.1 in
    let first : ℕ = c.args.place + 1 in
    let after : ℕ = c.args.place + 1 + c.split_head-refs.result.0 in
    let size : ℕ = c.div_ceil.result in
    let places : List ℕ = take (c.args.place + 1 + c.split_head-refs.result.0 - (c.args.place + 1)) (drop (c.args.place + 1) c.args.words.now) in
    let ws : List ℕ = take (c.args.place + 1 + c.split_head-refs.result.0 + c.div_ceil.result - (c.args.place + 1 + c.split_head-refs.result.0)) (drop (c.args.place + 1 + c.split_head-refs.result.0) c.args.words.now) in
    let refs_is : c.split_head-refs.result.0 ≡ get_or c.args.words.now c.args.place 0 / 2 ^ 32 = c.split_head-refs.ensures.refs in
    let count_is : c.split_head-refs.result.1 ≡ get_or c.args.words.now c.args.place 0 % 2 ^ 32 = c.split_head-refs.ensures.length in
    let many : c.args.place + 1 + c.split_head-refs.result.0 - (c.args.place + 1) ≡ get_or c.args.words.now c.args.place 0 / 2 ^ 32 = back (c.args.place + 1) c.split_head-refs.result.0 ∙ refs_is in
    let sizes : c.args.place + 1 + c.split_head-refs.result.0 + c.div_ceil.result - (c.args.place + 1 + c.split_head-refs.result.0) ≡ (get_or c.args.words.now c.args.place 0 % 2 ^ 32 + 7) / 8 = back (c.args.place + 1 + c.split_head-refs.result.0) c.div_ceil.result ∙ omega (arith, c.div_ceil.ensures, count_is) in
    let after_is : c.args.place + 1 + c.split_head-refs.result.0 ≡ c.args.place + 1 + get_or c.args.words.now c.args.place 0 / 2 ^ 32 = ap (λ n. c.args.place + 1 + n) refs_is in
    let places_are : places ≡ take (get_or c.args.words.now c.args.place 0 / 2 ^ 32) (drop (c.args.place + 1) c.args.words.now) = ap (λ n. take n (drop (c.args.place + 1) c.args.words.now)) many in
    let ws_are : ws ≡ take ((get_or c.args.words.now c.args.place 0 % 2 ^ 32 + 7) / 8) (drop (c.args.place + 1 + get_or c.args.words.now c.args.place 0 / 2 ^ 32) c.args.words.now) = (λ i. take (sizes i) (drop (after_is i) c.args.words.now)) in
    let sum = c.finalize.ensures _ (c.hash_data.ensures _ (c.update-2.ensures _ (c.hash_references.ensures _ (c.update.ensures _ c.new-hasher.ensures)))) in
    let all = canon_parts c.args.words.now c.args.place c.split_head-refs.result.0 c.split_head-refs.result.1 places ws refs_is count_is c.requires.fits.inside c.requires.fits.end places_are ws_are in
    let bytes = sum ∙ (λ i. sha256 (((([] ++ c.to_le_bytes.ensures i) ++ ref_bytes (digests_there c.args.words.now places)) ++ c.to_le_bytes-2.ensures i) ++ take c.split_head-refs.result.1 (bytes_of ws))) ∙ ap sha256 all in
    λ i. record { bytes = bytes i }
