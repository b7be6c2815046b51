use Rattle.std.proofs.Common.{◌≡◌, ℕ, ◌+◌, ◌*◌, length, set, ◌++◌, List, arith, sym, ap, subst, ◌∙◌}
use Rattle.cas_model.specs.Trie.{index_of}
use Rattle.region_core.specs.Words.{words_of, HasWords, one_slot}
use Rattle.region_core.proofs.Finding.{same_words}
use Rattle.region_core.specs.Inserts.{SameHead}
use Rattle.region_core.proofs.Inserting.{head_append, head_set, head_then}
use Rattle.region_core.proofs.insertion.push_down.Goals as goal

pub returns-clause-words : goal.returns-clause-words
returns-clause-words c = λ d hd has.
    let e : c.record_digest-digest.result.bytes ≡ d = same_words c.args.words.now.items d c.record_digest-digest.result.bytes c.args.record_at hd c.record_digest-digest.ensures.fits has (subst (λ (ws : List ℕ). HasWords ws c.args.record_at (words_of c.record_digest-digest.result.bytes)) c.deref.ensures.value c.record_digest-digest.ensures.words) in
    let k : c.index_at-index.result ≡ index_of d c.args.level = c.index_at-index.ensures.value ∙ ap (λ x. index_of x c.args.level) e in
    let words : c.push_block.new.words.items ≡ c.args.words.now.items ++ one_slot (index_of d c.args.level) (4 * c.args.record_at + 1) = c.in_ok-place.ensures.words ∙ ap (λ i. c.args.words.now.items ++ one_slot i (4 * c.args.record_at + 1)) k in
    let place : c.in_ok-place.place ≡ length c.args.words.now.items = c.in_ok-place.ensures.place in
    ap (λ xs. set xs c.args.slot (4 * c.in_ok-place.place + 2)) words ∙ ap (λ p. set (c.args.words.now.items ++ one_slot (index_of d c.args.level) (4 * c.args.record_at + 1)) c.args.slot (4 * p + 2)) place

pub returns-clause-head : goal.returns-clause-head
returns-clause-head c =
    let words : c.push_block.new.words.items ≡ c.args.words.now.items ++ one_slot c.index_at-index.result (4 * c.args.record_at + 1) = c.in_ok-place.ensures.words in
    subst (λ xs. SameHead c.args.words.now.items (set xs c.args.slot (4 * c.in_ok-place.place + 2))) (sym words)
    (head_then c.args.words.now.items (c.args.words.now.items ++ one_slot c.index_at-index.result (4 * c.args.record_at + 1)) (set (c.args.words.now.items ++ one_slot c.index_at-index.result (4 * c.args.record_at + 1)) c.args.slot (4 * c.in_ok-place.place + 2))
    (head_append c.args.words.now.items (one_slot c.index_at-index.result (4 * c.args.record_at + 1)) (omega (arith, c.requires.low, c.requires.slot)))
    (head_set (c.args.words.now.items ++ one_slot c.index_at-index.result (4 * c.args.record_at + 1)) c.args.slot (4 * c.in_ok-place.place + 2) c.requires.low))
