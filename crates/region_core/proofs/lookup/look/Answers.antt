use Rattle.std.proofs.Common.{◌≡◌, ◌+◌, ◌*◌, ◌∷◌, length, get_or, arith, sym, ap, ◌∙◌, suc}
use Rattle.std.proofs.lemmas.Bool.{both_ways}
use Rattle.cas_model.specs.Trie.{path}
use Rattle.region_core.specs.Heap.{Table, memory_of}
use Rattle.region_core.proofs.Finding.{at_record, named_at, record_below, missed, table_there, if_same, if_other, lawful}
use Rattle.region_core.proofs.lookup.look.Goals as goal

pub is_digest-same-requires : goal.is_digest-same-requires
is_digest-same-requires c =
    let x = at_record c.requires.heap c.args.words.now c.args.digest.now.bytes c.args.space c.loop-level.table c.loop-level.level c.index_at-index.result c.in-Some-Record.place.at c.requires.laid (c.loop-level.invariant c.requires.heap c.requires.laid) c.index_at-index.ensures.value c.index_at-index.ensures.within (rw c.in-Some-Record.field-0-is at c.in-Some-Record.ensures) in
    omega (arith, record_below c.requires.heap (length c.args.words.now) c.args.space x.digest x.cell c.in-Some-Record.place.at c.requires.laid.shape (named_at c.requires.heap c.args.space (c.index_at-index.result ∷ path c.args.digest.now.bytes c.loop-level.level) c.in-Some-Record.place.at x))

pub returns-then-same : goal.returns-then-same
returns-then-same c = λ heap laid.
    if_same heap c.args.words.now c.args.digest.now.bytes c.digest_words-own.result c.args.space (c.index_at-index.result ∷ path c.args.digest.now.bytes c.loop-level.level) c.in-Some-Record.place.at laid c.digest_words-own.ensures.fits c.digest_words-own.ensures.value
    (at_record heap c.args.words.now c.args.digest.now.bytes c.args.space c.loop-level.table c.loop-level.level c.index_at-index.result c.in-Some-Record.place.at laid (c.loop-level.invariant heap laid) c.index_at-index.ensures.value c.index_at-index.ensures.within (rw c.in-Some-Record.field-0-is at c.in-Some-Record.ensures))
    (c.is_digest-same.ensures.0 c.if-same.true)

pub returns-else-same : goal.returns-else-same
returns-else-same c = λ heap laid.
    if_other heap c.args.words.now c.args.digest.now.bytes c.digest_words-own.result c.args.space c.loop-level.table c.loop-level.level c.index_at-index.result c.in-Some-Record.place.at laid c.digest_words-own.ensures.fits c.digest_words-own.ensures.value
    (c.loop-level.invariant heap laid) c.index_at-index.ensures.value (rw c.in-Some-Record.field-0-is at c.in-Some-Record.ensures)
    (at_record heap c.args.words.now c.args.digest.now.bytes c.args.space c.loop-level.table c.loop-level.level c.index_at-index.result c.in-Some-Record.place.at laid (c.loop-level.invariant heap laid) c.index_at-index.ensures.value c.index_at-index.ensures.within (rw c.in-Some-Record.field-0-is at c.in-Some-Record.ensures))
    (λ h. both_ways c.is_digest-same.result c.if-same.false (c.is_digest-same.ensures.1 h))

pub returns-in-Some-Empty : goal.returns-in-Some-Empty
returns-in-Some-Empty c = λ heap laid.
    let word : 0 ≡ get_or c.args.words.now (c.loop-level.table + c.index_at-index.result) 0 = rw c.in-Some-Empty.field-0-is at c.in-Some-Empty.ensures in
    missed heap (memory_of c.args.words.now) c.args.space c.args.digest.now.bytes c.loop-level.table c.loop-level.level laid.tries (c.loop-level.invariant heap laid)
    (ap (λ j. get_or c.args.words.now (c.loop-level.table + j) 0) (sym c.index_at-index.ensures.value) ∙ sym word)

pub returns-in-None : goal.returns-in-None
returns-in-None c = λ heap laid.
    absurd (lawful heap c.args.space (c.index_at-index.result ∷ path c.args.digest.now.bytes c.loop-level.level) (get_or c.args.words.now (c.loop-level.table + c.index_at-index.result) 0) c.in-None.ensures
    (laid.tries.slots c.loop-level.table c.args.space (path c.args.digest.now.bytes c.loop-level.level) c.index_at-index.result (c.loop-level.invariant heap laid) c.index_at-index.ensures.within))

pub loop-level-preserved : goal.loop-level-preserved
loop-level-preserved c = λ heap laid.
    let word : 4 * c.in-Some-Subtrie.place.at + 2 ≡ get_or c.args.words.now (c.loop-level.table + c.index_at-index.result) 0 = rw c.in-Some-Subtrie.field-0-is at c.in-Some-Subtrie.ensures in
    let next : suc c.loop-level.level ≡ c.loop-level.level + 1 = omega arith in
    table_there heap (memory_of c.args.words.now) c.args.space (path c.args.digest.now.bytes c.loop-level.level) c.index_at-index.result c.loop-level.table c.in-Some-Subtrie.place.at laid.tries (c.loop-level.invariant heap laid) c.index_at-index.ensures.within (sym word)
    ∙ ap (λ j. Table c.args.space (j ∷ path c.args.digest.now.bytes c.loop-level.level)) c.index_at-index.ensures.value
    ∙ ap (λ l. Table c.args.space (path c.args.digest.now.bytes l)) next
