use Rattle.std.proofs.Common.{◌≡◌, ◌≢◌, ◌+◌, ◌*◌, ◌∷◌, get_or, arith, ap, ◌∙◌, suc}
use Rattle.std.proofs.lemmas.Result.{err_from_is_err_and}
use Rattle.cas_model.specs.Trie.{path}
use Rattle.region_core.specs.Words.{slot_word}
use Rattle.region_core.specs.declared.slot.Slot.{Slot}
use Rattle.region_core.proofs.Finding.{lawful}
use Rattle.region_core.proofs.Inserting.{descent_down, descent_push, record_in, parts_before, refused_push, slot_low}
use Rattle.region_core.proofs.insertion.step.Goals as goal

pub push_down-requires-clause-level : goal.push_down-requires-clause-level
push_down-requires-clause-level c =
    let way = c.requires.way in
    let word : 4 * c.in-Some-Record.other.at + 1 ≡ get_or c.args.words.now.items (c.args.table + c.index_at.result) 0 = rw (c.in-Some-Record.field-0-is, c.deref.ensures.value) at c.in-Some-Record.ensures in
    omega (arith, parts_before way.heap way.known way.first c.args.words.now.items c.args.digest.now way.space c.args.level c.args.table way.own c.index_at.result c.in-Some-Record.other.at way.ready way.descent c.digest_words-own.ensures.fits c.index_at.ensures.value c.index_at.ensures.within word c.requires.level)

pub push_down-requires-clause-place : goal.push_down-requires-clause-place
push_down-requires-clause-place c =
    let way = c.requires.way in
    let word : 4 * c.in-Some-Record.other.at + 1 ≡ get_or c.args.words.now.items (c.args.table + c.index_at.result) 0 = rw (c.in-Some-Record.field-0-is, c.deref.ensures.value) at c.in-Some-Record.ensures in
    record_in way.heap way.known c.args.words.now.items c.args.digest.now way.space c.args.level c.args.table way.own c.index_at.result c.in-Some-Record.other.at way.descent c.index_at.ensures.within word

pub unreachable-requires : goal.unreachable-requires
unreachable-requires c =
    let way = c.requires.way in
    let x = way.descent in
    let none : (s : Slot) → slot_word s ≢ get_or c.args.words.now.items (c.args.table + c.index_at.result) 0 = rw c.deref.ensures.value at c.in-None.ensures in
    lawful x.after way.space (c.index_at.result ∷ path c.args.digest.now.bytes c.args.level) (get_or c.args.words.now.items (c.args.table + c.index_at.result) 0) none
    (x.laid.tries.slots c.args.table way.space (path c.args.digest.now.bytes c.args.level) c.index_at.result x.here c.index_at.ensures.within)

pub returns-in-Some-Subtrie-clause-stepped : goal.returns-in-Some-Subtrie-clause-stepped
returns-in-Some-Subtrie-clause-stepped c = λ heap known first space own ready x.
    let next : c.args.level + 1 ≡ suc c.args.level = omega arith in
    let word : 4 * c.in-Some-Subtrie.next.at + 2 ≡ get_or c.args.words.now.items (c.args.table + c.index_at.result) 0 = rw (c.in-Some-Subtrie.field-0-is, c.deref.ensures.value) at c.in-Some-Subtrie.ensures in
    rw next (descent_down heap known first c.args.words.now.items c.args.digest.now space c.args.level c.args.table own c.index_at.result c.in-Some-Subtrie.next.at ready x c.index_at.ensures.value c.index_at.ensures.within word)

pub returns-in_ok-next-in-Some-Record-clause-stepped :
    goal.returns-in_ok-next-in-Some-Record-clause-stepped
returns-in_ok-next-in-Some-Record-clause-stepped c = λ heap known first space own ready x.
    let next : c.args.level + 1 ≡ suc c.args.level = omega arith in
    let word : 4 * c.in-Some-Record.other.at + 1 ≡ get_or c.args.words.now.items (c.args.table + c.index_at.result) 0 = rw (c.in-Some-Record.field-0-is, c.deref.ensures.value) at c.in-Some-Record.ensures in
    let shallow = parts_before heap known first c.args.words.now.items c.args.digest.now space c.args.level c.args.table own c.index_at.result c.in-Some-Record.other.at ready x c.digest_words-own.ensures.fits c.index_at.ensures.value c.index_at.ensures.within word c.requires.level in
    rw next (descent_push heap known first c.args.words.now.items c.push_down.new.words.items c.args.digest.now space c.args.level c.args.table own c.index_at.result c.in-Some-Record.other.at c.in_ok-next-in-Some-Record.next ready x c.index_at.ensures.value c.index_at.ensures.within word shallow c.in_ok-next-in-Some-Record.ensures.place c.in_ok-next-in-Some-Record.ensures.words)

pub returns-in_err-next-in-Some-Record-clause-refused :
    goal.returns-in_err-next-in-Some-Record-clause-refused
returns-in_err-next-in-Some-Record-clause-refused c =
    let p = err_from_is_err_and c.from_residual.result c.from_residual.ensures.1 in
    let word : 4 * c.in-Some-Record.other.at + 1 ≡ get_or c.args.words.now.items (c.args.table + c.index_at.result) 0 = rw (c.in-Some-Record.field-0-is, c.deref.ensures.value) at c.in-Some-Record.ensures in
    rw (p.1, p.2) (refused_push c.args.words.now.items c.args.digest.now c.args.level c.args.table c.in-Some-Record.other.at c.args.size c.in_err-next-in-Some-Record.field-0.0 (word ∙ ap (λ i. get_or c.args.words.now.items (c.args.table + i) 0) c.index_at.ensures.value) c.in_err-next-in-Some-Record.ensures.refused)

pub push_down-requires-clause-low : goal.push_down-requires-clause-low
push_down-requires-clause-low c =
    let way = c.requires.way in
    omega (arith, slot_low way.heap way.known c.args.words.now.items c.args.digest.now way.space c.args.level c.args.table way.own way.descent)
