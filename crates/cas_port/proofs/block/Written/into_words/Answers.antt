use Rattle.std.proofs.Common.{◌≡◌, ℕ, ◌-◌, List, ◌++◌, length, ap, ◌∙◌, arith}
use Rattle.std.specs.declared.option.Option.{Option}
use Rattle.cas_port.specs.Blank.{none_written}
use Rattle.cas_port.specs.View.{written_words}
use Rattle.cas_port.proofs.Laid.{laid-words}
use Rattle.cas_port.proofs.block.Written.into_words.Goals as goal

pub returns : goal.returns
returns c =
    let words = c.self.inside.words.items in
    let later = c.self.inside.later.items in
    let left : c.self.inside.length - c.len.result - length later ≡ c.self.inside.length - length words - length later = omega (arith, c.len.ensures) in
    rw (← c.self.view_is)
    (c.of.ensures ∙ c.append_written.ensures ∙ ap (λ (xs : List (Option ℕ)). words ++ written_words xs) (c.deref.ensures.value ∙ c.extend_to.ensures.items)
    ∙ ap (λ (k : ℕ). words ++ written_words (later ++ none_written k)) left
    ∙ laid-words words later c.self.inside.length c.self.invariant.0)
