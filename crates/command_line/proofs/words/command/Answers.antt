use Rattle.std.proofs.Common.{◌≡◌, codes, false, rules, sym}
use Rattle.command_line.specs.Words.{is_word}
use Rattle.command_line.proofs.WordLemmas.{command-word}
use Rattle.command_line.proofs.words.command.Goals as goal

pub returns : goal.returns
returns c =
    let other : is_word c.word-item.result (codes "--workload") ≡ false = search rules in
    command-word c.args.words.now c.word-item.result c.in_ok-of_word.field-0 c.in-len1-up.len_at_least c.word-item.is other (sym c.in_ok-of_word.ensures)
