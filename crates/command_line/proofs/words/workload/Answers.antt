use Rattle.std.proofs.Common.{refl, subst}
use Rattle.cas_model.specs.Decimal.{IsNumberWithin}
use Rattle.command_line.proofs.WordLemmas.{first-rest}
use Rattle.command_line.proofs.words.workload.Goals as goal

pub returns : goal.returns
returns c = record {
  value = c.value-item.result;
  first = first-rest c.args.words.now c.value-item.result c.in-len1-up.len_at_least c.value-item.is;
  rounds = c.in_ok-rounds.rounds;
  is_number = subst (λ text. IsNumberWithin 1 10000 text c.in_ok-rounds.rounds) c.as_bytes.ensures.value c.in_ok-rounds.ensures.found;
  is = refl;
}
