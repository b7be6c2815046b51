use Rattle.std.proofs.Common.{rules, ◌≡◌, arith}
use Rattle.generations.specs.GenerationNames.{generation_name}
use Rattle.generations.proofs.NameLemmas.{made}
use Rattle.generations.proofs.generation_names.name_of.Goals as goal

pub returns-clause-may_ask : goal.returns-clause-may_ask
returns-clause-may_ask c =
    let text : c.as_slice.result.now ≡ generation_name c.args.number = search rules in
    made c.of.result c.as_slice.result.now c.args.number c.of.ensures text (omega arith)
