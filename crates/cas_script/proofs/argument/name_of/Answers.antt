use Rattle.std.proofs.Common.{inl, refl}
use Rattle.cas_script.proofs.Names.{no_id}
use Rattle.cas_script.proofs.argument.name_of.Goals as goal

-- a token that is no id and does not begin with `%`
pub returns-in-Err : goal.returns-in-Err
returns-in-Err c = inl (
  record {
    no_id = no_id c.in-Err.field-0 c.args.token.now c.in-Err.ensures;
    no_back = c.in_default.ensures;
  },
  refl,
)
