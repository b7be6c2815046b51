use Rattle.std.proofs.Common.{refl}
use Rattle.region_check.proofs.Rows.{outside_record, outside_table}
use Rattle.region_check.proofs.slot_flaws.names_outside.Goals as goal

pub returns-in-None : goal.returns-in-None
returns-in-None c = (λ h. outside_record c.args.words.now c.args.slot c.in-1.is c.in-None.ensures, λ x. refl)

pub returns-in-None-table_at : goal.returns-in-None-table_at
returns-in-None-table_at c = (λ h. outside_table c.args.words.now c.args.slot c.in-2.is c.in-None-table_at.ensures, λ x. refl)
