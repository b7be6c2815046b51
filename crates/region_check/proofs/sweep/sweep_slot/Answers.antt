use Rattle.std.proofs.Common.{refl, inl, inr}
use Rattle.region_check.proofs.Sweeping.{slot_here}
use Rattle.region_check.proofs.sweep.sweep_slot.Goals as goal

pub returns-in-Some : goal.returns-in-Some
returns-in-Some c = inl (c.in-Some.place, 5, (slot_here c.args.words.now c.args.roles.now c.args.slot c.requires.roles c.if-roles-slot-eq0.false, inl (c.in-Some.ensures, refl)), c.mark_block.ensures)

pub returns-in-Some-table_at : goal.returns-in-Some-table_at
returns-in-Some-table_at c = inl (c.in-Some-table_at.place, 16, (slot_here c.args.words.now c.args.roles.now c.args.slot c.requires.roles c.if-roles-slot-eq0.false, inr (c.in-Some-table_at.ensures, refl)), c.mark_block-in-Some-table_at.ensures)

pub returns-in-None-table_at : goal.returns-in-None-table_at
returns-in-None-table_at c = inr (refl, refl, λ p n x. elim x.1 [ inl r ↦ c.in-None.ensures p r.0 | inr t ↦ c.in-None-table_at.ensures p t.0 ])
