-- the size of the new generation
use Rattle.std.proofs.Common.{ℕ, ◌≤◌, sym, subst}
use Rattle.cas_command.proofs.RotationLemmas.{size-of-next}
use Rattle.cas_command.proofs.rotation.next_due.Goals as goal

pub empty_image-requires-clause-least : goal.empty_image-requires-clause-least
empty_image-requires-clause-least c =
    subst (λ (n : ℕ). 4096 ≤ n) (sym c.unwrap_or-size.ensures)
    (size-of-next c.args.rotation.now.size c.size.result c.requires.size (subst (λ (n : ℕ). 4096 ≤ n) (sym c.size.ensures) c.seen.ensures.start.least)
    (subst (λ (n : ℕ). n ≤ 67108864) (sym c.size.ensures) c.seen.ensures.start.most)).0

pub empty_image-requires-clause-most : goal.empty_image-requires-clause-most
empty_image-requires-clause-most c =
    subst (λ (n : ℕ). n ≤ 67108864) (sym c.unwrap_or-size.ensures)
    (size-of-next c.args.rotation.now.size c.size.result c.requires.size (subst (λ (n : ℕ). 4096 ≤ n) (sym c.size.ensures) c.seen.ensures.start.least)
    (subst (λ (n : ℕ). n ≤ 67108864) (sym c.size.ensures) c.seen.ensures.start.most)).1
