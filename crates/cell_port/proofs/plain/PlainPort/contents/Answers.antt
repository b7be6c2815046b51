use Rattle.cell_port.proofs.HeldContents.{holds-contents, holds-fit}
use Rattle.cell_port.proofs.plain.PlainPort.contents.Goals as goal

pub returns : goal.returns
returns g c =
    let held = holds-contents _ _ _ _ _ _ c.self.invariant.tied c.in_ok-objects.ensures c.in_ok-pairs.ensures in
    record { held = rw (← c.self.view_is) held; fits = rw (← c.self.view_is) (holds-fit _ _ _ _ _ _ c.self.invariant.tied held) }
