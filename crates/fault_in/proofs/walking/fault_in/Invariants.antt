-- the counter of steps is the call's own
use Rattle.fault_in.proofs.walking.fault_in.Given as goal

abbrev pub ghosts-bring_missing : goal.ghosts-bring_missing
ghosts-bring_missing g a = record { name = a.blank.name; parts = a.blank.parts }
