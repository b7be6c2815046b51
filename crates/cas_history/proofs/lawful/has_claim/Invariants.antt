-- the claim is not among those so far
use Rattle.std.proofs.Common.{drop}
use Rattle.cas_model.specs.Tables.{HasClaim}
use Rattle.cas_history.proofs.lawful.has_claim.Given as goal

abbrev pub invariant-loop-c : goal.invariant-loop-c
invariant-loop-c l = HasClaim l.claims l.who l.place l.length → HasClaim (drop l.c-index l.claims) l.who l.place l.length
