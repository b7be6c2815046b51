use Rattle.std.proofs.Common.{◌≡◌, length, sym, subst, arith}
use Rattle.region_check.specs.Roles.{AreRoles}
use Rattle.region_check.proofs.Reaching.{lent_back}
use Rattle.region_check.proofs.roles.roles_of.Goals as goal

pub returns-clause-roles : goal.returns-clause-roles
returns-clause-roles c =
    let same : length c.add_all.new.roles ≡ length c.in_ok-roles.roles.items = omega (arith, c.add_all.ensures.roles.long, c.in_ok-roles.ensures.len, c.in_ok-roles.roles.ok.0) in
    subst (AreRoles c.args.words.now) (sym (lent_back c.in_ok-roles.roles.len c.add_all.new.roles c.in_ok-roles.roles.items same c.in_ok-roles.roles.ok.0)) c.add_all.ensures.roles
