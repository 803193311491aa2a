use Rattle.std.proofs.Common.{◌≡◌, drop}
use Rattle.std.specs.List.{list_any}
use Rattle.swap_offer.specs.Wallets.{role_crafts}
use Rattle.swap_offer.proofs.wallets.is_crafter.Given as goal

abbrev pub invariant-loop-role : goal.invariant-loop-role
invariant-loop-role l = list_any (role_crafts l.p) (drop l.role-index l.job.roles) ≡ list_any (role_crafts l.p) l.job.roles
