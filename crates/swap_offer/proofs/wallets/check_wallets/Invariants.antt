use Rattle.std.proofs.Common.{◌≡◌}
use Rattle.swap_offer.specs.Wallets.{wrong_wallet, fitting}
use Rattle.swap_offer.proofs.Firsts.{left}
use Rattle.swap_offer.proofs.wallets.check_wallets.Given as goal

abbrev pub invariant-parties : goal.invariant-parties
invariant-parties l = left (wrong_wallet l.job) l.job.deal.graph.n (fitting l.job) l.p ≡ fitting l.job
