use Rattle.std.proofs.Common.{◌≡◌, map}
use Rattle.std.specs.List.{range_with_len}
use Rattle.party_wallet.specs.Wallets.{job_wallet}
use Rattle.swap_offer.specs.Wallets.{wrong_wallet, fitting}
use Rattle.swap_offer.proofs.Firsts.{left}
use Rattle.swap_offer.proofs.wallets.new_wallets.Given as goal

abbrev pub invariant-parties : goal.invariant-parties
invariant-parties l = record {
  fit : left (wrong_wallet l.job) l.job.deal.graph.n (fitting l.job) l.p ≡ fitting l.job;
  made : l.wallets.items ≡ map (job_wallet l.job.deal l.job.conforming l.job.seeds) (range_with_len 0 l.p);
}
