use Rattle.std.proofs.Common.{◌≡◌, ◌-◌}
use Rattle.std.specs.List.{range_with_len}
use Rattle.swap_base.specs.Lists.{first_given_answer}
use Rattle.swap_offer.specs.Wallets.{no_seed}
use Rattle.swap_offer.proofs.wallets.first_without_seed.Given as goal

abbrev pub invariant-loop-p : goal.invariant-loop-p
invariant-loop-p l = first_given_answer (no_seed l.job) (range_with_len l.p (l.job.deal.graph.n - l.p)) ≡ first_given_answer (no_seed l.job) (range_with_len 0 l.job.deal.graph.n)
