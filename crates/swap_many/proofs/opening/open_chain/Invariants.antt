use Rattle.std.proofs.Common.{◌≡◌, map, None}
use Rattle.std.specs.List.{range_with_len}
use Rattle.swap_base.specs.Lists.{first_given_answer}
use Rattle.swap_many.specs.Chains.{first_free}
use Rattle.swap_many.specs.Opened.{account_lack}
use Rattle.swap_many.specs.Opening.{setup_of_worlds}
use Rattle.swap_many.proofs.opening.open_chain.Given as goal

abbrev pub invariant-accounts : goal.invariant-accounts
invariant-accounts l = (first_given_answer (account_lack (setup_of_worlds l.worlds l.places l.chains) l.chain) (range_with_len 0 l.account) ≡ None)
    × (l.free.items ≡ map (first_free (setup_of_worlds l.worlds l.places l.chains) l.chain) (range_with_len 0 l.account))
