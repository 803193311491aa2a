use Rattle.std.proofs.Common.{◌≡◌, map, None}
use Rattle.std.specs.List.{range_with_len}
use Rattle.swap_base.specs.Lists.{first_given_answer}
use Rattle.swap_many.specs.Opened.{chain_lack}
use Rattle.swap_many.specs.Opening.{new_chain, setup_of_worlds}
use Rattle.swap_many.proofs.opening.open_chains.Given as goal

abbrev pub invariant-chains : goal.invariant-chains
invariant-chains l = (first_given_answer (chain_lack (setup_of_worlds l.worlds l.places l.chains)) (range_with_len 0 l.chain) ≡ None)
    × (l.opened.items ≡ map (new_chain (setup_of_worlds l.worlds l.places l.chains)) (range_with_len 0 l.chain))
