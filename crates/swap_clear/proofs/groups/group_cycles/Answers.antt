use Rattle.std.proofs.Common.{◌∙◌, ◌<◌, ℕ, List, subst, sym}
use Rattle.swap_base.specs.Lists.{IsElement}
use Rattle.swap_base.proofs.Lists.{in_place}
use Rattle.swap_clear.proofs.Sizes.{cycle_in}
use Rattle.swap_clear.proofs.groups.group_cycles.Goals as goal

pub party_cycle-requires-clause-v : goal.party_cycle-requires-clause-v
party_cycle-requires-clause-v c = c.requires.leaders _ (in_place c.args.leaders.now c.loop-v.v-index 0 c.loop-v-test.true)

pub named-requires : goal.named-requires
named-requires c k i =
    subst (λ (n : ℕ). k < n) (sym c.requires.set)
    (cycle_in c.args.own.now c.args.leaders.now _ k (subst (λ (xs : List ℕ). IsElement k xs) (c.as_slice.ensures ∙ c.in_ok-cycle.ensures) i))
