use Rattle.swap_world.proofs.On.{if_told}
use Rattle.swap_many.proofs.Nearby.{are_near}
use Rattle.swap_many.proofs.worlds.Worlds.adjacent_arcs.Goals as goal

pub returns : goal.returns
returns c =
    rw (← c.self.view_is) (if_told c.arcs_by_swap.result (λ v e. are_near c.self.inside.worlds.items v.items e)
    (rw c.deref.ensures.value at c.arcs_by_swap.ensures))
