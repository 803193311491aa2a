use Rattle.std.proofs.Common.{◌≡◌, take, true, length}
use Rattle.std.specs.List.{range_with_len, list_all}
use Rattle.std.specs.Prelude.{nat_lt}
use Rattle.ledger_core.specs.History.{height}
use Rattle.ledger_core.specs.Book.{history}
use Rattle.swap_run.specs.Fair.{the_horizon}
use Rattle.swap_world.proofs.fair.is_above_horizon.Given as goal

abbrev pub invariant-loop-arc : goal.invariant-loop-arc
invariant-loop-arc l =
    list_all (λ a. nat_lt (the_horizon l.world.deal) (height (history l.world.state.book a)))
    (take l.arc (range_with_len 0 (length l.world.deal.graph.arcs))) ≡ true
