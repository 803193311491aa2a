use Rattle.swap_world.specs.Acting.{histories}
use Rattle.swap_world.proofs.Relearns.{IsRelearning}
use Rattle.swap_world.proofs.journals.relearn.Given as goal

abbrev pub invariant-arcs : goal.invariant-arcs
invariant-arcs l = IsRelearning l.deal (histories l.ledgers) l.fn.machine l.machine l.arc
