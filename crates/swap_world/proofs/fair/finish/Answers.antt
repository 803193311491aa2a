use Rattle.std.proofs.Common.{◌∙◌, ap}
use Rattle.swap_world.specs.TouchingArcs.{all_adjacent}
use Rattle.swap_world.proofs.Finishes.{finish_stops_first}
use Rattle.swap_world.proofs.fair.finish.Goals as goal

pub rounds-requires-clause-near : goal.rounds-requires-clause-near
rounds-requires-clause-near g c = c.deref.ensures.value ∙ c.in-Ok.ensures ∙ ap all_adjacent c.deal.ensures.value

pub returns-in-Err-clause-err : goal.returns-in-Err-clause-err
returns-in-Err-clause-err g c = finish_stops_first (g.A.Strategies.gives c.args.strategies.now) c.args.world.now c.stop.new.self c.stop.ensures
