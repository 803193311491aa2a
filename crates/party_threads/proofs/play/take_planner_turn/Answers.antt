use Rattle.party_threads.proofs.Planning.{has_planned}
use Rattle.party_threads.proofs.play.take_planner_turn.Goals as goal

pub returns-clause-planned : goal.returns-clause-planned
returns-clause-planned g c =
    let s = c.args.side.now in
    let k = c.requires.seated in
    let l = c.in_ok-look_round.ensures in
    let t = c.in_ok-call.ensures in
    let e = c.make.ensures in
    has_planned (g.A.Strategies.gives c.args.strategies.now) s.ledgers.now s.job.now s.me c.in_ok-call.call c.args.planner.now c.look_round.new.learner
    c.answer.new.planner c.make.new.planner c.args.passes.now c.look_round.new.passes c.make.new.passes c.make.result k.shown.view k.watching l.looked l.rest
    t.answered t.fits t.moves t.turns t.known e.moves e.turns e.watching e.done
