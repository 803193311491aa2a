use Rattle.std.proofs.Common.{◌<◌, sym, subst}
use Rattle.swap_world.proofs.Relearns.{begins_none}
use Rattle.swap_world.proofs.journals.learn_if_adjacent.Goals as goal

pub learn-requires-clause-begins : goal.learn-requires-clause-begins
learn-requires-clause-begins c =
    let l = c.index-ledgers-arc.result in
    let below = subst (λ n. c.args.arc < n) (sym c.requires.ledgers.one_each) c.requires.arc in
    begins_none c.args.machine.now.known c.args.arc l.arc l.history c.requires.none
    (c.requires.ledgers.each c.args.arc l below c.index-ledgers-arc.is).arc
