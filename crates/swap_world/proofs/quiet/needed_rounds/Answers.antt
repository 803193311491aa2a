use Rattle.std.proofs.Common.{length, arith, sym, subst}
use Rattle.swap_world.specs.Acting.{histories}
use Rattle.swap_world.specs.Quiet.{IsCalmActor, IsReadyActor}
use Rattle.swap_world.proofs.quiet.needed_rounds.Goals as goal

pub machine_rounds-requires-clause-arcs : goal.machine_rounds-requires-clause-arcs
machine_rounds-requires-clause-arcs c =
    (subst (IsReadyActor (length c.args.ledgers.now) (histories c.args.ledgers.now) c.args.near.now) c.in-Conforming.is c.requires).0

pub machine_rounds-requires-clause-seen : goal.machine_rounds-requires-clause-seen
machine_rounds-requires-clause-seen c =
    (subst (IsReadyActor (length c.args.ledgers.now) (histories c.args.ledgers.now) c.args.near.now) c.in-Conforming.is c.requires).1

pub returns-in-Conforming-clause-calm : goal.returns-in-Conforming-clause-calm
returns-in-Conforming-clause-calm c = λ l.
    subst (IsCalmActor c.machine_rounds.result (histories c.args.ledgers.now) c.args.near.now) (sym c.in-Conforming.is) (c.machine_rounds.ensures.calm l)

pub returns-in-Planned-clause-calm : goal.returns-in-Planned-clause-calm
returns-in-Planned-clause-calm c = λ l. absurd (omega (arith, l))

pub returns-in-Manual-clause-calm : goal.returns-in-Manual-clause-calm
returns-in-Manual-clause-calm c = λ l. subst (IsCalmActor c.args.most (histories c.args.ledgers.now) c.args.near.now) (sym c.in-Manual.is) tt
