use Rattle.ledger_core.specs.Book.{history}
use Rattle.swap_rules.proofs.Prefixes.{begins_more}
use Rattle.swap_world.proofs.On.{landed_begins}
use Rattle.swap_world.proofs.turn.make_planned.Goals as goal

pub watch-requires-clause-begins : goal.watch-requires-clause-begins
watch-requires-clause-begins c =
    let l = c.args.ledger.now in
    rw c.in_ok-told.ensures.leaves
    (begins_more (history c.args.planner.now.known c.args.arc) l.history _ c.requires.begins
    (landed_begins c.args.swept l.deal l.arc c.args.sender c.args.made l.history))
