use Rattle.ledger_core.specs.Book.{history}
use Rattle.swap_rules.proofs.Prefixes.{begins_more}
use Rattle.swap_world.proofs.On.{landed_begins}
use Rattle.swap_world.proofs.turn.make_due.Goals as goal

pub call-requires-clause-of_the_two : goal.call-requires-clause-of_the_two
call-requires-clause-of_the_two c = rw (c.me.ensures, c.requires.ledger.deal, c.requires.ledger.arc) c.requires.makable.of_the_two

pub call-requires-clause-fits : goal.call-requires-clause-fits
call-requires-clause-fits c = rw (c.requires.ledger.deal, c.requires.ledger.arc) c.requires.makable.fits

pub learn-requires-clause-begins : goal.learn-requires-clause-begins
learn-requires-clause-begins c =
    let l = c.args.ledger.now in
    let k = history c.args.machine.now.known c.args.arc in
    rw (c.in_ok-told.ensures.arc, c.requires.ledger.arc, c.in_ok-told.ensures.leaves)
    (begins_more k l.history _ c.requires.begins (landed_begins c.args.swept l.deal l.arc c.me.result c.args.due l.history))
