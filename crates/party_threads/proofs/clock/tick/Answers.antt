use Rattle.party_threads.proofs.Clocks.{ticked_once}
use Rattle.party_threads.proofs.clock.tick.Goals as goal

pub returns-clause-ticked : goal.returns-clause-ticked
returns-clause-ticked g c =
    let p = c.args.pass.now in
    let t = c.in_ok-_accepted.ensures in
    ticked_once p.deal p.arc c.args.ticks p c.tick.new.pass c.in_ok-_accepted._accepted c.requires.room t.ticked t.legal t.whole
