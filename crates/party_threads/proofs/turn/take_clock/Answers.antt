use Rattle.std.proofs.Common.{None, refl}
use Rattle.party_threads.proofs.Placing.{clock_put_at}
use Rattle.party_threads.proofs.turn.take_clock.Goals as goal

pub returns-clause-gone : goal.returns-clause-gone
returns-clause-gone c =
    clock_put_at c.args.turns.now c.args.v c.args.arc None c.take.new.self c.index-turns-v.result _ c.requires.actor c.requires.place refl refl refl
    c.take.ensures.after
