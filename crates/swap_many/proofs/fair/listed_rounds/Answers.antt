use Rattle.std.proofs.Common.{sym, subst}
use Rattle.swap_many.specs.Fair.{kept_rounds}
use Rattle.swap_many.specs.Value.{ManyState, IsManyStopped}
use Rattle.swap_many.proofs.Gone.{stops_here}
use Rattle.swap_many.proofs.Turning.{rounds_lead}
use Rattle.swap_many.proofs.fair.listed_rounds.Goals as goal

pub returns-in-Err-clause-err : goal.returns-in-Err-clause-err
returns-in-Err-clause-err g c =
    let gives = g.A.Strategies.gives c.args.strategies.now in
    let w = c.args.worlds.now in
    subst (λ (new : ManyState). IsManyStopped gives kept_rounds w new) (sym c.stop.ensures)
    (stops_here gives kept_rounds w c.requires.on.ready (rounds_lead w c.requires.on.ready))
