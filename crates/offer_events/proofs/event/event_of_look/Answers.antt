use Rattle.std.specs.Prelude.{codes}
use Rattle.offer_moves.proofs.Made.{arc_fits}
use Rattle.offer_events.proofs.event.event_of_look.Goals as goal

pub check_adjacent-requires : goal.check_adjacent-requires
check_adjacent-requires c =
    let fits = arc_fits c.args.job.now.deal c.args.line (codes "arc") c.args.number c.in_ok-arc.arc (rw c.deal_sizes.ensures at c.in_ok-arc.ensures) in
    record { arc = rw c.arcs.ensures fits }
