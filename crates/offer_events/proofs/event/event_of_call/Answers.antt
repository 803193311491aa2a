use Rattle.std.proofs.Common.{◌<◌, length, sym, subst, arith}
use Rattle.offer_moves.specs.Kept.{AreBoundedCrafters}
use Rattle.offer_moves.proofs.Made.{move_made}
use Rattle.offer_events.proofs.event.event_of_call.Goals as goal

pub bounds-as_slice-p : goal.bounds-as_slice-p
bounds-as_slice-p c =
    let job = c.args.job.now in
    let known : c.in_ok-p.p < length job.names = rw c.as_slice-names.ensures at c.in_ok-p.ensures.below in
    rw c.as_slice.ensures (omega (arith, known, c.requires.names, c.requires.conforming))

pub check_move-requires : goal.check_move-requires
check_move-requires c =
    let job = c.args.job.now in
    let made = move_made job.deal job.seeds job.names c.args.line c.args.raw.now c.in_ok-mv.mv c.requires.sized c.requires.names
    (rw (c.deal_sizes.ensures, c.as_slice-names.ensures) at c.in_ok-mv.ensures) in
    record {
      arc = made.arc;
      conforming = subst (λ n. AreBoundedCrafters n c.in_ok-mv.mv) (sym c.requires.conforming) made.below;
      seeds = subst (λ n. AreBoundedCrafters n c.in_ok-mv.mv) (sym c.requires.seeds) made.below;
    }
