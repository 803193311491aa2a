use Rattle.std.proofs.Common.{◌<◌, length, sym, subst}
use Rattle.swap_job.specs.Resolved.{move_arc}
use Rattle.swap_run.proofs.Scripts.{all_from}
use Rattle.swap_run.proofs.script.after_waits.Goals as goal

pub is_wait_done-requires-clause-arc : goal.is_wait_done-requires-clause-arc
is_wait_done-requires-clause-arc c =
    subst (λ mv. move_arc mv < length c.args.known.now.histories) (sym c.index-moves-at.is)
    (all_from (λ mv. move_arc mv < length c.args.known.now.histories) c.args.moves.now c.args.from c.loop-at.at c.index-moves-at.result
    c.requires.arcs c.loop-at.invariant.later c.loop-at-test.true)
