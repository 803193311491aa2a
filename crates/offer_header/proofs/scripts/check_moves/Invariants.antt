use Rattle.std.proofs.Common.{◌≡◌, drop}
use Rattle.swap_base.specs.Fault.{steps}
use Rattle.offer_moves.specs.Placed.{placed}
use Rattle.offer_header.proofs.scripts.check_moves.Given as goal

abbrev pub invariant-loop-mv : goal.invariant-loop-mv
invariant-loop-mv l = steps (λ u mv. placed l.arcs l.conforming l.line l.p mv) tt (drop l.mv-index l.moves) ≡ steps
    (λ u mv. placed l.arcs l.conforming l.line l.p mv) tt l.moves
