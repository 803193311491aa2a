use Rattle.std.proofs.Common.{◌≡◌, map, drop}
use Rattle.swap_base.specs.Fault.{steps}
use Rattle.offer_header.specs.Names.{move_known}
use Rattle.offer_header.proofs.names.check_moves.Given as goal

abbrev pub invariant-loop-mv : goal.invariant-loop-mv
invariant-loop-mv l = steps (λ u mv. move_known l.line (map (λ k. k.now) l.all.keys) mv) tt (drop l.mv-index l.moves) ≡ steps
    (λ u mv. move_known l.line (map (λ k. k.now) l.all.keys) mv) tt l.moves
