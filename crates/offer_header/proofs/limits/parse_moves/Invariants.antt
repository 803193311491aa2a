use Rattle.std.proofs.Common.{◌≡◌, drop}
use Rattle.offer_moves.specs.Lists.{collected_results}
use Rattle.offer_moves.proofs.Lists.{with_front}
use Rattle.offer_moves.specs.Moves.{parse_move}
use Rattle.offer_header.proofs.limits.parse_moves.Given as goal

abbrev pub invariant-loop-mv : goal.invariant-loop-mv
invariant-loop-mv l = with_front l.list.items (collected_results (parse_move l.sizes l.names l.line) (drop l.mv-index l.moves))
    ≡ collected_results (parse_move l.sizes l.names l.line) l.moves
