use Rattle.std.proofs.Common.{◌≡◌, ◌++◌, drop, length}
use Rattle.swap_base.specs.Text.{pieces_text}
use Rattle.swap_base.proofs.pieces.put_each.Given as goal

abbrev pub invariant-loop-piece : goal.invariant-loop-piece
invariant-loop-piece l =
    (l.out.items ++ pieces_text (drop l.piece-index l.pieces) ≡ l.fn.out.items ++ pieces_text l.pieces)
    × (l.out.items ≡ l.fn.out.items ++ drop (length l.fn.out.items) l.out.items)
