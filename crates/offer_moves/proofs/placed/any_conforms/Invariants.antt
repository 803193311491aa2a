use Rattle.std.proofs.Common.{◌≡◌, false, take}
use Rattle.offer_moves.proofs.Crafters.{any_of}
use Rattle.offer_moves.proofs.placed.any_conforms.Given as goal

abbrev pub invariant-loop-v : goal.invariant-loop-v
invariant-loop-v l = any_of l.conforming (take l.v-index l.via) ≡ false
