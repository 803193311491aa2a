use Rattle.std.proofs.Common.{◌≡◌, drop}
use Rattle.std.specs.List.{list_any}
use Rattle.swap_offer.specs.Wallets.{crafts}
use Rattle.swap_offer.proofs.wallets.crafts_in_one.Given as goal

abbrev pub invariant-loop-mv : goal.invariant-loop-mv
invariant-loop-mv l = list_any (crafts l.p) (drop l.mv-index l.moves) ≡ list_any (crafts l.p) l.moves
