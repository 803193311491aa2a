use Rattle.std.proofs.Common.{◌≡◌, drop, nat_eq}
use Rattle.std.specs.List.{list_any}
use Rattle.swap_offer.proofs.wallets.is_listed.Given as goal

abbrev pub invariant-loop-v : goal.invariant-loop-v
invariant-loop-v l = list_any (nat_eq l.p) (drop l.v-index l.via) ≡ list_any (nat_eq l.p) l.via
