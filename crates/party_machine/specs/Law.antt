-- What fits a deal is a good wallet.
use Rattle.std.specs.Prelude.{◌≡◌, ℕ, ◌<◌, List, None}
use Rattle.swap_digraph.specs.declared.deal.Deal.{Deal}
use Rattle.swap_rules.specs.Accepted.{IsAccepted}
use Rattle.swap_rules.specs.Machine.{IsWallet}
use Rattle.party_machine.specs.Wallet.{seed_wallet}
use Rattle.party_wallet.specs.Fits.{wrong_lock}

-- if a seed has what an accepted deal states of v, each hashkey that v signs with it is valid on
-- every arc that enters v, and has the origin that conduct asks for
abbrev pub FittingIsGood : Type 0
FittingIsGood = (d : Deal) (v : ℕ) (seed : List ℕ) → IsAccepted d → v < d.graph.n → wrong_lock d v seed ≡ None → IsWallet d v (seed_wallet seed v d)
