-- The hashkey of an unlock that is due.
use Rattle.std.specs.Prelude.{◌≡◌, ℕ, ◌<◌, true, length, Option, Some, None}
use Rattle.swap_base.specs.Lists.{or_else}
use Rattle.swap_digraph.specs.declared.deal.Deal.{Deal}
use Rattle.swap_digraph.specs.Deal.{path_limit}
use Rattle.hashkey_path.specs.declared.hashkey.Hashkey.{Hashkey}
use Rattle.ledger_core.specs.Book.{Histories}
use Rattle.party_wallet.specs.Value.{signed_hashkey}
use Rattle.due_calls.specs.Unlocks.{make_due_key}
use Rattle.due_calls.specs.declared.unlock_due.UnlockDue.{UnlockDue}
use Rattle.party_wallet.specs.Value.{WalletState}
use Rattle.wallet_journal.specs.Layout.{are_bounded}
use Rattle.party_machine.specs.Wallet.{seed_wallet}

-- A hashkey for lock i that the party can put its signature onto.
abbrev pub IsSignable : Deal → ℕ → Option Hashkey → Type 0
IsSignable d i None = ⊥
IsSignable d i (Some k) = (k.lock ≡ i) × (length k.path < path_limit d) × (length k.sigs ≡ length k.path) × (are_bounded d.graph.n k.path ≡ true)

-- where a due unlock's hashkey comes from, over what is known
abbrev pub base_key : Deal → WalletState → Histories → UnlockDue → Option Hashkey
base_key d w k u = make_due_key (seed_wallet w.seed w.party d) (signed_hashkey w.signed) k u.lock u.base

-- the hashkey that was signed for the lock, or else that one
abbrev pub due_hashkey : Deal → WalletState → Histories → UnlockDue → Option Hashkey
due_hashkey d w k u = or_else (signed_hashkey w.signed u.lock) (base_key d w k u)
