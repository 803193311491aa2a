-- A party that asks what is useful to it.
use Rattle.std.specs.Prelude.{◌≡◌, ◌<◌, ℕ, Bool, List, Option, length}
use Rattle.swap_digraph.specs.Deal.{IsWellSized}
use Rattle.hashkey_path.specs.declared.hashkey.Hashkey.{Hashkey}
use Rattle.ledger_core.specs.Book.{Histories, history, IsLegalBook}
use Rattle.history_index.specs.Indexes.{all_entries, AreIndexes}
use Rattle.swap_rules.specs.Due.{Wallet, Action, has_called, unlocks_lock}
use Rattle.answer_rules.specs.Stopped.{unlocks_unless_stopped}
use Rattle.party_wallet.specs.Value.{signed_hashkey}
use Rattle.party_machine.specs.Wallet.{seed_wallet}
use Rattle.useful_calls.specs.Actions.{is_lock_stopped}
use Rattle.useful_calls.specs.Landing.{landing_height}
use Rattle.useful_calls.specs.declared.asker.Asker.{Asker}

-- the entries that it knows, by arc
abbrev pub known_entries : Asker → Histories
known_entries p = all_entries p.known.now

-- what its seed signs
abbrev pub asker_wallet : Asker → Wallet
asker_wallet p = seed_wallet p.signer.seed.now p.me p.deal.now

-- the hashkey that it kept for a lock, if any
abbrev pub asker_key : Asker → ℕ → Option Hashkey
asker_key p = signed_hashkey p.signer.kept.now.keys

-- at which height a call lands that it presents now
abbrev pub asker_at : Asker → ℕ → ℕ
asker_at p = landing_height (known_entries p) p.told.now

-- whether a lock is stopped for it
abbrev pub is_stopped : Asker → ℕ → Bool
is_stopped p = is_lock_stopped p.signer.stopped.now

-- whether it made an unlock for lock i on arc a, whatever the reply
abbrev pub has_unlocked : Asker → ℕ → ℕ → Bool
has_unlocked p i a = has_called p.me (unlocks_lock i) (history (known_entries p) a)

-- the unlocks for lock i that are useful to it, none where the lock is stopped
abbrev pub asker_unlocks : Asker → ℕ → List Action
asker_unlocks p = unlocks_unless_stopped (is_stopped p) p.deal.now p.me (asker_at p) (asker_wallet p) (asker_key p) (known_entries p)

-- It is a party of its deal, knows a legal book of it, and has a place for each lock's hashkey.
pub record IsDealAsker (p : Asker) : Type 0 where
  pub sized : IsWellSized p.deal.now
  pub me : p.me < p.deal.now.graph.n
  pub known : AreIndexes p.deal.now p.known.now
  pub legal : IsLegalBook p.deal.now (known_entries p)
  pub kept : length p.signer.kept.now.keys ≡ length p.deal.now.leaders
