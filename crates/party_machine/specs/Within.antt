-- What the fields of a machine mean, and what holds of them.
use Rattle.std.specs.Prelude.{◌≡◌, ◌<◌, ℕ, List, length, map, Some, None}
use Rattle.swap_digraph.specs.Graph.{arcs}
use Rattle.swap_digraph.specs.Deal.{IsWellSized}
use Rattle.swap_digraph.specs.declared.deal.Deal.{Deal}
use Rattle.hashkey_path.specs.declared.hashkey.Hashkey.{Hashkey}
use Rattle.ledger_core.specs.Book.{IsLegalBook}
use Rattle.history_index.specs.Value.{IndexState}
pub use Rattle.history_index.specs.Indexes.{all_entries, AreIndexes}
use Rattle.party_wallet.specs.Value.{signed_hashkey}
use Rattle.party_wallet.specs.Value.{WalletState}
use Rattle.party_wallet.specs.Fits.{wrong_lock}
use Rattle.party_machine.specs.Machine.{MachineState}
use Rattle.party_machine.specs.Rest.{MayRest}
use Rattle.party_machine.specs.declared.machine.Machine.TheInside.{Inside}

-- what its fields show
abbrev pub inside_machine : Inside → MachineState
inside_machine m = record { deal = m.deal; me = m.wallet.party; seed = m.wallet.seed; known = all_entries m.known.items; signed = m.wallet.signed }

-- The wallet has what the deal states of its party, and each hashkey in it is for its lock.
pub record IsPartyWallet (d : Deal) (w : WalletState) : Type 0 where
  pub party : w.party < d.graph.n
  pub mode : w.mode ≡ d.mode
  pub places : length w.signed ≡ length d.leaders
  pub fits : wrong_lock d w.party w.seed ≡ None
  pub locks : (i : ℕ) (k : Hashkey) → signed_hashkey w.signed i ≡ Some k → k.lock ≡ i

-- The wallet is the party's, and what is known is a legal book.
pub record IsReadyWallet (d : Deal) (w : WalletState) (known : List IndexState) : Type 0 where
  pub sized : IsWellSized d
  pub partys : IsPartyWallet d w
  pub indexes : AreIndexes d known
  pub arcs : map (λ x. x.arc) known ≡ arcs d.graph
  pub legal : IsLegalBook d (all_entries known)

-- The machine is ready, and where it rests, it may.
pub record IsKeptMachine (m : Inside) : Type 0 where
  pub ready : IsReadyWallet m.deal m.wallet m.known.items
  pub rests : MayRest m.rest (inside_machine m)
