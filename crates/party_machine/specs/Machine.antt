-- What callers see of a machine, and what a call leaves of it.
use Rattle.std.specs.Prelude.{◌≡◌, ℕ, List, [], ◌++◌, length, replicate, set, Option, Some, None, Result, Ok, Err}
use Rattle.swap_digraph.specs.declared.deal.Deal.{Deal}
use Rattle.hashkey_path.specs.declared.hashkey.Hashkey.{Hashkey}
use Rattle.ledger_core.specs.declared.entry.Call.{Call}
use Rattle.ledger_core.specs.declared.entry.Entry.{Entry}
use Rattle.ledger_core.specs.Book.{Histories, history}
use Rattle.swap_rules.specs.Due.{Action, due, first}
use Rattle.swap_rules.specs.Machine.{noted}
use Rattle.party_wallet.specs.Value.{WalletState, signed_hashkey}
use Rattle.party_machine.specs.Wallet.{seed_wallet}
use Rattle.party_wallet.specs.Fits.{find_wrong_lock}
use Rattle.party_machine.specs.declared.misfit.Misfit.{Misfit}
use Rattle.party_machine.specs.declared.misfit.Misfit.TheVariants.{WrongWallet}

pub record MachineState : Type 0 where
  pub deal : Deal
  pub me : ℕ
  pub seed : List ℕ
  -- what it knows: one history per arc
  pub known : Histories
  -- the hashkey that it signed for each lock
  pub signed : List (Option Hashkey)

-- the machine of v, which knows nothing and signed nothing
abbrev pub new_machine : Deal → ℕ → List ℕ → MachineState
new_machine d v seed = record { deal = d; me = v; seed = seed; known = replicate (length d.graph.arcs) []; signed = replicate (length d.leaders) None }

abbrev pub machine_or : Deal → ℕ → List ℕ → Option ℕ → Result MachineState Misfit
machine_or d v seed None = Ok (new_machine d v seed)
machine_or d v seed (Some i) = Err (WrongWallet i)

-- the machine of v with the wallet's seed, or the least lock for which the wallet lacks what the
-- deal states of v
abbrev pub fresh_machine : Deal → ℕ → WalletState → Result MachineState Misfit
fresh_machine d v w = machine_or d v w.seed (find_wrong_lock d v w)

-- the machine of v, which knows nothing, with the hashkeys that it signed before
abbrev pub resumed_machine : Deal → ℕ → List ℕ → List (Option Hashkey) → MachineState
resumed_machine d v seed signed = record { deal = d; me = v; seed = seed; known = replicate (length d.graph.arcs) []; signed = signed }

abbrev pub resumed_or : Deal → ℕ → List ℕ → List (Option Hashkey) → Option ℕ → Result MachineState Misfit
resumed_or d v seed signed None = Ok (resumed_machine d v seed signed)
resumed_or d v seed signed (Some i) = Err (WrongWallet i)

-- the machine of v with the hashkeys that it signed before, or the least lock for which the wallet
-- lacks what the deal states of v
abbrev pub resumed_if_fitting : Deal → ℕ → WalletState → List (Option Hashkey) → Result MachineState Misfit
resumed_if_fitting d v w signed = resumed_or d v w.seed signed (find_wrong_lock d v w)

-- after more entries of arc a
abbrev pub learnt : MachineState → ℕ → List Entry → MachineState
learnt m a more = record { deal = m.deal; me = m.me; seed = m.seed; known = set m.known a (history m.known a ++ more); signed = m.signed }

-- an arc with a call on it
abbrev pub due_action : ℕ × Call → Action
due_action x = record { arc = x.0; call = x.1 }

-- the first of what is due for a machine
abbrev pub next_due : MachineState → Option Action
next_due m = first (due m.deal m.me (seed_wallet m.seed m.me m.deal) (signed_hashkey m.signed) m.known)

-- the hashkeys that were signed, after a call, if any
abbrev pub noted_if_called : (ℕ → Option Hashkey) → Option (ℕ × Call) → ℕ → Option Hashkey
noted_if_called signed None = signed
noted_if_called signed (Some x) = noted signed x.1

-- The machine is of the same party and deal, and knows the same.
pub record IsOfSame (old new : MachineState) : Type 0 where
  pub deal : new.deal ≡ old.deal
  pub me : new.me ≡ old.me
  pub seed : new.seed ≡ old.seed
  pub known : new.known ≡ old.known
  pub places : length new.signed ≡ length old.signed
