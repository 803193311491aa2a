-- A machine that acts through passes.
use Rattle.std.specs.Prelude.{◌≡◌, ◌<◌, [], length}
use Rattle.party_wallet.specs.Value.{signed_hashkey}
use Rattle.party_machine.specs.Machine.{MachineState}
use Rattle.party_machine.specs.Wallet.{seed_wallet}
use Rattle.swap_rules.specs.Accepted.{IsAccepted}
use Rattle.swap_rules.specs.Machine.{IsWallet, IsSound}
use Rattle.party_threads.specs.Tracks.{Watcher}

-- the party of a machine, with what it knows
abbrev pub watcher : MachineState → Watcher
watcher m = record { deal = m.deal; me = m.me; known = m.known }

-- all of the machine but what it knows
abbrev pub machine_rest : MachineState → MachineState
machine_rest m = record m { known = [] }

-- The machine can act: its deal is accepted, its wallet is good, and its calls so far kept its
-- rules.
pub record IsAble (m : MachineState) : Type 0 where
  pub accepted : IsAccepted m.deal
  pub wallet : IsWallet m.deal m.me (seed_wallet m.seed m.me m.deal)
  pub party : m.me < m.deal.graph.n
  pub arcs : length m.known ≡ length m.deal.graph.arcs
  pub signs : length m.signed ≡ length m.deal.leaders
  pub sound : IsSound m.deal m.known (signed_hashkey m.signed) m.me
