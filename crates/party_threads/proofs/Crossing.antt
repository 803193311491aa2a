-- A turn may be handed to a thread.
use denote.RattleType.{RattleType}
use denote.Param.Send.{IsSend, sendable}
use denote.Param.SendFields.{declared_send, owner_send}
use Rattle.std.specs.contracts.option.Option as Option
use Rattle.std.specs.contracts.marker.PhantomData as Mark
use Rattle.std.proofs.Crossing.{Vec-send, crosses}
use Rattle.swap_base.specs.contracts.ghost_list.GhostList as GhostList
use Rattle.atomic_table.proofs.shared.Seat.TheSendSync as Seat
use Rattle.party_wallet.specs.contracts.wallet.Wallet as Wallet
use Rattle.history_index.specs.contracts.made.Made as Made
use Rattle.history_index.specs.contracts.index.Index as Index
use Rattle.ledger_core.specs.contracts.boxed_entry.BoxedEntry as BoxedEntry
use Rattle.ledger_core.specs.contracts.ledger_history.LedgerHistory as History
use Rattle.ledger_core.specs.contracts.entry_list.EntryList as EntryList
use Rattle.ledger_core.specs.contracts.ledger.Ledger as Ledger
use Rattle.ledger_shared.specs.contracts.shelf.Shelf as Shelf
use Rattle.ledger_shared.specs.contracts.seat.LedgerSeat as LedgerSeat
use Rattle.party_machine.specs.contracts.machine.Machine as Machine
use Rattle.swap_run.specs.contracts.planner.Planner as Planner
use Rattle.ledger_shared.specs.contracts.pass.Pass as Pass
use Rattle.ledger_shared.specs.contracts.pass.ClockPass as ClockPass
use Rattle.party_threads.specs.contracts.turn.Actor as Actor
use Rattle.party_threads.specs.contracts.turn.Turn as Turn

wallet : IsSend Wallet.the_row
wallet = search (sendable, crosses) depth 60 fits 100000

mark : (T : RattleType) → IsSend (Mark.the_row T)
mark T = search sendable

-- what only clauses read crosses anywhere
past : (T : RattleType) → IsSend (GhostList.the_row T)
past T = owner_send (GhostList.the_type T) (mark T, tt) (λ d. tt) (λ k d w. tt)

made : IsSend Made.the_row
made = search (sendable, crosses) depth 60 fits 100000

index : IsSend Index.the_row
index = search (past, made, sendable, crosses) depth 60 fits 100000

option : (T : RattleType) → IsSend T → IsSend (Option.the_row T)
option T s = search sendable depth 20

machine : IsSend Machine.the_row
machine = search (wallet, index, sendable, crosses) depth 60 fits 100000

boxed_entry : IsSend BoxedEntry.the_row
boxed_entry = search (sendable, crosses) depth 60 fits 100000

history : IsSend History.the_row
history = search (boxed_entry, sendable, crosses) depth 60 fits 100000

entry_list : IsSend EntryList.the_row
entry_list = search (history, sendable, crosses) depth 60 fits 100000

planner : IsSend Planner.the_row
planner = search (entry_list, sendable, crosses) depth 60 fits 100000

ledger : IsSend Ledger.the_row
ledger = search (history, sendable, crosses) depth 60 fits 100000

shelf : IsSend Shelf.the_row
shelf = search (ledger, sendable, crosses) depth 60 fits 100000

seat : IsSend LedgerSeat.the_row
seat = search (shelf, Seat.the_send, sendable, crosses) depth 60 fits 100000

pass : IsSend Pass.the_row
pass = search (seat, sendable, crosses) depth 60 fits 100000

clock_pass : IsSend ClockPass.the_row
clock_pass = search (seat, sendable, crosses) depth 60 fits 100000

actor : IsSend Actor.the_row
actor = search (machine, planner, sendable, crosses) depth 60 fits 100000

pub turn : IsSend Turn.the_row
turn =
    let passes = Vec-send (Option.the_row Pass.the_row) (option Pass.the_row pass) in
    let clocks = Vec-send (Option.the_row ClockPass.the_row) (option ClockPass.the_row clock_pass) in
    declared_send Turn.the_type (actor, (passes, (clocks, (search sendable, tt))))
