-- A run on disks. Its state holds, beside what a run's state holds, what each party's disk holds. An
-- act records the hashkey that it signs by the four disk calls, and a crash goes through what the
-- disk leaves.
use Rattle.std.specs.Prelude.{ℕ, List, [], map, fold, slice_set, slice_index_or, length, Option, Some, None, if◌then◌else◌}
use Rattle.std.specs.List.{range_with_len}
use Rattle.swap_digraph.specs.declared.deal.Deal.{Deal}
use Rattle.hashkey_path.specs.declared.hashkey.Hashkey.{Hashkey}
use Rattle.wallet_journal.specs.Layout.{recorded}
use Rattle.wallet_journal.specs.Held.{Held, visible_bytes}
use Rattle.wallet_journal.specs.Memory.{crashed}
use Rattle.swap_job.specs.declared.event.Event.{Event}
use Rattle.swap_job.specs.declared.event.Event.TheVariants.{Tick, Look, Act, Call as Made, Crash}
use Rattle.party_machine.specs.Recording.{new_key}
use Rattle.swap_run.specs.Run.{Cast, State, conforms, state_notes, next_action, act, relearnt, step, start}
use Rattle.disk_laws.specs.DiskCalls.{after_disk_calls, begun_calls, new_disk}

-- The state of a run, and what the disk of each party holds. The disk of a party that doesn't
-- conform is never used.
pub record StateOnDisks : Type 0 where
  pub state : State
  pub disks : List Held

-- the disk of party v
abbrev pub party_disk : StateOnDisks → ℕ → Held
party_disk s v = slice_index_or s.disks v (record { synced = []; loose = []; spare = 0 })

-- the hashkey that v signs in its act, if it signs one
abbrev pub act_key : Cast → State → ℕ → Option Hashkey
act_key c s v = new_key (state_notes s v).signed (next_action c s v)

-- what is held behind the first n disk calls of an act, which makes none where it signs nothing
abbrev pub held_behind : ℕ → Option Hashkey → Held → Held
held_behind n None h = h
held_behind n (Some key) h = after_disk_calls n key h

-- the disk of party v behind the first n disk calls of its act
abbrev pub disk_behind : Cast → StateOnDisks → ℕ → (n : ℕ) → Held
disk_behind c s v n = held_behind n (act_key c s.state v) (party_disk s v)

-- the disk of party v where its act stops within disk call k and a crash with this image comes
abbrev pub crashed_disk : Cast → StateOnDisks → ℕ → (k image : ℕ) → Held
crashed_disk c s v k image = crashed image (disk_behind c s v (begun_calls k))

-- the hashkeys that bytes have recorded, lock by lock
abbrev pub read_back : Deal → List ℕ → List (Option Hashkey)
read_back d bytes = map (recorded bytes) (range_with_len 0 (length d.leaders))

-- v restarts: it knows what these bytes have recorded, and learns each ledger that touches it to its
-- end
abbrev pub restart_from : Cast → State → ℕ → List ℕ → State
restart_from c s v bytes = record s { notes = slice_set s.notes v (record { known = relearnt c.deal v s.book; signed = read_back c.deal bytes }) }

-- v records the hashkey that it signs, if it signs one, and then makes its call
abbrev pub act_on_disk : Cast → StateOnDisks → ℕ → StateOnDisks
act_on_disk c s v = record { state = act c s.state v; disks = slice_set s.disks v (disk_behind c s v 4) }

-- v begins its act, is stopped within disk call k, and restarts with what a crash leaves of its disk
abbrev pub crash_on_disk : Cast → StateOnDisks → ℕ → (k image : ℕ) → StateOnDisks
crash_on_disk c s v k image = record {
  state = restart_from c s.state v (visible_bytes (crashed_disk c s v k image));
  disks = slice_set s.disks v (crashed_disk c s v k image);
}

-- an event that uses no disk
abbrev pub step_beside_disks : Cast → StateOnDisks → Event → StateOnDisks
step_beside_disks c s e = record { state = step c s.state e; disks = s.disks }

-- what an event does
abbrev pub step_on_disks : Cast → StateOnDisks → Event → StateOnDisks
step_on_disks c s (Tick a k) = step_beside_disks c s (Tick a k)
step_on_disks c s (Look v a) = step_beside_disks c s (Look v a)
step_on_disks c s (Act v) = if conforms c v then act_on_disk c s v else step_beside_disks c s (Act v)
step_on_disks c s (Made v mv) = step_beside_disks c s (Made v mv)
step_on_disks c s (Crash v k image) = crash_on_disk c s v k image

-- before any event, each party's disk has a new journal
abbrev pub start_on_disks : Cast → StateOnDisks
start_on_disks c = record { state = start c; disks = map (new_disk c.deal) (range_with_len 0 c.deal.graph.n) }

-- the state after a list of events
abbrev pub continued_on_disks : Cast → StateOnDisks → List Event → StateOnDisks
continued_on_disks c s events = fold (step_on_disks c) s events

-- the state after a list of events, from the start
abbrev pub run_on_disks : Cast → List Event → StateOnDisks
run_on_disks c events = continued_on_disks c (start_on_disks c) events
