-- Where slots are swept: what the party of a call is told, what want of memory leaves of a world,
-- and the tick of a chain.
use Rattle.std.specs.Prelude.{ℕ, Bool, false, List, fold, slice_index_or, Option, Some, None, if◌then◌else◌}
use Rattle.swap_digraph.specs.declared.deal.Deal.{Deal}
use Rattle.ledger_core.specs.declared.entry.Call.{Call}
use Rattle.ledger_core.specs.declared.entry.Entry.{Entry}
use Rattle.ledger_core.specs.History.{history_reply}
use Rattle.ledger_core.specs.Book.{history}
use Rattle.swap_job.specs.declared.event.Event.{Event}
use Rattle.swap_job.specs.declared.event.Event.TheVariants.{Tick}
use Rattle.swap_run.specs.Run.{Cast, State, step}
use Rattle.swap_run.specs.Called.{Called, called, is_barred, apply_step}
use Rattle.swap_world.specs.Value.{WorldState}
use Rattle.swap_world.specs.Gone.{MayGive, IsCutMidway}
use Rattle.swap_world.specs.declared.call_outcome.Told.{Told}
use Rattle.swap_world.specs.declared.call_outcome.Told.TheVariants.{Nothing, Passed, Replied}

-- whether the slot of arc a is swept, by a list that is empty where none is
abbrev pub is_slot_swept : List Bool → ℕ → Bool
is_slot_swept swept a = slice_index_or swept a false

-- what party p is told of its call on arc a, over that history
abbrev pub call_told : (swept : Bool) → Deal → (a p : ℕ) → Call → List Entry → Told
call_told swept d a p c h = if is_barred swept h c then Passed else Replied (history_reply d a h p c)

-- what is told of a call, if there is one
abbrev pub told_of_call : (ℕ → Bool) → Cast → State → Option Called → Told
told_of_call swept c s None = Nothing
told_of_call swept c s (Some x) = call_told (swept x.arc) c.deal x.arc x.sender x.call (history s.book x.arc)

-- what a party is told of the call that an event makes, if any
abbrev pub event_told : (ℕ → Bool) → Cast → State → Event → Told
event_told swept c s e = told_of_call swept c s (called c s e)

-- Memory ran out in an event: the histories are those before it or after it.
abbrev pub IsCutWithSweeps : MayGive → (swept : ℕ → Bool) → Event → (old new : WorldState) → Type 0
IsCutWithSweeps gives swept event old new = IsCutMidway gives (λ c s. apply_step swept c s event) old new

-- the ledger of arc a ticks by k
abbrev pub tick_arc : ℕ → Cast → State → ℕ → State
tick_arc k c s a = step c s (Tick a k)

-- each ledger of these arcs ticks, in order
abbrev pub tick_arcs : List ℕ → ℕ → Cast → State → State
tick_arcs on k c s = fold (tick_arc k c) s on
