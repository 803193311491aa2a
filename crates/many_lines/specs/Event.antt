-- The event of a line of many swaps.
use Rattle.std.specs.Prelude.{◌≡◌, ℕ, ◌==◌, Bool, true, false, nat_lt, List, [], ◌∷◌, length, codes}
use Rattle.std.specs.Prelude.{Result, Ok, Err, if◌then◌else◌}
use Rattle.swap_base.specs.Fault.{◌>>=◌}
use Rattle.swap_base.specs.declared.fault.Fault.{Fault}
use Rattle.swap_base.specs.declared.fault.Fault.TheVariants.{NoMemory, Refused}
use Rattle.swap_job.specs.declared.job.Job.{Job}
use Rattle.swap_job.specs.declared.event.Event.{Event}
use Rattle.swap_job.specs.declared.event.Event.TheVariants as events
use Rattle.command_input.specs.declared.reason.Reason.{Reason}
use Rattle.command_input.specs.declared.reason.Reason.TheVariants.{NotConforming, OverLimit}
use Rattle.command_input.specs.declared.refusal.Refusal.{Refusal}
use Rattle.command_input.specs.Refusal.{refusal}
use Rattle.offer_events.specs.Event.{parse_event}
use Rattle.transcript_book.specs.Between.{separated_parts}
use Rattle.transcript_book.specs.Reading.{is_word, bounded_number}
use Rattle.many_lines.specs.Fields.{parse_payment_fields, parse_sweep_fields, parse_chain_tick}
use Rattle.swap_many.specs.declared.many_event.ManyEvent.{ManyEvent}
use Rattle.swap_many.specs.declared.many_event.ManyEvent.TheVariants.{Tick, In, Pay, Sweep}
use Rattle.many_lines.specs.Heading.{bad, bad_many_line, by_fields}
use Rattle.many_lines.specs.Places.{job_of_swap}
use Rattle.many_lines.specs.declared.many_job.ManyJob.{ManyJob}

-- up to a line's first space, and after it
abbrev pub before_space : List ℕ → List ℕ
before_space [] = []
before_space (b ∷ bs) = if b == 32 then [] else b ∷ before_space bs

abbrev pub after_space : List ℕ → List ℕ
after_space [] = []
after_space (b ∷ bs) = if b == 32 then bs else after_space bs

unfoldable pub tick_told : ManyJob → ℕ → List ℕ → Result ManyEvent Refusal
tick_told many line rest = do
  t ← by_fields line (parse_chain_tick (length many.names) (separated_parts 32 rest))
  Ok (Tick t.0 t.1)

unfoldable pub payment_told : ManyJob → ℕ → List ℕ → Result ManyEvent Refusal
payment_told many line rest = do
  p ← by_fields line (parse_payment_fields many.names (separated_parts 32 rest))
  Ok (Pay p.chain p.from p.to p.units)

-- the number is that of a swap, with an arc of that number
abbrev pub is_slot : List Job → ℕ → ℕ → Bool
is_slot jobs s a = if nat_lt s (length jobs) then nat_lt a (length (job_of_swap jobs s).deal.graph.arcs) else false

unfoldable pub sweep_told : ManyJob → ℕ → List ℕ → Result ManyEvent Refusal
sweep_told many line rest = do
  t ← by_fields line (parse_sweep_fields (separated_parts 32 rest))
  if is_slot many.jobs t.0 t.1 then Ok (Sweep t.0 t.1) else bad line

-- an event of a swap is no tick, since chains tick, and no crash
abbrev pub own_event : ℕ → ℕ → Event → Result ManyEvent Refusal
own_event line s (events.Tick a k) = bad line
own_event line s (events.Crash p k image) = bad line
own_event line s e = Ok (In s e)

-- only a crash is refused so
abbrev pub is_of_crash : Fault Reason → Bool
is_of_crash (Refused (NotConforming line)) = true
is_of_crash _ = false

-- a crash has no form that may stand in the line, whoever crashes
abbrev pub against_event : ℕ → List (List ℕ) → Reason → Refusal
against_event line names reason = if is_of_crash (Refused reason) then bad_many_line line else refusal names reason

abbrev pub with_reason : ℕ → List (List ℕ) → Result Event Reason → Result Event Refusal
with_reason line names (Ok e) = Ok e
with_reason line names (Err reason) = Err (against_event line names reason)

-- the fault of an event's line, or memory ran out
abbrev pub event_fault : ℕ → List (List ℕ) → Fault Reason → Fault Refusal
event_fault line names (Refused reason) = Refused (against_event line names reason)
event_fault line names NoMemory = NoMemory

abbrev pub IsEventRefusal : ℕ → List (List ℕ) → Fault Reason → Fault Refusal → Type 0
IsEventRefusal line names fault NoMemory = Unit {0}
IsEventRefusal line names fault (Refused refusal) = event_fault line names fault ≡ Refused refusal

-- an event line of swap s
unfoldable pub read_raw_event : ℕ → ℕ → Job → List ℕ → Result ManyEvent Refusal
read_raw_event line s job text = do
  e ← with_reason line job.names (parse_event job line text)
  own_event line s e

-- an event line behind the number of its swap
unfoldable pub swap_told : ManyJob → ℕ → List ℕ → List ℕ → Result ManyEvent Refusal
swap_told many line word text =
    if length text == 0 then bad line else (by_fields line (bounded_number (length many.jobs) word) >>= λ s. read_raw_event line s (job_of_swap many.jobs s) text)

abbrev pub parse_told : ManyJob → ℕ → List ℕ → List ℕ → Result ManyEvent Refusal
parse_told many line word rest =
    if is_word word (codes "tick") then tick_told many line rest
    else if is_word word (codes "pay") then payment_told many line rest
    else if is_word word (codes "sweep") then sweep_told many line rest
    else swap_told many line word rest

-- the event of a line, given the number of event lines before it: the line's first field decides
-- how it is read
unfoldable pub next_told : ManyJob → ℕ → ℕ → List ℕ → Result ManyEvent Refusal
next_told many count line text =
    if count == 200000 then Err (refusal [] (OverLimit line (codes "events") 200001)) else parse_told many line (before_space text) (after_space text)
