-- What is written of several swaps on shared chains, or the first reason why their input is
-- refused.
use Rattle.std.specs.Prelude.{ℕ, List, [], ◌∷◌, is_some, slice_index_or, Option, Some, None, Result, Ok, Err, Bool, if◌then◌else◌}
use Rattle.swap_base.specs.Fault.{◌>>=◌}
use Rattle.swap_job.specs.declared.job.Finish.{Finish}
use Rattle.swap_job.specs.declared.job.Finish.TheVariants.{Stop, Fair}
use Rattle.command_input.specs.declared.reason.Reason.TheVariants.{Overdrawn as LacksUnits}
use Rattle.command_input.specs.declared.refusal.Refusal.{Refusal}
use Rattle.command_input.specs.Refusal.{refusal}
use Rattle.command_input.specs.Lines.{collect_lines, filled_lines}
use Rattle.swap_run.specs.Asked.{Answers}
use Rattle.swap_many.specs.Chains.{Setup}
use Rattle.swap_many.specs.Many.{Run, many_run, many_finish}
use Rattle.swap_many.specs.Kept.{Kept, kept_finish, kept_run}
use Rattle.swap_many.specs.Opened.{overdrawn}
use Rattle.swap_many.specs.declared.many_event.ManyEvent.{ManyEvent}
use Rattle.swap_many.specs.declared.overdrawn.Overdrawn.{Overdrawn}
use Rattle.swap_many.specs.declared.place.Place.{Place}
use Rattle.many_lines.specs.Heading.{HeadingState, stage_finish, finish_told, line_taken, nothing_headed}
use Rattle.many_lines.specs.Places.{find_places}
use Rattle.many_lines.specs.Event.{next_told}
use Rattle.many_lines.specs.Setup.{setup_with_answers}
use Rattle.many_lines.specs.declared.many_job.ManyJob.{ManyJob}
use Rattle.many_text.specs.ManyText.{has_finding, many_text}
use Rattle.command_input.specs.Written.{Written}
use Rattle.swap_commands.specs.Walk.{lines_told}

-- Several swaps, what is done after the last event, and the lines of the events.
pub record Headed : Type 0 where
  pub many : ManyJob
  pub finish : Finish
  pub lines : List (ℕ × List ℕ)

-- the swaps were read, and these lines are left
abbrev pub finished_heading : HeadingState → List (ℕ × List ℕ) → Result Headed Refusal
finished_heading h ls = stage_finish h.stage >>= λ finish. Ok (record { many = h.many; finish = finish; lines = ls })

-- what the lines say from the next one on: those after the line of the finish are the events'
abbrev pub headed_lines : (List ℕ → Bool) → HeadingState → List (ℕ × List ℕ) → Result Headed Refusal
headed_lines has h [] = finished_heading h []
headed_lines has h (l ∷ ls) =
    if is_some (finish_told h.stage) then finished_heading h (l ∷ ls) else (line_taken has h l.0 l.1 >>= λ t. headed_lines has t ls)

abbrev pub headed : (List ℕ → Bool) → List (ℕ × List ℕ) → Result Headed Refusal
headed has ls = headed_lines has nothing_headed ls

-- the events of lines, given the number of event lines before them
abbrev pub events_told : ManyJob → ℕ → List (ℕ × List ℕ) → Result (List ManyEvent) Refusal
events_told many = lines_told (next_told many)

-- the name of an account of a chain
abbrev pub account_name : ManyJob → ℕ → ℕ → List ℕ
account_name many chain account = slice_index_or (slice_index_or many.names chain []) account []

-- what is said of the account that lacks units; the reason speaks of no party
abbrev pub overdrawn_refusal : ManyJob → Overdrawn → Refusal
overdrawn_refusal many l = refusal [] (LacksUnits l.chain (account_name many l.chain l.account) l.have l.wanted)

abbrev pub unless_lacking : ManyJob → Option Overdrawn → List (List Place) → Result (List (List Place)) Refusal
unless_lacking many None places = Ok places
unless_lacking many (Some l) places = Err (overdrawn_refusal many l)

-- the places of the arcs if each account has the units that are set aside from it, or else the
-- refusal that names accounts
unfoldable pub opened_places : ManyJob → Result (List (List Place)) Refusal
opened_places many = find_places many >>= λ places. unless_lacking many (overdrawn (setup_with_answers (λ s k. None) many places)) places

-- what a finish makes of what is kept: nothing more is done, or the fair finish is
abbrev pub kept_after_finish : Finish → Setup → Kept → Kept
kept_after_finish Stop m z = z
kept_after_finish Fair m z = kept_finish m z

-- what is kept after the events and the finish, where the strategies of swap s answer g s
abbrev pub many_state : (ℕ → Answers) → ManyJob → List (List Place) → Finish → List ManyEvent → Kept
many_state g many places finish events = kept_after_finish finish (setup_with_answers g many places) (kept_run (setup_with_answers g many places) events)

-- the run of the same by the histories of the chains
abbrev pub finished_run : Finish → Setup → List ManyEvent → Run
finished_run Stop m events = many_run m events
finished_run Fair m events = many_finish m (many_run m events)

abbrev pub many_written : ManyJob → Kept → Written
many_written many z = record { text = many_text many.jobs many.names z; found = has_finding many.jobs z }

-- what is written of lines: what is said of accounts comes after what is said of every line
unfoldable pub many_of_lines : (List ℕ → Bool) → (ℕ → Answers) → List (ℕ × List ℕ) → Result Written Refusal
many_of_lines has g ls =
    headed has ls >>= λ h. events_told h.many 0 h.lines >>= λ events. opened_places h.many >>= λ places.
    Ok (many_written h.many (many_state g h.many places h.finish events))

-- what is written of an input, where the strategies of swap s answer g s
unfoldable pub many_output : (List ℕ → Bool) → (ℕ → Answers) → List ℕ → Result Written Refusal
many_output has g input = many_of_lines has g (filled_lines 1 (collect_lines input))
