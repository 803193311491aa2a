-- The book of a run whose job and events were read holds digests.
use Rattle.std.proofs.Common.{◌≡◌, ◌<◌, ℕ, Bool, List, [], ◌∷◌, length, Option, Some, None, Ok, refl, sym}
use Rattle.std.specs.Prelude.{All, slice_index_or}
use Rattle.swap_digraph.specs.declared.deal.Deal.{Deal}
use Rattle.ledger_core.specs.declared.entry.Call.{Call}
use Rattle.swap_job.specs.declared.event.Event.{Event}
use Rattle.swap_job.specs.declared.job.Job.{Job}
use Rattle.swap_job.specs.declared.job.Purpose.TheVariants as purposes
use Rattle.swap_run.specs.Asked.{Answers}
use Rattle.swap_run.specs.Run.{Question}
use Rattle.swap_world.specs.Cast.{signing_wallet}
use Rattle.swap_offer.specs.Job.{parse_events, parse_header_job, parse_job, job_of_lines}
use Rattle.command_input.specs.Lines.{filled_lines, collect_lines}
use Rattle.swap_commands.specs.Output.{AreGiven, command_cast, run_state}
use Rattle.swap_main.specs.KnownStrategies.{by_rule}
use Rattle.read_back.specs.Headers.{IsShowable}
use Rattle.read_back.proofs.Onward.{landed, onward}
use Rattle.read_back.proofs.Showable.{read_is_showable}
use Rattle.program_laws.specs.RunDigests.{KeepsDigests, NamedStrategyRule, RunsHoldDigests}
use Rattle.program_laws.proofs.Hashes.{May, WalletHas, onto_has, own_has}
use Rattle.program_laws.proofs.Calls.{AnswerHas, BookHas}
use Rattle.program_laws.proofs.States.{EventHas, StateHas, whole_has}
use Rattle.program_laws.proofs.Reading.{JobHas, events_have, header_job_has}

-- what was read of a job and its events
record AreRead (j : Job × List Event) : Type 0 where
  showable : IsShowable j.0
  scripts : JobHas j.0
  events : All EventHas j.1

lines_are_read : (has : List ℕ → Bool) (ls : List (ℕ × List ℕ)) (j : Job × List Event) → job_of_lines has purposes.Run ls ≡ Ok j → AreRead j
lines_are_read has [] j e = absurd (cc e)
lines_are_read has (l ∷ ls) j e =
    onward (parse_header_job has purposes.Run l.0 l.1) _ AreRead (λ job h.
    onward (parse_events job 0 ls) _ AreRead (λ events e.
    landed (job, events) AreRead (record {
      showable = read_is_showable has purposes.Run l.0 l.1 job refl h;
      scripts = header_job_has has purposes.Run l.0 l.1 job h;
      events = events_have job 0 ls events e;
    }))) j e

is_read : (has : List ℕ → Bool) (input : List ℕ) (j : Job × List Event) → parse_job has purposes.Run input ≡ Ok j → AreRead j
unfolding parse_job
is_read has input j e = lines_are_read has (filled_lines 1 (collect_lines input)) j e

wallet_has : (o : Option (List ℕ)) (v : ℕ) (d : Deal) → WalletHas (signing_wallet o v d)
wallet_has (Some seed) v d = record { first = own_has d.mode d v seed; onto = onto_has d.mode d v seed }
wallet_has None v d = record { first = own_has d.mode d v []; onto = onto_has d.mode d v [] }

module _ (rule : NamedStrategyRule) (keeps : KeepsDigests rule) (answers : Answers) (job : Job) (events : List Event) (k : AreRead (job, events))
    (given : AreGiven (by_rule rule) job.deal answers (run_state answers job events).asked) where
  wallets : (v : ℕ) → WalletHas ((command_cast answers job).wallet v)
  wallets v = wallet_has (slice_index_or job.seeds v None) v job.deal

  -- an answer that was given holds digests, where its question does
  sure : (i : ℕ) (q : Question) → i < length (run_state answers job events).asked → q ≡ slice_index_or (run_state answers job events).asked i q
      → BookHas q.known → May AnswerHas (answers i)
  sure i q lt is known = by (answers i) (given i q lt is)
    where
      by : (o : Option (ℕ × Call)) → o ≡ rule q.strategy job.deal q.party q.turn q.known → May AnswerHas o
      by None e = tt
      by (Some x) e = keeps q.strategy job.deal q.party q.turn q.known x k.showable.hashlocks (λ a l. known a [] l) (sym e)

  state_has : StateHas (run_state answers job events)
  state_has =
      whole_has (command_cast answers job) k.showable.hashlocks wallets k.scripts (run_state answers job events).asked sure job.finish events k.events refl

pub runs_hold_digests : RunsHoldDigests
runs_hold_digests rule has answers input job events keeps e given = λ a lt.
    (state_has rule keeps answers job events (is_read has input (job, events) e) given).book a [] lt
