-- A refusal that shows a set or a cycle is one of the checks of a header, and these show what they
-- say.
use Rattle.std.proofs.Common.{◌≡◌, ◌==◌, ◌+◌, ℕ, Bool, true, false, List, [], ◌∷◌, codes, drop, Result, Ok, Err, refl, ap, ◌∙◌}
use Rattle.swap_base.specs.Fault.{◌>>=◌, steps}
use Rattle.swap_base.specs.declared.fault.Fault.TheVariants as fault
use Rattle.swap_job.specs.declared.event.Event.{Event}
use Rattle.swap_job.specs.declared.job.Job.{Job}
use Rattle.swap_job.specs.declared.job.Purpose.{Purpose}
use Rattle.command_input.specs.Refusal.{named_result, refusal}
use Rattle.command_input.specs.declared.reason.Reason.{Reason}
use Rattle.command_input.specs.declared.reason.Reason.TheVariants.{NotFeedback, NotJson, NotStrong, OverLimit}
use Rattle.offer_moves.specs.Fields.{parse_data}
use Rattle.offer_moves.proofs.Chains.{went}
use Rattle.offer_header.specs.Header.{resolve_header, parse_whole_header, IsHeaderInLimits}
use Rattle.offer_header.specs.Raw.{is_plain, object_header}
use Rattle.offer_header.specs.declared.header.Header.{Header}
use Rattle.offer_header.proofs.Fitting.{read_so}
use Rattle.swap_offer.specs.Certificates.{IsCertified}
use Rattle.swap_offer.specs.Job.{accepted_entries, counted, parse_job_events, parse_events, events_unless, parse_header_job, parse_job, limited_event}
use Rattle.swap_offer.specs.Job.{job_of_lines}
use Rattle.command_input.specs.Lines.{filled_lines, collect_lines}
use Rattle.swap_offer.proofs.Certified.{certifies}
use Rattle.command_input.specs.Written.{Written}
use Rattle.made_jobs.specs.Making.{made_text}
use Rattle.swap_commands.specs.Output.{collected_book, output_given_chance, job_output, plain_text, command_purpose, reported, written_check, Chance}
use Rattle.swap_commands.specs.Words.{OfJob, JobCommand, Check, Make, Race, Run}
use Rattle.program_laws.specs.RefusalLaws.{NamedCyclesAreOfFollowers, NamedSetsAreClosed, Proposes}
use Rattle.program_laws.proofs.Bare.{choose, landed, onward, refused, steps_bare, Bare, IsBare}
use Rattle.program_laws.proofs.Headers.{header_of_bare}
use Rattle.program_laws.proofs.Events.{event_of_bare}

-- No reason against a further line shows a set or a cycle.

next_of_bare : (job : Job) (count line : ℕ) (text : List ℕ) → Bare (limited_event job count line text)
unfolding limited_event
next_of_bare job count line text = choose (count == 200000) _ _ (refused (OverLimit line (codes "events") 200001) tt) (event_of_bare job line text)

events_of_bare : (job : Job) (count : ℕ) (ls : List (ℕ × List ℕ)) → Bare (parse_events job count ls)
unfolding parse_events
events_of_bare job count [] = landed _
events_of_bare job count (l ∷ ls) =
    onward (limited_event job count l.0 l.1) _ (next_of_bare job count l.0 l.1)
    (λ e. onward (parse_events job (count + 1) ls) _ (events_of_bare job (count + 1) ls) (λ es. landed _))

counted_bare : (count : ℕ) (l : ℕ × List ℕ) → Bare (counted count l)
unfolding counted
counted_bare count l = choose (count == 200000) _ _ (refused (OverLimit l.0 (codes "events") 200001) tt) (landed _)

events_unless_bare : (plain : Bool) (job : Job) (ls : List (ℕ × List ℕ)) → Bare (events_unless plain job ls)
events_unless_bare true job ls = onward (steps counted 0 ls) _ (steps_bare counted counted_bare 0 ls) (λ count. landed _)
events_unless_bare false job ls = events_of_bare job 0 ls

-- What is said against a header that was read.

set_contains_ends : (has : List ℕ → Bool) (purpose : Purpose) (line : ℕ) (text : List ℕ) (h : Header) → parse_whole_header has purpose line text ≡ Ok h
    → IsHeaderInLimits h
unfolding parse_whole_header
set_contains_ends has purpose line text h e =
    let d = went (parse_data line text) (λ d. object_header purpose line d >>= λ raw. resolve_header has purpose line raw) h e in
    let raw = went (object_header purpose line d.0) (λ raw. resolve_header has purpose line raw) h d.2 in
    read_so has purpose line d.0 raw.0 (Ok h) IsHeaderInLimits raw.1 raw.2 (λ x k. k.within)

certified : (h : Header) → IsHeaderInLimits h → (reason : Reason) → accepted_entries h ≡ Err reason → IsCertified h reason
certified h k reason e =
    certifies h k (λ (j : Job). j) [] (Err (fault.Refused (refusal [] reason))) (ap (λ (r : Result Job Reason). named_result [] r) e)

err_is : {A B : Type 0} (x y : Reason) → ◌≡◌ {A = Result A Reason} (Err x) (Err y) → ◌≡◌ {A = Result B Reason} (Err x) (Err y)
err_is x y e = let same : x ≡ y = cc e in ap (λ (r : Reason). Err r) same

module _ (has : List ℕ → Bool) (purpose : Purpose) (input : List ℕ) (reason : Reason) (shows : ¬ IsBare reason) where
  abbrev Shown : Type 0
  Shown = Proposes has purpose input (λ h. IsCertified h reason)

  of_header : (line : ℕ) (text : List ℕ) (others : List (ℕ × List ℕ)) → filled_lines 1 (collect_lines input) ≡ (line, text) ∷ others
      → (read : Result Header Reason) → parse_whole_header has purpose line text ≡ read → (read >>= λ h. accepted_entries h) ≡ Err reason → Shown
  of_header line text others first (Ok h) is e = record {
    line = line;
    text = text;
    others = others;
    first = first;
    header = h;
    read = is;
    told = certified h (set_contains_ends has purpose line text h is) reason e;
  }
  of_header line text others first (Err k) is e =
      absurd (shows (header_of_bare has purpose line text reason (is ∙ err_is {A = Job} {B = Header} k reason e)))

  of_first : (line : ℕ) (text : List ℕ) (others : List (ℕ × List ℕ)) → filled_lines 1 (collect_lines input) ≡ (line, text) ∷ others
      → parse_header_job has purpose line text ≡ Err reason → Shown
  unfolding parse_header_job
  of_first line text others first e = of_header line text others first (parse_whole_header has purpose line text) refl e

  abbrev with_events : Job → List Event → Result (Job × List Event) Reason
  with_events job events = Ok (job, events)

  of_read : (line : ℕ) (text : List ℕ) (others : List (ℕ × List ℕ)) → filled_lines 1 (collect_lines input) ≡ (line, text) ∷ others
      → (read : Result Job Reason) → parse_header_job has purpose line text ≡ read
      → (read >>= λ job. parse_job_events purpose job others >>= λ events. with_events job events) ≡ Err reason → Shown
  of_read line text others first (Ok job) is e =
      absurd (shows (onward (parse_job_events purpose job others) (with_events job) (events_unless_bare (is_plain purpose) job others) (λ events. landed _)
      reason e))
  of_read line text others first (Err k) is e =
      of_first line text others first (is ∙ err_is {A = Job × List Event} {B = Job} k reason e)

  of_all : (ls : List (ℕ × List ℕ)) → filled_lines 1 (collect_lines input) ≡ ls → job_of_lines has purpose ls ≡ Err reason → Shown
  of_all [] first e = absurd (shows (refused {A = Job × List Event} (NotJson 1) tt reason e))
  of_all (l ∷ ls) first e = of_read l.0 l.1 ls first (parse_header_job has purpose l.0 l.1) refl e

  pub of_offer : parse_job has purpose input ≡ Err reason → Shown
  unfolding parse_job
  of_offer e = of_all (filled_lines 1 (collect_lines input)) refl e

-- What a command writes of an input that is read is no refusal.

from_read : (g : Job × List Event → Written) (read : Result (Job × List Event) Reason) (reason : Reason)
    → (read >>= λ j. let w : Result Written Reason = Ok (g j) in w) ≡ Err reason → read ≡ Err reason
from_read g (Ok j) reason e = absurd (cc e)
from_read g (Err k) reason e = err_is {A = Written} {B = Job × List Event} k reason e

from_output : (chance : Chance) (command : JobCommand) (ls : List (ℕ × List ℕ)) (read : Result (Job × List Event) Reason) (reason : Reason)
    → job_output chance command ls read ≡ Err reason → read ≡ Err reason
from_output chance (Run transcript) ls read reason e = from_read (λ j. reported transcript j.0 (collected_book chance.answers j.0 j.1)) read reason e
from_output chance (Race ticks transcript) ls read reason e = from_read (λ j. reported transcript j.0 chance.book) read reason e
from_output chance Check ls read reason e = from_read (λ j. written_check j.0) read reason e
from_output chance Make ls read reason e = from_read (λ j. plain_text (made_text j.0 (drop 1 ls))) read reason e

offer_refused : (has : List ℕ → Bool) (chance : Chance) (command : JobCommand) (input : List ℕ) (reason : Reason)
    → output_given_chance has chance (OfJob command) input ≡ Err reason → parse_job has (command_purpose command) input ≡ Err reason
unfolding output_given_chance
offer_refused has chance command input reason e =
    from_output chance command (filled_lines 1 (collect_lines input)) (parse_job has (command_purpose command) input) reason e

pub named_sets_are_closed : NamedSetsAreClosed
named_sets_are_closed has chance command input set e =
    of_offer has (command_purpose command) input (NotStrong set) (λ bare. bare) (offer_refused has chance command input (NotStrong set) e)

pub named_cycles_are_of_followers : NamedCyclesAreOfFollowers
named_cycles_are_of_followers has chance command input cycle e =
    of_offer has (command_purpose command) input (NotFeedback cycle) (λ bare. bare) (offer_refused has chance command input (NotFeedback cycle) e)
