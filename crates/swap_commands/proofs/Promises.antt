-- What a run, a race and a check promise of what they wrote.
use Rattle.std.proofs.Common.{◌≡◌, ℕ, Bool, List, [], ◌∷◌, fold, Result, Ok, Err, refl, sym, ap, ◌∙◌, subst, arith}
use Rattle.swap_base.specs.Fault.{◌>>=◌, steps}
use Rattle.ledger_core.specs.declared.entry.Entry.{Entry}
use Rattle.ledger_core.specs.History.{IsLegal}
use Rattle.ledger_core.specs.Book.{Histories}
use Rattle.swap_job.specs.declared.event.Event.{Event}
use Rattle.swap_job.specs.declared.job.Job.{Job}
use Rattle.swap_job.specs.declared.job.Finish.TheVariants.{Fair}
use Rattle.swap_job.specs.declared.job.Purpose.TheVariants as purposes
use Rattle.swap_rules.specs.declared.finding.Finding.{Finding}
use Rattle.swap_rules.specs.Accepted.{IsAccepted}
use Rattle.swap_rules.specs.Findings.{findings}
use Rattle.swap_rules.specs.Outcome.{IsEnded}
use Rattle.swap_rules.specs.Laws.{IsDealt}
use Rattle.swap_rules.proofs.Units as units
use Rattle.swap_run.specs.Run.{State, start, step}
use Rattle.swap_run.specs.Laws.{IsKept}
use Rattle.swap_run.specs.Asked.{Answers}
use Rattle.swap_world.specs.Cast.{job_cast}
use Rattle.swap_world.specs.Gone.{MayGive}
use Rattle.outcome_rules.specs.Report.{is_conforming_party, deal_outcomes, build_report}
use Rattle.outcome_rules.specs.Promises.{AllAreConforming}
use Rattle.outcome_rules.proofs.Promises as laws
use Rattle.command_input.specs.declared.reason.Reason.{Reason}
use Rattle.swap_offer.specs.Job.{counted, parse_job_events, parse_events, parse_header_job, job_of_lines}
use Rattle.swap_gen.specs.Made.{made}
use Rattle.made_jobs.specs.Making.{copied, line_step, with_copied_line, written_line, IsMade}
use Rattle.made_jobs.proofs.Copying.{lines_put}
use Rattle.offer_moves.proofs.Chains.{went}
use Rattle.command_input.specs.Written.{Written}
use Rattle.swap_commands.specs.Output.{AreGiven, command_cast, run_state, collected_book, finished_state, book_report, reported, written_check}
use Rattle.swap_world.specs.Recorded.{AreRecorded}
use Rattle.swap_commands.specs.Promised.{IsPromised, IsRace, IsRun, IsCheck, IsMaking}
use Rattle.party_threads.specs.Race.{IsRaceBook}
use Rattle.swap_commands.specs.Replay.{skipped_event, folded_events}
use Rattle.swap_commands.proofs.Raced.{no_events, none_is_late}

module _ (has : List ℕ → Bool) where
  -- The laws of a legal book, of the report that is shown of it.

  pub is_promised : (job : Job) (b : Histories) → IsAccepted job.deal → IsKept (job_cast job) b → IsPromised job b (book_report job b)
  unfolding build_report
  is_promised job b k kept =
      let found : List Finding = findings job.deal (is_conforming_party job.conforming) b in
      record {
        accepted = k;
        kept = kept;
        units = λ a h rest few e. let same = kept.legal.one_each in units.units_are_kept job.deal a h rest
            (subst (λ (xs : List Entry). IsLegal job.deal a xs) e (kept.legal.legal a (omega (arith, few, same))));
        safe = laws.none_is_shown_underwater job.deal b (deal_outcomes job.deal b) refl job.conforming found
            (laws.none_is_underwater job.deal job.conforming b found kept.legal refl k);
        gains = laws.none_is_shown_to_gain job.deal b (deal_outcomes job.deal b) refl job.conforming found
            (laws.nobody_gains job.deal job.conforming b found kept.legal refl k);
        refunds = laws.all_have_refunds job.deal job.conforming b found kept.legal refl k;
        paid = laws.all_are_paid job.deal job.conforming b found kept.legal refl k;
        lossless = laws.none_loses_units job.deal job.conforming b found kept.legal refl k;
        watchful = laws.watchful_are_whole job.deal job.conforming b found kept.legal refl k;
        unpublished = laws.unpublished_lose_nothing job.deal job.conforming b found kept.legal refl k;
        transfer = laws.is_transferred job.deal job.conforming b found kept.legal refl k;
        whole = λ all none. laws.all_are_whole job.deal b (deal_outcomes job.deal b) refl k
            (laws.is_transferred job.deal job.conforming b found kept.legal refl k all none);
        nothing = laws.finds_nothing job.deal job.conforming b found kept.legal refl;
      }

  -- What was read.

  abbrev paired : Job → List Event → Result (Job × List Event) Reason
  paired job es = Ok (job, es)

  read_of : (header : Result Job Reason) (events : Job → Result (List Event) Reason) (job : Job) (es : List Event) → header ≡ Ok job → events job ≡ Ok es
      → (header >>= λ j. events j >>= λ es. paired j es) ≡ paired job es
  read_of header events job es h e = rw h (rw e refl)

  -- The events that a replay stepped through.
  record Replayed {A : Type 0} (f : A → Event → A) (job : Job) (x y : A) (ls : List (ℕ × List ℕ)) : Type 0 where
    events : List Event
    read : parse_events job 0 ls ≡ Ok events
    leads : y ≡ fold f x events

  replayed_by : {A : Type 0} (f : A → Event → A) (job : Job) (x y : A) (ls : List (ℕ × List ℕ)) → folded_events f job 0 x ls ≡ Ok y → Replayed f job x y ls
  unfolding folded_events
  replayed_by f job x y ls e =
      let w = went (parse_events job 0 ls) (λ events. Ok (fold f x events)) y e in
      record { events = w.0; read = w.1; leads = cc (w.2) }

  -- A run.

  -- what was read, the book that is shown, and what the world promised of it
  world_run : (gives : MayGive) (a : Answers) (transcript : Bool) (job : Job) (events : List Event) (read : Result (Job × List Event) Reason) (b : Histories)
      (output : Written) → read ≡ Ok (job, events) → AreGiven gives job.deal a (run_state a job events).asked → b ≡ collected_book a job events
      → output ≡ reported transcript job b → IsAccepted job.deal → IsKept (job_cast job) b
      → AreRecorded (command_cast a job) (run_state a job events)
      → (job.finish ≡ Fair → IsEnded job.deal b) → (job.finish ≡ Fair → events ≡ [] → AllAreConforming job.deal job.conforming
      → IsDealt job.deal (is_conforming_party job.conforming) b) → IsRun gives a transcript read output
  unfolding build_report
  world_run gives a transcript job events read b output r given same shown k kept disks ended dealt = record {
    job = job;
    events = events;
    is_read = r;
    given = given;
    shown = shown ∙ ap (λ (b : Histories). reported transcript job b) same;
    promised = is_promised job (collected_book a job events) k (subst (λ (b : Histories). IsKept (job_cast job) b) same kept);
    recorded = disks;
    ended = λ fair. subst (λ (b : Histories). IsEnded job.deal b) same (ended fair);
    fair = λ fair none all. subst (λ (b : Histories). findings job.deal (is_conforming_party job.conforming) b ≡ []) same (dealt fair none all).nothing;
  }

  pub is_run : (gives : MayGive) (a : Answers) (transcript : Bool) (line : ℕ) (text : List ℕ) (ls : List (ℕ × List ℕ)) (job : Job) (s : State)
      (b : Histories) (output : Written)
      → parse_header_job has purposes.Run line text ≡ Ok job → folded_events (step (command_cast a job)) job 0 (start (job_cast job)) ls ≡ Ok s
      → AreGiven gives job.deal a (finished_state job.finish (command_cast a job) s).asked → b ≡ (finished_state job.finish (command_cast a job) s).book
      → output ≡ reported transcript job b → IsAccepted job.deal → IsKept (job_cast job) b
      → AreRecorded (command_cast a job) (finished_state job.finish (command_cast a job) s)
      → (job.finish ≡ Fair → IsEnded job.deal b)
      → (job.finish ≡ Fair → s ≡ start (job_cast job) → AllAreConforming job.deal job.conforming → IsDealt job.deal (is_conforming_party job.conforming) b)
      → IsRun gives a transcript (job_of_lines has purposes.Run ((line, text) ∷ ls)) output
  is_run gives a transcript line text ls job s b output h r given same shown k kept disks ended dealt =
      let p = replayed_by (step (command_cast a job)) job (start (job_cast job)) s ls r in
      world_run gives a transcript job p.events (job_of_lines has purposes.Run ((line, text) ∷ ls)) b output
      (read_of (parse_header_job has purposes.Run line text) (λ j. parse_events j 0 ls) job p.events h p.read)
      (subst (λ (s : State). AreGiven gives job.deal a (finished_state job.finish (command_cast a job) s).asked) p.leads given)
      (same ∙ ap (λ (s : State). (finished_state job.finish (command_cast a job) s).book) p.leads) shown k kept
      (subst (λ (s : State). AreRecorded (command_cast a job) (finished_state job.finish (command_cast a job) s)) p.leads disks) ended
      (λ fair none. dealt fair (p.leads ∙ ap (λ (es : List Event). fold (step (command_cast a job)) (start (job_cast job)) es) none))

  -- A race.

  pub is_race : (gives : MayGive) (b : Histories) (ticks : ℕ) (transcript : Bool) (line : ℕ) (text : List ℕ) (ls : List (ℕ × List ℕ)) (job : Job)
      (output : Written) → parse_header_job has purposes.Race line text ≡ Ok job → folded_events skipped_event job 0 tt ls ≡ Ok tt
      → output ≡ reported transcript job b → job.purpose ≡ purposes.Race → IsAccepted job.deal → IsRaceBook gives (job_cast job) ticks b
      → IsRace gives b ticks transcript (job_of_lines has purposes.Race ((line, text) ∷ ls)) output
  unfolding build_report
  is_race gives b ticks transcript line text ls job output h r shown purpose k raced =
      let p = replayed_by skipped_event job tt tt ls r in
      record {
        job = job;
        is_read =
            read_of (parse_header_job has purposes.Race line text) (λ j. parse_events j 0 ls) job [] h
            (subst (λ (es : List Event). parse_events job 0 ls ≡ Ok es) (no_events job purpose ls p.events p.read) p.read);
        raced = raced;
        shown = shown;
        promised = is_promised job b k (record { legal = raced.legal; conducted = raced.conducted });
        on_time = λ two v rule a due. none_is_late job.deal (is_conforming_party job.conforming) b (λ w lt c. raced.on_time two w lt c) v rule a due;
        dealt = λ two all. (raced.dealt two all).nothing;
      }

  -- A check.

  pub is_check : (line : ℕ) (text : List ℕ) (ls : List (ℕ × List ℕ)) (job : Job) (u : Unit {0}) (output : Written)
      → parse_header_job has purposes.Check line text ≡ Ok job → folded_events skipped_event job 0 tt ls ≡ Ok u → output ≡ written_check job → IsAccepted job.deal
      → IsCheck (job_of_lines has purposes.Check ((line, text) ∷ ls)) output
  is_check line text ls job u output h r shown k =
      let p = replayed_by skipped_event job tt u ls r in
      record {
        job = job;
        events = p.events;
        is_read = read_of (parse_header_job has purposes.Check line text) (λ j. parse_events j 0 ls) job p.events h p.read;
        shown = shown;
        accepted = k;
      }

  -- A job that is made.

  read_counts : (r : Result ℕ Reason) (text : List ℕ) (ls : List (ℕ × List ℕ)) (s : ℕ × List ℕ)
      → (r >>= λ n. let x : Result (ℕ × List ℕ) Reason = Ok (n, fold with_copied_line text ls) in x) ≡ Ok s → r ≡ Ok s.0
  read_counts (Ok n) text ls s e =
      let same : (n, fold with_copied_line text ls) ≡ s = cc e in
      ap (λ (p : ℕ × List ℕ). let x : Result ℕ Reason = Ok p.0 in x) same
  read_counts (Err reason) text ls s e = absurd (cc e)

  -- no event is read of lines that are copied
  none_read : (job : Job) (ls : List (ℕ × List ℕ)) (text new : List ℕ) → copied 0 text ls ≡ Ok new → parse_job_events purposes.Make job ls ≡ Ok []
  unfolding copied
  none_read job ls text new c =
      let w = went (steps line_step (0, text) ls) (λ s. Ok s.1) new c in
      let counts : steps counted 0 ls ≡ Ok w.0.0 = read_counts (steps counted 0 ls) text ls w.0 (sym (lines_put 0 text ls) ∙ w.1) in
      rw counts refl

  pub is_making : (line : ℕ) (header : List ℕ) (ls : List (ℕ × List ℕ)) (job : Job) (text : List ℕ) (output : Written)
      → parse_header_job has purposes.Make line header ≡ Ok job → copied 0 (written_line (made job)) ls ≡ Ok text → IsMade job
      → IsMaking (job_of_lines has purposes.Make ((line, header) ∷ ls)) output
  is_making line header ls job text output h c k = record {
    job = job;
    is_read =
        read_of (parse_header_job has purposes.Make line header) (λ j. parse_job_events purposes.Make j ls) job [] h
        (none_read job ls (written_line (made job)) text c);
    made = k;
  }
