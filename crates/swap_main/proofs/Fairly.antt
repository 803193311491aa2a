-- A fair run of parties that all conform is refused for no reason, and nothing is found of it.
use Rattle.std.proofs.Common.{◌≤◌, ◌*◌, ◌≡◌, ◌==◌, ℕ, Bool, false, not, List, [], ◌++◌, length, Option, Some, None, Result, Ok, Err, sym, ap, ◌∙◌}
use Rattle.std.proofs.Common.{subst, append-nil}
use Rattle.swap_io.specs.Tape.{Consumes, IsAtEnd, IsInput, Tape}
use Rattle.swap_io.proofs.ByteLaws.{input_read}
use Rattle.swap_job.specs.declared.event.Event.{Event}
use Rattle.swap_job.specs.declared.job.Job.{Job}
use Rattle.swap_job.specs.declared.job.Finish.TheVariants.{Fair}
use Rattle.swap_job.specs.declared.job.Purpose.TheVariants as purposes
use Rattle.swap_rules.specs.declared.finding.Finding.{Finding}
use Rattle.outcome_rules.specs.Promises.{AllAreConforming}
use Rattle.command_input.specs.declared.reason.Reason.{Reason}
use Rattle.swap_offer.specs.Job.{parse_job}
use Rattle.command_input.specs.Written.{Written}
use Rattle.swap_commands.specs.Words.{Command, OfJob, Audit, Clear, Many, Check, Run, Race, Make, words_command}
use Rattle.swap_run.specs.Asked.{Answers}
use Rattle.ledger_core.specs.Book.{Histories}
use Rattle.swap_world.specs.Gone.{MayGive}
use Rattle.command_input.specs.Lines.{collect_lines, filled_lines}
use Rattle.swap_commands.specs.Output.{Chance, collected_book, no_chance, output_given_chance, job_output, command_output, book_report, reported}
use Rattle.swap_commands.specs.Promised.{AsPromised, IsRace, IsRun}
use Rattle.swap_commands.proofs.ManySaying.{many_fails_by}
use Rattle.swap_main.specs.Top.{AsksFairRace, AsksFairRun}

module _ (has : List ℕ → Bool) where
  -- all of the input was read
  pub all_read : (left left' : Tape) (input items : List ℕ) → IsInput left left' input → Consumes left left' items → IsAtEnd left' → items ≡ input
  all_read left left' input items told taken end = input_read left left' input items told taken end

  -- nothing is told of as found where nothing is
  told_found : (transcript : Bool) (job : Job) (b : Histories) (output : Written) → output ≡ reported transcript job b → (book_report job b).findings ≡ []
      → output.found ≡ false
  unfolding reported
  told_found transcript job b output shown none = ap (λ (w : Written). w.found) shown ∙ ap (λ (l : List Finding). not (length l == 0)) none

  same_job : (read : Result (Job × List Event) Reason) (job other : Job) (events more : List Event) → read ≡ Ok (job, events) → read ≡ Ok (other, more)
      → (job ≡ other) × (events ≡ more)
  same_job read job other events more e f =
      let h : ◌≡◌ {A = Result (Job × List Event) Reason} (Ok (job, events)) (Ok (other, more)) = sym e ∙ f in
      let p : ◌≡◌ {A = Job × List Event} (job, events) (other, more) = cc h in
      (ap (λ (x : Job × List Event). x.0) p, ap (λ (x : Job × List Event). x.1) p)

  nothing_found : (gives : MayGive) (a : Answers) (transcript : Bool) (job : Job) (read : Result (Job × List Event) Reason) (output : Written)
      → read ≡ Ok (job, []) → job.finish ≡ Fair
      → AllAreConforming job.deal job.conforming → IsRun gives a transcript read output → output.found ≡ false
  nothing_found gives a transcript job read output r fair all p =
      let s = same_job read p.job job p.events [] p.is_read r in
      told_found transcript p.job (collected_book a p.job p.events) output p.shown (p.fair (ap (λ (j : Job). j.finish) s.0 ∙ fair) s.1
      (subst (λ (j : Job). AllAreConforming j.deal j.conforming) (sym s.0) all))

  module _ (words : List (List ℕ)) (left left' : Tape) (command : Command) (items : List ℕ) (asked : words_command words ≡ Some command)
      (taken : Consumes left left' items) (end : IsAtEnd left') (a : AsksFairRun has words left left') where
    is_a_run : command ≡ OfJob (Run a.transcript)
    is_a_run = cc (sym asked ∙ a.asked)

    is_read : parse_job has purposes.Run items ≡ Ok (a.job, [])
    is_read = ap (λ (xs : List ℕ). parse_job has purposes.Run xs) (all_read left left' a.input items a.told taken end) ∙ a.read

    pub is_not_refused : (reason : Reason) → ¬ (command_output has command items ≡ Err reason)
    unfolding output_given_chance
    is_not_refused reason e =
        let r : ◌≡◌ {A = Result Written Reason} (job_output no_chance (Run a.transcript) (filled_lines 1 (collect_lines items))
        (parse_job has purposes.Run items)) (Err reason) =
        ap (λ (c : Command). command_output has c items) (sym is_a_run) ∙ e in
        let w : ◌≡◌ {A = Result Written Reason} (job_output no_chance (Run a.transcript) (filled_lines 1 (collect_lines items)) (Ok (a.job, []))) (Err reason) =
        ap (λ (q : Result (Job × List Event) Reason). job_output no_chance (Run a.transcript) (filled_lines 1 (collect_lines items)) q) (sym is_read) ∙ r in
        cc w

  module _ (gives : MayGive) (chance : Chance) (words : List (List ℕ)) (left left' : Tape) (command : Command) (items : List ℕ)
      (asked : words_command words ≡ Some command) (taken : Consumes left left' items) (end : IsAtEnd left') (a : AsksFairRun has words left left') where
    pub is_not_named : (output : Written) → AsPromised has gives chance command items output → output.found ≡ false
    is_not_named output p =
        nothing_found gives chance.answers a.transcript a.job (parse_job has purposes.Run items) output
        (is_read words left left' command items asked taken end a)
        a.finish a.conforming
        (subst (λ (c : Command). AsPromised has gives chance c items output) (is_a_run words left left' command items asked taken end a) p)

  -- A race of parties that all conform.

  nothing_found_raced : (gives : MayGive) (b : Histories) (ticks : ℕ) (transcript : Bool) (job : Job) (read : Result (Job × List Event) Reason)
      (output : Written) → read ≡ Ok (job, []) → 2 * ticks ≤ job.deal.delta → AllAreConforming job.deal job.conforming
      → IsRace gives b ticks transcript read output → output.found ≡ false
  nothing_found_raced gives b ticks transcript job read output r fits all p =
      let s = same_job read p.job job [] [] p.is_read r in
      told_found transcript p.job b output p.shown
      (p.dealt (subst (λ (j : Job). 2 * ticks ≤ j.deal.delta) (sym s.0) fits) (subst (λ (j : Job). AllAreConforming j.deal j.conforming) (sym s.0) all))

  module _ (words : List (List ℕ)) (left left' : Tape) (command : Command) (items : List ℕ) (asked : words_command words ≡ Some command)
      (taken : Consumes left left' items) (end : IsAtEnd left') (a : AsksFairRace has words left left') where
    is_a_race : command ≡ OfJob (Race a.ticks a.transcript)
    is_a_race = cc (sym asked ∙ a.asked)

    is_read_raced : parse_job has purposes.Race items ≡ Ok (a.job, [])
    is_read_raced = ap (λ (xs : List ℕ). parse_job has purposes.Race xs) (all_read left left' a.input items a.told taken end) ∙ a.read

    pub race_is_not_refused : (reason : Reason) → ¬ (command_output has command items ≡ Err reason)
    unfolding output_given_chance
    race_is_not_refused reason e =
        let r : ◌≡◌ {A = Result Written Reason} (job_output no_chance (Race a.ticks a.transcript) (filled_lines 1 (collect_lines items))
        (parse_job has purposes.Race items)) (Err reason) =
        ap (λ (c : Command). command_output has c items) (sym is_a_race) ∙ e in
        let w : ◌≡◌ {A = Result Written Reason} (job_output no_chance (Race a.ticks a.transcript) (filled_lines 1 (collect_lines items)) (Ok (a.job, [])))
        (Err reason) =
        ap (λ (q : Result (Job × List Event) Reason). job_output no_chance (Race a.ticks a.transcript) (filled_lines 1 (collect_lines items)) q)
        (sym is_read_raced) ∙ r in
        cc w

  module _ (gives : MayGive) (chance : Chance) (words : List (List ℕ)) (left left' : Tape) (command : Command) (items : List ℕ)
      (asked : words_command words ≡ Some command) (taken : Consumes left left' items) (end : IsAtEnd left') (a : AsksFairRace has words left left') where
    pub race_is_not_named : (output : Written) → AsPromised has gives chance command items output → output.found ≡ false
    race_is_not_named output p =
        nothing_found_raced gives chance.book a.ticks a.transcript a.job (parse_job has purposes.Race items) output
        (is_read_raced words left left' command items asked taken end a) a.fits a.conforming
        (subst (λ (c : Command). AsPromised has gives chance c items output) (is_a_race words left left' command items asked taken end a) p)

  -- A reason doesn't depend on chance.

  run_fails_by : (a : Chance) (transcript : Bool) (ls : List (ℕ × List ℕ)) (read : Result (Job × List Event) Reason) (reason : Reason)
      → job_output no_chance (Run transcript) ls read ≡ Err reason → job_output a (Run transcript) ls read ≡ Err reason
  run_fails_by a transcript ls (Ok j) reason e = absurd (cc e)
  run_fails_by a transcript ls (Err r) reason e = e

  race_fails_by : (a : Chance) (ticks : ℕ) (transcript : Bool) (ls : List (ℕ × List ℕ)) (read : Result (Job × List Event) Reason) (reason : Reason)
      → job_output no_chance (Race ticks transcript) ls read ≡ Err reason → job_output a (Race ticks transcript) ls read ≡ Err reason
  race_fails_by a ticks transcript ls (Ok j) reason e = absurd (cc e)
  race_fails_by a ticks transcript ls (Err r) reason e = e

  pub fails_by : (a : Chance) (command : Command) (input : List ℕ) (reason : Reason) → command_output has command input ≡ Err reason
      → output_given_chance has a command input ≡ Err reason
  unfolding output_given_chance
  fails_by a (OfJob (Run transcript)) input reason e = run_fails_by a transcript (filled_lines 1 (collect_lines input))
      (parse_job has purposes.Run input) reason e
  fails_by a (OfJob (Race ticks transcript)) input reason e =
      race_fails_by a ticks transcript (filled_lines 1 (collect_lines input)) (parse_job has purposes.Race input) reason e
  fails_by a (OfJob Check) input reason e = e
  fails_by a (OfJob Make) input reason e = e
  fails_by a Audit input reason e = e
  fails_by a Clear input reason e = e
  fails_by a Many input reason e = many_fails_by has a.many input reason e
