-- What is said against an input that is read line by line.
use Rattle.std.proofs.Common.{◌≡◌, ◌≤◌, ℕ, Bool, true, false, List, [], ◌∷◌, ◌++◌, length, Option, Result, Ok, Err, refl, sym, ap, ◌∙◌, subst}
use Rattle.std.proofs.Common.{arith, append-nil}
use Rattle.swap_io.specs.Tape.{Tape}
use Rattle.swap_base.specs.Fault.{◌>>=◌, Fails}
use Rattle.swap_base.specs.declared.fault.Fault.{Fault}
use Rattle.swap_base.specs.declared.fault.Fault.TheVariants as offer
use Rattle.ledger_core.specs.Book.{Histories}
use Rattle.swap_job.specs.declared.job.Job.{Job}
use Rattle.swap_job.specs.declared.job.Purpose.{Purpose}
use Rattle.swap_job.specs.declared.job.Purpose.TheVariants as purposes
use Rattle.command_input.specs.declared.reason.Reason.{Reason}
use Rattle.command_input.specs.declared.reason.Reason.TheVariants.{NotJson}
use Rattle.command_input.specs.declared.refusal.Refusal.{Refusal}
use Rattle.command_input.specs.Refusal.{named_result}
use Rattle.command_input.proofs.Named.{named_err}
use Rattle.command_input.specs.Lines.{collect_lines, filled_lines}
use Rattle.swap_offer.specs.Job.{parse_header_job, parse_job, header_names, offer_line_names, job_of_lines}
use Rattle.swap_run.specs.Run.{State, start, step}
use Rattle.swap_run.specs.Asked.{Answers}
use Rattle.swap_world.specs.Cast.{job_cast}
use Rattle.swap_world.specs.Gone.{MayGive}
use Rattle.command_input.specs.declared.fault.InputFault.{InputFault}
use Rattle.command_input.specs.declared.fault.InputFault.TheVariants.{Refused}
use Rattle.swap_commands.specs.Words.{OfJob, JobCommand, Check, Run, Race, Make}
use Rattle.command_input.specs.Faults.{named_fault, of_offer}
use Rattle.command_input.specs.Input.{InputProgress, Desk, Ends, GivesLine, IsLast, IsLine, Stops, Tells, ahead, desk, fresh, limit}
use Rattle.swap_gen.specs.Made.{made}
use Rattle.made_jobs.specs.Making.{copied, written_line}
use Rattle.swap_commands.specs.Output.{Chance, by_answers, by_book, command_cast, finished_state, refusal_names, no_chance, output_given_chance, command_purpose, reported}
use Rattle.swap_commands.specs.Output.{written_check, plain_text}
use Rattle.swap_commands.specs.Promised.{IsCheck, IsRace, IsRun, IsMaking}
use Rattle.swap_commands.specs.Replay.{IsChecked, IsEntered, IsPlayed, IsReadInput, of_check, of_header, of_lines}
use Rattle.swap_commands.specs.Replay.{of_race, of_run, skipped_event, folded_events, IsCopied, of_make}
use Rattle.swap_commands.specs.Says.{IsCommandRefusal}
use Rattle.command_input.specs.Written.{Written}
use Rattle.swap_commands.proofs.Replays.{of_input, replay_fails}
use Rattle.command_input.proofs.Ahead.{stands_on}
use Rattle.command_input.proofs.Streams.{can_come, last_run, line_of, no_memory_after, stops_on}

module _ (has : List ℕ → Bool) where
  -- The lines of an input, and what is written for them.

  by_lines : (a : Chance) (command : JobCommand) (bytes : List ℕ) (ls : List (ℕ × List ℕ)) → filled_lines 1 (collect_lines bytes) ≡ ls
      → output_given_chance has a (OfJob command) bytes ≡ of_lines has a command ls
  by_lines a command bytes ls e = sym (of_input has a command bytes) ∙ ap (of_lines has a command) e

  names_by : (command : JobCommand) (bytes : List ℕ) (ls : List (ℕ × List ℕ)) → filled_lines 1 (collect_lines bytes) ≡ ls
      → refusal_names has (OfJob command) bytes ≡ offer_line_names has (command_purpose command) ls
  unfolding refusal_names
  names_by command bytes ls e = ap (offer_line_names has (command_purpose command)) e

  run_fails : (transcript : Bool) (n : ℕ) (t : List ℕ) (ls : List (ℕ × List ℕ)) (reason : Reason) → parse_header_job has purposes.Run n t ≡ Err reason
      → of_run has no_chance.answers transcript n t ls ≡ Err reason
  unfolding of_run
  run_fails transcript n t ls reason h = rw h refl

  race_fails : (transcript : Bool) (n : ℕ) (t : List ℕ) (ls : List (ℕ × List ℕ)) (reason : Reason) → parse_header_job has purposes.Race n t ≡ Err reason
      → of_race has no_chance.book transcript n t ls ≡ Err reason
  unfolding of_race
  race_fails transcript n t ls reason h = rw h refl

  check_fails : (n : ℕ) (t : List ℕ) (ls : List (ℕ × List ℕ)) (reason : Reason) → parse_header_job has purposes.Check n t ≡ Err reason
      → of_check has n t ls ≡ Err reason
  unfolding of_check
  check_fails n t ls reason h = rw h refl

  make_fails : (n : ℕ) (t : List ℕ) (ls : List (ℕ × List ℕ)) (reason : Reason) → parse_header_job has purposes.Make n t ≡ Err reason
      → of_make has n t ls ≡ Err reason
  unfolding of_make
  make_fails n t ls reason h = rw h refl

  header_fails : (command : JobCommand) (n : ℕ) (t : List ℕ) (ls : List (ℕ × List ℕ)) (reason : Reason)
      → parse_header_job has (command_purpose command) n t ≡ Err reason
      → of_header has no_chance command n t ls ≡ Err reason
  header_fails (Run transcript) n t ls reason h = run_fails transcript n t ls reason h
  header_fails (Race ticks transcript) n t ls reason h = race_fails transcript n t ls reason h
  header_fails Check n t ls reason h = check_fails n t ls reason h
  header_fails Make n t ls reason h = make_fails n t ls reason h

  run_by : (a : Answers) (transcript : Bool) (n : ℕ) (t : List ℕ) (ls : List (ℕ × List ℕ)) (job : Job) (r : Result State Reason)
      → parse_header_job has purposes.Run n t ≡ Ok job
      → folded_events (step (command_cast a job)) job 0 (start (job_cast job)) ls ≡ r
      → of_run has a transcript n t ls ≡ r >>= λ s. Ok (reported transcript job (finished_state job.finish (command_cast a job) s).book)
  unfolding of_run
  run_by a transcript n t ls job r h e = rw (h, e) refl

  race_by : (b : Histories) (transcript : Bool) (n : ℕ) (t : List ℕ) (ls : List (ℕ × List ℕ)) (job : Job) (r : Result (Unit {0}) Reason)
      → parse_header_job has purposes.Race n t ≡ Ok job → folded_events skipped_event job 0 tt ls ≡ r
      → of_race has b transcript n t ls ≡ r >>= λ u. Ok (reported transcript job b)
  unfolding of_race
  race_by b transcript n t ls job r h e = rw (h, e) refl

  check_by : (n : ℕ) (t : List ℕ) (ls : List (ℕ × List ℕ)) (job : Job) (r : Result (Unit {0}) Reason) → parse_header_job has purposes.Check n t ≡ Ok job
      → folded_events skipped_event job 0 tt ls ≡ r → of_check has n t ls ≡ r >>= λ u. Ok (written_check job)
  unfolding of_check
  check_by n t ls job r h e = rw (h, e) refl

  make_by : (n : ℕ) (t : List ℕ) (ls : List (ℕ × List ℕ)) (job : Job) (r : Result (List ℕ) Reason) → parse_header_job has purposes.Make n t ≡ Ok job
      → copied 0 (written_line (made job)) ls ≡ r → of_make has n t ls ≡ r >>= λ u. Ok (plain_text u)
  unfolding of_make
  make_by n t ls job r h e = rw (h, e) refl

  pub gives_run : (a : Answers) (transcript : Bool) (bytes : List ℕ) (job : Job) (s : State) → IsPlayed has a bytes job s
      → output_given_chance has (by_answers a) (OfJob (Run transcript)) bytes ≡ Ok (reported transcript job (finished_state job.finish (command_cast a job) s).book)
  gives_run a transcript bytes job s p =
      by_lines (by_answers a) (Run transcript) bytes ((p.line, p.text) ∷ p.others) p.lines
      ∙ run_by a transcript p.line p.text p.others job (Ok s) p.header p.leads

  pub gives_race : (b : Histories) (ticks : ℕ) (transcript : Bool) (bytes : List ℕ) (job : Job) → IsEntered has bytes job
      → output_given_chance has (by_book b) (OfJob (Race ticks transcript)) bytes ≡ Ok (reported transcript job b)
  gives_race b ticks transcript bytes job p =
      by_lines (by_book b) (Race ticks transcript) bytes ((p.line, p.text) ∷ p.others) p.lines
      ∙ race_by b transcript p.line p.text p.others job (Ok tt) p.header p.leads

  pub gives_check : (bytes : List ℕ) (job : Job) → IsChecked has bytes job → output_given_chance has no_chance (OfJob Check) bytes ≡ Ok (written_check job)
  gives_check bytes job p = by_lines no_chance Check bytes ((p.line, p.text) ∷ p.others) p.lines ∙ check_by p.line p.text p.others job (Ok tt) p.header p.leads

  pub gives_make : (bytes : List ℕ) (job : Job) (text : List ℕ) → IsCopied has bytes job text
      → output_given_chance has no_chance (OfJob Make) bytes ≡ Ok (plain_text text)
  gives_make bytes job text p =
      by_lines no_chance Make bytes ((p.line, p.text) ∷ p.others) p.lines ∙ make_by p.line p.text p.others job (Ok text) p.header p.leads

  -- what is promised of lines is promised of their bytes
  pub run_of_bytes : (gives : MayGive) (a : Answers) (transcript : Bool) (bytes : List ℕ) (ls : List (ℕ × List ℕ)) (output : Written)
      → filled_lines 1 (collect_lines bytes) ≡ ls
      → IsRun gives a transcript (job_of_lines has purposes.Run ls) output → IsRun gives a transcript (parse_job has purposes.Run bytes) output
  unfolding parse_job
  run_of_bytes gives a transcript bytes ls output e p =
      subst (λ (xs : List (ℕ × List ℕ)). IsRun gives a transcript (job_of_lines has purposes.Run xs) output) (sym e) p

  pub race_of_bytes : (gives : MayGive) (b : Histories) (ticks : ℕ) (transcript : Bool) (bytes : List ℕ) (ls : List (ℕ × List ℕ)) (output : Written)
      → filled_lines 1 (collect_lines bytes) ≡ ls → IsRace gives b ticks transcript (job_of_lines has purposes.Race ls) output
      → IsRace gives b ticks transcript (parse_job has purposes.Race bytes) output
  unfolding parse_job
  race_of_bytes gives b ticks transcript bytes ls output e p =
      subst (λ (xs : List (ℕ × List ℕ)). IsRace gives b ticks transcript (job_of_lines has purposes.Race xs) output) (sym e) p

  pub check_of_bytes : (bytes : List ℕ) (ls : List (ℕ × List ℕ)) (output : Written) → filled_lines 1 (collect_lines bytes) ≡ ls
      → IsCheck (job_of_lines has purposes.Check ls) output → IsCheck (parse_job has purposes.Check bytes) output
  unfolding parse_job
  check_of_bytes bytes ls output e p = subst (λ (xs : List (ℕ × List ℕ)). IsCheck (job_of_lines has purposes.Check xs) output) (sym e) p

  pub making_of_bytes : (bytes : List ℕ) (ls : List (ℕ × List ℕ)) (output : Written) → filled_lines 1 (collect_lines bytes) ≡ ls
      → IsMaking (job_of_lines has purposes.Make ls) output → IsMaking (parse_job has purposes.Make bytes) output
  unfolding parse_job
  making_of_bytes bytes ls output e p = subst (λ (xs : List (ℕ × List ℕ)). IsMaking (job_of_lines has purposes.Make xs) output) (sym e) p

  -- the whole input was read, and it is no longer than it may be
  pub set_contains_ends : (P : List ℕ → Type 0) (left left' : Tape) (n m : ℕ) (now : InputProgress) (e : Ends P (desk left n fresh) (desk left' m now))
      → length e.bytes ≤ limit
  set_contains_ends P left left' n m now e = omega (arith, e.stands.took.counted, e.stands.fits.within)

  -- What is said against an input.

  -- it has no line
  pub empty_stops : (command : JobCommand) (more : Bool) (left : Tape) (n : ℕ) (s : InputProgress) (now : Desk) (fault : InputFault Refusal) → s ≡ fresh
      → more ≡ false → GivesLine more (desk left n s) now → fault ≡ Refused (record { reason = NotJson 1; names = [] })
      → Stops (IsCommandRefusal has (OfJob command)) (desk left n fresh) now fault
  empty_stops command more left n s now fault first none gives is =
      let old : Desk = desk left n fresh in
      let p : IsLast old now = last_run more old now none (subst (λ (x : InputProgress). GivesLine more (desk left n x) now) first gives) in
      let t : Tells (λ bytes. IsCommandRefusal has (OfJob command) bytes (record { reason = NotJson 1; names = [] })) old now = record {
        bytes = p.bytes;
        stands = p.stands;
        can = λ rest can. can_come fresh (p.bytes ++ rest) refl;
        told = λ rest can.
            let e : filled_lines 1 (collect_lines (p.bytes ++ rest)) ≡ [] = ap (λ (xs : List ℕ). filled_lines 1 (collect_lines (p.bytes ++ xs))) (can p.met)
            ∙ ap (λ (xs : List ℕ). filled_lines 1 (collect_lines xs)) (append-nil p.bytes) ∙ p.none in
            (by_lines no_chance command (p.bytes ++ rest) [] e, sym (names_by command (p.bytes ++ rest) [] e));
      } in
      subst (λ (f : InputFault Refusal). Stops (IsCommandRefusal has (OfJob command)) old now f) (sym is) t

  -- its header is refused
  against_header : (command : JobCommand) (left : Tape) (n : ℕ) (now : Desk) (fault : Fault Refusal) → IsLine (desk left n fresh) now
      → Fails fault (named_result (header_names has (command_purpose command) now.at.number now.at.text) (parse_header_job has
      (command_purpose command) now.at.number now.at.text))
      → Stops (IsCommandRefusal has (OfJob command)) (desk left n fresh) now (of_offer fault)
  against_header command left n now offer.NoMemory p fails = no_memory_after (desk left n fresh) now p.bytes p.stands
  against_header command left n now (offer.Refused r) p fails =
      let line = now.at.number in
      let text = now.at.text in
      let h = named_err (header_names has (command_purpose command) line text) (parse_header_job has (command_purpose command) line text) r fails in
      record {
        bytes = p.bytes;
        stands = p.stands;
        can = λ rest can. can_come fresh (p.bytes ++ rest) refl;
        told = λ rest can.
            let e = p.first rest can in (
              by_lines no_chance command (p.bytes ++ rest) ((line, text) ∷ ahead now.at rest) e
                  ∙ header_fails command line text (ahead now.at rest) r.reason h.0,
              h.1 ∙ sym (names_by command (p.bytes ++ rest) ((line, text) ∷ ahead now.at rest) e),
            );
      }

  pub header_stops : (command : JobCommand) (more : Bool) (left : Tape) (n : ℕ) (s : InputProgress) (now : Desk) (fault : Fault Refusal) (purpose : Purpose)
      (line : ℕ) (text : List ℕ) → s ≡ fresh → more ≡ true → GivesLine more (desk left n s) now → purpose ≡ command_purpose command
      → line ≡ now.at.number → text ≡ now.at.text → Fails fault (named_result (header_names has purpose line text) (parse_header_job has purpose line text))
      → Stops (IsCommandRefusal has (OfJob command)) (desk left n fresh) now (of_offer fault)
  header_stops command more left n s now fault purpose line text first some gives asked number same fails =
      let p : IsLine (desk left n fresh) now =
      line_of more (desk left n fresh) now some (subst (λ (x : InputProgress). GivesLine more (desk left n x) now) first gives) in
      let f : Fails fault (named_result (header_names has (command_purpose command) line text) (parse_header_job has (command_purpose command) line text)) =
      subst (λ (q : Purpose). Fails fault (named_result (header_names has q line text) (parse_header_job has q line text))) asked fails in
      let g : Fails fault (named_result (header_names has (command_purpose command) now.at.number text) (parse_header_job has (command_purpose command) now.at.number text)) =
      subst (λ (k : ℕ). Fails fault (named_result (header_names has (command_purpose command) k text) (parse_header_job has (command_purpose command) k text))) number f in
      against_header command left n now fault p
      (subst (λ (t : List ℕ). Fails fault (named_result (header_names has (command_purpose command) now.at.number t)
      (parse_header_job has (command_purpose command) now.at.number t))) same g)

  -- A further line of it is refused, after its header was read.
  pub against_event : {A : Type 0} (walk : List (ℕ × List ℕ) → Result A Reason) (command : JobCommand) (left : Tape) (n : ℕ) (mid now : Desk)
      (names : List (List ℕ))
      → ((ls : List (ℕ × List ℕ)) (reason : Reason) → walk ls ≡ Err reason → of_header has no_chance command mid.at.number mid.at.text ls ≡ Err reason)
      → names ≡ header_names has (command_purpose command) mid.at.number mid.at.text → IsLine (desk left n fresh) mid → (fault : InputFault Reason)
      → Stops (λ bytes reason. walk (ahead mid.at bytes) ≡ Err reason) mid now fault
      → Stops (IsCommandRefusal has (OfJob command)) (desk left n fresh) now (named_fault names fault)
  against_event walk command left n mid now names says called p fault s =
      stops_on (λ bytes reason. walk (ahead mid.at bytes) ≡ Err reason) (IsCommandRefusal has (OfJob command)) (desk left n fresh) mid now p.bytes p.stands refl
      (λ reason. record { reason = reason; names = names })
      (λ bytes reason can fails.
      let e = p.first bytes can in
      let ls : List (ℕ × List ℕ) = (mid.at.number, mid.at.text) ∷ ahead mid.at bytes in (
        by_lines no_chance command (p.bytes ++ bytes) ls e ∙ says (ahead mid.at bytes) reason fails,
        called ∙ sym (names_by command (p.bytes ++ bytes) ls e),
      ))
      fault s

  -- what the events of a run, a race and a check say against it
  pub run_says : (transcript : Bool) (n : ℕ) (t : List ℕ) (job : Job) → parse_header_job has purposes.Run n t ≡ Ok job → (ls : List (ℕ × List ℕ)) (reason : Reason)
      → folded_events skipped_event job 0 tt ls ≡ Err reason → of_header has no_chance (Run transcript) n t ls ≡ Err reason
  run_says transcript n t job h ls reason e =
      run_by no_chance.answers transcript n t ls job (Err reason) h (replay_fails (step (command_cast no_chance.answers job)) (start
      (job_cast job)) job ls reason e)

  pub race_says : (ticks : ℕ) (transcript : Bool) (n : ℕ) (t : List ℕ) (job : Job) → parse_header_job has purposes.Race n t ≡ Ok job
      → (ls : List (ℕ × List ℕ)) (reason : Reason) → folded_events skipped_event job 0 tt ls ≡ Err reason
      → of_header has no_chance (Race ticks transcript) n t ls ≡ Err reason
  race_says ticks transcript n t job h ls reason e = race_by no_chance.book transcript n t ls job (Err reason) h e

  pub check_says : (n : ℕ) (t : List ℕ) (job : Job) → parse_header_job has purposes.Check n t ≡ Ok job → (ls : List (ℕ × List ℕ)) (reason : Reason)
      → folded_events skipped_event job 0 tt ls ≡ Err reason → of_header has no_chance Check n t ls ≡ Err reason
  check_says n t job h ls reason e = check_by n t ls job (Err reason) h e

  pub make_says : (n : ℕ) (t : List ℕ) (job : Job) → parse_header_job has purposes.Make n t ≡ Ok job → (ls : List (ℕ × List ℕ)) (reason : Reason)
      → copied 0 (written_line (made job)) ls ≡ Err reason → of_header has no_chance Make n t ls ≡ Err reason
  make_says n t job h ls reason e = make_by n t ls job (Err reason) h e

  -- the header and then the further lines were read
  pub is_read : {A : Type 0} (purpose : Purpose) (walk : Job → List (ℕ × List ℕ) → Result A Reason) (left : Tape) (n : ℕ) (mid now : Desk)
      (job : Job) (y : A) (p : IsLine (desk left n fresh) mid)
      → parse_header_job has purpose mid.at.number mid.at.text ≡ Ok job → (e : Ends (λ bytes. walk job (ahead mid.at bytes) ≡ Ok y) mid now)
      → Ends (λ bytes. IsReadInput has purpose walk bytes job y) (desk left n fresh) now
  is_read purpose walk left n mid now job y p h e = record {
    bytes = p.bytes ++ e.bytes;
    stands = stands_on (desk left n fresh) mid now p.bytes e.bytes p.stands e.stands;
    can = can_come fresh (p.bytes ++ e.bytes) refl;
    told = record {
      line = mid.at.number;
      text = mid.at.text;
      others = ahead mid.at e.bytes;
      lines = p.first e.bytes e.can;
      header = h;
      leads = e.told;
    };
    ended = e.ended;
  }
