-- What a command's status says, by how its parts ended.
use Rattle.std.proofs.Common.{◌≡◌, ◌+◌, inl, inr, ℕ, Bool, List, [], ◌∷◌, Option, Ok, refl, sym, ap, ◌∙◌, arith}
use Rattle.std.proofs.KnownBytes.{Keeps-refl}
use Rattle.swap_io.proofs.ByteLaws.{Consumes-nil}
use Rattle.std.specs.Io.KnownBytes.{Keeps}
use Rattle.swap_io.specs.Tape.{Tape}
use Rattle.swap_io.specs.Causes.{ConsumesAtMost, ConsumesSome}
use Rattle.command_input.specs.declared.refusal.Refusal.{Refusal}
use Rattle.ledger_core.specs.Book.{Histories}
use Rattle.swap_job.specs.declared.job.Job.{Job}
use Rattle.swap_job.specs.declared.job.Purpose.TheVariants as purposes
use Rattle.party_threads.specs.Race.{IsRaceBook}
use Rattle.swap_job.specs.declared.job.Finish.TheVariants.{Fair}
use Rattle.swap_rules.specs.Accepted.{IsAccepted}
use Rattle.swap_rules.specs.Outcome.{IsEnded}
use Rattle.swap_rules.specs.Laws.{IsDealt}
use Rattle.swap_run.specs.Run.{State, start}
use Rattle.swap_run.specs.Laws.{IsKept}
use Rattle.swap_run.specs.Asked.{Answers}
use Rattle.swap_world.specs.Cast.{job_cast}
use Rattle.swap_world.specs.Gone.{MayGive}
use Rattle.swap_world.specs.Value.{Continues, WorldState}
use Rattle.outcome_rules.specs.Report.{is_conforming_party}
use Rattle.outcome_rules.specs.Promises.{AllAreConforming}
use Rattle.made_jobs.specs.Making.{IsMade}
use Rattle.swap_commands.specs.Entered.{HasEntered}
use Rattle.swap_commands.specs.Replay.{IsChecked, IsConcluded, IsEntered, IsPlayed, IsCopied}
use Rattle.command_input.specs.Faults.{unread}
use Rattle.command_input.specs.Input.{InputProgress, Desk, Drains, Ends, HasStopped, TookPart, IsTooLong, Stops, desk, fresh, limit}
use Rattle.command_input.specs.declared.fault.InputFault.{InputFault}
use Rattle.command_input.specs.declared.fault.InputFault.TheVariants as fault
use Rattle.command_input.proofs.Streams.{calm_unread, has_stopped}
use Rattle.swap_commands.specs.Output.{AreGiven, Chance, by_answers, by_book, command_cast, finished_state, no_chance, output_given_chance, reported, written_check, plain_text}
use Rattle.swap_world.specs.Recorded.{AreRecorded}
use Rattle.swap_commands.specs.Promised.{AsPromised}
use Rattle.swap_commands.specs.Says.{CommandSays, HasRead, IsCommandRefusal, StatusSays}
use Rattle.command_input.specs.Written.{StatusWrites, Written}
use Rattle.swap_commands.specs.Words.{Command, OfJob, Check, Run, Race, Make}
use Rattle.command_input.specs.declared.status.Status.{Status}
use Rattle.command_input.specs.declared.status.Status.TheVariants.{Done, Named, WrongWords, Refused, ReadFault, WriteFault, NoMemory, TooLong}
use Rattle.command_input.specs.Streams.{streams}
use Rattle.swap_commands.proofs.Promises.{is_check, is_race, is_run, is_making}
use Rattle.swap_commands.proofs.Reading.{check_of_bytes, gives_check, gives_race, gives_run, set_contains_ends, race_of_bytes, run_of_bytes}
use Rattle.swap_commands.proofs.Reading.{gives_make, making_of_bytes}
use Rattle.swap_commands.specs.Strategies.{given_strategies}

-- no more was taken than an input may have
pub is_consumed : (left left' : Tape) (n m : ℕ) (now : InputProgress) → TookPart (desk left n fresh) (desk left' m now) → ConsumesAtMost left left' limit
is_consumed left left' n m now t = (t.0.0, omega (arith, t.0.1.counted, t.1), t.0.1.consumed)

-- nothing was taken
pub none_consumed : (left : Tape) → ConsumesAtMost left left limit
none_consumed left = ([], omega arith, Consumes-nil left)

-- more was taken than an input may have
too_long : (left left' : Tape) (n m : ℕ) (now : InputProgress) → IsTooLong (desk left n fresh) (desk left' m now) → ConsumesSome left left' (limit + 1)
too_long left left' n m now t = (t.0.0, omega (arith, t.0.1.counted, t.1), t.0.1.consumed)

module _ (has : List ℕ → Bool) where
  pub says_written : (gives : MayGive) (a : Chance) (command : Command) (left left' : Tape) (n m : ℕ) (taken taken' : Option (List ℕ)) (p q : ℕ)
      (output : Written) (r : HasRead has a command left left' (Ok output)) → AsPromised has gives a command r.input output
      → (s : Status) → StatusWrites taken taken' p q output s → StatusSays (given_strategies has gives) command (streams left n taken p) (streams left' m taken' q) s
  says_written gives a command left left' n m taken taken' p q output r promised Done w =
      record { chance = a; output = output; read = r; promised = promised; written = w }
  says_written gives a command left left' n m taken taken' p q output r promised Named w =
      record { chance = a; output = output; read = r; promised = promised; written = w }
  says_written gives a command left left' n m taken taken' p q output r promised WrongWords w = absurd w
  says_written gives a command left left' n m taken taken' p q output r promised (Refused reason names) w = absurd w
  says_written gives a command left left' n m taken taken' p q output r promised ReadFault w = absurd w
  says_written gives a command left left' n m taken taken' p q output r promised WriteFault w =
      (w.0, record { chance = a; output = output; read = r; promised = promised; written = w.1 })
  says_written gives a command left left' n m taken taken' p q output r promised NoMemory w =
      inr (record { chance = a; output = output; read = r; promised = promised; written = w })
  says_written gives a command left left' n m taken taken' p q output r promised TooLong w = absurd w

  -- Where the reading stopped.

  pub says_unread : (gives : MayGive) (command : Command) (left left' : Tape) (n m : ℕ) (now : InputProgress) (taken taken' : Option (List ℕ)) (p q : ℕ)
      → Keeps taken taken'
      → (f : InputFault Refusal) → HasStopped (IsCommandRefusal has command) (desk left n fresh) (desk left' m now) f
      → StatusSays (given_strategies has gives) command (streams left n taken p) (streams left' m taken' q) (unread f)
  says_unread gives command left left' n m now taken taken' p q k (fault.Refused r) u = (
    record {
      read = record {
        input = u.bytes;
        taken = u.stands.took.consumed;
        ended = u.ended;
        within = set_contains_ends has (λ bytes. IsCommandRefusal has command bytes r) left left' n m now u;
        gives = u.told.0;
      };
      named = u.told.1;
    },
    k,
  )
  says_unread gives command left left' n m now taken taken' p q k fault.ReadFault u = (u.0, k, is_consumed left left' n m now u.1)
  says_unread gives command left left' n m now taken taken' p q k fault.NoMemory u = inl (k, is_consumed left left' n m now u.1)
  says_unread gives command left left' n m now taken taken' p q k fault.TooLong u = (too_long left left' n m now u.1, k)

  -- the status of a command whose input stopped and was drained, by the clauses of both calls
  pub says_stopped : (gives : MayGive) (command : Command) (left left' left'' : Tape) (n m k : ℕ) (mid now : InputProgress) (taken : Option (List ℕ)) (p : ℕ)
      (f answer : InputFault Refusal) → Stops (IsCommandRefusal has command) (desk left n fresh) (desk left' m mid) f
      → Drains (desk left' m mid) (desk left'' k now) f answer
      → CommandSays (given_strategies has gives) command (streams left n taken p) (streams left'' k taken p) (unread answer)
  says_stopped gives command left left' left'' n m k mid now taken p f answer s d =
      let first : Desk = desk left n fresh in
      let last : Desk = desk left'' k now in
      let stopped : HasStopped (IsCommandRefusal has command) first last answer =
      has_stopped (IsCommandRefusal has command) first (desk left' m mid) last f answer s d in
      record {
        says = says_unread gives command left left'' n k now taken taken p p (Keeps-refl taken) answer stopped;
        calm = λ unless. calm_unread (IsCommandRefusal has command) first last answer stopped unless;
      }

  pub all_consumed : (P : List ℕ → Type 0) (left left' : Tape) (n m : ℕ) (now : InputProgress) → Ends P (desk left n fresh) (desk left' m now)
      → ConsumesAtMost left left' limit
  all_consumed P left left' n m now e = (e.bytes, set_contains_ends has P left left' n m now e, e.stands.took.consumed)

  -- What a command says whose input was read whole.

  pub says_whole : (gives : MayGive) (a : Chance) (command : Command) (P : List ℕ → Type 0) (left left' : Tape) (n m : ℕ)
      (taken taken' : Option (List ℕ)) (p q : ℕ) (now : InputProgress) (output : Written) (status : Status) (e : Ends P (desk left n fresh) (desk left' m now))
      → output_given_chance has a command e.bytes ≡ Ok output → AsPromised has gives a command e.bytes output → StatusWrites taken taken' p q output status
      → CommandSays (given_strategies has gives) command (streams left n taken p) (streams left' m taken' q) status
  says_whole gives a command P left left' n m taken taken' p q now output status e made promised w = record {
    says = says_written gives a command left left' n m taken taken' p q output
        (record {
          input = e.bytes;
          taken = e.stands.took.consumed;
          ended = e.ended;
          within = set_contains_ends has P left left' n m now e;
          gives = made;
        })
        promised status w;
    calm = λ unless. e.stands.calm;
  }

  -- memory ran out before anything was written
  pub says_short : (gives : MayGive) (command : Command) (P : List ℕ → Type 0) (left left' : Tape) (n m : ℕ) (taken : Option (List ℕ)) (p : ℕ)
      (now : InputProgress) (e : Ends P (desk left n fresh) (desk left' m now))
      → CommandSays (given_strategies has gives) command (streams left n taken p) (streams left' m taken p) NoMemory
  says_short gives command P left left' n m taken p now e =
      record { says = inl (Keeps-refl taken, all_consumed P left left' n m now e); calm = λ unless. e.stands.calm }

  module _ (gives : MayGive) (transcript : Bool) (left left' : Tape) (n m : ℕ) (taken taken' : Option (List ℕ)) (p q : ℕ) where
    says_played : (a : Answers) (now : InputProgress) (job : Job) (s : State) (b : Histories) (status : Status)
        (e : Ends (λ bytes. IsPlayed has a bytes job s) (desk left n fresh) (desk left' m now))
        → AreGiven gives job.deal a (finished_state job.finish (command_cast a job) s).asked
        → b ≡ (finished_state job.finish (command_cast a job) s).book → IsAccepted job.deal → IsKept (job_cast job) b
        → AreRecorded (command_cast a job) (finished_state job.finish (command_cast a job) s) → (job.finish ≡ Fair → IsEnded job.deal b)
        → (job.finish ≡ Fair → s ≡ start (job_cast job) → AllAreConforming job.deal job.conforming → IsDealt job.deal (is_conforming_party job.conforming) b)
        → StatusWrites taken taken' p q (reported transcript job b) status
        → CommandSays (given_strategies has gives) (OfJob (Run transcript)) (streams left n taken p) (streams left' m taken' q) status
    says_played a now job s b status e given same k kept disks ended dealt w =
        let out : Written = reported transcript job b in
        let made : output_given_chance has (by_answers a) (OfJob (Run transcript)) e.bytes ≡ Ok out =
        gives_run has a transcript e.bytes job s e.told ∙ ap (λ (x : Histories). Ok (reported transcript job x)) (sym same) in
        says_whole gives (by_answers a) (OfJob (Run transcript)) (λ bytes. IsPlayed has a bytes job s) left left' n m taken taken' p q now out status e made
        (run_of_bytes has gives a transcript e.bytes ((e.told.line, e.told.text) ∷ e.told.others) out e.told.lines
        (is_run has gives a transcript e.told.line e.told.text e.told.others job s b out e.told.header e.told.leads given same refl k kept disks
        ended dealt))
        w

    -- the answers are those with which the world was finished
    pub says_run : (now : InputProgress) (job : Job) (world : WorldState) (b : Histories) (status : Status)
        → ((a : Answers) → Continues world a → Ends (λ bytes. IsPlayed has a bytes job world.state) (desk left n fresh) (desk left' m now))
        → IsConcluded gives job world b
        → IsAccepted job.deal → IsKept (job_cast job) b → (job.finish ≡ Fair → IsEnded job.deal b)
        → (job.finish ≡ Fair → world.state ≡ start (job_cast job) → AllAreConforming job.deal job.conforming
        → IsDealt job.deal (is_conforming_party job.conforming) b)
        → StatusWrites taken taken' p q (reported transcript job b) status
        → CommandSays (given_strategies has gives) (OfJob (Run transcript)) (streams left n taken p) (streams left' m taken' q) status
    says_run now job world b status e c k kept ended dealt w =
        says_played c.answers now job world.state b status (e c.answers c.continues) c.given c.book k kept c.recorded ended dealt w

  pub says_race : (gives : MayGive) (ticks : ℕ) (transcript : Bool) (left left' : Tape) (n m : ℕ) (taken taken' : Option (List ℕ)) (p q : ℕ)
      (job : Job) (b : Histories) (status : Status) → HasEntered has left left' job → IsAccepted job.deal → job.purpose ≡ purposes.Race
      → IsRaceBook gives (job_cast job) ticks b → StatusWrites taken taken' p q (reported transcript job b) status
      → StatusSays (given_strategies has gives) (OfJob (Race ticks transcript)) (streams left n taken p) (streams left' m taken' q) status
  says_race gives ticks transcript left left' n m taken taken' p q job b status e k purpose raced w =
      let out : Written = reported transcript job b in
      let r = e.entered in
      says_written gives (by_book b) (OfJob (Race ticks transcript)) left left' n m taken taken' p q out
      (record {
        input = e.input;
        taken = e.taken;
        ended = e.ended;
        within = e.within;
        gives = gives_race has b ticks transcript e.input job e.entered;
      })
      (race_of_bytes has gives b ticks transcript e.input ((r.line, r.text) ∷ r.others) out r.lines
      (is_race has gives b ticks transcript r.line r.text r.others job out r.header r.leads refl purpose k raced))
      status w

  -- the job of a race was read
  pub has_entered : (left left' : Tape) (n m : ℕ) (now : InputProgress) (job : Job)
      → Ends (λ bytes. IsEntered has bytes job) (desk left n fresh) (desk left' m now)
      → HasEntered has left left' job
  has_entered left left' n m now job e = record {
    input = e.bytes;
    taken = e.stands.took.consumed;
    ended = e.ended;
    within = set_contains_ends has (λ bytes. IsEntered has bytes job) left left' n m now e;
    entered = e.told;
  }

  pub says_check : (gives : MayGive) (left left' : Tape) (n m : ℕ) (taken taken' : Option (List ℕ)) (p q : ℕ) (now : InputProgress) (job : Job)
      (status : Status)
      (e : Ends (λ bytes. IsChecked has bytes job) (desk left n fresh) (desk left' m now))
      → IsAccepted job.deal → StatusWrites taken taken' p q (written_check job) status
      → CommandSays (given_strategies has gives) (OfJob Check) (streams left n taken p) (streams left' m taken' q) status
  says_check gives left left' n m taken taken' p q now job status e k w =
      says_whole gives no_chance (OfJob Check) (λ bytes. IsChecked has bytes job) left left' n m taken taken' p q now (written_check job) status e
      (gives_check has e.bytes job e.told)
      (check_of_bytes has e.bytes ((e.told.line, e.told.text) ∷ e.told.others) (written_check job) e.told.lines
      (is_check has e.told.line e.told.text e.told.others job tt (written_check job) e.told.header e.told.leads refl k))
      w

  pub says_make : (gives : MayGive) (left left' : Tape) (n m : ℕ) (taken taken' : Option (List ℕ)) (p q : ℕ) (now : InputProgress) (job : Job)
      (text : List ℕ) (status : Status)
      (e : Ends (λ bytes. IsCopied has bytes job text) (desk left n fresh) (desk left' m now))
      → IsMade job → StatusWrites taken taken' p q (plain_text text) status
      → CommandSays (given_strategies has gives) (OfJob Make) (streams left n taken p) (streams left' m taken' q) status
  says_make gives left left' n m taken taken' p q now job text status e k w =
      says_whole gives no_chance (OfJob Make) (λ bytes. IsCopied has bytes job text) left left' n m taken taken' p q now (plain_text text) status e
      (gives_make has e.bytes job text e.told)
      (making_of_bytes has e.bytes ((e.told.line, e.told.text) ∷ e.told.others) (plain_text text) e.told.lines
      (is_making has e.told.line e.told.text e.told.others job text (plain_text text) e.told.header e.told.leads k))
      w
