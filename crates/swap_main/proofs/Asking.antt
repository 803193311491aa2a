-- What the program promises of a job of a number, by what a status says of what was written.
use Rattle.std.proofs.Common.{◌≡◌, ◌≤◌, ◌⊎◌, inl, inr, ℕ, Bool, true, false, List, Option, Some, None, option_and_then, refl, sym, ap, ◌∙◌, subst}
use Rattle.std.specs.Io.KnownBytes.{Keeps}
use Rattle.swap_io.specs.Causes.{AppendsProperPrefix}
use Rattle.swap_io.specs.Handed.{AppendsPrefix}
use Rattle.command_input.specs.declared.reason.Reason.{Reason}
use Rattle.swap_gen.proofs.Generated.{generated_is_accepted}
use Rattle.program_words.specs.Words.{task_text}
use Rattle.program_words.specs.declared.task.Order.{Order}
use Rattle.program_words.specs.declared.task.Order.TheVariants as orders
use Rattle.swap_commands.specs.Generated.{generated_output, AsRequested, Generates, IsRequestStatus}
use Rattle.swap_main.specs.Top.{command_status}
use Rattle.swap_commands.specs.Words.{AsksRace, Command, OfJob, Race as OfRace, task_command, words_command, ordered, task_request, words_request}
use Rattle.command_input.specs.Written.{IsWrittenWhole, StatusWrites, Written}
use Rattle.program_words.specs.declared.task.Request.{Request}
use Rattle.program_words.specs.declared.task.Task.{Task}
use Rattle.program_words.specs.declared.task.Task.TheVariants.{Input, Race, Number}
use Rattle.command_input.specs.declared.status.Status.{Status}
use Rattle.command_input.specs.declared.status.Status.TheVariants.{Done, Named, WrongWords, Refused, ReadFault, WriteFault, NoMemory, TooLong}
use Rattle.command_input.specs.Streams.{HasWriteFault, Streams}

-- The words' task.

pub command_is : (words : List (List ℕ)) (task : Task) (command : Command) → task_text words ≡ Some task → task_command task ≡ Some command
    → words_command words ≡ Some command
command_is words task command e is = ap (λ (o : Option Task). option_and_then task_command o) e ∙ is

pub request_is : (words : List (List ℕ)) (request : Request) → task_text words ≡ Some (Number request) → words_request words ≡ Some request
request_is words request e = ap (λ (o : Option Task). option_and_then task_request o) e

-- words that ask for a job of a number are no command that reads an input
pub no_command : (words : List (List ℕ)) (request : Request) → words_request words ≡ Some request → words_command words ≡ None
no_command words request e = go (task_text words) e
  where
    go : (o : Option Task) → option_and_then task_request o ≡ Some request → option_and_then task_command o ≡ None
    go None e = absurd (cc e)
    go (Some (Input order)) e = absurd (cc e)
    go (Some (Race ticks transcript)) e = absurd (cc e)
    go (Some (Number other)) e = refl

-- a race is asked for where the words' task is one
pub is_a_race : (words : List (List ℕ)) (ticks : ℕ) (transcript : Bool) → task_text words ≡ Some (Race ticks transcript) → AsksRace words
is_a_race words ticks transcript e = record {
  ticks = ticks;
  transcript = transcript;
  asks = command_is words (Race ticks transcript) (OfJob (OfRace ticks transcript)) e refl;
}

no_race_ordered : (order : Order) (ticks : ℕ) (transcript : Bool) → ¬ (ordered order ≡ OfJob (OfRace ticks transcript))
no_race_ordered orders.Check ticks transcript e = cc e
no_race_ordered (orders.Run other) ticks transcript e = cc e
no_race_ordered orders.Make ticks transcript e = cc e
no_race_ordered orders.Audit ticks transcript e = cc e
no_race_ordered orders.Clear ticks transcript e = cc e
no_race_ordered orders.Many ticks transcript e = cc e

-- a race isn't asked for by any other task
pub order_is_no_race : (words : List (List ℕ)) (order : Order) → task_text words ≡ Some (Input order) → ¬ AsksRace words
order_is_no_race words order e race =
    let same : ordered order ≡ OfJob (OfRace race.ticks race.transcript) = cc (sym (command_is words (Input order) (ordered order) e refl) ∙ race.asks) in
    no_race_ordered order race.ticks race.transcript same

pub number_is_no_race : (words : List (List ℕ)) (request : Request) → task_text words ≡ Some (Number request) → ¬ AsksRace words
number_is_no_race words request e race = cc (sym (no_command words request (request_is words request e)) ∙ race.asks)

-- What a status says.

module _ (words : List (List ℕ)) (before after : Streams) (request : Request) (asks : words_request words ≡ Some request)
    (unread : after.left ≡ before.left) (few : 2 ≤ request.parties) (many : request.parties ≤ 24) where
  abbrev Said : Status → Type 0
  Said s = IsRequestStatus before.taken after.taken before.write_faults after.write_faults request s

  abbrev WrittenSo : Status → Type 0
  WrittenSo s = StatusWrites before.taken after.taken before.write_faults after.write_faults (generated_output request) s

  writes_at : (s t : Status) → Said s → s ≡ t → WrittenSo t
  writes_at s t h e = subst WrittenSo e h.writes

  party_made : (P : Written → Type 0) → AsRequested request (generated_output request) → P (generated_output request) → Generates P words before.left after.left
  party_made P promised w = record {
    request = request;
    asks = asks;
    unread = unread;
    accepted = generated_is_accepted request.seed request.parties few many;
    promised = promised;
    written = w;
  }

  pub done : (s : Status) → Said s → s ≡ Done → Generates (IsWrittenWhole before.taken after.taken false) words before.left after.left
  done s h e = party_made (IsWrittenWhole before.taken after.taken false) (h.promised (λ none. cc (sym e ∙ none))) (writes_at s Done h e)

  pub named : (s : Status) → Said s → s ≡ Named → Generates (IsWrittenWhole before.taken after.taken true) words before.left after.left
  named s h e = party_made (IsWrittenWhole before.taken after.taken true) (h.promised (λ none. cc (sym e ∙ none))) (writes_at s Named h e)

  pub write_fault : (s : Status) → Said s → s ≡ WriteFault → HasWriteFault before after
  write_fault s h e = let w = writes_at s WriteFault h e in w.0

  pub cut : (s : Status) → Said s → s ≡ WriteFault → Generates (λ output. AppendsProperPrefix before.taken after.taken output.text) words before.left after.left
  cut s h e =
      let w = writes_at s WriteFault h e in
      party_made (λ output. AppendsProperPrefix before.taken after.taken output.text) (h.promised (λ none. cc (sym e ∙ none))) w.1

  -- a summary that wasn't made before.left nothing
  pub short : (s : Status) → Said s → s ≡ NoMemory
      → Keeps before.taken after.taken ⊎ Generates (λ output. AppendsPrefix before.taken after.taken output.text) words before.left after.left
  short s h e = by request.summary refl
    where
      by : (summary : Bool) → request.summary ≡ summary
          → Keeps before.taken after.taken ⊎ Generates (λ output. AppendsPrefix before.taken after.taken output.text) words before.left after.left
      by true asked = inl (h.silent e asked)
      by false asked =
          inr (party_made (λ output. AppendsPrefix before.taken after.taken output.text) (λ again. absurd (cc (sym asked ∙ again))) (writes_at s NoMemory h e))

  pub not_wrong_words : (s : Status) → Said s → ¬ (s ≡ WrongWords)
  not_wrong_words s h e = writes_at s WrongWords h e

  pub not_refused : (s : Status) → Said s → (reason : Reason) (names : List (List ℕ)) → ¬ (s ≡ Refused reason names)
  not_refused s h reason names e = writes_at s (Refused reason names) h e

  pub no_read_fault : (s : Status) → Said s → ¬ (s ≡ ReadFault)
  no_read_fault s h e = writes_at s ReadFault h e

  pub not_too_long : (s : Status) → Said s → ¬ (s ≡ TooLong)
  not_too_long s h e = writes_at s TooLong h e

  pub silent : (s : Status) → Said s → ¬ (s ≡ Done) → ¬ (s ≡ Named) → ¬ (s ≡ WriteFault) → ¬ (s ≡ NoMemory) → Keeps before.taken after.taken
  silent Done h d c w f = absurd (d refl)
  silent Named h d c w f = absurd (c refl)
  silent WrongWords h d c w f = absurd h.writes
  silent (Refused reason names) h d c w f = absurd h.writes
  silent ReadFault h d c w f = absurd h.writes
  silent WriteFault h d c w f = absurd (w refl)
  silent NoMemory h d c w f = absurd (f refl)
  silent TooLong h d c w f = absurd h.writes

  pub is_no_command : (command : Command) → ¬ (words_command words ≡ Some command)
  is_no_command command e = absurd (cc (sym (no_command words request asks) ∙ e))

  same_request : (other : Request) → words_request words ≡ Some other → request ≡ other
  same_request other e = cc (sym asks ∙ e)

  pub good : (s : Status) → Said s → (other : Request) → words_request words ≡ Some other → ¬ HasWriteFault before after
      → (s ≡ command_status (generated_output other).found) ⊎ (s ≡ NoMemory)
  good Done h other is still =
      let found : (generated_output other).found ≡ false = ap (λ (r : Request). (generated_output r).found) (sym (same_request other is)) ∙ h.writes.1 in
      inl (rw found refl)
  good Named h other is still =
      let found : (generated_output other).found ≡ true = ap (λ (r : Request). (generated_output r).found) (sym (same_request other is)) ∙ h.writes.1 in
      inl (rw found refl)
  good WrongWords h other is still = absurd h.writes
  good (Refused reason names) h other is still = absurd h.writes
  good ReadFault h other is still = absurd h.writes
  good WriteFault h other is still = absurd (still h.writes.0)
  good NoMemory h other is still = inr refl
  good TooLong h other is still = absurd h.writes
