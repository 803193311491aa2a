-- What the program promises, by what a status says of its task.
use Rattle.std.proofs.Common.{◌≡◌, ◌≤◌, ◌⊎◌, ◌↔◌, inl, inr, ℕ, Bool, List, map, Option, Some, None, option_and_then, refl, sym, ap, ◌∙◌, subst}
use Rattle.std.specs.Io.KnownBytes.{Keeps}
use Rattle.std.proofs.KnownBytes.{Keeps-refl}
use Rattle.swap_io.specs.Tape.{Tape}
use Rattle.swap_io.specs.Causes.{ConsumesAtMost}
use Rattle.swap_io.specs.Handed.{AppendsPrefix}
use Rattle.swap_world.specs.Gone.{MayGive}
use Rattle.program_words.specs.Words.{task_text, AreNumbersInRange}
use Rattle.program_words.specs.declared.task.Request.{Request}
use Rattle.program_words.specs.declared.task.Task.{Task}
use Rattle.program_words.specs.declared.task.Task.TheVariants.{Input, Race, Number}
use Rattle.program_words.proofs.Ranges.{task_within}
use Rattle.command_input.specs.Input.{limit}
use Rattle.command_input.specs.declared.status.Status.{Status}
use Rattle.command_input.specs.declared.status.Status.TheVariants.{WrongWords, NoMemory}
use Rattle.command_input.specs.Streams.{Streams, streams}
use Rattle.command_input.specs.Written.{StatusWrites}
use Rattle.swap_commands.specs.Generated.{generated_output, Generates, IsRequestStatus}
use Rattle.swap_commands.specs.Says.{StatusSays}
use Rattle.swap_commands.specs.Strategies.{Strategies, given_strategies}
use Rattle.swap_commands.specs.Words.{Command, OfJob, Race as OfRace, task_command, words_command, ordered, task_request, words_request}
use Rattle.swap_main.specs.Answer.{IsAnswer}
use Rattle.swap_main.specs.Top.{IsCutShort}
use Rattle.swap_commands.proofs.Saying.{none_consumed}
use Rattle.swap_main.proofs.Asking as asking
use Rattle.swap_main.proofs.Asking.{command_is, no_command, request_is}
use Rattle.swap_main.proofs.Ends as ends

-- what a status says of a task: by its input, or without one by what is written of a number's job
abbrev pub Performs : Strategies → Task → Streams → Streams → Status → Type 0
Performs who (Input order) before after s = StatusSays who (ordered order) before after s
Performs who (Race ticks transcript) before after s = StatusSays who (OfJob (OfRace ticks transcript)) before after s
Performs who (Number request) before after s = (after.left ≡ before.left) × IsRequestStatus before.taken after.taken before.write_faults after.write_faults request s

-- the task that was read of words is theirs
pub asked_as : {X : Type 0} (word : X → List ℕ) (all read : List X) (o : Option Task) (t u : Task) → read ≡ all → o ≡ task_text (map word read) → o ≡ Some t
    → t ≡ u → task_text (map word all) ≡ Some u
asked_as {X} word all read o t u same exact is variant =
    ap (λ (xs : List X). task_text (map word xs)) (sym same) ∙ sym exact ∙ is ∙ ap (λ (x : Task). Some x) variant

-- the numbers of a request that was read of words are within their ranges
pub request_within : {X : Type 0} (word : X → List ℕ) (all read : List X) (o : Option Task) (t : Task) (request : Request) → read ≡ all
    → o ≡ task_text (map word read) → o ≡ Some t → t ≡ Number request → AreNumbersInRange (Number request)
request_within {X} word all read o t request same exact is variant =
    task_within (map word all) (Number request) (asked_as word all read o t (Number request) same exact is variant)

pub none_asked : {X : Type 0} (word : X → List ℕ) (all read : List X) (o : Option Task) → read ≡ all → o ≡ task_text (map word read) → o ≡ None
    → task_text (map word all) ≡ None
none_asked {X} word all read o same exact is = ap (λ (xs : List X). task_text (map word xs)) (sym same) ∙ sym exact ∙ is

-- a task that reads an input asks for no job of a number
pub number_is : (words : List (List ℕ)) (task : Task) (request : Request) → task_text words ≡ Some task → words_request words ≡ Some request
    → task_request task ≡ Some request
number_is words task request asked is = sym (ap (λ (o : Option Task). option_and_then task_request o) asked) ∙ is

module _ (who : Strategies) (words : List (List ℕ)) (before after : Streams) where
  short_input : Keeps before.taken after.taken ⊎ IsCutShort who words before after
      → Keeps before.taken after.taken ⊎ IsCutShort who words before after
      ⊎ Generates (λ output. AppendsPrefix before.taken after.taken output.text) words before.left after.left
  short_input (inl k) = inl k
  short_input (inr o) = inr (inl o)

  short_number : Keeps before.taken after.taken ⊎ Generates (λ output. AppendsPrefix before.taken after.taken output.text) words before.left after.left
      → Keeps before.taken after.taken ⊎ IsCutShort who words before after
      ⊎ Generates (λ output. AppendsPrefix before.taken after.taken output.text) words before.left after.left
  short_number (inl k) = inl k
  short_number (inr g) = inr (inr g)

  module _ (command : Command) (asked : words_command words ≡ Some command) where
    no_number : (request : Request) → ¬ (words_request words ≡ Some request)
    no_number request is = cc (sym asked ∙ no_command words request is)

    -- what is promised of a command that reads an input
    pub by_command : (s : Status) → StatusSays who command before after s → IsAnswer who words before after s
    by_command s h = record {
      done = λ e. inl (ends.done who.holds who.gives words before after command asked s h e);
      named = λ e. inl (ends.named who.holds who.gives words before after command asked s h e);
      refused = ends.refused who.holds who.gives words before after command asked s h;
      read_fault = ends.read_fault who.holds who.gives words before after command asked s h;
      part = ends.part who.holds who.gives words before after command asked s h;
      write_fault = ends.write_fault who.holds who.gives words before after command asked s h;
      cut = λ e. inl (ends.cut who.holds who.gives words before after command asked s h e);
      too_long = ends.too_long who.holds who.gives words before after command asked s h;
      short = λ e. short_input (ends.short who.holds who.gives words before after command asked s h e);
      silent = ends.silent who.holds who.gives words before after command asked s h;
      long = ends.long who.holds who.gives words before after command asked s h;
      bad = ends.bad who.holds who.gives words before after command asked s h;
      good = ends.good who.holds who.gives words before after command asked s h;
      fair_run = ends.fair who.holds who.gives words before after command asked s h;
      fair_race = ends.fair_race who.holds who.gives words before after command asked s h;
      fair_many = ends.fair_many who.holds who.gives words before after command asked s h;
      no_read_fault = λ request is. absurd (no_number request is);
      not_too_long = λ request is. absurd (no_number request is);
      generated = λ request is still. absurd (no_number request is);
    }

  module _ (request : Request) (asked : words_request words ≡ Some request) (unread : after.left ≡ before.left) (few : 2 ≤ request.parties)
      (many : request.parties ≤ 24) where
    no_input : (command : Command) → ¬ (words_command words ≡ Some command)
    no_input command is = cc (sym (no_command words request asked) ∙ is)

    -- what is promised of a job of a number
    pub by_number : (s : Status) → IsRequestStatus before.taken after.taken before.write_faults after.write_faults request s → IsAnswer who words before after s
    by_number s h = record {
      done = λ e. inr (asking.done words before after request asked unread few many s h e);
      named = λ e. inr (asking.named words before after request asked unread few many s h e);
      refused = λ reason names e. absurd (asking.not_refused words before after request asked unread few many s h reason names e);
      read_fault = λ e. absurd (asking.no_read_fault words before after request asked unread few many s h e);
      part = λ e. subst (λ (x : Tape). ConsumesAtMost before.left x limit) (sym unread) (none_consumed before.left);
      write_fault = asking.write_fault words before after request asked unread few many s h;
      cut = λ e. inr (asking.cut words before after request asked unread few many s h e);
      too_long = λ e. absurd (asking.not_too_long words before after request asked unread few many s h e);
      short = λ e. short_number (asking.short words before after request asked unread few many s h e);
      silent = asking.silent words before after request asked unread few many s h;
      long = λ command input is. absurd (no_input command is);
      bad = λ command input reason is. absurd (no_input command is);
      good = λ command input output is. absurd (no_input command is);
      fair_run = λ a. absurd (no_input _ a.asked);
      fair_race = λ a. absurd (no_input _ a.asked);
      fair_many = λ a. absurd (no_input _ a.asked);
      no_read_fault = λ other is. asking.no_read_fault words before after request asked unread few many s h;
      not_too_long = λ other is. asking.not_too_long words before after request asked unread few many s h;
      generated = asking.good words before after request asked unread few many s h;
    }

  -- all of it, by a task
  pub answer : (task : Task) → task_text words ≡ Some task → (s : Status) → Performs who task before after s
      → IsAnswer who words before after s
  answer (Input order) asked s h = by_command (ordered order) (command_is words (Input order) (ordered order) asked refl) s h
  answer (Race ticks transcript) asked s h =
      by_command (OfJob (OfRace ticks transcript)) (command_is words (Race ticks transcript) (OfJob (OfRace ticks transcript)) asked refl) s h
  answer (Number request) asked s h =
      let w = task_within words (Number request) asked in by_number request (request_is words request asked) h.0 w.0 w.1 s h.1

-- Words with a task aren't wrong. Here what is said of the streams stands part by part, so that a
-- call of it need not name them.

pub said_is_right : (has : List ℕ → Bool) (gives : MayGive) (command : Command) (left left' : Tape) (n m : ℕ) (taken taken' : Option (List ℕ))
    (p q : ℕ) (s : Status) → StatusSays (given_strategies has gives) command (streams left n taken p) (streams left' m taken' q) s → ¬ (s ≡ WrongWords)
said_is_right has gives command left left' n m taken taken' p q s h e =
    subst (λ (t : Status). StatusSays (given_strategies has gives) command (streams left n taken p) (streams left' m taken' q) t) e h

pub made_is_right : (taken taken' : Option (List ℕ)) (p q : ℕ) (request : Request) (s : Status) → IsRequestStatus taken taken' p q request s → ¬ (s ≡ WrongWords)
made_is_right taken taken' p q request s h e = subst (λ (t : Status). StatusWrites taken taken' p q (generated_output request) t) e h.writes

pub never_wrong : (words : List (List ℕ)) (task : Task) → task_text words ≡ Some task → (s : Status) → ¬ (s ≡ WrongWords)
    → (s ≡ WrongWords) ↔ (task_text words ≡ None)
never_wrong words task asked s right = (λ e. absurd (right e), λ none. absurd (cc (sym asked ∙ none)))

-- Where nothing was read and nothing was written.
module _ (who : Strategies) (words : List (List ℕ)) (now : Streams) where
  pub without_memory : IsAnswer who words now now NoMemory
  without_memory = record {
    done = λ e. absurd (cc e);
    named = λ e. absurd (cc e);
    refused = λ reason names e. absurd (cc e);
    read_fault = λ e. absurd (cc e);
    part = λ e. none_consumed now.left;
    write_fault = λ e. absurd (cc e);
    cut = λ e. absurd (cc e);
    too_long = λ e. absurd (cc e);
    short = λ e. inl (Keeps-refl now.taken);
    silent = λ d c w f. absurd (f refl);
    long = λ command input is told over calm. inr refl;
    bad = λ command input reason is told within against calm. inr refl;
    good = λ command input output is told within made calm still. inr refl;
    fair_run = λ a calm still. inr refl;
    fair_race = λ a calm still. inr refl;
    fair_many = λ a calm still. inr refl;
    no_read_fault = λ request is e. absurd (cc e);
    not_too_long = λ request is e. absurd (cc e);
    generated = λ request is still. inr refl;
  }

  no_command_of : task_text words ≡ None → words_command words ≡ None
  no_command_of none = ap (λ (o : Option Task). option_and_then task_command o) none

  no_request_of : task_text words ≡ None → words_request words ≡ None
  no_request_of none = ap (λ (o : Option Task). option_and_then task_request o) none

  pub with_wrong_words : task_text words ≡ None → IsAnswer who words now now WrongWords
  with_wrong_words none = record {
    done = λ e. absurd (cc e);
    named = λ e. absurd (cc e);
    refused = λ reason names e. absurd (cc e);
    read_fault = λ e. absurd (cc e);
    part = λ e. none_consumed now.left;
    write_fault = λ e. absurd (cc e);
    cut = λ e. absurd (cc e);
    too_long = λ e. absurd (cc e);
    short = λ e. absurd (cc e);
    silent = λ d c w f. Keeps-refl now.taken;
    long = λ command input is told over calm. absurd (cc (sym (no_command_of none) ∙ is));
    bad = λ command input reason is told within against calm. absurd (cc (sym (no_command_of none) ∙ is));
    good = λ command input output is told within made calm still. absurd (cc (sym (no_command_of none) ∙ is));
    fair_run = λ a calm still. absurd (cc (sym (no_command_of none) ∙ a.asked));
    fair_race = λ a calm still. absurd (cc (sym (no_command_of none) ∙ a.asked));
    fair_many = λ a calm still. absurd (cc (sym (no_command_of none) ∙ a.asked));
    no_read_fault = λ request is e. absurd (cc e);
    not_too_long = λ request is e. absurd (cc e);
    generated = λ request is still. absurd (cc (sym (no_request_of none) ∙ is));
  }
