-- What passed through a process, by what the program promises of its answer.
use Rattle.std.proofs.Common.{◌≡◌, ◌≤◌, ◌+◌, ◌⊎◌, inl, inr, ℕ, Bool, true, false, List, [], ◌++◌, ◌∙◌, length, take, Some, Result, Ok, Err, sym, ap, subst}
use Rattle.std.specs.Io.KnownBytes.{Keeps}
use Rattle.swap_io.specs.Counted.{ReadSoFar, WrittenSoFar}
use Rattle.swap_io.specs.Tape.{Consumes, Tape}
use Rattle.swap_io.specs.Causes.{AppendsProperPrefix, ConsumesAtMost, ConsumesSome}
use Rattle.swap_io.specs.Handed.{AppendsPrefix}
use Rattle.command_input.specs.Input.{limit}
use Rattle.command_input.specs.Streams.{streams, Streams}
use Rattle.command_input.specs.Written.{IsWrittenWhole, Written}
use Rattle.command_input.specs.declared.reason.Reason.{Reason}
use Rattle.command_input.specs.declared.status.Status.{Status}
use Rattle.command_input.specs.declared.status.Status.TheVariants.{WrongWords}
use Rattle.swap_commands.specs.Generated.{Generates}
use Rattle.swap_commands.specs.Output.{Chance, output_given_chance, refusal_names}
use Rattle.swap_commands.specs.Promised.{AsPromised}
use Rattle.swap_commands.specs.Strategies.{Strategies}
use Rattle.swap_main.specs.Answer.{IsAnswer}
use Rattle.swap_main.specs.Process.{HasAnswered, HasGenerated, HasReadAll, HasRefused, HasServed, IsPart, IsProcess, IsProperPart, IsWhole, Passed}
use Rattle.swap_main.specs.Top.{IsCut, IsCutShort, IsDone, IsRefused, Read}

-- before the first call of a source or a sink

pub nothing_given : {T : Type 0} (s : ReadSoFar T) (inner : T) → s ≡ record { inner = inner; faults = 0; given = []; ended = false } → s.given ≡ []
nothing_given {T = T} s inner e = ap (λ (x : ReadSoFar T). x.given) e

pub nothing_more : {T : Type 0} (s t : ReadSoFar T) → s ≡ t → s.given ≡ t.given
nothing_more {T = T} s t e = ap (λ (x : ReadSoFar T). x.given) e

pub nothing_written : {T : Type 0} (s : WrittenSoFar T) (inner : T) → s ≡ record { inner = inner; written = [] } → s.written ≡ []
nothing_written {T = T} s inner e = ap (λ (x : WrittenSoFar T). x.written) e

-- The source and the sink before the first call, and behind the last.
module _ (who : Strategies) (words : List (List ℕ)) (first last : Tape) (start written : List ℕ) (unread : first.given ≡ []) (unwritten : start ≡ [])
    (n m p q : ℕ) where
  abbrev passed : Passed
  passed = record { given = last.given; ended = last.ended; written = written }

  all_given : (input : List ℕ) → Consumes first last input → input ≡ last.given
  all_given input taken = sym (taken.gave ∙ ap (λ (xs : List ℕ). xs ++ input) unread)

  few_given : (most : ℕ) → ConsumesAtMost first last most → length last.given ≤ most
  few_given most c = subst (λ (xs : List ℕ). length xs ≤ most) (all_given c.0 c.2) c.1

  some_given : (most : ℕ) → ConsumesSome first last most → length last.given ≡ most
  some_given most c = subst (λ (xs : List ℕ). length xs ≡ most) (all_given c.0 c.2) c.1

  all_written : (text : List ℕ) → written ≡ start ++ text → written ≡ text
  all_written text k = k ∙ ap (λ (xs : List ℕ). xs ++ text) unwritten

  abbrev has_read : (chance : Chance) (output : Result Written Reason) → Read who.holds chance words first last output → HasReadAll who.holds chance words passed output
  has_read chance output r = record {
    command = r.command;
    asked = r.asked;
    ended = r.ended.met;
    within = subst (λ (xs : List ℕ). length xs ≤ limit) (all_given r.input r.taken) r.within;
    gives = subst (λ (xs : List ℕ). output_given_chance who.holds chance r.command xs ≡ output) (all_given r.input r.taken) r.gives;
  }

  has_served : (chance : Chance) (output : Written) (P : Written → Type 0) (r : Read who.holds chance words first last (Ok output))
      → AsPromised who.holds who.gives chance r.command r.input output → P output → HasServed who words passed P
  has_served chance output P r promised k = record {
    chance = chance;
    output = output;
    read = has_read chance (Ok output) r;
    promised = subst (λ (xs : List ℕ). AsPromised who.holds who.gives chance r.command xs output) (all_given r.input r.taken) promised;
    written = k;
  }

  has_generated : (P Q : Written → Type 0) → ((w : Written) → P w → Q w) → Generates P words first last → HasGenerated words passed Q
  has_generated P Q f g = record {
    request = g.request;
    asks = g.asks;
    unread = ap (λ (t : Tape). t.given) g.unread ∙ unread;
    accepted = g.accepted;
    promised = g.promised;
    written = f _ g.written;
  }

  abbrev before : Streams
  before = streams first n (Some start) p

  abbrev after : Streams
  after = streams last m (Some written) q

  all_of : (found : Bool) (w : Written) → IsWrittenWhole (Some start) (Some written) found w → IsWhole passed found w
  all_of found w k = (all_written w.text k.0, k.1)

  proper_part_of : (w : Written) → AppendsProperPrefix (Some start) (Some written) w.text → IsProperPart passed w
  proper_part_of w k = (k.0, k.1, all_written (take k.0 w.text) k.2)

  part_of : (w : Written) → AppendsPrefix (Some start) (Some written) w.text → IsPart passed w
  part_of w k = (k.0, k.1, all_written (take k.0 w.text) k.2)

  whole : (found : Bool) → IsDone who words before after found ⊎ Generates (IsWrittenWhole (Some start) (Some written) found) words first last
      → HasAnswered who words passed (IsWhole passed found)
  whole found (inl d) = inl (has_served d.chance d.output (IsWhole passed found) d.read d.promised (all_of found d.output (d.written, d.findings)))
  whole found (inr g) = inr (has_generated (IsWrittenWhole (Some start) (Some written) found) (IsWhole passed found) (all_of found) g)

  cut : IsCut who words before after ⊎ Generates (λ w. AppendsProperPrefix (Some start) (Some written) w.text) words first last
      → HasAnswered who words passed (IsProperPart passed)
  cut (inl d) = inl (has_served d.chance d.output (IsProperPart passed) d.read d.promised (proper_part_of d.output d.prefix))
  cut (inr g) = inr (has_generated (λ w. AppendsProperPrefix (Some start) (Some written) w.text) (IsProperPart passed) proper_part_of g)

  short : Keeps (Some start) (Some written) ⊎ IsCutShort who words before after
      ⊎ Generates (λ w. AppendsPrefix (Some start) (Some written) w.text) words first last
      → (written ≡ []) ⊎ HasAnswered who words passed (IsPart passed)
  short (inl k) = inl (k ∙ unwritten)
  short (inr (inl d)) = inr (inl (has_served d.chance d.output (IsPart passed) d.read d.promised (part_of d.output d.prefix)))
  short (inr (inr g)) = inr (inr (has_generated (λ w. AppendsPrefix (Some start) (Some written) w.text) (IsPart passed) part_of g))

  has_refused : (reason : Reason) (names : List (List ℕ)) → IsRefused who.holds words first last reason names → HasRefused who.holds words passed reason names
  has_refused reason names r = record {
    read = has_read _ (Err reason) r.read;
    named = subst (λ (xs : List ℕ). names ≡ refusal_names who.holds r.read.command xs) (all_given r.read.input r.read.taken) r.named;
  }

  -- what was promised of the streams, and that nothing is read where the words are wrong
  pub is_process : (s : Status) → IsAnswer who words before after s → (s ≡ WrongWords → last.given ≡ first.given) → IsProcess who words passed s
  is_process s a stays = record {
    done = λ e. whole false (a.done e);
    named = λ e. whole true (a.named e);
    refused = λ reason names e. has_refused reason names (a.refused reason names e);
    cut = λ e. cut (a.cut e);
    short = λ e. short (a.short e);
    part = λ e. few_given limit (a.part e);
    too_long = λ e. some_given (limit + 1) (a.too_long e);
    unread = λ e. stays e ∙ unread;
    silent = λ d n w m. a.silent d n w m ∙ unwritten;
  }
