-- What passed through a process, by what a status says.
use Rattle.std.proofs.Common.{◌≡◌, ◌≤◌, ◌<◌, ◌+◌, ◌++◌, ◌∙◌, ℕ, Bool, true, false, List, [], length, take, Some, Result, Ok, Err, sym, ap, subst}
use Rattle.swap_io.specs.Counted.{ReadSoFar, WrittenSoFar}
use Rattle.swap_io.specs.Tape.{Consumes, Tape}
use Rattle.swap_io.specs.Causes.{ConsumesAtMost, ConsumesSome}
use Rattle.command_input.specs.Streams.{streams}
use Rattle.party_answer.specs.declared.given.Answer.{Answer}
use Rattle.party_main.specs.declared.reason.PartyReason.{PartyReason}
use Rattle.party_main.specs.declared.top.PartyStatus.{PartyStatus}
use Rattle.party_main.specs.declared.top.PartyStatus.TheVariants.{Done, Warned, WrongWords, Refused, ReadFault, WriteFault, NoMemory, TooLong}
use Rattle.party_main.specs.Words.{command_input_limit}
use Rattle.party_main.specs.Output.{party_output, IsPromisedOutput}
use Rattle.party_main.specs.Process.{HasReadAll, HasServed, PartyProcessSays, Passed}
use Rattle.party_main.specs.Says.{HasAnswer, HasLimit, HasText, PartyStatusSays}

-- before the first call of a source or a sink

pub nothing_given : {T : Type 0} (s : ReadSoFar T) (inner : T) → s ≡ record { inner = inner; faults = 0; given = []; ended = false } → s.given ≡ []
nothing_given {T = T} s inner e = ap (λ (x : ReadSoFar T). x.given) e

pub nothing_written : {T : Type 0} (s : WrittenSoFar T) (inner : T) → s ≡ record { inner = inner; written = [] } → s.written ≡ []
nothing_written {T = T} s inner e = ap (λ (x : WrittenSoFar T). x.written) e

-- The source and the sink before the first call, and behind the last.
module _ (words : List (List ℕ)) (first last : Tape) (start written : List ℕ) (unread : first.given ≡ []) (unwritten : start ≡ []) (n m p q : ℕ) where
  abbrev passed : Passed
  passed = record { given = last.given; ended = last.ended; written = written }

  all_given : (input : List ℕ) → Consumes first last input → input ≡ last.given
  all_given input taken = sym (taken.gave ∙ ap (λ (xs : List ℕ). xs ++ input) unread)

  few_given : (most : ℕ) → ConsumesAtMost first last most → length last.given ≤ most
  few_given most c = subst (λ (xs : List ℕ). length xs ≤ most) (all_given c.0 c.2) c.1

  some_given : (most : ℕ) → ConsumesSome first last most → length last.given ≡ most
  some_given most c = subst (λ (xs : List ℕ). length xs ≡ most) (all_given c.0 c.2) c.1

  all_written : (text : List ℕ) → written ≡ start ++ text → written ≡ text
  all_written text k = k ∙ ap (λ (xs : List ℕ). xs ++ text) unwritten

  abbrev has_read : (answer : Result Answer PartyReason) → HasAnswer words first last answer → HasReadAll words passed answer
  has_read answer r = record {
    command = r.command;
    asked = r.asked;
    ended = r.ended.met;
    within = subst (λ (xs : List ℕ). length xs ≤ command_input_limit r.command) (all_given r.input r.taken) r.within;
    gives = subst (λ (xs : List ℕ). party_output r.command xs ≡ answer) (all_given r.input r.taken) r.gives;
  }

  has_served : (P Q : Answer → Type 0) → ((w : Answer) → P w → Q w) → HasText P words first last → HasServed words passed Q
  has_served P Q f t = record {
    what = t.what;
    read = has_read (Ok t.what) t.read;
    promised = subst (λ (xs : List ℕ). IsPromisedOutput t.read.command xs t.what) (all_given t.read.input t.read.taken) t.promised;
    written = f t.what t.written;
  }

  whole : (warns : Bool) → HasText (λ w. (w.warns ≡ warns) × (written ≡ start ++ w.text)) words first last
      → HasServed words passed (λ w. (w.warns ≡ warns) × (written ≡ w.text))
  whole warns = has_served (λ w. (w.warns ≡ warns) × (written ≡ start ++ w.text)) (λ w. (w.warns ≡ warns) × (written ≡ w.text))
      (λ w k. (k.0, all_written w.text k.1))

  cut : HasText (λ w. (k : ℕ) × (k < length w.text) × (written ≡ start ++ take k w.text)) words first last
      → HasServed words passed (λ w. (k : ℕ) × (k < length w.text) × (written ≡ take k w.text))
  cut = has_served (λ w. (k : ℕ) × (k < length w.text) × (written ≡ start ++ take k w.text)) (λ w. (k : ℕ) × (k < length w.text) × (written ≡ take k w.text))
      (λ w k. (k.0, k.1, all_written (take k.0 w.text) k.2))

  limited : (P Q : ℕ → Type 0) → ((k : ℕ) → P k → Q k) → HasLimit words P → HasLimit words Q
  limited P Q f l = record { command = l.command; asked = l.asked; holds = f (command_input_limit l.command) l.holds }

  pub is_process : (s : PartyStatus) → PartyStatusSays words (streams first n (Some start) p) (streams last m (Some written) q) s
      → PartyProcessSays words passed s
  is_process Done t = whole false t
  is_process Warned t = whole true t
  is_process WrongWords t = (t.0, ap (λ (x : Tape). x.given) t.1 ∙ unread, t.2 ∙ unwritten)
  is_process (Refused reason) t = (has_read (Err reason) t.0, t.1 ∙ unwritten)
  is_process ReadFault t = (limited (ConsumesAtMost first last) (λ k. length last.given ≤ k) few_given t.1, t.2 ∙ unwritten)
  is_process WriteFault t = cut t.1
  is_process NoMemory t = (limited (λ k. ConsumesAtMost first last (k + 1)) (λ k. length last.given ≤ k + 1) (λ k. few_given (k + 1)) t.0, t.1 ∙ unwritten)
  is_process TooLong t = (limited (λ k. ConsumesSome first last (k + 1)) (λ k. length last.given ≡ k + 1) (λ k. some_given (k + 1)) t.0, t.1 ∙ unwritten)
