-- What the program promises, by what a command's status says.
use Rattle.std.proofs.Common.{◌≡◌, ◌<◌, ◌≤◌, ◌+◌, ◌⊎◌, inl, inr, ℕ, Bool, true, false, List, length, Option, Some, None, Result, Ok, Err, refl}
use Rattle.std.proofs.Common.{sym, ap, ◌∙◌, subst, arith, length-append}
use Rattle.std.specs.Io.KnownBytes.{Keeps}
use Rattle.swap_io.specs.Tape.{IsInput, Tape}
use Rattle.swap_io.proofs.ByteLaws.{input_bounds}
use Rattle.swap_io.specs.Causes.{ConsumesAtMost, ConsumesSome}
use Rattle.command_input.specs.declared.reason.Reason.{Reason}
use Rattle.command_input.specs.Input.{limit}
use Rattle.swap_commands.specs.Words.{words_command, Command}
use Rattle.command_input.specs.Written.{IsWrittenWhole, Written}
use Rattle.swap_commands.specs.Output.{Chance, no_chance, output_given_chance, command_output, refusal_names}
use Rattle.swap_commands.specs.Says.{HasOutput, HasRead, StatusSays}
use Rattle.swap_main.specs.Top.{AsksFairMany, AsksFairRace, AsksFairRun, Read, IsDone, IsCut, IsRefused, IsCutShort, IsOutputStatus, command_status}
use Rattle.command_input.specs.declared.status.Status.{Status}
use Rattle.command_input.specs.declared.status.Status.TheVariants.{Done, Named, WrongWords, Refused, ReadFault, WriteFault, NoMemory, TooLong}
use Rattle.command_input.specs.Streams.{HasReadFault, HasWriteFault, Streams}
use Rattle.swap_world.specs.Gone.{MayGive}
use Rattle.swap_commands.specs.Promised.{AsPromised}
use Rattle.swap_commands.specs.Strategies.{given_strategies}
use Rattle.swap_main.proofs.FairMany.{many_is_not_named, many_is_not_refused}
use Rattle.swap_main.proofs.Fairly.{all_read, fails_by, is_not_named, is_not_refused, race_is_not_named, race_is_not_refused}

module _ (has : List ℕ → Bool) where
  -- more bytes can't be taken than are left
  past_all : (left left' : Tape) (input : List ℕ) (n : ℕ) → IsInput left left' input → length input < n → ¬ ConsumesSome left left' n
  past_all left left' input n told short some =
      absurd (omega (arith, short, some.1, input_bounds left left' input some.0 told some.2))

  module _ (gives : MayGive) (words : List (List ℕ)) (before after : Streams)
      (command : Command) (asked : words_command words ≡ Some command) where
    abbrev Said : Status → Type 0
    Said s = StatusSays (given_strategies has gives) command before after s

    abbrev read_by : (a : Chance) (output : Result Written Reason) → HasRead has a command before.left after.left output
        → Read has a words before.left after.left output
    read_by a output r = record { command = command; asked = asked; input = r.input; taken = r.taken; ended = r.ended; within = r.within; gives = r.gives }

    whole : (found : Bool) → HasOutput has gives (IsWrittenWhole before.taken after.taken found) command before.left after.left
        → IsDone (given_strategies has gives) words before after found
    whole found o = record {
      chance = o.chance;
      output = o.output;
      read = read_by o.chance (Ok o.output) o.read;
      written = o.written.0;
      findings = o.written.1;
      promised = o.promised;
    }

    pub done : (s : Status) → Said s → s ≡ Done → IsDone (given_strategies has gives) words before after false
    done s h e = whole false (subst Said e h)

    pub named : (s : Status) → Said s → s ≡ Named → IsDone (given_strategies has gives) words before after true
    named s h e = whole true (subst Said e h)

    pub refused : (s : Status) → Said s → (reason : Reason) (names : List (List ℕ)) → s ≡ Refused reason names
        → IsRefused has words before.left after.left reason names
    refused s h reason names e =
        let o = subst Said e h in
        record { read = read_by no_chance (Err reason) o.0.read; named = o.0.named }

    pub read_fault : (s : Status) → Said s → s ≡ ReadFault → HasReadFault before after
    read_fault s h e = let o = subst Said e h in o.0

    pub part : (s : Status) → Said s → (s ≡ ReadFault) ⊎ (s ≡ NoMemory) → ConsumesAtMost before.left after.left limit
    part s h (inl e) = let o = subst Said e h in o.2
    part s h (inr e) = by (subst Said e h)
      where
        by : Said NoMemory → ConsumesAtMost before.left after.left limit
        by (inl k) = k.1
        by (inr o) = (o.read.input, o.read.within, o.read.taken)

    pub write_fault : (s : Status) → Said s → s ≡ WriteFault → HasWriteFault before after
    write_fault s h e = let o = subst Said e h in o.0

    pub cut : (s : Status) → Said s → s ≡ WriteFault → IsCut (given_strategies has gives) words before after
    cut s h e =
        let o = subst Said e h in
        record {
          chance = o.1.chance;
          output = o.1.output;
          read = read_by o.1.chance (Ok o.1.output) o.1.read;
          promised = o.1.promised;
          prefix = o.1.written;
        }

    pub too_long : (s : Status) → Said s → s ≡ TooLong → ConsumesSome before.left after.left (limit + 1)
    too_long s h e = let o = subst Said e h in o.0

    pub short : (s : Status) → Said s → s ≡ NoMemory → Keeps before.taken after.taken ⊎ IsCutShort (given_strategies has gives) words before after
    short s h e = by (subst Said e h)
      where
        by : Said NoMemory → Keeps before.taken after.taken ⊎ IsCutShort (given_strategies has gives) words before after
        by (inl k) = inl k.0
        by (inr o) = inr (record {
          chance = o.chance;
          output = o.output;
          read = read_by o.chance (Ok o.output) o.read;
          promised = o.promised;
          prefix = o.written;
        })

    pub silent : (s : Status) → Said s → ¬ (s ≡ Done) → ¬ (s ≡ Named) → ¬ (s ≡ WriteFault) → ¬ (s ≡ NoMemory) → Keeps before.taken after.taken
    silent Done h d c w f = absurd (d refl)
    silent Named h d c w f = absurd (c refl)
    silent WrongWords h d c w f = absurd h
    silent (Refused reason names) h d c w f = h.1
    silent ReadFault h d c w f = h.1
    silent WriteFault h d c w f = absurd (w refl)
    silent NoMemory h d c w f = absurd (f refl)
    silent TooLong h d c w f = h.1

    pub not_wrong_words : (s : Status) → Said s → ¬ (s ≡ WrongWords)
    not_wrong_words s h e = subst Said e h

    -- of what the source has left, or gave up to its end

    same_input : (a : Chance) (output : Result Written Reason) (r : HasRead has a command before.left after.left output) (input : List ℕ)
        → IsInput before.left after.left input
        → r.input ≡ input
    same_input a output r input told = all_read has before.left after.left input r.input told r.taken r.ended

    same_command : (other : Command) → words_command words ≡ Some other → command ≡ other
    same_command other e = cc (sym asked ∙ e)

    -- what was read was no more than may be
    not_long : (a : Chance) (output : Result Written Reason) (r : HasRead has a command before.left after.left output) (input : List ℕ)
        → IsInput before.left after.left input
        → limit < length input → ⊥
    not_long a output r input told over = absurd (omega (arith, over, r.within, ap length (same_input a output r input told)))

    pub long : (s : Status) → Said s → (other : Command) (input : List ℕ) → words_command words ≡ Some other → IsInput before.left after.left input → limit < length input
        → ¬ HasReadFault before after → (s ≡ TooLong) ⊎ (s ≡ NoMemory)
    long Done h other input is told over calm = absurd (not_long h.chance (Ok h.output) h.read input told over)
    long Named h other input is told over calm = absurd (not_long h.chance (Ok h.output) h.read input told over)
    long WrongWords h other input is told over calm = absurd h
    long (Refused reason names) h other input is told over calm = absurd (not_long no_chance (Err reason) h.0.read input told over)
    long ReadFault h other input is told over calm = absurd (calm h.0)
    long WriteFault h other input is told over calm = absurd (not_long h.1.chance (Ok h.1.output) h.1.read input told over)
    long NoMemory h other input is told over calm = inr refl
    long TooLong h other input is told over calm = inl refl

    -- what the command gives for the input that is left or was given
    given : (a : Chance) (output : Result Written Reason) (r : HasRead has a command before.left after.left output) (other : Command) (input : List ℕ)
        → words_command words ≡ Some other → IsInput before.left after.left input → output_given_chance has a other input ≡ output
    given a output r other input is told =
        ap (λ (c : Command). output_given_chance has a c input) (sym (same_command other is))
        ∙ ap (output_given_chance has a command) (sym (same_input a output r input told)) ∙ r.gives

    -- a promise of what was read is one of the input
    kept : (a : Chance) (output : Written) (r : HasRead has a command before.left after.left (Ok output)) (other : Command) (input : List ℕ)
        → words_command words ≡ Some other
        → IsInput before.left after.left input → AsPromised has gives a command r.input output → AsPromised has gives a other input output
    kept a output r other input is told k =
        subst (λ (c : Command). AsPromised has gives a c input output) (same_command other is)
        (subst (λ (xs : List ℕ). AsPromised has gives a command xs output) (same_input a (Ok output) r input told) k)

    pub bad : (s : Status) → Said s → (other : Command) (input : List ℕ) (reason : Reason) → words_command words ≡ Some other → IsInput before.left after.left input
        → length input ≤ limit → command_output has other input ≡ Err reason → ¬ HasReadFault before after
        → (s ≡ Refused reason (refusal_names has other input)) ⊎ (s ≡ NoMemory)
    bad Done h other input reason is told within against calm =
        absurd (cc (sym (given h.chance (Ok h.output) h.read other input is told) ∙ fails_by has h.chance other input reason against))
    bad Named h other input reason is told within against calm =
        absurd (cc (sym (given h.chance (Ok h.output) h.read other input is told) ∙ fails_by has h.chance other input reason against))
    bad WrongWords h other input reason is told within against calm = absurd h
    bad (Refused r names) h other input reason is told within against calm =
        let same : r ≡ reason = cc (sym (given no_chance (Err r) h.0.read other input is told) ∙ against) in
        let called : names ≡ refusal_names has other input = h.0.named ∙ ap (refusal_names has command) (same_input no_chance (Err r) h.0.read input told)
        ∙ ap (λ (c : Command). refusal_names has c input) (same_command other is) in
        inl (rw (same, called) refl)
    bad ReadFault h other input reason is told within against calm = absurd (calm h.0)
    bad WriteFault h other input reason is told within against calm =
        absurd (cc (sym (given h.1.chance (Ok h.1.output) h.1.read other input is told) ∙ fails_by has h.1.chance other input reason against))
    bad NoMemory h other input reason is told within against calm = inr refl
    bad TooLong h other input reason is told within against calm = absurd (past_all before.left after.left input (limit + 1) told (omega (arith, within)) h.0)

    output_status : (found : Bool) → HasOutput has gives (IsWrittenWhole before.taken after.taken found) command before.left after.left
        → (other : Command) (input : List ℕ) → words_command words ≡ Some other → IsInput before.left after.left input
        → IsOutputStatus has gives other input (command_status found)
    output_status found o other input is told = record {
      chance = o.chance;
      output = o.output;
      made = given o.chance (Ok o.output) o.read other input is told;
      promised = kept o.chance o.output o.read other input is told o.promised;
      status = ap command_status (sym o.written.1);
    }

    pub good : (s : Status) → Said s → (other : Command) (input : List ℕ) (output : Written) → words_command words ≡ Some other → IsInput before.left after.left input
        → length input ≤ limit → command_output has other input ≡ Ok output → ¬ HasReadFault before after → ¬ HasWriteFault before after
        → IsOutputStatus has gives other input s ⊎ (s ≡ NoMemory)
    good Done h other input output is told within made calm still = inl (output_status false h other input is told)
    good Named h other input output is told within made calm still = inl (output_status true h other input is told)
    good WrongWords h other input output is told within made calm still = absurd h
    good (Refused r names) h other input output is told within made calm still =
        absurd (cc (sym (given no_chance (Err r) h.0.read other input is told) ∙ made))
    good ReadFault h other input output is told within made calm still = absurd (calm h.0)
    good WriteFault h other input output is told within made calm still = absurd (still h.0)
    good NoMemory h other input output is told within made calm still = inr refl
    good TooLong h other input output is told within made calm still =
        absurd (past_all before.left after.left input (limit + 1) told (omega (arith, within)) h.0)

    pub fair : (s : Status) → Said s → AsksFairRun has words before.left after.left → ¬ HasReadFault before after → ¬ HasWriteFault before after
        → (s ≡ Done) ⊎ (s ≡ NoMemory)
    fair Done h a calm still = inl refl
    fair Named h a calm still =
        absurd (cc (sym h.written.1 ∙ is_not_named has gives h.chance words before.left after.left command h.read.input asked h.read.taken h.read.ended a
        h.output h.promised))
    fair WrongWords h a calm still = absurd h
    fair (Refused reason names) h a calm still =
        absurd (is_not_refused has words before.left after.left command h.0.read.input asked h.0.read.taken h.0.read.ended a reason
        h.0.read.gives)
    fair ReadFault h a calm still = absurd (calm h.0)
    fair WriteFault h a calm still = absurd (still h.0)
    fair NoMemory h a calm still = inr refl
    fair TooLong h a calm still = absurd (past_all before.left after.left a.input (limit + 1) a.told (omega (arith, a.within)) h.0)

    pub fair_race : (s : Status) → Said s → AsksFairRace has words before.left after.left → ¬ HasReadFault before after → ¬ HasWriteFault before after
        → (s ≡ Done) ⊎ (s ≡ NoMemory)
    fair_race Done h a calm still = inl refl
    fair_race Named h a calm still =
        absurd (cc (sym h.written.1 ∙ race_is_not_named has gives h.chance words before.left after.left command h.read.input asked h.read.taken h.read.ended
        a h.output h.promised))
    fair_race WrongWords h a calm still = absurd h
    fair_race (Refused reason names) h a calm still =
        absurd (race_is_not_refused has words before.left after.left command h.0.read.input asked h.0.read.taken h.0.read.ended a reason h.0.read.gives)
    fair_race ReadFault h a calm still = absurd (calm h.0)
    fair_race WriteFault h a calm still = absurd (still h.0)
    fair_race NoMemory h a calm still = inr refl
    fair_race TooLong h a calm still = absurd (past_all before.left after.left a.input (limit + 1) a.told (omega (arith, a.within)) h.0)

    pub fair_many : (s : Status) → Said s → AsksFairMany has words before.left after.left → ¬ HasReadFault before after → ¬ HasWriteFault before after
        → (s ≡ Done) ⊎ (s ≡ NoMemory)
    fair_many Done h a calm still = inl refl
    fair_many Named h a calm still =
        absurd (cc (sym h.written.1 ∙ many_is_not_named has words before.left after.left command h.read.input asked h.read.taken h.read.ended a gives h.chance
        h.output h.promised))
    fair_many WrongWords h a calm still = absurd h
    fair_many (Refused reason names) h a calm still =
        absurd (many_is_not_refused has words before.left after.left command h.0.read.input asked h.0.read.taken h.0.read.ended a reason h.0.read.gives)
    fair_many ReadFault h a calm still = absurd (calm h.0)
    fair_many WriteFault h a calm still = absurd (still h.0)
    fair_many NoMemory h a calm still = inr refl
    fair_many TooLong h a calm still = absurd (past_all before.left after.left a.input (limit + 1) a.told (omega (arith, a.within)) h.0)
