-- The numbers of a task lie in their ranges.
use Rattle.std.proofs.Common.{◌≡◌, ◌≤◌, ℕ, Bool, true, false, nat_le, List, [], ◌∷◌, Option, Some, None, option_and_then, refl, subst}
use Rattle.std.proofs.Common.{arith, leb-true}
use Rattle.program_words.specs.Tables.{choices, choice_range, parse_verb}
use Rattle.program_words.specs.Words.{are_options, are_well_formed, verb_task, asked_task, is_given, is_short_numeral, option_number, task_text, to_text, asked_ticks}
use Rattle.program_words.specs.Words.{AreNumbersInRange}
use Rattle.program_words.specs.declared.choice.Choice.{Choice}
use Rattle.program_words.specs.declared.choice.Choice.TheVariants.{Ticks, Seed, Parties, Events}
use Rattle.program_words.specs.declared.task.Task.{Task}
use Rattle.program_words.specs.declared.verb.Verb.{Verb}
use Rattle.program_words.specs.declared.verb.Verb.TheVariants.{Check, Run, Race, Audit, Make, Gen, Clear, Many}
use Rattle.program_words.proofs.Names.{both}
use Rattle.program_words.proofs.Texts.{has_number}

ranged_number : (c : Choice) (ends : ℕ × ℕ) (row : List Choice) (words : List (List ℕ)) → choice_range c ≡ Some ends → are_options row None words ≡ true
    → is_given c words ≡ true → (ends.0 ≤ option_number c words) × (option_number c words ≤ ends.1)
ranged_number c ends row words range ok given =
    let number = both (is_short_numeral (to_text c words)) _ (has_number row c ends None words range ok given) in
    let ends_are = both (nat_le ends.0 (option_number c words)) _ number.1 in
    (leb-true ends.0 (option_number c words) ends_are.0, leb-true (option_number c words) ends.1 ends_are.1)

ticks_within : (row : List Choice) (words : List (List ℕ)) → are_options row None words ≡ true → (1 ≤ asked_ticks words) × (asked_ticks words ≤ 1000)
ticks_within row words ok = go (is_given Ticks words) refl
  where
    go : (g : Bool) → is_given Ticks words ≡ g → (1 ≤ asked_ticks words) × (asked_ticks words ≤ 1000)
    go true given = rw given (ranged_number Ticks (1, 1000) row words refl ok given)
    go false given = rw given (omega arith, omega arith)

pub asked_within : (verb : Verb) (words : List (List ℕ)) → are_well_formed verb words ≡ true → AreNumbersInRange (verb_task verb words)
asked_within Check words whole = tt
asked_within Run words whole = tt
asked_within Race words whole = ticks_within (choices Race) words (both _ _ whole).0
asked_within Audit words whole = tt
asked_within Make words whole = tt
asked_within Clear words whole = tt
asked_within Many words whole = tt
asked_within Gen words whole =
    let ok = (both _ _ whole).0 in
    let seed_on = both (is_given Seed words) _ (both _ _ whole).1 in
    let parties_on = both (is_given Parties words) _ seed_on.1 in
    let events_on = both (is_given Events words) _ parties_on.1 in
    let parties = ranged_number Parties (2, 24) (choices Gen) words refl ok parties_on.0 in
    let events = ranged_number Events (0, 200000) (choices Gen) words refl ok events_on.0 in
    (parties.0, parties.1, events.1)

by_verb : (words : List (List ℕ)) (verb : Option Verb) (task : Task) → option_and_then (asked_task words) verb ≡ Some task → AreNumbersInRange task
by_verb words None task is = absurd (cc is)
by_verb words (Some verb) task is = go (are_well_formed verb words) refl
  where
    go : (b : Bool) → are_well_formed verb words ≡ b → AreNumbersInRange task
    go true whole =
        let whole_is : ◌≡◌ {A = Option Task} (Some (verb_task verb words)) (Some task) = rw whole at is in
        let same : verb_task verb words ≡ task = cc whole_is in
        subst AreNumbersInRange same (asked_within verb words whole)
    go false wrong =
        let none : ◌≡◌ {A = Option Task} None (Some task) = rw wrong at is in
        absurd (cc none)

pub task_within : (words : List (List ℕ)) (task : Task) → task_text words ≡ Some task → AreNumbersInRange task
task_within [] task is = absurd (cc is)
task_within (word ∷ words) task is = by_verb words (parse_verb word) task is
