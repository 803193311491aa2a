-- The commands as they are built, and what they read.
use Rattle.std.proofs.Common.{◌≡◌, true, List, ◌∷◌, None, refl, map, drop, length, ◌<◌, [], arith}
use Rattle.clap.specs.Walk.{Text}
use Rattle.clap.specs.Simple.{HasMatchesOf, matches_of}
use Rattle.clap.specs.Matches.{found_of, one_text}
use Rattle.clap.specs.declared.parser.matches.ArgMatches.{ArgMatches}
use Rattle.program_words.specs.Tables.{choices, choice_label}
use Rattle.program_words.specs.Words.{are_options}
use Rattle.program_words.specs.Parsed.{AreRead, verb_app, first_word, reading}
use Rattle.program_words.specs.declared.choice.Choice.{Choice}
use Rattle.program_words.specs.declared.choice.Choice.TheVariants.{Ticks, Transcript, Seed, Parties, Events, Summary}
use Rattle.program_words.specs.declared.verb.Verb.{Verb}
use Rattle.program_words.specs.declared.verb.Verb.TheVariants.{Check, Run, Race, Audit, Make, Gen, Clear, Many}
use Rattle.program_words.proofs.Parses.{Builds, found, one_read}

pub builds : (verb : Verb) → Builds (first_word verb) (choices verb) (verb_app verb)
builds Check = record { is_built = refl; is_simple = refl; has_name = refl; defaults = refl; valid = λ rows. refl }
builds Run = record { is_built = refl; is_simple = refl; has_name = refl; defaults = refl; valid = λ rows. refl }
builds Race = record { is_built = refl; is_simple = refl; has_name = refl; defaults = refl; valid = λ rows. refl }
builds Audit = record { is_built = refl; is_simple = refl; has_name = refl; defaults = refl; valid = λ rows. refl }
builds Make = record { is_built = refl; is_simple = refl; has_name = refl; defaults = refl; valid = λ rows. refl }
builds Gen = record { is_built = refl; is_simple = refl; has_name = refl; defaults = refl; valid = λ rows. refl }
builds Clear = record { is_built = refl; is_simple = refl; has_name = refl; defaults = refl; valid = λ rows. refl }
builds Many = record { is_built = refl; is_simple = refl; has_name = refl; defaults = refl; valid = λ rows. refl }

-- one option more, and one less
more_read : (c : Choice) (row : List Choice) (words : List Text) (m : ArgMatches) → one_text (found_of m) (choice_label c) ≡ reading c words
    → AreRead row words m → AreRead (c ∷ row) words m
more_read c row words m h k = (h, k)

pub first_read : (c : Choice) (row : List Choice) (words : List Text) (m : ArgMatches) → AreRead (c ∷ row) words m
    → one_text (found_of m) (choice_label c) ≡ reading c words
first_read c row words m h = h.0

pub rest_read : (c : Choice) (row : List Choice) (words : List Text) (m : ArgMatches) → AreRead (c ∷ row) words m → AreRead row words m
rest_read c row words m h = h.1

pub all_read : (verb : Verb) (first : Text) (words : List Text) (m : ArgMatches) → are_options (choices verb) None words ≡ true
    → HasMatchesOf (verb_app verb) (first ∷ words) m → AreRead (choices verb) words m
all_read Check first words m ok has = tt
all_read Audit first words m ok has = tt
all_read Make first words m ok has = tt
all_read Clear first words m ok has = tt
all_read Many first words m ok has = tt
all_read Run first words m ok has =
    let b = builds Run in
    let rows = (has b.is_simple).0 in
    let at = found (first_word Run) (choices Run) (verb_app Run) first words b ok in
    more_read Transcript [] words m (one_read m (choices Run) Transcript words (matches_of (verb_app Run) (first ∷ words)) rows (at Transcript) refl) tt
all_read Race first words m ok has =
    let b = builds Race in
    let rows = (has b.is_simple).0 in
    let at = found (first_word Race) (choices Race) (verb_app Race) first words b ok in
    let all = matches_of (verb_app Race) (first ∷ words) in
    more_read Ticks (Transcript ∷ []) words m (one_read m (choices Race) Ticks words all rows (at Ticks) refl)
    (more_read Transcript [] words m (one_read m (choices Race) Transcript words all rows (at Transcript) refl) tt)
all_read Gen first words m ok has =
    let b = builds Gen in
    let rows = (has b.is_simple).0 in
    let at = found (first_word Gen) (choices Gen) (verb_app Gen) first words b ok in
    let all = matches_of (verb_app Gen) (first ∷ words) in
    more_read Seed (Parties ∷ Events ∷ Summary ∷ []) words m (one_read m (choices Gen) Seed words all rows (at Seed) refl)
    (more_read Parties (Events ∷ Summary ∷ []) words m (one_read m (choices Gen) Parties words all rows (at Parties) refl)
    (more_read Events (Summary ∷ []) words m (one_read m (choices Gen) Events words all rows (at Events) refl)
    (more_read Summary [] words m (one_read m (choices Gen) Summary words all rows (at Summary) refl) tt)))

pub split : {A : Type 0} (f : A → Text) (xs : List A) → 0 < length xs → (first : Text) × (map f xs ≡ first ∷ map f (drop 1 xs))
split f [] h = absurd (omega arith)
split f (x ∷ xs) h = (f x, refl)
