use Rattle.std.proofs.Common.{◌∙◌, ◌^◌, ap₂, Bool, ℕ, [], ◌∷◌, arith, refl}
use Rattle.program_words.specs.Tables.{choices}
use Rattle.program_words.specs.Words.{is_given, option_number}
use Rattle.program_words.specs.declared.choice.Choice.TheVariants.{Seed, Parties, Events, Summary}
use Rattle.program_words.specs.declared.task.Task.{Task}
use Rattle.program_words.specs.declared.task.Task.TheVariants.{Number}
use Rattle.program_words.specs.declared.verb.Verb.TheVariants.{Gen}
use Rattle.program_words.proofs.Asked.{flag_is, number_is}
use Rattle.program_words.proofs.Builds.{first_read, rest_read}
use Rattle.program_words.proofs.Names.{both}
use Rattle.program_words.proofs.read.gen_task.Goals as goal

abbrev asking : ℕ → ℕ → ℕ → Bool → Task
asking s p e b = Number (record { seed = s; parties = p; events = e; summary = b })

pub returns : goal.returns
returns c = λ words whole read.
    let m = c.args.matches.now in
    let ok = (both _ _ whole).0 in
    let seed_on = both (is_given Seed words) _ (both _ _ whole).1 in
    let parties_on = both (is_given Parties words) _ seed_on.1 in
    let events_on = both (is_given Events words) _ parties_on.1 in
    let two = rest_read Seed (Parties ∷ Events ∷ Summary ∷ []) words m read in
    let three = rest_read Parties (Events ∷ Summary ∷ []) words m two in
    let four = rest_read Events (Summary ∷ []) words m three in
    let seed = c.unwrap_or.ensures ∙ number_is Seed (0, 4294967295) (2 ^ 32) (choices Gen) words _ c.given_number.result 0 refl ok (omega arith)
    (first_read Seed (Parties ∷ Events ∷ Summary ∷ []) words m read) seed_on.0 c.given_number.ensures.number in
    let parties = c.unwrap_or-2.ensures ∙ number_is Parties (2, 24) (2 ^ 8) (choices Gen) words _ c.given_small_number.result 0 refl ok (omega arith)
    (first_read Parties (Events ∷ Summary ∷ []) words m two) parties_on.0 c.given_small_number.ensures.number in
    let events = c.unwrap_or-3.ensures ∙ number_is Events (0, 200000) (2 ^ 32) (choices Gen) words _ c.given_number-2.result 0 refl ok (omega arith)
    (first_read Events (Summary ∷ []) words m three) events_on.0 c.given_number-2.ensures.number in
    let summary = flag_is Summary words _ c.get_flag.result (first_read Summary [] words m four) c.get_flag.ensures.value c.get_flag.ensures.other in
    ap₂ (λ (s p : ℕ). asking s p c.unwrap_or-3.result c.get_flag.result) seed parties
    ∙ ap₂ (λ (e : ℕ) (b : Bool). asking (option_number Seed words) (option_number Parties words) e b) events summary
