use Rattle.std.proofs.Common.{◌≡◌, ◌⊎◌, ℕ, List, [], inl, inr, subst, sym, Result, Ok}
use Rattle.command_input.specs.declared.status.Status.{Status}
use Rattle.command_input.specs.declared.status.Status.TheVariants as statuses
use Rattle.transcript_book.specs.declared.said.Misspelling.{Misspelling}
use Rattle.swap_commands.specs.Words.{AsksRace}
use Rattle.swap_answer.specs.Answered.{IsAnswered, known_strategies}
use Rattle.swap_answer.specs.declared.answer.Answered.{Answered}
use Rattle.swap_party.specs.Program.{IsEnded, IsProgramSaid, IsStatusSaid}
use Rattle.swap_party.specs.Said.{IsNothing}
use Rattle.swap_party.specs.declared.said.Said.{Said}
use Rattle.swap_party.proofs.answer.swap_party_answer.Goals as goal

-- what is said of how the program ended is said of the words
of_words : (words : List (List ℕ)) (input old new : List ℕ) (a : Answered) (r : Said) → (¬ AsksRace words → IsAnswered known_strategies words input a)
    → (AsksRace words → ((a.status ≡ statuses.WrongWords) ⊎ (a.status ≡ statuses.NoMemory)) × (a.text ≡ []))
    → IsEnded a old new r ⊎ IsNothing 6 old new r → IsProgramSaid (Ok words) input old new r ⊎ IsNothing 6 old new r
of_words words input old new a r answer race (inr n) = inr n
of_words words input old new a r answer race (inl e) = inl (record { answered = a; answer = answer; is_said = e }, λ k. by (race k).0)
  where
    by : (a.status ≡ statuses.WrongWords) ⊎ (a.status ≡ statuses.NoMemory) → IsNothing 8 old new r ⊎ IsNothing 6 old new r
    by (inl w) = inl (subst (λ (s : Status). IsStatusSaid s a.text old new r) w e)
    by (inr n) = inr (subst (λ (s : Status). IsStatusSaid s a.text old new r) n e)

pub returns-in-Ok : goal.returns-in-Ok
returns-in-Ok c =
    subst (λ (w : Result (List (List ℕ)) Misspelling). IsProgramSaid w c.args.input.now c.args.out.now c.say_ended.new.out c.say_ended.result
    ⊎ IsNothing 6 c.args.out.now c.say_ended.new.out c.say_ended.result) (sym c.in-Ok.ensures)
    (of_words _ c.args.input.now c.args.out.now c.say_ended.new.out c.swap_answer.result c.say_ended.result c.swap_answer.ensures.answer
    c.swap_answer.ensures.no_race c.say_ended.ensures)
