-- What a world comes to, and what strategies are asked and answer on the way.
use Rattle.std.specs.Prelude.{◌≡◌, ℕ, ◌++◌, ◌⊎◌, true, List, map, Option}
use Rattle.std.specs.List.{All}
use Rattle.swap_digraph.specs.declared.deal.Deal.{Deal}
use Rattle.ledger_core.specs.declared.entry.Call.{Call}
use Rattle.ledger_core.specs.Book.{Histories}
use Rattle.swap_job.specs.declared.event.Event.{Event}
use Rattle.swap_run.specs.Run.{Cast, Question, State, step}
use Rattle.swap_run.specs.Asked.{Answers}
use Rattle.swap_world.specs.Value.{WorldState, world_cast, answering_cast, Continues}

-- what the strategy of a name may answer, by deal, party, turn number and what the party knows
abbrev pub MayGive : Type 1
MayGive = List ℕ → Deal → ℕ → ℕ → Histories → Option (ℕ × Call) → Type 0

-- A question, and what was answered to it.
pub record Answered : Type 0 where
  pub question : Question
  pub answer : Option (ℕ × Call)

-- the answer is one that its strategy may give
abbrev pub MayBeGiven : MayGive → Deal → Answered → Type 0
MayBeGiven gives d x = gives x.question.strategy d x.question.party x.question.turn x.question.known x.answer

-- From old to new, strategies were asked some questions, and each answer is one that may come.
pub record HasAsked (gives : MayGive) (old new : WorldState) : Type 0 where
  pub more : List Answered
  pub questions : new.state.asked ≡ old.state.asked ++ map (λ x. x.question) more
  pub answers : new.answers ≡ old.answers ++ map (λ x. x.answer) more
  pub may : All (MayBeGiven gives old.deal) more

-- f has led from old to new. Strategies were asked some more questions. The new state is the one to
-- which f leads, whatever later questions are answered.
pub record HasGone (gives : MayGive) (f : Cast → State → State) (old new : WorldState) : Type 0 where
  pub asked : HasAsked gives old new
  pub same : new ≡ record old { answers = new.answers; state = new.state }
  pub state : (g : Answers) → Continues new g → new.state ≡ f (answering_cast old g) old.state

-- Memory ran out on the way to that state, and nobody was asked. The histories are those before it
-- or its own, and every later step wants memory too.
pub record IsCutAt (after : State) (old new : WorldState) : Type 0 where
  pub stopped : new.stopped ≡ true
  pub cast : world_cast new ≡ world_cast old
  pub asked : new.state.asked ≡ old.state.asked
  pub answers : new.answers ≡ old.answers
  pub book : (new.state.book ≡ old.state.book) ⊎ (new.state.book ≡ after.book)

-- Memory ran out on the way to where f leads: the histories are those before it or after it.
pub record IsCutMidway (gives : MayGive) (f : Cast → State → State) (old new : WorldState) : Type 0 where
  pub cast : world_cast new ≡ world_cast old
  pub asked : HasAsked gives old new
  pub book : (new.state.book ≡ old.state.book) ⊎ ((g : Answers) → Continues new g → new.state.book ≡ (f (answering_cast old g) old.state).book)

-- memory ran out in an event: the histories are those before it or after it
abbrev pub IsCutInEvent : MayGive → Event → (old new : WorldState) → Type 0
IsCutInEvent gives event old new = IsCutMidway gives (λ c s. step c s event) old new
