-- What strategies are asked in a run: their answers in order, and no other.
use Rattle.std.specs.Prelude.{◌≡◌, ℕ, ◌≤◌, ◌<◌, Bool, true, false, List, length, slice_index_or, Option}
use Rattle.std.specs.List.{list_any}
use Rattle.ledger_core.specs.declared.entry.Call.{Call}
use Rattle.swap_digraph.specs.declared.deal.Deal.{Deal}
use Rattle.swap_job.specs.declared.event.Event.{Event}
use Rattle.swap_job.specs.declared.job.Role.{Role}
use Rattle.swap_job.specs.declared.job.Role.TheVariants.{Strategy}
use Rattle.swap_run.specs.Run.{Cast, Question, State, continued_run}
use Rattle.swap_run.specs.Fair.{finish}

-- the answers of strategies, in the order in which they are asked
abbrev pub Answers : Type 0
Answers = ℕ → Option (ℕ × Call)

-- the cast with other answers
abbrev pub with_answers : Cast → Answers → Cast
with_answers c answers = record c { answers = answers }

-- both give the same answers to all that is asked from the state s to the state t
abbrev pub Agree : State → State → Answers → Answers → Type 0
Agree s t f g = (i : ℕ) → length s.asked ≤ i → i < length t.asked → f i ≡ g i

-- a run asks its answers in order and looks at no other: others that agree with those that it asked
-- lead to the same state
abbrev pub RunsAskInOrder : Type 0
RunsAskInOrder =
    (c : Cast) (answers : Answers) (s : State) (events : List Event) → Agree s (continued_run c s events) answers c.answers
    → continued_run (with_answers c answers) s events ≡ continued_run c s events

-- a fair finish asks its answers in order and looks at no other
abbrev pub FinishesAskInOrder : Type 0
FinishesAskInOrder =
    (c : Cast) (answers : Answers) (s : State) → Agree s (finish c s) answers c.answers → finish (with_answers c answers) s ≡ finish c s

-- the role follows a strategy
abbrev pub is_strategy : Role → Bool
is_strategy (Strategy name) = true
is_strategy _ = false

-- where no party follows a strategy, a run is the same for all answers
abbrev pub RunsWithoutStrategies : Type 0
RunsWithoutStrategies =
    (c : Cast) (answers : Answers) (s : State) (events : List Event) → list_any is_strategy c.roles ≡ false
    → continued_run (with_answers c answers) s events ≡ continued_run c s events

-- where no party follows a strategy, a fair finish is the same for all answers
abbrev pub FinishesWithoutStrategies : Type 0
FinishesWithoutStrategies =
    (c : Cast) (answers : Answers) (s : State) → list_any is_strategy c.roles ≡ false → finish (with_answers c answers) s ≡ finish c s

-- what a strategy answers, where a rule decides it
abbrev pub StrategyRule : Type 0
StrategyRule = Deal → Question → Option (ℕ × Call)

-- all that is asked from the state s to the state t is answered by the rule
abbrev pub IsByRule : StrategyRule → Cast → State → State → Type 0
IsByRule rule c s t = (i : ℕ) (q : Question) → length s.asked ≤ i → i < length t.asked → q ≡ slice_index_or t.asked i q → c.answers i ≡ rule c.deal q

-- where a rule gives all answers, it decides the state after a run
abbrev pub RulesDecideRuns : Type 0
RulesDecideRuns =
    (rule : StrategyRule) (c : Cast) (answers : Answers) (s : State) (events : List Event) → IsByRule rule c s (continued_run c s events)
    → IsByRule rule (with_answers c answers) s (continued_run (with_answers c answers) s events)
    → continued_run (with_answers c answers) s events ≡ continued_run c s events

-- where a rule gives all answers, it decides the state after a fair finish
abbrev pub RulesDecideFinishes : Type 0
RulesDecideFinishes =
    (rule : StrategyRule) (c : Cast) (answers : Answers) (s : State) → IsByRule rule c s (finish c s)
    → IsByRule rule (with_answers c answers) s (finish (with_answers c answers) s)
    → finish (with_answers c answers) s ≡ finish c s
