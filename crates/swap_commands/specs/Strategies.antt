-- Which strategies there are, and what each of them may answer.
use Rattle.std.specs.Prelude.{ℕ, Bool, List}
use Rattle.swap_world.specs.Gone.{MayGive}

-- Who answers for strategies.
pub record Strategies : Type 1 where
  -- whether there is one of that name
  pub holds : List ℕ → Bool
  -- what it may answer
  pub gives : MayGive

abbrev pub given_strategies : (List ℕ → Bool) → MayGive → Strategies
given_strategies holds gives = record { holds = holds; gives = gives }
