-- Which strategies the program knows, and answers that a rule decides.
use Rattle.std.specs.Prelude.{◌≡◌, ℕ, Bool, List, Option}
use Rattle.swap_digraph.specs.declared.deal.Deal.{Deal}
use Rattle.ledger_core.specs.declared.entry.Call.{Call}
use Rattle.ledger_core.specs.Book.{Histories}
use Rattle.swap_run.specs.Program.{program_names, program_rule}
use Rattle.offer_header.specs.Names.{has_strategy}
use Rattle.swap_world.specs.Gone.{MayGive}
use Rattle.swap_commands.specs.Strategies.{given_strategies, Strategies}

-- the program knows a strategy of that name
abbrev pub is_known : List ℕ → Bool
is_known = has_strategy program_names

-- what may be answered is what the rule says
abbrev pub by_rule : (List ℕ → Deal → ℕ → ℕ → Histories → Option (ℕ × Call)) → MayGive
by_rule rule name d p t k o = o ≡ rule name d p t k

-- the strategies of the program itself, which answer by its rule
abbrev pub own_strategies : Strategies
own_strategies = given_strategies is_known (by_rule program_rule)
