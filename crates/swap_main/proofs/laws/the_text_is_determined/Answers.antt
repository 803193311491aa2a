use Rattle.swap_main.proofs.Decided.{rules_decide, same_without_strategies}
use Rattle.swap_main.proofs.laws.the_text_is_determined.Goals as goal

pub returns-clause-plain : goal.returns-clause-plain
returns-clause-plain c = same_without_strategies

pub returns-clause-decided : goal.returns-clause-decided
returns-clause-decided c = rules_decide
