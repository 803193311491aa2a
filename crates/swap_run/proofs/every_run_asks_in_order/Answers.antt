use Rattle.swap_run.proofs.Asked as lemmas
use Rattle.swap_run.proofs.every_run_asks_in_order.Goals as goal

pub returns-clause-runs : goal.returns-clause-runs
returns-clause-runs c = lemmas.runs_ask_in_order

pub returns-clause-finishes : goal.returns-clause-finishes
returns-clause-finishes c = lemmas.finishes_ask_in_order

pub returns-clause-no_strategy : goal.returns-clause-no_strategy
returns-clause-no_strategy c = lemmas.runs_without_strategies

pub returns-clause-no_strategy_fair : goal.returns-clause-no_strategy_fair
returns-clause-no_strategy_fair c = lemmas.finishes_without_strategies

pub returns-clause-decided : goal.returns-clause-decided
returns-clause-decided c = lemmas.rules_decide_runs

pub returns-clause-decided_fair : goal.returns-clause-decided_fair
returns-clause-decided_fair c = lemmas.rules_decide_finishes
