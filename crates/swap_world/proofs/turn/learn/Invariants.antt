use Rattle.swap_world.proofs.turn.learn.Given as goal

abbrev pub ghosts-learn_ledger_counted : goal.ghosts-learn_ledger_counted
ghosts-learn_ledger_counted a = record { name = a.blank.name; parts = a.blank.parts }
