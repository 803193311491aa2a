use Rattle.party_threads.proofs.play.MachineLearner.learn.Given as goal

abbrev pub ghosts-learn_entries_counted : goal.ghosts-learn_entries_counted
ghosts-learn_entries_counted a = record { name = a.blank.name; parts = a.blank.parts }
