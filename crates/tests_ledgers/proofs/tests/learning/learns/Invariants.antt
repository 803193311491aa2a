use Rattle.tests_ledgers.proofs.tests.learning.learns.Given as goal

abbrev pub ghosts-count_steps : goal.ghosts-count_steps
ghosts-count_steps g a = record { name = a.blank.name; parts = a.blank.parts }
