use Rattle.outcome_rules.proofs.Indexed.{AreFirst}
use Rattle.outcome_rules.proofs.indexes.build_indexes.Given as goal

abbrev pub invariant-loop-arc : goal.invariant-loop-arc
invariant-loop-arc l = AreFirst l.deal l.book.histories l.arc l.known.items
