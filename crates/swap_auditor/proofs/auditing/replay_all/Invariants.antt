use Rattle.std.proofs.Common.{◌≡◌}
use Rattle.swap_auditor.specs.Audit.{replay_histories}
use Rattle.swap_auditor.proofs.Replays.{left, AreLegalBefore}
use Rattle.swap_auditor.proofs.auditing.replay_all.Given as goal

abbrev pub invariant-loop-arc : goal.invariant-loop-arc
invariant-loop-arc l = record {
  so_far : left l.deal l.book.histories l.arc ≡ replay_histories l.deal 0 l.book.histories;
  legal : AreLegalBefore l.deal l.book.histories l.arc;
  of_the_deal : l.found ≡ l.deal;
}
