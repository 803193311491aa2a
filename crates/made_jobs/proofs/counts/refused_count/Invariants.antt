use Rattle.std.proofs.Common.{◌≡◌, ◌≤◌, ◌*◌, take, count_by}
use Rattle.std.specs.List.{sum_by}
use Rattle.made_jobs.specs.Counts.{is_refused}
use Rattle.made_jobs.proofs.counts.refused_count.Given as goal

abbrev pub invariant-loop-entries : goal.invariant-loop-entries
invariant-loop-entries l = record { count : l.sum ≡ sum_by (count_by is_refused) (take l.entries-index l.histories); few : l.sum ≤ 20064 * l.entries-index }
