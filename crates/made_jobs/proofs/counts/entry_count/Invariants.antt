use Rattle.std.proofs.Common.{◌≡◌, ◌≤◌, ◌*◌, take, length}
use Rattle.std.specs.List.{sum_by}
use Rattle.made_jobs.proofs.counts.entry_count.Given as goal

abbrev pub invariant-loop-entries : goal.invariant-loop-entries
invariant-loop-entries l = record { count : l.sum ≡ sum_by length (take l.entries-index l.histories); few : l.sum ≤ 20064 * l.entries-index }
