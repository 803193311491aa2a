use Rattle.std.proofs.Common.{◌≡◌, ◌≤◌, map}
use Rattle.swap_base.specs.Fault.{steps}
use Rattle.swap_offer.specs.Job.{counted}
use Rattle.swap_offer.proofs.Events.{to_count}
use Rattle.swap_offer.proofs.job.count_events.Given as goal

abbrev pub invariant-loop-line : goal.invariant-loop-line
invariant-loop-line l = record {
  steps : to_count (λ x. x.now) l.lines (steps counted 0 (map (λ x. (x.0, x.1.now)) l.lines)) l.line-index l.count
      ≡ steps counted 0 (map (λ x. (x.0, x.1.now)) l.lines);
  few : l.count ≤ 200000;
}
