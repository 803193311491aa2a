use Rattle.std.proofs.Common.{◌≡◌, All, map, true}
use Rattle.swap_job.specs.Step.{IsJobEvent}
use Rattle.offer_events.specs.Event.{needs_seeds}
use Rattle.swap_offer.specs.Job.{parse_events}
use Rattle.swap_offer.proofs.Events.{left}
use Rattle.swap_offer.proofs.job.read_events.Given as goal

abbrev pub invariant-lines : goal.invariant-lines
invariant-lines l = record {
  exact : left (λ x. x.now) l.job l.lines (parse_events l.job 0 (map (λ x. (x.0, x.1.now)) l.lines)) l.count l.events.items
      ≡ parse_events l.job 0 (map (λ x. (x.0, x.1.now)) l.lines);
  fit : needs_seeds l.job.purpose ≡ true → All (IsJobEvent l.job) l.events.items;
}
