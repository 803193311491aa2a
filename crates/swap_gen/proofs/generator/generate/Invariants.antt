use Rattle.std.proofs.Common.{◌≡◌, ◌++◌, ◌-◌, All}
use Rattle.swap_job.specs.Step.{IsJobEvent}
use Rattle.swap_gen.specs.Drawn.{drawn_graph, generated}
use Rattle.swap_gen.specs.Events.{drawn_events, generated_events}
use Rattle.swap_gen.proofs.generator.generate.Given as goal

abbrev pub invariant-loop-e : goal.invariant-loop-e
invariant-loop-e l =
    (l.generator.seed ≡ l.seed) × (l.generator.parties ≡ l.parties)
    × (l.list.items ++ drawn_events l.seed (drawn_graph l.seed l.parties) l.generator.place (l.events - l._e) ≡ generated_events l.seed l.parties l.events)
    × All (IsJobEvent (generated l.seed l.parties)) l.list.items
