-- What the fields of a generator mean, and what holds of them.
use Rattle.std.specs.Prelude.{◌≡◌, ◌≤◌, map}
use Rattle.std.specs.List.{range_with_len}
use Rattle.swap_gen.specs.Drawn.{generated}
use Rattle.swap_gen.specs.Events.{touching, GeneratorState}
use Rattle.swap_gen.specs.declared.generator.Generator.TheInside.{Inside}

abbrev pub generator_state : Inside → GeneratorState
generator_state g = record { seed = g.draws.seed; parties = g.job.deal.graph.n; place = g.draws.place }

-- The job is that of the number, and the lists are those of its arcs.
pub record GeneratorHolds (g : Inside) : Type 0 where
  pub parties : (2 ≤ g.job.deal.graph.n) × (g.job.deal.graph.n ≤ 24)
  pub job : g.job ≡ generated g.draws.seed g.job.deal.graph.n
  pub touching : g.touching ≡ map (touching g.job.deal.graph) (range_with_len 0 g.job.deal.graph.n)
