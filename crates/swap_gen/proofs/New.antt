-- A new generator.
use Rattle.std.proofs.Common.{◌≡◌, ℕ, ◌≤◌, List, map, sym, ap, ◌∙◌, subst}
use Rattle.std.specs.List.{range_with_len}
use Rattle.swap_digraph.specs.Value.{Graph}
use Rattle.swap_job.specs.declared.job.Job.{Job}
use Rattle.swap_gen.specs.Word.{DrawState}
use Rattle.swap_gen.specs.Drawn.{generated}
use Rattle.swap_gen.specs.Events.{touching, first_place, GeneratorState}
use Rattle.swap_gen.specs.Inside.{generator_state, GeneratorHolds}
use Rattle.swap_gen.specs.declared.generator.Generator.TheInside.{Inside}
use Rattle.swap_gen.proofs.Generated.{generated_graph}

module _ (seed n : ℕ) (many : 2 ≤ n) (few : n ≤ 24) (draws : DrawState) (job : Job) (lists : List (List ℕ))
    (draws_are : draws ≡ record { seed = seed; place = first_place seed n }) (job_is : job ≡ generated seed n)
    (lists_are : lists ≡ map (touching job.deal.graph) (range_with_len 0 job.deal.graph.n)) where
  abbrev inside : Inside
  inside = record { draws = draws; job = job; touching = lists }

  parties_are : job.deal.graph.n ≡ n
  parties_are = ap (λ (j : Job). j.deal.graph.n) job_is ∙ ap (λ (g : Graph). g.n) (generated_graph seed n)

  seed_is : draws.seed ≡ seed
  seed_is = ap (λ (s : DrawState). s.seed) draws_are

  pub new_holds : GeneratorHolds inside
  new_holds = record {
    parties = subst (λ k. (2 ≤ k) × (k ≤ 24)) (sym parties_are) (many, few);
    job = job_is ∙ ap (λ s. generated s n) (sym seed_is) ∙ ap (generated draws.seed) (sym parties_are);
    touching = lists_are;
  }

  abbrev state_with : ℕ → ℕ → ℕ → GeneratorState
  state_with s p k = record { seed = s; parties = p; place = k }

  pub new_shows : generator_state inside ≡ record { seed = seed; parties = n; place = first_place seed n }
  new_shows =
      ap (λ (s : DrawState). state_with s.seed job.deal.graph.n s.place) draws_are
      ∙ ap (λ p. state_with seed p (first_place seed n)) parties_are
