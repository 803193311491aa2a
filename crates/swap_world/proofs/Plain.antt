-- Worlds in which nobody follows a strategy: what is answered matters for nothing.
use Rattle.std.proofs.Common.{◌≡◌, false, List, [], ◌∷◌, refl, ◌∙◌}
use Rattle.std.specs.List.{list_any}
use Rattle.swap_job.specs.declared.event.Event.{Event}
use Rattle.swap_run.specs.Asked.{is_strategy}
use Rattle.swap_run.specs.Run.{continued_run, step}
use Rattle.swap_run.specs.Fair.{finish}
use Rattle.swap_run.proofs.Asked.{finishes_without_strategies, runs_without_strategies}
use Rattle.swap_world.specs.Gone.{MayGive, HasGone}
use Rattle.swap_world.specs.Value.{WorldState, world_answers, world_cast}

module _ (gives : MayGive) (old new : WorldState) (none : list_any is_strategy old.roles ≡ false) where
  pub plain_run : (events : List Event) → HasGone gives (λ c s. continued_run c s events) old new → new.state ≡ continued_run (world_cast old) old.state events
  plain_run events k = k.state (world_answers new) (λ i l. refl) ∙ runs_without_strategies (world_cast old) (world_answers new) old.state events none

  pub plain_step : (e : Event) → HasGone gives (λ c s. step c s e) old new → new.state ≡ step (world_cast old) old.state e
  plain_step e k = k.state (world_answers new) (λ i l. refl) ∙ runs_without_strategies (world_cast old) (world_answers new) old.state (e ∷ []) none

  pub plain_finish : HasGone gives finish old new → new.state ≡ finish (world_cast old) old.state
  plain_finish k = k.state (world_answers new) (λ i l. refl) ∙ finishes_without_strategies (world_cast old) (world_answers new) old.state none
