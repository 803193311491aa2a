-- What the fields of many swaps on shared chains mean, and what holds of them.
use Rattle.std.specs.Prelude.{◌≡◌, ℕ, false, map}
use Rattle.swap_run.specs.Asked.{Answers}
use Rattle.swap_many.specs.declared.many_world.ManyWorld.TheInside.{Inside}
use Rattle.swap_many.specs.Sound.{Keeps}
use Rattle.swap_many.specs.Stages.{stretch_stages}
use Rattle.swap_many.specs.Value.{ManyState, made_setup, many_kept, world_run, ContinueAll}
use Rattle.swap_many.specs.Inside.{AreWhole}

abbrev pub inside_many_state : Inside → ManyState
inside_many_state w = record w.worlds { stages = stretch_stages (map (λ p. p.items) w.stretches.items) w.events.items }

-- what is kept is that of the run of all that was done
abbrev pub IsOfRun : ManyState → Type 0
IsOfRun w = w.stopped ≡ false → (g : ℕ → Answers) → ContinueAll w g → Keeps (made_setup w g) (world_run w g) (many_kept w)

pub record ManyWorldHolds (w : Inside) : Type 0 where
  pub whole : AreWhole (inside_many_state w)
  pub runs : IsOfRun (inside_many_state w)
