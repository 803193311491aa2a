use Rattle.std.proofs.Common.{◌≡◌, false, subst}
use Rattle.swap_world.specs.Recorded.{AreRecorded}
use Rattle.swap_world.specs.Value.{WorldState, world_cast}
use Rattle.swap_world.proofs.Places.{all_recorded}
use Rattle.swap_world.proofs.world.World.recorded.Goals as goal

pub returns : goal.returns
returns c =
    subst (λ (w : WorldState). w.stopped ≡ false → AreRecorded (world_cast w) w.state) c.self.view_is (all_recorded c.self.inside c.self.invariant)
