use Rattle.std.proofs.Common.{refl, inl}
use Rattle.swap_world.specs.On.{is_slot_swept}
use Rattle.swap_world.proofs.Gone.{nothing_asked}
use Rattle.swap_world.proofs.Places.{stopped_holds}
use Rattle.swap_world.proofs.Worlds.{collect_kept}
use Rattle.swap_world.proofs.world.World.apply_step.Goals as goal

pub returns-then-self-clause-cut : goal.returns-then-self-clause-cut
returns-then-self-clause-cut g c =
    let w = c.args.self.now in
    record { cast = refl; asked = nothing_asked (g.A.Strategies.gives c.args.strategies.now) w w refl refl; book = inl refl }

pub returns-then-self-clause-kept : goal.returns-then-self-clause-kept
returns-then-self-clause-kept g c = rw (← c.self.view_is) c.self.invariant.kept

pub invariant_of-self : goal.invariant_of-self
invariant_of-self g c = stopped_holds c.self-2.inside c.self-2.invariant

pub returns-in-Ok-clause-kept : goal.returns-in-Ok-clause-kept
returns-in-Ok-clause-kept g c =
    collect_kept c.happen.result (g.A.Strategies.gives c.args.strategies.now) (is_slot_swept c.args.swept.now) c.args.self.now c.happen.new.self
    c.args.event.now c.happen.ensures.ok c.happen.ensures.cut
    (rw (← c.self.view_is) c.self.invariant.ready) c.requires.event (rw (← c.self.view_is) (c.self.invariant.good c.if-self.false))
