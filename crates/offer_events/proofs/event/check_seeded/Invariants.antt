use Rattle.std.proofs.Common.{◌≡◌, drop}
use Rattle.offer_events.specs.Event.{each_seeded}
use Rattle.offer_events.proofs.event.check_seeded.Given as goal

abbrev pub invariant-loop-v : goal.invariant-loop-v
invariant-loop-v l = each_seeded l.seeds (drop l.v-index l.via) ≡ each_seeded l.seeds l.via
