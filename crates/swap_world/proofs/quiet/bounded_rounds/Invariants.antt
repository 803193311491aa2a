use Rattle.std.proofs.Common.{◌<◌, ◌≤◌, take}
use Rattle.swap_world.specs.Acting.{histories}
use Rattle.swap_world.specs.Quiet.{AreLow}
use Rattle.swap_world.proofs.quiet.bounded_rounds.Given as goal

abbrev pub invariant-arcs : goal.invariant-arcs
invariant-arcs l = record {
  few : l.rounds ≤ l.most;
  low : 0 < l.rounds → AreLow l.machine.known l.until l.rounds (histories l.ledgers) (take l.arc-index l.near);
}
