use Rattle.std.proofs.Common.{◌≡◌, drop}
use Rattle.many_lines.specs.Places.{arc_places}
use Rattle.many_lines.proofs.Walks.{with_front}
use Rattle.many_lines.proofs.places.arc_places.Given as goal

abbrev pub invariant-arcs : goal.invariant-arcs
invariant-arcs l = with_front l.list.items (arc_places l.names l.swap l.job l.arc (drop l.arc l.chains))
    ≡ arc_places l.names l.swap l.job 0 l.chains
