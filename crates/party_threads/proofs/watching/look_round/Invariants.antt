use Rattle.std.proofs.Common.{◌≡◌}
use Rattle.party_threads.specs.Tracks.{HaveLooked}
use Rattle.party_threads.proofs.watching.look_round.Given as goal

abbrev pub invariant-arcs : goal.invariant-arcs
invariant-arcs g l = record {
  looked : HaveLooked l.side.ledgers.now (g.L.Learner.watcher l.side l.fn.learner) l.fn.passes l.arc (g.L.Learner.watcher l.side l.learner) l.passes;
  rest : g.L.Learner.rest l.learner ≡ g.L.Learner.rest l.fn.learner;
}
