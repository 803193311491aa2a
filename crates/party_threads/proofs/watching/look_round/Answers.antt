use Rattle.std.proofs.Common.{◌<◌, length, subst, ◌∙◌, arith, None}
use Rattle.party_threads.specs.Tracks.{IsWatcherPlace, LookedIf}
use Rattle.party_threads.proofs.Passes.{any_default, find_place}
use Rattle.party_threads.proofs.Looking.{looks_on}
use Rattle.party_threads.proofs.watching.look_round.Goals as goal

pub look-requires-clause-place : goal.look-requires-clause-place
look-requires-clause-place g c =
    let ledgers = c.args.side.now.ledgers.now in
    let x = g.L.Learner.watcher c.args.side.now c.arcs.learner in
    let qs = c.arcs.passes in
    let below : c.arcs.arc < length qs = omega (arith, c.arcs.auto.passes, c.arcs-test.true) in
    subst (IsWatcherPlace ledgers x c.arcs.arc) (any_default qs c.arcs.arc None c.index-passes-arc.result below)
    (find_place ledgers x qs c.arcs.arc c.arcs.invariant.looked.watching.tracks below)

pub arcs-preserved : goal.arcs-preserved
arcs-preserved g c =
    let w = g.L.Learner.watcher c.args.side.now in
    let a = c.arcs.arc in
    let qs = c.arcs.passes in
    let q = c.look.new.place in
    let i = c.arcs.invariant in
    let below : a < length qs = omega (arith, c.arcs.auto.passes, c.arcs-test.true) in
    record {
      looked =
          looks_on c.args.side.now.ledgers.now (w c.args.learner.now) c.args.passes.now a (w c.arcs.learner) (w c.look.new.learner) qs i.looked below q
          (subst (λ o. LookedIf (w c.arcs.learner) a o (w c.look.new.learner) q) (any_default qs a c.index-passes-arc.result None below)
          c.in_ok-look.ensures.looked);
      rest = c.in_ok-look.ensures.rest ∙ i.rest;
    }
