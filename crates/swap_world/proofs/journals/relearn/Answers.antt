use Rattle.std.proofs.Common.{List, length, ap, arith}
use Rattle.swap_digraph.specs.declared.arc_ends.ArcEnds.{ArcEnds}
use Rattle.party_machine.specs.Machine.{MachineState}
use Rattle.swap_world.specs.Acting.{histories}
use Rattle.swap_world.proofs.Relearns.{none_learnt, one_learnt, all_learnt}
use Rattle.swap_world.proofs.journals.relearn.Goals as goal

pub arcs-init : goal.arcs-init
arcs-init c = none_learnt c.args.deal.now (histories c.args.ledgers.now) c.args.machine.now c.requires.none

pub arcs-preserved : goal.arcs-preserved
arcs-preserved c =
    one_learnt c.args.deal.now (histories c.args.ledgers.now) c.args.machine.now c.arcs.machine c.learn_if_adjacent.new.machine c.arcs.arc
    (omega (arith, c.arcs-test.true, ap (λ (l : List ArcEnds). length l) c.arcs-2.ensures)) c.arcs.invariant c.in_ok-learn_if_adjacent.ensures.ok

pub learn_if_adjacent-requires-clause-none : goal.learn_if_adjacent-requires-clause-none
learn_if_adjacent-requires-clause-none c = c.arcs.invariant.rest c.arcs.arc (omega arith)

pub returns-clause-ok : goal.returns-clause-ok
returns-clause-ok c =
    all_learnt c.args.deal.now (histories c.args.ledgers.now) c.args.machine.now c.arcs.machine c.arcs.arc
    (omega (arith, c.arcs-test.false, ap (λ (l : List ArcEnds). length l) c.arcs-2.ensures)) c.arcs.invariant

pub returns-clause-owner : goal.returns-clause-owner
returns-clause-owner c =
    let same = c.arcs.invariant.same in
    record {
      deal = ap (λ (m : MachineState). m.deal) same;
      me = ap (λ (m : MachineState). m.me) same;
      seed = ap (λ (m : MachineState). m.seed) same;
    }
