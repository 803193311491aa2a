use Rattle.std.proofs.Common.{◌∙◌, sym, refl}
use Rattle.swap_digraph.specs.Arcs.{first_fault}
use Rattle.swap_digraph.proofs.Faults.{goes_on, is_found, is_none}
use Rattle.swap_digraph.proofs.digraph.first_fault.Goals as goal

pub returns-then-is_some : goal.returns-then-is_some
unfolding first_fault
returns-then-is_some c =
    is_found c.args.n c.args.version c.args.arcs.now _ c.loop-number.number _ c.arc_fault-fault.result _ c.loop-number-test.true refl
    c.arc_fault-fault.ensures (sym c.is_some.ensures ∙ c.if-is_some.true) c.loop-number.invariant

pub loop-number-preserved : goal.loop-number-preserved
loop-number-preserved c =
    goes_on c.args.n c.args.version c.args.arcs.now _ c.loop-number.number _ c.arc_fault-fault.result _ c.loop-number-test.true refl
    c.arc_fault-fault.ensures (sym c.is_some.ensures ∙ c.if-is_some.false) c.loop-number.invariant

pub returns : goal.returns
unfolding first_fault
returns c = is_none c.args.n c.args.version c.args.arcs.now c.loop-number.number _ c.loop-number-test.false c.loop-number.invariant
