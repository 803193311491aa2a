use Rattle.std.proofs.Common.{◌<◌, length, get_or, subst, sym, ap, ◌∙◌, arith}
use Rattle.swap_job.specs.Names.{named_item}
use Rattle.swap_run.proofs.Naming.{in_place, passed}
use Rattle.swap_run.proofs.kit.Kit.get.Goals as goal

pub loop-at-preserved : goal.loop-at-preserved
loop-at-preserved g c =
    let names = c.args.self.now.names in
    let items = c.args.self.now.strategies.items in
    let few : c.loop-at.at < length items = omega (arith, c.loop-at-test.true, c.len-at-end.ensures) in
    let low : c.loop-at.at < length names = subst (λ n. c.loop-at.at < n) (sym c.args.self.now.paired) few in
    let x = in_place items c.loop-at.at few in
    passed c.args.name.now names items c.loop-at.at c.index-as_slice-at.result x.0 (named_item c.args.name.now names items) low few
    (c.index-as_slice-at.is ∙ ap (λ xs. get_or xs c.loop-at.at c.index-as_slice-at.result) c.as_slice.ensures) x.1
    (sym c.eq.ensures ∙ c.if-eq.false) c.loop-at.invariant
