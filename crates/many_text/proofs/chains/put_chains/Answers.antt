use Rattle.std.proofs.Common.{◌≡◌, ◌<◌, ◌≤◌, ◌++◌, ℕ, List, arith, length, subst}
use Rattle.swap_base.proofs.Lines.{lines_on, lines_done}
use Rattle.swap_many.specs.Value.{many_kept}
use Rattle.many_text.specs.ManyText.{kept_chain_text}
use Rattle.many_text.proofs.chains.put_chains.Goals as goal

pub each-preserved : goal.each-preserved
each-preserved c =
    let z = many_kept c.args.world.now in
    let i = c.each.chain in
    let names = c.index-names-chain.result in
    let lt : i < length c.args.names.now = omega (arith, c.each-test.true, c.chains-count.ensures, c.requires.shown.one_each) in
    lines_on (kept_chain_text z) c.each.out.items c.put_chain.new.out.items _ i c.args.names.now i names names lt c.index-names-chain.is
    (subst (λ (ns : List (List ℕ)). c.put_chain.new.out.items ≡ c.each.out.items ++ kept_chain_text z i ns) c.as_slice.ensures c.in_ok-put_chain.ensures)
    c.each.invariant

pub returns : goal.returns
returns c =
    let le : length c.args.names.now ≤ c.each.chain = omega (arith, c.each-test.false, c.chains-count.ensures, c.requires.shown.one_each) in
    lines_done (kept_chain_text (many_kept c.args.world.now)) c.each.out.items _ c.each.chain c.args.names.now c.each.chain le c.each.invariant
