use Rattle.std.proofs.Common.{map, sym, ap, ◌∙◌, arith}
use Rattle.swap_commands.proofs.ManyWorlds.{next_swap, one_made, others_left}
use Rattle.swap_commands.proofs.many.new_worlds.Goals as goal

pub new_world-requires-clause-whole : goal.new_world-requires-clause-whole
new_world-requires-clause-whole c =
    (next_swap c.args.many.now c.requires.swaps c.swaps.worlds.items c.as_slice-jobs.result.now c.len.result c.index-jobs-len.result c.in-Some.own.items _
    (sym (ap (map (λ v. v.items)) c.in-Some.ensures.steps.0) ∙ c.swaps.invariant.rest) c.as_slice-jobs.ensures (omega (arith, c.len.ensures))
    c.index-jobs-len.is).swap.whole

pub new_world-requires-clause-accepted : goal.new_world-requires-clause-accepted
new_world-requires-clause-accepted c =
    (next_swap c.args.many.now c.requires.swaps c.swaps.worlds.items c.as_slice-jobs.result.now c.len.result c.index-jobs-len.result c.in-Some.own.items _
    (sym (ap (map (λ v. v.items)) c.in-Some.ensures.steps.0) ∙ c.swaps.invariant.rest) c.as_slice-jobs.ensures (omega (arith, c.len.ensures))
    c.index-jobs-len.is).swap.accepted

pub new_world-requires-clause-wallets : goal.new_world-requires-clause-wallets
new_world-requires-clause-wallets c =
    (next_swap c.args.many.now c.requires.swaps c.swaps.worlds.items c.as_slice-jobs.result.now c.len.result c.index-jobs-len.result c.in-Some.own.items _
    (sym (ap (map (λ v. v.items)) c.in-Some.ensures.steps.0) ∙ c.swaps.invariant.rest) c.as_slice-jobs.ensures (omega (arith, c.len.ensures))
    c.index-jobs-len.is).swap.wallets

pub new_world-requires-clause-scripts : goal.new_world-requires-clause-scripts
new_world-requires-clause-scripts c =
    (next_swap c.args.many.now c.requires.swaps c.swaps.worlds.items c.as_slice-jobs.result.now c.len.result c.index-jobs-len.result c.in-Some.own.items _
    (sym (ap (map (λ v. v.items)) c.in-Some.ensures.steps.0) ∙ c.swaps.invariant.rest) c.as_slice-jobs.ensures (omega (arith, c.len.ensures))
    c.index-jobs-len.is).swap.scripts

pub new_world-requires-clause-made : goal.new_world-requires-clause-made
new_world-requires-clause-made c =
    (next_swap c.args.many.now c.requires.swaps c.swaps.worlds.items c.as_slice-jobs.result.now c.len.result c.index-jobs-len.result c.in-Some.own.items _
    (sym (ap (map (λ v. v.items)) c.in-Some.ensures.steps.0) ∙ c.swaps.invariant.rest) c.as_slice-jobs.ensures (omega (arith, c.len.ensures))
    c.index-jobs-len.is).made

pub swaps-preserved : goal.swaps-preserved
swaps-preserved c =
    let n = next_swap c.args.many.now c.requires.swaps c.swaps.worlds.items c.as_slice-jobs.result.now c.len.result c.index-jobs-len.result
    c.in-Some.own.items _ (sym (ap (map (λ v. v.items)) c.in-Some.ensures.steps.0) ∙ c.swaps.invariant.rest) c.as_slice-jobs.ensures
    (omega (arith, c.len.ensures)) c.index-jobs-len.is in
    record {
      so_far = one_made c.args.many.now.jobs c.swaps.worlds.items c.push.new.self.items c.in_ok-world.world c.index-jobs-len.result n.low n.is
          c.in_ok-world.ensures.new c.in_ok-push.ensures.items c.swaps.invariant.so_far;
      rest = others_left c.args.many.now.jobs c.swaps.worlds.items c.push.new.self.items c.in_ok-world.world _ c.in_ok-push.ensures.items n.others;
    }
