use Rattle.std.proofs.Common.{◌≡◌, arith, refl}
use Rattle.swap_run.specs.Fair.{most_acts}
use Rattle.party_threads.proofs.Acting.{acts_begin, acts_on, acts_end}
use Rattle.party_threads.proofs.play.act_to_rest.Goals as goal

pub acts-init : goal.acts-init
acts-init g c = acts_begin c.args.side.now.ledgers.now c.args.machine.now c.args.passes.now 0 refl c.requires.seated

pub acts-preserved : goal.acts-preserved
acts-preserved g c =
    let e = c.in_ok-act.ensures in
    acts_on c.args.side.now.ledgers.now c.args.machine.now c.acts.machine c.act.new.machine c.args.passes.now c.acts.passes c.act.new.passes c.acts.counter
    c.acts.invariant e.gone_on e.seated e.seen e.owner e.elsewhere (e.fewer c.if-not-branch.false)

pub returns-clause-rests : goal.returns-clause-rests
returns-clause-rests g c =
    let h : c.most_acts-end.result ≡ most_acts c.args.machine.now.deal = rw c.deal.ensures.value at c.most_acts-end.ensures in
    acts_end c.args.side.now.ledgers.now c.args.machine.now c.args.passes.now c.acts.counter c.acts.machine c.acts.passes c.acts.invariant
    (omega (arith, h, c.acts-test.false))
