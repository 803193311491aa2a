use Rattle.std.proofs.Common.{◌<◌, length, sym, subst}
use Rattle.swap_many.specs.Accounts.{ChainState}
use Rattle.swap_many.specs.Laws.{CanPay}
use Rattle.swap_many.specs.Value.{no_chain, world_setup, nth_chain}
use Rattle.swap_many.specs.Inside.{inside_worlds}
use Rattle.swap_many.proofs.Values.{item_is}
use Rattle.swap_many.proofs.Chained.{IsPaid, paid_gone, paid_whole}
use Rattle.swap_many.proofs.worlds.Worlds.pay.Given as given
use Rattle.swap_many.proofs.worlds.Worlds.pay.Goals as goal
use Rattle.swap_many.proofs.worlds.Worlds.pay.Goals.{After-pay}

can : (g : given.Over) (c : goal.After-pay g) → CanPay (world_setup (inside_worlds c.self.inside)) c.args.chain c.args.from c.args.to
can g c = rw (← c.self.view_is) at c.requires.event

low : (g : given.Over) (c : goal.After-pay g) → c.args.chain < length (inside_worlds c.self.inside).chains
low g c = subst (λ n. c.args.chain < n) (sym c.self.invariant.whole.chains) (can g c).chain

-- the chain after the payment
paid : (g : given.Over) (c : goal.After-pay g) → IsPaid (nth_chain (inside_worlds c.self.inside) c.args.chain) c.pay.new.self c.args.from c.args.to c.args.units
paid g c =
    let here = item_is (inside_worlds c.self.inside).chains c.args.chain no_chain c.index_mut.result.now (low g c) c.index_mut.ensures.value in
    subst (λ (y : ChainState). IsPaid y c.pay.new.self c.args.from c.args.to c.args.units) here (record {
      refused = c.pay.ensures.refused;
      paid = c.pay.ensures.paid;
      clock = c.pay.ensures.clock;
      count = c.pay.ensures.count;
    })

pub invariant_of-self : goal.invariant_of-self
invariant_of-self g c =
    let k = (goal.at.invariant_of-self g c).After-pay in
    record {
      whole = paid_whole (g.A.Strategies.gives c.args._strategies.now) (inside_worlds c.self.inside) c.args.chain c.pay.new.self (low g k) c.args.from c.args.to
          c.args.units c.self.invariant.whole (rw (← c.self.view_is) at c.requires.goes_on) (can g k) (paid g k);
      on = c.self.invariant.on;
    }

pub returns-clause-gone : goal.returns-clause-gone
returns-clause-gone g c =
    let k = (goal.at.returns-clause-gone g c).After-pay in
    rw (← c.self.view_is) (paid_gone (g.A.Strategies.gives c.args._strategies.now) (inside_worlds c.self.inside) c.args.chain c.pay.new.self (low g k) c.args.from
    c.args.to c.args.units (paid g k))
