use Rattle.std.proofs.Common.{◌≡◌, ◌<◌, ◌≤◌, ◌+◌, ◌^◌, arith, [], length, sum_by, sym, subst}
use Rattle.swap_many.specs.declared.place.Place.{Place}
use Rattle.swap_many.specs.Chains.{place}
use Rattle.swap_many.specs.Laws.{CanSweep}
use Rattle.swap_many.specs.Value.{no_chain, world_setup}
use Rattle.swap_many.specs.Inside.{inside_worlds}
use Rattle.swap_many.proofs.Values.{item_is, chain_low}
use Rattle.swap_many.proofs.Emptied.{MayGoBack, from_in, to_in, both_fit, back_gone, back_whole}
use Rattle.swap_many.proofs.worlds.Worlds.put_back.Given as given
use Rattle.swap_many.proofs.worlds.Worlds.put_back.Goals as goal
use Rattle.swap_many.proofs.worlds.Worlds.put_back.Goals.{After-index_mut-chain}

-- the slot's units may go back to their chain
may : (g : given.Over) (c : goal.After-index_mut-chain g)
    → MayGoBack (inside_worlds c.self.inside) c.args.swap c.args.arc c.args.fair c.place-place.result c.index_mut-chain.result.now c.accounts-left.result
may g c =
    let w = inside_worlds c.self.inside in
    let can : CanSweep (world_setup w) c.args.swap c.args.arc = rw (← c.self.view_is) at c.requires.event in
    let at : c.place-place.result ≡ place (world_setup w) c.args.swap c.args.arc = rw (← c.self.view_is) at c.place-place.ensures in
    let low = subst (λ (p : Place). p.chain < length w.chains) (sym at) (chain_low w c.args.swap c.args.arc c.self.invariant.whole can) in
    record {
      on = rw (← c.self.view_is) at c.requires.goes_on;
      can = can;
      accepted = rw (← c.self.view_is) at c.requires.accepted;
      at = at;
      here = item_is w.chains c.place-place.result.chain no_chain c.index_mut-chain.result.now low c.index_mut-chain.ensures.value;
      is = rw (← c.self.view_is) at c.accounts-left.ensures.value;
    }

-- there is room for the slot's units on their chain
fits : (g : given.Over) (c : goal.After-index_mut-chain g)
    → sum_by (λ u. u) c.index_mut-chain.result.now.free + c.accounts-left.result.party + c.accounts-left.result.counterparty ≤ 10 ^ 18
fits g c =
    let m = may g c in
    both_fit (inside_worlds c.self.inside) c.args.swap c.args.arc c.args.fair c.self.invariant.whole m.on m.can m.accepted _ _ _ m.at m.here m.is

pub put_back-requires-clause-account : goal.put_back-requires-clause-account
put_back-requires-clause-account g c =
    let m = may g (goal.at.put_back-requires-clause-account g c).After-index_mut-chain in
    from_in (inside_worlds c.self.inside) c.args.swap c.args.arc c.args.fair c.self.invariant.whole m.on m.can m.accepted _ _ _ m.at m.here m.is

pub put_back-requires-clause-few : goal.put_back-requires-clause-few
put_back-requires-clause-few g c = let fit = fits g (goal.at.put_back-requires-clause-few g c).After-index_mut-chain in omega (arith, fit)

pub put_back-requires-2-clause-account : goal.put_back-requires-2-clause-account
put_back-requires-2-clause-account g c =
    let m = may g (goal.at.put_back-requires-2-clause-account g c).After-index_mut-chain in
    subst (λ n. c.place-place.result.to < n) (sym c.put_back.ensures.count)
    (to_in (inside_worlds c.self.inside) c.args.swap c.args.arc c.args.fair c.self.invariant.whole m.on m.can m.accepted _ _ _ m.at m.here m.is)

pub put_back-requires-2-clause-few : goal.put_back-requires-2-clause-few
put_back-requires-2-clause-few g c =
    let fit = fits g (goal.at.put_back-requires-2-clause-few g c).After-index_mut-chain in
    let more = c.put_back.ensures.sum in
    omega (arith, fit, more)

pub invariant_of-self : goal.invariant_of-self
invariant_of-self g c =
    let w = inside_worlds c.self.inside in
    let m = may g (goal.at.invariant_of-self g c).After-index_mut-chain in
    let flags : c.args.swap < length w.swept = subst (λ n. c.args.swap < n) (sym c.self.invariant.whole.swept) m.can.swap in
    record {
      whole = back_whole w c.args.swap c.args.arc c.args.fair c.self.invariant.whole m.on m.can m.accepted _ _ _ m.at m.here m.is
          (g.A.Strategies.gives c.args._strategies.now) c.put_back.new.self c.put_back-2.new.self c.set.new.self c.index_mut.result.now c.put_back.ensures.units
          c.put_back-2.ensures.units c.put_back.ensures.clock c.put_back-2.ensures.clock c.put_back.ensures.count c.put_back-2.ensures.count
          (item_is w.swept c.args.swap [] c.index_mut.result.now flags c.index_mut.ensures.value) c.set.ensures;
      on = c.self.invariant.on;
    }

pub returns : goal.returns
returns g c =
    let w = inside_worlds c.self.inside in
    let m = may g (goal.at.returns g c).After-index_mut-chain in
    let flags : c.args.swap < length w.swept = subst (λ n. c.args.swap < n) (sym c.self.invariant.whole.swept) m.can.swap in
    rw (← c.self.view_is) (back_gone w c.args.swap c.args.arc c.args.fair c.self.invariant.whole m.on m.can m.accepted _ _ _ m.at m.here m.is
    (g.A.Strategies.gives c.args._strategies.now) c.put_back.new.self c.put_back-2.new.self c.set.new.self c.index_mut.result.now c.put_back.ensures.units
    c.put_back-2.ensures.units c.put_back.ensures.clock c.put_back-2.ensures.clock c.put_back.ensures.count c.put_back-2.ensures.count
    (item_is w.swept c.args.swap [] c.index_mut.result.now flags c.index_mut.ensures.value) c.set.ensures)
