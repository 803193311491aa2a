use Rattle.std.proofs.Common.{◌≡◌, ◌<◌, false, [], length, sym, ap, ◌∙◌, subst}
use Rattle.swap_many.specs.Accounts.{ChainState}
use Rattle.swap_many.specs.Chains.{has_no_tick, is_accepted_deed}
use Rattle.swap_many.specs.Kept.{later}
use Rattle.swap_many.specs.Laws.{CanTickChain}
use Rattle.swap_many.specs.Ticking.{AreTickable, AreTicked, some_stopped}
use Rattle.swap_many.specs.Value.{no_chain, world_setup}
use Rattle.swap_many.specs.Inside.{inside_worlds}
use Rattle.swap_many.proofs.Values.{item_is}
use Rattle.swap_many.proofs.Ticked.{HasTicked, looked_up, may_tick, has_room, ok_unless, err_unless, has_ticked}
use Rattle.swap_many.proofs.worlds.Worlds.tick.Given as given
use Rattle.swap_many.proofs.worlds.Worlds.tick.Goals as goal
use Rattle.swap_many.proofs.worlds.Worlds.tick.Goals.{After-has_stopped-self-inside}

pub bounds-as_slice-chain : goal.bounds-as_slice-chain
bounds-as_slice-chain g c =
    let w = inside_worlds c.self.inside in
    let can : CanTickChain (world_setup w) c.args.chain c.args.k = rw (← c.self.view_is) at c.requires.event in
    (looked_up c.as_slice.result.now (length w.openings) w.places c.args.chain (c.as_slice.ensures ∙ c.self.invariant.on) can.chain).0

pub tick_worlds-requires-clause-fits : goal.tick_worlds-requires-clause-fits
tick_worlds-requires-clause-fits g c =
    let w = inside_worlds c.self.inside in
    let i = c.args.chain in
    let can : CanTickChain (world_setup w) i c.args.k = rw (← c.self.view_is) at c.requires.event in
    let on : w.stopped ≡ false = rw (← c.self.view_is) at c.requires.goes_on in
    let up = looked_up c.as_slice.result.now (length w.openings) w.places i (c.as_slice.ensures ∙ c.self.invariant.on) can.chain in
    let there = c.as_slice-2.ensures ∙ (item_is c.as_slice.result.now i [] c.index-as_slice-chain.result up.0 c.index-as_slice-chain.is ∙ up.1) in
    subst (λ xs. AreTickable xs w.worlds) (sym there) (may_tick w i c.self.invariant.whole on)

-- the worlds after the ticks
ticked : (g : given.Over) (c : goal.After-has_stopped-self-inside g)
    → HasTicked (g.A.Strategies.gives c.args._strategies.now)
    (inside_worlds c.self.inside) c.args.chain c.args.k c.tick-reply.new.self c.tick_worlds.new.worlds.items
    c.has_stopped-self-inside.result
ticked g c =
    let w = inside_worlds c.self.inside in
    let i = c.args.chain in
    let may : CanTickChain (world_setup w) i c.args.k = rw (← c.self.view_is) at c.requires.event in
    let up = looked_up c.as_slice.result.now (length w.openings) w.places i (c.as_slice.ensures ∙ c.self.invariant.on) may.chain in
    let there = c.as_slice-2.ensures ∙ (item_is c.as_slice.result.now i [] c.index-as_slice-chain.result up.0 c.index-as_slice-chain.is ∙ up.1) in
    let low : i < length w.chains = subst (λ n. i < n) (sym c.self.invariant.whole.chains) may.chain in
    let y = c.index_mut.result.now in
    let here = item_is w.chains i no_chain y low c.index_mut.ensures.value in
    let has = has_room y.clock.ticks y.clock.height c.args.k
    (sym (ap is_accepted_deed c.tick-reply.ensures.reply) ∙ (sym c.is_accepted.ensures ∙ c.if-not-is_accepted.false)) in
    let room = subst (λ (y : ChainState). has_no_tick y.clock.ticks y.clock.height c.args.k ≡ false) here has in
    let clock = subst (λ (y : ChainState). c.tick-reply.new.self ≡ record y { clock = later y.clock c.args.k }) here (c.tick-reply.ensures.ticked has) in
    let all = subst (λ xs. AreTicked xs c.args.k (length w.worlds) w.worlds c.tick_worlds.new.worlds.items) there c.tick_worlds.ensures in
    has_ticked (g.A.Strategies.gives c.args._strategies.now) w i c.args.k c.tick-reply.new.self c.tick_worlds.new.worlds.items c.has_stopped-self-inside.result low
    c.self.invariant.whole room clock all (rw (← c.self.view_is) at c.requires.goes_on)
    (c.has_stopped-self-inside.ensures ∙ ap some_stopped c.deref.ensures.value) may

pub invariant_of-self-2 : goal.invariant_of-self-2
invariant_of-self-2 g c =
    record { whole = (ticked g (goal.at.invariant_of-self-2 g c).After-has_stopped-self-inside).all_whole; on = c.self.invariant.on }

pub returns-clause-ok : goal.returns-clause-ok
returns-clause-ok g c =
    let t = ticked g (goal.at.returns-clause-ok g c).After-has_stopped-self-inside in
    rw (← c.self.view_is) (ok_unless c.unless.result c.has_stopped-self-inside.result _ c.unless.ensures.err t.gone)

pub returns-clause-err : goal.returns-clause-err
returns-clause-err g c =
    let t = ticked g (goal.at.returns-clause-err g c).After-has_stopped-self-inside in
    rw (← c.self.view_is) (err_unless c.unless.result c.has_stopped-self-inside.result c.tick-reply.result _ c.unless.ensures.ok t.stops)
