use Rattle.std.proofs.Common.{◌≡◌, ◌<◌, arith, length, sym, ap, ◌∙◌, subst}
use Rattle.swap_many.specs.Accounts.{ChainState}
use Rattle.swap_many.specs.declared.place.Place.{Place}
use Rattle.swap_many.specs.Chains.{place}
use Rattle.swap_many.specs.Laws.{CanSweep}
use Rattle.swap_many.specs.Value.{no_chain, world_setup, nth_chain}
use Rattle.swap_many.specs.Inside.{inside_worlds}
use Rattle.swap_many.proofs.Values.{item_is, chain_low}
use Rattle.swap_many.proofs.worlds.Worlds.arc_chain_height.Goals as goal

pub index-requires : goal.index-requires
index-requires c =
    let w = inside_worlds c.self.inside in
    let can : CanSweep (world_setup w) c.args.swap c.args.arc = rw (← c.self.view_is) at c.requires in
    let e : c.place-place.result ≡ place (world_setup w) c.args.swap c.args.arc = rw (← c.self.view_is) at c.place-place.ensures in
    let low : c.place-place.result.chain < length w.chains =
    subst (λ (p : Place). p.chain < length w.chains) (sym e) (chain_low w c.args.swap c.args.arc c.self.invariant.whole can) in
    omega (arith, low)

pub returns : goal.returns
returns c =
    let w = inside_worlds c.self.inside in
    let can : CanSweep (world_setup w) c.args.swap c.args.arc = rw (← c.self.view_is) at c.requires in
    let e : c.place-place.result ≡ place (world_setup w) c.args.swap c.args.arc = rw (← c.self.view_is) at c.place-place.ensures in
    let low = subst (λ (p : Place). p.chain < length w.chains) (sym e) (chain_low w c.args.swap c.args.arc c.self.invariant.whole can) in
    let here = item_is w.chains c.place-place.result.chain no_chain c.index.result.now low c.index.ensures in
    rw (← c.self.view_is)
    (c.height.ensures ∙ (ap (λ (y : ChainState). y.clock.height) here ∙ ap (λ (p : Place). (nth_chain w p.chain).clock.height) e))
