use Rattle.std.proofs.Common.{◌++◌, ◌∷◌, [], length, map, ap, ◌∙◌, subst}
use Rattle.std.specs.List.{range_with_len}
use Rattle.swap_base.specs.Fault.{Gives}
use Rattle.swap_digraph.proofs.Ranges.{map_more}
use Rattle.swap_many.specs.Accounts.{ChainState}
use Rattle.swap_many.specs.Opened.{chain_lack}
use Rattle.swap_many.specs.Opening.{setup_of_worlds, new_chain, opened_or}
use Rattle.swap_many.proofs.Begun.{first_next, fails_on, was_opened}
use Rattle.swap_many.proofs.opening.open_chains.Goals as goal

pub returns-in-Err : goal.returns-in-Err
returns-in-Err c =
    let m = setup_of_worlds c.args.worlds.now c.args.places.now c.args.chains.now in
    let i = c.chains.chain in
    let inv = c.chains.invariant in
    fails_on m i (new_chain m i) (map (new_chain m) (range_with_len 0 (length c.args.chains.now))) c.in-Err.fault c.chains-test.true inv.0
    (subst (λ r. Gives (λ c. c) r (opened_or (chain_lack m i) (new_chain m i))) c.in-Err.is c.open_chain.ensures)

pub chains-preserved : goal.chains-preserved
chains-preserved c =
    let m = setup_of_worlds c.args.worlds.now c.args.places.now c.args.chains.now in
    let i = c.chains.chain in
    let inv = c.chains.invariant in
    let k = was_opened (chain_lack m i) (new_chain m i) c.in-Ok.chain
    (subst (λ r. Gives (λ c. c) r (opened_or (chain_lack m i) (new_chain m i))) c.in-Ok.is c.open_chain.ensures) in (
      first_next (chain_lack m) i inv.0 k.0,
      map_more (new_chain m) i c.chains.opened.items c.push.new.self.items
          (c.in_ok-push-in-Ok.ensures.items ∙ ap (λ (y : ChainState). c.chains.opened.items ++ y ∷ []) k.1) inv.1,
    )
