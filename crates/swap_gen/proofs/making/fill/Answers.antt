use Rattle.std.proofs.Common.{◌∙◌, ap, map}
use Rattle.swap_gen.specs.Made.{seed_hashlock}
use Rattle.swap_gen.proofs.Accepting.{sized_with}
use Rattle.swap_gen.proofs.making.fill.Goals as goal

pub deal_digest-deal-requires : goal.deal_digest-deal-requires
deal_digest-deal-requires c =
    sized_with c.args.seeds.now c.args.deal.now _ _ _ c.requires.proposed (c.in_ok-deal.ensures ∙ ap (map (seed_hashlock c.args.seeds.now)) c.as_slice.ensures)
    c.requires.keys c.in_ok-deal-2.ensures
