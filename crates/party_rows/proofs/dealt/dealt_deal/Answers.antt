use Rattle.std.proofs.Common.{◌∙◌, ap, map}
use Rattle.party_rows.specs.Dealt.{told_hashlock}
use Rattle.party_rows.proofs.Sized.{deal_accepted, rows_sized}
use Rattle.party_rows.proofs.dealt.dealt_deal.Goals as goal

pub deal_digest-deal-requires : goal.deal_digest-deal-requires
deal_digest-deal-requires c =
    rows_sized c.args.rows.now c.args.proposed c.requires.proposed c.requires.rows c.requires.all _ _ _
    (c.in_ok-deal.ensures ∙ ap (map (told_hashlock c.args.rows.now)) c.as_slice.ensures) c.in_ok-deal-2.ensures c.in_ok-deal-3.ensures

pub returns-clause-accepted : goal.returns-clause-accepted
returns-clause-accepted c =
    deal_accepted c.args.rows.now c.args.proposed c.requires.proposed c.requires.rows c.requires.all _ _ _ _
    (c.in_ok-deal.ensures ∙ ap (map (told_hashlock c.args.rows.now)) c.as_slice.ensures) c.in_ok-deal-2.ensures c.in_ok-deal-3.ensures
    c.deal_digest-deal.ensures.value
