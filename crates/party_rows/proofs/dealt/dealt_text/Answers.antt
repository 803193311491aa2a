use Rattle.party_rows.proofs.Writable.{is_writable}
use Rattle.party_rows.proofs.dealt.dealt_text.Goals as goal

pub write_deal-requires-clause-writable : goal.write_deal-requires-clause-writable
write_deal-requires-clause-writable c =
    is_writable c.args.rows.now c.args.job c.in_ok-made.made c.requires.offered c.requires.rows c.requires.all c.in_ok-made.ensures.exact
