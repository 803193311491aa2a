use Rattle.std.proofs.Common.{◌∙◌}
use Rattle.swap_gen.proofs.Equipped.{has_few, has_wallets, in_hashkeys, is_made, is_proposed, states_keys}
use Rattle.swap_gen.proofs.wallets.made_job.Goals as goal

pub prepared_wallets-requires-clause-mode : goal.prepared_wallets-requires-clause-mode
prepared_wallets-requires-clause-mode c = in_hashkeys c.args.seed c.args.parties c.in_ok-job.job c.in_ok-job.ensures.job

pub prepared_wallets-requires-clause-few : goal.prepared_wallets-requires-clause-few
prepared_wallets-requires-clause-few c = has_few c.args.seed c.args.parties c.in_ok-job.job c.in_ok-job.ensures.job c.requires.low c.requires.high

pub fill-requires-clause-proposed : goal.fill-requires-clause-proposed
fill-requires-clause-proposed c = is_proposed c.args.seed c.args.parties c.in_ok-job.job c.in_ok-job.ensures.job c.requires.low c.requires.high

pub fill-requires-clause-keys : goal.fill-requires-clause-keys
fill-requires-clause-keys c =
    c.new.ensures
    ∙ states_keys c.args.seed c.args.parties c.in_ok-job.job c.in_ok-job.ensures.job c.in_ok-wallets.field-0.keys.items c.as_slice.result.now
    c.in_ok-wallets.ensures.keys c.as_slice.ensures

pub returns-clause-job : goal.returns-clause-job
returns-clause-job c =
    is_made c.args.seed c.args.parties c.in_ok-job.job c.in_ok-job.ensures.job c.as_slice.result.now c.fill.new.deal c.as_slice.ensures
    c.in_ok-fill.ensures

pub returns-clause-wallets : goal.returns-clause-wallets
returns-clause-wallets c =
    has_wallets c.args.seed c.args.parties c.in_ok-job.job c.in_ok-job.ensures.job c.in_ok-wallets.field-0.wallets.items c.in_ok-wallets.ensures.wallets
