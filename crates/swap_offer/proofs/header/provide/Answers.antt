use Rattle.swap_offer.proofs.Seeds.{have_on, seeded_on, seeds_on}
use Rattle.swap_offer.proofs.header.provide.Goals as goal

pub returns-clause-wallets : goal.returns-clause-wallets
returns-clause-wallets c = have_on c.args.job.now c.in_ok-check_seeds.field-0 c.prepared_wallets.result c.in_ok-check_seeds.ensures
    c.prepared_wallets.ensures.fit

pub returns-clause-seeds : goal.returns-clause-seeds
returns-clause-seeds c = seeds_on c.args.job.now c.in_ok-check_seeds.field-0 c.prepared_wallets.result c.in_ok-check_seeds.ensures

pub returns-clause-seeded : goal.returns-clause-seeded
returns-clause-seeded c = seeded_on c.args.job.now c.in_ok-check_seeds.field-0 c.prepared_wallets.result c.in_ok-check_seeds.ensures
