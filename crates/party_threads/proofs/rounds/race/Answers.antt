use Rattle.swap_rules.proofs.Accepted.{accepted_is_well_sized}
use Rattle.party_threads.proofs.rounds.race.Goals as goal

pub wrong_wallet-requires-clause-sized : goal.wrong_wallet-requires-clause-sized
wrong_wallet-requires-clause-sized g c = accepted_is_well_sized c.args.job.now.deal c.requires.accepted

pub race_fitting-requires-clause-fit : goal.race_fitting-requires-clause-fit
race_fitting-requires-clause-fit g c = λ κs lives. c.wrong_wallet.ensures.fit c.in-None.is
