use Rattle.party_machine.proofs.MachineEntries.{fits_fresh, made_fresh}
use Rattle.party_machine.proofs.machine.Machine.new.Goals as goal

pub fitting-requires-clause-wallet : goal.fitting-requires-clause-wallet
fitting-requires-clause-wallet c = made_fresh c.args.deal.now c.args.me c.args.wallet.seed c.in_ok-fresh-in-None.fresh c.in_ok-fresh-in-None.ensures

pub fitting-requires-clause-fits : goal.fitting-requires-clause-fits
fitting-requires-clause-fits c =
    fits_fresh c.args.deal.now c.args.me c.args.wallet c.in_ok-fresh-in-None.fresh c.in_ok-fresh-in-None.ensures (c.mismatched_lock.ensures.fits c.in-None.is)
