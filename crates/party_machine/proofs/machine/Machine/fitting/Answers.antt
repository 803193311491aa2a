use Rattle.party_machine.proofs.Good.{fitting_is_good}
use Rattle.party_machine.proofs.MachineEntries.{new_ready, new_is}
use Rattle.party_machine.proofs.machine.Machine.fitting.Goals as goal

pub invariant_of-result : goal.invariant_of-result
invariant_of-result c =
    record {
      ready =
          new_ready c.in_ok-copy_deal.field-0 c.args.deal.now c.args.me c.args.wallet c.in_ok-known.known.items c.in_ok-copy_deal.ensures
          c.requires.wallet c.in_ok-known.ensures c.requires.sized c.requires.party c.requires.fits;
      rests = tt;
    }

pub returns-clause-new : goal.returns-clause-new
returns-clause-new c =
    new_is c.in_ok-copy_deal.field-0 c.args.deal.now c.args.me c.args.wallet c.in_ok-known.known.items c.in_ok-copy_deal.ensures c.requires.wallet
    c.in_ok-known.ensures

pub returns-clause-good : goal.returns-clause-good
returns-clause-good c = λ accepted. fitting_is_good c.args.deal.now c.args.me c.args.wallet.seed accepted c.requires.party c.requires.fits
