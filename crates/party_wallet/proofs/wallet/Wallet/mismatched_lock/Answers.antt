use Rattle.std.proofs.Common.{◌∙◌, sym, ap, not}
use Rattle.party_wallet.specs.Fits.{fits_deal, find_wrong_lock}
use Rattle.party_wallet.proofs.Stated.{none_wrong}
use Rattle.party_wallet.proofs.Least.{goes_on, is_found, none_left}
use Rattle.party_wallet.proofs.wallet.Wallet.mismatched_lock.Goals as goal

pub returns-then-not-fits_deal-clause-wrong : goal.returns-then-not-fits_deal-clause-wrong
returns-then-not-fits_deal-clause-wrong c =
    is_found (λ j. not (fits_deal c.args.deal.now c.args.party c.args.self.now j)) c.locks.lock c.len-count.result
    (find_wrong_lock c.args.deal.now c.args.party c.args.self.now) c.locks-test.true (ap not (sym c.fits_deal.ensures ∙ c.if-not-fits_deal.true))
    c.locks.invariant

pub locks-preserved : goal.locks-preserved
locks-preserved c =
    goes_on (λ j. not (fits_deal c.args.deal.now c.args.party c.args.self.now j)) c.locks.lock c.len-count.result
    (find_wrong_lock c.args.deal.now c.args.party c.args.self.now) c.locks-test.true (ap not (sym c.fits_deal.ensures ∙ c.if-not-fits_deal.false))
    c.locks.invariant

pub returns-clause-fits : goal.returns-clause-fits
returns-clause-fits c = λ none.
    none_wrong c.args.deal.now c.args.party c.args.self.now
    (none_left (λ j. not (fits_deal c.args.deal.now c.args.party c.args.self.now j)) c.locks.lock c.len-count.result
    (find_wrong_lock c.args.deal.now c.args.party c.args.self.now) c.locks-test.false c.locks.invariant)
