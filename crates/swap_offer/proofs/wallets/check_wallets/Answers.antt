use Rattle.std.proofs.lemmas.Result.{err_from_is_err_and}
use Rattle.swap_offer.specs.Wallets.{wrong_wallet, fitting}
use Rattle.swap_offer.proofs.Firsts.{goes_on, ends, is_done}
use Rattle.swap_offer.proofs.wallets.check_wallets.Goals as goal

pub parties-preserved : goal.parties-preserved
parties-preserved c =
    let job = c.args.job.now in
    goes_on (wrong_wallet job) job.deal.graph.n (fitting job) c.parties.p tt
    (rw c.n-p-end.ensures at c.parties-test.true) c.in_ok-job_wallet.ensures.fits c.parties.invariant

pub returns-in_err-job_wallet : goal.returns-in_err-job_wallet
returns-in_err-job_wallet c =
    let job = c.args.job.now in
    let p = err_from_is_err_and c.from_residual.result c.from_residual.ensures.1 in
    rw (p.1, p.2) (ends (wrong_wallet job) job.deal.graph.n (fitting job) c.in_err-job_wallet.field-0.0 c.parties.p
    (rw c.n-p-end.ensures at c.parties-test.true) c.in_err-job_wallet.ensures.fits c.parties.invariant)

pub returns : goal.returns
returns c =
    let job = c.args.job.now in
    is_done (wrong_wallet job) job.deal.graph.n (fitting job) c.parties.p (rw c.n-p-end.ensures at c.parties-test.false) c.parties.invariant
