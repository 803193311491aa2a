use Rattle.std.proofs.Common.{◌∙◌, ap, ◌++◌, ◌∷◌, [], Option}
use Rattle.std.proofs.lemmas.Result.{err_from_is_err_and}
use Rattle.swap_digraph.proofs.Ranges.{map_more}
use Rattle.party_wallet.specs.Value.{WalletState}
use Rattle.party_wallet.specs.Wallets.{job_wallet}
use Rattle.swap_offer.specs.Wallets.{wrong_wallet, fitting}
use Rattle.swap_offer.proofs.Firsts.{goes_on, ends}
use Rattle.swap_offer.proofs.wallets.new_wallets.Goals as goal

pub returns-in_err-wallet-clause-fit : goal.returns-in_err-wallet-clause-fit
returns-in_err-wallet-clause-fit c =
    let job = c.args.job.now in
    let p = err_from_is_err_and c.from_residual.result c.from_residual.ensures.1 in
    rw (p.1, p.2) (ends (wrong_wallet job) job.deal.graph.n (fitting job) c.in_err-wallet.field-0.0 c.parties.p
    (rw c.n-p-end.ensures at c.parties-test.true) c.in_err-wallet.ensures.fits c.parties.invariant.fit)

pub parties-preserved : goal.parties-preserved
parties-preserved c =
    let job = c.args.job.now in
    record {
      fit = goes_on (wrong_wallet job) job.deal.graph.n (fitting job) c.parties.p tt
          (rw c.n-p-end.ensures at c.parties-test.true) c.in_ok-wallet.ensures.fits c.parties.invariant.fit;
      made =
          map_more (job_wallet job.deal job.conforming job.seeds) c.parties.p c.parties.wallets.items c.push.new.self.items
          (c.in_ok-push.ensures.items ∙ ap (λ (x : Option WalletState). c.parties.wallets.items ++ x ∷ []) c.in_ok-wallet.ensures.made)
          c.parties.invariant.made;
    }
