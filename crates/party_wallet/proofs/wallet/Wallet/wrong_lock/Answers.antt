use Rattle.std.proofs.Common.{◌∙◌, ap}
use Rattle.party_wallet.specs.Value.{WalletState}
use Rattle.party_wallet.specs.Fits.{find_wrong_lock}
use Rattle.party_wallet.proofs.Stated.{new_fits}
use Rattle.party_wallet.proofs.wallet.Wallet.wrong_lock.Goals as goal

pub returns : goal.returns
returns c =
    c.mismatched_lock.ensures.wrong ∙ (ap (λ (w : WalletState). find_wrong_lock c.args.deal.now w.party c.args.self.now) c.self.view_is
    ∙ new_fits c.args.deal.now c.args.self.now c.requires.new)
