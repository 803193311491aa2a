use Rattle.party_wallet.proofs.Unspent.{new_unspent}
use Rattle.party_wallet.proofs.wallet.Wallet.new.Goals as goal

pub invariant_of-result : goal.invariant_of-result
invariant_of-result c =
    let new = new_unspent c.args.mode c.args.seed.now c.args.me c.args.locks c.in_ok-keys.field-0.keys.items c.in_ok-keys.field-0.publics.items
    c.in_ok-none_signed.field-0.keys c.requires c.in_ok-keys.ensures.keys c.in_ok-keys.ensures.publics c.in_ok-none_signed.ensures in
    record { keys = new.0; publics = new.1 }
