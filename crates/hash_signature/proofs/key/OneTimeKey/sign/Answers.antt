use Rattle.std.proofs.Common.{◌≤◌, ℕ, rules}
use Rattle.hash_signature.specs.Signature.{digit}
use Rattle.hash_signature.proofs.MessageDigits.{digits_small}
use Rattle.hash_signature.proofs.Validity.{valid_as}
use Rattle.hash_signature.proofs.key.OneTimeKey.sign.Goals as goal

pub returns-clause-valid : goal.returns-clause-valid
returns-clause-valid c =
    let small : (j : ℕ) → digit c.args.message.now j ≤ 15 = digits_small c.args.message.now c.told-message c.fits-message in
    valid_as c.args.self.seed c.args.self.party c.args.self.lock c.args.message.now c.new.result small (search rules)
