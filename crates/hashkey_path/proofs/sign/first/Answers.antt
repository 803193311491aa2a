use Rattle.std.proofs.Common.{◌≡◌, [], sym, subst, rules}
use Rattle.hashkey_path.specs.declared.hashkey.Hashkey.{Hashkey}
use Rattle.swap_digraph.specs.Deal.{lock_hashlock}
use Rattle.hashkey_path.specs.Signed.{leaders_key, IsValidEntering}
use Rattle.hashkey_path.proofs.Signed.{first_is_valid, signed_as}
use Rattle.hashkey_path.proofs.sign.first.Goals as goal

pub returns-in-Ok-clause-valid : goal.returns-in-Ok-clause-valid
returns-in-Ok-clause-valid c = λ own.
    let is : c.sign.result ≡ leaders_key c.args.deal.now c.args.lock c.args.secret.now c.args.party c.args.key.seed = search rules in
    let P : Hashkey → Type 0 = λ k. IsValidEntering c.args.deal.now c.args.party (lock_hashlock c.args.deal.now c.args.lock) k in
    subst P (sym is)
    (first_is_valid c.args.deal.now c.args.lock c.args.secret.now c.args.party c.args.key.seed c.requires.party own
    (signed_as c.args.deal.now.id c.args.lock c.args.secret.now c.args.party c.args.key.seed [] [] _ _ _ _ c.requires.of_party c.requires.of_lock
    c.in-Ok.ensures.path c.in-Ok.ensures.sigs c.sign.ensures.valid))
