use Rattle.std.proofs.Common.{◌≡◌, sym, subst, rules}
use Rattle.hashkey_path.specs.declared.hashkey.Hashkey.{Hashkey}
use Rattle.hashkey_path.specs.Signed.{extended_key, IsValidEntering}
use Rattle.hashkey_path.proofs.Signed.{extended_is_valid, signed_as}
use Rattle.hashkey_path.proofs.sign.extend.Goals as goal

pub returns-in-Ok-clause-valid : goal.returns-in-Ok-clause-valid
returns-in-Ok-clause-valid c = λ a hashlock right can.
    let is : c.sign.result ≡ extended_key c.args.deal.now c.args.inner.now c.args.party c.args.key.seed = search rules in
    let P : Hashkey → Type 0 = λ k. IsValidEntering c.args.deal.now c.args.party hashlock k in
    subst P (sym is)
    (extended_is_valid c.args.deal.now c.args.inner.now c.args.party c.args.key.seed a hashlock c.requires.party right can
    (signed_as c.args.deal.now.id c.args.inner.now.lock c.args.inner.now.secret c.args.party c.args.key.seed c.args.inner.now.path c.args.inner.now.sigs
    _ _ _ _ c.requires.of_party c.requires.of_lock (search rules) (search rules) c.sign.ensures.valid))
