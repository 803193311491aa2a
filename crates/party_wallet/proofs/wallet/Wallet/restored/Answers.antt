use Rattle.std.proofs.Common.{◌≡◌, ℕ, suc, ◌+◌, length, replicate, Option, Some, None, get_or, sym, ap, ◌∙◌, arith}
use Rattle.hashkey_path.specs.declared.hashkey.Hashkey.{Hashkey}
use Rattle.party_wallet.specs.Value.{WalletState}
use Rattle.party_wallet.specs.Keys.{with_recorded, with_signed}
use Rattle.party_wallet.proofs.Restored.{any_default, so_far, none_yet, all_there, one_more, long_as}
use Rattle.party_wallet.proofs.wallet.Wallet.restored.Goals as goal

pub locks-init : goal.locks-init
locks-init c =
    ap (with_recorded c.args.self) (c.requires.unsigned ∙ ap (λ (n : ℕ). replicate {A = Option Hashkey} n None) c.requires.places
    ∙ none_yet c.args.recorded.now)

pub restore-requires : goal.restore-requires
restore-requires c =
    omega (arith, c.locks-test.true, ap (λ (w : WalletState). length w.signed) c.locks.invariant, long_as c.args.recorded.now c.locks.lock)

pub locks-preserved : goal.locks-preserved
locks-preserved c =
    let noted : Some c.in_ok-copy.field-0 ≡ c.index-recorded-lock.result = sym (c.in-Some.is ∙ ap (λ (k : Hashkey). Some k) (sym c.in_ok-copy.ensures)) in
    let there : c.index-recorded-lock.result ≡ get_or c.args.recorded.now c.locks.lock None =
    c.index-recorded-lock.is ∙ any_default c.args.recorded.now c.locks.lock c.index-recorded-lock.result None (omega (arith, c.locks-test.true)) in
    let next : suc c.locks.lock ≡ c.locks.lock + 1 = omega arith in
    c.restore.ensures ∙ ap (λ (w : WalletState). with_signed w c.locks.lock c.in_ok-copy.field-0) c.locks.invariant
    ∙ ap (with_recorded c.args.self) (one_more c.args.recorded.now c.locks.lock c.in_ok-copy.field-0 (omega (arith, c.locks-test.true)) (noted ∙ there))
    ∙ ap (λ (n : ℕ). with_recorded c.args.self (so_far c.args.recorded.now n)) next

pub returns : goal.returns
returns c = record {
  value = c.locks.invariant ∙ ap (with_recorded c.args.self) (all_there c.args.recorded.now c.locks.lock (omega (arith, c.locks-test.false)));
}
