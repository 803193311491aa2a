use Rattle.std.proofs.Common.{◌≡◌, ◌++◌, ℕ, List, subst}
use Rattle.swap_base.proofs.Lines.{lines_on, lines_done}
use Rattle.swap_many.specs.Value.{many_kept}
use Rattle.many_text.specs.ManyText.{account_text}
use Rattle.many_text.proofs.chains.put_accounts.Goals as goal

pub accounts-preserved : goal.accounts-preserved
accounts-preserved c =
    let free = (many_kept c.args.world.now).free c.args.chain in
    let i = c.accounts.account in
    let name = c.index-names-account.result in
    lines_on (account_text free) c.accounts.out.items c.put_account.new.out.items _ i c.args.names.now i name name c.accounts-test.true c.index-names-account.is
    (subst (λ (text : List ℕ). c.put_account.new.out.items ≡ c.accounts.out.items ++ account_text free i text) c.as_slice.ensures
    (subst (λ (n : ℕ). c.put_account.new.out.items ≡ c.accounts.out.items ++ account_text (λ x. n) i c.as_slice.result.now) c.free-units.ensures
    c.in_ok-put_account.ensures)) c.accounts.invariant

pub returns : goal.returns
returns c = lines_done (account_text ((many_kept c.args.world.now).free c.args.chain)) c.accounts.out.items _ c.accounts.account c.args.names.now
    c.accounts.account c.accounts-test.false c.accounts.invariant
