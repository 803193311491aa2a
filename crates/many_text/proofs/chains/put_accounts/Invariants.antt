use Rattle.std.proofs.Common.{◌≡◌, ◌++◌, drop}
use Rattle.swap_base.specs.Text.{lines}
use Rattle.swap_many.specs.Value.{many_kept}
use Rattle.many_text.specs.ManyText.{account_text}
use Rattle.many_text.proofs.chains.put_accounts.Given as goal

abbrev pub invariant-accounts : goal.invariant-accounts
invariant-accounts l = l.out.items ++ lines (account_text ((many_kept l.world).free l.chain)) l.account (drop l.account l.names)
    ≡ l.fn.out.items ++ lines (account_text ((many_kept l.world).free l.chain)) 0 l.names
