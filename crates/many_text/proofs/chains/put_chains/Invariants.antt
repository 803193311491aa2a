use Rattle.std.proofs.Common.{◌≡◌, ◌++◌, drop}
use Rattle.swap_base.specs.Text.{lines}
use Rattle.swap_many.specs.Value.{many_kept}
use Rattle.many_text.specs.ManyText.{kept_chain_text}
use Rattle.many_text.proofs.chains.put_chains.Given as goal

abbrev pub invariant-each : goal.invariant-each
invariant-each l = l.out.items ++ lines (kept_chain_text (many_kept l.world)) l.chain (drop l.chain l.names)
    ≡ l.fn.out.items ++ lines (kept_chain_text (many_kept l.world)) 0 l.names
