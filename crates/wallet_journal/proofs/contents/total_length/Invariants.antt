use Rattle.std.proofs.Common.{◌≡◌, take}
use Rattle.wallet_journal.specs.Memory.{total}
use Rattle.wallet_journal.proofs.contents.total_length.Given as goal

abbrev pub invariant-spans : goal.invariant-spans
invariant-spans l = l.sum ≡ total (take l.span-index l.spans)
