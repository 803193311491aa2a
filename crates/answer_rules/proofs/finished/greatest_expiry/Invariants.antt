use Rattle.std.proofs.Common.{◌≡◌, ◌<◌, ◌^◌}
use Rattle.std.specs.List.{range_with_len}
use Rattle.swap_base.specs.Lists.{greatest}
use Rattle.swap_rules.specs.Party.{expiry}
use Rattle.answer_rules.proofs.finished.greatest_expiry.Given as goal

abbrev pub invariant-locks : goal.invariant-locks
invariant-locks l = (l.last ≡ greatest (expiry l.deal l.arc) (range_with_len 0 l.lock)) × (l.last < 2 ^ 62)
