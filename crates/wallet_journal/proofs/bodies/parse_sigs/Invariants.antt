use Rattle.std.proofs.Common.{◌≡◌}
use Rattle.wallet_journal.specs.Layout.{body_signatures}
use Rattle.wallet_journal.proofs.bodies.parse_sigs.Given as goal

abbrev pub invariant-each : goal.invariant-each
invariant-each l = l.sigs.items ≡ body_signatures l.j l.bytes
