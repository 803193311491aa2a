use Rattle.std.proofs.Common.{◌≡◌, length}
use Rattle.many_lines.specs.Fields.{further_accounts}
use Rattle.many_lines.specs.Below.{AreFew}
use Rattle.many_lines.proofs.accounts.add_accounts.Given as goal

abbrev pub invariant-loop-name : goal.invariant-loop-name
invariant-loop-name l = record {
  reads : further_accounts l.accounts l.fields ≡ further_accounts l.fn.accounts l.fn.fields;
  few : AreFew l.fn.accounts → AreFew l.accounts;
}

abbrev pub decreases-loop-name : goal.decreases-loop-name
decreases-loop-name l = length l.fields
