use Rattle.std.proofs.Common.{Err, ap, sym, ◌∙◌}
use Rattle.audit_command.specs.Output.{by_text}
use Rattle.audit_command.proofs.story.conclude.Goals as goal

pub returns-in-Err-Refused-clause-exact : goal.returns-in-Err-Refused-clause-exact
returns-in-Err-Refused-clause-exact c = ap by_text (rw c.in-Err-Refused.field-0-is at c.in-Err-Refused.ensures.exact) ∙ ap Err (sym c.to_refusal.ensures)
