use Rattle.std.proofs.Common.{sym, ◌∙◌}
use Rattle.offer_events.specs.Plain.{is_plain_byte}
use Rattle.offer_events.proofs.Scanned.{up_to}
use Rattle.offer_events.proofs.plain.name.Goals as goal

pub returns-clause-plain : goal.returns-clause-plain
returns-clause-plain c = up_to is_plain_byte c.args.text.now c.in_ok-end.end (sym c.plain_end.ensures ∙ c.in_ok-end.was)
