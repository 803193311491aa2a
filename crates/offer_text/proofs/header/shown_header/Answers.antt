use Rattle.std.proofs.Common.{sym, subst}
use Rattle.std.specs.Prelude.{codes}
use Rattle.offer_text.specs.Words.{IsBelow}
use Rattle.offer_text.proofs.Headers.{delta_is_first}
use Rattle.offer_text.proofs.header.shown_header.Goals as goal

pub put_first_fields-requires-clause-after : goal.put_first_fields-requires-clause-after
put_first_fields-requires-clause-after c = subst (IsBelow (codes "delta")) (sym c.in_ok-put_by_mode.ensures) (delta_is_first c.args.job.now.deal.mode _ _ _)
