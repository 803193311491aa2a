use Rattle.std.proofs.Common.{sym, subst}
use Rattle.std.specs.Prelude.{codes}
use Rattle.offer_text.specs.Words.{IsBelow}
use Rattle.offer_text.proofs.Headers.{finish_is_first}
use Rattle.offer_text.proofs.header.made_header.Goals as goal

pub put_text-requires : goal.put_text-requires
put_text-requires c = subst (IsBelow (codes "finish")) (sym c.in_ok-put_by_mode.ensures) (finish_is_first c.args.job.now.deal.mode _ _ _)
