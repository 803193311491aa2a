use Rattle.conduct_check.proofs.Valid.{first_entering}
use Rattle.conduct_check.proofs.validity.is_valid_entering.Goals as goal

pub is_valid-requires-clause-arc : goal.is_valid-requires-clause-arc
is_valid-requires-clause-arc c =
    first_entering c.args.judged.now.deal.now c.args.judged.now.party c.entering-entering.result.now c.entering-entering.ensures c.in-len1-up.len_at_least
