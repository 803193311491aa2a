use Rattle.std.proofs.Common.{ℕ, ◌<◌, length, sym, subst}
use Rattle.conduct_check.specs.Judged.{judged_book}
use Rattle.conduct_check.proofs.Valid.{first_lock}
use Rattle.conduct_check.proofs.standing.is_first_valid.Goals as goal

pub is_valid_entering-requires-clause-lock : goal.is_valid_entering-requires-clause-lock
is_valid_entering-requires-clause-lock c =
    subst (λ (n : ℕ). n < length c.args.judged.now.deal.now.leaders)
    (sym (first_lock (judged_book c.args.judged.now) c.args.judged.now.party c.args.lock c.in-Some.key.now (sym c.in-Some.ensures))) c.requires.lock
