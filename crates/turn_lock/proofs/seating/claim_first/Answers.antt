use Rattle.std.proofs.Common.{rules, ◌∙◌}
use Rattle.turn_lock.proofs.Keeps.{claims_first_at}
use Rattle.turn_lock.proofs.seating.claim_first.Goals as goal

pub fetch_or-found-requires : goal.fetch_or-found-requires
fetch_or-found-requires g c = (search rules, search rules, claims_first_at _ _ _ _ _ _ _ (c.loop.invariant.1 ∙ c.requires.new) (search rules))
