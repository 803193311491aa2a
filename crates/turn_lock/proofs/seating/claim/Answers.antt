use Rattle.std.proofs.Common.{rules, ◌∙◌, refl}
use Rattle.turn_lock.proofs.Keeps.{claims_at}
use Rattle.turn_lock.proofs.seating.claim.Goals as goal

pub fetch_or-found-requires : goal.fetch_or-found-requires
fetch_or-found-requires g c = (
  search rules,
  search rules,
  claims_at _ _ _ _ _ _ _ _ _ (c.loop.invariant.1
      ∙ c.requires.new) c.requires.number.0 c.requires.number.1 (search rules) refl,
)
