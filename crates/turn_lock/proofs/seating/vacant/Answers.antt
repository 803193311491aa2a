use Rattle.std.proofs.Common.{ap, ◌∷◌, ◌*◌, ◌+◌, ℕ, []}
use Rattle.turn_lock.proofs.Keeps.{begins}
use Rattle.turn_lock.proofs.seating.vacant.Goals as goal

pub vacant-requires : goal.vacant-requires
vacant-requires g c = rw c.of.ensures (begins _ _ _ _ _ (ap (λ (n : ℕ). (4 * n + 1) ∷ 0 ∷ []) c.count.ensures.length) c.requires)
