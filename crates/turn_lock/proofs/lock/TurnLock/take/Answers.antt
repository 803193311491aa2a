use Rattle.std.proofs.Common.{rules, ap, ◌∙◌, refl, Some}
use Rattle.turn_lock.proofs.Keeps.{takes_turn_at}
use Rattle.turn_lock.proofs.lock.TurnLock.take.Goals as goal

pub compare_exchange-found-requires : goal.compare_exchange-found-requires
compare_exchange-found-requires g c = (
  search rules,
  search rules,
  takes_turn_at _ _ _ _ _ _ _ _ _ _ _ _ _ (c.loop.invariant.1 ∙ c.requires.idle) (search rules) c.taken-next.ensures,
)

pub exchange-requires : goal.exchange-requires
exchange-requires g c = let t = c.compare_exchange-found.ensures.2.0 c.if-found-word.true in let is = ap (λ m. m.1) t.1 in
    (search rules, (Some t.0, rw is refl))
