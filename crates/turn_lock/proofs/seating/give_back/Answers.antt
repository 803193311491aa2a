use Rattle.std.proofs.Common.{rules, ap, ◌∙◌, Some, ◌∷◌, ◌*◌, ℕ}
use Rattle.atomic_table.specs.Table.{rest}
use Rattle.turn_lock.proofs.Keeps.{gives_turn_at}
use Rattle.turn_lock.proofs.seating.give_back.Goals as goal

pub swap-found-requires : goal.swap-found-requires
swap-found-requires g c = (
  search rules,
  search rules,
  gives_turn_at _ _ _ _ _ _ _ _ _ _ _ _ (c.exchange.ensures.3
      ∙ ap (λ m. (m.0, (0, Some c.args.value) ∷ rest m.1)) c.requires.turn) (ap (λ (n : ℕ). 4 * n) c.count-count.ensures.length) c.requires.further,
)
