-- What callers see of a lock.
use Rattle.std.specs.Prelude.{ℕ}
use Rattle.atomic_table.specs.Seated.{TableId}

-- Which lock it is, as its seats know it, and how many seats it has.
pub record LockState : Type 0 where
  pub lock : TableId
  pub seats : ℕ
