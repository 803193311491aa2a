-- The times of a deal, and the bound on the paths that end in a leader. The times are this
-- project's own; the deadlines of Herlihy 2018 needn't be the same.
use Rattle.std.specs.Prelude.{ℕ, ◌+◌, ◌-◌, ◌*◌, min}

-- a bound on the arcs of a path to a leader, given the number of parties, the number of leaders and
-- the most followers in a row
abbrev pub need : ℕ → ℕ → ℕ → ℕ
need n leaders h = min (n - 1) (leaders * (h + 1) - 1)

abbrev pub opening_deadline : ℕ → ℕ → ℕ → ℕ
opening_deadline start delta bound = start + bound * delta

abbrev pub deadline : ℕ → ℕ → ℕ → ℕ → ℕ
deadline start delta bound k = start + (bound + 1 + k) * delta

abbrev pub last_expiry : ℕ → ℕ → ℕ → ℕ
last_expiry start delta bound = start + (2 * bound + 1) * delta

abbrev pub own_expiry : ℕ → ℕ → ℕ → ℕ
own_expiry start delta bound = start + (bound + 1) * delta

abbrev pub horizon : ℕ → ℕ → ℕ → ℕ
horizon start delta bound = start + (2 * bound + 2) * delta

abbrev pub timelock : ℕ → ℕ → ℕ → ℕ → ℕ
timelock start delta bound dist = start + (bound + 1 + dist) * delta
