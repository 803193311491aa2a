-- The fair finish: rounds until each ledger is above the horizon. It takes the steps of a run and
-- no others.
use Rattle.std.specs.Prelude.{ℕ, suc, zero, ◌+◌, ◌*◌, ◌-◌, Bool, ◌||◌, ◌==◌, nat_lt, nat_le, List, length, filter, fold, if◌then◌else◌}
use Rattle.std.specs.List.{list_all, range_with_len}
use Rattle.swap_base.specs.Lists.{greatest}
use Rattle.time_bounds.specs.Times as times
use Rattle.swap_digraph.specs.declared.deal.Deal.{Deal}
use Rattle.swap_digraph.specs.Deal.{party, counterparty}
use Rattle.swap_digraph.specs.Graph.{arcs}
use Rattle.ledger_core.specs.History.{height}
use Rattle.ledger_core.specs.Book.{Histories, history}
use Rattle.swap_job.specs.declared.event.Event.TheVariants.{Tick, Look, Act}
use Rattle.swap_run.specs.Run.{Cast, State, conforms, step}

-- f, n times
abbrev pub repeat : {A : Type 0} → ℕ → (A → A) → A → A
repeat zero f x = x
repeat (suc n) f x = f (repeat n f x)

-- A turn.

-- the arcs that touch v, ascending
abbrev pub adjacent_arcs : Deal → ℕ → List ℕ
adjacent_arcs d v = filter (λ a. (v == party d a) || (v == counterparty d a)) (arcs d.graph)

-- v looks at each arc that touches it
unfoldable pub looks : Cast → ℕ → State → State
looks c v s = fold (λ s a. step c s (Look v a)) s (adjacent_arcs c.deal v)

-- v acts n times
abbrev pub acts : Cast → ℕ → ℕ → State → State
acts c v n s = repeat n (λ s. step c s (Act v)) s

-- the most calls of a party that conforms: on each arc a publish, a claim, a refund and an unlock
-- for each lock
abbrev pub most_acts : Deal → ℕ
most_acts d = (length d.leaders + 3) * length d.graph.arcs

-- v looks, and then acts: until nothing is due where it conforms, else once
unfoldable pub turn : Cast → State → ℕ → State
turn c s v = if conforms c v then acts c v (most_acts c.deal) (looks c v s) else step c (looks c v s) (Act v)

-- the parties' turns, in their order
unfoldable pub turns : Cast → State → State
turns c s = fold (turn c) s (range_with_len 0 c.deal.graph.n)

-- Ticks.

-- the height above which a ledger has ended
abbrev pub the_horizon : Deal → ℕ
the_horizon d = times.horizon d.start d.delta d.bound

-- the height that a round leaves: one more, up to the first above the horizon
abbrev pub raised : Deal → ℕ → ℕ
raised d t = if nat_le t (the_horizon d) then t + 1 else t

-- the height that a finish leaves: the first above the horizon, or the same where the ledger was
-- above it
abbrev pub end_height : Deal → ℕ → ℕ
end_height d t = if nat_le t (the_horizon d) then the_horizon d + 1 else t

-- the ledger of arc a ticks by 1, where it isn't above the horizon
abbrev pub tick_low : Cast → State → ℕ → State
tick_low c s a = if nat_le (height (history s.book a)) (the_horizon c.deal) then step c s (Tick a 1) else s

-- each ledger that isn't above the horizon ticks by 1, by arc
unfoldable pub ticks : Cast → State → State
ticks c s = fold (tick_low c) s (arcs c.deal.graph)

-- Rounds.

-- every party has its turn, and then the ledgers tick
unfoldable pub round : Cast → State → State
round c s = ticks c (turns c s)

-- each ledger is above the horizon
abbrev pub is_above_horizon : Deal → Histories → Bool
is_above_horizon d b = list_all (λ a. nat_lt (the_horizon d) (height (history b a))) (arcs d.graph)

-- the heights that the least ledger lacks
abbrev pub rounds_left : Deal → Histories → ℕ
rounds_left d b = greatest (λ a. (the_horizon d + 1) - height (history b a)) (arcs d.graph)

-- a round, unless each ledger is above the horizon
abbrev pub round_unless_ended : Cast → State → State
round_unless_ended c s = if is_above_horizon c.deal s.book then s else round c s

-- rounds until each ledger is above the horizon, for which one more than the horizon are enough
unfoldable pub finish : Cast → State → State
finish c s = repeat (the_horizon c.deal + 1) (round_unless_ended c) s
