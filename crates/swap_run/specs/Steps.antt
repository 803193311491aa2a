-- The steps of a fair finish, in their order, and the histories after some of them.
use Rattle.std.specs.Prelude.{◌≡◌, ◌≤◌, ℕ, zero, suc, ◌+◌, nat_le, List, [], ◌∷◌, ◌++◌, length, map, take, replicate, slice_set, if◌then◌else◌}
use Rattle.std.specs.List.{flat_map, range_with_len}
use Rattle.swap_digraph.specs.declared.deal.Deal.{Deal}
use Rattle.swap_digraph.specs.Graph.{arcs}
use Rattle.ledger_core.specs.History.{height}
use Rattle.ledger_core.specs.Book.{Histories, history}
use Rattle.swap_job.specs.declared.event.Event.{Event}
use Rattle.swap_job.specs.declared.event.Event.TheVariants.{Tick, Look, Act}
use Rattle.swap_run.specs.Run.{Cast, State, conforms, after_tick, continued_run}
use Rattle.swap_run.specs.Fair.{repeat, adjacent_arcs, most_acts, turns, the_horizon, ticks, is_above_horizon, round_unless_ended, finish}
use Rattle.swap_run.specs.Quiet.{SkipsQuietRounds}

-- The histories b are those after the first `count` of these events.
pub record IsIntermediateBook (c : Cast) (s : State) (events : List Event) (b : Histories) : Type 0 where
  pub count : ℕ
  pub few : count ≤ length events
  pub book : b ≡ (continued_run c s (take count events)).book

-- v looks at each arc that touches it
abbrev pub look_steps : Deal → ℕ → List Event
look_steps d v = map (λ a. Look v a) (adjacent_arcs d v)

-- v acts as often as it may where it conforms (an act with nothing due changes nothing), and else
-- once
abbrev pub act_steps : Cast → ℕ → List Event
act_steps c v = if conforms c v then replicate (most_acts c.deal) (Act v) else Act v ∷ []

-- the turn of v
unfoldable pub turn_steps : Cast → ℕ → List Event
turn_steps c v = look_steps c.deal v ++ act_steps c v

-- the parties' turns
unfoldable pub turns_steps : Cast → List Event
turns_steps c = flat_map (turn_steps c) (range_with_len 0 c.deal.graph.n)

-- a tick by 1 of the ledger of arc a, where it isn't above the horizon
abbrev pub low_step : Deal → Histories → ℕ → List Event
low_step d b a = if nat_le (height (history b a)) (the_horizon d) then Tick a 1 ∷ [] else []

-- the histories after it
abbrev pub after_low : Deal → Histories → ℕ → Histories
after_low d b a = if nat_le (height (history b a)) (the_horizon d) then slice_set b a (after_tick 1 (history b a)) else b

-- a tick by 1 of the ledger of each of these arcs, one after another, where it isn't above the
-- horizon
abbrev pub low_steps : Deal → Histories → List ℕ → List Event
low_steps d b [] = []
low_steps d b (a ∷ more) = low_step d b a ++ low_steps d (after_low d b a) more

-- the ticks of a round
unfoldable pub tick_steps : Deal → Histories → List Event
tick_steps d b = low_steps d b (arcs d.graph)

-- a round
abbrev pub round_steps : Cast → State → List Event
round_steps c s = turns_steps c ++ tick_steps c.deal (turns c s).book

-- a round, unless each ledger is above the horizon
abbrev pub unless_steps : Cast → State → List Event
unless_steps c s = if is_above_horizon c.deal s.book then [] else round_steps c s

-- the steps of a number of rounds
abbrev pub rounds_steps : ℕ → Cast → State → List Event
rounds_steps zero c s = []
rounds_steps (suc n) c s = rounds_steps n c s ++ unless_steps c (repeat n (round_unless_ended c) s)

-- a fair finish
unfoldable pub finish_steps : Cast → State → List Event
finish_steps c s = rounds_steps (the_horizon c.deal + 1) c s

-- they lead to where it leads
abbrev pub FinishIsSteps : Type 0
FinishIsSteps = (c : Cast) (s : State) → continued_run c s (finish_steps c s) ≡ finish c s

-- the ticks alone of a number of rounds
abbrev pub pass_steps : ℕ → Cast → State → List Event
pass_steps zero c s = []
pass_steps (suc n) c s = pass_steps n c s ++ tick_steps c.deal (repeat n (ticks c) s).book

-- The ticks of n rounds and then one round lead to the same state as n + 1 rounds, through no other
-- histories than those of the rounds.
pub record IsSkipped (c : Cast) (n : ℕ) (s : State) : Type 0 where
  pub skips : SkipsQuietRounds c n s
  pub pass : (b : Histories) → IsIntermediateBook c s (pass_steps n c s) b → IsIntermediateBook c s (rounds_steps (suc n) c s) b
  pub last : (b : Histories) → IsIntermediateBook c (repeat n (ticks c) s) (round_steps c (repeat n (ticks c) s)) b → IsIntermediateBook c s (rounds_steps (suc n) c s) b
