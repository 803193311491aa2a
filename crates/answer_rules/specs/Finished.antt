-- When a party is done: nothing that lands makes anything useful to it.
use Rattle.std.specs.Prelude.{ℕ, Bool, ◌&&◌, ◌||◌, nat_lt, is_some, is_none}
use Rattle.std.specs.List.{list_all}
use Rattle.swap_base.specs.Lists.{greatest}
use Rattle.time_bounds.specs.Times as times
use Rattle.swap_digraph.specs.declared.deal.Deal.{Deal}
use Rattle.swap_digraph.specs.Graph.{leaving, entering}
use Rattle.swap_digraph.specs.Deal.{locks}
use Rattle.ledger_core.specs.History.{height, published, settled}
use Rattle.ledger_core.specs.Book.{Histories, history}
use Rattle.swap_rules.specs.Party.{expiry}
use Rattle.swap_rules.specs.Machine.{Knows}

-- the greatest height up to which a lock of arc a can be opened, by the correct terms
abbrev pub greatest_expiry : Deal → ℕ → ℕ
greatest_expiry d a = greatest (expiry d a) (locks d)

-- nothing that helps can begin on arc a: it carries no accepted publish, and its ledger stands
-- above the height by which contracts open, and above each expiry
abbrev pub is_shut : Deal → Histories → ℕ → Bool
is_shut d k a =
    is_none (published (history k a)) && nat_lt (times.opening_deadline d.start d.delta d.bound) (height (history k a))
    && nat_lt (greatest_expiry d a) (height (history k a))

-- arc a is finished: its contract is settled, or can't be entered any more
abbrev pub is_arc_finished : Deal → Histories → ℕ → Bool
is_arc_finished d k a = is_some (settled (history k a)) || is_shut d k a

-- each arc that leaves or enters v is finished
abbrev pub are_finished : Deal → Histories → ℕ → Bool
are_finished d k v = list_all (is_arc_finished d k) (leaving d.graph v) && list_all (is_arc_finished d k) (entering d.graph v)

-- each history goes on as it likes, without calls of v
abbrev pub ContinuesWithoutParty : ℕ → Histories → Histories → Type 0
ContinuesWithoutParty v k h = (a : ℕ) → Knows v (history k a) (history h a)
