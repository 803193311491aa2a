-- The heights that terms tell of an arc.
use Rattle.std.specs.Prelude.{ℕ, ◌+◌, ◌==◌, ◌||◌, Bool, true, false, if◌then◌else◌}
use Rattle.time_bounds.specs.Times as times
use Rattle.swap_base.specs.Lists.{greatest}
use Rattle.swap_digraph.specs.declared.deal.Deal.{Deal}
use Rattle.swap_digraph.specs.Deal.{counterparty, party}
use Rattle.swap_digraph.specs.Graph.{arcs}
use Rattle.swap_rules.specs.Party.{leads_one}
use Rattle.answer_rules.specs.Finished.{greatest_expiry}

abbrev pub publish_height : (leads : Bool) → Deal → ℕ
publish_height true d = d.delta
publish_height false d = times.opening_deadline d.start d.delta d.bound

-- The last height at which a publish of v is on time: delta for a leader, who publishes at once. A
-- follower publishes within delta of being ready, and in no case above the height by which
-- contracts open.
abbrev pub publish_deadline : Deal → ℕ → ℕ
publish_deadline d v = publish_height (leads_one d v) d

-- the height from which what is locked on arc a is refunded, whichever of its locks stay closed
abbrev pub refund_height : Deal → ℕ → ℕ
refund_height d a = greatest_expiry d a + 1

-- the last height at which a lock of arc a can be opened
unfoldable pub last_opening : Deal → ℕ → ℕ
last_opening d a = greatest_expiry d a

-- The last height by which what was opened on arc a is claimed on time. Its locks are opened up to
-- its greatest expiry, and a claim is on time up to delta above the last opening.
unfoldable pub claim_deadline : Deal → ℕ → ℕ
claim_deadline d a = greatest_expiry d a + d.delta

-- The last height at which every arc takes a leader's own hashkey: a leader that waits longer keeps
-- it to itself.
abbrev pub show_deadline : Deal → ℕ
show_deadline d = times.own_expiry d.start d.delta d.bound

abbrev pub is_next_to : Deal → ℕ → ℕ → Bool
is_next_to d v a = (party d a == v) || (counterparty d a == v)

abbrev pub busy_until : Deal → ℕ → ℕ → ℕ
busy_until d v a = if is_next_to d v a then claim_deadline d a else 0

-- the height up to which the wallet of v has something to do: the greatest by which it claims, or
-- takes back, on an arc that leaves or enters v
unfoldable pub awake_height : Deal → ℕ → ℕ
awake_height d v = greatest (busy_until d v) (arcs d.graph)
