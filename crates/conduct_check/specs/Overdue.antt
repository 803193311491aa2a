-- From which height an action is due, which calls do it, and whether it is overdue.
use Rattle.std.specs.Prelude.{◌≡◌, ℕ, ◌+◌, max, Bool, true, false, not, ◌&&◌, ◌||◌, ◌==◌, nat_lt, nat_le, List, Option, Some, None, is_some}
use Rattle.std.specs.Prelude.{option_copied, if◌then◌else◌}
use Rattle.std.specs.List.{list_any, flat_map}
use Rattle.swap_base.specs.Lists.{greatest}
use Rattle.swap_digraph.specs.Graph.{arcs, leaving}
use Rattle.swap_digraph.specs.Deal.{leads}
use Rattle.swap_digraph.specs.declared.deal.Deal.{Deal}
use Rattle.hashkey_path.specs.declared.hashkey.Hashkey.{Hashkey}
use Rattle.ledger_core.specs.declared.entry.Call.{Call}
use Rattle.ledger_core.specs.declared.entry.Call.TheVariants.{Publish, Unlock, Claim, Refund}
use Rattle.ledger_core.specs.declared.entry.Entry.{Entry}
use Rattle.ledger_core.specs.History.{height, accepted, opened, published}
use Rattle.ledger_core.specs.Book.{Histories, history}
use Rattle.swap_rules.specs.declared.finding.Rule.{Rule}
use Rattle.swap_rules.specs.declared.finding.Finding.{Finding}
use Rattle.swap_rules.specs.Party.{pick_call, first_key, is_correct, is_ready, is_triggered, least_expiry, leads_one, ready_height, opens_without_party}
use Rattle.swap_rules.specs.Conduct.{extends, is_first_key}
use Rattle.swap_rules.specs.Late.{unlock_base, counts, height_if, is_carried, reference_height, trigger_height, when}
use Rattle.swap_rules.specs.Findings.{arc_late_findings}
use Rattle.conduct_check.specs.declared.counting.Counted.{Counted}
use Rattle.conduct_check.specs.declared.counting.Counted.TheVariants as counted

-- the height from which v is to publish on the arcs that leave it
abbrev pub publish_start : Deal → Histories → ℕ → Option ℕ
publish_start d b v = when (leads_one d v || is_ready d b v) (if leads_one d v then 0 else ready_height d b v)

-- the height from which v is to unlock lock i on the arcs that enter it
abbrev pub unlock_start : Deal → Histories → ℕ → ℕ → Option ℕ
unlock_start d b v i =
    when (is_ready d b v && (leads d v i || is_some (first_key b v i) || list_any (λ c. opens_without_party v (opened (history b c) i)) (leaving d.graph v)))
    (if leads d v i then ready_height d b v else max (ready_height d b v) (unlock_base d.mode d b v i (first_key b v i)))

-- the height from which the counterparty is to claim on arc a
abbrev pub claim_start : Deal → Histories → ℕ → Option ℕ
claim_start d b a = when (is_correct d b a && is_triggered d b a) (trigger_height d (history b a))

-- the height from which the party is to refund on arc a
abbrev pub refund_start : Deal → Histories → ℕ → Option ℕ
refund_start d b a = when (is_some (published (history b a)) && not (is_triggered d b a)) (least_expiry d a (history b a))

-- whether a call made at a height counts
abbrev pub is_counted_call : Counted → ℕ → Option Call → Bool
is_counted_call counted.Publish at (Some (Publish t)) = true
is_counted_call (counted.Unlock i first) at (Some (Unlock key)) = (key.lock == i) && is_first_key (option_copied first) key
is_counted_call counted.Claim at (Some Claim) = true
is_counted_call (counted.Refund least) at (Some Refund) = nat_lt least at
is_counted_call _ at _ = false

-- whether the entry is a call of v that counts, at a height of at most due
unfoldable pub counts_entry : Counted → ℕ → ℕ → Entry → Bool
counts_entry c v due e = is_counted_call c e.height (pick_call v e) && nat_le e.height due

-- whether v made a call that counts at a height of at most due
abbrev pub has_counted_call : Counted → ℕ → ℕ → List Entry → Bool
has_counted_call c v due h = list_any (counts_entry c v due) h

-- the entry was accepted with the hashkey that v's first one extends, or else with the one that was
-- seen
abbrev pub is_used_with_key : ℕ → Option Hashkey → Option Hashkey → Entry → Bool
is_used_with_key v (Some key) seen e = extends v key (accepted e)
is_used_with_key v None seen e = is_carried seen (accepted e)

-- the greatest height at which an entry was accepted with that hashkey
unfoldable pub greatest_index_use : ℕ → Option Hashkey → Option Hashkey → List Entry → ℕ
greatest_index_use v first seen h = greatest (λ e. height_if (is_used_with_key v first seen e) e.height) h

-- the height by which an action was due, if the test says that it is late
abbrev pub due_if : Bool → ℕ → Option ℕ → Option ℕ
due_if late delta None = None
due_if late delta (Some from) = if late then Some (from + delta) else None

-- whether the ledger stands above the due height, which is delta above from, and nothing that
-- counts was done by then
abbrev pub is_overdue : ℕ → Counted → ℕ → Option ℕ → List Entry → Bool
is_overdue delta c v None h = false
is_overdue delta c v (Some from) h = nat_lt (from + delta) (height h) && not (has_counted_call c v (from + delta) h)

-- the height by which the action of v was due, if it wasn't done by then
abbrev pub overdue : ℕ → Counted → ℕ → Option ℕ → List Entry → Option ℕ
overdue delta c v from h = due_if (is_overdue delta c v from h) delta from

-- The rule's action of v on arc a is to be done from that height on, and these calls count for it.
pub record IsAsked (d : Deal) (b : Histories) (v : ℕ) (rule : Rule) (a : ℕ) (from : Option ℕ) (c : Counted) : Type 0 where
  pub height : from ≡ reference_height d b v rule a
  pub calls : (at : ℕ) (o : Option Call) → is_counted_call c at o ≡ counts d b v rule a at o

-- where v is late by the rule, by arc
abbrev pub rule_late_findings : Deal → Histories → ℕ → Rule → List Finding
rule_late_findings d b v rule = flat_map (arc_late_findings d b v rule) (arcs d.graph)
