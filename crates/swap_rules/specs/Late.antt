-- Lateness, as a test of one finished book (Herlihy 2018, section 4.2): the height from which an
-- action was to be done within delta, and the calls that do it.
use Rattle.std.specs.Prelude.{ℕ, ◌+◌, max, Bool, true, false, not, ◌&&◌, ◌||◌, ◌==◌, nat_lt, nat_le, List, Option, Some, None, is_some, if◌then◌else◌}
use Rattle.std.specs.List.{list_any}
use Rattle.swap_base.specs.Lists.{greatest}
use Rattle.swap_digraph.specs.Graph.{leaving, entering, is_listed}
use Rattle.swap_digraph.specs.declared.deal.Mode.{Mode}
use Rattle.swap_digraph.specs.declared.deal.Mode.TheVariants.{Timelocks, Hashkeys}
use Rattle.swap_digraph.specs.declared.deal.Deal.{Deal}
use Rattle.swap_digraph.specs.Deal.{locks, leads}
use Rattle.hashkey_path.specs.declared.hashkey.Hashkey.{Hashkey}
use Rattle.hashkey_path.specs.Hashkey.{same_key}
use Rattle.ledger_core.specs.declared.entry.Call.{Call}
use Rattle.ledger_core.specs.declared.entry.Call.TheVariants.{Publish, Unlock, Claim, Refund}
use Rattle.ledger_core.specs.declared.entry.Entry.{Entry}
use Rattle.ledger_core.specs.History.{height, accepted, published, Opening, opened}
use Rattle.ledger_core.specs.Book.{Histories, history}
use Rattle.swap_rules.specs.declared.finding.Rule.{Rule}
use Rattle.swap_rules.specs.declared.finding.Rule.TheVariants.{Publish as ToPublish, Unlock as ToUnlock, Claim as ToClaim, Refund as ToRefund}
use Rattle.swap_rules.specs.Party.{is_correct, is_ready, ready_height, is_triggered, least_expiry, leads_one, pick_call, first_key, first_seen_key}
use Rattle.swap_rules.specs.Party.{opens_without_party}
use Rattle.swap_rules.specs.Conduct.{is_first_key, extends}

-- the height at which a lock was opened, or 0 if it wasn't
abbrev pub height_of_opening : Option Opening → ℕ
height_of_opening None = 0
height_of_opening (Some o) = o.height

-- the call is an unlock with that hashkey
abbrev pub is_carried : Option Hashkey → Option Call → Bool
is_carried (Some inner) (Some (Unlock key)) = same_key inner key
is_carried _ _ = false

-- whether an entry was accepted with the used hashkey of v for lock i: one that v's first unlock
-- call extends, or else the one that v would extend; whether v stands on its path is a question of
-- conduct, and isn't asked here
abbrev pub is_used : Deal → Histories → ℕ → ℕ → Option Hashkey → Entry → Bool
is_used d b v i (Some key) e = extends v key (accepted e)
is_used d b v i None e = is_carried (first_seen_key d b v i) (accepted e)

-- the number where the test holds, else 0
abbrev pub height_if : Bool → ℕ → ℕ
height_if test n = if test then n else 0

-- the greatest height of an entry, of the arcs that leave v, that passes the test
abbrev pub greatest_used : Deal → Histories → ℕ → (Entry → Bool) → ℕ
greatest_used d b v test = greatest (λ a. greatest (λ e. height_if (test e) e.height) (history b a)) (leaving d.graph v)

-- the base height: the greatest height at which the used hashkey was accepted on an arc that leaves
-- v; with timelocks, the greatest height at which lock i was opened there
abbrev pub unlock_base : Mode → Deal → Histories → ℕ → ℕ → Option Hashkey → ℕ
unlock_base Timelocks d b v i key = greatest (λ a. height_of_opening (opened (history b a) i)) (leaving d.graph v)
unlock_base Hashkeys d b v i key = greatest_used d b v (is_used d b v i key)

-- the height of the last opened lock
abbrev pub trigger_height : Deal → List Entry → ℕ
trigger_height d h = greatest (λ i. height_of_opening (opened h i)) (locks d)

-- the number, where the test holds
abbrev pub when : Bool → ℕ → Option ℕ
when test n = if test then Some n else None

-- the height from which the rule's action of v on arc a is to be done within delta, where it is
-- enabled
unfoldable pub reference_height : Deal → Histories → ℕ → Rule → ℕ → Option ℕ
reference_height d b v ToPublish a = when (is_listed a (leaving d.graph v) && (leads_one d v || is_ready d b v)) (if leads_one d v then 0 else ready_height d b v)
reference_height d b v (ToUnlock i) a =
    when (is_listed a (entering d.graph v) && is_ready d b v
    && (leads d v i || is_some (first_key b v i) || list_any (λ c. opens_without_party v (opened (history b c) i)) (leaving d.graph v)))
    (if leads d v i then ready_height d b v else max (ready_height d b v) (unlock_base d.mode d b v i (first_key b v i)))
reference_height d b v ToClaim a = when (is_listed a (entering d.graph v) && is_correct d b a && is_triggered d b a) (trigger_height d (history b a))
reference_height d b v ToRefund a =
    when (is_listed a (leaving d.graph v) && is_some (published (history b a)) && not (is_triggered d b a)) (least_expiry d a (history b a))

-- whether a call of v on arc a, made at a height, counts for the rule
unfoldable pub counts : Deal → Histories → ℕ → Rule → ℕ → ℕ → Option Call → Bool
counts d b v ToPublish a at (Some (Publish t)) = true
counts d b v (ToUnlock i) a at (Some (Unlock key)) = (key.lock == i) && is_first_key (first_key b v i) key
counts d b v ToClaim a at (Some Claim) = true
counts d b v ToRefund a at (Some Refund) = nat_lt (least_expiry d a (history b a)) at
counts d b v _ a at _ = false

-- whether a call that counts stands on arc a at a height of at most due
abbrev pub is_done : Deal → Histories → ℕ → Rule → ℕ → ℕ → Bool
is_done d b v rule a due = list_any (λ e. counts d b v rule a e.height (pick_call v e) && nat_le e.height due) (history b a)

-- whether the ledger of arc a stands above the due height, which is delta above ref, and nothing
-- was done by then
abbrev pub is_past_due : Deal → Histories → ℕ → Rule → ℕ → Option ℕ → Bool
is_past_due d b v rule a None = false
is_past_due d b v rule a (Some ref) = nat_lt (ref + d.delta) (height (history b a)) && not (is_done d b v rule a (ref + d.delta))

-- v is late by the rule on arc a
abbrev pub is_late : Deal → Histories → ℕ → Rule → ℕ → Bool
is_late d b v rule a = is_past_due d b v rule a (reference_height d b v rule a)
