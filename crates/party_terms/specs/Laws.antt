-- The laws of the heights that terms tell.
use Rattle.std.specs.Prelude.{◌≡◌, ◌≤◌, ◌<◌, ◌+◌, ◌⊎◌, ℕ, true, false, List, Some, length}
use Rattle.time_bounds.specs.Times as times
use Rattle.swap_base.specs.Lists.{IsElement}
use Rattle.swap_digraph.specs.declared.deal.Deal.{Deal}
use Rattle.swap_digraph.specs.Deal.{counterparty, lock_hashlock, locks, party}
use Rattle.swap_digraph.specs.Graph.{leaving}
use Rattle.hashkey_path.specs.declared.hashkey.Hashkey.{Hashkey}
use Rattle.hashkey_path.specs.Hashkey.{is_valid}
use Rattle.escrow_core.specs.Terms.{last_unlock, stated_terms}
use Rattle.ledger_core.specs.declared.entry.Call.TheVariants.{Publish}
use Rattle.ledger_core.specs.declared.entry.Entry.{Entry}
use Rattle.ledger_core.specs.History.{triggered}
use Rattle.ledger_core.specs.Book.{Histories}
use Rattle.swap_rules.specs.declared.finding.Rule.TheVariants.{Publish as ToPublish}
use Rattle.swap_rules.specs.Party.{expiry, has_expired, leads_one}
use Rattle.swap_rules.specs.Due.{Action, is_due_publish}
use Rattle.swap_rules.specs.Late.{reference_height}
use Rattle.swap_rules.specs.Useful.{useful_publishes}
use Rattle.swap_rules.specs.Accepted.{IsAccepted}
use Rattle.party_terms.specs.Times.{awake_height, claim_deadline, last_opening, publish_deadline, refund_height, show_deadline}

-- A leader's publish is on time up to the height that terms tell: delta above the one from which
-- its rule asks for it.
abbrev pub LeadersAreOnTime : Type 0
LeadersAreOnTime =
    (d : Deal) (k : Histories) (v a from : ℕ) → leads_one d v ≡ true → reference_height d k v ToPublish a ≡ Some from → publish_deadline d v ≡ from + d.delta

-- Where a follower's publish is useful, it lands at no height above the one that terms tell.
abbrev pub FollowersPublishBelow : Type 0
FollowersPublishBelow =
    (d : Deal) (v : ℕ) (at : ℕ → ℕ) (k : Histories) (x : Action) → leads_one d v ≡ false → IsElement x (useful_publishes d v at k)
    → at x.arc ≤ publish_deadline d v

-- Up to that height a follower's publish that is due is useful: terms tell no greater one.
abbrev pub FollowersPublishUpTo : Type 0
FollowersPublishUpTo =
    (d : Deal) (v : ℕ) (at : ℕ → ℕ) (k : Histories) (a : ℕ) → leads_one d v ≡ false → IsElement a (leaving d.graph v) → is_due_publish d v k a ≡ true
    → at a ≤ publish_deadline d v → IsElement (record { arc = a; call = Publish (stated_terms d a) }) (useful_publishes d v at k)

-- From the height that terms tell on, an arc has expired unless all its locks are opened.
abbrev pub RefundsAreOpen : Type 0
RefundsAreOpen = (d : Deal) (a : ℕ) (h : List Entry) (at : ℕ) → triggered d h ≡ false → refund_height d a ≤ at → has_expired d a h at ≡ true

-- Below that height one of the arc's locks can still be opened: terms tell no greater one.
abbrev pub RefundsOpenNoEarlier : Type 0
RefundsOpenNoEarlier = (d : Deal) (a at : ℕ) → 0 < at → at < refund_height d a → (i : ℕ) × IsElement i (locks d) × (at ≤ expiry d a i)

-- No good hashkey opens a lock of an arc above the height that terms tell.
abbrev pub OpeningsEndByThen : Type 0
OpeningsEndByThen =
    (d : Deal) (a : ℕ) (key : Hashkey) → IsAccepted d → a < length d.graph.arcs → key.lock < length d.leaders → is_valid d a (lock_hashlock d key.lock) key ≡ true
    → last_unlock d.mode (stated_terms d a) key ≤ last_opening d a

-- Up to the height that terms tell a leader, every arc's contract takes its hashkey in time.
abbrev pub LeadersAreTaken : Type 0
LeadersAreTaken =
    (d : Deal) (a : ℕ) (key : Hashkey) → IsAccepted d → a < length d.graph.arcs → show_deadline d ≤ last_unlock d.mode (stated_terms d a) key

-- A wallet that is awake as long as terms tell can claim, and take back, on each arc next to it in
-- time.
abbrev pub AwakeIsLongEnough : Type 0
AwakeIsLongEnough =
    (d : Deal) (v a : ℕ) → a < length d.graph.arcs → (party d a ≡ v) ⊎ (counterparty d a ≡ v) → claim_deadline d a ≤ awake_height d v

-- Terms ask for no height above the horizon.
abbrev pub AwakeEndsWithTheDeal : Type 0
AwakeEndsWithTheDeal = (d : Deal) (v : ℕ) → IsAccepted d → awake_height d v ≤ times.horizon d.start d.delta d.bound
