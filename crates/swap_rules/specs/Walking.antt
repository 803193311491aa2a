-- Walking away: what keeps a party safe whatever it publishes or leaves out, and what a party keeps
-- if it published nothing.
use Rattle.std.specs.Prelude.{◌≡◌, ◌≢◌, ◌==◌, ℕ, Bool, ◌<◌, ◌≤◌, true, false, List, length, Some, None, is_some}
use Rattle.std.specs.List.{list_any}
use Rattle.swap_base.specs.Lists.{IsElement, IsMoment}
use Rattle.time_bounds.specs.Times as times
use Rattle.swap_digraph.specs.Graph.{leaving, entering}
use Rattle.swap_digraph.specs.Deal.{amount, party, counterparty, leads}
use Rattle.swap_digraph.specs.declared.deal.Deal.{Deal}
use Rattle.hashkey_path.specs.declared.hashkey.Hashkey.{Hashkey}
use Rattle.escrow_core.specs.Terms.{stated_terms, last_unlock}
use Rattle.ledger_core.specs.declared.entry.Entry.{Entry}
use Rattle.ledger_core.specs.declared.entry.Call.TheVariants.{Unlock, Refund, Transfer}
use Rattle.ledger_core.specs.History.{balance, published, Publication, opened}
use Rattle.ledger_core.specs.Book.{Histories, history, IsLegalBook}
use Rattle.swap_rules.specs.declared.finding.Rule.TheVariants.{Publish as ToPublish, Unlock as ToUnlock, Claim as ToClaim, Refund as ToRefund}
use Rattle.swap_rules.specs.declared.finding.Finding.{Finding}
use Rattle.swap_rules.specs.declared.finding.Finding.TheVariants.{Broke, Late, Forged, Unfinished}
use Rattle.swap_rules.specs.Findings.{findings}
use Rattle.swap_rules.specs.declared.outcome.Outcome.TheVariants.{NoDeal, Underwater}
use Rattle.swap_rules.specs.Accepted.{IsAccepted}
use Rattle.swap_rules.specs.Party.{is_correct, is_ready, is_triggered, pick_call, first_key}
use Rattle.swap_rules.specs.Conduct.{IsConducted}
use Rattle.swap_rules.specs.Late.{reference_height}
use Rattle.swap_rules.specs.Due.{is_claiming, has_called}
use Rattle.swap_rules.specs.Outcome.{lost, outcome, EnteringHaveEnded, LeavingHaveEnded}
use Rattle.swap_rules.specs.Laws.{IsOnTime, IsUnforged, IsSafe, HasRefunds, names_party}

-- What a party has to see to.

-- An unlock call of v for lock i on arc a, at a height at which its hashkey is still accepted.
pub record UnlocksArc (d : Deal) (b : Histories) (v i a : ℕ) : Type 0 where
  pub past : List Entry
  pub now : Entry
  pub key : Hashkey
  pub stands : IsMoment (history b a) past now
  pub called : pick_call v now ≡ Some (Unlock key)
  pub lock : key.lock ≡ i
  pub in_time : now.height ≤ last_unlock d.mode (stated_terms d a) key

-- v makes each unlock that is enabled, while its hashkey is accepted
abbrev pub UnlocksAll : Deal → Histories → ℕ → Type 0
UnlocksAll d b v = (i a ref : ℕ) → i < length d.leaders → reference_height d b v (ToUnlock i) a ≡ Some ref → UnlocksArc d b v i a

-- on each correct and triggered arc that enters v stands a claim call of v, at whatever height
abbrev pub ClaimsAll : Deal → Histories → ℕ → Type 0
ClaimsAll d b v =
    (a : ℕ) → IsElement a (entering d.graph v) → is_correct d b a ≡ true → is_triggered d b a ≡ true → has_called v is_claiming (history b a) ≡ true

-- A refund call of v on arc a that comes after the arc's accepted publish, at whatever height.
pub record AsksBack (b : Histories) (v a : ℕ) : Type 0 where
  pub past : List Entry
  pub now : Entry
  pub stands : IsMoment (history b a) past now
  pub called : pick_call v now ≡ Some Refund
  pub after : is_some (published past) ≡ true

-- v asks back what it published on each arc that wasn't triggered
abbrev pub AsksAllBack : Deal → Histories → ℕ → Type 0
AsksAllBack d b v =
    (a : ℕ) → IsElement a (leaving d.graph v) → is_some (published (history b a)) ≡ true → is_triggered d b a ≡ false → AsksBack b v a

-- an arc that leaves v is triggered
abbrev pub HasLost : Deal → Histories → ℕ → Type 0
HasLost d b v = list_any (is_triggered d b) (leaving d.graph v) ≡ true

-- A watchful party: where an arc that leaves it is triggered it makes each enabled unlock while its
-- hashkey is accepted, and claims; and it asks back what it published and wasn't triggered. Nothing
-- is asked of when or whether it publishes, of when it claims or asks back, nor of any unlock as
-- long as no arc that leaves it is triggered.
pub record IsWatchful (d : Deal) (b : Histories) (v : ℕ) : Type 0 where
  pub unlocks : HasLost d b v → UnlocksAll d b v
  pub claims : HasLost d b v → ClaimsAll d b v
  pub refunds : AsksAllBack d b v

-- in every legal book of an accepted deal a party that is conducted and watchful is safe, whatever
-- it publishes or leaves out
abbrev pub WatchfulIsSafe : Type 0
WatchfulIsSafe = (d : Deal) (b : Histories) (v : ℕ) → IsAccepted d → IsLegalBook d b → IsConducted d b v → IsWatchful d b v → IsSafe d b v

-- in a legal book of an accepted deal a conducted party that is nowhere late is watchful, if the
-- ledgers next to it have ended; the others may stand still
abbrev pub OnTimeIsWatchful : Type 0
OnTimeIsWatchful =
    (d : Deal) (b : Histories) (v : ℕ) → IsAccepted d → IsLegalBook d b → EnteringHaveEnded d b v → LeavingHaveEnded d b v → IsConducted d b v
    → IsOnTime d b v → IsWatchful d b v

-- the finding says that v broke a rule of conduct or was late with an unlock or a claim, or that a
-- ledger that enters v is unfinished
abbrev pub endangers : Deal → ℕ → Finding → Bool
endangers d v (Broke u a e) = u == v
endangers d v (Late u ToPublish a due) = false
endangers d v (Late u (ToUnlock i) a due) = u == v
endangers d v (Late u ToClaim a due) = u == v
endangers d v (Late u ToRefund a due) = false
endangers d v (Forged u a e) = false
endangers d v (Unfinished a h) = counterparty d a == v

-- of a legal book of an accepted deal: a conforming party that no finding endangers, and in whose
-- name none stands, isn't underwater, however late it published, if it did
abbrev pub LatePublishIsSafe : Type 0
LatePublishIsSafe =
    (d : Deal) (conforming : ℕ → Bool) (b : Histories) (v : ℕ) → IsAccepted d → IsLegalBook d b → v < d.graph.n → conforming v ≡ true
    → list_any (endangers d v) (findings d conforming b) ≡ false → list_any (names_party d v) (findings d conforming b) ≡ false
    → outcome d b v ≢ Underwater

-- the finding says that v broke a rule of conduct or was late with a publish or a refund, or that a
-- ledger that leaves v is unfinished
abbrev pub strands : Deal → ℕ → Finding → Bool
strands d v (Broke u a e) = u == v
strands d v (Late u ToPublish a due) = u == v
strands d v (Late u (ToUnlock i) a due) = false
strands d v (Late u ToClaim a due) = false
strands d v (Late u ToRefund a due) = u == v
strands d v (Forged u a e) = false
strands d v (Unfinished a h) = party d a == v

-- of a legal book of an accepted deal: a conforming party that no finding strands has its refunds,
-- however late it unlocked or claimed
abbrev pub LateUnlockHasRefunds : Type 0
LateUnlockHasRefunds =
    (d : Deal) (conforming : ℕ → Bool) (b : Histories) (v : ℕ) → IsAccepted d → IsLegalBook d b → v < d.graph.n → conforming v ≡ true
    → list_any (strands d v) (findings d conforming b) ≡ false → HasRefunds d b v

-- v asks back on an arc that leaves it only after an accepted publish there
abbrev pub AsksAfterPublish : Deal → Histories → ℕ → Type 0
AsksAfterPublish d b v =
    (a : ℕ) (past : List Entry) (e : Entry) → IsElement a (leaving d.graph v) → IsMoment (history b a) past e → pick_call v e ≡ Some Refund
    → is_some (published past) ≡ true

-- the finding says that v broke a rule of conduct or was late with a refund, or that a ledger that
-- leaves v is unfinished
abbrev pub detains : Deal → ℕ → Finding → Bool
detains d v (Broke u a e) = u == v
detains d v (Late u ToPublish a due) = false
detains d v (Late u (ToUnlock i) a due) = false
detains d v (Late u ToClaim a due) = false
detains d v (Late u ToRefund a due) = u == v
detains d v (Forged u a e) = false
detains d v (Unfinished a h) = party d a == v

-- of a legal book of an accepted deal: a conforming party that asks back only after its publishes,
-- and that no finding detains, has its refunds, however late it published
abbrev pub LateAskerHasRefunds : Type 0
LateAskerHasRefunds =
    (d : Deal) (conforming : ℕ → Bool) (b : Histories) (v : ℕ) → IsAccepted d → IsLegalBook d b → v < d.graph.n → conforming v ≡ true
    → AsksAfterPublish d b v → list_any (detains d v) (findings d conforming b) ≡ false → HasRefunds d b v

-- Before a party has published.

-- no accepted publish stands on an arc that leaves v
abbrev pub HasPublishedNothing : Deal → Histories → ℕ → Type 0
HasPublishedNothing d b v = (a : ℕ) → IsElement a (leaving d.graph v) → published (history b a) ≡ None

-- v transfers nothing on an arc that leaves it
abbrev pub GivesNothing : Deal → Histories → ℕ → Type 0
GivesNothing d b v =
    (a : ℕ) (past : List Entry) (e : Entry) (to units : ℕ) → IsElement a (leaving d.graph v) → IsMoment (history b a) past e
    → pick_call v e ≡ Some (Transfer to units) → ⊥

-- v makes no call at all
abbrev pub IsSilent : Histories → ℕ → Type 0
IsSilent b v = (a : ℕ) (past : List Entry) (e : Entry) → IsMoment (history b a) past e → pick_call v e ≡ None

-- Nothing is lost: no arc that leaves v is triggered, v isn't underwater, and it has the whole
-- amount of each arc that leaves it.
pub record LosesNothing (d : Deal) (b : Histories) (v : ℕ) : Type 0 where
  pub none : lost d b v ≡ 0
  pub safe : outcome d b v ≢ Underwater
  pub keeps : (a : ℕ) → IsElement a (leaving d.graph v) → balance d a (history b a) v ≡ amount d a

-- In every legal book of an accepted deal, ended or not, a party that has published and transferred
-- nothing has lost nothing. It may have done anything else, and so may the others, forgery
-- included.
abbrev pub UnpublishedLosesNothing : Type 0
UnpublishedLosesNothing =
    (d : Deal) (b : Histories) (v : ℕ) → IsAccepted d → IsLegalBook d b → HasPublishedNothing d b v → GivesNothing d b v → LosesNothing d b v

-- In every legal book of an accepted deal, a party that makes no call loses nothing and is left
-- with no deal.
abbrev pub SilentLosesNothing : Type 0
SilentLosesNothing =
    (d : Deal) (b : Histories) (v : ℕ) → IsAccepted d → IsLegalBook d b → IsSilent b v → LosesNothing d b v × (outcome d b v ≡ NoDeal)

-- Before a leader has revealed its secret.

-- v leads a lock for which it has presented no hashkey.
pub record IsUnrevealed (d : Deal) (b : Histories) (v : ℕ) : Type 0 where
  pub lock : ℕ
  pub below : lock < length d.leaders
  pub own : leads d v lock ≡ true
  pub none : first_key b v lock ≡ None

-- In every legal book of an accepted deal, ended or not, a conducted leader that has presented no
-- hashkey for a lock of its own has lost nothing, unless it was forged. It has its refunds where it
-- asked back what it published.
abbrev pub UnrevealedLosesNothing : Type 0
UnrevealedLosesNothing =
    (d : Deal) (b : Histories) (v : ℕ) → IsAccepted d → IsLegalBook d b → IsConducted d b v → IsUnforged d b v → IsUnrevealed d b v
    → (lost d b v ≡ 0) × (outcome d b v ≢ Underwater) × (AsksAllBack d b v → HasRefunds d b v)

-- A publish that comes too late.

-- an arc that was published above the height by which contracts open leaves its counterparty
-- unready for good, and a conducted counterparty opens no lock of it
abbrev pub LatePublishIsIdle : Type 0
LatePublishIsIdle =
    (d : Deal) (b : Histories) (a : ℕ) (p : Publication) → IsLegalBook d b → a < length d.graph.arcs → published (history b a) ≡ Some p
    → times.opening_deadline d.start d.delta d.bound < p.height
    → (is_ready d b (counterparty d a) ≡ false) × (IsConducted d b (counterparty d a) → (i : ℕ) → opened (history b a) i ≡ None)
