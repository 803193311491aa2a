-- What is due for a party (Herlihy 2018, section 4.2), over what it knows: one list of entries per
-- arc.
use Rattle.std.specs.Prelude.{ℕ, Bool, true, false, not, ◌&&◌, ◌||◌, ◌==◌, List, [], ◌∷◌, ◌++◌, Option, Some, None, is_some, is_none, if◌then◌else◌}
use Rattle.std.specs.List.{list_any, flat_map}
use Rattle.swap_base.specs.Lists.{or_else}
use Rattle.swap_digraph.specs.Graph.{leaving, entering}
use Rattle.swap_digraph.specs.declared.deal.Deal.{Deal}
use Rattle.swap_digraph.specs.Deal.{locks, leads}
use Rattle.hashkey_path.specs.declared.hashkey.Hashkey.{Hashkey}
use Rattle.escrow_core.specs.Terms.{stated_terms}
use Rattle.ledger_core.specs.declared.entry.Call.{Call}
use Rattle.ledger_core.specs.declared.entry.Call.TheVariants.{Publish, Unlock, Claim, Refund}
use Rattle.ledger_core.specs.declared.entry.Entry.{Entry}
use Rattle.ledger_core.specs.History.{height, published, settled}
use Rattle.ledger_core.specs.Book.{Histories, history}
use Rattle.swap_rules.specs.Party.{is_ready, is_correct, is_triggered, has_expired, leads_one, pick_call, first_seen_key}
use Rattle.swap_rules.specs.Conduct.{is_publish}

-- What a party signs with: a hashkey of its own for a lock that it leads, and one put before a
-- hashkey that it saw.
pub record Wallet : Type 0 where
  pub first : ℕ → Hashkey
  pub onto : Hashkey → Hashkey

-- A call on an arc.
pub record Action : Type 0 where
  pub arc : ℕ
  pub call : Call

-- the call is an unlock for lock i
abbrev pub unlocks_lock : ℕ → Option Call → Bool
unlocks_lock i (Some (Unlock key)) = key.lock == i
unlocks_lock i _ = false

-- the call is a claim
abbrev pub is_claiming : Option Call → Bool
is_claiming (Some Claim) = true
is_claiming _ = false

-- the call is a refund
abbrev pub is_refunding : Option Call → Bool
is_refunding (Some Refund) = true
is_refunding _ = false

-- whether v has a call that passes the test in the list, whatever the reply
abbrev pub has_called : ℕ → (Option Call → Bool) → List Entry → Bool
has_called v test h = list_any (λ e. test (pick_call v e)) h

-- v, a leader or ready, has no publish entry on arc a
unfoldable pub is_due_publish : Deal → ℕ → Histories → ℕ → Bool
is_due_publish d v k a = (leads_one d v || is_ready d k v) && not (has_called v is_publish (history k a))

-- the hashkey that opened lock i by a path without v, on the least-numbered such arc that leaves v
unfoldable pub seen_key : Deal → ℕ → Histories → ℕ → Option Hashkey
seen_key d v k i = first_seen_key d k v i

-- the extension of the hashkey that was seen
abbrev pub extended : Wallet → Option Hashkey → Option Hashkey
extended w None = None
extended w (Some inner) = Some (w.onto inner)

-- the hashkey for lock i: the one that v signed before, else its own where it leads the lock, else
-- an extension
unfoldable pub due_key : Deal → ℕ → Wallet → Option Hashkey → Histories → ℕ → Option Hashkey
due_key d v w signed k i = or_else signed (if leads d v i then Some (w.first i) else extended w (seen_key d v k i))

-- an unlock on arc a with the hashkey, where there is one
abbrev pub presented : ℕ → Option Hashkey → List Action
presented a None = []
presented a (Some key) = record { arc = a; call = Unlock key } ∷ []

-- v is ready and has no unlock entry for lock i on arc a
abbrev pub may_unlock : Deal → ℕ → Histories → ℕ → ℕ → Bool
may_unlock d v k i a = is_ready d k v && not (has_called v (unlocks_lock i) (history k a))

-- the unlock for lock i that is due on arc a, if any
unfoldable pub due_arc_unlock : Deal → ℕ → Wallet → Option Hashkey → Histories → ℕ → ℕ → List Action
due_arc_unlock d v w signed k i a = if may_unlock d v k i a then presented a (due_key d v w signed k i) else []

-- arc a is correct and triggered, and v has no claim entry there
unfoldable pub is_due_claim : Deal → ℕ → Histories → ℕ → Bool
is_due_claim d v k a = is_correct d k a && is_triggered d k a && not (has_called v is_claiming (history k a))

-- arc a carries an accepted publish, is neither settled nor triggered, is above the expiry of a
-- closed lock, and v has no refund entry there
unfoldable pub is_due_refund : Deal → ℕ → Histories → ℕ → Bool
is_due_refund d v k a =
    is_some (published (history k a)) && is_none (settled (history k a)) && not (is_triggered d k a)
    && has_expired d a (history k a) (height (history k a)) && not (has_called v is_refunding (history k a))

-- the call on arc a, where the test holds
abbrev pub when_due : Bool → ℕ → Call → List Action
when_due test a c = if test then record { arc = a; call = c } ∷ [] else []

-- the due publishes, by leaving arc
abbrev pub due_publishes : Deal → ℕ → Histories → List Action
due_publishes d v k = flat_map (λ a. when_due (is_due_publish d v k a) a (Publish (stated_terms d a))) (leaving d.graph v)

-- the due unlocks, by lock and entering arc
abbrev pub due_unlocks : Deal → ℕ → Wallet → (ℕ → Option Hashkey) → Histories → List Action
due_unlocks d v w signed k = flat_map (λ i. flat_map (due_arc_unlock d v w (signed i) k i) (entering d.graph v)) (locks d)

-- the due claims, by entering arc
abbrev pub due_claims : Deal → ℕ → Histories → List Action
due_claims d v k = flat_map (λ a. when_due (is_due_claim d v k a) a Claim) (entering d.graph v)

-- the due refunds, by leaving arc
abbrev pub due_refunds : Deal → ℕ → Histories → List Action
due_refunds d v k = flat_map (λ a. when_due (is_due_refund d v k a) a Refund) (leaving d.graph v)

-- the first of a list, if any
abbrev pub first : {A : Type 0} → List A → Option A
first [] = None
first (x ∷ xs) = Some x

-- all that is due for v, in its order, where signed gives the hashkey that v signed for each lock
unfoldable pub due : Deal → ℕ → Wallet → (ℕ → Option Hashkey) → Histories → List Action
due d v w signed k = due_publishes d v k ++ due_unlocks d v w signed k ++ due_claims d v k ++ due_refunds d v k
