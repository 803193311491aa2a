-- What a party reads in a book, or in what it knows of one: one list of entries per arc.
use Rattle.std.specs.Prelude.{ℕ, Bool, false, not, ◌&&◌, ◌==◌, nat_lt, nat_le, List, Option, Some, None, if◌then◌else◌}
use Rattle.std.specs.List.{list_any, list_all, flat_map}
use Rattle.swap_base.specs.Lists.{first_given_answer, greatest}
use Rattle.time_bounds.specs.Times as times
use Rattle.swap_digraph.specs.Graph.{leaving, entering, is_listed}
use Rattle.swap_digraph.specs.declared.deal.Deal.{Deal}
use Rattle.swap_digraph.specs.Deal.{locks}
use Rattle.hashkey_path.specs.declared.hashkey.Hashkey.{Hashkey}
use Rattle.escrow_core.specs.Terms.{stated_terms, same_terms, lock_expiry, refund_expiry}
use Rattle.ledger_core.specs.declared.entry.Call.{Call}
use Rattle.ledger_core.specs.declared.entry.Call.TheVariants.{Unlock}
use Rattle.ledger_core.specs.declared.entry.Entry.{Entry}
use Rattle.ledger_core.specs.History.{Publication, published, Opening, opened, is_open, triggered, is_sender, made_call}
use Rattle.ledger_core.specs.Book.{Histories, history}

-- whether an accepted publish has the correct terms of arc a
abbrev pub is_arc_correct : Deal → ℕ → Option Publication → Bool
is_arc_correct d a None = false
is_arc_correct d a (Some p) = same_terms p.terms (stated_terms d a)

-- arc a is correct: its accepted publish has the correct terms
abbrev pub is_correct : Deal → Histories → ℕ → Bool
is_correct d b a = is_arc_correct d a (published (history b a))

-- the height of a publish, 0 where there is none
abbrev pub publication_height : Option Publication → ℕ
publication_height None = 0
publication_height (Some p) = p.height

-- arc a is good: correct, and published at most at the height by which contracts open
abbrev pub is_good : Deal → Histories → ℕ → Bool
is_good d b a = is_correct d b a && nat_le (publication_height (published (history b a))) (times.opening_deadline d.start d.delta d.bound)

-- v is ready: every arc that enters it is good
unfoldable pub is_ready : Deal → Histories → ℕ → Bool
is_ready d b v = list_all (is_good d b) (entering d.graph v)

-- the greatest publish height of the arcs that enter v
unfoldable pub ready_height : Deal → Histories → ℕ → ℕ
ready_height d b v = greatest (λ a. publication_height (published (history b a))) (entering d.graph v)

-- arc a is triggered: every lock is opened
abbrev pub is_triggered : Deal → Histories → ℕ → Bool
is_triggered d b a = triggered d (history b a)

-- the height above which lock i is expired on arc a, by the correct terms
abbrev pub expiry : Deal → ℕ → ℕ → ℕ
expiry d a i = lock_expiry d.mode d a (stated_terms d a) i

-- the least expiry of the locks that aren't opened after these entries of arc a
abbrev pub least_expiry : Deal → ℕ → List Entry → ℕ
least_expiry d a h = refund_expiry d a (stated_terms d a) (is_open h)

-- whether a height is above the expiry of a lock that isn't opened after these entries of arc a
abbrev pub has_expired : Deal → ℕ → List Entry → ℕ → Bool
has_expired d a h at = list_any (λ i. not (is_open h i) && nat_lt (expiry d a i) at) (locks d)

-- v is a leader
abbrev pub leads_one : Deal → ℕ → Bool
leads_one d v = is_listed v d.leaders

-- the call of v that an entry is, whatever its reply
abbrev pub pick_call : ℕ → Entry → Option Call
pick_call v e = if is_sender v e.sender then made_call e.what else None

-- the hashkey of an unlock call for lock i
abbrev pub unlock_hashkey : ℕ → Option Call → Option Hashkey
unlock_hashkey i (Some (Unlock key)) = if key.lock == i then Some key else None
unlock_hashkey i _ = None

-- the hashkey of v's first unlock call for lock i, in order of arc and entry
unfoldable pub first_key : Histories → ℕ → ℕ → Option Hashkey
first_key b v i = first_given_answer (λ e. unlock_hashkey i (pick_call v e)) (flat_map (λ h. h) b)

-- the lock was opened by a path without v
abbrev pub opens_without_party : ℕ → Option Opening → Bool
opens_without_party v None = false
opens_without_party v (Some o) = not (is_listed v o.key.path)

-- the hashkey that opened the lock, where its path lacks v
abbrev pub key_without_party : ℕ → Option Opening → Option Hashkey
key_without_party v None = None
key_without_party v (Some o) = if is_listed v o.key.path then None else Some o.key

-- the hashkey that opened lock i by a path without v, on the least-numbered such arc that leaves v
abbrev pub first_seen_key : Deal → Histories → ℕ → ℕ → Option Hashkey
first_seen_key d b v i = first_given_answer (λ a. key_without_party v (opened (history b a) i)) (leaving d.graph v)
