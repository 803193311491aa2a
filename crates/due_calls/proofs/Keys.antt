-- Where the hashkey comes from that is due for a lock.
use Rattle.std.proofs.Common.{◌≡◌, ℕ, Bool, true, false, cond, not, List, [], ◌∷◌, Option, Some, None, is_some, option_map, refl, ap}
use Rattle.std.specs.List.{find}
use Rattle.swap_base.specs.Lists.{or_else, first_given_answer}
use Rattle.swap_digraph.specs.declared.deal.Deal.{Deal}
use Rattle.swap_digraph.specs.Graph.{is_listed, leaving}
use Rattle.swap_digraph.specs.Deal.{leads}
use Rattle.hashkey_path.specs.declared.hashkey.Hashkey.{Hashkey}
use Rattle.ledger_core.specs.History.{Opening, opened}
use Rattle.ledger_core.specs.Book.{Histories, history}
use Rattle.swap_rules.specs.Party.{opens_without_party, key_without_party, first_seen_key}
use Rattle.swap_rules.specs.Due.{Wallet, due_key, seen_key, extended}
use Rattle.due_calls.specs.Unlocks.{make_due_key, first_seen_arc}
use Rattle.due_calls.specs.DueUnlock.{due_base}
use Rattle.due_calls.specs.declared.unlock_due.Base.{Base}
use Rattle.due_calls.specs.declared.unlock_due.Base.TheVariants.{Signed, Own, Onto}

-- the hashkey is the one that opened the lock on that arc
abbrev Opens : (ℕ → Option Opening) → Option ℕ → Option Hashkey → Type 0
Opens o None key = key ≡ None
Opens o (Some a) key = (k : Hashkey) × (option_map (λ u. u.key) (o a) ≡ Some k) × (key ≡ Some k)

by_path : (o : ℕ → Option Opening) (x : ℕ) (u : Opening) (b : Bool) (found : Option ℕ) (key : Option Hashkey) → o x ≡ Some u → Opens o found key
    → Opens o (cond (not b) (Some x) found) (or_else (cond b None (Some u.key)) key)
by_path o x u true found key e h = h
by_path o x u false found key e h = (u.key, ap (option_map (λ u. u.key)) e, refl)

by_opening : (v : ℕ) (o : ℕ → Option Opening) (x : ℕ) (q : Option Opening) (found : Option ℕ) (key : Option Hashkey) → o x ≡ q → Opens o found key
    → Opens o (cond (opens_without_party v q) (Some x) found) (or_else (key_without_party v q) key)
by_opening v o x None found key e h = h
by_opening v o x (Some u) found key e h = by_path o x u (is_listed v u.key.path) found key e h

opens : (v : ℕ) (o : ℕ → Option Opening) (xs : List ℕ) → Opens o (find (λ a. opens_without_party v (o a)) xs) (first_given_answer (λ a. key_without_party v (o a)) xs)
opens v o [] = refl
opens v o (x ∷ xs) = by_opening v o x (o x) (find (λ a. opens_without_party v (o a)) xs) (first_given_answer (λ a. key_without_party v (o a)) xs) refl (opens v o xs)

-- the hashkey for the lock is the one that comes from the base
abbrev pub ComesFrom : Wallet → (ℕ → Option Hashkey) → Histories → ℕ → Option Base → Option Hashkey → Type 0
ComesFrom w signed k i None key = key ≡ None
ComesFrom w signed k i (Some b) key = (x : Hashkey) × (make_due_key w signed k i b ≡ Some x) × (key ≡ Some x)

onto : (w : Wallet) (signed : ℕ → Option Hashkey) (k : Histories) (i : ℕ) (found : Option ℕ) (key : Option Hashkey)
    → Opens (λ a. opened (history k a) i) found key → ComesFrom w signed k i (option_map Onto found) (extended w key)
onto w signed k i None key h = ap (extended w) h
onto w signed k i (Some a) key h = (w.onto h.0, ap (extended w) h.1, ap (extended w) h.2)

by_lead : (w : Wallet) (signed : ℕ → Option Hashkey) (k : Histories) (i : ℕ) (b : Bool) (base : Option Base) (key : Option Hashkey)
    → ComesFrom w signed k i base key → ComesFrom w signed k i (cond b (Some Own) base) (cond b (Some (w.first i)) key)
by_lead w signed k i true base key h = (w.first i, refl, refl)
by_lead w signed k i false base key h = h

by_signed : (w : Wallet) (signed : ℕ → Option Hashkey) (k : Histories) (i : ℕ) (s : Option Hashkey) (base : Option Base) (key : Option Hashkey)
    → signed i ≡ s → ComesFrom w signed k i base key → ComesFrom w signed k i (cond (is_some s) (Some Signed) base) (or_else s key)
by_signed w signed k i None base key e h = h
by_signed w signed k i (Some x) base key e h = (x, e, refl)

pub comes_from : (d : Deal) (v : ℕ) (w : Wallet) (signed : ℕ → Option Hashkey) (k : Histories) (i : ℕ)
    → ComesFrom w signed k i (due_base d v (signed i) k i) (due_key d v w (signed i) k i)
unfolding due_base due_key seen_key
comes_from d v w signed k i =
    by_signed w signed k i (signed i) _ _ refl
    (by_lead w signed k i (leads d v i) _ _ (onto w signed k i (first_seen_arc d v k i) (first_seen_key d k v i)
    (opens v (λ a. opened (history k a) i) (leaving d.graph v))))
