-- What a due unlock stands for: a call with the hashkey that was signed, with one of the party's
-- own, or with one put onto a hashkey that it saw.
use Rattle.std.specs.Prelude.{◌≡◌, ◌<◌, ℕ, length, option_map, Option, Some}
use Rattle.std.specs.List.{find}
use Rattle.swap_digraph.specs.Graph.{leaving}
use Rattle.swap_digraph.specs.declared.deal.Deal.{Deal}
use Rattle.hashkey_path.specs.declared.hashkey.Hashkey.{Hashkey}
use Rattle.ledger_core.specs.declared.entry.Call.TheVariants.{Unlock}
use Rattle.ledger_core.specs.History.{opened}
use Rattle.ledger_core.specs.Book.{Histories, history}
use Rattle.swap_rules.specs.Party.{opens_without_party}
use Rattle.swap_rules.specs.Due.{Wallet, due_unlocks, extended, first}
use Rattle.due_calls.specs.declared.unlock_due.Base.{Base}
use Rattle.due_calls.specs.declared.unlock_due.Base.TheVariants.{Signed, Own, Onto}
use Rattle.due_calls.specs.declared.unlock_due.UnlockDue.{UnlockDue}

-- the hashkey that opened lock i on arc a, if any
abbrev pub arc_opening_key : Histories → ℕ → ℕ → Option Hashkey
arc_opening_key k a i = option_map (λ o. o.key) (opened (history k a) i)

-- the hashkey for lock i that comes from there, if any
abbrev pub make_due_key : Wallet → (ℕ → Option Hashkey) → Histories → ℕ → Base → Option Hashkey
make_due_key w signed k i Signed = signed i
make_due_key w signed k i Own = Some (w.first i)
make_due_key w signed k i (Onto a) = extended w (arc_opening_key k a i)

-- The first due unlock of v is the call on that arc with the hashkey that comes from there.
pub record IsFirstUnlock (d : Deal) (v : ℕ) (signed : ℕ → Option Hashkey) (k : Histories) (u : UnlockDue) (w : Wallet) : Type 0 where
  pub key : Hashkey
  pub from : make_due_key w signed k u.lock u.base ≡ Some key
  pub call : first (due_unlocks d v w signed k) ≡ Some (record { arc = u.arc; call = Unlock key })

-- the least-numbered arc that leaves v on which a path without v opened lock i
abbrev pub first_seen_arc : Deal → ℕ → Histories → ℕ → Option ℕ
first_seen_arc d v k i = find (λ a. opens_without_party v (opened (history k a) i)) (leaving d.graph v)

-- The arc whose hashkey the party extends, if any: the least-numbered arc that leaves v and on
-- which a path without v opened lock i.
abbrev pub IsSeenBase : Deal → ℕ → Histories → ℕ → Base → Type 0
IsSeenBase d v k i Signed = Unit {0}
IsSeenBase d v k i Own = Unit {0}
IsSeenBase d v k i (Onto a) = (a < length d.graph.arcs) × (first_seen_arc d v k i ≡ Some a)
