-- Swaps that share no hashlock: what a party that keeps its conduct presents in one of them is of
-- no use in the other, so that nothing which is forged in the other comes from it.
use Rattle.std.specs.Prelude.{◌≡◌, ◌≢◌, ℕ, ◌<◌, true, false, List, All, length, Some}
use Rattle.std.specs.List.{list_any, flat_map}
use Rattle.swap_base.specs.Lists.{IsMoment}
use Rattle.swap_digraph.specs.declared.deal.Deal.{Deal}
use Rattle.swap_digraph.specs.Deal.{lock_hashlock}
use Rattle.hash_signature.specs.Signature.{hashed_value}
use Rattle.hashkey_path.specs.declared.hashkey.Hashkey.{Hashkey}
use Rattle.ledger_core.specs.declared.entry.Call.TheVariants.{Unlock}
use Rattle.ledger_core.specs.declared.entry.Entry.{Entry}
use Rattle.ledger_core.specs.History.{accepted}
use Rattle.ledger_core.specs.Book.{Histories, history, IsLegalBook}
use Rattle.swap_rules.specs.Party.{pick_call, is_correct}
use Rattle.swap_rules.specs.Conduct.{carries, IsConducted}
use Rattle.swap_rules.specs.Forged.{has_made}
use Rattle.swap_run.specs.Run.{conforms}
use Rattle.swap_many.specs.declared.many_event.ManyEvent.{ManyEvent}
use Rattle.swap_many.specs.Chains.{Setup, book}
use Rattle.swap_many.specs.Many.{many_run, many_finish}
use Rattle.swap_many.specs.Laws.{CanCome, IsReadySetup}

-- no hashlock of one deal is a hashlock of the other
abbrev pub ShareNoHashlock : Deal → Deal → Type 0
ShareNoHashlock d e = (i j : ℕ) → i < length d.leaders → j < length e.leaders → lock_hashlock d i ≢ lock_hashlock e j

-- What v presented in the book b of its deal is of no use in the book c of deal e.
pub record IsNoUse (b : Histories) (v : ℕ) (e : Deal) (c : Histories) : Type 0 where
  -- no unlock call of v carries a secret of e's locks, accepted or refused
  pub secrets : (a : ℕ) (past : List Entry) (x : Entry) (key : Hashkey) → IsMoment (history b a) past x → pick_call v x ≡ Some (Unlock key)
      → (j : ℕ) → j < length e.leaders → hashed_value key.secret ≢ lock_hashlock e j
  -- the secret that opens a lock on a correct arc of e was carried by no unlock call of v
  pub uncarried : (a : ℕ) (past : List Entry) (x : Entry) (key : Hashkey) → IsMoment (history c a) past x → accepted x ≡ Some (Unlock key)
      → is_correct e c a ≡ true → list_any (λ y. carries key.secret (pick_call v y)) (flat_map (λ h. h) b) ≡ false
  -- and v made no hashkey with that secret: none that is a part of the one that opened the lock
  pub unmade : (a : ℕ) (past : List Entry) (x : Entry) (key other : Hashkey) → IsMoment (history c a) past x → accepted x ≡ Some (Unlock key)
      → is_correct e c a ≡ true → other.secret ≡ key.secret → has_made b v other ≡ false

-- of two deals that share no hashlock, with a legal book each: what a conducted party presented in
-- the one is of no use in the other
abbrev pub BooksStayApart : Type 0
BooksStayApart =
    (d e : Deal) (b c : Histories) (v : ℕ) → ShareNoHashlock d e → IsLegalBook d b → IsLegalBook e c → IsConducted d b v → IsNoUse b v e c

-- So it is of any two swaps on shared chains, whatever came before: after every list of events, and
-- after a fair finish.
pub record SwapsAreApart (m : Setup) (events : List ManyEvent) (s t v : ℕ) : Type 0 where
  pub run : IsNoUse (book m (many_run m events).chains s) v (m.cast t).deal (book m (many_run m events).chains t)
  pub finished : IsNoUse (book m (many_finish m (many_run m events)).chains s) v (m.cast t).deal (book m (many_finish m (many_run m events)).chains t)

abbrev pub SwapsStayApart : Type 0
SwapsStayApart =
    (m : Setup) (events : List ManyEvent) (s t v : ℕ) → IsReadySetup m → All (CanCome m) events → s < m.swaps → t < m.swaps
    → v < (m.cast s).deal.graph.n → conforms (m.cast s) v ≡ true → ShareNoHashlock (m.cast s).deal (m.cast t).deal → SwapsAreApart m events s t v
