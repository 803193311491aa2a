-- A ledger's lines as they are written say it, and what a wallet tells by its lines is heard.
use Rattle.std.specs.Prelude.{◌≡◌, ◌<◌, ℕ, true, false, List, None, Ok, Option, is_some}
use Rattle.swap_base.specs.Lists.{IsElement}
use Rattle.swap_digraph.specs.declared.deal.Deal.{Deal}
use Rattle.swap_digraph.specs.Deal.{IsWellSized}
use Rattle.hashkey_path.specs.declared.hashkey.Hashkey.{Hashkey}
use Rattle.ledger_core.specs.declared.entry.Sender.{Sender}
use Rattle.ledger_core.specs.declared.entry.Sender.TheVariants.{Party, Clock}
use Rattle.ledger_core.specs.declared.entry.What.{What}
use Rattle.ledger_core.specs.declared.entry.What.TheVariants.{Call as Made, Tick}
use Rattle.ledger_core.specs.declared.entry.Entry.{Entry}
use Rattle.ledger_core.specs.Book.{Histories, history}
use Rattle.swap_rules.specs.Party.{pick_call}
use Rattle.swap_rules.specs.Due.{has_called, unlocks_lock}
use Rattle.swap_rules.specs.Machine.{Begins}
use Rattle.wallet_promise.specs.Retrying.{IsHeard}
use Rattle.transcript_book.specs.Lines.{entry_line}
use Rattle.transcript_book.specs.Stated.{IsTyped}
use Rattle.told_ledgers.specs.declared.told_ledger.ToldLedger.{ToldLedger}
use Rattle.told_ledgers.specs.Telling.{ledgers_told, told_book}
use Rattle.program_laws.specs.Apart.{all_lines}
use Rattle.program_laws.specs.Enough.{IsToldBook, SaysEntry, deal_ledger_lines, is_unfunded}

-- a party calls, and the clock ticks
abbrev pub IsPossibleEntry : Sender → What → Type 0
IsPossibleEntry (Party p) (Made c) = Unit {0}
IsPossibleEntry Clock (Tick k) = Unit {0}
IsPossibleEntry (Party p) (Tick k) = ⊥
IsPossibleEntry Clock (Made c) = ⊥

-- An entry whose line a program can write: a call of a party or a tick, of the program's own types.
pub record IsWritableEntry (e : Entry) : Type 0 where
  pub typed : IsTyped e
  pub made : IsPossibleEntry e.sender e.what

-- the line of an entry says it, and so it does of a useless arc, on which v makes no call
abbrev pub WrittenIsSaid : Type 0
WrittenIsSaid =
    (d : Deal) (v a : ℕ) (e : Entry) → IsWellSized d → v < d.graph.n → IsWritableEntry e
    → SaysEntry false d v a e (entry_line e) × (pick_call v e ≡ None → SaysEntry true d v a e (entry_line e))

-- what is told by lines of how the ledgers began is heard by the party that hands over each hashkey
-- of which an unlock of its own stands there, and whose funds never lacked for a publish: a life that
-- is told so is a retrying life
abbrev pub LinesAreHeard : Type 0
LinesAreHeard =
    (d : Deal) (v first : ℕ) (b k : Histories) (lines : ℕ → List (List ℕ)) (kept : ℕ → Option Hashkey) → IsWellSized d → v < d.graph.n
    → IsToldBook d v k lines → ((a : ℕ) (e : Entry) → IsElement e (history k a) → is_unfunded v e ≡ false) → ((a : ℕ) → Begins (history k a) (history b a))
    → ((a i : ℕ) → has_called v (unlocks_lock i) (history k a) ≡ true → is_some (kept i) ≡ true)
    → (ts : List ToldLedger) × (ledgers_told d v first (all_lines (deal_ledger_lines d lines)) ≡ Ok ts)
    × IsHeard d v b (record { asking = record { known = told_book ts; kept = kept }; behind = k })
