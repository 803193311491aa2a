-- Ledgers are told each by itself.
use Rattle.std.specs.Prelude.{◌≡◌, ◌<◌, ◌≤◌, ◌+◌, ◌++◌, ◌^◌, ℕ, List, [], ◌∷◌, codes, decimal, fold, length, replicate, slice_set, Ok}
use Rattle.std.specs.Prelude.{if◌then◌else◌}
use Rattle.swap_digraph.specs.declared.deal.Deal.{Deal}
use Rattle.swap_digraph.specs.Deal.{touches, IsWellSized}
use Rattle.transcript_book.specs.Between.{separated_parts, spaced}
use Rattle.told_ledgers.specs.declared.told_ledger.ToldLedger.{ToldLedger}
use Rattle.told_ledgers.specs.declared.one_ledger.Heard.{Heard}
use Rattle.told_ledgers.specs.declared.one_ledger.Heard.TheVariants.{More, Bad}
use Rattle.told_ledgers.specs.SoFar.{LedgerSoFar}
use Rattle.told_ledgers.specs.Words.{line_kind}
use Rattle.told_ledgers.specs.Ledger.{line_heard, nothing_read, whole_told_ledger, untold}
use Rattle.told_ledgers.specs.Telling.{ledgers_told}

-- ---- one ledger

abbrev pub then_heard : Heard → (LedgerSoFar → Heard) → Heard
then_heard (More s) f = f s
then_heard (Bad t) f = Bad t

-- what further lines make of a ledger, where the first of them is its line n; behind its bad entry
-- no line is read
abbrev pub all_heard : ℕ → LedgerSoFar → List (List ℕ) → Heard
all_heard n s [] = More s
all_heard n s (l ∷ ls) = then_heard (line_heard n s (line_kind s.me (separated_parts 32 l)) l) (λ t. all_heard (n + 1) t ls)

abbrev pub heard_ledger : Heard → ToldLedger
heard_ledger (More s) = whole_told_ledger s
heard_ledger (Bad t) = t

-- what is told to v of the ledger of arc a by its lines alone
abbrev pub ledger_alone : Deal → (v a : ℕ) → List (List ℕ) → ToldLedger
ledger_alone d v a ls = if touches d v a then heard_ledger (all_heard 0 (nothing_read d v a) ls) else untold

-- ---- all ledgers

-- The lines of the ledger of an arc.
pub record LedgerLines : Type 0 where
  pub arc : ℕ
  pub lines : List (List ℕ)

-- the line before them tells the arc and how many they are
abbrev pub heading_line : LedgerLines → List ℕ
heading_line b = spaced (codes "ledger" ∷ decimal b.arc ∷ decimal (length b.lines) ∷ [])

-- the lines of ledgers, and the last line
abbrev pub all_lines : List LedgerLines → List (List ℕ)
all_lines [] = codes "end" ∷ []
all_lines (b ∷ bs) = heading_line b ∷ (b.lines ++ all_lines bs)

-- the arcs ascend from `least` on and are below `arcs`, and no ledger has too many lines for a
-- number of 32 bits
abbrev pub AreAscending : (least arcs : ℕ) → List LedgerLines → Type 0
AreAscending least arcs [] = Unit {0}
AreAscending least arcs (b ∷ bs) = (least ≤ b.arc) × (b.arc < arcs) × (length b.lines < 2 ^ 32) × AreAscending (b.arc + 1) arcs bs

abbrev pub with_ledger : Deal → ℕ → List ToldLedger → LedgerLines → List ToldLedger
with_ledger d v ts b = slice_set ts b.arc (ledger_alone d v b.arc b.lines)

-- of each arc is told what its own lines tell, and nothing of an arc without lines: a bad entry on
-- one ledger changes nothing of what is told of another
abbrev pub EachIsToldAlone : Type 0
EachIsToldAlone =
    (d : Deal) (v first : ℕ) (bs : List LedgerLines) → IsWellSized d → AreAscending 0 (length d.graph.arcs) bs
    → ledgers_told d v first (all_lines bs) ≡ Ok (fold (with_ledger d v) (replicate (length d.graph.arcs) untold) bs)
