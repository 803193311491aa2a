-- The lines from the first ledger's line to the last line: which line stands next, and what comes
-- of all of them.
use Rattle.std.specs.Prelude.{◌==◌, ◌+◌, ◌-◌, ◌^◌, ℕ, List, [], ◌∷◌, map, codes, length, min, replicate, slice_index_or, slice_set}
use Rattle.std.specs.Prelude.{Result, Ok, Err, if◌then◌else◌}
use Rattle.std.specs.Str.{bytes_eq}
use Rattle.swap_base.specs.Fault.{◌>>=◌}
use Rattle.swap_digraph.specs.declared.deal.Deal.{Deal}
use Rattle.swap_digraph.specs.Deal.{touches}
use Rattle.ledger_core.specs.Book.{Histories}
use Rattle.command_input.specs.declared.reason.Reason.{Reason}
use Rattle.command_input.specs.declared.reason.Reason.TheVariants.{BadLine, CutShort}
use Rattle.transcript_book.specs.declared.said.Misspelling.{Misspelling}
use Rattle.transcript_book.specs.Between.{separated_parts}
use Rattle.transcript_book.specs.Reading.{misspelt}
use Rattle.told_ledgers.specs.declared.told_ledger.ToldLedger.{ToldLedger}
use Rattle.told_ledgers.specs.declared.one_ledger.Heard.{Heard}
use Rattle.told_ledgers.specs.declared.one_ledger.Heard.TheVariants.{More, Bad}
use Rattle.told_ledgers.specs.declared.stage.Stage.{Stage}
use Rattle.told_ledgers.specs.declared.stage.Stage.TheVariants.{Between, Passing, Reading, Over}
use Rattle.told_ledgers.specs.declared.heading.Heading.{Heading}
use Rattle.told_ledgers.specs.declared.chain_line.ChainLine.{ChainLine}
use Rattle.told_ledgers.specs.Headings.{heading_said}
use Rattle.told_ledgers.specs.Chains.{chain_line_said, is_chain_line, with_chain_line}
use Rattle.told_ledgers.specs.SoFar.{LedgerSoFar}
use Rattle.told_ledgers.specs.Words.{line_kind}
use Rattle.told_ledgers.specs.Ledger.{line_heard, nothing_read, whole_told_ledger, untold}

-- ---- which line stands next

-- What was read of the ledgers' lines.
pub record Telling : Type 0 where
  pub deal : Deal
  -- the party that is told
  pub me : ℕ
  -- one for each arc
  pub ledgers : List ToldLedger
  -- the least arc whose ledger may stand next
  pub least : ℕ
  -- how many lines the ledger at hand has
  pub count : ℕ
  -- how many lines of the ledger at hand are to come
  pub more : ℕ
  pub stage : Stage

abbrev pub nothing_told : Deal → ℕ → Telling
nothing_told d v = record {
  deal = d;
  me = v;
  ledgers = replicate (length d.graph.arcs) untold;
  least = 0;
  count = 0;
  more = 0;
  stage = Between;
}

-- further lines of the ledger are read, if any is to come
abbrev pub reading_ledger : LedgerSoFar → Telling → Telling
reading_ledger l s =
    if s.more == 0 then record s { ledgers = slice_set s.ledgers l.arc (whole_told_ledger l); stage = Between }
    else record s { stage = Reading l }

-- further lines of the ledger are passed over, if any is to come
abbrev pub passing : Telling → Telling
passing s = record s { stage = if s.more == 0 then Between else Passing }

-- one line less of the ledger is to come
abbrev pub one_less : Telling → Telling
one_less s = record s { more = s.more - 1 }

-- the ledger that touches the party is read, and any other passed over
abbrev pub begun_ledger : ℕ → Telling → Telling
begun_ledger a s = if touches s.deal s.me a then reading_ledger (nothing_read s.deal s.me a) s else passing s

abbrev pub begun_at_heading : Heading → Telling → Telling
begun_at_heading h s = begun_ledger h.arc (record s { least = h.arc + 1; count = h.count; more = h.count })

-- what stands behind a bad entry is passed over
abbrev pub with_heard : ℕ → Heard → Telling → Telling
with_heard a (More l) s = reading_ledger l s
with_heard a (Bad t) s = passing (record s { ledgers = slice_set s.ledgers a t })

-- what is told of a chain; behind it no ledger stands
abbrev pub with_chain : Telling → ChainLine → Result Telling Misspelling
with_chain s l =
    with_chain_line l (slice_index_or s.ledgers l.arc untold) >>= λ t. Ok (record s { ledgers = slice_set s.ledgers l.arc t; least = length s.deal.graph.arcs })

unfoldable pub chain_told : Telling → List ℕ → Result Telling Misspelling
chain_told s line = chain_line_said (length s.deal.graph.arcs) line >>= with_chain s

-- the line between two ledgers or behind them, or the last line
unfoldable pub frame_told : Telling → List ℕ → Result Telling Misspelling
frame_told s line =
    if bytes_eq line (codes "end") then Ok (record s { stage = Over })
    else if is_chain_line (separated_parts 32 line) then chain_told s line
    else (heading_said s.least (length s.deal.graph.arcs) line >>= λ h. Ok (begun_at_heading h s))

-- a line of the ledger
abbrev pub ledger_told : LedgerSoFar → Telling → List ℕ → Telling
ledger_told l s line = with_heard l.arc (line_heard (s.count - s.more) l (line_kind s.me (separated_parts 32 line)) line) (one_less s)

abbrev pub line_told_at_stage : Stage → Telling → List ℕ → Result Telling Misspelling
line_told_at_stage Between s line = frame_told s line
line_told_at_stage Passing s line = Ok (passing (one_less s))
line_told_at_stage (Reading l) s line = Ok (ledger_told l s line)
line_told_at_stage Over s line = misspelt

-- what the next line makes of what was read; behind the last line each line is bad
abbrev pub line_told : Telling → List ℕ → Result Telling Misspelling
line_told s line = line_told_at_stage s.stage s line

-- ---- all lines

abbrev pub next_number : ℕ → ℕ
next_number n = min (n + 1) (2 ^ 32 - 1)

-- the line of that number isn't bad
abbrev pub unless_bad_line : {A : Type 0} → ℕ → Result A Misspelling → Result A Reason
unless_bad_line n (Ok x) = Ok x
unless_bad_line n (Err e) = Err (BadLine n)

-- the last line was read
abbrev pub all_told : Stage → List ToldLedger → Result (List ToldLedger) Reason
all_told Over ledgers = Ok ledgers
all_told _ ledgers = Err CutShort

-- what further lines tell, where the first of them has that number
abbrev pub further_lines_told : ℕ → Telling → List (List ℕ) → Result (List ToldLedger) Reason
further_lines_told n s [] = all_told s.stage s.ledgers
further_lines_told n s (l ∷ ls) = unless_bad_line n (line_told s l) >>= λ t. further_lines_told (next_number n) t ls

-- what lines tell v of each arc's ledger, where the first line has that number
unfoldable pub ledgers_told : Deal → (v first : ℕ) → List (List ℕ) → Result (List ToldLedger) Reason
ledgers_told d v first ls = further_lines_told first (nothing_told d v) ls

-- the book that is told
abbrev pub told_book : List ToldLedger → Histories
told_book ts = map (λ t. t.history) ts
