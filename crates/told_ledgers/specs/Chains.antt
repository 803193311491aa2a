-- The lines behind the ledgers: how high a chain stands, and in how many heights a call lands on it.
use Rattle.std.specs.Prelude.{◌||◌, ℕ, Bool, false, List, [], ◌∷◌, codes, Some, is_some, Result, Ok, if◌then◌else◌}
use Rattle.swap_base.specs.Fault.{◌>>=◌}
use Rattle.transcript_book.specs.declared.said.Misspelling.{Misspelling}
use Rattle.transcript_book.specs.Between.{separated_parts}
use Rattle.transcript_book.specs.Reading.{bounded_number, is_word, misspelt, nothing_more, parse_first_field}
use Rattle.told_ledgers.specs.declared.told_ledger.ToldLedger.{ToldLedger}
use Rattle.told_ledgers.specs.declared.chain_line.ChainWord.{ChainWord}
use Rattle.told_ledgers.specs.declared.chain_line.ChainWord.TheVariants.{Now, Margin}
use Rattle.told_ledgers.specs.declared.chain_line.ChainLine.{ChainLine}
use Rattle.told_ledgers.specs.Headings.{arc_said}

-- the first of the words is that of a line behind the ledgers
unfoldable pub is_chain_line : List (List ℕ) → Bool
is_chain_line [] = false
is_chain_line (w ∷ ws) = is_word w (codes "now") || is_word w (codes "margin")

abbrev pub chain_word : List ℕ → Result ChainWord Misspelling
chain_word w = if is_word w (codes "now") then Ok Now else if is_word w (codes "margin") then Ok Margin else misspelt

-- `now ARC HEIGHT` or `margin ARC HEIGHTS`: the heights are at most 1,000,000
unfoldable pub chain_words : (arcs : ℕ) → List (List ℕ) → Result ChainLine Misspelling
chain_words arcs ws = do
  word ← parse_first_field chain_word ws
  arc ← parse_first_field (arc_said 0 arcs) word.1
  heights ← parse_first_field (bounded_number 1000001) arc.1
  u ← nothing_more heights.1
  Ok (record { tells = word.0; arc = arc.0; heights = heights.0 })

-- what a line behind the ledgers tells
unfoldable pub chain_line_said : (arcs : ℕ) → List ℕ → Result ChainLine Misspelling
chain_line_said arcs line = chain_words arcs (separated_parts 32 line)

-- what is told of a ledger with what is told of its chain, each once
abbrev pub with_chain_told : ChainWord → ℕ → ToldLedger → Result ToldLedger Misspelling
with_chain_told Now n t = if is_some t.tip then misspelt else Ok (record t { tip = Some n })
with_chain_told Margin n t = if is_some t.margin then misspelt else Ok (record t { margin = Some n })

abbrev pub with_chain_line : ChainLine → ToldLedger → Result ToldLedger Misspelling
with_chain_line l t = with_chain_told l.tells l.heights t
