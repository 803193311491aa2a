-- The text of a report, line by line.
use Rattle.std.specs.Prelude.{ℕ, Bool, false, List, [], ◌∷◌, length, codes, decimal, slice_index_or, if◌then◌else◌}
use Rattle.swap_base.specs.Text.{joined, lines}
use Rattle.swap_digraph.specs.Graph.{ends}
use Rattle.swap_digraph.specs.declared.arc_ends.ArcEnds.{ArcEnds}
use Rattle.swap_digraph.specs.declared.deal.Deal.{Deal}
use Rattle.swap_digraph.specs.Deal.{party, counterparty, amount}
use Rattle.escrow_core.specs.declared.terms.Terms.{Terms}
use Rattle.escrow_core.specs.Terms.{stated_terms}
use Rattle.ledger_core.specs.declared.entry.Entry.{Entry}
use Rattle.ledger_core.specs.declared.entry.What.{What}
use Rattle.ledger_core.specs.declared.entry.What.TheVariants.{Call as Made, Tick}
use Rattle.ledger_core.specs.declared.accounts.Accounts.{Accounts}
use Rattle.ledger_core.specs.History.{accounts, height}
use Rattle.ledger_core.specs.Book.{Histories}
use Rattle.swap_job.specs.declared.job.Job.{Job}
use Rattle.swap_rules.specs.declared.outcome.Outcome.{Outcome}
use Rattle.swap_rules.specs.declared.finding.Finding.{Finding}
use Rattle.swap_rules.specs.declared.finding.Finding.TheVariants.{Broke, Late, Forged, Unfinished}
use Rattle.outcome_rules.specs.declared.report.Report.{Report}
use Rattle.command_input.specs.Words.{party_name, reply_text}
use Rattle.run_texts.specs.Words.{mode_text, call_text, sender_text, outcome_text, rule_text}

-- the line of an entry; a tick has none
unfoldable pub what_line : List (List ℕ) → Terms → Entry → What → List ℕ
what_line names t e (Made c) = joined (decimal e.height ∷ codes " " ∷ sender_text names e.sender ∷ codes " " ∷ call_text names t c ∷ codes ": " ∷ reply_text
    e.reply ∷ codes "\n" ∷ [])
what_line names t e (Tick k) = []

abbrev pub report_entry_line : List (List ℕ) → Terms → ℕ → Entry → List ℕ
report_entry_line names t number e = what_line names t e e.what

unfoldable pub ledger_head : List (List ℕ) → ℕ → ArcEnds → ℕ → List ℕ
ledger_head names a arc units = joined (codes "ledger " ∷ decimal a ∷ codes " " ∷ party_name names arc.from ∷ codes " -> " ∷ party_name names arc.to ∷ codes
    " amount " ∷ decimal units ∷ codes "\n" ∷ [])

unfoldable pub ledger_end : List (List ℕ) → ArcEnds → ℕ → Accounts → List ℕ
ledger_end names arc at now = joined (codes "end height " ∷ decimal at ∷ codes " " ∷ party_name names arc.from ∷ codes " " ∷ decimal now.party ∷ codes " " ∷
    party_name names arc.to ∷ codes " " ∷ decimal now.counterparty ∷ codes " held " ∷ decimal now.held ∷ codes "\n" ∷ [])

-- the lines of the ledger of arc a
unfoldable pub ledger_report_text : List (List ℕ) → Deal → ℕ → List Entry → List ℕ
ledger_report_text names d a h = joined (ledger_head names a (ends d.graph a) (amount d a) ∷ lines (report_entry_line names (stated_terms d a)) 0 h ∷ ledger_end names
    (ends d.graph a) (height h) (accounts d a h) ∷ [])

unfoldable pub head_lines : Deal → List ℕ
head_lines d = joined (codes "swap report 1\nswap " ∷ mode_text d.mode ∷ codes " start " ∷ decimal d.start ∷ codes " delta " ∷ decimal d.delta ∷ codes
    " bound " ∷ decimal d.bound ∷ codes "\n" ∷ [])

unfoldable pub role_text : Bool → List ℕ
role_text conforming = if conforming then codes "conforming" else codes "deviator"

unfoldable pub ended_text : Bool → Outcome → List ℕ
ended_text ended outcome = if ended then outcome_text outcome else codes "open"

unfoldable pub party_line : List (List ℕ) → List Bool → Bool → ℕ → Outcome → List ℕ
party_line names conforming ended p outcome = joined (codes "party " ∷ party_name names p ∷ codes " " ∷ role_text
    (slice_index_or conforming p false) ∷ codes ": " ∷ ended_text ended outcome ∷ codes "\n" ∷ [])

unfoldable pub finding_line : List (List ℕ) → Finding → List ℕ
finding_line names (Broke v a e) = joined (codes "broke " ∷ party_name names v ∷ codes " on " ∷ decimal a ∷ codes " entry " ∷ decimal e ∷ codes "\n" ∷ [])
finding_line names (Late v rule a due) = joined (codes "late " ∷ party_name names v ∷ codes " " ∷ rule_text rule ∷ codes " on " ∷ decimal a ∷ codes " due " ∷
    decimal due ∷ codes "\n" ∷ [])
finding_line names (Forged v a e) = joined (codes "forged " ∷ party_name names v ∷ codes " on " ∷ decimal a ∷ codes " entry " ∷ decimal e ∷ codes "\n" ∷ [])
finding_line names (Unfinished a at) = joined (codes "unfinished " ∷ decimal a ∷ codes " height " ∷ decimal at ∷ codes "\n" ∷ [])

unfoldable pub count_line : ℕ → List ℕ
count_line count = joined (codes "findings " ∷ decimal count ∷ codes "\n" ∷ [])

-- the report of a book
unfoldable pub report : Job → Histories → Report → List ℕ
report job b r =
    joined (head_lines job.deal ∷ lines (ledger_report_text job.names job.deal) 0 b ∷ lines (party_line job.names job.conforming r.ended) 0 r.outcomes ∷ lines
    (λ _. finding_line job.names) 0 r.findings ∷ count_line (length r.findings) ∷ [])
