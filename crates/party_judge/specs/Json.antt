-- A judgement as JSON, on one line. Names, words and a report have neither quotes nor backslashes.
use Rattle.std.specs.Prelude.{◌==◌, ◌++◌, ℕ, Bool, false, List, [], ◌∷◌, codes, decimal, slice_index_or, if◌then◌else◌}
use Rattle.hex.specs.Hex.{encode_lower}
use Rattle.swap_base.specs.Text.{joined, lines}
use Rattle.swap_digraph.specs.declared.deal.Deal.{Deal}
use Rattle.ledger_core.specs.Book.{Histories}
use Rattle.swap_job.specs.declared.job.Job.{Job}
use Rattle.swap_rules.specs.declared.finding.Finding.{Finding}
use Rattle.swap_rules.specs.declared.finding.Finding.TheVariants.{Broke, Late, Forged, Unfinished}
use Rattle.swap_rules.specs.declared.finding.Rule.{Rule}
use Rattle.swap_rules.specs.declared.finding.Rule.TheVariants.{Publish, Unlock, Claim, Refund}
use Rattle.swap_rules.specs.declared.outcome.Outcome.{Outcome}
use Rattle.outcome_rules.specs.declared.report.Report.{Report}
use Rattle.command_input.specs.Words.{party_name}
use Rattle.run_texts.specs.Report as reports
use Rattle.party_judge.specs.Marks.{is_harmless}

unfoldable pub json_bool : Bool → List ℕ
json_bool holds = if holds then codes "true" else codes "false"

-- what stands before a member of a list, by its number
unfoldable pub json_comma : ℕ → List ℕ
json_comma number = if number == 0 then [] else codes ","

-- ---- parties

unfoldable pub json_name : List (List ℕ) → ℕ → List ℕ
json_name names number = joined (json_comma number ∷ codes "{\"name\":\"" ∷ party_name names number ∷ codes "\"" ∷ [])

unfoldable pub json_outcome : (conforms ended : Bool) → Outcome → List ℕ
json_outcome conforms ended outcome =
    joined (codes ",\"conforming\":" ∷ json_bool conforms ∷ codes ",\"outcome\":\"" ∷ reports.ended_text ended outcome ∷ codes "\"}" ∷ [])

-- a party by its number: its name, whether it claims to conform, and how it ended
unfoldable pub json_party : List (List ℕ) → List Bool → Bool → ℕ → Outcome → List ℕ
json_party names conforming ended number outcome =
    joined (json_name names number ∷ json_outcome (slice_index_or conforming number false) ended outcome ∷ [])

-- the parties, behind the digests
unfoldable pub json_parties : Job → Report → List ℕ
json_parties job r = joined (codes "\",\"parties\":[" ∷ lines (json_party job.names job.conforming r.ended) 0 r.outcomes ∷ [])

-- ---- findings

-- the kind of a finding, and its party
unfoldable pub json_kind : (kind name : List ℕ) → List ℕ
json_kind kind name = joined (codes "{\"kind\":\"" ∷ kind ∷ codes "\",\"party\":\"" ∷ name ∷ codes "\"" ∷ [])

unfoldable pub json_entry : (arc entry : ℕ) → List ℕ
json_entry a e = joined (codes ",\"ledger\":" ∷ decimal a ∷ codes ",\"entry\":" ∷ decimal e ∷ [])

unfoldable pub json_broken : (name : List ℕ) → (arc entry : ℕ) → List ℕ
json_broken name a e = joined (json_kind (codes "broke") name ∷ json_entry a e ∷ [])

unfoldable pub json_forged : (name : List ℕ) → (arc entry : ℕ) → List ℕ
json_forged name a e = joined (json_kind (codes "forged") name ∷ json_entry a e ∷ [])

-- a rule, and the lock of an unlock
unfoldable pub json_rule : Rule → List ℕ
json_rule Publish = codes "\"publish\""
json_rule (Unlock i) = joined (codes "\"unlock\",\"lock\":" ∷ decimal i ∷ [])
json_rule Claim = codes "\"claim\""
json_rule Refund = codes "\"refund\""

unfoldable pub json_due : (arc last : ℕ) → List ℕ
json_due a last = joined (codes ",\"ledger\":" ∷ decimal a ∷ codes ",\"due\":" ∷ decimal last ∷ [])

unfoldable pub json_late : (name : List ℕ) → Rule → (arc last : ℕ) → List ℕ
json_late name rule a last = joined (json_kind (codes "late") name ∷ codes ",\"rule\":" ∷ json_rule rule ∷ json_due a last ∷ [])

unfoldable pub json_unfinished : (arc at : ℕ) → List ℕ
json_unfinished a at = joined (codes "{" ∷ codes "\"kind\":\"unfinished\",\"ledger\":" ∷ decimal a ∷ codes ",\"height\":" ∷ decimal at ∷ [])

-- what was found, up to the marks
unfoldable pub json_found : List (List ℕ) → Finding → List ℕ
json_found names (Broke v a e) = json_broken (party_name names v) a e
json_found names (Late v rule a last) = json_late (party_name names v) rule a last
json_found names (Forged v a e) = json_forged (party_name names v) a e
json_found names (Unfinished a at) = json_unfinished a at

-- whether a finding is final, and whether it is harmless
unfoldable pub json_mark : (ended harmless : Bool) → List ℕ
json_mark ended harmless = joined (codes ",\"final\":" ∷ json_bool ended ∷ codes ",\"harmless\":" ∷ json_bool harmless ∷ codes "}" ∷ [])

-- the finding of that number
unfoldable pub json_finding : List (List ℕ) → Deal → Bool → ℕ → Finding → List ℕ
json_finding names d ended number f = joined (json_comma number ∷ json_found names f ∷ json_mark ended (is_harmless d f) ∷ [])

unfoldable pub json_findings_key : List ℕ
json_findings_key = codes "],\"findings\":["

-- the findings, behind the parties
unfoldable pub json_findings : Job → Report → List ℕ
json_findings job r = joined (json_findings_key ∷ lines (json_finding job.names job.deal r.ended) 0 r.findings ∷ codes "]" ∷ [])

-- ---- the report

-- a byte within a string
abbrev pub json_byte : ℕ → ℕ → List ℕ
json_byte number byte = if byte == 10 then codes "\\n" else byte ∷ []

-- a text within a string
abbrev pub json_text : List ℕ → List ℕ
json_text text = lines json_byte 0 text

-- the report of the audit, behind the findings
unfoldable pub json_end : Job → Histories → Report → List ℕ
json_end job b r = joined (codes ",\"report\":\"" ∷ json_text (reports.report job b r) ∷ codes "\"}\n" ∷ [])

-- ---- the whole

-- which deal it is, and the digest that was agreed on
unfoldable pub json_deal : (id : List ℕ) → List ℕ
json_deal id = joined (codes "{\"deal\":\"" ∷ encode_lower id ∷ [])

unfoldable pub json_agree : (agreed : List ℕ) → List ℕ
json_agree agreed = joined (codes "\",\"agree\":\"" ∷ encode_lower agreed ∷ [])

-- what stands before the report
unfoldable pub json_begun : Job → List ℕ → Report → List ℕ
json_begun job digest r = joined (json_deal job.deal.id ∷ json_agree digest ∷ json_parties job r ∷ json_findings job r ∷ [])

-- the judgement: the digests, each party, each finding with its marks, and the report of the audit
unfoldable pub judgement_json : Job → List ℕ → Histories → Report → List ℕ
judgement_json job digest b r = joined (json_begun job digest r ∷ json_end job b r ∷ [])
