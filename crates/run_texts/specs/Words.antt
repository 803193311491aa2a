-- The words of a report's lines. Every number is in decimal.
use Rattle.std.specs.Prelude.{ℕ, Bool, List, [], ◌∷◌, codes, decimal, if◌then◌else◌}
use Rattle.swap_base.specs.Text.{joined, lines}
use Rattle.swap_digraph.specs.declared.deal.Mode.{Mode}
use Rattle.swap_digraph.specs.declared.deal.Mode.TheVariants.{Timelocks, Hashkeys}
use Rattle.escrow_core.specs.declared.terms.Terms.{Terms}
use Rattle.escrow_core.specs.Terms.{same_terms}
use Rattle.ledger_core.specs.declared.entry.Call.{Call}
use Rattle.ledger_core.specs.declared.entry.Call.TheVariants.{Publish, Unlock, Claim, Refund, Transfer}
use Rattle.ledger_core.specs.declared.entry.Sender.{Sender}
use Rattle.ledger_core.specs.declared.entry.Sender.TheVariants.{Party, Clock}
use Rattle.command_input.specs.Words.{party_name}
use Rattle.swap_rules.specs.declared.outcome.Outcome.{Outcome}
use Rattle.swap_rules.specs.declared.outcome.Outcome.TheVariants.{NoDeal, FreeRide, Underwater, Deal as WholeDeal, Discount}
use Rattle.swap_rules.specs.declared.finding.Rule.{Rule}
use Rattle.swap_rules.specs.declared.finding.Rule.TheVariants.{Publish as ToPublish, Unlock as ToUnlock, Claim as ToClaim, Refund as ToRefund}

unfoldable pub mode_text : Mode → List ℕ
mode_text Timelocks = codes "timelocks"
mode_text Hashkeys = codes "hashkeys"

-- a further name of a path
abbrev pub comma_name : List (List ℕ) → ℕ → ℕ → List ℕ
comma_name names place p = joined (codes "," ∷ party_name names p ∷ [])

-- the names of a path, joined by commas
unfoldable pub path_text : List (List ℕ) → List ℕ → List ℕ
path_text names [] = []
path_text names (p ∷ ps) = joined (party_name names p ∷ lines (comma_name names) 0 ps ∷ [])

unfoldable pub unlock_text : List (List ℕ) → ℕ → List ℕ → List ℕ
unlock_text names i [] = joined (codes "unlock " ∷ decimal i ∷ [])
unlock_text names i (p ∷ ps) = joined (codes "unlock " ∷ decimal i ∷ codes " via " ∷ path_text names (p ∷ ps) ∷ [])

unfoldable pub publish_text : Bool → List ℕ
publish_text correct = if correct then codes "publish correct" else codes "publish wrong"

-- what a call asks, where t are the correct terms
unfoldable pub call_text : List (List ℕ) → Terms → Call → List ℕ
call_text names t (Publish given) = publish_text (same_terms given t)
call_text names t (Unlock key) = unlock_text names key.lock key.path
call_text names t Claim = codes "claim"
call_text names t Refund = codes "refund"
call_text names t (Transfer to units) = joined (codes "transfer " ∷ decimal units ∷ codes " to " ∷ party_name names to ∷ [])

abbrev pub sender_text : List (List ℕ) → Sender → List ℕ
sender_text names (Party p) = party_name names p
sender_text names Clock = []

unfoldable pub outcome_text : Outcome → List ℕ
outcome_text NoDeal = codes "NoDeal"
outcome_text FreeRide = codes "FreeRide"
outcome_text Underwater = codes "Underwater"
outcome_text WholeDeal = codes "Deal"
outcome_text Discount = codes "Discount"

unfoldable pub rule_text : Rule → List ℕ
rule_text ToPublish = codes "publish"
rule_text (ToUnlock i) = joined (codes "unlock " ∷ decimal i ∷ [])
rule_text ToClaim = codes "claim"
rule_text ToRefund = codes "refund"
