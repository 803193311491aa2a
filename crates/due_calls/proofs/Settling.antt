-- The first due claim and the first due refund are those on the first arc that passes the test.
use Rattle.std.proofs.Common.{◌≡◌, ℕ, option_map}
use Rattle.std.specs.List.{find}
use Rattle.swap_digraph.specs.declared.deal.Deal.{Deal}
use Rattle.swap_digraph.specs.Graph.{entering, leaving}
use Rattle.ledger_core.specs.declared.entry.Call.TheVariants.{Claim, Refund}
use Rattle.ledger_core.specs.Book.{Histories}
use Rattle.swap_rules.specs.Due.{is_due_claim, is_due_refund, due_claims, due_refunds, first}
use Rattle.due_calls.proofs.First.{first_find}
use Rattle.due_calls.specs.Settling.{claim_action, refund_action}

pub first_claim : (d : Deal) (v : ℕ) (k : Histories) → first (due_claims d v k) ≡ option_map claim_action (find (is_due_claim d v k) (entering d.graph v))
first_claim d v k = first_find (λ a. Claim) (is_due_claim d v k) (entering d.graph v)

pub first_refund : (d : Deal) (v : ℕ) (k : Histories) → first (due_refunds d v k) ≡ option_map refund_action (find (is_due_refund d v k) (leaving d.graph v))
first_refund d v k = first_find (λ a. Refund) (is_due_refund d v k) (leaving d.graph v)
