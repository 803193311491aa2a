use Rattle.std.proofs.Common.{◌≡◌, ◌∙◌, ℕ, map, Some, sym, ap, arith}
use Rattle.escrow_core.specs.ContractRows.{lesser}
use Rattle.ledger_core.specs.Book.{history}
use Rattle.swap_rules.specs.Party.{least_expiry}
use Rattle.swap_rules.specs.Rest.{is_waiting}
use Rattle.due_calls.proofs.ArcMembers.{one_each}
use Rattle.due_calls.proofs.Resting.{counts_on, counts_off}
use Rattle.due_calls.proofs.rest.rest_deadline.Goals as goal
use Rattle.due_calls.proofs.rest.rest_deadline.Goals.{then-is_waiting, else-is_waiting}

pub least_expiry-requires-clause-arc : goal.least_expiry-requires-clause-arc
least_expiry-requires-clause-arc g c =
    let one = one_each g.F.Facts.terms c.args.deal.now c.args.known.now c.requires.known in
    let within = c.is_waiting.ensures.within c.if-is_waiting.true in
    omega (arith, one, within)

pub arcs-preserved : goal.arcs-preserved
arcs-preserved g c =
    let book = map g.F.Facts.entries c.args.known.now in
    let waits = is_waiting c.args.deal.now c.args.me book in
    let expiries = λ (a : ℕ). least_expiry c.args.deal.now a (history book a) in
    let arcs = c.leaving-arc-items.result.now in
    elim c.if-is_waiting.branch [
      | then-is_waiting w ↦ (
          let is : c.if-is_waiting.until ≡ Some (lesser c.arcs.until w.least_expiry.result) = w.until-is ∙ ap (λ (n : ℕ). Some n) w.lesser.ensures in
          is ∙ ap (λ (n : ℕ). Some (lesser c.arcs.until n)) w.least_expiry.ensures.exact
          ∙ counts_on waits expiries arcs c.arcs.arc-index c.arcs.until c.arcs-test.true (sym c.is_waiting.ensures.exact
          ∙ w.if-is_waiting.true) c.arcs.invariant)
      | else-is_waiting w ↦ w.until-is ∙ counts_off waits expiries arcs c.arcs.arc-index c.arcs.until c.arcs-test.true (sym c.is_waiting.ensures.exact
          ∙ w.if-is_waiting.false) c.arcs.invariant
    ]
