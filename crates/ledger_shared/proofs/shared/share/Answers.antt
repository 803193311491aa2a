use Rattle.std.proofs.Common.{◌≢◌, ◌<◌, length, ap, ◌∙◌, subst, slice_index_or}
use Rattle.swap_digraph.specs.Deal.{party, counterparty, IsWellSized}
use Rattle.ledger_core.specs.Value.{LedgerState}
use Rattle.ledger_shared.proofs.Passes.{new_first, new_second}
use Rattle.ledger_shared.proofs.shared.share.Goals as goal

pub invariant_of-first : goal.invariant_of-first
invariant_of-first g c =
    let l = c.args.ledger.value in
    let arc = c.arc-arc.ensures.value ∙ ap (λ (x : LedgerState). x.arc) c.deref-2.ensures in
    let deal = c.deal.ensures.value ∙ ap (λ (x : LedgerState). x.deal) c.deref-3.ensures in
    let apart : party l.deal l.arc ≢ counterparty l.deal l.arc =
    (subst (λ d. IsWellSized d) deal c.deal.ensures.sized).ends.apart l.arc
    (subst (λ n. n < length l.deal.graph.arcs) arc
    (subst (λ (x : LedgerState). c.arc-arc.result < length x.deal.graph.arcs) c.deref-2.ensures c.arc-arc.ensures.below)) in
    new_first l c.in-Ok.seated.lock.lock c.in-Ok.seated.first _ c.args.first c.in-Ok.ensures.first
    (λ i. (slice_index_or ((c.arcs.ensures ∙ ap (λ d. d.graph.arcs) deal) i) (arc i) (record { from = 0; to = 0 })).from) apart c.requires.first.0
    c.requires.first.1

pub invariant_of-second : goal.invariant_of-second
invariant_of-second g c =
    let l = c.args.ledger.value in
    let arc = c.arc-arc.ensures.value ∙ ap (λ (x : LedgerState). x.arc) c.deref-2.ensures in
    let deal = c.deal.ensures.value ∙ ap (λ (x : LedgerState). x.deal) c.deref-3.ensures in
    let apart : party l.deal l.arc ≢ counterparty l.deal l.arc =
    (subst (λ d. IsWellSized d) deal c.deal.ensures.sized).ends.apart l.arc
    (subst (λ n. n < length l.deal.graph.arcs) arc
    (subst (λ (x : LedgerState). c.arc-arc.result < length x.deal.graph.arcs) c.deref-2.ensures c.arc-arc.ensures.below)) in
    new_second l c.in-Ok.seated.lock.lock c.in-Ok.seated.second _ c.args.second c.in-Ok.ensures.second
    (λ i. (slice_index_or ((c.arcs.ensures ∙ ap (λ d. d.graph.arcs) deal) i) (arc i) (record { from = 0; to = 0 })).to) apart c.requires.second.0
    c.requires.second.1
