use Rattle.std.proofs.Common.{◌≡◌, List, ap, map, sym, subst, ◌∙◌}
use Rattle.std.specs.Prelude.{IfOk}
use Rattle.std.specs.List.{flat_map}
use Rattle.swap_digraph.specs.Graph.{leaving}
use Rattle.swap_digraph.specs.declared.deal.Deal.{Deal}
use Rattle.escrow_core.specs.Terms.{stated_terms}
use Rattle.ledger_core.specs.declared.entry.Call.TheVariants.{Publish}
use Rattle.history_index.specs.Indexes.{all_entries}
use Rattle.swap_rules.specs.Due.{when_due}
use Rattle.useful_calls.specs.Actions.{actions}
use Rattle.useful_calls.specs.Landing.{may_land}
use Rattle.party_answer.specs.declared.timed.Timed.{Timed}
use Rattle.party_answer.specs.Inside.{AreMeasured}
use Rattle.party_answer.specs.Lines.{timed}
use Rattle.party_answer.proofs.Asking.{landing_measured}
use Rattle.party_answer.proofs.answering.landing.Goals as goal

pub with_heights-requires-clause-measured : goal.with_heights-requires-clause-measured
with_heights-requires-clause-measured c =
    let known = all_entries c.args.known.now in
    let a = c.args.asked.now in
    subst (λ (d : Deal). AreMeasured d (actions c.deref-3.result.now)) (sym c.deref-2.ensures)
    (landing_measured a known _ (ap actions c.deref-3.ensures.value ∙ (c.in_ok-calls.ensures
    ∙ (ap (λ (d : Deal). flat_map (λ x. when_due (may_land c.as_slice-sent.result.now a.me known x) x (Publish (stated_terms d x))) (leaving d.graph a.me)) c.deref.ensures
    ∙ ap (λ s. flat_map (λ x. when_due (may_land s a.me known x) x (Publish (stated_terms a.deal x))) (leaving a.deal.graph a.me)) c.as_slice-sent.ensures))))

pub returns : goal.returns
returns c =
    let known = all_entries c.args.known.now in
    let a = c.args.asked.now in
    subst (λ (ts : List Timed). IfOk c.with_heights.result (λ v. v.items ≡ ts))
    (ap (λ (d : Deal). map (timed d known a.me) (actions c.deref-3.result.now)) c.deref-2.ensures
    ∙ ap (map (timed a.deal known a.me)) (ap actions c.deref-3.ensures.value ∙ (c.in_ok-calls.ensures
    ∙ (ap (λ (d : Deal). flat_map (λ x. when_due (may_land c.as_slice-sent.result.now a.me known x) x (Publish (stated_terms d x))) (leaving d.graph a.me)) c.deref.ensures
    ∙ ap (λ s. flat_map (λ x. when_due (may_land s a.me known x) x (Publish (stated_terms a.deal x))) (leaving a.deal.graph a.me)) c.as_slice-sent.ensures))))
    c.with_heights.ensures
