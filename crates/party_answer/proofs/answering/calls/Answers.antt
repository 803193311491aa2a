use Rattle.std.proofs.Common.{◌≡◌, List, ap, map, refl, sym, subst, ◌∙◌}
use Rattle.std.specs.Prelude.{IfOk}
use Rattle.swap_digraph.specs.declared.deal.Deal.{Deal}
use Rattle.history_index.specs.Indexes.{all_entries}
use Rattle.useful_calls.specs.Actions.{actions}
use Rattle.party_answer.specs.declared.timed.Timed.{Timed}
use Rattle.party_answer.specs.Inside.{AreMeasured}
use Rattle.party_answer.specs.Lines.{timed}
use Rattle.party_answer.proofs.Asking.{calls_given, measured}
use Rattle.party_answer.proofs.answering.calls.Goals as goal

pub with_heights-requires-clause-measured : goal.with_heights-requires-clause-measured
with_heights-requires-clause-measured c =
    subst (λ (d : Deal). AreMeasured d (actions c.deref-2.result.now)) (sym c.deref.ensures)
    (measured c.args.seed.now c.args.asked.now _ c.requires.asked (ap actions c.deref-2.ensures.value ∙ c.in_ok-calls.ensures))

pub returns : goal.returns
returns c =
    let a = c.args.asked.now in
    let known = all_entries c.args.known.now in
    let calls = actions c.deref-2.result.now in
    subst (λ (ts : List Timed). IfOk c.with_heights.result (λ v. v.items ≡ ts))
    (ap (λ (d : Deal). map (timed d known a.me) calls) c.deref.ensures
    ∙ calls_given c.args.seed.now a known calls (map (timed a.deal known a.me) calls) c.requires.entries (ap actions c.deref-2.ensures.value ∙ c.in_ok-calls.ensures) refl)
    c.with_heights.ensures
