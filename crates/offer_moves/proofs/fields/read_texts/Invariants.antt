use Rattle.std.proofs.Common.{◌≡◌, drop}
use Rattle.serde_json.specs.View.{view}
use Rattle.offer_moves.specs.Lists.{collected_results}
use Rattle.offer_moves.specs.Fields.{text_member}
use Rattle.offer_moves.proofs.Lists.{with_front}
use Rattle.offer_moves.proofs.fields.read_texts.Given as goal

abbrev pub invariant-loop-value : goal.invariant-loop-value
invariant-loop-value l = with_front l.list.items (collected_results (λ v. text_member l.line l.field (view v)) (drop l.value-index l.values)) ≡ collected_results
    (λ v. text_member l.line l.field (view v)) l.values
