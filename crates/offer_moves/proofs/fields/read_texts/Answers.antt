use Rattle.std.proofs.Common.{sym, subst, ◌∙◌}
use Rattle.std.proofs.lemmas.Result.{err_from_is_err_and}
use Rattle.serde_json.specs.View.{view}
use Rattle.swap_base.specs.Fault.{Fails}
use Rattle.offer_moves.specs.Fields.{text_member}
use Rattle.offer_moves.proofs.Lists.{starts, goes_on, ends, is_done, of_values}
use Rattle.offer_moves.proofs.fields.read_texts.Goals as goal

pub loop-value-init : goal.loop-value-init
loop-value-init c = rw c.new-list.ensures.items (starts (λ v. text_member c.args.line c.args.field.now (view v)) c.args.values.now)

pub returns-in_err-text_ref : goal.returns-in_err-text_ref
returns-in_err-text_ref c =
    let p = err_from_is_err_and c.from_residual.result c.from_residual.ensures.1 in
    let f = text_member c.args.line c.args.field.now in
    let e = ends (λ v. f (view v)) c.in_err-text_ref.field-0.0 c.loop-value.list.items c.args.values.now c.loop-value.value-index c.value-item.result _
    c.loop-value-test.true c.value-item.is c.in_err-text_ref.ensures c.loop-value.invariant in
    rw (p.1, p.2) (subst (Fails c.in_err-text_ref.field-0.0) (sym (of_values f c.args.values.now)) e)

pub loop-value-preserved : goal.loop-value-preserved
loop-value-preserved c =
    rw c.in_ok-push.ensures.items (goes_on (λ v. text_member c.args.line c.args.field.now (view v))
    c.loop-value.list.items c.args.values.now c.loop-value.value-index c.value-item.result c.in_ok-text_ref.field-0 _ c.loop-value-test.true
    c.value-item.is c.in_ok-text_ref.ensures c.loop-value.invariant)

pub returns : goal.returns
returns c =
    let f = text_member c.args.line c.args.field.now in
    rw c.new.ensures (of_values f c.args.values.now ∙ is_done (λ v. f (view v))
    c.loop-value.list.items c.args.values.now c.loop-value.value-index _ c.loop-value-test.false c.loop-value.invariant)
