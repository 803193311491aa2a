use Rattle.std.proofs.Common.{sym, subst, ◌∙◌}
use Rattle.std.proofs.lemmas.Result.{err_from_is_err_and}
use Rattle.swap_base.specs.Fault.{Fails, steps}
use Rattle.swap_base.proofs.Steps.{steps_done, steps_fail_at, steps_on_at}
use Rattle.transcript_book.specs.Taking.{append_digit}
use Rattle.transcript_book.proofs.ByDigit.{read_by_steps}
use Rattle.transcript_book.proofs.number.continue_reading.Goals as goal

pub returns-in_err-value : goal.returns-in_err-value
returns-in_err-value c =
    let p = err_from_is_err_and c.from_residual.result c.from_residual.ensures.1 in
    let e = c.in_err-value.field-0.0 in
    let k = steps_fail_at e append_digit c.loop-byte.value c.args.digits.now c.loop-byte.byte-index 0
    (steps append_digit 0 c.args.digits.now) c.loop-byte-test.true
    c.in_err-value.ensures c.loop-byte.invariant in
    rw (p.1, p.2) (subst (Fails e) (read_by_steps 0 c.args.digits.now) k)

pub loop-byte-preserved : goal.loop-byte-preserved
loop-byte-preserved c =
    steps_on_at append_digit c.loop-byte.value _ c.args.digits.now c.loop-byte.byte-index 0 (steps append_digit 0 c.args.digits.now)
    c.loop-byte-test.true c.in_ok-value.ensures c.loop-byte.invariant

pub returns : goal.returns
returns c =
    sym (read_by_steps 0 c.args.digits.now)
    ∙ steps_done append_digit c.loop-byte.value c.args.digits.now c.loop-byte.byte-index (steps append_digit 0 c.args.digits.now) c.loop-byte-test.false
    c.loop-byte.invariant
