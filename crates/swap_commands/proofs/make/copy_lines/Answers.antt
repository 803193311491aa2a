use Rattle.std.proofs.Common.{◌≡◌, Err, arith}
use Rattle.std.proofs.lemmas.Result.{err_from_is_err_and}
use Rattle.made_jobs.specs.Making.{copied, next_made_line}
use Rattle.made_jobs.proofs.Copying.{copied_none, copied_one, step_fails, step_says}
use Rattle.command_input.specs.Input.{ahead, desk}
use Rattle.command_input.proofs.Streams.{last_run, led_none, led_on, led_stops, led_to_end, led_to_fault, line_of}
use Rattle.swap_commands.proofs.make.copy_lines.Goals as goal

pub lines-init : goal.lines-init
lines-init g c = record { led = led_none _ _ _ c.requires.fits; few = omega arith }

pub next-requires : goal.next-requires
next-requires g c = c.lines.invariant.led.stands.fits

pub returns-in_err-next : goal.returns-in_err-next
returns-in_err-next g c =
    let now = desk (g.S.Source.left c.next.new.source) (g.S.Source.faults c.next.new.source) c.next.new.self in
    let p = err_from_is_err_and c.from_residual.result c.from_residual.ensures.1 in
    rw (p.1, p.2)
    (led_stops _ _ _ (λ bytes reason. copied 0 c.args.text.now.items (ahead c.args.input.now bytes) ≡ Err reason)
    _ now _ _ c.lines.invariant.led c.in_err-next.field-0.0 c.in_err-next.ensures.fails)

pub returns-in_err-count : goal.returns-in_err-count
returns-in_err-count g c =
    let now = desk (g.S.Source.left c.next.new.source) (g.S.Source.faults c.next.new.source) c.next.new.self in
    let p = err_from_is_err_and c.from_residual-in_err-count.result c.from_residual-in_err-count.ensures.1 in
    rw (p.1, p.2)
    (led_to_fault _ _ _ next_made_line copied_one _ now _ _ c.in_err-count.field-0.0 c.lines.invariant.led
    (line_of _ _ _ c.if-branch.true c.in_ok-next.ensures.gives)
    (step_fails _ _ _ _ _ (rw (c.number.ensures, c.text.ensures) at c.in_err-count.ensures.exact)))

pub lines-preserved : goal.lines-preserved
lines-preserved g c =
    let line = line_of _ _ _ c.if-branch.true c.in_ok-next.ensures.gives in
    let says = step_says _ _ _ _ _ _ (rw (c.number.ensures, c.text.ensures) at c.in_ok-count.ensures.exact) in
    record {
      led = rw says.0 (led_on _ _ _ next_made_line copied_one _ _ _ _ _ c.lines.invariant.led line says.1);
      few = c.in_ok-count.ensures.few;
    }

pub lines-smaller : goal.lines-smaller
lines-smaller g c =
    let line = line_of _ _ _ c.if-branch.true c.in_ok-next.ensures.gives in
    omega (arith, line.counted, line.few)

pub returns : goal.returns
returns g c =
    led_to_end _ _ _ (λ y. y) copied_none _ _ _ _ c.lines.invariant.led (last_run _ _ _ c.if-branch.false c.in_ok-next.ensures.gives)
