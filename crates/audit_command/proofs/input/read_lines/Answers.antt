use Rattle.std.proofs.lemmas.Result.{err_from_is_err_and}
use Rattle.command_input.specs.Input.{Tells, desk, fresh}
use Rattle.command_input.proofs.Ahead.{line_faults}
use Rattle.audit_command.specs.Reading.{IsBad}
use Rattle.audit_command.proofs.Leads.{last_run, led_fault, led_first, led_on, led_to_end, line_of}
use Rattle.audit_command.proofs.input.read_lines.Goals as goal

pub lines-init : goal.lines-init
lines-init g c = led_first _ _ _ _ c.requires.fresh c.requires.first

pub part-requires : goal.part-requires
part-requires g c = c.lines.invariant.open_yet

pub returns-in_err-part-clause-stops : goal.returns-in_err-part-clause-stops
returns-in_err-part-clause-stops g c =
    let first = desk (g.S.Source.left c.args.source.now) (g.S.Source.faults c.args.source.now) fresh in
    let now = desk (g.S.Source.left c.part.new.source) (g.S.Source.faults c.part.new.source) c.part.new.self in
    let p = err_from_is_err_and c.from_residual.result c.from_residual.ensures.1 in
    rw (p.1, p.2)
    (line_faults (λ r. Tells (λ bytes. IsBad bytes r) first now) first _ now c.lines.invariant.bytes c.lines.invariant.stands c.in_err-part.field-0.0
    c.in_err-part.ensures.fails)

pub returns-in_err-push-clause-stops : goal.returns-in_err-push-clause-stops
returns-in_err-push-clause-stops g c =
    let now = desk (g.S.Source.left c.part.new.source) (g.S.Source.faults c.part.new.source) c.part.new.self in
    let p = err_from_is_err_and c.from_residual-in_err-push.result c.from_residual-in_err-push.ensures.1 in
    rw (p.1, p.2)
    (led_fault _ _ _ now _ _ c.in_err-push.field-0.0 c.lines.invariant (line_of _ _ _ c.if-branch.true c.in_ok-part.ensures.gives)
    (rw c.text.ensures at c.in_err-push.ensures))

pub lines-preserved : goal.lines-preserved
lines-preserved g c =
    led_on _ _ _ _ _ c.lines.invariant (line_of _ _ _ c.if-branch.true c.in_ok-part.ensures.gives) (rw c.text.ensures at c.in_ok-push.ensures).0

pub lines-smaller : goal.lines-smaller
lines-smaller g c = (line_of _ _ _ c.if-branch.true c.in_ok-part.ensures.gives).fewer

pub returns-clause-read : goal.returns-clause-read
returns-clause-read g c = led_to_end _ _ _ _ _ c.lines.invariant (last_run _ _ _ c.if-branch.false c.in_ok-part.ensures.gives)
