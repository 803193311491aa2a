use Rattle.std.proofs.Common.{refl}
use Rattle.std.proofs.lemmas.Result.{err_from_is_err_and}
use Rattle.command_input.specs.declared.reason.Reason.TheVariants.{BadLine}
use Rattle.swap_commands.specs.Cleared.{IsFurther}
use Rattle.command_input.specs.Input.{desk}
use Rattle.command_input.specs.declared.fault.InputFault.TheVariants.{Refused}
use Rattle.swap_commands.proofs.Clearings.{further_stops}
use Rattle.command_input.proofs.Streams.{last_run, line_stops}
use Rattle.swap_commands.proofs.clear.refuse_further_line.Goals as goal

pub returns-in_err-next : goal.returns-in_err-next
returns-in_err-next g c =
    let old = desk (g.S.Source.left c.args.source.now) (g.S.Source.faults c.args.source.now) c.args.input.now in
    let now = desk (g.S.Source.left c.next.new.source) (g.S.Source.faults c.next.new.source) c.next.new.self in
    let p = err_from_is_err_and c.from_residual.result c.from_residual.ensures.1 in
    rw (p.1, p.2) (line_stops (IsFurther c.args.input.now) old now c.in_err-next.field-0.0 c.in_err-next.ensures.fails)

pub returns-then-not-branch : goal.returns-then-not-branch
returns-then-not-branch g c = last_run _ _ _ c.if-not-branch.true c.in_ok-next.ensures.gives

pub returns : goal.returns
returns g c =
    let old = desk (g.S.Source.left c.args.source.now) (g.S.Source.faults c.args.source.now) c.args.input.now in
    let now = desk (g.S.Source.left c.next.new.source) (g.S.Source.faults c.next.new.source) c.next.new.self in
    further_stops c.in_ok-next.field-0 old now (Refused (record { reason = BadLine c.number.result; names = c.empty.result }))
    c.if-not-branch.false c.in_ok-next.ensures.gives (rw (c.number.ensures, c.empty.ensures) refl)
