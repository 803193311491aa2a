use Rattle.std.proofs.Common.{◌≡◌, Err, arith}
use Rattle.std.proofs.lemmas.Result.{err_from_is_err_and}
use Rattle.command_input.specs.Input.{ahead, desk}
use Rattle.command_input.proofs.Streams.{last_run, led_stops, line_of}
use Rattle.swap_commands.specs.Walk.{lines_told}
use Rattle.swap_commands.proofs.Walks.{is_walked, none_yet, one_more, refused}
use Rattle.swap_commands.proofs.walk.walk.Goals as goal

pub lines-init : goal.lines-init
lines-init g c = record { on = none_yet _ _ _ _ c.requires.fits; can = c.requires.can; counted = omega arith }

pub next-requires : goal.next-requires
next-requires g c = c.lines.invariant.on.led.stands.fits

pub returns-in_err-next-clause-reads : goal.returns-in_err-next-clause-reads
returns-in_err-next-clause-reads g c =
    let now = desk (g.S.Source.left c.next.new.source) (g.S.Source.faults c.next.new.source) c.next.new.self in
    let p = err_from_is_err_and c.from_residual.result c.from_residual.ensures.1 in
    rw (p.1, p.2)
    (led_stops _ _ _ (λ bytes r. lines_told (g.W.Walker.told c.args.context) 0 (ahead c.args.input.now bytes) ≡ Err r)
    _ now _ _ c.lines.invariant.on.led c.in_err-next.field-0.0 c.in_err-next.ensures.fails)

pub returns-in_err-take-clause-reads : goal.returns-in_err-take-clause-reads
returns-in_err-take-clause-reads g c =
    let now = desk (g.S.Source.left c.next.new.source) (g.S.Source.faults c.next.new.source) c.next.new.self in
    let p = err_from_is_err_and c.from_residual-in_err-take.result c.from_residual-in_err-take.ensures.1 in
    rw (p.1, p.2)
    (refused (g.W.Walker.told c.args.context) _ _ now _ _ c.in_err-take.field-0.0 c.lines.invariant.on.led
    (line_of _ _ _ c.if-branch.true c.in_ok-next.ensures.gives) (rw (c.number.ensures, c.text.ensures) at c.in_err-take.ensures.refused))

pub lines-preserved : goal.lines-preserved
lines-preserved g c =
    let i = c.lines.invariant in
    let line = line_of _ _ _ c.if-branch.true c.in_ok-next.ensures.gives in
    record {
      on = one_more _ _ _ _ _ _ _ _ _ i.on line (rw (c.number.ensures, c.text.ensures) at c.in_ok-take.ensures.taken);
      can = c.in_ok-take.ensures.can;
      counted = omega (arith, i.counted, line.counted);
    }

pub overflow_add-count : goal.overflow_add-count
overflow_add-count g c =
    let line = line_of _ _ _ c.if-branch.true c.in_ok-next.ensures.gives in
    omega (arith, c.lines.invariant.counted, line.counted, line.few)

pub lines-smaller : goal.lines-smaller
lines-smaller g c =
    let line = line_of _ _ _ c.if-branch.true c.in_ok-next.ensures.gives in
    omega (arith, line.counted, line.few)

pub returns-clause-can : goal.returns-clause-can
returns-clause-can g c = c.lines.invariant.can

pub returns-clause-reads : goal.returns-clause-reads
returns-clause-reads g c = is_walked _ _ _ _ _ _ _ _ c.lines.invariant.on (last_run _ _ _ c.if-branch.false c.in_ok-next.ensures.gives)
