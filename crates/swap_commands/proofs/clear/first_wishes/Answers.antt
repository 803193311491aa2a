use Rattle.std.proofs.lemmas.Result.{err_from_is_err_and}
use Rattle.command_input.specs.Input.{desk}
use Rattle.swap_commands.specs.Says.{IsCommandRefusal}
use Rattle.swap_commands.specs.Words.{Clear}
use Rattle.swap_commands.proofs.Clearings.{empty_stops, line_stops}
use Rattle.command_input.proofs.Streams.{first_stops, fits_fresh, line_of}
use Rattle.swap_commands.proofs.clear.first_wishes.Goals as goal

pub next-requires : goal.next-requires
next-requires g c = fits_fresh _ _ c.requires

pub returns-in_err-next-clause-stops : goal.returns-in_err-next-clause-stops
returns-in_err-next-clause-stops g c = λ has.
    let now = desk (g.S.Source.left c.next.new.source) (g.S.Source.faults c.next.new.source) c.next.new.self in
    let p = err_from_is_err_and c.from_residual.result c.from_residual.ensures.1 in
    rw (p.1, p.2)
    (first_stops (IsCommandRefusal has Clear) (g.S.Source.left c.args.source.now) (g.S.Source.faults c.args.source.now) c.args.input.now now c.requires
    c.in_err-next.field-0.0 c.in_err-next.ensures.fails)

pub returns-then-not-branch-clause-stops : goal.returns-then-not-branch-clause-stops
returns-then-not-branch-clause-stops g c = λ has.
    let now = desk (g.S.Source.left c.next.new.source) (g.S.Source.faults c.next.new.source) c.next.new.self in
    empty_stops has c.in_ok-next.field-0 (g.S.Source.left c.args.source.now) (g.S.Source.faults c.args.source.now) c.args.input.now now
    c.no_line.result c.requires c.if-not-branch.true c.in_ok-next.ensures.gives c.no_line.ensures

pub returns-in-Ok-clause-line : goal.returns-in-Ok-clause-line
returns-in-Ok-clause-line g c = rw c.requires at (line_of _ _ _ c.if-not-branch.false c.in_ok-next.ensures.gives)

pub returns-in-Err-clause-stops : goal.returns-in-Err-clause-stops
returns-in-Err-clause-stops g c = λ has.
    let now = desk (g.S.Source.left c.next.new.source) (g.S.Source.faults c.next.new.source) c.next.new.self in
    rw (c.with_names.ensures, c.from.ensures, c.empty.ensures)
    (line_stops has c.in_ok-next.field-0 (g.S.Source.left c.args.source.now) (g.S.Source.faults c.args.source.now) c.args.input.now now c.in-Err.fault
    c.number.result c.text.result.now c.requires c.if-not-branch.false c.in_ok-next.ensures.gives c.number.ensures c.text.ensures c.in-Err.ensures.exact)
