use Rattle.std.proofs.Common.{sym}
use Rattle.std.proofs.lemmas.Result.{err_from_is_err_and}
use Rattle.command_input.specs.Input.{NothingSaid, desk}
use Rattle.command_input.proofs.Ahead.{is_last, is_line, line_faults, passed_end, passed_on, passed_past}
use Rattle.command_input.proofs.Ahead.{reads_line, reads_none}
use Rattle.command_input.proofs.input.Input.next.Goals as goal

pub returns-in_err-take_line-clause-fails : goal.returns-in_err-take_line-clause-fails
returns-in_err-take_line-clause-fails g c =
    let now = desk (g.S.Source.left c.take_line.new.source) (g.S.Source.faults c.take_line.new.source) c.take_line.new.self in
    let p = err_from_is_err_and c.from_residual.result c.from_residual.ensures.1 in
    rw (p.1, p.2)
    (line_faults NothingSaid _ _ now c.lines.invariant.bytes c.lines.invariant.stands c.in_err-take_line.field-0.0 c.in_err-take_line.ensures.fails)

pub returns-in-End-clause-gives : goal.returns-in-End-clause-gives
returns-in-End-clause-gives g c =
    let none = reads_none _ _ (rw c.in-End.is at c.in_ok-take_line.ensures.takes) in
    is_last _ _ (passed_end _ _ _ c.lines.invariant (sym c.lines-test.ensures.over) none) none.met none.kept

pub returns-then-not-is_blank-clause-gives : goal.returns-then-not-is_blank-clause-gives
returns-then-not-is_blank-clause-gives g c =
    let line = reads_line _ _ _ c.in-Ended.is c.in_ok-take_line.ensures.takes in
    is_line _ _ _ c.lines.invariant (sym c.lines-test.ensures.over) line (sym (rw c.text.ensures at c.if-not-is_blank.ensures)) c.in_ok-take_line.ensures.takes.few

pub lines-preserved : goal.lines-preserved
lines-preserved g c =
    let line = reads_line _ _ _ c.in-Ended.is c.in_ok-take_line.ensures.takes in
    let blank = sym (rw c.text.ensures at c.if-not-is_blank.ensures) in
    rw c.pass_empty.ensures (passed_past _ _ _ _ (passed_on _ _ _ c.lines.invariant (sym c.lines-test.ensures.over) line blank))

pub returns-clause-gives : goal.returns-clause-gives
returns-clause-gives g c =
    let over = sym c.lines-test.ensures.over in
    is_last _ _ c.lines.invariant over (c.is_finished.ensures.kept over)
