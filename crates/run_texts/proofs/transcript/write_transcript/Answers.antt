use Rattle.std.proofs.Common.{Err, ◌∙◌, ap, refl, sym}
use Rattle.std.proofs.lemmas.Result.{err_from_is_err_and}
use Rattle.swap_io.proofs.Handing.{handed_was, hands_after, written_part, written_short}
use Rattle.run_texts.proofs.transcript.write_transcript.Goals as goal

-- what is shown isn't made
pub write_lines-requires-clause-sayable : goal.write_lines-requires-clause-sayable
write_lines-requires-clause-sayable g c e = absurd (cc (sym e ∙ c.requires.shown))

pub returns-in_err-write_lines-clause-write_fault : goal.returns-in_err-write_lines-clause-write_fault
returns-in_err-write_lines-clause-write_fault g c is =
    let p = err_from_is_err_and c.from_residual.result c.from_residual.ensures.1 in
    written_part _ _ _ _ _ _ _ _ c.new-out.ensures.items c.write_lines.ensures (c.in_err-write_lines.was ∙ ap Err (sym p.2) ∙ sym p.1 ∙ is)

pub returns-in_err-write_lines-clause-no_memory : goal.returns-in_err-write_lines-clause-no_memory
returns-in_err-write_lines-clause-no_memory g c is =
    let p = err_from_is_err_and c.from_residual.result c.from_residual.ensures.1 in
    written_short _ _ _ _ _ _ _ _ c.new-out.ensures.items c.write_lines.ensures (c.in_err-write_lines.was ∙ ap Err (sym p.2) ∙ sym p.1 ∙ is)

pub returns-clause-write_fault : goal.returns-clause-write_fault
returns-clause-write_fault g c is =
    let h = c.write_lines.ensures in
    written_part _ _ _ _ _ _ _ _ c.new-out.ensures.items
    (hands_after _ _ _ _ _ _ _ _ _ _ _ c.flush.result (handed_was _ _ _ _ _ _ _ _ _ c.in_ok-write_lines.was h) refl h.later c.flush.ensures.hands) is

pub returns-clause-no_memory : goal.returns-clause-no_memory
returns-clause-no_memory g c is =
    let h = c.write_lines.ensures in
    written_short _ _ _ _ _ _ _ _ c.new-out.ensures.items
    (hands_after _ _ _ _ _ _ _ _ _ _ _ c.flush.result (handed_was _ _ _ _ _ _ _ _ _ c.in_ok-write_lines.was h) refl h.later c.flush.ensures.hands) is
