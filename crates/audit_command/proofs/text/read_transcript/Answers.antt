use Rattle.std.proofs.Common.{arith, subst, sym, Result}
use Rattle.swap_base.specs.Fault.{Gives}
use Rattle.transcript_book.proofs.Falls.{the_rest}
use Rattle.audit_command.specs.declared.reason.TranscriptReason.{TranscriptReason}
use Rattle.audit_command.specs.Header.{header_read}
use Rattle.audit_command.specs.TranscriptReading.{Story, job_story}
use Rattle.audit_command.proofs.Steps.{led_fault, led_first, led_on, led_to_end, whole_of}
use Rattle.audit_command.proofs.text.read_transcript.Goals as goal

pub lines-init : goal.lines-init
lines-init c = rw c.new-reader.ensures (led_first header_read c.args.bytes.now)

pub lines-preserved : goal.lines-preserved
lines-preserved c =
    led_on header_read c.args.bytes.now c.lines.at c.in-Some.end _ c.lines.reader c.push.new.self _ c.lines.invariant
    (the_rest c.args.bytes.now c.lines.at) c.in-Some.ensures.0 c.in-Some.ensures.1 c.in-Ok.ensures.0 (omega arith)

pub returns-in-Err-clause-exact : goal.returns-in-Err-clause-exact
returns-in-Err-clause-exact c =
    led_fault header_read c.args.bytes.now c.lines.at c.in-Some.end _ c.lines.reader c.push.new.self _ c.in-Err.fault c.lines.invariant
    (the_rest c.args.bytes.now c.lines.at) c.in-Some.ensures.0 c.in-Some.ensures.1 c.in-Err.ensures (omega arith)

pub returns-clause-exact : goal.returns-clause-exact
returns-clause-exact c =
    subst (λ (r : Result Story TranscriptReason). Gives job_story c.finish.result r)
    (sym (led_to_end header_read c.args.bytes.now c.lines.at c.lines.reader _ c.lines.invariant (the_rest c.args.bytes.now c.lines.at)
    c.in_default.ensures)) c.finish.ensures.exact

pub returns-clause-whole : goal.returns-clause-whole
returns-clause-whole c = whole_of header_read c.args.bytes.now c.finish.result (returns-clause-exact c)
