use Rattle.std.proofs.Common.{◌-◌, length}
use Rattle.audit_command.specs.Header.{header_read}
use Rattle.audit_command.proofs.Steps.{IsLed}
use Rattle.audit_command.proofs.text.read_transcript.Given as goal

abbrev pub invariant-lines : goal.invariant-lines
invariant-lines l = IsLed header_read l.bytes l.at l.reader

abbrev pub decreases-lines : goal.decreases-lines
decreases-lines l = length l.bytes - l.at
