-- What each status of an audit says.
use Rattle.std.specs.Prelude.{◌≡◌, ◌≤◌, ◌+◌, ◌⊎◌, ℕ, true, false, List, length, Option, Result, Ok, Err}
use Rattle.std.specs.Io.KnownBytes.{Keeps}
use Rattle.swap_io.specs.Tape.{Consumes, IsAtEnd, Tape}
use Rattle.swap_io.specs.Causes.{ConsumesAtMost, ConsumesSome, AppendsProperPrefix}
use Rattle.swap_io.specs.Handed.{AppendsPrefix}
use Rattle.command_input.specs.declared.refusal.Refusal.{Refusal}
use Rattle.command_input.specs.Refusal.{refusal}
use Rattle.command_input.specs.declared.status.Status.{Status}
use Rattle.command_input.specs.declared.status.Status.TheVariants.{Done, Named, WrongWords, Refused, ReadFault, WriteFault, NoMemory, TooLong}
use Rattle.command_input.specs.Input.{limit}
use Rattle.command_input.specs.Streams.{HasReadFault, HasWriteFault, Streams}
use Rattle.command_input.specs.Written.{IsWrittenWhole, Written}
use Rattle.audit_command.specs.Output.{audit_output}
use Rattle.audit_command.specs.Promised.{IsAudit}

-- The whole input was read, and this is the audit's output for it.
pub record HasAuditAnswer (left left' : Tape) (output : Result Written Refusal) : Type 0 where
  pub input : List ℕ
  pub taken : Consumes left left' input
  pub ended : IsAtEnd left'
  pub within : length input ≤ limit
  pub gives : audit_output input ≡ output

-- The input was read and has an output, which is promised, and P tells what was written of its
-- text.
pub record HasAuditOutput (P : Written → Type 0) (left left' : Tape) : Type 0 where
  pub output : Written
  pub read : HasAuditAnswer left left' (Ok output)
  pub promised : IsAudit read.input output
  pub written : P output

-- what a status says, by the source and the sink before and after
abbrev pub AuditSays : Streams → Streams → Status → Type 0
AuditSays before after Done = HasAuditOutput (IsWrittenWhole before.taken after.taken false) before.left after.left
AuditSays before after Named = HasAuditOutput (IsWrittenWhole before.taken after.taken true) before.left after.left
AuditSays before after WrongWords = ⊥
AuditSays before after (Refused reason names) = HasAuditAnswer before.left after.left (Err (refusal names reason)) × Keeps before.taken after.taken
AuditSays before after ReadFault =
    HasReadFault before after × Keeps before.taken after.taken × ConsumesAtMost before.left after.left limit
AuditSays before after WriteFault =
    HasWriteFault before after × HasAuditOutput (λ output. AppendsProperPrefix before.taken after.taken output.text) before.left after.left
AuditSays before after NoMemory =
    (Keeps before.taken after.taken × ConsumesAtMost before.left after.left limit)
    ⊎ HasAuditOutput (λ output. AppendsPrefix before.taken after.taken output.text) before.left after.left
AuditSays before after TooLong = ConsumesSome before.left after.left (limit + 1) × Keeps before.taken after.taken
