use Rattle.std.proofs.Common.{inl}
use Rattle.std.proofs.KnownBytes.{Keeps-refl}
use Rattle.command_input.specs.Input.{desk, fresh}
use Rattle.command_input.proofs.Streams.{calm_unread}
use Rattle.audit_command.specs.Reading.{IsStoryRefusal}
use Rattle.audit_command.specs.TranscriptReading.{job_story}
use Rattle.audit_command.proofs.Ends.{all_consumed}
use Rattle.audit_command.proofs.AuditEnds.{is_formed, says_refused, says_unread, says_written}
use Rattle.audit_command.proofs.command.audit_transcript.Goals as goal

pub returns-in-Err-clause-says : goal.returns-in-Err-clause-says
returns-in-Err-clause-says g c = rw c.unread.ensures (says_unread _ _ _ _ c.read_story.new.input _ _ c.in-Err.fault c.in-Err.ensures.stops)

pub judge-requires-clause-formed : goal.judge-requires-clause-formed
judge-requires-clause-formed g c = is_formed _ _ _ _ c.read_story.new.input (job_story c.in-Ok.story) c.in-Ok.ensures.read

pub returns-in-Ok-judge-clause-says : goal.returns-in-Ok-judge-clause-says
returns-in-Ok-judge-clause-says g c =
    says_written _ _ _ _ c.read_story.new.input (job_story c.in-Ok.story) c.in-Ok.ensures.read _ _ _ _ c.in-Ok-judge.report c.in-Ok.ensures.told c.in-Ok-judge.ensures.exact
    c.in-Ok-judge.ensures.sound c.write_audit_report.result c.write_audit_report.ensures

pub returns-in-Err-Refused-clause-says : goal.returns-in-Err-Refused-clause-says
returns-in-Err-Refused-clause-says g c =
    rw c.in-Err-Refused.field-0-is
    (says_refused _ _ (g.S.Source.faults c.args.source.now) (g.S.Source.faults c.read_story.new.source) c.read_story.new.input
    (job_story c.in-Ok.story) c.in-Ok.ensures.read
    (g.K.Sink.taken c.args.sink.now) (g.K.Sink.faults c.args.sink.now) c.in-Err-Refused.refusal
    (rw c.in-Err-Refused.field-0-is at c.in-Err-Refused.ensures.exact))

pub returns-clause-says : goal.returns-clause-says
returns-clause-says g c = inl (Keeps-refl (g.K.Sink.taken c.args.sink.now), all_consumed _ _ _ _ _ c.read_story.new.input c.in-Ok.ensures.read)

-- No read failed, unless the status tells of it.

pub returns-in-Err-clause-calm : goal.returns-in-Err-clause-calm
returns-in-Err-clause-calm g c =
    rw c.unread.ensures
    (calm_unread IsStoryRefusal (desk (g.S.Source.left c.args.source.now) (g.S.Source.faults c.args.source.now) fresh)
    (desk (g.S.Source.left c.read_story.new.source) (g.S.Source.faults c.read_story.new.source) c.read_story.new.input) c.in-Err.fault c.in-Err.ensures.stops)

pub returns-in-Ok-judge-clause-calm : goal.returns-in-Ok-judge-clause-calm
returns-in-Ok-judge-clause-calm g c = λ unless. c.in-Ok.ensures.read.stands.calm

pub returns-in-Err-Refused-clause-calm : goal.returns-in-Err-Refused-clause-calm
returns-in-Err-Refused-clause-calm g c = λ unless. c.in-Ok.ensures.read.stands.calm

pub returns-clause-calm : goal.returns-clause-calm
returns-clause-calm g c = λ unless. c.in-Ok.ensures.read.stands.calm
