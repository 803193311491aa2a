use Rattle.std.proofs.Common.{inl}
use Rattle.std.proofs.KnownBytes.{Keeps-refl}
use Rattle.swap_commands.proofs.Audits.{says_audit}
use Rattle.swap_commands.proofs.Saying.{none_consumed}
use Rattle.swap_commands.proofs.orders.run_order.Goals as goal

pub returns-in-Check-clause-says : goal.returns-in-Check-clause-says
returns-in-Check-clause-says g c = rw c.in-Check.is c.check.ensures.says

pub returns-in-Check-clause-calm : goal.returns-in-Check-clause-calm
returns-in-Check-clause-calm g c = c.check.ensures.calm

pub returns-in-Run-clause-says : goal.returns-in-Run-clause-says
returns-in-Run-clause-says g c = rw c.in-Run.is c.run.ensures.says

pub returns-in-Run-clause-calm : goal.returns-in-Run-clause-calm
returns-in-Run-clause-calm g c = c.run.ensures.calm

pub returns-in-Make-clause-says : goal.returns-in-Make-clause-says
returns-in-Make-clause-says g c = rw c.in-Make.is c.make.ensures.says

pub returns-in-Make-clause-calm : goal.returns-in-Make-clause-calm
returns-in-Make-clause-calm g c = c.make.ensures.calm

pub returns-in-Audit-clause-says : goal.returns-in-Audit-clause-says
returns-in-Audit-clause-says g c =
    rw c.in-Audit.is (says_audit _ _ _ _ _ _ _ _ _ _ c.audit_transcript.result c.audit_transcript.ensures.says)

pub returns-in-Audit-clause-calm : goal.returns-in-Audit-clause-calm
returns-in-Audit-clause-calm g c = c.audit_transcript.ensures.calm

pub returns-in-Clear-clause-says : goal.returns-in-Clear-clause-says
returns-in-Clear-clause-says g c = rw c.in-Clear.is c.clear.ensures.says

pub returns-in-Clear-clause-calm : goal.returns-in-Clear-clause-calm
returns-in-Clear-clause-calm g c = c.clear.ensures.calm

pub returns-in-Many-clause-says : goal.returns-in-Many-clause-says
returns-in-Many-clause-says g c = rw c.in-Many.is c.many.ensures.says

pub returns-in-Many-clause-calm : goal.returns-in-Many-clause-calm
returns-in-Many-clause-calm g c = c.many.ensures.calm

pub returns-in_default-clause-says : goal.returns-in_default-clause-says
returns-in_default-clause-says g c = inl (Keeps-refl (g.K.Sink.taken c.args.sink.now), none_consumed (g.S.Source.left c.args.source.now))
