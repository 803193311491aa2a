use Rattle.std.proofs.Common.{◌∙◌, sym, arith, inl, subst}
use Rattle.party_machine.specs.Recording.{signs_next}
use Rattle.wallet_journal.specs.Stopped.{IsWrittenUp}
use Rattle.swap_world.proofs.Disks.{recording_between, unwritten_between}
use Rattle.swap_world.proofs.Restarts.{answer_calm, reads_as}
use Rattle.swap_world.proofs.journals.begin.Goals as goal

pub returns-in-Ok-clause-left : goal.returns-in-Ok-clause-left
returns-in-Ok-clause-left c = λ image key signs. absurd (c.in-Ok.ensures.stops c.args._k key (omega (arith, c.requires.few)) c.requires.stops signs)

pub returns-in-Ok-clause-calm : goal.returns-in-Ok-clause-calm
returns-in-Ok-clause-calm c =
    answer_calm c.args.machine.now c.next_recorded.new.self c.in-Ok._answer c.in-Ok.ensures.due c.in-Ok.ensures.signed c.in-Ok.ensures.once
    c.in-Ok.ensures.same.places

pub returns-in-Err-DiskFault-clause-left : goal.returns-in-Err-DiskFault-clause-left
returns-in-Err-DiskFault-clause-left c = λ image key signs.
    c.in-Err-DiskFault.ensures.left c.args._k image key (omega (arith, c.requires.few)) c.requires.stops
    (reads_as c.args.journal.now.disk.held c.requires.written.on c.requires.written.settled) signs c.in-Err-DiskFault.field-0-is

pub returns-in-Err-DiskFault-clause-calm : goal.returns-in-Err-DiskFault-clause-calm
returns-in-Err-DiskFault-clause-calm c = λ none. absurd (cc (sym c.in-Err-DiskFault.field-0-is ∙ c.in-Err-DiskFault.ensures.calm none))

pub returns-in-Ok-clause-between : goal.returns-in-Ok-clause-between
returns-in-Ok-clause-between c =
    recording_between c.args.machine.now.signed c.next_recorded.new.self.signed c.args.journal.now.disk c.next_recorded.new.journal.disk.held
    (signs_next c.args.machine.now) (subst (IsWrittenUp c.args.journal.now.disk) c.requires.recorded c.requires.written) c.requires.locks
    c.in-Ok.ensures.same.places c.in-Ok.ensures.once (λ e left. c.in-Ok.ensures.whole.each e (inl left))
    (λ key signs. absurd (c.in-Ok.ensures.stops c.args._k key (omega (arith, c.requires.few)) c.requires.stops signs))

pub returns-in-Err-DiskFault-clause-between : goal.returns-in-Err-DiskFault-clause-between
returns-in-Err-DiskFault-clause-between c =
    recording_between c.args.machine.now.signed c.next_recorded.new.self.signed c.args.journal.now.disk c.next_recorded.new.journal.disk.held
    (signs_next c.args.machine.now) (subst (IsWrittenUp c.args.journal.now.disk) c.requires.recorded c.requires.written) c.requires.locks
    c.in-Err-DiskFault.ensures.same.places c.in-Err-DiskFault.ensures.once (λ e left. c.in-Err-DiskFault.ensures.whole.each e (inl left))
    (c.in-Err-DiskFault.ensures.kept c.in-Err-DiskFault.field-0-is)

pub returns-in-Err-NoMemory-clause-between : goal.returns-in-Err-NoMemory-clause-between
returns-in-Err-NoMemory-clause-between c =
    unwritten_between c.args.machine.now.signed c.next_recorded.new.self.signed c.args.journal.now.signed c.args.journal.now.disk.held
    c.next_recorded.new.journal.disk.held c.in-Err-NoMemory.ensures.same.places c.in-Err-NoMemory.ensures.once c.requires.recorded
    c.requires.written.shown (c.in-Err-NoMemory.ensures.untouched c.in-Err-NoMemory.field-0-is).crash
