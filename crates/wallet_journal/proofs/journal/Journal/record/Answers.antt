use Rattle.std.proofs.Common.{subst}
use Rattle.wallet_journal.specs.Device.{LeavesOnly}
use Rattle.wallet_journal.specs.OwnDisks.{IsInRecord}
use Rattle.wallet_journal.proofs.Keeping.{keeps_recorded, keeps_whole, keeps_own, kept_state}
use Rattle.wallet_journal.proofs.journal.Journal.record.Goals as goal

pub returns-in-Ok-clause-any_moment : goal.returns-in-Ok-clause-any_moment
returns-in-Ok-clause-any_moment g c =
    keeps_recorded g.D.Disk.seen g.D.Disk.may_leave g.D.Disk.loose g.D.Disk.moment g.D.Disk.left_since c.args.self.now c.record_key.new.disk c.args.key.now
    (kept_state g.D.Disk.seen g.D.Disk.may_leave g.D.Disk.loose _ c.args.self.now c.self.view_is c.requires.sound c.self.invariant) c.requires.lock
    c.requires.unrecorded
    (subst (λ j. LeavesOnly g.D.Disk.moment g.D.Disk.left_since j.disk c.record_key.new.disk (IsInRecord (g.D.Disk.seen j.disk) c.args.key.now))
    c.self.view_is c.record_key.ensures.any_moment)

pub returns-in-Ok-clause-whole : goal.returns-in-Ok-clause-whole
returns-in-Ok-clause-whole g c =
    keeps_whole g.D.Disk.seen g.D.Disk.may_leave g.D.Disk.loose g.D.Disk.moment g.D.Disk.left_since c.args.self.now c.record_key.new.disk c.args.key.now
    (kept_state g.D.Disk.seen g.D.Disk.may_leave g.D.Disk.loose _ c.args.self.now c.self.view_is c.requires.sound c.self.invariant) c.requires.lock
    c.requires.unrecorded
    (subst (λ j. LeavesOnly g.D.Disk.moment g.D.Disk.left_since j.disk c.record_key.new.disk (IsInRecord (g.D.Disk.seen j.disk) c.args.key.now))
    c.self.view_is c.record_key.ensures.any_moment)

pub returns-in-Ok-clause-own : goal.returns-in-Ok-clause-own
returns-in-Ok-clause-own g c d fits own =
    keeps_own g.D.Disk.seen g.D.Disk.may_leave g.D.Disk.loose g.D.Disk.moment g.D.Disk.left_since c.args.self.now c.record_key.new.disk c.args.key.now
    (kept_state g.D.Disk.seen g.D.Disk.may_leave g.D.Disk.loose _ c.args.self.now c.self.view_is c.requires.sound c.self.invariant) c.requires.lock
    c.requires.unrecorded
    (subst (λ j. LeavesOnly g.D.Disk.moment g.D.Disk.left_since j.disk c.record_key.new.disk (IsInRecord (g.D.Disk.seen j.disk) c.args.key.now))
    c.self.view_is c.record_key.ensures.any_moment) d fits own

pub returns-after-matches-clause-any_moment : goal.returns-after-matches-clause-any_moment
returns-after-matches-clause-any_moment g c =
    keeps_recorded g.D.Disk.seen g.D.Disk.may_leave g.D.Disk.loose g.D.Disk.moment g.D.Disk.left_since c.args.self.now c.record_key.new.disk c.args.key.now
    (kept_state g.D.Disk.seen g.D.Disk.may_leave g.D.Disk.loose _ c.args.self.now c.self.view_is c.requires.sound c.self.invariant) c.requires.lock
    c.requires.unrecorded
    (subst (λ j. LeavesOnly g.D.Disk.moment g.D.Disk.left_since j.disk c.record_key.new.disk (IsInRecord (g.D.Disk.seen j.disk) c.args.key.now))
    c.self.view_is c.record_key.ensures.any_moment)

pub returns-after-matches-clause-whole : goal.returns-after-matches-clause-whole
returns-after-matches-clause-whole g c =
    keeps_whole g.D.Disk.seen g.D.Disk.may_leave g.D.Disk.loose g.D.Disk.moment g.D.Disk.left_since c.args.self.now c.record_key.new.disk c.args.key.now
    (kept_state g.D.Disk.seen g.D.Disk.may_leave g.D.Disk.loose _ c.args.self.now c.self.view_is c.requires.sound c.self.invariant) c.requires.lock
    c.requires.unrecorded
    (subst (λ j. LeavesOnly g.D.Disk.moment g.D.Disk.left_since j.disk c.record_key.new.disk (IsInRecord (g.D.Disk.seen j.disk) c.args.key.now))
    c.self.view_is c.record_key.ensures.any_moment)

pub returns-after-matches-clause-own : goal.returns-after-matches-clause-own
returns-after-matches-clause-own g c d fits own =
    keeps_own g.D.Disk.seen g.D.Disk.may_leave g.D.Disk.loose g.D.Disk.moment g.D.Disk.left_since c.args.self.now c.record_key.new.disk c.args.key.now
    (kept_state g.D.Disk.seen g.D.Disk.may_leave g.D.Disk.loose _ c.args.self.now c.self.view_is c.requires.sound c.self.invariant) c.requires.lock
    c.requires.unrecorded
    (subst (λ j. LeavesOnly g.D.Disk.moment g.D.Disk.left_since j.disk c.record_key.new.disk (IsInRecord (g.D.Disk.seen j.disk) c.args.key.now))
    c.self.view_is c.record_key.ensures.any_moment) d fits own
