use Rattle.wallet_journal.proofs.Keeping.{shows, shows_on, kept_state}
use Rattle.wallet_journal.proofs.journal.Journal.signed.Goals as goal

pub returns-in-Some-clause-shown : goal.returns-in-Some-clause-shown
returns-in-Some-clause-shown g c sound =
    shows (g.D.Disk.seen c.args.self.now.disk) (g.D.Disk.may_leave c.args.self.now.disk) (g.D.Disk.loose c.args.self.now.disk) c.args.self.now.id
    c.args.self.now.me c.args.self.now.signed (kept_state g.D.Disk.seen g.D.Disk.may_leave g.D.Disk.loose _ c.args.self.now c.self.view_is sound
    c.self.invariant) c.args.lock c.requires.lock

pub returns-in-Some-clause-durable : goal.returns-in-Some-clause-durable
returns-in-Some-clause-durable g c sound e left =
    shows_on (g.D.Disk.seen c.args.self.now.disk) (g.D.Disk.may_leave c.args.self.now.disk) (g.D.Disk.loose c.args.self.now.disk) c.args.self.now.id
    c.args.self.now.me c.args.self.now.signed (kept_state g.D.Disk.seen g.D.Disk.may_leave g.D.Disk.loose _ c.args.self.now c.self.view_is sound
    c.self.invariant) c.args.lock c.requires.lock e left

pub returns-in-None-clause-shown : goal.returns-in-None-clause-shown
returns-in-None-clause-shown g c sound =
    shows (g.D.Disk.seen c.args.self.now.disk) (g.D.Disk.may_leave c.args.self.now.disk) (g.D.Disk.loose c.args.self.now.disk) c.args.self.now.id
    c.args.self.now.me c.args.self.now.signed (kept_state g.D.Disk.seen g.D.Disk.may_leave g.D.Disk.loose _ c.args.self.now c.self.view_is sound
    c.self.invariant) c.args.lock c.requires.lock

pub returns-in-None-clause-durable : goal.returns-in-None-clause-durable
returns-in-None-clause-durable g c sound e left =
    shows_on (g.D.Disk.seen c.args.self.now.disk) (g.D.Disk.may_leave c.args.self.now.disk) (g.D.Disk.loose c.args.self.now.disk) c.args.self.now.id
    c.args.self.now.me c.args.self.now.signed (kept_state g.D.Disk.seen g.D.Disk.may_leave g.D.Disk.loose _ c.args.self.now c.self.view_is sound
    c.self.invariant) c.args.lock c.requires.lock e left
