use Rattle.wallet_journal.proofs.Keeping.{shows_lock, kept_state}
use Rattle.wallet_journal.proofs.journal.Journal.keys.Goals as goal

pub returns-clause-locks : goal.returns-clause-locks
returns-clause-locks g c sound i k lt is =
    shows_lock (g.D.Disk.seen c.args.self.now.disk) (g.D.Disk.may_leave c.args.self.now.disk) (g.D.Disk.loose c.args.self.now.disk) c.args.self.now.id
    c.args.self.now.me c.args.self.now.signed (kept_state g.D.Disk.seen g.D.Disk.may_leave g.D.Disk.loose _ c.args.self.now c.self.view_is sound
    c.self.invariant) i lt k is
