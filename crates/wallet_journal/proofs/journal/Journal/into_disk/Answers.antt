use Rattle.wallet_journal.proofs.Keeping.{made_calls, kept_state}
use Rattle.wallet_journal.proofs.journal.Journal.into_disk.Goals as goal

pub returns-clause-made : goal.returns-clause-made
returns-clause-made g c sound =
    made_calls (g.D.Disk.seen c.args.self.disk) (g.D.Disk.may_leave c.args.self.disk) (g.D.Disk.loose c.args.self.disk) c.args.self.id
    c.args.self.me c.args.self.signed (kept_state g.D.Disk.seen g.D.Disk.may_leave g.D.Disk.loose _ c.args.self c.self.view_is sound
    c.self.invariant)
