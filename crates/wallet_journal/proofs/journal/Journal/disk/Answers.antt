use Rattle.wallet_journal.proofs.Keeping.{made_calls, kept_state, shows, shows_on}
use Rattle.wallet_journal.proofs.journal.Journal.disk.Goals as goal

pub returns-clause-made : goal.returns-clause-made
returns-clause-made g c sound =
    made_calls (g.D.Disk.seen c.args.self.now.disk) (g.D.Disk.may_leave c.args.self.now.disk) (g.D.Disk.loose c.args.self.now.disk) c.args.self.now.id
    c.args.self.now.me c.args.self.now.signed (kept_state g.D.Disk.seen g.D.Disk.may_leave g.D.Disk.loose _ c.args.self.now c.self.view_is sound
    c.self.invariant)

pub returns-clause-shown : goal.returns-clause-shown
returns-clause-shown g c sound i lt =
    shows (g.D.Disk.seen c.args.self.now.disk) (g.D.Disk.may_leave c.args.self.now.disk) (g.D.Disk.loose c.args.self.now.disk) c.args.self.now.id
    c.args.self.now.me c.args.self.now.signed (kept_state g.D.Disk.seen g.D.Disk.may_leave g.D.Disk.loose _ c.args.self.now c.self.view_is sound
    c.self.invariant) i lt

pub returns-clause-durable : goal.returns-clause-durable
returns-clause-durable g c sound i lt e left =
    shows_on (g.D.Disk.seen c.args.self.now.disk) (g.D.Disk.may_leave c.args.self.now.disk) (g.D.Disk.loose c.args.self.now.disk) c.args.self.now.id
    c.args.self.now.me c.args.self.now.signed (kept_state g.D.Disk.seen g.D.Disk.may_leave g.D.Disk.loose _ c.args.self.now c.self.view_is sound
    c.self.invariant) i lt e left
