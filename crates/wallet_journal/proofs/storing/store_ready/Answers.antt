use Rattle.std.proofs.Common.{ℕ, List, subst}
use Rattle.wallet_journal.specs.Device.{Write, LeavesOnly}
use Rattle.wallet_journal.specs.Recording.{IsStoppedRecording}
use Rattle.wallet_journal.specs.OwnDisks.{IsInRecord}
use Rattle.wallet_journal.proofs.Moments.{both}
use Rattle.wallet_journal.proofs.Stays.{stays, untouched}
use Rattle.wallet_journal.proofs.Stops.{every_err, left_as}
use Rattle.wallet_journal.proofs.storing.store_ready.Goals as goal

pub returns-in_err-body-clause-any_moment : goal.returns-in_err-body-clause-any_moment
returns-in_err-body-clause-any_moment g c =
    untouched g.D.Disk.moment g.D.Disk.left_since c.args.disk.now (g.D.Disk.may_leave c.args.disk.now) (g.D.Disk.loose c.args.disk.now)
    (g.D.Disk.seen c.args.disk.now) c.args.key.now
    (λ e left. g.met.D.Disk.only_now c.args.disk.now e left) c.requires.still

pub returns-in_err-ready-clause-any_moment : goal.returns-in_err-ready-clause-any_moment
returns-in_err-ready-clause-any_moment g c =
    let r = c.ready.ensures in
    stays g.D.Disk.moment g.D.Disk.left_since c.args.disk.now c.ready.new.self (g.D.Disk.may_leave c.args.disk.now) (g.D.Disk.may_leave c.ready.new.self)
    (g.D.Disk.loose c.args.disk.now) (g.D.Disk.seen c.args.disk.now) c.args.key.now
    (λ e left. g.met.D.Disk.only_now c.args.disk.now e left) c.requires.still r.crash r.time

pub returns-in_err-store-clause-any_moment : goal.returns-in_err-store-clause-any_moment
returns-in_err-store-clause-any_moment g c =
    let r = c.ready.ensures in
    both g.D.Disk.moment g.D.Disk.left_since c.args.disk.now c.ready.new.self c.store.new.disk (IsInRecord (g.D.Disk.seen c.args.disk.now) c.args.key.now)
    (stays g.D.Disk.moment g.D.Disk.left_since c.args.disk.now c.ready.new.self (g.D.Disk.may_leave c.args.disk.now) (g.D.Disk.may_leave c.ready.new.self)
    (g.D.Disk.loose c.args.disk.now) (g.D.Disk.seen c.args.disk.now) c.args.key.now
    (λ e left. g.met.D.Disk.only_now c.args.disk.now e left) c.requires.still r.crash r.time)
    (subst (λ (b : List ℕ). LeavesOnly g.D.Disk.moment g.D.Disk.left_since c.ready.new.self c.store.new.disk (IsInRecord b c.args.key.now)) r.seen
    c.store.ensures.any_moment)

pub returns-clause-any_moment : goal.returns-clause-any_moment
returns-clause-any_moment g c =
    let r = c.ready.ensures in
    both g.D.Disk.moment g.D.Disk.left_since c.args.disk.now c.ready.new.self c.store.new.disk (IsInRecord (g.D.Disk.seen c.args.disk.now) c.args.key.now)
    (stays g.D.Disk.moment g.D.Disk.left_since c.args.disk.now c.ready.new.self (g.D.Disk.may_leave c.args.disk.now) (g.D.Disk.may_leave c.ready.new.self)
    (g.D.Disk.loose c.args.disk.now) (g.D.Disk.seen c.args.disk.now) c.args.key.now
    (λ e left. g.met.D.Disk.only_now c.args.disk.now e left) c.requires.still r.crash r.time)
    (subst (λ (b : List ℕ). LeavesOnly g.D.Disk.moment g.D.Disk.left_since c.ready.new.self c.store.new.disk (IsInRecord b c.args.key.now)) r.seen
    c.store.ensures.any_moment)

pub returns-in_err-store-clause-left : goal.returns-in_err-store-clause-left
returns-in_err-store-clause-left g c n image lt stops of =
    let q = c.requires in
    let k = c.args.key.now in
    let stopped = (c.store.ensures.stops n lt (c.ready.ensures.stops n stops)).1 in
    every_err c.from_residual-in_err-store.result (λ e failing.
    left_as k (g.D.Disk.synced c.args.disk.now) (g.D.Disk.seen c.args.disk.now) of q.made q.lock q.unrecorded q.few q.paired c.in_ok-body.ensures.told n
    image (g.D.Disk.synced c.store.new.disk) (g.D.Disk.loose c.store.new.disk)
    (subst (λ (ws : List Write). IsStoppedRecording n k ws (g.D.Disk.synced c.store.new.disk) (g.D.Disk.loose c.store.new.disk)) c.ready.ensures.writes.0 stopped))
