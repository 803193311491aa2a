use Rattle.std.proofs.Common.{◌∙◌, sym, ap, length}
use Rattle.std.proofs.lemmas.Result.{on_ok_weaker}
use Rattle.wallet_journal.specs.Device.{slice}
use Rattle.wallet_journal.proofs.Moments.{started, goes_on}
use Rattle.wallet_journal.proofs.opening.sync_and_read.Goals as goal

pub returns-in_err-sync-clause-left : goal.returns-in_err-sync-clause-left
returns-in_err-sync-clause-left g c =
    goes_on g.D.Disk.moment g.D.Disk.left_since c.args.disk.now c.args.disk.now c.sync.new.self _ _
    (started g.D.Disk.moment g.D.Disk.left_since c.args.disk.now (g.D.Disk.may_leave c.args.disk.now) (λ e left. g.met.D.Disk.only_now c.args.disk.now e left))
    c.sync.ensures.time (λ e now. c.sync.ensures.crash e now)

pub returns-clause-left : goal.returns-clause-left
returns-clause-left g c =
    goes_on g.D.Disk.moment g.D.Disk.left_since c.args.disk.now c.sync.new.self c.read.new.self _ _
    (goes_on g.D.Disk.moment g.D.Disk.left_since c.args.disk.now c.args.disk.now c.sync.new.self _ _
    (started g.D.Disk.moment g.D.Disk.left_since c.args.disk.now (g.D.Disk.may_leave c.args.disk.now) (λ e left. g.met.D.Disk.only_now c.args.disk.now e left))
    c.sync.ensures.time (λ e now. c.sync.ensures.crash e now))
    c.read.ensures.time (λ e now. c.sync.ensures.crash e (c.read.ensures.crash e now))

pub returns-clause-bytes : goal.returns-clause-bytes
returns-clause-bytes g c = on_ok_weaker c.read.result (λ is. is ∙ (λ i. slice 0 (c.requires.size i) (sym c.read.ensures.seen i))) c.read.ensures.bytes

pub returns-clause-same : goal.returns-clause-same
returns-clause-same g c = on_ok_weaker c.read.result (λ is. c.read.ensures.seen ∙ c.in_ok-sync.ensures.seen) c.read.ensures.bytes

pub returns-clause-among : goal.returns-clause-among
returns-clause-among g c = on_ok_weaker c.read.result (λ is. c.sync.ensures.crash _ (c.read.ensures.crash _ c.read.ensures.among)) c.read.ensures.bytes

pub returns-clause-still : goal.returns-clause-still
returns-clause-still g c =
    on_ok_weaker c.read.result (λ is. record {
      sized = ap length (c.read.ensures.seen ∙ c.in_ok-sync.ensures.seen) ∙ c.requires.sized;
      only = λ e left. c.in_ok-sync.ensures.durable e (c.read.ensures.crash e left) ∙ sym (c.read.ensures.seen ∙ c.in_ok-sync.ensures.seen);
      among = c.read.ensures.among;
      settled = c.read.ensures.writes.1 ∙ c.in_ok-sync.ensures.writes.1;
    }) c.read.ensures.bytes
