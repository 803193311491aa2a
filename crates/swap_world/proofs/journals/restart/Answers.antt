use Rattle.std.proofs.Common.{◌≡◌, ◌⊎◌, ◌≤◌, ◌∙◌, length, refl, sym, ap, subst, arith}
use Rattle.swap_digraph.specs.declared.deal.Deal.{Deal}
use Rattle.party_machine.specs.Machine.{next_due, resumed_machine, MachineState}
use Rattle.wallet_journal.specs.Journal.{JournalState}
use Rattle.wallet_journal.specs.Held.{Leaves, visible_bytes}
use Rattle.wallet_journal.specs.Memory.{DiskState}
use Rattle.wallet_journal.specs.Stopped.{bytes_left, IsWrittenUp}
use Rattle.party_machine.specs.Recording.{signs_next, MayHave}
use Rattle.swap_run.specs.Run.{recorded_hashkeys}
use Rattle.swap_world.proofs.Ledgers.{on_err, on_ok}
use Rattle.swap_world.proofs.Disks.{any_result, crashed_between, resumed_between}
use Rattle.swap_world.specs.Journals.{IsDiskDuringSigning}
use Rattle.swap_world.proofs.Restarts.{recorded_as}
use Rattle.swap_world.proofs.journals.restart.Goals as goal

pub begin-requires-clause-opened : goal.begin-requires-clause-opened
begin-requires-clause-opened c = (
  ap (λ (x : JournalState DiskState). x.id) c.limit_calls.ensures.left ∙ c.requires.journal.id ∙ sym (ap (λ (d : Deal). d.id) c.requires.same),
  ap (λ (x : JournalState DiskState). x.me) c.limit_calls.ensures.left ∙ c.requires.journal.me,
)

pub restart-requires-clause-opened : goal.restart-requires-clause-opened
restart-requires-clause-opened c = (
  c.in_ok-crash.ensures.opened.0 ∙ sym (ap (λ (d : Deal). d.id) (c.begin.ensures.same.deal ∙ c.requires.same)),
  c.crash.ensures.party ∙ c.begin.ensures.party ∙ ap (λ (x : JournalState DiskState). x.me) c.limit_calls.ensures.left ∙ c.requires.journal.me
      ∙ sym c.begin.ensures.same.me,
)

pub returns-clause-ok : goal.returns-clause-ok
returns-clause-ok c =
    let m = c.args.machine.now in
    let j = c.args.journal.now in
    let h = c.begin.new.journal.disk.held in
    let bytes = bytes_left c.args.image h.synced h.loose in
    let up : IsWrittenUp c.args.journal.now.disk c.args.machine.now.signed =
    subst (IsWrittenUp c.args.journal.now.disk) c.requires.journal.has (c.limit_calls.ensures.ready c.requires.journal.sound) in
    let few : length c.args.machine.now.signed ≤ 8 = omega (arith, c.requires.places, c.requires.sized.leaders.1) in
    let signed : c.crash.new.self.signed ≡ recorded_hashkeys c.args.machine.now.signed (next_due c.args.machine.now) c.args.k c.args.image =
    recorded_as m c.crash.new.self.signed j.disk c.args.k c.args.image bytes up (c.in_ok-crash.ensures.places ∙ sym c.requires.places) few
    c.in_ok-crash.ensures.shown
    (subst (λ (x : JournalState DiskState). Leaves x.disk.held bytes ⊎ MayHave (visible_bytes x.disk.held) (signs_next m) bytes) c.limit_calls.ensures.left
    (c.begin.ensures.whole bytes c.crash.ensures.left))
    (c.in_ok-begin.ensures.left c.args.image) c.in_ok-begin.ensures.calm (next_due m) refl in
    on_ok c.restart.result (λ e. e ∙ (λ t.
    resumed_machine (c.begin.ensures.same.deal t) (c.begin.ensures.same.me t) (c.begin.ensures.same.seed t) (signed t))) c.restart.ensures.ok

pub returns-clause-between : goal.returns-clause-between
returns-clause-between c =
    let m = c.args.machine.now in
    let after = c.begin.new.machine.signed in
    let shown = c.crash.new.self.signed in
    let h = c.begin.new.journal.disk.held in
    let h' = c.crash.new.self.disk.held in
    let bytes = bytes_left c.args.image h.synced h.loose in
    let places : length shown ≡ length after = c.in_ok-crash.ensures.places ∙ sym (c.begin.ensures.same.places ∙ c.requires.places) in
    any_result c.restart.result
    (on_ok c.restart.result (λ e. resumed_between m.signed after shown h h' bytes c.begin.ensures.between c.crash.ensures.left places
    c.in_ok-crash.ensures.shown c.in_ok-crash.ensures.durable c.restart.new.self.signed (ap (λ (x : MachineState). x.signed) e)) c.restart.ensures.ok)
    (on_err c.restart.result (λ (e : c.restart.new.self ≡ c.begin.new.machine). subst (λ (x : MachineState). IsDiskDuringSigning m.signed x.signed h') (sym e)
    (crashed_between m.signed after shown h h' bytes c.begin.ensures.between c.crash.ensures.left places c.in_ok-crash.ensures.shown
    c.in_ok-crash.ensures.durable)) c.restart.ensures.err)
