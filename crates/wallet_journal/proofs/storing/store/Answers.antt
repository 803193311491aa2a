use Rattle.std.proofs.Common.{◌≡◌, ℕ, List, [], ◌∷◌, length, is_ok, is_err, rules, sym, ◌∙◌, ap, subst, arith}
use Rattle.std.proofs.lemmas.Result.{on_ok_weaker}
use Rattle.wallet_journal.specs.Device.{Torn, written}
use Rattle.wallet_journal.specs.Layout.{gate_position, body_position}
use Rattle.wallet_journal.specs.Journal.{Gains}
use Rattle.wallet_journal.specs.OwnDisks.{IsInRecord}
use Rattle.wallet_journal.proofs.Moments.{weaker, both}
use Rattle.wallet_journal.proofs.Tells.{body_size}
use Rattle.wallet_journal.proofs.Crash.{first_write, second_write, stored, mid}
use Rattle.wallet_journal.proofs.Fates.{not_both, stopped_first, stopped_second, written_both}
use Rattle.wallet_journal.proofs.storing.store.Goals as goal

pub write_synced-requires-clause-range : goal.write_synced-requires-clause-range
write_synced-requires-clause-range g c =
    let r = c.requires in
    omega (arith, ap length r.body, body_size c.args.key.now r.paired r.told, r.few, r.lock)

pub write_synced-requires-clause-few : goal.write_synced-requires-clause-few
write_synced-requires-clause-few g c =
    let r = c.requires in
    omega (arith, ap length r.body, body_size c.args.key.now r.paired r.told, r.few)

pub returns-in_err-write_synced-clause-any_moment : goal.returns-in_err-write_synced-clause-any_moment
returns-in_err-write_synced-clause-any_moment g c =
    let r = c.requires in
    let k = c.args.key.now in
    let old = g.D.Disk.seen c.args.disk.now in
    weaker g.D.Disk.moment g.D.Disk.left_since c.args.disk.now c.write_synced.new.disk _ _ c.write_synced.ensures.torn
    (λ e torn. first_write k old r.still.sized r.made r.lock r.unrecorded r.few r.paired r.told e
    (subst (λ (b : List ℕ). Torn (body_position k.lock) (length b) old e) r.body torn))

pub returns-clause-any_moment : goal.returns-clause-any_moment
returns-clause-any_moment g c =
    let r = c.requires in
    let k = c.args.key.now in
    let old = g.D.Disk.seen c.args.disk.now in
    let is_mid : g.D.Disk.seen c.write_synced.new.disk ≡ mid k old r.still.sized r.made r.lock r.unrecorded r.few r.paired r.told =
    c.in_ok-write_synced.ensures.written ∙ ap (λ (b : List ℕ). written old (body_position k.lock) b) r.body in
    both g.D.Disk.moment g.D.Disk.left_since c.args.disk.now c.write_synced.new.disk c.write_synced-2.new.disk (IsInRecord old k)
    (weaker g.D.Disk.moment g.D.Disk.left_since c.args.disk.now c.write_synced.new.disk _ _ c.write_synced.ensures.torn
    (λ e torn. first_write k old r.still.sized r.made r.lock r.unrecorded r.few r.paired r.told e
    (subst (λ (b : List ℕ). Torn (body_position k.lock) (length b) old e) r.body torn)))
    (weaker g.D.Disk.moment g.D.Disk.left_since c.write_synced.new.disk c.write_synced-2.new.disk _ _ c.write_synced-2.ensures.torn
    (λ e torn. second_write k old r.still.sized r.made r.lock r.unrecorded r.few r.paired r.told e
    (subst (λ (b : List ℕ). Torn (gate_position k.lock) 1 b e) is_mid torn)))

pub returns-clause-gains : goal.returns-clause-gains
returns-clause-gains g c =
    let r = c.requires in
    let k = c.args.key.now in
    let old = g.D.Disk.seen c.args.disk.now in
    let is_mid : g.D.Disk.seen c.write_synced.new.disk ≡ mid k old r.still.sized r.made r.lock r.unrecorded r.few r.paired r.told =
    c.in_ok-write_synced.ensures.written ∙ ap (λ (b : List ℕ). written old (body_position k.lock) b) r.body in
    on_ok_weaker c.write_synced-2.result (λ is.
    subst (Gains old k) (sym (is ∙ ap (λ (b : List ℕ). written b (gate_position k.lock) (1 ∷ [])) is_mid))
    (stored k old r.still.sized r.made r.lock r.unrecorded r.few r.paired r.told)) c.write_synced-2.ensures.written

pub returns-in_err-write_synced-clause-never : goal.returns-in_err-write_synced-clause-never
returns-in_err-write_synced-clause-never g c never = not_both c.write_synced.result (c.write_synced.ensures.never never).0 (ap is_err c.in_err-write_synced.was)

pub returns-in_err-write_synced-clause-stops : goal.returns-in_err-write_synced-clause-stops
returns-in_err-write_synced-clause-stops g c n lt stops =
    let r = c.requires in
    let k = c.args.key.now in (
      search rules,
      stopped_first k (g.D.Disk.synced c.args.disk.now) (g.D.Disk.loose c.args.disk.now)
          (record { at = body_position k.lock; bytes = c.args.body.now }) r.still.settled
          (λ i. record { at = body_position k.lock; bytes = r.body i }) n c.write_synced.result (g.D.Disk.stops_after c.write_synced.new.disk)
          (g.D.Disk.synced c.write_synced.new.disk)
          (g.D.Disk.loose c.write_synced.new.disk) (ap is_err c.in_err-write_synced.was) (c.write_synced.ensures.stops n stops) c.write_synced.ensures.writes,
    )

pub returns-clause-never : goal.returns-clause-never
returns-clause-never g c never = c.write_synced-2.ensures.never (c.write_synced.ensures.never never).1

pub returns-clause-stops : goal.returns-clause-stops
returns-clause-stops g c n lt stops =
    let r = c.requires in
    let k = c.args.key.now in
    stopped_second k (g.D.Disk.synced c.args.disk.now) (g.D.Disk.loose c.args.disk.now) (record { at = body_position k.lock; bytes = c.args.body.now })
    r.still.settled
    (λ i. record { at = body_position k.lock; bytes = r.body i }) n lt c.write_synced.result c.write_synced-2.result
    (g.D.Disk.stops_after c.write_synced.new.disk)
    (g.D.Disk.stops_after c.write_synced-2.new.disk) (g.D.Disk.synced c.write_synced.new.disk) (g.D.Disk.loose c.write_synced.new.disk)
    (g.D.Disk.synced c.write_synced-2.new.disk) (g.D.Disk.loose c.write_synced-2.new.disk) (ap is_ok c.in_ok-write_synced.was)
    (c.write_synced.ensures.stops n stops)
    c.write_synced.ensures.writes (λ m h. c.write_synced-2.ensures.stops m h) c.write_synced-2.ensures.writes

pub returns-clause-written : goal.returns-clause-written
returns-clause-written g c =
    let r = c.requires in
    let k = c.args.key.now in
    written_both k (g.D.Disk.synced c.args.disk.now) (g.D.Disk.loose c.args.disk.now)
    (record { at = body_position k.lock; bytes = c.args.body.now }) r.still.settled
    (λ i. record { at = body_position k.lock; bytes = r.body i }) c.write_synced.result c.write_synced-2.result (g.D.Disk.synced c.write_synced.new.disk)
    (g.D.Disk.loose c.write_synced.new.disk) (g.D.Disk.synced c.write_synced-2.new.disk) (g.D.Disk.loose c.write_synced-2.new.disk)
    (ap is_ok c.in_ok-write_synced.was) c.write_synced.ensures.writes c.write_synced-2.ensures.writes
