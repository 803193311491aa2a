use Rattle.std.proofs.Common.{◌≤◌, ◌+◌, ◌*◌, Err, ap, arith, length, refl, suc, ◌∙◌}
use Rattle.std.proofs.lemmas.Result.{err_from_is_err_and}
use Rattle.escrow_core.specs.declared.reply.Reply.TheVariants.{Accepted}
use Rattle.ledger_core.specs.Ledger.{tick_entry}
use Rattle.ledger_core.specs.Runs.{run_ticks}
use Rattle.ledger_core.proofs.Ticks.{length_ticks}
use Rattle.swap_io.proofs.Handing.{all_lines, handed_was, hands_err, hands_ok, line_lost, line_on, lost_was, rest_lost, rose_before, rose_was}
use Rattle.swap_io.specs.declared.fault.TextFault.TheVariants.{NoMemory}
use Rattle.run_texts.specs.Texts.{entry_text}
use Rattle.run_texts.proofs.Ticks.{tick_at, tick_within}
use Rattle.run_texts.proofs.transcript_ledgers.write_ticks.Goals as goal

pub returns-in_err-put_tick : goal.returns-in_err-put_tick
returns-in_err-put_tick g c =
    let p = err_from_is_err_and c.from_residual.result c.from_residual.ensures.1 in
    hands_err NoMemory _ _ _ _ _ _ _ _ (p.1 ∙ ap Err p.2)
    (rest_lost entry_text (run_ticks c.args.run) _ _ _ _ _ _ c.ticks.invariant.so_far)
    c.ticks.invariant.later (λ is. absurd (cc is))

pub returns-in_err-flush_waiting : goal.returns-in_err-flush_waiting
returns-in_err-flush_waiting g c =
    let p = err_from_is_err_and c.from_residual-in_err-flush_waiting.result c.from_residual-in_err-flush_waiting.ensures.1 in
    let e = c.in_err-flush_waiting.field-0.0 in
    let r = c.args.run in
    let i = c.ticks.counter in
    let tick = tick_entry r.by (r.above + r.by * suc i) Accepted in
    hands_err e _ _ _ _ _ _ _ _ (p.1 ∙ ap Err p.2)
    (line_lost entry_text (run_ticks r) _ _ _ e _ _ _ _ i tick tick (tick_within r.above r.by r.count i c.ticks-test.true)
    (tick_at r.above r.by r.count i tick c.ticks-test.true) c.in_ok-put_tick.ensures
    (lost_was e _ _ _ _ _ _ _ _ c.in_err-flush_waiting.was c.flush_waiting.ensures) c.ticks.invariant.so_far)
    (omega (arith, c.ticks.invariant.later, c.flush_waiting.ensures.later))
    (λ is. rose_before _ _ _ c.ticks.invariant.later (rose_was e _ _ _ _ _ _ _ _ c.in_err-flush_waiting.was c.flush_waiting.ensures is))

pub ticks-preserved : goal.ticks-preserved
ticks-preserved g c =
    let r = c.args.run in
    let i = c.ticks.counter in
    let tick = tick_entry r.by (r.above + r.by * suc i) Accepted in
    record {
      so_far = line_on entry_text (run_ticks r) _ _ _ _ _ _ _ _ i tick tick (tick_within r.above r.by r.count i c.ticks-test.true)
          (tick_at r.above r.by r.count i tick c.ticks-test.true) c.in_ok-put_tick.ensures
          (handed_was _ _ _ _ _ _ _ _ _ c.in_ok-flush_waiting.was c.flush_waiting.ensures) c.ticks.invariant.so_far;
      later = omega (arith, c.ticks.invariant.later, c.flush_waiting.ensures.later);
    }

pub returns : goal.returns
returns g c =
    let r = c.args.run in
    let le : length (run_ticks r) ≤ c.ticks.counter = rw (length_ticks r.above r.by r.count) c.ticks-test.false in
    hands_ok tt _ _ _ _ _ _ _ _ refl (all_lines entry_text (run_ticks r) _ _ _ _ _ c.ticks.counter le c.ticks.invariant.so_far) c.ticks.invariant.later
