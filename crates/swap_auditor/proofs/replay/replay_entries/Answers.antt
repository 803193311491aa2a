use Rattle.std.proofs.Common.{◌∙◌}
use Rattle.std.proofs.lemmas.Result.{err_from_is_err_and}
use Rattle.swap_base.proofs.Steps.{steps_on, steps_fail, steps_done}
use Rattle.swap_auditor.specs.Audit.{replay, with_entry}
use Rattle.swap_auditor.proofs.Replays.{entry_kept, formed_on, past_on}
use Rattle.swap_auditor.proofs.replay.replay_entries.Goals as goal

pub returns-in_err-replay_entry-clause-exact : goal.returns-in_err-replay_entry-clause-exact
returns-in_err-replay_entry-clause-exact c =
    let p = err_from_is_err_and c.from_residual.result c.from_residual.ensures.1 in
    let d = c.args.ledger.now.deal in
    let a = c.args.ledger.now.arc in
    rw (p.1, p.2)
    (steps_fail c.in_err-replay_entry.field-0.0 (with_entry d a) c.loop-entry.ledger.history c.args.entries.now c.loop-entry.entry-index
    c.entry-item.result (replay d a c.args.entries.now) c.loop-entry-test.true c.entry-item.is
    (rw (c.loop-entry.invariant.deal, c.loop-entry.invariant.arc) at c.in_err-replay_entry.ensures.exact) c.loop-entry.invariant.so_far)

pub loop-entry-preserved : goal.loop-entry-preserved
loop-entry-preserved c =
    let d = c.args.ledger.now.deal in
    let a = c.args.ledger.now.arc in
    let xs = c.args.entries.now in
    let i = c.loop-entry.entry-index in
    let past = c.loop-entry.ledger.history in
    let new = c.replay_entry.new.ledger.history in
    let x = c.entry-item.result in
    let made = rw (c.loop-entry.invariant.deal, c.loop-entry.invariant.arc) at c.in_ok-replay_entry.ensures.exact in
    let kept = entry_kept d a past new x made in
    record {
      so_far = steps_on (with_entry d a) past new xs i x (replay d a xs) c.loop-entry-test.true c.entry-item.is made c.loop-entry.invariant.so_far;
      past = past_on past new xs i x c.loop-entry-test.true c.entry-item.is kept c.loop-entry.invariant.past;
      rest = formed_on d a past new xs i x c.loop-entry-test.true c.entry-item.is kept c.loop-entry.invariant.rest;
      deal = c.replay_entry.ensures.deal ∙ c.loop-entry.invariant.deal;
      arc = c.replay_entry.ensures.arc ∙ c.loop-entry.invariant.arc;
      legal = c.replay_entry.ensures.legal;
      of_the_deal = c.replay_entry.ensures.found ∙ c.loop-entry.invariant.of_the_deal;
    }

pub returns-clause-exact : goal.returns-clause-exact
returns-clause-exact c =
    let d = c.args.ledger.now.deal in
    let a = c.args.ledger.now.arc in
    steps_done (with_entry d a) c.loop-entry.ledger.history c.args.entries.now c.loop-entry.entry-index (replay d a c.args.entries.now)
    c.loop-entry-test.false c.loop-entry.invariant.so_far
