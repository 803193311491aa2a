use Rattle.history_index.specs.Indexes.{all_entries}
use Rattle.std.proofs.Common.{◌∙◌}
use Rattle.party_notes.specs.Inside.{asked_question}
use Rattle.party_answer.proofs.Asking.{answer_given, stale_given, text_given, warns_given}
use Rattle.party_answer.proofs.answering.answer_known.Goals as goal

pub calls-requires-clause-stale : goal.calls-requires-clause-stale
calls-requires-clause-stale c =
    stale_given c.args.seed.now c.args.asked.now (all_entries c.args.known.now) _ c.requires.entries c.in_ok-warned.ensures.stale

pub returns : goal.returns
returns c =
    let known = all_entries c.args.known.now in
    let w = c.in_ok-warned.warned in
    let st = stale_given c.args.seed.now c.args.asked.now known w.stale.items c.requires.entries c.in_ok-warned.ensures.stale in
    answer_given (asked_question c.args.seed.now c.args.asked.now) _ _
    (text_given c.args.seed.now c.args.asked.now known w _ _ _ c.requires.entries c.in_ok-warned.ensures.unkept st
    (c.deref.ensures.value ∙ c.in_ok-calls.ensures) (c.deref-2.ensures.value ∙ c.in_ok-landing.ensures) c.in_ok-warned.ensures.noted
    c.in_ok-text.ensures)
    (warns_given c.args.seed.now c.args.asked.now w _ c.in_ok-warned.ensures.unkept st c.in_ok-warned.ensures.noted c.is_warning-warns.ensures)
