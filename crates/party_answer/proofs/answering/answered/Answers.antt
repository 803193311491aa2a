use Rattle.std.proofs.Common.{◌≡◌, List, ap, not, filter, Result, Ok, Err, ◌∙◌}
use Rattle.std.specs.Prelude.{IfOk}
use Rattle.swap_digraph.specs.Graph.{is_listed}
use Rattle.swap_digraph.specs.declared.deal.Deal.{Deal}
use Rattle.history_index.specs.Indexes.{all_entries}
use Rattle.wallet_promise.specs.Answers.{was_sent}
use Rattle.answer_rules.specs.Stopped.{useful_unless_stopped}
use Rattle.party_wallet.specs.Value.{signed_hashkey}
use Rattle.party_machine.specs.Wallet.{seed_wallet}
use Rattle.told_ledgers.specs.declared.told_ledger.ToldLedger.{ToldLedger}
use Rattle.useful_calls.specs.Actions.{actions, is_lock_stopped}
use Rattle.useful_calls.specs.Landing.{landing_height}
use Rattle.party_answer.specs.declared.unkept.Unkept.{Unkept}
use Rattle.party_notes.specs.Inside.{asked_question}
use Rattle.party_answer.specs.Text.{answered}
use Rattle.party_answer.specs.Stale.{stopped_locks, unwaiting}
use Rattle.party_answer.proofs.Asking.{answered_is}
use Rattle.party_answer.proofs.answering.answered.Goals as goal

on_ok : {A E : Type 0} (r : Result A E) (P Q : A → Type 0) → ((x : A) → P x → Q x) → IfOk r P → IfOk r Q
on_ok (Ok x) P Q f p = f x p
on_ok (Err e) P Q f p = tt

pub returns : goal.returns
returns c =
    let stops = c.as_slice.result.now in
    let known = all_entries c.args.known.now in
    let a = c.args.asked.now in
    let kept = signed_hashkey a.kept.signed.keys in
    let us = c.args.warned.now.unkept.items in
    let useful = actions c.in_ok-useful.useful.items in
    let left = actions c.in_ok-left.left.items in
    on_ok c.without_waiting.result (λ v. actions v.items ≡ unwaiting c.deref-5.result.now left) (λ v. actions v.items ≡ answered (asked_question c.args.seed.now a))
    (λ v w. answered_is c.args.seed.now a known us c.args.warned.now.stale.items stops useful left (actions v.items) c.requires.asked c.requires.entries c.requires.unkept
    c.requires.stale
    (c.as_slice.ensures.value ∙ (c.in_ok-stopped.ensures
    ∙ (ap (λ (d : Deal). stopped_locks d kept a.kept.stopped c.deref-2.result.now c.deref-3.result.now) c.deref.ensures
    ∙ (ap (λ (u : List Unkept). stopped_locks a.deal kept a.kept.stopped u c.deref-3.result.now) c.deref-2.ensures.value
    ∙ ap (stopped_locks a.deal kept a.kept.stopped us) c.deref-3.ensures.value))))
    (c.in_ok-useful.ensures.useful
    ∙ (ap (λ (d : Deal). useful_unless_stopped (is_lock_stopped stops) d a.me (landing_height known c.as_slice-told.result.now) (seed_wallet c.args.seed.now a.me d)
    kept known) c.deref-4.ensures
    ∙ ap (λ (ts : List ToldLedger). useful_unless_stopped (is_lock_stopped stops) a.deal a.me (landing_height known ts) (seed_wallet c.args.seed.now a.me a.deal)
    kept known) c.as_slice-told.ensures))
    (c.in_ok-left.ensures ∙ ap (λ s. filter (λ x. not (was_sent (λ b. is_listed b s) x)) useful) c.as_slice-2.ensures)
    (w ∙ ap (λ s. unwaiting s left) c.deref-5.ensures.value))
    c.without_waiting.ensures
