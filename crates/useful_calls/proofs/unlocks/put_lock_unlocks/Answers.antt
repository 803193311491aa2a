use Rattle.std.proofs.Common.{◌≡◌, ◌++◌, ◌∙◌, List, refl, sym, subst}
use Rattle.std.specs.Prelude.{OnOk}
use Rattle.swap_rules.specs.Due.{Action}
use Rattle.useful_calls.specs.Actions.{actions}
use Rattle.useful_calls.specs.Asker.{asker_at, asker_key, asker_unlocks, asker_wallet, is_stopped, known_entries}
use Rattle.useful_calls.proofs.Based.{isnt_stopped, nothing_more, silent, spoken, without_key}
use Rattle.useful_calls.proofs.unlocks.put_lock_unlocks.Goals as goal

pub returns-then-is_silent : goal.returns-then-is_silent
returns-then-is_silent c =
    let p = c.args.asker.now in
    let old = actions c.args.calls.now.items in
    nothing_more old old (asker_unlocks p c.args.lock) refl
    (silent (is_stopped p) p.deal.now p.me (asker_at p) (asker_wallet p) (asker_key p) (known_entries p) c.args.lock
    (sym c.is_silent.ensures ∙ c.if-is_silent.true))

pub due_key-requires-clause-unstopped : goal.due_key-requires-clause-unstopped
due_key-requires-clause-unstopped c =
    let p = c.args.asker.now in
    isnt_stopped (is_stopped p) p.deal.now p.me (known_entries p) c.args.lock (sym c.is_silent.ensures ∙ c.if-is_silent.false)

pub returns-in-Some : goal.returns-in-Some
returns-in-Some c =
    let p = c.args.asker.now in
    subst (λ (xs : List Action).
    OnOk c.put_unwithheld.result (actions c.put_unwithheld.new.calls.items ≡ actions c.args.calls.now.items ++ xs))
    (spoken (is_stopped p) p.deal.now p.me (asker_at p) (asker_wallet p) (asker_key p) (known_entries p) c.args.lock
    (sym c.is_silent.ensures ∙ c.if-is_silent.false))
    c.put_unwithheld.ensures

pub returns-in-None : goal.returns-in-None
returns-in-None c =
    let p = c.args.asker.now in
    let old = actions c.args.calls.now.items in
    nothing_more old old (asker_unlocks p c.args.lock) refl
    (sym (spoken (is_stopped p) p.deal.now p.me (asker_at p) (asker_wallet p) (asker_key p) (known_entries p) c.args.lock (sym c.is_silent.ensures
    ∙ c.if-is_silent.false))
    ∙ without_key p.deal.now p.me (asker_at p) (asker_wallet p) (asker_key p) (known_entries p) c.args.lock (sym c.in-None.is ∙ c.in_ok-key.ensures))
