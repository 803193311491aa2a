use Rattle.std.proofs.Common.{◌≡◌, ◌++◌, ◌∙◌, List, Some, false, true, refl, sym, ap, subst}
use Rattle.std.specs.Prelude.{OnOk}
use Rattle.swap_digraph.specs.Graph.{entering}
use Rattle.swap_rules.specs.Due.{Action}
use Rattle.hashkey_path.specs.declared.hashkey.Hashkey.{Hashkey}
use Rattle.swap_rules.specs.Useful.{is_withheld, pressing_unlocks}
use Rattle.useful_calls.specs.Actions.{actions}
use Rattle.useful_calls.specs.Asker.{asker_at, asker_key, asker_wallet, known_entries}
use Rattle.useful_calls.proofs.Based.{nothing_more, unwithheld, with_key}
use Rattle.useful_calls.proofs.unlocks.put_unwithheld.Goals as goal

pub returns-then-is_withheld : goal.returns-then-is_withheld
returns-then-is_withheld c =
    let p = c.args.asker.now in
    let old = actions c.args.calls.now.items in
    nothing_more old old (pressing_unlocks p.deal.now p.me (asker_at p) (asker_wallet p) (asker_key p) (known_entries p) c.args.lock) refl
    (unwithheld p.deal.now p.me (asker_at p) (asker_wallet p) (asker_key p) (known_entries p) c.args.lock _ c.requires.key true
    (ap (λ (key : Hashkey). is_withheld p.deal.now p.me (asker_at p) (asker_key p) (known_entries p) c.args.lock (Some key)) (sym c.deref.ensures)
    ∙ (sym c.is_withheld.ensures ∙ c.if-is_withheld.true)))

pub returns : goal.returns
returns c =
    let p = c.args.asker.now in
    subst (λ (xs : List Action).
    OnOk c.put_key_unlocks.result (actions c.put_key_unlocks.new.calls.items ≡ actions c.args.calls.now.items ++ xs))
    (with_key p.deal.now p.me (asker_at p) (asker_wallet p) (asker_key p c.args.lock) (known_entries p) c.args.lock (entering p.deal.now.graph p.me) _
    c.requires.key c.requires.ready
    ∙ sym (unwithheld p.deal.now p.me (asker_at p) (asker_wallet p) (asker_key p) (known_entries p) c.args.lock _ c.requires.key false
    (ap (λ (key : Hashkey). is_withheld p.deal.now p.me (asker_at p) (asker_key p) (known_entries p) c.args.lock (Some key)) (sym c.deref.ensures)
    ∙ (sym c.is_withheld.ensures ∙ c.if-is_withheld.false))))
    c.put_key_unlocks.ensures
