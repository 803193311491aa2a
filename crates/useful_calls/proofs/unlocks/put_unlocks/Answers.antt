use Rattle.std.proofs.Common.{◌∙◌, refl, sym}
use Rattle.std.specs.List.{flat_map}
use Rattle.swap_digraph.specs.Deal.{locks}
use Rattle.conduct_check.proofs.KeyLoops.{flat_more}
use Rattle.useful_calls.specs.Actions.{actions}
use Rattle.useful_calls.specs.Asker.{asker_at, asker_key, asker_unlocks, asker_wallet, is_stopped, known_entries}
use Rattle.useful_calls.proofs.Based.{none_unless, nothing_more}
use Rattle.useful_calls.proofs.unlocks.put_unlocks.Goals as goal

pub returns-then-not-is_ready : goal.returns-then-not-is_ready
returns-then-not-is_ready c =
    let p = c.args.asker.now in
    let old = actions c.args.calls.now.items in
    nothing_more old old (flat_map (asker_unlocks p) (locks p.deal.now)) refl
    (none_unless (is_stopped p) p.deal.now p.me (asker_at p) (asker_wallet p) (asker_key p) (known_entries p) (sym c.is_ready.ensures ∙ c.if-not-is_ready.true))

pub loop-lock-preserved : goal.loop-lock-preserved
loop-lock-preserved c =
    flat_more (asker_unlocks c.args.asker.now) (actions c.args.calls.now.items) (actions c.loop-lock.calls.items)
    (actions c.put_lock_unlocks.new.calls.items) c.loop-lock.lock c.loop-lock.invariant c.in_ok-put_lock_unlocks.ensures
