use Rattle.std.proofs.Common.{ap, ◌∙◌}
use Rattle.swap_rules.specs.Party.{pick_call}
use Rattle.conduct_check.specs.Sent.{unlock_key}
use Rattle.conduct_check.proofs.Unlocks.{sent_more, sent_one, sent_none}
use Rattle.conduct_check.proofs.keys.put_unlocks.Goals as goal
use Rattle.conduct_check.proofs.keys.put_unlocks.Goals.{in-Some+in_ok-push-in-Some, in-None}

pub loop-made-preserved : goal.loop-made-preserved
loop-made-preserved c =
    sent_more c.args.keys.now.items c.loop-made.keys.items c.match-unlock_key.keys.items c.args.calls.now c.args.party c.loop-made.made-index
    c.made-item.result c.loop-made-test.true c.made-item.is c.loop-made.invariant
    (elim c.match-unlock_key.branch [
      | in-Some+in_ok-push-in-Some w ↦ sent_one c.loop-made.keys.items c.match-unlock_key.keys.items w.in-Some.key
          (unlock_key (pick_call c.args.party c.made-item.result.entry)) (ap (λ v. v.items) w.keys-is
          ∙ w.in_ok-push-in-Some.ensures.items) (w.in-Some.ensures ∙ ap unlock_key c.pick_call.ensures)
      | in-None w ↦ sent_none c.loop-made.keys.items c.match-unlock_key.keys.items (unlock_key (pick_call c.args.party c.made-item.result.entry))
          (ap (λ v. v.items) w.keys-is) (w.in-None.ensures ∙ ap unlock_key c.pick_call.ensures)
    ])
