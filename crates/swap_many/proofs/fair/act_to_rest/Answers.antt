use Rattle.std.proofs.Common.{◌≡◌, ◌<◌, true, sym, ap, ◌∙◌, subst, refl}
use Rattle.swap_run.specs.Fair.{repeat, most_acts}
use Rattle.swap_run.specs.Run.{conforms}
use Rattle.std.specs.Prelude.{not}
use Rattle.swap_many.specs.Chains.{Setup}
use Rattle.swap_many.specs.Kept.{Kept}
use Rattle.swap_many.specs.Fair.{kept_act, kept_acts}
use Rattle.swap_many.specs.Value.{nth_world}
use Rattle.swap_many.proofs.Gone.{gone_as, stopped_as}
use Rattle.swap_many.proofs.Gone.{repeat_on, repeat_stops}
use Rattle.swap_world.proofs.Ways.{if_err}
use Rattle.swap_many.proofs.Turning as lemmas
use Rattle.swap_many.proofs.fair.act_to_rest.Goals as goal

pub returns-in_err-happen-clause-err : goal.returns-in_err-happen-clause-err
returns-in_err-happen-clause-err g c =
    let gives = g.A.Strategies.gives c.args.strategies.now in
    let w = c.args.worlds.now in
    let l : c.acts.counter < most_acts (nth_world w c.args.swap).deal = rw (← c.deal.ensures.value, ← c.most_acts-end.ensures) c.acts-test.true in
    let part = λ (m : Setup) (z : Kept). repeat (most_acts (nth_world w c.args.swap).deal) (kept_act c.args.swap c.args.p m) z in
    if_err _ (stopped_as gives part (kept_acts c.args.swap c.args.p) w c.happen.new.self (λ a. refl)
    (repeat_stops gives (kept_act c.args.swap c.args.p) w c.acts.worlds c.happen.new.self (most_acts (nth_world w c.args.swap).deal) c.acts.counter
    c.acts.invariant l c.requires.on.ready (lemmas.act_leads w c.requires.on.ready c.args.swap c.args.p c.requires.party) c.in_err-happen.ensures.err))

pub returns-then-is_none-clause-ok : goal.returns-then-is_none-clause-ok
returns-then-is_none-clause-ok g c =
    let gives = g.A.Strategies.gives c.args.strategies.now in
    let w = c.args.worlds.now in
    let l : c.acts.counter < most_acts (nth_world w c.args.swap).deal = rw (← c.deal.ensures.value, ← c.most_acts-end.ensures) c.acts-test.true in
    let conforming = subst (λ x. conforms x c.args.p ≡ true) (sym (c.acts.invariant.same.casts c.args.swap)) c.requires.conforms in
    let part = λ (m : Setup) (z : Kept). repeat (most_acts (nth_world w c.args.swap).deal) (kept_act c.args.swap c.args.p m) z in
    gone_as gives part (kept_acts c.args.swap c.args.p) w c.happen.new.self (λ a. refl)
    (lemmas.acts_done gives w c.acts.worlds c.happen.new.self c.args.swap c.args.p (most_acts (nth_world w c.args.swap).deal) c.acts.counter
    c.in_ok-happen.field-0 l conforming (c.is_none.ensures ∙ ap not c.if-is_none.true) c.in_ok-happen.ensures.reply c.acts.invariant c.in_ok-happen.ensures.ok)

pub acts-preserved : goal.acts-preserved
acts-preserved g c =
    let gives = g.A.Strategies.gives c.args.strategies.now in
    let w = c.args.worlds.now in
    repeat_on gives (kept_act c.args.swap c.args.p) w c.acts.worlds c.happen.new.self (most_acts (nth_world w c.args.swap).deal) c.acts.counter
    c.acts.invariant c.in_ok-happen.ensures.ok
