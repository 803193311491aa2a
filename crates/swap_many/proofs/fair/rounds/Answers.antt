use Rattle.std.proofs.Common.{◌≡◌, ◌+◌, ◌-◌, true, arith, sym, ap, ◌∙◌, subst, refl}
use Rattle.swap_run.specs.Fair.{repeat}
use Rattle.swap_many.specs.Many.{last_horizon}
use Rattle.swap_many.specs.Chains.{Setup}
use Rattle.swap_many.specs.Kept.{Kept}
use Rattle.swap_many.specs.Fair.{kept_round_or_rest, kept_rounds, have_ended}
use Rattle.swap_many.specs.Value.{HasManyGone, many_kept, world_setup}
use Rattle.swap_many.proofs.Values.{same_setup_of}
use Rattle.swap_many.proofs.Gone.{begun, gone_as, on_gone, repeat_rests, stopped_as}
use Rattle.swap_many.proofs.Nearby.{near_gone}
use Rattle.swap_many.proofs.Advancing.{goes_further, stops_further}
use Rattle.swap_world.proofs.Ways.{if_err}
use Rattle.swap_many.proofs.Turning as lemmas
use Rattle.swap_many.proofs.fair.rounds.Goals as goal

pub rounds-init : goal.rounds-init
rounds-init g c =
    let gives = g.A.Strategies.gives c.args.strategies.now in
    let w = c.args.worlds.now in
    let h = c.last_horizon-horizon.ensures.value in
    let none : 0 ≡ (last_horizon (world_setup w) + 1) - (c.last_horizon-horizon.result + 1) = omega (arith, h) in
    record {
      few = omega (arith, h);
      gone = subst (λ n. HasManyGone gives (λ m z. repeat n (kept_round_or_rest m) z) w w) none (begun gives w);
    }

pub have_ended-requires : goal.have_ended-requires
have_ended-requires g c =
    c.last_horizon-horizon.ensures.value
    ∙ ap last_horizon (sym (same_setup_of (g.A.Strategies.gives c.args.strategies.now) c.args.worlds.now c.rounds.worlds c.rounds.invariant.gone.same))

pub advance-requires-clause-near : goal.advance-requires-clause-near
advance-requires-clause-near g c =
    let w = c.args.worlds.now in
    near_gone (g.A.Strategies.gives c.args.strategies.now) (λ m z. repeat ((last_horizon (world_setup w) + 1) - c.rounds.left) (kept_round_or_rest m) z) w
    c.rounds.worlds c.args.near.now c.rounds.invariant.gone c.requires.near

pub advance-requires-clause-horizon : goal.advance-requires-clause-horizon
advance-requires-clause-horizon g c =
    c.last_horizon-horizon.ensures.value
    ∙ ap last_horizon (sym (same_setup_of (g.A.Strategies.gives c.args.strategies.now) c.args.worlds.now c.rounds.worlds c.rounds.invariant.gone.same))

pub advance-requires-clause-low : goal.advance-requires-clause-low
advance-requires-clause-low g c = sym c.have_ended.ensures ∙ c.if-have_ended.false

pub advance-requires-clause-on : goal.advance-requires-clause-on
advance-requires-clause-on g c =
    let w = c.args.worlds.now in
    on_gone (g.A.Strategies.gives c.args.strategies.now) (λ m z. repeat ((last_horizon (world_setup w) + 1) - c.rounds.left) (kept_round_or_rest m) z) w
    c.rounds.worlds _ c.rounds.invariant.gone c.requires.on

pub rounds-preserved : goal.rounds-preserved
rounds-preserved g c =
    let w = c.args.worlds.now in
    let i = c.rounds.invariant in
    record {
      few = omega (arith, i.few);
      gone = goes_further (g.A.Strategies.gives c.args.strategies.now) w c.rounds.worlds c.advance.new.worlds (last_horizon (world_setup w) + 1) c.rounds.left
          c.in_ok-taken.taken i.few c.in_ok-taken.ensures.few i.gone c.in_ok-taken.ensures.ok;
    }

pub returns-then-have_ended-clause-ok : goal.returns-then-have_ended-clause-ok
returns-then-have_ended-clause-ok g c =
    let gives = g.A.Strategies.gives c.args.strategies.now in
    let w = c.args.worlds.now in
    let mid = c.rounds.worlds in
    let all = last_horizon (world_setup w) + 1 in
    let part = λ (m : Setup) (z : Kept). repeat (last_horizon (world_setup w) + 1) (kept_round_or_rest m) z in
    let ended : have_ended (world_setup mid) (many_kept mid) ≡ true = sym c.have_ended.ensures ∙ c.if-have_ended.true in
    gone_as gives part kept_rounds w mid (λ a. refl)
    (repeat_rests gives kept_round_or_rest w mid mid all (all - c.rounds.left) c.rounds.invariant.gone (omega arith) (λ a. lemmas.rests mid a ended))

pub returns-in_err-taken-clause-err : goal.returns-in_err-taken-clause-err
returns-in_err-taken-clause-err g c =
    let gives = g.A.Strategies.gives c.args.strategies.now in
    let w = c.args.worlds.now in
    let i = c.rounds.invariant in
    let k = c.in_err-taken.ensures.err in
    let part = λ (m : Setup) (z : Kept). repeat (last_horizon (world_setup w) + 1) (kept_round_or_rest m) z in
    if_err _ (stopped_as gives part kept_rounds w c.advance.new.worlds (λ a. refl)
    (stops_further gives w c.rounds.worlds c.advance.new.worlds (last_horizon (world_setup w) + 1) c.rounds.left k.0 i.few k.1 i.gone c.requires.on.ready k.2))

pub returns-clause-ok : goal.returns-clause-ok
returns-clause-ok g c =
    let gives = g.A.Strategies.gives c.args.strategies.now in
    let w = c.args.worlds.now in
    let part = λ (m : Setup) (z : Kept). repeat (last_horizon (world_setup w) + 1) (kept_round_or_rest m) z in
    let none : (last_horizon (world_setup w) + 1) - c.rounds.left ≡ last_horizon (world_setup w) + 1 = omega (arith, c.rounds-test.false) in
    gone_as gives part kept_rounds w c.rounds.worlds (λ a. refl)
    (subst (λ n. HasManyGone gives (λ m z. repeat n (kept_round_or_rest m) z) w c.rounds.worlds) none c.rounds.invariant.gone)
