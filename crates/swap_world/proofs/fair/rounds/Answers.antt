use Rattle.std.proofs.Common.{◌≡◌, ◌+◌, ◌-◌, true, arith, sym, ◌∙◌, subst}
use Rattle.swap_run.specs.Fair.{repeat, the_horizon, is_above_horizon, round_unless_ended}
use Rattle.swap_world.specs.Value.{answering_cast}
use Rattle.swap_world.specs.Gone.{HasGone}
use Rattle.swap_world.specs.TouchingArcs.{all_adjacent}
use Rattle.swap_world.proofs.Ways.{if_err}
use Rattle.swap_world.proofs.Gone.{begun, deal_gone, goes_on_gone, held_gone}
use Rattle.swap_world.proofs.Loops.{repeat_rests}
use Rattle.swap_world.proofs.Finishes.{is_rest, goes_further, stops_further, finish_is, finish_stops_at}
use Rattle.swap_world.proofs.fair.rounds.Goals as goal

pub rounds-init : goal.rounds-init
rounds-init g c =
    let gives = g.A.Strategies.gives c.args.strategies.now in
    let w = c.args.world.now in
    let h : c.deal_horizon-left.result ≡ the_horizon w.deal = rw c.deal.ensures.value at c.deal_horizon-left.ensures in
    let all = the_horizon w.deal + 1 in
    let none : 0 ≡ all - (c.deal_horizon-left.result + 1) = omega (arith, h) in
    record {
      few = omega (arith, h);
      gone = subst (λ n. HasGone gives (λ x s. repeat n (round_unless_ended x) s) w w) none (begun gives w);
    }

pub advance-requires-clause-near : goal.advance-requires-clause-near
advance-requires-clause-near g c =
    let w = c.args.world.now in
    subst (λ d. c.args.near.now ≡ all_adjacent d) (sym (deal_gone (g.A.Strategies.gives c.args.strategies.now)
    (λ x s. repeat ((the_horizon w.deal + 1) - c.rounds.left) (round_unless_ended x) s) w c.rounds.world c.rounds.invariant.gone)) c.requires.near

pub advance-requires-clause-goes_on : goal.advance-requires-clause-goes_on
advance-requires-clause-goes_on g c =
    let w = c.args.world.now in
    goes_on_gone (g.A.Strategies.gives c.args.strategies.now) (λ x s. repeat ((the_horizon w.deal + 1) - c.rounds.left) (round_unless_ended x) s) w c.rounds.world
    c.rounds.invariant.gone c.requires.goes_on

pub advance-requires-clause-low : goal.advance-requires-clause-low
advance-requires-clause-low g c = sym c.is_above_horizon.ensures ∙ c.if-is_above_horizon.false

pub advance-requires-clause-held : goal.advance-requires-clause-held
advance-requires-clause-held g c =
    let w = c.args.world.now in
    held_gone (g.A.Strategies.gives c.args.strategies.now) (λ x s. repeat ((the_horizon w.deal + 1) - c.rounds.left) (round_unless_ended x) s) w c.rounds.world _
    c.rounds.invariant.gone c.requires.held

pub rounds-preserved : goal.rounds-preserved
rounds-preserved g c =
    let w = c.args.world.now in
    let i = c.rounds.invariant in
    record {
      few = omega (arith, i.few);
      gone = goes_further (g.A.Strategies.gives c.args.strategies.now) w c.rounds.world c.advance.new.world (the_horizon w.deal + 1) c.rounds.left
          c.in_ok-taken.taken i.few c.in_ok-taken.ensures.few i.gone c.in_ok-taken.ensures.ok;
    }

pub returns-then-is_above_horizon-clause-ok : goal.returns-then-is_above_horizon-clause-ok
returns-then-is_above_horizon-clause-ok g c =
    let gives = g.A.Strategies.gives c.args.strategies.now in
    let w = c.args.world.now in
    let mid = c.rounds.world in
    let all = the_horizon w.deal + 1 in
    let e : is_above_horizon mid.deal mid.state.book ≡ true = sym c.is_above_horizon.ensures ∙ c.if-is_above_horizon.true in
    finish_is gives w mid (repeat_rests gives round_unless_ended w mid mid all (all - c.rounds.left) c.rounds.invariant.gone (omega arith)
    (λ a. is_rest (answering_cast mid a) mid.state e))

pub returns-in_err-taken-clause-err : goal.returns-in_err-taken-clause-err
returns-in_err-taken-clause-err g c =
    let gives = g.A.Strategies.gives c.args.strategies.now in
    let w = c.args.world.now in
    let i = c.rounds.invariant in
    let k = c.in_err-taken.ensures.err in
    if_err _ (finish_stops_at gives w c.advance.new.world (stops_further gives w c.rounds.world c.advance.new.world (the_horizon w.deal + 1) c.rounds.left
    k.0 i.few k.1 i.gone k.2))

pub returns-clause-ok : goal.returns-clause-ok
returns-clause-ok g c =
    let gives = g.A.Strategies.gives c.args.strategies.now in
    let w = c.args.world.now in
    let none : (the_horizon w.deal + 1) - c.rounds.left ≡ the_horizon w.deal + 1 = omega (arith, c.rounds-test.false) in
    finish_is gives w c.rounds.world (subst (λ n. HasGone gives (λ x s. repeat n (round_unless_ended x) s) w c.rounds.world) none c.rounds.invariant.gone)
