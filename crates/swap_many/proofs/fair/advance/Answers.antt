use Rattle.swap_run.specs.Fair.{repeat}
use Rattle.swap_many.specs.Fair.{kept_ticks}
use Rattle.swap_many.proofs.Gone.{on_gone}
use Rattle.swap_many.proofs.Nearby.{near_gone}
use Rattle.swap_many.proofs.Advancing.{advance_cut, advance_ends, advance_stops}
use Rattle.swap_many.proofs.Turning.{all_turns, round_cut, round_ends, round_stops}
use Rattle.swap_world.proofs.Ways.{if_err}
use Rattle.swap_many.proofs.fair.advance.Goals as goal

pub quiet_rounds-quiet-requires-clause-goes_on : goal.quiet_rounds-quiet-requires-clause-goes_on
quiet_rounds-quiet-requires-clause-goes_on g c = c.requires.on.goes_on

pub all_turns-requires-clause-near : goal.all_turns-requires-clause-near
all_turns-requires-clause-near g c =
    near_gone (g.A.Strategies.gives c.args.strategies.now) (λ m z. repeat c.quiet_rounds-quiet.result (kept_ticks m) z) c.args.worlds.now c.pass.new.worlds
    c.args.near.now c.in_ok-pass.ensures.ok c.requires.near

pub all_turns-requires-clause-on : goal.all_turns-requires-clause-on
all_turns-requires-clause-on g c =
    on_gone (g.A.Strategies.gives c.args.strategies.now) (λ m z. repeat c.quiet_rounds-quiet.result (kept_ticks m) z) c.args.worlds.now c.pass.new.worlds _
    c.in_ok-pass.ensures.ok c.requires.on

pub ticks-requires : goal.ticks-requires
ticks-requires g c =
    let gives = g.A.Strategies.gives c.args.strategies.now in
    record {
      on = on_gone gives all_turns c.pass.new.worlds c.all_turns.new.worlds _ c.in_ok-all_turns.ensures.ok
          (on_gone gives (λ m z. repeat c.quiet_rounds-quiet.result (kept_ticks m) z) c.args.worlds.now c.pass.new.worlds _ c.in_ok-pass.ensures.ok c.requires.on);
    }

pub returns-in_err-pass-clause-err : goal.returns-in_err-pass-clause-err
returns-in_err-pass-clause-err g c =
    let new = c.pass.new.worlds in
    let q = c.quiet_rounds-quiet.ensures in
    if_err _ (advance_cut (g.A.Strategies.gives c.args.strategies.now) c.args.worlds.now new new c.quiet_rounds-quiet.result c.requires.on.ready q.skips
    c.args.most q.few c.requires.some c.in_err-pass.ensures.err)

pub returns-in_err-all_turns-clause-err : goal.returns-in_err-all_turns-clause-err
returns-in_err-all_turns-clause-err g c =
    let gives = g.A.Strategies.gives c.args.strategies.now in
    let mid = c.pass.new.worlds in
    let on = on_gone gives (λ m z. repeat c.quiet_rounds-quiet.result (kept_ticks m) z) c.args.worlds.now mid _ c.in_ok-pass.ensures.ok c.requires.on in
    let q = c.quiet_rounds-quiet.ensures in
    if_err _ (advance_stops gives c.args.worlds.now mid c.all_turns.new.worlds c.quiet_rounds-quiet.result c.requires.on.ready q.skips c.args.most q.few
    c.requires.some c.in_ok-pass.ensures.ok (round_cut gives mid c.all_turns.new.worlds on.ready c.in_err-all_turns.ensures.err))

pub returns-in_err-ticks-clause-err : goal.returns-in_err-ticks-clause-err
returns-in_err-ticks-clause-err g c =
    let gives = g.A.Strategies.gives c.args.strategies.now in
    let mid = c.pass.new.worlds in
    let on = on_gone gives (λ m z. repeat c.quiet_rounds-quiet.result (kept_ticks m) z) c.args.worlds.now mid _ c.in_ok-pass.ensures.ok c.requires.on in
    let q = c.quiet_rounds-quiet.ensures in
    if_err _ (advance_stops gives c.args.worlds.now mid c.ticks.new.worlds c.quiet_rounds-quiet.result c.requires.on.ready q.skips c.args.most q.few
    c.requires.some c.in_ok-pass.ensures.ok
    (round_stops gives mid c.all_turns.new.worlds c.ticks.new.worlds c.in_ok-all_turns.ensures.ok on.ready c.in_err-ticks.ensures.err))

pub returns-clause-ok : goal.returns-clause-ok
returns-clause-ok g c =
    let gives = g.A.Strategies.gives c.args.strategies.now in
    advance_ends gives c.args.worlds.now c.pass.new.worlds c.ticks.new.worlds c.quiet_rounds-quiet.result c.requires.on.ready
    c.quiet_rounds-quiet.ensures.skips c.in_ok-pass.ensures.ok
    (round_ends gives c.pass.new.worlds c.all_turns.new.worlds c.ticks.new.worlds c.in_ok-all_turns.ensures.ok c.in_ok-ticks.ensures.ok)
