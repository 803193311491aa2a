use Rattle.std.proofs.Common.{sym, ◌∙◌}
use Rattle.swap_many.specs.Fair.{kept_looks}
use Rattle.swap_many.proofs.Gone.{on_gone, on_ok, on_err}
use Rattle.swap_world.proofs.Ways.{if_err}
use Rattle.swap_many.proofs.Turning as lemmas
use Rattle.swap_many.proofs.fair.turn.Goals as goal

pub returns-in_err-look_around-clause-err : goal.returns-in_err-look_around-clause-err
returns-in_err-look_around-clause-err g c =
    let gives = g.A.Strategies.gives c.args.strategies.now in
    let w = c.args.worlds.now in
    let mid = c.look_around.new.worlds in
    if_err _ (lemmas.turn_cut gives w mid mid c.args.swap c.args.p c.requires.on.ready c.requires.party c.in_err-look_around.ensures.err)

pub act_to_rest-requires-clause-on : goal.act_to_rest-requires-clause-on
act_to_rest-requires-clause-on g c =
    let gives = g.A.Strategies.gives c.args.strategies.now in
    let w = c.args.worlds.now in
    let mid = c.look_around.new.worlds in
    on_gone gives (kept_looks c.args.swap c.args.p) w mid _ c.in_ok-look_around.ensures.ok c.requires.on

pub returns-then-conforms-clause-ok : goal.returns-then-conforms-clause-ok
returns-then-conforms-clause-ok g c =
    let gives = g.A.Strategies.gives c.args.strategies.now in
    let w = c.args.worlds.now in
    let mid = c.look_around.new.worlds in
    on_ok c.act_to_rest.result (lemmas.turn_acts gives w mid c.act_to_rest.new.worlds c.args.swap c.args.p c.requires.on.ready c.requires.party
    c.in_ok-look_around.ensures.ok (sym c.conforms.ensures ∙ c.if-conforms.true)) c.act_to_rest.ensures.ok

pub returns-then-conforms-clause-err : goal.returns-then-conforms-clause-err
returns-then-conforms-clause-err g c =
    let gives = g.A.Strategies.gives c.args.strategies.now in
    let w = c.args.worlds.now in
    let mid = c.look_around.new.worlds in
    on_err c.act_to_rest.result (lemmas.turn_acts_stop gives w mid c.act_to_rest.new.worlds c.args.swap c.args.p c.requires.on.ready c.requires.party
    c.in_ok-look_around.ensures.ok (sym c.conforms.ensures ∙ c.if-conforms.true)) c.act_to_rest.ensures.err

pub returns-in_err-happen-clause-err : goal.returns-in_err-happen-clause-err
returns-in_err-happen-clause-err g c =
    let gives = g.A.Strategies.gives c.args.strategies.now in
    let w = c.args.worlds.now in
    let mid = c.look_around.new.worlds in
    if_err _ (lemmas.turn_act_stop gives w mid c.happen.new.self c.args.swap c.args.p c.requires.on.ready c.requires.party
    c.in_ok-look_around.ensures.ok (sym c.conforms.ensures ∙ c.if-conforms.false) c.in_err-happen.ensures.err)

pub returns-clause-ok : goal.returns-clause-ok
returns-clause-ok g c =
    let gives = g.A.Strategies.gives c.args.strategies.now in
    let w = c.args.worlds.now in
    let mid = c.look_around.new.worlds in
    lemmas.turn_act gives w mid c.happen.new.self c.args.swap c.args.p c.requires.on.ready c.requires.party
    c.in_ok-look_around.ensures.ok (sym c.conforms.ensures ∙ c.if-conforms.false) c.in_ok-happen.ensures.ok
