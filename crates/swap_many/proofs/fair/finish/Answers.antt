use Rattle.std.proofs.Common.{refl}
use Rattle.swap_many.specs.Kept.{kept_finish}
use Rattle.swap_many.specs.Fair.{kept_rounds, kept_sweeps}
use Rattle.swap_many.proofs.Gone.{gone_as, gone_then, on_gone, stopped_as, stopped_then}
use Rattle.swap_world.proofs.Ways.{if_err}
use Rattle.swap_many.proofs.Turning as lemmas
use Rattle.swap_many.proofs.fair.finish.Goals as goal

pub returns-in_err-listed_rounds-clause-err : goal.returns-in_err-listed_rounds-clause-err
returns-in_err-listed_rounds-clause-err g c =
    let gives = g.A.Strategies.gives c.args.strategies.now in
    let w = c.args.worlds.now in
    let mid = c.listed_rounds.new.worlds in
    if_err _ (stopped_as gives (λ m z. kept_sweeps m (kept_rounds m z)) kept_finish w mid (λ a. refl)
    (stopped_then gives kept_rounds kept_sweeps w mid c.requires.on.ready (lemmas.sweeps_lead w c.requires.on.ready) c.in_err-listed_rounds.ensures.err))

pub sweeps-requires : goal.sweeps-requires
sweeps-requires g c =
    let gives = g.A.Strategies.gives c.args.strategies.now in
    let w = c.args.worlds.now in
    let mid = c.listed_rounds.new.worlds in
    record { on = on_gone gives kept_rounds w mid _ c.in_ok-listed_rounds.ensures.ok c.requires.on }

pub returns-clause-ok : goal.returns-clause-ok
returns-clause-ok g c =
    let gives = g.A.Strategies.gives c.args.strategies.now in
    let w = c.args.worlds.now in
    let mid = c.listed_rounds.new.worlds in
    gone_as gives (λ m z. kept_sweeps m (kept_rounds m z)) kept_finish w c.sweeps.new.worlds (λ a. refl)
    (gone_then gives kept_rounds kept_sweeps w mid c.sweeps.new.worlds c.in_ok-listed_rounds.ensures.ok c.sweeps.ensures)
