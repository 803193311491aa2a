use Rattle.std.proofs.Common.{◌≡◌, ◌<◌, ◌∙◌, ap, sym, subst, true}
use Rattle.swap_digraph.specs.declared.deal.Deal.{Deal}
use Rattle.swap_rules.specs.Laws.{IsDealt}
use Rattle.swap_run.specs.Run.{Cast, conforms, start}
use Rattle.outcome_rules.specs.Report.{is_conforming_party}
use Rattle.swap_world.specs.Gone.{HasGone}
use Rattle.swap_world.specs.Actors.{AreHeld}
use Rattle.swap_world.proofs.Ledgers.{on_ok}
use Rattle.made_jobs.specs.Generating.{IsJobWorld}
use Rattle.swap_commands.specs.Output.{finished_state}
use Rattle.swap_commands.proofs.Replays.{same_cast, stays_finished}
use Rattle.swap_commands.proofs.finish.finish.Goals as goal

pub finish_fair-requires : goal.finish_fair-requires
finish_fair-requires g c = record {
  held = subst (λ rs. AreHeld (g.A.Strategies.holds c.args.strategies.now) rs) (sym c.requires.of.roles) c.requires.held;
}

pub returns-in-Stop-clause-gone : goal.returns-in-Stop-clause-gone
returns-in-Stop-clause-gone g c =
    subst (λ f. HasGone (g.A.Strategies.gives c.args.strategies.now) (finished_state f) c.args.world.now c.args.world.now) (sym c.in-Stop.is)
    (stays_finished (g.A.Strategies.gives c.args.strategies.now) c.args.world.now)

pub returns-in-Fair-clause-gone : goal.returns-in-Fair-clause-gone
returns-in-Fair-clause-gone g c =
    on_ok c.finish_fair.result (λ k. subst (λ f. HasGone (g.A.Strategies.gives c.args.strategies.now) (finished_state f) c.args.world.now c.finish_fair.new.self)
    (sym c.in-Fair.is) k) c.finish_fair.ensures.ok

pub returns-in-Fair-clause-dealt : goal.returns-in-Fair-clause-dealt
returns-in-Fair-clause-dealt g c =
    let job = c.args.job.now in
    let w = c.args.world.now in
    let of : IsJobWorld job w = c.requires.of in
    let same = same_cast job w of in
    on_ok c.finish_fair.result (λ k fair begun all.
    subst (λ (d : Deal). IsDealt d (is_conforming_party job.conforming) c.finish_fair.new.self.state.book) of.deal
    (subst (λ (t : Cast). IsDealt w.deal (conforms t) c.finish_fair.new.self.state.book) same
    (k (λ v lt. subst (λ (t : Cast). conforms t v ≡ true) (sym same) (all v (subst (λ (d : Deal). v < d.graph.n) of.deal lt)))
    (begun ∙ ap start (sym same))))) c.finish_fair.ensures.dealt
