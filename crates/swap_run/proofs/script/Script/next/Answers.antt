use Rattle.std.proofs.Common.{sym, ◌∙◌}
use Rattle.swap_job.specs.Fitting.{IsPartyMove}
use Rattle.swap_run.proofs.Scripts.{low_heights, may_resolve, move_from}
use Rattle.swap_run.proofs.script.Script.next.Goals as goal

pub after_waits-at-requires-clause-low : goal.after_waits-at-requires-clause-low
after_waits-at-requires-clause-low c = low_heights c.args.deal.now c.args.known.now.histories c.requires.view.legal

pub resolve-requires-clause-fits : goal.resolve-requires-clause-fits
resolve-requires-clause-fits c =
    let l = c.in-Some.ensures.lookup in
    (move_from (IsPartyMove c.args.deal.now c.args.seeds.now c.args.me) c.self.inside.moves c.as_slice-2.result.now c.self.inside.made
    c.after_waits-at.result c.in-Some.mv.now c.as_slice-2.ensures (rw (← c.self.view_is) at c.requires.moves) c.after_waits-at.ensures.later
    l.3.0 l.1).fits

pub returns-clause-fits : goal.returns-clause-fits
returns-clause-fits c =
    let l = c.in-Some.ensures.lookup in
    λ x q. may_resolve c.args.deal.now c.args.seeds.now c.args.me c.args.known.now.histories c.in-Some.mv.now c.requires.view.legal
    (move_from (IsPartyMove c.args.deal.now c.args.seeds.now c.args.me) c.self.inside.moves c.as_slice-2.result.now c.self.inside.made
    c.after_waits-at.result c.in-Some.mv.now c.as_slice-2.ensures (rw (← c.self.view_is) at c.requires.moves) c.after_waits-at.ensures.later
    l.3.0 l.1) x (sym c.in_ok-call.ensures.exact ∙ q)
