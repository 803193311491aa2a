use Rattle.std.proofs.Common.{◌≡◌, ◌∙◌, sym, ap, Bool, true, false, not, is_some, refl}
use Rattle.swap_base.proofs.Lists.{none_of}
use Rattle.leader_check.specs.Cycles.{follower_cycle}
use Rattle.leader_check.proofs.Walks.{none_feedback, feedback_none}
use Rattle.leader_check.proofs.check.is_feedback.Goals as goal

not-true : (b : Bool) → not b ≡ true → b ≡ false
not-true false h = refl
not-true true h = absurd (cc h)

pub returns-clause-feedback : goal.returns-clause-feedback
returns-clause-feedback c = (
  λ h. none_feedback c.args.graph.now c.args.leaders.now
      (none_of (follower_cycle c.args.graph.now c.args.leaders.now) (sym c.in_ok-levels_rise.ensures ∙ not-true c.in_ok-levels_rise.field-0 h)),
  λ feedback. ap not (c.in_ok-levels_rise.ensures ∙ ap is_some (feedback_none c.args.graph.now c.args.leaders.now feedback)),
)
