use Rattle.std.proofs.Common.{◌≡◌, ◌∙◌, ◌++◌, ◌∷◌, [], ◌+◌, ◌≤◌, ℕ, List, Ok, length, subst, sym, ap, arith, length-append}
use Rattle.swap_base.specs.Fault.{Fails}
use Rattle.swap_clear.specs.declared.answer.Group.{Group}
use Rattle.swap_clear.specs.Clearing.{next_group, with_group, cleared_components}
use Rattle.swap_clear.proofs.Sizes.{groups_on, groups_fail, groups_end}
use Rattle.swap_clear.proofs.groups.groups.Goals as goal
use Rattle.swap_clear.proofs.groups.groups.Goals.{in-Some+in_ok-push-in-Some, in-None}

pub returns-in-Err : goal.returns-in-Err
unfolding cleared_components
returns-in-Err c =
    let size : c.len.result ≡ length c.loop-v.groups.items = omega (arith, c.len.ensures) in
    groups_fail c.in-Err.fault c.args.graph.now c.loop-v.groups.items c.loop-v.v c.args.graph.now.n _ (omega arith)
    (subst (λ (k : ℕ). Fails c.in-Err.fault (next_group c.args.graph.now k c.loop-v.v)) size c.in-Err.ensures) c.loop-v.invariant.goes_on

one_longer : (before after : List Group) (group : Group) (v : ℕ) → after ≡ before ++ group ∷ [] → length before ≤ v → length after ≤ v + 1
one_longer before after group v e few = let l = length-append before (group ∷ []) in let s = ap length e in omega (arith, l, s, few)

no_longer : (before after : List Group) (v : ℕ) → after ≡ before → length before ≤ v → length after ≤ v + 1
no_longer before after v e few = let s = ap length e in omega (arith, s, few)

pub loop-v-preserved : goal.loop-v-preserved
loop-v-preserved c =
    let size : c.len.result ≡ length c.loop-v.groups.items = omega (arith, c.len.ensures) in
    let made = ap (λ (k : ℕ). next_group c.args.graph.now k c.loop-v.v) (sym size) ∙ c.in-Ok.ensures in
    elim c.match-next.branch [
      | in-Some+in_ok-push-in-Some w ↦
          let after = ap (λ v. v.items) w.groups-is ∙ w.in_ok-push-in-Some.ensures.items in
          record {
            few = one_longer c.loop-v.groups.items c.match-next.groups.items _ c.loop-v.v after c.loop-v.invariant.few;
            goes_on = groups_on c.args.graph.now c.loop-v.groups.items c.match-next.groups.items c.loop-v.v c.args.graph.now.n c.in-Ok.next _ (omega arith)
                made (after ∙ sym (ap (with_group c.loop-v.groups.items) w.in-Some.is)) c.loop-v.invariant.goes_on;
          }
      | in-None w ↦
          let after = ap (λ v. v.items) w.groups-is in
          record {
            few = no_longer c.loop-v.groups.items c.match-next.groups.items c.loop-v.v after c.loop-v.invariant.few;
            goes_on = groups_on c.args.graph.now c.loop-v.groups.items c.match-next.groups.items c.loop-v.v c.args.graph.now.n c.in-Ok.next _ (omega arith)
                made (after ∙ sym (ap (with_group c.loop-v.groups.items) w.in-None.is)) c.loop-v.invariant.goes_on;
          }
    ]

pub returns : goal.returns
unfolding cleared_components
returns c =
    groups_end c.args.graph.now c.loop-v.groups.items c.loop-v.v c.args.graph.now.n _ (omega arith) c.loop-v.invariant.goes_on
    ∙ ap (λ (xs : List Group). Ok xs) (sym c.new.ensures)
