use Rattle.std.proofs.Common.{◌∙◌, ℕ, List, length, subst, ap, arith}
use Rattle.swap_base.specs.Lists.{IsElement}
use Rattle.swap_clear.proofs.Leading.{lead_in}
use Rattle.swap_clear.proofs.Sizes.{leaders_few}
use Rattle.swap_clear.proofs.groups.make_group.Goals as goal

pub overflow_cast-result : goal.overflow_cast-result
overflow_cast-result c =
    let few = leaders_few c.args.own.now in
    let size = ap length c.in_ok-leaders.ensures in
    let l = c.len-then-len-gt8.ensures in
    omega (arith, few, size, l)

pub led_group-requires-clause-leaders : goal.led_group-requires-clause-leaders
led_group-requires-clause-leaders c v i =
    lead_in c.args.own.now v (subst (λ (xs : List ℕ). IsElement v xs) (c.deref.ensures.value ∙ c.in_ok-leaders.ensures) i)
