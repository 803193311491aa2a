use Rattle.std.proofs.Common.{◌∙◌, ◌<◌, ℕ, length, subst, sym, ap}
use Rattle.swap_clear.proofs.groups.led_group.Goals as goal

pub named-requires : goal.named-requires
named-requires c k i = subst (λ (n : ℕ). k < n) (sym (ap length c.as_slice-2.ensures ∙ c.requires.set)) (c.requires.leaders k i)
