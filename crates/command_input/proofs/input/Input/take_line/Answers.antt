use Rattle.std.proofs.Common.{◌≡◌, ◌∙◌, false, refl, sym}
use Rattle.swap_io.specs.declared.line_end.LineEnd.TheVariants.{End, Ended, Rest}
use Rattle.command_input.proofs.Ahead.{counts, takes}
use Rattle.command_input.proofs.input.Input.take_line.Goals as goal

pub invariant_of-self-in-Ended : goal.invariant_of-self-in-Ended
invariant_of-self-in-Ended g c =
    let p = rw c.in-Ended.is at c.in_ok-next.ensures.next in
    let going : c.self.inside.over ≡ false = rw (← c.self.view_is) at c.requires.open_yet in (
      p.took.limit ∙ c.self.invariant.0,
      counts Ended _ _ _ _ _ c.self.inside.number p c.self.invariant.1,
      λ over. absurd (cc (sym going ∙ over)),
    )

pub returns-in-Ended-clause-takes : goal.returns-in-Ended-clause-takes
returns-in-Ended-clause-takes g c =
    let p = c.in_ok-next.ensures in
    let going : c.self.inside.over ≡ false = rw (← c.self.view_is) at c.requires.open_yet in
    rw (← c.self.view_is) (takes Ended _ _ _ c.in-Ended.is p.next p.too_long p.calm going c.self.invariant.0 c.self.invariant.1 refl going)

pub returns-in-Rest-clause-takes : goal.returns-in-Rest-clause-takes
returns-in-Rest-clause-takes g c =
    let p = c.in_ok-next.ensures in
    let going : c.self.inside.over ≡ false = rw (← c.self.view_is) at c.requires.open_yet in
    rw (← c.self.view_is) (takes Rest _ _ _ c.in-Rest.is p.next p.too_long p.calm going c.self.invariant.0 c.self.invariant.1 refl refl)

pub returns-in-End-clause-takes : goal.returns-in-End-clause-takes
returns-in-End-clause-takes g c =
    let p = c.in_ok-next.ensures in
    let going : c.self.inside.over ≡ false = rw (← c.self.view_is) at c.requires.open_yet in
    rw (← c.self.view_is) (takes End _ _ _ c.in-End.is p.next p.too_long p.calm going c.self.invariant.0 c.self.invariant.1 refl refl)
