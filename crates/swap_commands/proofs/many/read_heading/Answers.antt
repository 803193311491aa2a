use Rattle.std.proofs.Common.{◌≡◌, ◌+◌, ◌∙◌, ℕ, Bool, List, Ok, Err, arith, false, is_some, not, sym, ap, subst, refl}
use Rattle.std.proofs.lemmas.Result.{err_from_is_err_and}
use Rattle.swap_base.specs.Fault.{Fails}
use Rattle.offer_header.specs.Names.{has_strategy}
use Rattle.many_lines.specs.Heading.{HeadingState, finish_told, line_taken, nothing_headed}
use Rattle.many_lines.specs.Whole.{HoldsEverySwap}
use Rattle.command_input.specs.Input.{InputProgress, ahead, desk, fresh}
use Rattle.swap_commands.specs.Many.{headed}
use Rattle.swap_commands.proofs.ManyTold.{heading_cut, heading_next, heading_read, heading_step, heading_walk}
use Rattle.swap_commands.proofs.ManyWorlds.{unread_holds}
use Rattle.command_input.proofs.Streams.{Led, fits_fresh, last_run, led_none, led_on_at, led_stops, led_to_fault_at, line_of, nothing_read}
use Rattle.swap_commands.proofs.many.read_heading.Goals as goal

pub returns-in_err-names-clause-reads : goal.returns-in_err-names-clause-reads
returns-in_err-names-clause-reads g c =
    let p = err_from_is_err_and c.from_residual.result c.from_residual.ensures.1 in
    rw (p.1, p.2, c.requires) (nothing_read (g.S.Source.left c.args.source.now) (g.S.Source.faults c.args.source.now))

pub returns-in_err-heading-clause-reads : goal.returns-in_err-heading-clause-reads
returns-in_err-heading-clause-reads g c =
    let p = err_from_is_err_and c.from_residual-in_err-heading.result c.from_residual-in_err-heading.ensures.1 in
    rw (p.1, p.2, c.requires) (nothing_read (g.S.Source.left c.args.source.now) (g.S.Source.faults c.args.source.now))

pub lines-init : goal.lines-init
lines-init g c =
    let has = g.A.Strategies.holds c.args.strategies.now in
    let left = g.S.Source.left c.args.source.now in
    let n = g.S.Source.faults c.args.source.now in
    let first : c.args.input.now ≡ fresh = c.requires in
    let new : c.in_ok-heading.heading ≡ nothing_headed = c.in_ok-heading.ensures in
    record {
      led = (
        0,
        subst (λ (i : InputProgress). Led (heading_walk has) (desk left n fresh) nothing_headed (desk left n i) 0 c.in_ok-heading.heading) (sym first)
            (subst (λ (h : HeadingState). Led (heading_walk has) (desk left n fresh) nothing_headed (desk left n fresh) 0 h) (sym new)
            (led_none (heading_walk has) (desk left n fresh) nothing_headed (fits_fresh left fresh refl))),
      );
      held = subst (λ (h : HeadingState). HoldsEverySwap has h.many) (sym new) (unread_holds has);
    }

pub next-requires : goal.next-requires
next-requires g c = c.lines.invariant.led.1.stands.fits

pub returns-in_err-next-clause-reads : goal.returns-in_err-next-clause-reads
returns-in_err-next-clause-reads g c =
    let has = g.A.Strategies.holds c.args.strategies.now in
    let now = desk (g.S.Source.left c.next.new.source) (g.S.Source.faults c.next.new.source) c.next.new.self in
    let p = err_from_is_err_and c.from_residual-in_err-next.result c.from_residual-in_err-next.ensures.1 in
    rw (p.1, p.2)
    (led_stops _ _ _ (λ bytes r. headed has (ahead fresh bytes) ≡ Err r) _ now _ _ c.lines.invariant.led.1 c.in_err-next.field-0.0
    c.in_err-next.ensures.fails)

pub returns-then-not-branch-clause-reads : goal.returns-then-not-branch-clause-reads
returns-then-not-branch-clause-reads g c =
    let now = desk (g.S.Source.left c.next.new.source) (g.S.Source.faults c.next.new.source) c.next.new.self in
    let not_over : is_some (finish_told c.lines.heading.stage) ≡ false =
    ap is_some (sym c.finish.ensures) ∙ (c.is_none.ensures ∙ ap not c.lines-test.true) in
    heading_cut _ _ _ now _ c.lines.heading c.cut_short.result c.cut_short.ensures not_over c.lines.invariant.led.1
    (last_run _ _ _ c.if-not-branch.true c.in_ok-next.ensures.gives)

pub lines-preserved : goal.lines-preserved
lines-preserved g c =
    let has = g.A.Strategies.holds c.args.strategies.now in
    let i = c.lines.invariant in
    let not_over : is_some (finish_told c.lines.heading.stage) ≡ false =
    ap is_some (sym c.finish.ensures) ∙ (c.is_none.ensures ∙ ap not c.lines-test.true) in
    let line = line_of _ _ _ c.if-not-branch.false c.in_ok-next.ensures.gives in
    let same = ap has_strategy c.as_slice.ensures ∙ c.in_ok-names.ensures in
    let takes = subst (λ (x : List ℕ → Bool). line_taken x c.lines.heading c.number.result c.text.result.now ≡ Ok c.push.new.self) same
    c.in_ok-push.ensures.takes in
    let holds = subst (λ (x : List ℕ → Bool). HoldsEverySwap x c.lines.heading.many → HoldsEverySwap x c.push.new.self.many) same
    c.in_ok-push.ensures.held in
    record {
      led = (
        i.led.0 + 1,
        led_on_at (heading_walk has) _ _ (heading_next has) _ _ i.led.0 c.lines.heading c.push.new.self
            (heading_step has i.led.0 c.lines.heading not_over) i.led.1 line (rw (c.number.ensures, c.text.ensures) at takes),
      );
      held = holds i.held;
    }

pub lines-smaller : goal.lines-smaller
lines-smaller g c =
    let line = line_of _ _ _ c.if-not-branch.false c.in_ok-next.ensures.gives in
    omega (arith, line.counted, line.few)

pub returns-in_err-push-clause-reads : goal.returns-in_err-push-clause-reads
returns-in_err-push-clause-reads g c =
    let has = g.A.Strategies.holds c.args.strategies.now in
    let i = c.lines.invariant in
    let now = desk (g.S.Source.left c.next.new.source) (g.S.Source.faults c.next.new.source) c.next.new.self in
    let not_over : is_some (finish_told c.lines.heading.stage) ≡ false =
    ap is_some (sym c.finish.ensures) ∙ (c.is_none.ensures ∙ ap not c.lines-test.true) in
    let line = line_of _ _ _ c.if-not-branch.false c.in_ok-next.ensures.gives in
    let p = err_from_is_err_and c.from_residual-in_err-push.result c.from_residual-in_err-push.ensures.1 in
    let same = ap has_strategy c.as_slice.ensures ∙ c.in_ok-names.ensures in
    let takes = subst (λ (x : List ℕ → Bool). Fails c.in_err-push.field-0.0 (line_taken x c.lines.heading c.number.result c.text.result.now)) same
    c.in_err-push.ensures.takes in
    rw (p.1, p.2)
    (led_to_fault_at (heading_walk has) _ _ (heading_next has) _ now i.led.0 c.lines.heading c.in_err-push.field-0.0
    (heading_step has i.led.0 c.lines.heading not_over) i.led.1 line (rw (c.number.ensures, c.text.ensures) at takes))

pub returns-clause-reads : goal.returns-clause-reads
returns-clause-reads g c =
    heading_read _ _ _ c.lines.invariant.led.0 c.lines.heading c.lines.invariant.led.1
    (ap is_some (sym c.finish.ensures) ∙ (c.is_none.ensures ∙ ap not c.lines-test.false))
