use Rattle.std.proofs.Common.{◌++◌, ◌<◌, ◌∙◌, [], length, arith, refl}
use Rattle.std.proofs.lemmas.Grind.{common_steps}
use Rattle.swap_io.proofs.Feeds.{calm_after, is_ended, is_rest, more_taken, not_past, still_lacks, took_none, took_on, took_same}
use Rattle.swap_io.proofs.lines.Lines.next.Goals as goal

-- More bytes than may be were taken before.

pub returns-then-exceeds_limit-clause-next : goal.returns-then-exceeds_limit-clause-next
returns-then-exceeds_limit-clause-next g c = tt

pub returns-then-exceeds_limit-clause-few : goal.returns-then-exceeds_limit-clause-few
returns-then-exceeds_limit-clause-few g c = c.exceeds_limit.ensures.few

pub returns-then-exceeds_limit-clause-no_more : goal.returns-then-exceeds_limit-clause-no_more
returns-then-exceeds_limit-clause-no_more g c = omega arith

pub returns-then-exceeds_limit-clause-takes : goal.returns-then-exceeds_limit-clause-takes
returns-then-exceeds_limit-clause-takes g c = ([], took_none _ _ _ refl refl)

pub returns-then-exceeds_limit-clause-most : goal.returns-then-exceeds_limit-clause-most
returns-then-exceeds_limit-clause-most g c = c.exceeds_limit.ensures.most

pub returns-then-exceeds_limit-clause-end : goal.returns-then-exceeds_limit-clause-end
returns-then-exceeds_limit-clause-end g c = tt

pub returns-then-exceeds_limit-clause-too_long : goal.returns-then-exceeds_limit-clause-too_long
returns-then-exceeds_limit-clause-too_long g c = (λ _. c.exceeds_limit.ensures.past.0 c.if-exceeds_limit.true, λ _. refl)

pub returns-then-exceeds_limit-clause-later : goal.returns-then-exceeds_limit-clause-later
returns-then-exceeds_limit-clause-later g c = omega arith

pub returns-then-exceeds_limit-clause-failed : goal.returns-then-exceeds_limit-clause-failed
returns-then-exceeds_limit-clause-failed g c = λ e. absurd (cc e)

-- The line took no memory.

pub returns-in_err-take_line-clause-few : goal.returns-in_err-take_line-clause-few
returns-in_err-take_line-clause-few g c = omega (arith, c.parts.invariant.few, c.take_line.ensures.no_more)

pub returns-in_err-take_line-clause-no_more : goal.returns-in_err-take_line-clause-no_more
returns-in_err-take_line-clause-no_more g c = omega (arith, c.parts.invariant.no_more, c.take_line.ensures.taken, c.take_line.ensures.no_more)

pub returns-in_err-take_line-clause-takes : goal.returns-in_err-take_line-clause-takes
returns-in_err-take_line-clause-takes g c =
    let r = c.parts.invariant.read in
    (r.0, took_same _ _ _ _ _ _ r.1 c.take_line.ensures.taken c.take_line.ensures.limit)

pub returns-in_err-take_line-clause-most : goal.returns-in_err-take_line-clause-most
returns-in_err-take_line-clause-most g c = omega (arith, c.parts.invariant.within, c.take_line.ensures.taken, c.take_line.ensures.limit)

pub returns-in_err-take_line-clause-later : goal.returns-in_err-take_line-clause-later
returns-in_err-take_line-clause-later g c = c.parts.invariant.later

-- Nothing more was read.

pub returns-in_err-fill-clause-few : goal.returns-in_err-fill-clause-few
returns-in_err-fill-clause-few g c = c.fill.ensures.few

pub returns-in_err-fill-clause-no_more : goal.returns-in_err-fill-clause-no_more
returns-in_err-fill-clause-no_more g c =
    omega (arith, c.parts.invariant.no_more, c.take_line.ensures.taken, c.take_line.ensures.no_more, c.fill.ensures.no_more)

pub returns-in_err-fill-clause-most : goal.returns-in_err-fill-clause-most
returns-in_err-fill-clause-most g c = c.fill.ensures.most

pub returns-in_err-fill-clause-later : goal.returns-in_err-fill-clause-later
returns-in_err-fill-clause-later g c = omega (arith, c.parts.invariant.later, c.fill.ensures.later)

pub returns-in_err-fill-clause-takes : goal.returns-in_err-fill-clause-takes
returns-in_err-fill-clause-takes g c =
    let r = c.parts.invariant.read in
    let t = c.fill.ensures.takes in
    (r.0 ++ t.0, took_on _ _ _ _ _ _ _ _ (took_same _ _ _ _ _ _ r.1 c.take_line.ensures.taken c.take_line.ensures.limit) t.1)

-- The input ended.

pub returns-then-is_empty-clause-few : goal.returns-then-is_empty-clause-few
returns-then-is_empty-clause-few g c = c.fill.ensures.few

pub returns-then-is_empty-clause-no_more : goal.returns-then-is_empty-clause-no_more
returns-then-is_empty-clause-no_more g c =
    omega (arith, c.parts.invariant.no_more, c.take_line.ensures.taken, c.take_line.ensures.no_more, c.fill.ensures.no_more)

pub returns-then-is_empty-clause-takes : goal.returns-then-is_empty-clause-takes
returns-then-is_empty-clause-takes g c =
    let r = c.parts.invariant.read in
    let t = c.fill.ensures.takes in
    (r.0 ++ t.0, took_on _ _ _ _ _ _ _ _ (took_same _ _ _ _ _ _ r.1 c.take_line.ensures.taken c.take_line.ensures.limit) t.1)

pub returns-then-is_empty-clause-most : goal.returns-then-is_empty-clause-most
returns-then-is_empty-clause-most g c = c.fill.ensures.most

pub returns-then-is_empty-clause-later : goal.returns-then-is_empty-clause-later
returns-then-is_empty-clause-later g c = omega (arith, c.parts.invariant.later, c.fill.ensures.later)

pub returns-else-is_empty-clause-few : goal.returns-else-is_empty-clause-few
returns-else-is_empty-clause-few g c = c.fill.ensures.few

pub returns-else-is_empty-clause-no_more : goal.returns-else-is_empty-clause-no_more
returns-else-is_empty-clause-no_more g c =
    omega (arith, c.parts.invariant.no_more, c.take_line.ensures.taken, c.take_line.ensures.no_more, c.fill.ensures.no_more)

pub returns-else-is_empty-clause-takes : goal.returns-else-is_empty-clause-takes
returns-else-is_empty-clause-takes g c =
    let r = c.parts.invariant.read in
    let t = c.fill.ensures.takes in
    (r.0 ++ t.0, took_on _ _ _ _ _ _ _ _ (took_same _ _ _ _ _ _ r.1 c.take_line.ensures.taken c.take_line.ensures.limit) t.1)

pub returns-else-is_empty-clause-most : goal.returns-else-is_empty-clause-most
returns-else-is_empty-clause-most g c = c.fill.ensures.most

pub returns-else-is_empty-clause-later : goal.returns-else-is_empty-clause-later
returns-else-is_empty-clause-later g c = omega (arith, c.parts.invariant.later, c.fill.ensures.later)

pub returns-else-is_empty-clause-next : goal.returns-else-is_empty-clause-next
returns-else-is_empty-clause-next g c =
    let r = c.parts.invariant.read in
    let some : 0 < length c.take_line.new.line.items = grind (arith, common_steps) in
    is_rest _ _ _ _ _ _ _ _ _ _ c.in_ok-take_line.field-0 c.in_ok-fill.field-0 c.if-not-branch.true c.if-not-branch-2.true r.1 r.2 c.parts.invariant.one
    c.in_ok-take_line.ensures.line c.take_line.ensures.taken c.take_line.ensures.limit c.in_ok-fill.ensures.filled some

pub parts-preserved : goal.parts-preserved
parts-preserved g c =
    let r = c.parts.invariant.read in
    record {
      read = more_taken _ _ _ _ _ _ _ _ _ _ c.in_ok-take_line.field-0 c.in_ok-fill.field-0 c.if-not-branch.true c.if-not-branch-2.false r.1 r.2
          c.in_ok-take_line.ensures.line c.take_line.ensures.taken c.take_line.ensures.limit c.in_ok-fill.ensures.filled;
      one = still_lacks _ _ _ _ c.in_ok-take_line.field-0 c.if-not-branch.true c.parts.invariant.one c.in_ok-take_line.ensures.line;
      no_more = omega (arith, c.parts.invariant.no_more, c.take_line.ensures.taken, c.take_line.ensures.no_more, c.fill.ensures.no_more);
      few = c.fill.ensures.few;
      within = not_past _ _ _ _ c.in_ok-fill.ensures.too_long;
      later = omega (arith, c.fill.ensures.later);
      calm = calm_after _ _ _ _ c.in_ok-fill.ensures.calm ∙ c.parts.invariant.calm;
    }

-- A line feed ended the line.

pub returns-clause-few : goal.returns-clause-few
returns-clause-few g c = omega (arith, c.parts.invariant.few, c.take_line.ensures.no_more)

pub returns-clause-no_more : goal.returns-clause-no_more
returns-clause-no_more g c = omega (arith, c.parts.invariant.no_more, c.take_line.ensures.taken, c.take_line.ensures.no_more)

pub returns-clause-takes : goal.returns-clause-takes
returns-clause-takes g c =
    let r = c.parts.invariant.read in
    (r.0, took_same _ _ _ _ _ _ r.1 c.take_line.ensures.taken c.take_line.ensures.limit)

pub returns-clause-most : goal.returns-clause-most
returns-clause-most g c = omega (arith, c.parts.invariant.within, c.take_line.ensures.taken, c.take_line.ensures.limit)

pub returns-clause-later : goal.returns-clause-later
returns-clause-later g c = c.parts.invariant.later

pub returns-clause-next : goal.returns-clause-next
returns-clause-next g c =
    let r = c.parts.invariant.read in
    is_ended _ _ _ _ _ _ _ _ c.in_ok-take_line.field-0 c.if-not-branch.false r.1 r.2 c.parts.invariant.one c.in_ok-take_line.ensures.line
    c.take_line.ensures.taken c.take_line.ensures.limit
