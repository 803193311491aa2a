use Rattle.std.proofs.Common.{◌++◌, ◌∙◌, arith}
use Rattle.swap_io.proofs.Feeds.{calm_after, not_past, took_on}
use Rattle.swap_io.proofs.lines.Lines.drain.Goals as goal

pub returns-in_err-pull-clause-takes : goal.returns-in_err-pull-clause-takes
returns-in_err-pull-clause-takes g c =
    let t = c.pull.ensures.takes in
    (c.rest.invariant.read.0 ++ t.0, took_on _ _ _ _ _ _ _ _ c.rest.invariant.read.1 t.1)

pub rest-preserved : goal.rest-preserved
rest-preserved g c =
    let t = c.pull.ensures.takes in
    record {
      read = (c.rest.invariant.read.0 ++ t.0, took_on _ _ _ _ _ _ _ _ c.rest.invariant.read.1 t.1);
      kept = c.pull.ensures.kept ∙ c.rest.invariant.kept;
      within = not_past _ _ _ _ c.in_ok-pull.ensures.too_long;
      later = omega (arith, c.pull.ensures.later);
      calm = calm_after _ _ _ _ c.in_ok-pull.ensures.calm ∙ c.rest.invariant.calm;
    }

pub returns-in_err-pull-clause-kept : goal.returns-in_err-pull-clause-kept
returns-in_err-pull-clause-kept g c = c.pull.ensures.kept ∙ c.rest.invariant.kept

pub returns-in_err-pull-clause-most : goal.returns-in_err-pull-clause-most
returns-in_err-pull-clause-most g c = c.pull.ensures.most

pub returns-in_err-pull-clause-later : goal.returns-in_err-pull-clause-later
returns-in_err-pull-clause-later g c = omega (arith, c.rest.invariant.later, c.pull.ensures.later)

pub returns-clause-kept : goal.returns-clause-kept
returns-clause-kept g c = c.pull.ensures.kept ∙ c.rest.invariant.kept

pub returns-clause-most : goal.returns-clause-most
returns-clause-most g c = c.pull.ensures.most

pub returns-clause-later : goal.returns-clause-later
returns-clause-later g c = omega (arith, c.rest.invariant.later, c.pull.ensures.later)

pub returns-clause-takes : goal.returns-clause-takes
returns-clause-takes g c =
    let t = c.pull.ensures.takes in
    (c.rest.invariant.read.0 ++ t.0, took_on _ _ _ _ _ _ _ _ c.rest.invariant.read.1 t.1)
