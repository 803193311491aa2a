use Rattle.std.proofs.Common.{◌∙◌, ap, length, arith}
use Rattle.swap_io.proofs.lines.Lines.fill.Goals as goal

pub returns-in_err-count-clause-few : goal.returns-in_err-count-clause-few
returns-in_err-count-clause-few g c = omega (arith, ap length (c.pull.ensures.kept ∙ c.requires.empty))

pub returns-then-count-eq0-clause-few : goal.returns-then-count-eq0-clause-few
returns-then-count-eq0-clause-few g c = omega (arith, ap length (c.pull.ensures.kept ∙ c.requires.empty))

pub returns-in_err-count-clause-takes : goal.returns-in_err-count-clause-takes
returns-in_err-count-clause-takes g c = c.pull.ensures.takes

pub returns-in_err-count-clause-most : goal.returns-in_err-count-clause-most
returns-in_err-count-clause-most g c = c.pull.ensures.most

pub returns-in_err-count-clause-later : goal.returns-in_err-count-clause-later
returns-in_err-count-clause-later g c = c.pull.ensures.later

pub returns-then-count-eq0-clause-takes : goal.returns-then-count-eq0-clause-takes
returns-then-count-eq0-clause-takes g c = c.pull.ensures.takes

pub returns-then-count-eq0-clause-most : goal.returns-then-count-eq0-clause-most
returns-then-count-eq0-clause-most g c = c.pull.ensures.most

pub returns-then-count-eq0-clause-later : goal.returns-then-count-eq0-clause-later
returns-then-count-eq0-clause-later g c = c.pull.ensures.later

pub returns-in_err-keep-clause-few : goal.returns-in_err-keep-clause-few
returns-in_err-keep-clause-few g c = c.keep.ensures.few

pub returns-in_err-keep-clause-most : goal.returns-in_err-keep-clause-most
returns-in_err-keep-clause-most g c = c.keep.ensures.most

pub returns-in_err-keep-clause-later : goal.returns-in_err-keep-clause-later
returns-in_err-keep-clause-later g c = c.pull.ensures.later

pub returns-clause-few : goal.returns-clause-few
returns-clause-few g c = c.keep.ensures.few

pub returns-clause-most : goal.returns-clause-most
returns-clause-most g c = c.keep.ensures.most

pub returns-clause-later : goal.returns-clause-later
returns-clause-later g c = c.pull.ensures.later
