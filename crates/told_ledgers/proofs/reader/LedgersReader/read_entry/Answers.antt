use Rattle.std.proofs.Common.{ap, decimal, ◌∙◌}
use Rattle.told_ledgers.specs.declared.kind.Kind.{Kind}
use Rattle.told_ledgers.specs.Telling.{Telling}
use Rattle.told_ledgers.specs.Inside.{kind_told}
use Rattle.told_ledgers.proofs.Taken.{finished, on_ok_then}
use Rattle.told_ledgers.proofs.reader.LedgersReader.read_entry.Goals as goal

pub returns-then-branch : goal.returns-then-branch
returns-then-branch c =
    on_ok_then c.finish_line.result
    (λ f l e. finished c.line_kind-kind.result c.args.line.now l c.args.self.now c.take.new.self c.finish_line.new.self (c.in_ok-take.ensures.taken c.if-branch.true l e) f
    ∙ ap (λ (k : Kind). kind_told l c.args.self.now k c.args.line.now) (c.line_kind-kind.ensures _ (c.as_slice.ensures ∙ c.self.invariant.own ∙ ap (λ (s : Telling). decimal s.me) c.self.view_is)))
    c.finish_line.ensures
