use Rattle.std.proofs.Common.{◌++◌, sym, ap, ◌∙◌, append-nil}
use Rattle.conduct_check.specs.Judged.{judged_book}
use Rattle.conduct_check.proofs.Lateness.{listed, late_listed}
use Rattle.conduct_check.proofs.lates.put_late_arc.Goals as goal

pub returns-in_ok-push-in-Some : goal.returns-in_ok-push-in-Some
returns-in_ok-push-in-Some c =
    let a = c.args in
    let j = a.judged.now in
    let all =
    late_listed j.deal.now (judged_book j) j.party a.rule a.arc a.from a.counted.now c.requires.asked
    ∙ ap (listed j.party a.rule a.arc) (sym c.overdue.ensures ∙ c.in-Some.is) in
    c.in_ok-push-in-Some.ensures.items ∙ ap (λ l. a.out.now.items ++ l) (sym all)

pub returns-in-None : goal.returns-in-None
returns-in-None c =
    let a = c.args in
    let j = a.judged.now in
    let all =
    late_listed j.deal.now (judged_book j) j.party a.rule a.arc a.from a.counted.now c.requires.asked
    ∙ ap (listed j.party a.rule a.arc) (sym c.overdue.ensures ∙ c.in-None.is) in
    sym (append-nil a.out.now.items) ∙ ap (λ l. a.out.now.items ++ l) (sym all)
