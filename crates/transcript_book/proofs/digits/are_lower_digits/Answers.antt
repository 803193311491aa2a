use Rattle.std.proofs.Common.{ap, ap₂, sym, ◌∙◌, ◌&&◌, arith}
use Rattle.std.specs.List.{list_all}
use Rattle.std.proofs.lemmas.List.{take_all}
use Rattle.std.proofs.lemmas.List.Folds.{list_all_more}
use Rattle.transcript_book.specs.Reading.{is_lower_digit}
use Rattle.transcript_book.proofs.digits.are_lower_digits.Goals as goal

pub digits-preserved : goal.digits-preserved
digits-preserved c =
    ap₂ (λ a b. a && b) c.digits.invariant c.is_lower_digit-good.ensures
    ∙ sym (list_all_more is_lower_digit c.args.word.now c.digits.byte-index 0 (omega arith))

pub returns : goal.returns
returns c = c.digits.invariant ∙ ap (list_all is_lower_digit) (take_all c.digits.byte-index c.args.word.now (omega arith))
