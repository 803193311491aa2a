use Rattle.std.proofs.Common.{◌≡◌, ◌++◌, take}
use Rattle.std.specs.Prelude.{filter_map}
use Rattle.ledger_core.specs.Book.{history}
use Rattle.conduct_check.specs.Judged.{judged_book}
use Rattle.swap_rules.specs.declared.finding.Finding.TheVariants.{Broke}
use Rattle.swap_rules.specs.Conduct.{keeps_entry}
use Rattle.conduct_check.proofs.Failing.{said}
use Rattle.conduct_check.proofs.listing.put_broken_arc.Given as goal

abbrev pub invariant-loop-made : goal.invariant-loop-made
invariant-loop-made l =
    l.out.items ≡ l.initial.out.items ++ filter_map (said (Broke l.judged.party l.arc) (keeps_entry l.judged.deal.now (judged_book l.judged) l.judged.party l.arc)
    (history (judged_book l.judged) l.arc)) (take l.made-index l.calls)
