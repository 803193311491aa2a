-- What the program's strategies are called, and what each answers.
use Rattle.std.specs.Prelude.{ℕ, List, [], ◌∷◌, codes, Option, None, if◌then◌else◌}
use Rattle.std.specs.Str.{bytes_eq}
use Rattle.swap_digraph.specs.declared.deal.Deal.{Deal}
use Rattle.ledger_core.specs.declared.entry.Call.{Call}
use Rattle.ledger_core.specs.Book.{Histories}
use Rattle.swap_run.specs.Rules.{silent, greedy, replayer, spoiler}

abbrev pub program_names : List (List ℕ)
program_names = codes "silent" ∷ codes "greedy" ∷ codes "replayer" ∷ codes "spoiler" ∷ []

-- what the strategy of that name answers, by deal, party, turn number and what the party knows;
-- there is none of any other name
abbrev pub program_rule : List ℕ → Deal → ℕ → ℕ → Histories → Option (ℕ × Call)
program_rule name d p t k =
    if bytes_eq (codes "silent") name then silent d p t k
    else (if bytes_eq (codes "greedy") name then greedy d p t k
    else (if bytes_eq (codes "replayer") name then replayer d p t k
    else (if bytes_eq (codes "spoiler") name then spoiler d p t k
    else None)))
