-- The names of the program's strategies.
use Rattle.std.proofs.Common.{◌≡◌, ℕ, List, ap}
use Rattle.std.specs.List.{list_any}
use Rattle.std.specs.Prelude.{IfOk, Result, Ok, Err}
use Rattle.std.specs.Str.{bytes_eq}
use Rattle.swap_run.specs.Program.{program_names}
use Rattle.swap_main.specs.KnownStrategies.{is_known}

-- the names that are told are those that the program knows
pub all_known : {E : Type 0} (told : Result (List (List ℕ)) E) → IfOk told (λ ns. ns ≡ program_names)
    → IfOk told (λ ns. (name : List ℕ) → list_any (bytes_eq name) ns ≡ is_known name)
all_known (Ok ns) e = λ name. ap (list_any (bytes_eq name)) e
all_known (Err e) h = tt
