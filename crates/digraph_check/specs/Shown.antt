-- What an answer shows.
use Rattle.std.specs.Prelude.{ℕ, List, Option, Some, None}
use Rattle.digraph_check.specs.declared.certificate.Trees.{Trees}
use Rattle.digraph_check.specs.declared.certificate.Strength.{Strength}
use Rattle.digraph_check.specs.declared.certificate.Strength.TheVariants.{Strong, Closed}

-- the closed set that the answer names, if any
abbrev pub set_shown : Strength → Option (List ℕ)
set_shown (Strong t) = None
set_shown (Closed set) = Some set

abbrev pub IfStrong : Strength → (Trees → Type 0) → Type 0
IfStrong (Strong t) P = P t
IfStrong (Closed set) P = Unit {0}

abbrev pub IfClosed : Strength → (List ℕ → Type 0) → Type 0
IfClosed (Strong t) P = Unit {0}
IfClosed (Closed set) P = P set
