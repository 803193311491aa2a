-- What a publish that is due stands for.
use Rattle.std.specs.Prelude.{ℕ}
use Rattle.swap_digraph.specs.declared.deal.Deal.{Deal}
use Rattle.escrow_core.specs.Terms.{stated_terms}
use Rattle.ledger_core.specs.declared.entry.Call.TheVariants.{Publish}
use Rattle.swap_rules.specs.Due.{Action}

-- the publish of the correct terms of arc a
abbrev pub publish_action : Deal → ℕ → Action
publish_action d a = record { arc = a; call = Publish (stated_terms d a) }
