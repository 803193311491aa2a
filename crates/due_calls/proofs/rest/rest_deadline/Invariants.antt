use Rattle.std.proofs.Common.{◌≡◌, map, filter, take}
use Rattle.ledger_core.specs.Book.{history}
use Rattle.swap_rules.specs.Party.{least_expiry}
use Rattle.swap_rules.specs.Rest.{is_waiting, least_number}
use Rattle.due_calls.proofs.rest.rest_deadline.Given as goal

abbrev pub invariant-arcs : goal.invariant-arcs
invariant-arcs g l =
    l.until ≡ least_number (map (λ a. least_expiry l.deal a (history (map g.F.Facts.entries l.known) a))
    (filter (is_waiting l.deal l.me (map g.F.Facts.entries l.known)) (take l.arc-index l.arc-items)))
