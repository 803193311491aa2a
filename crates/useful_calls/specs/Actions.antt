-- Calls that are due.
use Rattle.std.specs.Prelude.{ℕ, Bool, List, map}
use Rattle.swap_digraph.specs.Graph.{is_listed}
use Rattle.swap_rules.specs.Due.{Action}
use Rattle.useful_calls.specs.declared.due_call.DueCall.{DueCall}

-- a call on an arc
abbrev pub due_call_action : DueCall → Action
due_call_action x = record { arc = x.arc; call = x.call }

-- calls on arcs
abbrev pub actions : List DueCall → List Action
actions xs = map due_call_action xs

-- lock i is one of these, for which nothing is signed
abbrev pub is_lock_stopped : List ℕ → ℕ → Bool
is_lock_stopped stopped i = is_listed i stopped
