-- Along calls.
use Rattle.std.proofs.Common.{◌≡◌, ℕ, ◌<◌, List, length, get_or, sym, subst}
use Rattle.swap_base.specs.Lists.{IsElement}
use Rattle.swap_base.proofs.Lists.{in_map, in_place}
use Rattle.swap_digraph.specs.declared.deal.Deal.{Deal}
use Rattle.useful_calls.specs.declared.due_call.DueCall.{DueCall}
use Rattle.useful_calls.specs.Actions.{actions, due_call_action}
use Rattle.answer_rules.specs.Heights.{IsShort}
use Rattle.party_answer.specs.Inside.{AreMeasured}

-- each is on an arc, and its path is short
pub measured_here : (d : Deal) (xs : List DueCall) (i : ℕ) (x : DueCall) → AreMeasured d (actions xs) → i < length xs → x ≡ get_or xs i x
    → (x.arc < length d.graph.arcs) × IsShort x.call
measured_here d xs i x m lt is = m (due_call_action x) (in_map due_call_action xs x (subst (λ (y : DueCall). IsElement y xs) (sym is) (in_place xs i x lt)))
