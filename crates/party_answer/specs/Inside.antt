-- What the program keeps of an input.
use Rattle.std.specs.Prelude.{◌<◌, ◌++◌, ℕ, Bool, List, None, length, map}
use Rattle.std.specs.List.{flat_map}
use Rattle.swap_base.specs.Lists.{IsElement}
use Rattle.swap_digraph.specs.declared.deal.Deal.{Deal}
use Rattle.swap_digraph.specs.Graph.{leaving}
use Rattle.escrow_core.specs.Terms.{stated_terms}
use Rattle.ledger_core.specs.declared.entry.Call.TheVariants.{Publish}
use Rattle.swap_rules.specs.Due.{Action, when_due}
use Rattle.answer_rules.specs.Heights.{IsShort}
use Rattle.party_wallet.specs.Value.{signed_hashkey}
use Rattle.ledger_core.specs.Book.{Histories}
use Rattle.party_notes.specs.declared.asked.Asked.{Asked}
use Rattle.party_answer.specs.declared.timed.Timed.{Timed}
use Rattle.party_answer.specs.declared.warned.Warned.{Warned}
use Rattle.useful_calls.specs.Landing.{may_land}
use Rattle.party_answer.specs.Lines.{call_lines, timed}
use Rattle.party_answer.specs.Text.{end_text, landing_text, lines_text, noted_text, stale_text, unkept_text}

-- the lines of stale ledgers, of locks whose notes are torn or differ, and of unkept unlocks
abbrev pub warned_text : (seen : List ℕ) → Warned → List ℕ
warned_text seen w = flat_map (stale_text seen) w.stale.items ++ flat_map noted_text w.noted.items ++ flat_map unkept_text w.unkept.items

-- the text of these calls and of those that may land
abbrev pub answers_text : Asked → (calls landing : List Timed) → List ℕ
answers_text a ts us = lines_text a.me (call_lines (signed_hashkey a.kept.signed.keys) None ts) ++ flat_map landing_text us

-- the same over what is known, or that there is none
abbrev pub calls_text : (is_stale : Bool) → Asked → Histories → (calls landing : List Timed) → List ℕ
calls_text s a k ts us = answers_text a ts us ++ end_text s a.deal k a.me ts us

-- the publishes that may land over what is known, with their heights
abbrev pub landing_timed : Asked → Histories → List Timed
landing_timed a k =
    map (timed a.deal k a.me) (flat_map (λ c. when_due (may_land a.kept.sent a.me k c) c (Publish (stated_terms a.deal c))) (leaving a.deal.graph a.me))

-- each call is on an arc of the deal, and its hashkey has a short path
abbrev pub AreMeasured : Deal → List Action → Type 0
AreMeasured d xs = (x : Action) → IsElement x xs → (x.arc < length d.graph.arcs) × IsShort x.call
