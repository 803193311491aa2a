-- What an audit answers: the report of a book if all its replies are the table's, or the first
-- reply that isn't.
use Rattle.std.specs.Prelude.{◌≡◌, ◌<◌, ◌+◌, ◌++◌, ◌∷◌, [], ℕ, Bool, List, length, Result, Ok, Err, if◌then◌else◌}
use Rattle.swap_base.specs.Fault.{◌>>=◌, steps}
use Rattle.swap_digraph.specs.declared.deal.Deal.{Deal}
use Rattle.escrow_core.specs.declared.reply.Reply.{Reply}
use Rattle.escrow_core.specs.declared.reply.Reply.TheVariants.{NotParty}
use Rattle.ledger_core.specs.declared.entry.Sender.{Sender}
use Rattle.ledger_core.specs.declared.entry.Sender.TheVariants.{Party, Clock}
use Rattle.ledger_core.specs.declared.entry.What.{What}
use Rattle.ledger_core.specs.declared.entry.What.TheVariants.{Call as Made, Tick}
use Rattle.ledger_core.specs.declared.entry.Entry.{Entry}
use Rattle.ledger_core.specs.History.{history_reply, reply_to_tick}
use Rattle.ledger_core.specs.Book.{Histories, history}
use Rattle.swap_rules.specs.Laws.{AddsUp}
use Rattle.outcome_rules.specs.declared.report.Report.{Report}
use Rattle.outcome_rules.specs.Report.{build_report}
use Rattle.swap_auditor.specs.declared.replay.BadReply.{BadReply}
use Rattle.swap_auditor.specs.Replies.{same_reply}

-- the reply that the table gives to an entry of arc a, over the entries before it; in a well-formed
-- history a party calls and the clock ticks
abbrev pub replayed : Deal → ℕ → List Entry → Sender → What → Reply
replayed d a past (Party p) (Made c) = history_reply d a past p c
replayed d a past Clock (Tick k) = reply_to_tick past k
replayed d a past _ _ = NotParty

-- the replayed entries with one more, or that its stated reply isn't the replayed one
abbrev pub with_entry : Deal → ℕ → List Entry → Entry → Result (List Entry) BadReply
with_entry d a past e =
    if same_reply e.reply (replayed d a past e.sender e.what) then Ok (past ++ e ∷ [])
    else Err (record { arc = a; entry = length past; stated = e.reply; replayed = replayed d a past e.sender e.what })

-- a history of arc a, replayed from its first entry on
abbrev pub replay : Deal → ℕ → List Entry → Result (List Entry) BadReply
replay d a h = steps (with_entry d a) [] h

-- the histories from arc a on, each replayed
abbrev pub replay_histories : Deal → ℕ → Histories → Result (Unit {0}) BadReply
replay_histories d a [] = Ok tt
replay_histories d a (h ∷ b) = replay d a h >>= λ _. replay_histories d (a + 1) b

-- the report of a book if the replay gives all its stated replies, or else the first stated reply,
-- in order of arc and entry, that the replay doesn't give
abbrev pub audited : Deal → List Bool → Histories → Result Report BadReply
audited d conforming b = replay_histories d 0 b >>= λ _. Ok (build_report d conforming b)

-- at every prefix of every history all units of the arc are in one place
abbrev pub AreUnitsConserved : Deal → Histories → Type 0
AreUnitsConserved d b = (a : ℕ) (h rest : List Entry) → a < length d.graph.arcs → history b a ≡ h ++ rest → AddsUp d a h
