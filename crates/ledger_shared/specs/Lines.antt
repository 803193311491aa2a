-- What the lock keeps of a ledger: a line on its deal and its arc, which stay, and then each entry.
use Rattle.std.specs.Prelude.{ℕ, ◌==◌, List, [], ◌∷◌, filter, if◌then◌else◌}
use Rattle.swap_digraph.specs.declared.deal.Deal.{Deal}
use Rattle.swap_digraph.specs.Deal.{party, counterparty, no_deal}
use Rattle.ledger_core.specs.declared.entry.Entry.{Entry}
use Rattle.ledger_core.specs.declared.entry.Sender.{Sender}
use Rattle.ledger_core.specs.declared.entry.Sender.TheVariants.{Party, Clock}
use Rattle.ledger_shared.specs.declared.shelf.Line.{Line}
use Rattle.ledger_shared.specs.declared.shelf.Line.TheVariants.{Head, Made}

-- the number of the seat that makes the sender's entries: 0 for the arc's party, 1 for its
-- counterparty, 2 for the clock
abbrev pub sender_side : Deal → ℕ → Sender → ℕ
sender_side d a (Party p) = if p == party d a then 0 else (if p == counterparty d a then 1 else 2)
sender_side d a Clock = 2

-- the entries of one side
abbrev pub side_entries : Deal → ℕ → ℕ → List Entry → List Entry
side_entries d a k h = filter (λ e. sender_side d a e.sender == k) h

abbrev pub made_lines : Deal → ℕ → List Entry → List Line
made_lines d a [] = []
made_lines d a (e ∷ es) = Made (sender_side d a e.sender) e ∷ made_lines d a es

abbrev pub entry_lines : Deal → ℕ → List Entry → List Line
entry_lines d a h = Head d a ∷ made_lines d a h

abbrev pub line_author : Line → ℕ
line_author (Head d a) = 2
line_author (Made k e) = k

-- What the lines say.

abbrev pub line_entries : List Line → List Entry
line_entries [] = []
line_entries (Head d a ∷ ls) = line_entries ls
line_entries (Made k e ∷ ls) = e ∷ line_entries ls

abbrev pub head_arc : List Line → ℕ
head_arc (Head d a ∷ ls) = a
head_arc _ = 0

abbrev pub head_deal : List Line → Deal
head_deal (Head d a ∷ ls) = d
head_deal _ = no_deal
