-- The numbers of a party's entries, and the lists that an index takes.
use Rattle.std.specs.Prelude.{◌==◌, ◌||◌, ◌≤◌, ◌+◌, ℕ, Bool, true, false, nat_lt, IsTrue, List, [], ◌∷◌, length, Option, Some, None, is_some, position}
use Rattle.std.specs.Prelude.{if◌then◌else◌}
use Rattle.std.specs.List.{list_all}
use Rattle.ledger_core.specs.declared.entry.Call.TheVariants.{Unlock}
use Rattle.ledger_core.specs.declared.entry.Sender.{Sender}
use Rattle.ledger_core.specs.declared.entry.Sender.TheVariants.{Party, Clock}
use Rattle.ledger_core.specs.declared.entry.What.{What}
use Rattle.ledger_core.specs.declared.entry.What.TheVariants.{Call as Made, Tick}
use Rattle.ledger_core.specs.declared.entry.Entry.{Entry}
use Rattle.ledger_core.specs.History.{is_sender, publication, accepted}
use Rattle.ledger_core.specs.Value.{IsCountable}

-- the numbers, counted from n, of the entries that p sent
abbrev pub sender_numbers : (n p : ℕ) → List Entry → List ℕ
sender_numbers n p [] = []
sender_numbers n p (e ∷ h) = if is_sender p e.sender then n ∷ sender_numbers (n + 1) p h else sender_numbers (n + 1) p h

-- the numbers of the entries that p sent, ascending
abbrev pub call_numbers : ℕ → List Entry → List ℕ
call_numbers p h = sender_numbers 0 p h

-- the number of the accepted publish
abbrev pub published_number : List Entry → Option ℕ
published_number h = position (λ e. is_some (publication e.height (accepted e))) h

-- whether there is a number, and it is below n
abbrev pub comes_earlier : Option ℕ → ℕ → Bool
comes_earlier None n = false
comes_earlier (Some k) n = nat_lt k n

-- a call is of one of the two parties, and a tick of the clock
abbrev pub has_right_sender : (from to : ℕ) → Sender → What → Bool
has_right_sender from to (Party p) (Made c) = (p == from) || (p == to)
has_right_sender from to Clock (Tick k) = true
has_right_sender from to (Party p) (Tick k) = false
has_right_sender from to Clock (Made c) = false

-- an unlock is of one of at most eight locks
abbrev pub names_lock : What → Bool
names_lock (Made (Unlock key)) = nat_lt key.lock 8
names_lock _ = true

-- Entries that an index of an arc between these two parties takes, as those of every legal history
-- of the arc.
pub record IsIndexable (from to : ℕ) (h : List Entry) : Type 0 where
  pub countable : IsCountable h
  pub senders : IsTrue (list_all (λ e. has_right_sender from to e.sender e.what) h)
  pub locks : IsTrue (list_all (λ e. names_lock e.what) h)
  pub from_few : length (call_numbers from h) ≤ 32
  pub to_few : length (call_numbers to h) ≤ 32
