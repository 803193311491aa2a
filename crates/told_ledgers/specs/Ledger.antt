-- What the lines of one ledger make of it, one after another.
use Rattle.std.specs.Prelude.{◌&&◌, ◌||◌, ◌==◌, ◌+◌, ◌-◌, not, ℕ, nat_le, Bool, true, false, List, [], ◌∷◌, ◌++◌, Option, Some, None, is_some, Result, Ok, Err}
use Rattle.std.specs.Prelude.{if◌then◌else◌}
use Rattle.swap_digraph.specs.declared.deal.Deal.{Deal}
use Rattle.swap_digraph.specs.Deal.{counterparty, party}
use Rattle.escrow_core.specs.declared.reply.Reply.TheVariants.{Accepted as Takes, ClockFull}
use Rattle.escrow_core.specs.Terms.{same_terms, stated_terms}
use Rattle.ledger_core.specs.declared.entry.Call.{Call}
use Rattle.ledger_core.specs.declared.entry.Call.TheVariants.{Publish, Unlock}
use Rattle.ledger_core.specs.declared.entry.Sender.{Sender}
use Rattle.ledger_core.specs.declared.entry.Sender.TheVariants.{Party}
use Rattle.ledger_core.specs.declared.entry.What.{What}
use Rattle.ledger_core.specs.declared.entry.What.TheVariants.{Call as Made}
use Rattle.ledger_core.specs.declared.entry.Entry.{Entry}
use Rattle.ledger_core.specs.History.{height, is_clock_full, published}
use Rattle.ledger_core.specs.Ledger.{tick_entry}
use Rattle.swap_rules.specs.Party.{pick_call}
use Rattle.swap_auditor.specs.declared.replay.BadReply.{BadReply}
use Rattle.swap_auditor.specs.Audit.{with_entry}
use Rattle.transcript_book.specs.declared.said.Misspelling.{Misspelling}
use Rattle.transcript_book.specs.Entries.{parse_next_entry}
use Rattle.told_ledgers.specs.declared.kind.Kind.{Kind}
use Rattle.told_ledgers.specs.declared.kind.Kind.TheVariants.{Read, Refused, Noise, Publish as PublishLine, Accepted}
use Rattle.told_ledgers.specs.declared.told_ledger.Replies.{Replies}
use Rattle.told_ledgers.specs.declared.told_ledger.OwnUnlock.{OwnUnlock}
use Rattle.told_ledgers.specs.declared.told_ledger.ToldLedger.{ToldLedger}
use Rattle.told_ledgers.specs.declared.one_ledger.Heard.{Heard}
use Rattle.told_ledgers.specs.declared.one_ledger.Heard.TheVariants.{More, Bad}
use Rattle.told_ledgers.specs.SoFar.{LedgerSoFar}
use Rattle.told_ledgers.specs.Words.{line_tick}

-- ---- which lines are read

-- the line is passed over unread: noise, and behind an odd contract every call of somebody else
abbrev pub is_passed : (is_closed : Bool) → Kind → Bool
is_passed closed Read = false
is_passed closed Refused = false
is_passed closed Noise = true
is_passed closed PublishLine = closed
is_passed closed Accepted = closed

-- the line is that of a call of the party that was refused, and that it may make again
abbrev pub is_refused : Kind → Bool
is_refused Refused = true
is_refused _ = false

-- by its words the line is that of an accepted call of somebody else, no transfer
abbrev pub is_accepted_line : Kind → Bool
is_accepted_line PublishLine = true
is_accepted_line Accepted = true
is_accepted_line _ = false

-- nothing is published on an arc that enters the party, and by its words the line tells an accepted
-- call of somebody else: the first one of a contract
abbrev pub is_first_accepted : LedgerSoFar → Kind → Bool
is_first_accepted s kind = is_accepted_line kind && (s.me == counterparty s.deal s.arc) && not (is_some (published s.past))

-- the call publishes the correct terms of arc a
abbrev pub publishes_terms : Deal → ℕ → Call → Bool
publishes_terms d a (Publish t) = same_terms t (stated_terms d a)
publishes_terms d a _ = false

-- the arc's party publishes the correct terms
abbrev pub is_correct_publish : Deal → ℕ → Sender → What → Bool
is_correct_publish d a (Party p) (Made c) = (p == party d a) && publishes_terms d a c
is_correct_publish d a _ _ = false

-- a line that can't be read publishes nothing
abbrev pub publishes : LedgerSoFar → Result Entry Misspelling → Bool
publishes s (Ok e) = is_correct_publish s.deal s.arc e.sender e.what
publishes s (Err w) = false

-- ---- ticks

-- the entries with these heights as one tick behind them, as long as the ledger takes one
abbrev pub with_ticks : List Entry → ℕ → List Entry
with_ticks past k = if (k == 0) || is_clock_full past k then past else past ++ tick_entry k (height past + k) Takes ∷ []

-- the ticks that were read are an entry
abbrev pub ticked : LedgerSoFar → LedgerSoFar
ticked s = record s { past = with_ticks s.past s.waiting; waiting = 0 }

-- ---- what is read

-- the entry that a line states
abbrev pub stated_entry : LedgerSoFar → List ℕ → Result Entry Misspelling
stated_entry s line = parse_next_entry s.deal s.arc s.past line

-- the party's unlock, if the call is one, with the number of its line
abbrev pub own_unlock : ℕ → Option Call → List OwnUnlock
own_unlock n (Some (Unlock key)) = record { entry = n; key = key } ∷ []
own_unlock n _ = []

-- line n is the ledger's bad entry: what stands before it is told
abbrev pub bad_entry : ℕ → LedgerSoFar → Option Replies → Heard
bad_entry n s replies =
    Bad (record { history = with_ticks s.past s.waiting; bad = Some (record { entry = n; replies = replies }); unlocks = s.unlocks; tip = None; margin = None })

abbrev pub replied : ℕ → LedgerSoFar → Entry → Result (List Entry) BadReply → Heard
replied n s e (Ok h) = More (record s { past = h; unlocks = s.unlocks ++ own_unlock n (pick_call s.me e) })
replied n s e (Err b) = bad_entry n s (Some (record { stated = b.stated; replayed = b.replayed }))

-- the stated reply has to be the replayed one
abbrev pub with_stated : ℕ → LedgerSoFar → Result Entry Misspelling → Heard
with_stated n s (Ok e) = replied n s e (with_entry s.deal s.arc s.past e)
with_stated n s (Err w) = bad_entry n s None

-- what line n, of that kind, makes of the ledger by what it states; a first accepted call that isn't
-- the correct publish closes the ledger
unfoldable pub kind_line_read : ℕ → LedgerSoFar → Kind → Result Entry Misspelling → Heard
kind_line_read n s kind stated =
    if is_first_accepted s kind && not (publishes s stated) then More (record s { is_closed = true }) else with_stated n s stated

-- the party's unlock with the number of its line, if a line states one
abbrev pub stated_unlock : ℕ → LedgerSoFar → Result Entry Misspelling → List OwnUnlock
stated_unlock n s (Ok e) = own_unlock n (pick_call s.me e)
stated_unlock n s (Err w) = []

-- a refused call of the party makes nothing of the ledger; of an unlock the hashkey is known
abbrev pub with_refused : ℕ → LedgerSoFar → Result Entry Misspelling → Heard
with_refused n s stated = More (record s { unlocks = s.unlocks ++ stated_unlock n s stated })

-- no ledger goes above this height
abbrev pub most_height : ℕ
most_height = 1000000

-- the ledger ticks by k heights in line n; where it would pass the most height, it stands there, and
-- this is its bad entry
abbrev pub with_tick : ℕ → LedgerSoFar → ℕ → Heard
with_tick n s k =
    if nat_le (height s.past + s.waiting + k) most_height then More (record s { waiting = s.waiting + k })
    else bad_entry n (record s { waiting = most_height - height s.past }) (Some (record { stated = Takes; replayed = ClockFull }))

-- what line n, of that kind, makes of the ledger, if it ticks by so many heights
abbrev pub with_tick_or_entry : ℕ → LedgerSoFar → Kind → List ℕ → Result ℕ Misspelling → Heard
with_tick_or_entry n s kind line (Ok k) = with_tick n s k
with_tick_or_entry n s kind line (Err w) = kind_line_read n (ticked s) kind (stated_entry (ticked s) line)

-- what line n of that kind makes of the ledger
abbrev pub line_heard : ℕ → LedgerSoFar → Kind → List ℕ → Heard
line_heard n s kind line =
    if is_passed s.is_closed kind then More s
    else if is_refused kind then with_refused n s (stated_entry s line)
    else with_tick_or_entry n s kind line (line_tick line)

-- nothing was told
abbrev pub untold : ToldLedger
untold = record { history = []; bad = None; unlocks = []; tip = None; margin = None }

-- no line was read of the ledger of arc a, which touches v
abbrev pub nothing_read : Deal → (v a : ℕ) → LedgerSoFar
nothing_read d v a = record { deal = d; me = v; arc = a; past = []; waiting = 0; unlocks = []; is_closed = false }

-- all that its lines tell, where none was bad
abbrev pub whole_told_ledger : LedgerSoFar → ToldLedger
whole_told_ledger s = record { history = with_ticks s.past s.waiting; bad = None; unlocks = s.unlocks; tip = None; margin = None }
