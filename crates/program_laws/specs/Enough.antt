-- What is told by the lines of a book says enough.
use Rattle.std.specs.Prelude.{◌≡◌, ◌<◌, ◌^◌, ◌&&◌, ◌||◌, not, ℕ, Bool, true, false, List, [], ◌∷◌, filter, length, map, None, Ok, is_some, slice_index_or}
use Rattle.std.specs.Prelude.{if◌then◌else◌}
use Rattle.std.specs.List.{AllByRecursion}
use Rattle.swap_base.specs.Lists.{IsElement}
use Rattle.swap_digraph.specs.Graph.{arcs, leaving}
use Rattle.swap_digraph.specs.declared.deal.Deal.{Deal}
use Rattle.swap_digraph.specs.Deal.{touches, IsWellSized}
use Rattle.escrow_core.specs.declared.reply.Reply.{Reply}
use Rattle.escrow_core.specs.declared.reply.Reply.TheVariants.{Accepted, NoFunds}
use Rattle.ledger_core.specs.declared.entry.Call.{Call}
use Rattle.ledger_core.specs.declared.entry.Call.TheVariants.{Publish, Unlock, Claim, Refund, Transfer}
use Rattle.ledger_core.specs.declared.entry.What.{What}
use Rattle.ledger_core.specs.declared.entry.What.TheVariants.{Call as Made, Tick}
use Rattle.ledger_core.specs.declared.entry.Entry.{Entry}
use Rattle.ledger_core.specs.History.{published}
use Rattle.ledger_core.specs.Book.{Histories, history}
use Rattle.swap_rules.specs.Party.{is_arc_correct, pick_call}
use Rattle.swap_rules.specs.Conduct.{is_publish}
use Rattle.swap_rules.specs.Counted.{all_counted}
use Rattle.swap_rules.specs.Due.{has_called}
use Rattle.swap_rules.specs.Rest.{is_ticking}
use Rattle.wallet_promise.specs.WithoutNoise.{is_told, is_useless, IsNeededChain, SayEnough}
use Rattle.wallet_promise.specs.BookLaws.{KeepsLedgerLimits}
use Rattle.transcript_book.specs.Between.{separated_parts}
use Rattle.transcript_book.specs.Lines.{IsStatable, entry_line}
use Rattle.transcript_book.specs.Stated.{IsTyped}
use Rattle.told_ledgers.specs.declared.kind.Kind.{Kind}
use Rattle.told_ledgers.specs.declared.kind.Kind.TheVariants.{Read, Refused, Noise, Publish as PublishLine, Accepted as AcceptedLine}
use Rattle.told_ledgers.specs.declared.told_ledger.ToldLedger.{ToldLedger}
use Rattle.told_ledgers.specs.Words.{line_kind}
use Rattle.told_ledgers.specs.Ledger.{is_correct_publish, untold}
use Rattle.told_ledgers.specs.Telling.{ledgers_told, told_book}
use Rattle.program_laws.specs.Apart.{LedgerLines, all_lines}

-- ---- what the lines of a ledger say

abbrev pub is_accepting : Reply → Bool
is_accepting Accepted = true
is_accepting _ = false

abbrev pub is_transfer_call : Call → Bool
is_transfer_call (Transfer to units) = true
is_transfer_call _ = false

abbrev pub is_publish_call : Call → Bool
is_publish_call (Publish t) = true
is_publish_call _ = false

-- what somebody else's call is by the words of its line
abbrev pub call_kind : Call → Reply → Kind
call_kind c reply = if not (is_accepting reply) || is_transfer_call c then Noise else if is_publish_call c then PublishLine else AcceptedLine

-- what the party's own call is by the words of its line: one that was refused and may be made again,
-- or one that is read
abbrev pub may_be_repeated : Call → Bool
may_be_repeated (Unlock key) = true
may_be_repeated Claim = true
may_be_repeated Refund = true
may_be_repeated _ = false

abbrev pub is_for_want_of_funds : Reply → Bool
is_for_want_of_funds (NoFunds units) = true
is_for_want_of_funds _ = false

abbrev pub own_call_kind : Call → Reply → Kind
own_call_kind c reply =
    if (may_be_repeated c || (is_publish_call c && is_for_want_of_funds reply)) && not (is_accepting reply) then Refused else Read

abbrev pub IsKindOfCall : ℕ → What → Reply → List ℕ → Type 0
IsKindOfCall v (Made c) reply line = line_kind v (separated_parts 32 line) ≡ call_kind c reply
IsKindOfCall v (Tick k) reply line = ⊥

-- The line tells somebody else's call in whatever words. The line of an accepted call that isn't a
-- publish of the correct terms isn't the line of one.
pub record IsForeignLine (d : Deal) (v a : ℕ) (e : Entry) (line : List ℕ) : Type 0 where
  pub kind : IsKindOfCall v e.what e.reply line
  pub wrong : is_accepting e.reply ≡ true → is_correct_publish d a e.sender e.what ≡ false → (x : Entry) → IsStatable x → line ≡ entry_line x
      → is_correct_publish d a x.sender x.what ≡ false

-- The line says the entry to v. Of a useless arc a tick has its line, and a call any line that
-- tells one of its kind; of another arc an entry has its line, but noise any line of noise.
abbrev pub SaysEntry : (useless : Bool) → Deal → (v a : ℕ) → Entry → List ℕ → Type 0
SaysEntry true d v a e line = (is_ticking e.what ≡ true → line ≡ entry_line e) × (is_ticking e.what ≡ false → IsForeignLine d v a e line)
SaysEntry false d v a e line = (is_told v e ≡ true → line ≡ entry_line e) × (is_told v e ≡ false → line_kind v (separated_parts 32 line) ≡ Noise)

abbrev pub SayEntries : (useless : Bool) → Deal → (v a : ℕ) → List Entry → List (List ℕ) → Type 0
SayEntries useless d v a [] [] = Unit {0}
SayEntries useless d v a (e ∷ h) (l ∷ ls) = SaysEntry useless d v a e l × SayEntries useless d v a h ls
SayEntries useless d v a _ _ = ⊥

-- ---- what is told then

-- the entry is a publish of v for which funds were lacking
abbrev pub is_unfunded : ℕ → Entry → Bool
is_unfunded v e = is_publish (pick_call v e) && is_for_want_of_funds e.reply

-- a history without them
abbrev pub funded : ℕ → List Entry → List Entry
funded v h = filter (λ e. not (is_unfunded v e)) h

abbrev pub all_funded : ℕ → Histories → Histories
all_funded v k = map (funded v) k

-- A history that v may be told of: what it needs is a chain's, v and the clock keep within the
-- limits, and v made no call on an arc that enters it without a publish of the correct terms.
pub record IsTellable (d : Deal) (v a : ℕ) (h : List Entry) : Type 0 where
  pub chain : IsNeededChain d v a h
  pub within : KeepsLedgerLimits v h
  pub typed : AllByRecursion IsTyped h
  pub silent : (IsElement a (leaving d.graph v) → ⊥) → is_arc_correct d a (published h) ≡ false → has_called v is_some h ≡ false

-- A book of what each ledger had done, with the lines that say it: nothing stands on an arc that
-- doesn't touch v.
pub record IsToldBook (d : Deal) (v : ℕ) (k : Histories) (lines : ℕ → List (List ℕ)) : Type 0 where
  pub one_each : length k ≡ length d.graph.arcs
  pub far : (a : ℕ) → touches d v a ≡ false → history k a ≡ []
  pub tellable : (a : ℕ) → a < length k → IsTellable d v a (history k a)
  pub few : (a : ℕ) → length (lines a) < 2 ^ 32
  pub says : (a : ℕ) → a < length k → SayEntries (is_useless d v a (history k a)) d v a (history k a) (lines a)

-- the ledgers of all arcs, with these lines
abbrev pub deal_ledger_lines : Deal → (ℕ → List (List ℕ)) → List LedgerLines
deal_ledger_lines d lines = map (λ a. record { arc = a; lines = lines a }) (arcs d.graph)

-- What counts of what is told says enough of what counts of the book without publishes for which
-- funds were lacking, and no entry of an arc that isn't useless is bad.
pub record IsToldEnough (d : Deal) (v : ℕ) (k : Histories) (ts : List ToldLedger) : Type 0 where
  pub enough : SayEnough d v (all_counted v (told_book ts)) (all_counted v (all_funded v k))
  pub clean : (a : ℕ) → is_useless d v a (history k a) ≡ false → (slice_index_or ts a untold).bad ≡ None

-- what is told of a book by its lines says enough of it, whatever the noise, however often a call of
-- the party was refused, and whatever stands on useless arcs
abbrev pub LinesSayEnough : Type 0
LinesSayEnough =
    (d : Deal) (v first : ℕ) (k : Histories) (lines : ℕ → List (List ℕ)) → IsWellSized d → v < d.graph.n → IsToldBook d v k lines
    → (ts : List ToldLedger) × (ledgers_told d v first (all_lines (deal_ledger_lines d lines)) ≡ Ok ts) × IsToldEnough d v k ts
