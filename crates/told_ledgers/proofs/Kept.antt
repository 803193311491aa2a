-- A line of a ledger leaves its deal, its party and its arc.
use Rattle.std.proofs.Common.{◌≡◌, ◌&&◌, ◌++◌, ◌+◌, ◌-◌, ℕ, nat_le, Bool, true, false, cond, not, List, length, ◌<◌, Option, Some, Result, Ok, Err, refl, sym, ap, ◌∙◌, subst}
use Rattle.swap_digraph.specs.declared.deal.Deal.{Deal}
use Rattle.escrow_core.specs.declared.reply.Reply.TheVariants.{Accepted, ClockFull}
use Rattle.ledger_core.specs.declared.entry.Entry.{Entry}
use Rattle.ledger_core.specs.History.{height}
use Rattle.swap_rules.specs.Party.{pick_call}
use Rattle.swap_auditor.specs.declared.replay.BadReply.{BadReply}
use Rattle.swap_auditor.specs.Audit.{with_entry}
use Rattle.transcript_book.specs.declared.said.Misspelling.{Misspelling}
use Rattle.told_ledgers.specs.declared.kind.Kind.{Kind}
use Rattle.told_ledgers.specs.declared.told_ledger.OwnUnlock.{OwnUnlock}
use Rattle.told_ledgers.specs.declared.one_ledger.Heard.{Heard}
use Rattle.told_ledgers.specs.declared.one_ledger.Heard.TheVariants.{More, Bad}
use Rattle.told_ledgers.specs.SoFar.{LedgerSoFar}
use Rattle.told_ledgers.specs.declared.told_ledger.Replies.{Replies}
use Rattle.told_ledgers.specs.Words.{line_tick}
use Rattle.told_ledgers.specs.Ledger.{bad_entry, is_first_accepted, is_passed, is_refused, line_heard, kind_line_read, most_height, own_unlock, publishes, replied}
use Rattle.told_ledgers.specs.Ledger.{stated_entry, ticked, with_refused, with_stated, with_tick_or_entry}
use Rattle.told_ledgers.specs.Inside.{IsHeardLedgerForParty, IsLedgerForParty}

-- the ledger is the same one, read for the same party
pub record IsSame (s t : LedgerSoFar) : Type 0 where
  pub deal : t.deal ≡ s.deal
  pub me : t.me ≡ s.me
  pub arc : t.arc ≡ s.arc

abbrev pub HeardSame : LedgerSoFar → Heard → Type 0
HeardSame s (More t) = IsSame s t
HeardSame s (Bad t) = Unit {0}

module _ (n : ℕ) (s : LedgerSoFar) where
  replied_same : (e : Entry) (r : Result (List Entry) BadReply) → HeardSame s (replied n s e r)
  replied_same e (Ok h) = record { deal = refl; me = refl; arc = refl }
  replied_same e (Err b) = tt

  stated_same : (r : Result Entry Misspelling) → HeardSame s (with_stated n s r)
  stated_same (Ok e) = replied_same e (with_entry s.deal s.arc s.past e)
  stated_same (Err w) = tt

  chosen_same : (t : Bool) (r : Result Entry Misspelling) → HeardSame s (cond t (More (record s { is_closed = true })) (with_stated n s r))
  chosen_same true r = record { deal = refl; me = refl; arc = refl }
  chosen_same false r = stated_same r

  read_same : (kind : Kind) (r : Result Entry Misspelling) → HeardSame s (kind_line_read n s kind r)
  unfolding kind_line_read
  read_same kind r = chosen_same (is_first_accepted s kind && not (publishes s r)) r

module _ (n : ℕ) (s : LedgerSoFar) where
  -- with its ticks as an entry the ledger is the same
  from_ticked : (h : Heard) → HeardSame (ticked s) h → HeardSame s h
  from_ticked (More t) k = record { deal = k.deal; me = k.me; arc = k.arc }
  from_ticked (Bad t) k = tt

  tick_same : (t : Bool) (k : ℕ) (replies : Option Replies)
      → HeardSame s (cond t (More (record s { waiting = s.waiting + k })) (bad_entry n (record s { waiting = most_height - height s.past }) replies))
  tick_same true k replies = record { deal = refl; me = refl; arc = refl }
  tick_same false k replies = tt

  taken_same : (kind : Kind) (line : List ℕ) (r : Result ℕ Misspelling) → HeardSame s (with_tick_or_entry n s kind line r)
  taken_same kind line (Ok k) = tick_same (nat_le (height s.past + s.waiting + k) most_height) k (Some (record { stated = Accepted; replayed = ClockFull }))
  taken_same kind line (Err e) =
      from_ticked (kind_line_read n (ticked s) kind (stated_entry (ticked s) line)) (read_same n (ticked s) kind (stated_entry (ticked s) line))

  refused_same : (t : Bool) (kind : Kind) (line : List ℕ)
      → HeardSame s (cond t (with_refused n s (stated_entry s line)) (with_tick_or_entry n s kind line (line_tick line)))
  refused_same true kind line = record { deal = refl; me = refl; arc = refl }
  refused_same false kind line = taken_same kind line (line_tick line)

  passed_same : (t : Bool) (kind : Kind) (line : List ℕ)
      → HeardSame s (cond t (More s) (cond (is_refused kind) (with_refused n s (stated_entry s line)) (with_tick_or_entry n s kind line (line_tick line))))
  passed_same true kind line = record { deal = refl; me = refl; arc = refl }
  passed_same false kind line = refused_same (is_refused kind) kind line

  pub heard_same : (kind : Kind) (line : List ℕ) → HeardSame s (line_heard n s kind line)
  heard_same kind line = passed_same (is_passed s.is_closed kind) kind line

still_of : (d : Deal) (v : ℕ) (s : LedgerSoFar) (h : Heard) → IsLedgerForParty d v s → HeardSame s h → IsHeardLedgerForParty d v h
still_of d v s (More t) k same = record {
  deal = same.deal ∙ k.deal;
  me = same.me ∙ k.me;
  arc = subst (λ a. a < length d.graph.arcs) (sym same.arc) k.arc;
}
still_of d v s (Bad t) k same = tt

-- the ledger at hand stays one of the deal's, read for v
pub heard_of : (d : Deal) (v n : ℕ) (s : LedgerSoFar) (kind : Kind) (line : List ℕ) → IsLedgerForParty d v s → IsHeardLedgerForParty d v (line_heard n s kind line)
heard_of d v n s kind line k = still_of d v s (line_heard n s kind line) k (heard_same n s kind line)

-- an entry that was replayed as it is stated
pub replayed_more : (n : ℕ) (s : LedgerSoFar) (e : Entry) (h new : List Entry) (us : List OwnUnlock) → with_entry s.deal s.arc s.past e ≡ Ok h
    → new ≡ h → us ≡ s.unlocks ++ own_unlock n (pick_call s.me e)
    → More (record s { past = new; unlocks = us }) ≡ with_stated n s (Ok e)
replayed_more n s e h new us is same own =
    ap (λ (x : List Entry). More (record s { past = x; unlocks = us })) same
    ∙ ap (λ (x : List OwnUnlock). More (record s { past = h; unlocks = x })) own
    ∙ sym (ap (replied n s e) is)
