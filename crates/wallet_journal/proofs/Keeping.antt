-- A record keeps what all crashes leave.
use Rattle.std.proofs.Common.{◌≡◌, ◌<◌, ℕ, List, length, true, Option, Some, None, sym, ◌∙◌, ap, subst}
use Rattle.swap_digraph.specs.declared.deal.Deal.{Deal}
use Rattle.hashkey_path.specs.declared.hashkey.Hashkey.{Hashkey}
use Rattle.wallet_journal.specs.Device.{Write, LeavesOnly}
use Rattle.wallet_journal.specs.Journal.{JournalState, IsKeptJournal, MayHaveRecorded, IsMadePartyJournal, KeepsRecorded, listed_hashkey}
use Rattle.wallet_journal.specs.OwnDisks.{IsInRecord, IsOwn, FitsDeal}
use Rattle.wallet_journal.proofs.Moments.{weaker}
use Rattle.wallet_journal.specs.Layout.{journal_deal_id, is_made, journal_party, recorded}
use Rattle.wallet_journal.proofs.Crash.{keeps, recorded_lock}

module _ {D : Type 0} (seen : D → List ℕ) (may_leave : D → List ℕ → Type 0) (loose : D → List Write) (moment : D → ℕ) (left_since : D → ℕ → List ℕ → Type 0)
    (j : JournalState D) (new : D) (k : Hashkey) (kept : IsKeptJournal (seen j.disk) (may_leave j.disk) (loose j.disk) j.id j.me j.signed)
    (lt : k.lock < length j.signed) (none : listed_hashkey j.signed k.lock ≡ None)
    (h : LeavesOnly moment left_since j.disk new (IsInRecord (seen j.disk) k)) where
  pub keeps_recorded : LeavesOnly moment left_since j.disk new (KeepsRecorded (may_leave j.disk))
  keeps_recorded =
      weaker moment left_since j.disk new _ _ h (λ e there. keeps (may_leave j.disk) (seen j.disk) e k kept.still.among (sym (kept.shown k.lock lt) ∙ none)
      there.whole)

  pub keeps_whole : LeavesOnly moment left_since j.disk new (MayHaveRecorded (seen j.disk) k)
  keeps_whole = weaker moment left_since j.disk new _ _ h (λ e there. there.whole)

  pub keeps_own : (d : Deal) → FitsDeal d k → ((c : List ℕ) → may_leave j.disk c → IsOwn d j.me c) → LeavesOnly moment left_since j.disk new (IsOwn d j.me)
  keeps_own d fits own = weaker moment left_since j.disk new _ _ h (λ e there. there.own d j.me fits (own (seen j.disk) kept.still.among))

-- what a journal that is kept shows
module _ (bytes : List ℕ) (may_leave : List ℕ → Type 0) (loose : List Write) (id : List ℕ) (me : ℕ) (signed : List (Option Hashkey))
    (kept : IsKeptJournal bytes may_leave loose id me signed)
    (i : ℕ) (lt : i < length signed) where
  pub shows : recorded bytes i ≡ listed_hashkey signed i
  shows = sym (kept.shown i lt)

  pub shows_on : (c : List ℕ) → may_leave c → recorded c i ≡ listed_hashkey signed i
  shows_on c left = ap (λ (b : List ℕ). recorded b i) (kept.still.only c left) ∙ shows

  pub shows_lock : (k : Hashkey) → listed_hashkey signed i ≡ Some k → k.lock ≡ i
  shows_lock k is = recorded_lock bytes i k (shows ∙ is)

-- what a crash leaves of a journal that is kept
pub made_calls : (bytes : List ℕ) (may_leave : List ℕ → Type 0) (loose : List Write) (id : List ℕ) (me : ℕ) (signed : List (Option Hashkey))
    → IsKeptJournal bytes may_leave loose id me signed → (c : List ℕ) → may_leave c → IsMadePartyJournal id me c
made_calls bytes may_leave loose id me signed kept c left =
    let is = kept.still.only c left in
    record { made = ap is_made is ∙ kept.made; id_there = ap journal_deal_id is ∙ kept.id_there; party_there = ap journal_party is ∙ kept.party_there }

-- what a journal's invariant says of its value
pub kept_state : {D : Type 0} (seen : D → List ℕ) (may_leave : D → List ℕ → Type 0) (loose : D → List Write) (i j : JournalState D) → i ≡ j → j.sound ≡ true
    → (i.sound ≡ true → IsKeptJournal (seen i.disk) (may_leave i.disk) (loose i.disk) i.id i.me i.signed)
    → IsKeptJournal (seen j.disk) (may_leave j.disk) (loose j.disk) j.id j.me j.signed
kept_state {D = D} seen may_leave loose i j is sound inv =
    subst (λ (x : JournalState D). x.sound ≡ true → IsKeptJournal (seen x.disk) (may_leave x.disk) (loose x.disk) x.id x.me x.signed) is inv sound
