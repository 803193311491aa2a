-- A legal book can be stated: it is well formed, its ticks were accepted, and its histories aren't
-- too long.
use Rattle.std.proofs.Common.{◌≡◌, ◌≢◌, ◌+◌, ◌≤◌, ℕ, zero, suc, Bool, true, false, cond, List, [], ◌∷◌, ◌++◌, length, sym, ◌∙◌, refl, ap}
use Rattle.std.proofs.Common.{arith}
use Rattle.std.specs.Prelude.{All}
use Rattle.std.specs.List.{AllByRecursion, list_all}
use Rattle.std.proofs.lemmas.Bool.{false≢true}
use Rattle.swap_base.specs.Lists.{Moment, moments_after_past}
use Rattle.swap_base.proofs.Lists.{all_moments_push, and_parts}
use Rattle.swap_digraph.specs.declared.deal.Deal.{Deal}
use Rattle.escrow_core.specs.declared.reply.Reply.{Reply}
use Rattle.escrow_core.specs.declared.reply.Reply.TheVariants.{Accepted, SenderFull, ClockFull}
use Rattle.escrow_core.specs.Table.{first_row}
use Rattle.ledger_core.specs.declared.entry.Call.{Call}
use Rattle.ledger_core.specs.declared.entry.Call.TheVariants.{Publish, Unlock, Claim, Refund, Transfer}
use Rattle.ledger_core.specs.declared.entry.Sender.{Sender}
use Rattle.ledger_core.specs.declared.entry.Sender.TheVariants.{Party, Clock}
use Rattle.ledger_core.specs.declared.entry.What.{What}
use Rattle.ledger_core.specs.declared.entry.What.TheVariants.{Call as Made, Tick}
use Rattle.ledger_core.specs.declared.entry.Entry.{Entry}
use Rattle.ledger_core.specs.History.{height, is_clock_full, rows, IsLegal, IsLegalEntry, IsLegalMoment}
use Rattle.ledger_core.specs.Book.{history}
use Rattle.ledger_core.proofs.Bounds.{bounds, tick_room}
use Rattle.ledger_core.specs.WellFormed.{written_height, IsFormedMoment, IsFormedWhat}
use Rattle.transcript_book.specs.Lines.{IsStatable, IsStatedWhat}
use Rattle.transcript_book.specs.Stated.{IsTyped, LegalIsStated}

-- ---- no call is answered as the clock's are

abbrev is_other : Reply → Bool
is_other ClockFull = false
is_other _ = true

abbrev are_others : List (Bool × Reply) → Bool
are_others rs = list_all (λ r. is_other r.1) rs

other_is : (r : Reply) → is_other r ≡ true → r ≢ ClockFull
other_is r o e = false≢true (ap is_other (sym e) ∙ o)

first_is : (rs : List (Bool × Reply)) → are_others rs ≡ true → first_row rs ≢ ClockFull
first_is [] o = λ e. absurd (cc e)
first_is (r ∷ rs) o = let both = and_parts (is_other r.1) (are_others rs) o in by r.0 (other_is r.1 both.0) (first_is rs both.1)
  where
    by : (t : Bool) → r.1 ≢ ClockFull → first_row rs ≢ ClockFull → cond t r.1 (first_row rs) ≢ ClockFull
    by true this later = this
    by false this later = later

rows_are : (d : Deal) (a : ℕ) (past : List Entry) (p : ℕ) (c : Call) → are_others (rows d a past p c) ≡ true
unfolding rows
rows_are d a past p (Publish t) = refl
rows_are d a past p (Unlock key) = refl
rows_are d a past p Claim = refl
rows_are d a past p Refund = refl
rows_are d a past p (Transfer to units) = refl

tick_accepts : (b : Bool) (r : Reply) → r ≡ cond b ClockFull Accepted → r ≢ ClockFull → r ≡ Accepted
tick_accepts true r e n = absurd (n e)
tick_accepts false r e n = e

-- ---- entries

written_low : (n : ℕ) → n ≤ 1000000 → n ≡ written_height n
written_low n le = omega arith

-- An entry of a legal history is formed, and states a tick only where that was accepted.
record IsFine (d : Deal) (a : ℕ) (past : List Entry) (s : Sender) (w : What) (at : ℕ) (reply : Reply) : Type 0 where
  formed : IsFormedWhat d a past s w at
  stated : IsStatedWhat w reply
  sender_not_full : reply ≢ SenderFull
  clock_not_full : reply ≢ ClockFull

fine : (d : Deal) (a : ℕ) (past : List Entry) (s : Sender) (w : What) (at : ℕ) (reply : Reply) → IsLegal d a past → IsLegalEntry d a past s w at reply
    → IsFine d a past s w at reply
fine d a past (Party p) (Made c) at reply before l = record {
  formed = record { of_the_two = l.of_the_two; fits = l.fits; height = l.height ∙ written_low (height past) (bounds d a past before).low };
  stated = tt;
  sender_not_full = l.room;
  clock_not_full = λ e. first_is (rows d a past p c) (rows_are d a past p c) (sym l.reply ∙ e);
}
fine d a past Clock (Tick k) at reply before l =
    let room = tick_room past k reply l.reply l.room in
    let accepted : reply ≡ Accepted = tick_accepts (is_clock_full past k) reply l.reply l.room in record {
      formed = record { some = l.some; below = l.below; height = l.height ∙ written_low (height past + k) room.height };
      stated = accepted;
      sender_not_full = λ e. absurd (cc (sym accepted ∙ e));
      clock_not_full = l.room;
    }
fine d a past (Party p) (Tick k) at reply before l = absurd l
fine d a past Clock (Made c) at reply before l = absurd l

-- ---- histories

abbrev IsFineMoment : Deal → ℕ → Moment Entry → Type 0
IsFineMoment d a m = IsFine d a m.past m.now.sender m.now.what m.now.height m.now.reply

module _ (d : Deal) (a : ℕ) where
  fine_moments : (past h : List Entry) → IsLegal d a past → AllByRecursion (IsLegalMoment d a) (moments_after_past past h)
      → AllByRecursion (IsFineMoment d a) (moments_after_past past h)
  fine_moments past [] before l = tt
  fine_moments past (e ∷ h) before l = (
    fine d a past e.sender e.what e.height e.reply before l.0,
    fine_moments (past ++ e ∷ []) h (all_moments_push (IsLegalMoment d a) past e before l.0) l.1,
  )

  formed_moments : (past h : List Entry) → AllByRecursion (IsFineMoment d a) (moments_after_past past h)
      → AllByRecursion (IsFormedMoment d a) (moments_after_past past h)
  formed_moments past [] f = tt
  formed_moments past (e ∷ h) f = (
    record { what = f.0.formed; sender_not_full = f.0.sender_not_full; clock_not_full = f.0.clock_not_full },
    formed_moments (past ++ e ∷ []) h f.1,
  )

  statable_all : (past h : List Entry) → AllByRecursion (IsFineMoment d a) (moments_after_past past h) → All IsTyped h → All IsStatable h
  statable_all past [] f t i x lt = absurd (omega arith)
  statable_all past (e ∷ h) f t zero x lt =
      let k = t 0 x (omega arith) in record { sender = k.sender; what = k.what; reply = k.reply; tick = f.0.stated }
  statable_all past (e ∷ h) f t (suc i) x lt = statable_all (past ++ e ∷ []) h f.1 (λ j y less. t (suc j) y (omega arith)) i x (omega arith)

  few_entries : (h : List Entry) → IsLegal d a h → length h ≤ 20064
  few_entries h l =
      let b = bounds d a h l in
      let ticks = b.ticks in
      let one = b.by_party in
      let two = b.by_counterparty in
      let all = b.few in
      omega arith

pub legal_is_stated : LegalIsStated
legal_is_stated d b l typed = record {
  formed = record {
    one_each = l.one_each;
    formed = λ a lt. formed_moments d a [] (history b a) (fine_moments d a [] (history b a) tt (l.legal a lt));
  };
  statable = λ a lt. statable_all d a [] (history b a) (fine_moments d a [] (history b a) tt (l.legal a lt)) (typed a lt);
  few = λ a lt. few_entries d a (history b a) (l.legal a lt);
}
