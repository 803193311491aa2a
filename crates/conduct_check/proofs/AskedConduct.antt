-- What is asked of entries and says nothing of ticks, asked of the calls alone.
use Rattle.std.proofs.Common.{◌≡◌, ℕ, zero, suc, ◌<◌, Bool, false, List, [], ◌∷◌, length, get_or, count_by, Option, None, sym, ap, ◌∙◌, arith}
use Rattle.std.specs.List.{list_any}
use Rattle.swap_base.proofs.Lists.{or_neither}
use Rattle.ledger_core.specs.declared.entry.Call.{Call}
use Rattle.ledger_core.specs.declared.entry.What.TheVariants.{Tick}
use Rattle.ledger_core.specs.declared.entry.Entry.{Entry}
use Rattle.ledger_core.specs.History.{accepted, accepted_call}
use Rattle.swap_rules.specs.Party.{pick_call}
use Rattle.history_index.specs.declared.made.Made.{Made}
use Rattle.history_index.specs.Made.{history_calls}
use Rattle.history_index.proofs.Calls.{any_made, count_made, SaysNothing}
use Rattle.conduct_check.proofs.Unlocks.{sent_of_tick}

pub accepted_of_tick : (e : Entry) (k : ℕ) → e.what ≡ Tick k → accepted e ≡ None
accepted_of_tick e k is = ap (λ w. accepted_call w e.reply) is

pub any_accepted : (q : Option Call → Bool) (h : List Entry) → q None ≡ false
    → list_any (λ m. q (accepted m.entry)) (history_calls h) ≡ list_any (λ e. q (accepted e)) h
any_accepted q h none = sym (any_made (λ e. q (accepted e)) h (λ e k is. ap q (accepted_of_tick e k is) ∙ none))

pub count_calls : (q : Option Call → Bool) (v : ℕ) (h : List Entry) → q None ≡ false
    → count_by (λ m. q (pick_call v m.entry)) (history_calls h) ≡ count_by (λ e. q (pick_call v e)) h
count_calls q v h none = sym (count_made (λ e. q (pick_call v e)) h (λ e k is. ap q (sent_of_tick v e k is) ∙ none))

none_at : {A : Type 0} (p : A → Bool) (xs : List A) (i : ℕ) (d : A) → i < length xs → list_any p xs ≡ false → p (get_or xs i d) ≡ false
none_at p [] i d l e = absurd (omega arith)
none_at p (x ∷ xs) zero d l e = (or_neither (p x) (list_any p xs) e).0
none_at p (x ∷ xs) (suc i) d l e = none_at p xs i d (omega arith) (or_neither (p x) (list_any p xs) e).1

-- what no entry passes, no call does
pub made_fails : (p : Entry → Bool) (h : List Entry) (i : ℕ) (d : Made) → SaysNothing false p → i < length (history_calls h) → list_any p h ≡ false
    → p (get_or (history_calls h) i d).entry ≡ false
made_fails p h i d tick l e = none_at (λ (m : Made). p m.entry) (history_calls h) i d l (sym (any_made p h tick) ∙ e)
