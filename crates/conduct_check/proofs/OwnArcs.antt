-- In a legal book a party has calls on its own arcs alone.
use Rattle.std.proofs.Common.{◌≡◌, ℕ, zero, suc, ◌+◌, ◌<◌, Bool, true, false, cond, ◌==◌, List, [], ◌∷◌, ◌++◌, length, get_or, Some, None, refl, sym}
use Rattle.std.proofs.Common.{ap, ◌∙◌, arith, eqb-true}
use Rattle.std.specs.List.{cons_option, flat_map, range_with_len, AllByRecursion}
use Rattle.std.proofs.lemmas.Bool.{false≢true}
use Rattle.swap_base.specs.Lists.{moments_after_past}
use Rattle.swap_digraph.specs.declared.deal.Deal.{Deal}
use Rattle.escrow_core.specs.declared.reply.Reply.{Reply}
use Rattle.ledger_core.specs.declared.entry.Sender.{Sender}
use Rattle.ledger_core.specs.declared.entry.Sender.TheVariants.{Party, Clock}
use Rattle.ledger_core.specs.declared.entry.What.{What}
use Rattle.ledger_core.specs.declared.entry.What.TheVariants.{Call as Made, Tick}
use Rattle.ledger_core.specs.declared.entry.Entry.{Entry}
use Rattle.ledger_core.specs.History.{is_sender, IsLegalEntry, IsLegalMoment, made_call}
use Rattle.ledger_core.specs.Book.{Histories, history, IsLegalBook}
use Rattle.swap_digraph.specs.Deal.{touches}
use Rattle.conduct_check.specs.Sent.{unlock_key, lock_unlocks, party_unlocks}

pub unsent : (d : Deal) (a v : ℕ) (past : List Entry) (s : Sender) (w : What) (at : ℕ) (r : Reply) → IsLegalEntry d a past s w at r
    → touches d v a ≡ false → cond (is_sender v s) (made_call w) None ≡ None
unsent d a v past Clock w at r l t = refl
unsent d a v past (Party p) (Tick k) at r l t = absurd l
unsent d a v past (Party p) (Made c) at r l t = by_sender (p == v) refl
  where
    by_sender : (x : Bool) → (p == v) ≡ x → cond x (Some c) None ≡ None
    by_sender false e = refl
    by_sender true e = absurd (false≢true (sym t ∙ (ap (λ z. touches d z a) (sym (eqb-true p v e)) ∙ l.of_the_two)))

none_after : (d : Deal) (a v : ℕ) (past h : List Entry) → AllByRecursion (IsLegalMoment d a) (moments_after_past past h) → touches d v a ≡ false
    → lock_unlocks h v ≡ []
none_after d a v past [] l t = refl
none_after d a v past (e ∷ h) l t =
    ap (λ o. cons_option (unlock_key o) (lock_unlocks h v)) (unsent d a v past e.sender e.what e.height e.reply l.0 t)
    ∙ none_after d a v (past ++ e ∷ []) h l.1 t

pub no_unlocks : (d : Deal) (b : Histories) (a v : ℕ) → IsLegalBook d b → a < length d.graph.arcs → touches d v a ≡ false → lock_unlocks (history b a) v ≡ []
no_unlocks d b a v l arc t = let n = l.one_each in none_after d a v [] (history b a) (l.legal a (omega arith)) t

-- The arcs by number, in place of the histories.

shifted : {A : Type 0} (f : List Entry → List A) (h : List Entry) (b : Histories) (k n : ℕ)
    → flat_map (λ a. f (get_or (h ∷ b) a [])) (range_with_len (k + 1) n) ≡ flat_map (λ a. f (get_or b a [])) (range_with_len k n)
shifted f h b k zero = refl
shifted f h b k (suc n) = let s : ◌≡◌ {A = ℕ} (k + 1) (suc k) =
    omega arith in ap (λ i. f (get_or (h ∷ b) i []) ++ flat_map (λ a. f (get_or (h ∷ b) a [])) (range_with_len (k + 1 + 1) n)) s
    ∙ ap (λ l. f (get_or b k []) ++ l) (shifted f h b (k + 1) n)

by_number : {A : Type 0} (f : List Entry → List A) (b : Histories) → flat_map (λ a. f (history b a)) (range_with_len 0 (length b)) ≡ flat_map f b
by_number f [] = refl
by_number f (h ∷ b) = ap (λ l. f h ++ l) (shifted f h b 0 (length b) ∙ by_number f b)

pub all_unlocks : (d : Deal) (b : Histories) (v : ℕ) → IsLegalBook d b
    → flat_map (λ a. lock_unlocks (history b a) v) (range_with_len 0 (length d.graph.arcs)) ≡ party_unlocks b v
all_unlocks d b v l = ap (λ n. flat_map (λ a. lock_unlocks (history b a) v) (range_with_len 0 n)) (sym l.one_each) ∙ by_number (λ h. lock_unlocks h v) b
