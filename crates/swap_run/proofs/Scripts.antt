-- A script over what is known: the waits that are over, and the move after them.
use Rattle.std.proofs.Common.{◌≡◌, ℕ, suc, zero, ◌+◌, ◌<◌, ◌≤◌, ◌^◌, Bool, true, false, cond, List, [], ◌∷◌, length, get_or, drop, nat_lt, ltb-true}
use Rattle.std.proofs.Common.{ltb-false, Option, Some, None, option_map, refl, sym, ap, ◌∙◌, subst, arith, drop-cons, add-one}
use Rattle.std.specs.Prelude.{IsTrue}
use Rattle.std.proofs.lemmas.Option.{same_Some}
use Rattle.std.proofs.Math.ListN.{get_or-eq_default}
use Rattle.std.specs.List.{All}
use Rattle.std.proofs.lemmas.List.Elements.{All-head, All-tail}
use Rattle.swap_digraph.specs.declared.deal.Deal.{Deal}
use Rattle.ledger_core.specs.declared.entry.Call.{Call}
use Rattle.ledger_core.specs.History.{height}
use Rattle.ledger_core.specs.Book.{Histories, history, IsLegalBook}
use Rattle.ledger_core.proofs.Bounds.{countable}
use Rattle.swap_job.specs.Crafted.{Seeds}
use Rattle.swap_job.specs.Resolved.{move_arc, call_of_move, resolved}
use Rattle.swap_run.specs.Script.{is_wait, is_wait_done, past_waits, first_call, without_first, next_call, moves_left}
use Rattle.swap_run.specs.View.{MayAnswer}
use Rattle.swap_job.specs.declared.moves.Move.{Move}
use Rattle.swap_job.proofs.Usable.{resolved_fits}
use Rattle.swap_job.specs.Fitting.{is_near, IsPartyMove}

from_here : (moves : List Move) (n : ℕ) (mv : Move) → n < length moves → mv ≡ get_or moves n mv → drop n moves ≡ mv ∷ drop (n + 1) moves
from_here moves n mv l is = rw (add-one, drop-cons moves n mv l, ← is) refl

-- one wait more is over
pub over : (k : Histories) (moves : List Move) (n : ℕ) (mv : Move) (whole : List Move) → n < length moves → mv ≡ get_or moves n mv → is_wait_done k mv ≡ true
    → past_waits k (drop n moves) ≡ whole → past_waits k (drop (n + 1) moves) ≡ whole
over k moves n mv whole l is e so_far =
    sym (ap (past_waits k) (from_here moves n mv l is) ∙ ap (λ b. cond b (past_waits k (drop (n + 1) moves)) (mv ∷ drop (n + 1) moves)) e) ∙ so_far

-- the first move that isn't over
pub stands : (k : Histories) (moves : List Move) (n : ℕ) (mv : Move) (whole : List Move) → n < length moves → mv ≡ get_or moves n mv
    → is_wait_done k mv ≡ false → past_waits k (drop n moves) ≡ whole → drop n moves ≡ whole
stands k moves n mv whole l is e so_far =
    from_here moves n mv l is
    ∙ sym (sym so_far ∙ (ap (past_waits k) (from_here moves n mv l is) ∙ ap (λ b. cond b (past_waits k (drop (n + 1) moves)) (mv ∷ drop (n + 1) moves)) e))

-- in a legal book no height is beyond a number of 32 bits
pub low_heights : (d : Deal) (k : Histories) → IsLegalBook d k → (a : ℕ) → height (history k a) < 2 ^ 32
low_heights d k legal a = go (nat_lt a (length k)) refl
  where
    go : (b : Bool) → nat_lt a (length k) ≡ b → height (history k a) < 2 ^ 32
    go true e = (countable d a (history k a) (legal.legal a (ltb-true a (length k) e))).height
    go false e = subst (λ h. height h < 2 ^ 32) (sym (get_or-eq_default k [] (omega (arith, ltb-false a (length k) e)))) (omega arith)

-- what a move of the party resolves to may be answered
pub may_resolve : (d : Deal) (seeds : Seeds) (p : ℕ) (k : Histories) (mv : Move) → IsLegalBook d k → IsPartyMove d seeds p mv
    → MayAnswer d p (resolved d seeds k mv)
may_resolve d seeds p k mv legal is = λ x q. record { arc = (at x q).0; near = (at x q).1; fits = resolved_fits d seeds k mv legal is.fits x q }
  where
    on_arc : (o : Option Call) (x : ℕ × Call) → option_map (λ c. (move_arc mv, c)) o ≡ Some x → move_arc mv ≡ x.0
    on_arc None x q = absurd (cc q)
    on_arc (Some c) x q = ap (λ (y : ℕ × Call). y.0) (same_Some (move_arc mv, c) x q)

    at : (x : ℕ × Call) → resolved d seeds k mv ≡ Some x → (x.0 < length d.graph.arcs) × IsTrue (is_near d p x.0)
    at x q =
        let e : move_arc mv ≡ x.0 = on_arc (call_of_move d seeds k mv) x q in
        (subst (λ a. a < length d.graph.arcs) e is.fits.arc, subst (λ a. IsTrue (is_near d p a)) e is.adjacent)

-- the moves that are left are some of the last ones
waits_past : (P : Move → Type 0) (k : Histories) (moves : List Move) → All P moves → All P (past_waits k moves)
waits_past P k [] all = all
waits_past P k (mv ∷ moves) all = go (is_wait_done k mv) (waits_past P k moves (All-tail P mv moves all))
  where
    go : (b : Bool) → All P (past_waits k moves) → All P (cond b (past_waits k moves) (mv ∷ moves))
    go true rest = rest
    go false rest = all

first_gone : (P : Move → Type 0) (moves : List Move) → All P moves → All P (without_first moves)
first_gone P [] all = all
first_gone P (mv ∷ moves) all = go (is_wait mv)
  where
    go : (b : Bool) → All P (cond b (mv ∷ moves) moves)
    go true = all
    go false = All-tail P mv moves all

pub left_fit : (P : Move → Type 0) (k : Histories) (moves : List Move) → All P moves → All P (moves_left k moves)
left_fit P k moves all = first_gone P (past_waits k moves) (waits_past P k moves all)

first_may : (d : Deal) (seeds : Seeds) (p : ℕ) (k : Histories) (moves : List Move) → IsLegalBook d k → All (IsPartyMove d seeds p) moves
    → MayAnswer d p (first_call d seeds k moves)
first_may d seeds p k [] legal all = λ x q. absurd (cc q)
first_may d seeds p k (mv ∷ moves) legal all = may_resolve d seeds p k mv legal (All-head (IsPartyMove d seeds p) mv moves all)

-- what a script calls may be answered
pub next_may : (d : Deal) (seeds : Seeds) (p : ℕ) (k : Histories) (moves : List Move) → IsLegalBook d k → All (IsPartyMove d seeds p) moves
    → MayAnswer d p (next_call d seeds k moves)
next_may d seeds p k moves legal all = first_may d seeds p k (past_waits k moves) legal (waits_past (IsPartyMove d seeds p) k moves all)

-- each move from a place on
pub all_from : {A : Type 0} (P : A → Type 0) (xs : List A) (n i : ℕ) (d : A) → All P (drop n xs) → n ≤ i → i < length xs → P (get_or xs i d)
all_from P [] n i d all le lt = absurd (omega arith)
all_from P (x ∷ xs) zero zero d all le lt = All-head P x xs all
all_from P (x ∷ xs) zero (suc i) d all le lt = all_from P xs 0 i d (All-tail P x xs all) (omega arith) (omega arith)
all_from P (x ∷ xs) (suc n) zero d all le lt = absurd (omega arith)
all_from P (x ∷ xs) (suc n) (suc i) d all le lt = all_from P xs n i d all (omega arith) (omega arith)

-- the move in a place from there on, of moves that are the same
pub move_from : (P : Move → Type 0) (moves same : List Move) (n i : ℕ) (mv : Move) → same ≡ moves → All P (drop n moves) → n ≤ i → i < length same
    → mv ≡ get_or same i mv → P mv
move_from P moves same n i mv e all le lt is =
    subst P (sym (is ∙ ap (λ ms. get_or ms i mv) e)) (all_from P moves n i mv all le (subst (λ ms. i < length ms) e lt))
