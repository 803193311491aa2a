-- The numbers of a party's entries are numbers of entries.
use Rattle.std.proofs.Common.{◌≡◌, ℕ, zero, suc, ◌+◌, ◌<◌, Bool, true, false, cond, List, [], ◌∷◌, length, get_or, slice_index, sym, subst, arith}
use Rattle.ledger_core.specs.declared.entry.Entry.{Entry}
use Rattle.ledger_core.specs.History.{is_sender}
use Rattle.history_index.specs.Numbers.{sender_numbers, call_numbers}

below_head : (b : Bool) (n len : ℕ) (ns : List ℕ) (d : ℕ) → ((k : ℕ) → k < length ns → get_or ns k d < n + 1 + len) → (k : ℕ)
    → k < length (cond b (n ∷ ns) ns) → get_or (cond b (n ∷ ns) ns) k d < n + suc len
below_head true n len ns d rest zero lt = omega arith
below_head true n len ns d rest (suc k) lt = let m = rest k (omega arith) in omega arith
below_head false n len ns d rest k lt = let m = rest k lt in omega arith

numbers_below : (n p : ℕ) (h : List Entry) (d k : ℕ) → k < length (sender_numbers n p h) → get_or (sender_numbers n p h) k d < n + length h
numbers_below n p [] d k lt = absurd (omega arith)
numbers_below n p (e ∷ h) d k lt = below_head (is_sender p e.sender) n (length h) (sender_numbers (n + 1) p h) d (numbers_below (n + 1) p h d) k lt

pub call_numbers_below : (p : ℕ) (h : List Entry) (k d : ℕ) → k < length (call_numbers p h) → get_or (call_numbers p h) k d < length h
call_numbers_below p h k d lt = let m = numbers_below 0 p h d k lt in omega arith

pub in_range : (p : ℕ) (h : List Entry) (ns : List ℕ) (k : ℕ) → ns ≡ call_numbers p h → k < length ns → slice_index ns k < length h
in_range p h ns k e lt =
    let m = call_numbers_below p h k 0 (subst (λ xs. k < length xs) e lt) in
    subst (λ xs. slice_index xs k < length h) (sym e) m
