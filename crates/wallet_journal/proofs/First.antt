-- A disk on which nothing was written.
use Rattle.std.proofs.Common.{◌≡◌, ℕ, zero, suc, ◌<◌, ◌==◌, ◌&&◌, Bool, false, cond, List, [], ◌∷◌, length, get_or}
use Rattle.std.proofs.Common.{replicate, Option, Some, None, refl, sym}
use Rattle.std.proofs.Common.{ap, ◌∙◌, subst, arith}
use Rattle.std.proofs.lemmas.Bool.{false≢true}
use Rattle.swap_digraph.specs.declared.deal.Deal.{Deal}
use Rattle.hashkey_path.specs.declared.hashkey.Hashkey.{Hashkey}
use Rattle.wallet_journal.specs.Layout.{is_made, is_gate_open, is_bad, body, body_hashkey, recorded}
use Rattle.swap_digraph.specs.Deal.{path_limit}
use Rattle.wallet_journal.specs.Journal.{listed_hashkey}
use Rattle.wallet_journal.specs.Held.{disk_size, no_bytes}
use Rattle.wallet_journal.specs.OwnDisks.{IsOwn}

all_zero : (n i : ℕ) → ◌≡◌ {A = ℕ} (get_or (replicate n 0) i 0) 0
all_zero zero i = refl
all_zero (suc n) zero = refl
all_zero (suc n) (suc i) = all_zero n i

none_made : is_made no_bytes ≡ false
none_made = ap (λ (b : ℕ). b == 1) (all_zero disk_size 0)

pub none_recorded : (i : ℕ) → recorded no_bytes i ≡ None
none_recorded i = ap (λ (b : Bool). cond (b && is_gate_open no_bytes i) (Some (body_hashkey i (body i no_bytes))) None) none_made

pub none_own : (d : Deal) (me : ℕ) (c : List ℕ) → c ≡ no_bytes → IsOwn d me c
none_own d me c is = subst (IsOwn d me) (sym is) (record {
  partys = λ made. absurd (false≢true (sym none_made ∙ made));
  sound = λ i lt. ap (λ (b : Bool). (b && is_gate_open no_bytes i) && is_bad (path_limit d) d.graph.n (body i no_bytes)) none_made;
})

-- where nothing is recorded at any lock, the list has nothing
pub none_signed : (signed : List (Option Hashkey)) (n : ℕ) → length signed ≡ n → ((i : ℕ) → i < length signed → listed_hashkey signed i ≡ None)
    → signed ≡ replicate n None
none_signed [] n l none = ap (λ (m : ℕ). replicate m None) l
none_signed (x ∷ xs) zero l none = absurd (cc l)
none_signed (x ∷ xs) (suc n) l none =
    let head : x ≡ None = none 0 (omega arith) in
    let tail : xs ≡ replicate n None = none_signed xs n (omega (arith, l)) (λ i lt. none (suc i) (omega (arith, lt))) in
    λ i. head i ∷ tail i
