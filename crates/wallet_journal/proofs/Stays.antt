-- A disk stays as it was where the only calls on it take memory.
use Rattle.std.proofs.Common.{◌≡◌, ℕ, List, inl, refl, sym, ◌∙◌, subst}
use Rattle.hashkey_path.specs.declared.hashkey.Hashkey.{Hashkey}
use Rattle.wallet_journal.specs.Device.{Write, IsStill, IsUntouched, Elapses, LeavesOnly, AddsNone}
use Rattle.wallet_journal.specs.OwnDisks.{IsInRecord}
use Rattle.wallet_journal.proofs.Moments.{started, goes_on}

-- a still disk that is still again and reads as before
pub untouched_still : (old new : List ℕ) (was now : List ℕ → Type 0) (loose loose' : List Write) → IsStill old was loose → IsStill new now loose' → new ≡ old
    → IsUntouched old new was now
untouched_still old new was now loose loose' still again is = record {
  seen = is;
  crash = λ c left. subst was (sym (again.only c left ∙ is)) still.among;
}

-- what stood there
here_still : (bytes c : List ℕ) (k : Hashkey) → c ≡ bytes → IsInRecord bytes k c
here_still bytes c k is = subst (IsInRecord bytes k) (sym is) (record { whole = λ i lt. inl refl; own = λ d me fits own. own })

-- what a crash leaves where nothing was written
pub stays : {D : Type 0} (moment : D → ℕ) (left_since : D → ℕ → List ℕ → Type 0) (old new : D) (was now : List ℕ → Type 0) (loose : List Write)
    (bytes : List ℕ) (k : Hashkey)
    → ((c : List ℕ) → left_since old (moment old) c → was c) → IsStill bytes was loose → AddsNone was now
    → Elapses (moment old) (moment new) (left_since old) (left_since new) now → LeavesOnly moment left_since old new (IsInRecord bytes k)
stays moment left_since old new was now loose bytes k only_now still adds time =
    goes_on moment left_since old old new (IsInRecord bytes k) now
    (started moment left_since old (IsInRecord bytes k) (λ c left. here_still bytes c k (still.only c (only_now c left))))
    time (λ c left. here_still bytes c k (still.only c (adds c left)))

-- what a crash leaves where nothing was called
pub untouched : {D : Type 0} (moment : D → ℕ) (left_since : D → ℕ → List ℕ → Type 0) (old : D) (was : List ℕ → Type 0) (loose : List Write) (bytes : List ℕ)
    (k : Hashkey)
    → ((c : List ℕ) → left_since old (moment old) c → was c) → IsStill bytes was loose → LeavesOnly moment left_since old old (IsInRecord bytes k)
untouched moment left_since old was loose bytes k only_now still =
    started moment left_since old (IsInRecord bytes k) (λ c left. here_still bytes c k (still.only c (only_now c left)))
