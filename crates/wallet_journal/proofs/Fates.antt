-- Calls of a disk that never fails, or that stops.
use Rattle.std.proofs.Common.{◌≡◌, ℕ, zero, suc, ◌<◌, List, [], ◌∷◌, ◌++◌}
use Rattle.std.proofs.Common.{Result, Ok, Err, IsOk, IsErr, OnOk, ◌∙◌, ap, arith, append_assoc}
use Rattle.hashkey_path.specs.declared.hashkey.Hashkey.{Hashkey}
use Rattle.wallet_journal.specs.Device.{Write, AreStopped, IsSettled}
use Rattle.wallet_journal.specs.Recording.{body_write, gate_write, IsStoppedRecording, IsWritten}

pub not_both : {T E : Type 0} {X : Type 0} (r : Result T E) → IsOk r → IsErr r → X
not_both (Ok x) ok err = absurd (cc err)
not_both (Err e) ok err = absurd (cc ok)

-- what two failed calls leave, of a write and a sync
failed : {T E : Type 0} (r : Result T E) (s l new new' : List Write) → IsErr r → IsSettled r s l new new' → (new ≡ s) × (new' ≡ l)
failed (Ok x) s l new new' err h = absurd (cc err)
failed (Err e) s l new new' err h = h

passed : {T E : Type 0} (r : Result T E) (s l new new' : List Write) → IsOk r → IsSettled r s l new new' → (new ≡ s ++ l) × (new' ≡ [])
passed (Ok x) s l new new' ok h = h
passed (Err e) s l new new' ok h = absurd (cc ok)

module _ (k : Hashkey) (synced loose : List Write) (body : Write) (none : loose ≡ []) (is_body : body ≡ body_write k) where
  -- where a record's first write or sync failed
  pub stopped_first : {A B : Type 0} (n : ℕ) (r : Result A B) (stops : ℕ → Type 0) (new new' : List Write) → IsErr r → AreStopped n r stops
      → IsSettled r synced (loose ++ body ∷ []) new new' → IsStoppedRecording n k synced new new'
  stopped_first zero r stops new new' err h writes =
      let was = failed r synced (loose ++ body ∷ []) new new' err writes in
      (was.0, was.1 ∙ (λ i. none i ++ is_body i ∷ []))
  stopped_first (suc zero) r stops new new' err h writes =
      let was = failed r synced (loose ++ body ∷ []) new new' err writes in
      (was.0, was.1 ∙ (λ i. none i ++ is_body i ∷ []))
  stopped_first (suc (suc n)) r stops new new' err h writes = not_both r h.0 err

  at_gate : {A B T E : Type 0} (r : Result A B) (s : Result T E) (at at' new new' : List Write) → IsOk r → IsErr s
      → IsSettled r synced (loose ++ body ∷ []) at at'
      → IsSettled s at (at' ++ gate_write k ∷ []) new new' → IsErr s × ((new ≡ synced ++ body_write k ∷ []) × (new' ≡ gate_write k ∷ []))
  at_gate r s at at' new new' ok err first writes =
      let one = passed r synced (loose ++ body ∷ []) at at' ok first in
      let two = failed s at (at' ++ gate_write k ∷ []) new new' err writes in
      (err, (two.0 ∙ one.0 ∙ (λ i. synced ++ (none i ++ is_body i ∷ [])), two.1 ∙ ap (λ (l : List Write). l ++ gate_write k ∷ []) one.1))

  -- where both came to their end
  pub written_both : {A B T E : Type 0} (r : Result A B) (s : Result T E) (at at' new new' : List Write) → IsOk r
      → IsSettled r synced (loose ++ body ∷ []) at at' → IsSettled s at (at' ++ gate_write k ∷ []) new new' → OnOk s (IsWritten k synced new new')
  written_both r (Err e) at at' new new' ok first writes = tt
  written_both r (Ok x) at at' new new' ok first writes =
      let one = passed r synced (loose ++ body ∷ []) at at' ok first in (
        writes.0 ∙ (λ i. one.0 i ++ (one.1 i ++ gate_write k ∷ [])) ∙ (λ i. (synced ++ (none i ++ is_body i ∷ [])) ++ gate_write k ∷ [])
            ∙ append_assoc synced (body_write k ∷ []) (gate_write k ∷ []),
        writes.1,
      )

  -- where they passed
  pub stopped_second : {A B T E : Type 0} (n : ℕ) → n < 4 → (r : Result A B) (s : Result T E) (mid stops : ℕ → Type 0) (at at' new new' : List Write)
      → IsOk r → AreStopped n r mid
      → IsSettled r synced (loose ++ body ∷ []) at at' → ((m : ℕ) → mid m → AreStopped m s stops) → IsSettled s at (at' ++ gate_write k ∷ []) new new'
      → IsErr s × IsStoppedRecording n k synced new new'
  stopped_second zero lt r s mid stops at at' new new' ok h first next writes = not_both r ok h
  stopped_second (suc zero) lt r s mid stops at at' new new' ok h first next writes = not_both r ok h
  stopped_second (suc (suc zero)) lt r s mid stops at at' new new' ok h first next writes = at_gate r s at at' new new' ok (next 0 h.1) first writes
  stopped_second (suc (suc (suc zero))) lt r s mid stops at at' new new' ok h first next writes = at_gate r s at at' new new' ok (next 1 h.1) first writes
  stopped_second (suc (suc (suc (suc n)))) lt r s mid stops at at' new new' ok h first next writes = absurd (omega (arith, lt))
