-- The ticks of a run, one by one.
use Rattle.std.proofs.Common.{◌≡◌, ◌⊎◌, inl, inr, ℕ, zero, suc, ◌+◌, ◌*◌, ◌<◌, [], ◌∷◌, ◌++◌, length, get_or, sym, ap, ◌∙◌, subst, arith}
use Rattle.std.proofs.Math.ListN.{get_or-append}
use Rattle.std.proofs.Math.Seq.{get_or-append_seam}
use Rattle.escrow_core.specs.declared.reply.Reply.TheVariants.{Accepted}
use Rattle.ledger_core.specs.declared.entry.Entry.{Entry}
use Rattle.ledger_core.specs.Ledger.{tick_entry}
use Rattle.ledger_core.specs.Runs.{ticks_above}
use Rattle.ledger_core.proofs.Ticks.{length_ticks}

end_or_before : (i n : ℕ) → i < suc n → (i < n) ⊎ (i ≡ n)
end_or_before i n lt = grind arith

pub tick_at : (at k n i : ℕ) (d : Entry) → i < n → tick_entry k (at + k * suc i) Accepted ≡ get_or (ticks_above at k n) i d
tick_at at k zero i d lt = absurd (omega arith)
tick_at at k (suc n) i d lt =
    let xs = ticks_above at k n in
    let last = tick_entry k (at + k * suc n) Accepted in
    elim (end_or_before i n lt) [
      | inl before ↦ tick_at at k n i d before ∙ sym (get_or-append xs (last ∷ []) d i (subst (λ m. i < m) (sym (length_ticks at k n)) before))
      | inr e ↦ ap (λ m. tick_entry k (at + k * suc m) Accepted) e
          ∙ sym (ap (λ m. get_or (xs ++ last ∷ []) m d) (e ∙ sym (length_ticks at k n)) ∙ get_or-append_seam xs last [] d)
    ]

pub tick_within : (at k n i : ℕ) → i < n → i < length (ticks_above at k n)
tick_within at k n i lt = subst (λ m. i < m) (sym (length_ticks at k n)) lt
