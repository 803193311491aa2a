-- What a machine knows of a ledger, and all of it.
use Rattle.std.proofs.Common.{◌≡◌, List, ◌++◌, length, drop, ap, sym, ◌∙◌}
use Rattle.std.proofs.Math.Seq.{drop-append_seam}
use Rattle.swap_rules.specs.Machine.{Begins}

-- what is known, and the entries after as many, are the whole
pub whole : {A : Type 0} (k h : List A) → Begins k h → k ++ drop (length k) h ≡ h
whole {A = A} k h b = ap (λ (x : List A). k ++ drop (length k) x) b.1 ∙ (ap (λ (x : List A). k ++ x) (drop-append_seam k b.0) ∙ sym b.1)
