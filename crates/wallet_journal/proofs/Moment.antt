-- One more moment of a disk in memory.
use Rattle.std.proofs.Common.{◌≡◌, ◌⊎◌, inl, inr, ⊎_elim, ℕ, zero, suc, ◌≤◌, List, [], ◌∷◌, ◌++◌, length, drop, refl, sym, subst, arith, length-append}
use Rattle.wallet_journal.specs.Device.{Elapses}
use Rattle.wallet_journal.specs.Held.{Held, Leaves, HadLeft}

keeps : (past : List Held) (h : Held) (c : List ℕ) → HadLeft past c → HadLeft (past ++ h ∷ []) c
keeps [] h c had = absurd had
keeps (p ∷ past) h c (inl here) = inl here
keeps (p ∷ past) h c (inr there) = inr (keeps past h c there)

adds : (past : List Held) (h : Held) (c : List ℕ) → HadLeft (past ++ h ∷ []) c → HadLeft past c ⊎ Leaves h c
adds [] h c (inl here) = inr here
adds [] h c (inr none) = absurd none
adds (p ∷ past) h c (inl here) = inl (inl here)
adds (p ∷ past) h c (inr there) = ⊎_elim (λ had. inl (inr had)) (λ new. inr new) (adds past h c there)

newest : (past : List Held) (h : Held) (c : List ℕ) → Leaves h c → HadLeft (past ++ h ∷ []) c
newest [] h c is = inl is
newest (p ∷ past) h c is = inr (newest past h c is)

drop_push : (t : ℕ) (past : List Held) (h : Held) → t ≤ length past → drop t (past ++ h ∷ []) ≡ drop t past ++ h ∷ []
drop_push zero past h le = refl
drop_push (suc t) [] h le = absurd (omega (arith, le))
drop_push (suc t) (p ∷ past) h le = drop_push t past h (omega (arith, le))

-- what a crash since t might have left
abbrev pub Since : List Held → Held → ℕ → List ℕ → Type 0
Since past h t c = Leaves h c ⊎ HadLeft (drop t past) c

-- where what is held changes, and the past has what was held
pub elapses_push : (past : List Held) (old new : Held) → Elapses (length past) (length (past ++ old ∷ [])) (Since past old) (Since (past ++ old ∷ []) new)
    (Leaves new)
elapses_push past old new = record {
  later = omega (arith, length-append past (old ∷ []));
  nothing_else =
      λ t c le left. ⊎_elim (λ now. inr now) (λ had. inl (was t c (adds (drop t past) old c
      (subst (λ (l : List Held). HadLeft l c) (drop_push t past old le) had)))) left;
  keeps = λ t c le left. inr (subst (λ (l : List Held). HadLeft l c) (sym (drop_push t past old le))
      (⊎_elim (λ now. newest (drop t past) old c now) (keeps (drop t past) old c) left));
}
  where
    was : (t : ℕ) (c : List ℕ) → HadLeft (drop t past) c ⊎ Leaves old c → Since past old t c
    was t c (inl had) = inr had
    was t c (inr new) = inl new
