-- The ledgers of a world, and their histories.
use Rattle.std.proofs.Common.{◌≡◌, ◌≢◌, ◌⊎◌, inl, inr, ℕ, zero, suc, ◌+◌, ◌<◌, List, [], ◌∷◌, ◌++◌, length, get_or, map, take, replicate, refl}
use Rattle.std.proofs.Common.{sym, ap, subst, ◌∙◌, arith, Result, Ok, Err, OnOk, OnErr}
use Rattle.std.proofs.lemmas.List.{map-append, take_more, map-set, length-map, get_or-map, get_or_default, length-set, get_or-set_same, get_or-set_other}
use Rattle.swap_rules.proofs.Prefixes.{same_or_not}
use Rattle.std.proofs.Math.Seq.{map-set_same}
use Rattle.std.proofs.Math.ListN.{set}
use Rattle.swap_digraph.specs.declared.deal.Deal.{Deal}
use Rattle.ledger_core.specs.declared.entry.Entry.{Entry}
use Rattle.ledger_core.specs.Value.{LedgerState}
use Rattle.ledger_core.specs.Book.{Histories, history, IsLegalBook}
use Rattle.ledger_core.specs.History.{IsLegal}
use Rattle.std.specs.List.{range_with_len}
use Rattle.swap_run.specs.Run.{no_histories}
use Rattle.swap_world.specs.Acting.{histories}
use Rattle.swap_world.specs.Inside.{AreArcLedgers, IsArcLedger, new_ledger, new_ledgers}

pub on_ok : {A E : Type 0} {P Q : Type 0} (r : Result A E) → (P → Q) → OnOk r P → OnOk r Q
on_ok (Ok x) f h = f h
on_ok (Err e) f h = tt

pub on_err : {A E : Type 0} {P Q : Type 0} (r : Result A E) → (P → Q) → OnErr r P → OnErr r Q
on_err (Ok x) f h = tt
on_err (Err e) f h = f h

pub either : {P Q R S : Type 0} → (P → R) → (Q → S) → P ⊎ Q → R ⊎ S
either f g (inl p) = inl (f p)
either f g (inr q) = inr (g q)

-- What holds of each element of a list.

-- with another one in the place of p, where it holds of those in other places
pub each_but : {A : Type 0} (P : ℕ → A → Type 0) (xs : List A) (p : ℕ) (y : A)
    → ((v : ℕ) (x : A) → v ≢ p → v < length xs → x ≡ get_or xs v x → P v x) → p < length xs → P p y
    → (v : ℕ) (x : A) → v < length (set xs p y) → x ≡ get_or (set xs p y) v x → P v x
each_but {A = A} P xs p y others lt here v x l e = at (same_or_not v p)
  where
    at : (v ≡ p) ⊎ (v ≢ p) → P v x
    at (inl s) = subst (λ u. P u x) (sym s) (subst (P p) (sym (e ∙ (ap (λ u. get_or (set xs p y) u x) s ∙ get_or-set_same xs p y x lt))) here)
    at (inr n) = others v x n (subst (λ n. v < n) (length-set xs p y) l) (e ∙ get_or-set_other xs p v y x n)

-- with another one in the place of p, where it holds of all
pub each_set : {A : Type 0} (P : ℕ → A → Type 0) (xs : List A) (p : ℕ) (y : A)
    → ((v : ℕ) (x : A) → v < length xs → x ≡ get_or xs v x → P v x) → p < length xs → P p y
    → (v : ℕ) (x : A) → v < length (set xs p y) → x ≡ get_or (set xs p y) v x → P v x
each_set P xs p y all lt here = each_but P xs p y (λ v x n. all v x) lt here

-- The histories of ledgers.

-- the history of the ledger that was read
pub history_at : (ls : List LedgerState) (a : ℕ) (l : LedgerState) → a < length ls → l ≡ get_or ls a l → history (histories ls) a ≡ l.history
history_at ls a l lt is = get_or-map (λ (x : LedgerState). x.history) ls a l [] lt ∙ ap (λ (x : LedgerState). x.history) (sym is)

-- the ledger was changed
pub changed : (ls : List LedgerState) (a : ℕ) (l : LedgerState) (h : List Entry) → l.history ≡ h → histories (set ls a l) ≡ set (histories ls) a h
changed ls a l h e = map-set (λ (x : LedgerState). x.history) ls a l ∙ ap (λ (x : List Entry). set (histories ls) a x) e

-- the ledger's history is as before
pub unchanged : (ls : List LedgerState) (a : ℕ) (old new : LedgerState) → old ≡ get_or ls a old → new.history ≡ old.history
    → histories (set ls a new) ≡ histories ls
unchanged ls a old new is e = map-set_same (λ (x : LedgerState). x.history) ls a new old (e ∙ ap (λ (x : LedgerState). x.history) is)

legal_at : (d : Deal) (ls : List LedgerState) (a : ℕ) → AreArcLedgers d ls → a < length ls → IsLegal d a (history (histories ls) a)
legal_at d [] a k lt = absurd (omega arith)
legal_at d (x ∷ ls) a k lt =
    let here : get_or (x ∷ ls) a x ≡ get_or (x ∷ ls) a (get_or (x ∷ ls) a x) = get_or_default (x ∷ ls) a x (get_or (x ∷ ls) a x) lt in
    rw (history_at (x ∷ ls) a (get_or (x ∷ ls) a x) lt here) ((k.each a (get_or (x ∷ ls) a x) lt here).legal)

pub legal_book : (d : Deal) (ls : List LedgerState) → AreArcLedgers d ls → IsLegalBook d (histories ls)
legal_book d ls k = record {
  one_each = length-map ls (λ (x : LedgerState). x.history) ∙ k.one_each;
  legal = λ a lt. let n = length-map ls (λ (x : LedgerState). x.history) in legal_at d ls a k (omega arith);
}

no_more : (d : Deal) (a n : ℕ) → histories (map (new_ledger d) (range_with_len a n)) ≡ replicate n []
no_more d a zero = refl
no_more d a (suc n) = ap (λ (b : Histories). [] ∷ b) (no_more d (a + 1) n)

-- the histories of new ledgers are empty
pub none_yet : (d : Deal) → histories (new_ledgers d) ≡ no_histories d
none_yet d = no_more d 0 (length d.graph.arcs)

pub book_ok : (ls : List LedgerState) (a : ℕ) (old new : LedgerState) (f : List Entry → List Entry) → a < length ls → old ≡ get_or ls a old
    → new.history ≡ f old.history → histories (set ls a new) ≡ set (histories ls) a (f (history (histories ls) a))
book_ok ls a old new f lt is e = changed ls a new (f old.history) e ∙ ap (λ (h : List Entry). set (histories ls) a (f h)) (sym (history_at ls a old lt is))

pub book_err : (ls : List LedgerState) (a : ℕ) (old new : LedgerState) → old ≡ get_or ls a old → new.history ≡ old.history
    → histories (set ls a new) ≡ histories ls
book_err ls a old new is e = unchanged ls a old new is e

-- A ledger in the place of another.

pub moved : (d : Deal) (a : ℕ) (old new : LedgerState) → IsArcLedger d a old → new.deal ≡ old.deal → new.arc ≡ old.arc
    → IsLegal new.deal new.arc new.history → IsArcLedger d a new
moved d a old new k ed ea legal = record {
  deal = ed ∙ k.deal;
  arc = ea ∙ k.arc;
  legal = subst (λ (x : Deal). IsLegal x a new.history) (ed ∙ k.deal) (subst (λ (y : ℕ). IsLegal new.deal y new.history) (ea ∙ k.arc) legal);
}

pub ledger_set : (d : Deal) (ls : List LedgerState) (a : ℕ) (y : LedgerState) → AreArcLedgers d ls → a < length ls → IsArcLedger d a y
    → AreArcLedgers d (set ls a y)
ledger_set d ls a y k lt i = record { one_each = length-set ls a y ∙ k.one_each; each = each_set (IsArcLedger d) ls a y k.each lt i }

-- one more history
pub one_more : (ls : List LedgerState) (k : ℕ) (l : LedgerState) (hs : List (List Entry)) → k < length ls → l ≡ get_or ls k l
    → hs ≡ histories (take k ls) → hs ++ l.history ∷ [] ≡ histories (take (k + 1) ls)
one_more ls k l hs lt is e =
    ap (λ (b : Histories). b ++ l.history ∷ []) e
    ∙ (sym (map-append (λ (x : LedgerState). x.history) (take k ls) (l ∷ []))
    ∙ ap (λ (xs : List LedgerState). histories xs) (sym (take_more ls k l lt ∙ ap (λ (x : LedgerState). take k ls ++ x ∷ []) (sym is))))
