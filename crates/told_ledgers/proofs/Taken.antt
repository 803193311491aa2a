-- A line that the ledger at hand takes.
use Rattle.std.proofs.Common.{◌≡◌, ◌-◌, ℕ, Bool, true, false, List, Result, Ok, Err, sym, ap, ◌∙◌, subst}
use Rattle.std.specs.Prelude.{IfOk, OnOk}
use Rattle.told_ledgers.specs.declared.kind.Kind.{Kind}
use Rattle.told_ledgers.specs.declared.one_ledger.Heard.{Heard}
use Rattle.told_ledgers.specs.declared.one_ledger.Heard.TheVariants.{More}
use Rattle.told_ledgers.specs.declared.stage.Stage.{Stage}
use Rattle.told_ledgers.specs.declared.stage.Stage.TheVariants.{Reading}
use Rattle.told_ledgers.specs.SoFar.{LedgerSoFar}
use Rattle.told_ledgers.specs.Ledger.{line_heard}
use Rattle.told_ledgers.specs.Telling.{Telling, one_less, reading_ledger, with_heard}
use Rattle.told_ledgers.specs.Inside.{HasTakenLine, kind_told}

-- there is one ledger at hand
same_ledger : (l one : LedgerSoFar) → ◌≡◌ {A = Stage} (Reading l) (Reading one) → one ≡ l
same_ledger l one e = cc e

module _ (kind : Kind) (line : List ℕ) (one next : LedgerSoFar) (old new : Telling) where
  abbrev Took : Bool → Type 0
  Took t = t ≡ true → (l : LedgerSoFar) → old.stage ≡ Reading l → HasTakenLine kind line l old new

  taken_one : ((n : ℕ) → line_heard n one kind line ≡ More next) → new ≡ record old { stage = Reading next } → old.stage ≡ Reading one → (l : LedgerSoFar)
      → old.stage ≡ Reading l → HasTakenLine kind line l old new
  taken_one heard reads at l e =
      let same : one ≡ l = same_ledger l one (sym e ∙ at) in record {
        next = next;
        heard = λ n. subst (λ (x : LedgerSoFar). line_heard n x kind line ≡ More next) same (heard n);
        reads = reads;
      }

  pub taken_of : {E : Type 0} (r q : Result Bool E) → q ≡ r → IfOk r (λ t. t ≡ true → (n : ℕ) → line_heard n one kind line ≡ More next)
      → new ≡ record old { stage = Reading next } → old.stage ≡ Reading one
      → IfOk q Took
  taken_of (Ok t) q is heard reads at = subst (λ p. IfOk p Took) (sym is) (λ e. taken_one (heard e) reads at)
  taken_of (Err f) q is heard reads at = subst (λ p. IfOk p Took) (sym is) tt

-- where no ledger is at hand, none takes the line
pub none_taken : {E : Type 0} (q : Result Bool E) (P : Type 0) → q ≡ Ok false → IfOk q (λ t. t ≡ true → P)
none_taken q P is = subst (λ p. IfOk p (λ t. t ≡ true → P)) (sym is) (λ e. absurd (cc e))

-- what the ledger took is told
pub finished : (kind : Kind) (line : List ℕ) (l : LedgerSoFar) (old mid new : Telling) → HasTakenLine kind line l old mid
    → ((m : LedgerSoFar) → mid.stage ≡ Reading m → new ≡ reading_ledger m (one_less mid)) → new ≡ kind_told l old kind line
finished kind line l old mid new t f =
    f t.next (ap (λ (s : Telling). s.stage) t.reads)
    ∙ ap (λ (s : Telling). reading_ledger t.next (one_less s)) t.reads
    ∙ ap (λ (h : Heard). with_heard l.arc h (one_less old)) (sym (t.heard (old.count - old.more)))

-- what follows where a call is Ok
pub on_ok_then : {T E P Q : Type 0} (r : Result T E) → (P → Q) → OnOk r P → OnOk r Q
on_ok_then (Ok x) f p = f p
on_ok_then (Err e) f p = tt
