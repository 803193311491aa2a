-- Entries that an index takes a part at a time.
use Rattle.std.proofs.Common.{◌≡◌, ℕ, ◌+◌, List, [], ◌++◌, length, sym, ap, ◌∙◌, subst, append_assoc, append-nil}
use Rattle.ledger_core.specs.declared.entry.Entry.{Entry}
use Rattle.ledger_core.specs.declared.runs.Run.{Run}
use Rattle.ledger_core.specs.Runs.{run_ticks}
use Rattle.ledger_core.proofs.Ticks.{length_ticks}
use Rattle.history_index.specs.Value.{IndexState, IsSameArc}
use Rattle.history_index.specs.Numbers.{IsIndexable}

-- each front of what is there with more is indexable
abbrev pub Takes : ℕ → ℕ → List Entry → List Entry → Type 0
Takes from to h more = (front rest : List Entry) → h ++ more ≡ front ++ rest → IsIndexable from to front

-- all of it
pub takes_all : (from to : ℕ) (h more : List Entry) → Takes from to h more → IsIndexable from to (h ++ more)
takes_all from to h more t = t (h ++ more) [] (sym (append-nil (h ++ more)))

-- its first part
pub takes_first : (from to : ℕ) (h more one two : List Entry) → more ≡ one ++ two → Takes from to h more → Takes from to h one
takes_first from to h more one two e t front rest f =
    t front (rest ++ two) (ap (λ (xs : List Entry). h ++ xs) e ∙ sym (append_assoc h one two) ∙ ap (λ (xs : List Entry). xs ++ two) f
    ∙ append_assoc front rest two)

-- after its first part
pub takes_on : (from to : ℕ) (h h' more one two : List Entry) → more ≡ one ++ two → h' ≡ h ++ one → Takes from to h more → Takes from to h' two
takes_on from to h h' more one two e k t front rest f =
    t front rest (ap (λ (xs : List Entry). h ++ xs) e ∙ sym (append_assoc h one two) ∙ ap (λ (xs : List Entry). xs ++ two) (sym k) ∙ f)

-- of the same arc
pub takes_same : (old new : IndexState) (more : List Entry) → IsSameArc old new → new.entries ≡ old.entries → Takes old.from old.to old.entries more
    → Takes new.from new.to new.entries more
takes_same old new more s e t front rest f =
    subst (λ n. IsIndexable new.from n front) (sym s.to) (subst (λ n.
    IsIndexable n old.to front) (sym s.from) (t front rest (ap (λ (xs : List Entry). xs ++ more) (sym e) ∙ f)))

pub length_run : (r : Run) → length (run_ticks r) ≡ r.count
length_run r = length_ticks r.above r.by r.count

-- what is left of it
pub takes_rest : (old new : IndexState) (more rest : List Entry) → IsSameArc old new → new.entries ++ rest ≡ old.entries ++ more
    → Takes old.from old.to old.entries more → Takes new.from new.to new.entries rest
takes_rest old new more rest s e t front last f =
    subst (λ n. IsIndexable new.from n front) (sym s.to) (subst (λ n. IsIndexable n old.to front) (sym s.from) (t front last (sym e ∙ f)))
