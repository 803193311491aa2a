-- A machine that learns each ledger that touches it, one arc after another.
use Rattle.std.proofs.Common.{◌≡◌, ◌≢◌, ◌⊎◌, inl, inr, ℕ, ◌<◌, ◌≤◌, ◌+◌, List, [], length, set, replicate, refl, sym, ap, ◌∙◌, subst, arith}
use Rattle.std.proofs.lemmas.List.{length-set, length-replicate, ext_get_or}
use Rattle.std.proofs.lemmas.List.FromFn.{get_or-map-range_with_len, length-map-range_with_len}
use Rattle.swap_digraph.specs.declared.deal.Deal.{Deal}
use Rattle.ledger_core.specs.declared.entry.Entry.{Entry}
use Rattle.ledger_core.specs.Book.{Histories, history}
use Rattle.swap_rules.specs.Machine.{Begins}
use Rattle.swap_rules.proofs.Prefixes.{same_or_not}
use Rattle.swap_rules.proofs.Conducting.{history_same, history_other}
use Rattle.swap_run.specs.Run.{relearnt}
use Rattle.swap_run.proofs.Good.{replicated}
use Rattle.party_machine.specs.Machine.{MachineState}
use Rattle.swap_world.specs.Journals.{near_known}

-- The ledgers of the first i arcs are known so far.
pub record IsRelearning (d : Deal) (b : Histories) (old new : MachineState) (i : ℕ) : Type 0 where
  pub same : new ≡ record { deal = old.deal; me = old.me; seed = old.seed; known = new.known; signed = old.signed }
  pub one_each : length new.known ≡ length d.graph.arcs
  pub here : (a : ℕ) → a < i → a < length d.graph.arcs → history new.known a ≡ near_known d old.me b a
  pub rest : (a : ℕ) → i ≤ a → history new.known a ≡ []

module _ (d : Deal) (b : Histories) (old : MachineState) where
  pub none_learnt : old.known ≡ replicate (length d.graph.arcs) [] → IsRelearning d b old old 0
  none_learnt none = record {
    same = refl;
    one_each = ap (λ (k : Histories). length k) none ∙ length-replicate (length d.graph.arcs) [];
    here = λ a lt low. absurd (omega (arith, lt));
    rest = λ a le. ap (λ (k : Histories). history k a) none ∙ replicated (length d.graph.arcs) a [];
  }

  pub one_learnt : (new next : MachineState) (i : ℕ) → i < length d.graph.arcs → IsRelearning d b old new i
      → next ≡ record { deal = new.deal; me = new.me; seed = new.seed; known = set new.known i (near_known d new.me b i); signed = new.signed }
      → IsRelearning d b old next (i + 1)
  one_learnt new next i lt k e = record {
    same = e ∙ ap (λ (m : MachineState). record { deal = m.deal; me = m.me; seed = m.seed; known = after; signed = m.signed }) k.same
        ∙ ap (λ (l : Histories). record { deal = old.deal; me = old.me; seed = old.seed; known = l; signed = old.signed }) (sym known);
    one_each = ap (λ (l : Histories). length l) known ∙ length-set new.known i (near_known d new.me b i) ∙ k.one_each;
    here = λ a low all. ap (λ (l : Histories). history l a) known ∙ at a low all (same_or_not a i);
    rest = λ a le. ap (λ (l : Histories). history l a) known
        ∙ history_other new.known i a (near_known d new.me b i) (above a le) ∙ k.rest a (omega (arith, le));
  }
    where
      after : Histories
      after = set new.known i (near_known d new.me b i)

      known : next.known ≡ set new.known i (near_known d new.me b i)
      known = ap (λ (m : MachineState). m.known) e

      me : new.me ≡ old.me
      me = ap (λ (m : MachineState). m.me) k.same

      above : (a : ℕ) → i + 1 ≤ a → a ≢ i
      above a le q = absurd (omega (arith, le, q))

      at : (a : ℕ) → a < i + 1 → a < length d.graph.arcs → (a ≡ i) ⊎ (a ≢ i)
          → history (set new.known i (near_known d new.me b i)) a ≡ near_known d old.me b a
      at a low all (inl q) =
          ap (history (set new.known i (near_known d new.me b i))) q
          ∙ history_same new.known i (near_known d new.me b i) (subst (λ n. i < n) (sym k.one_each) lt)
          ∙ ap (λ (v : ℕ). near_known d v b i) me ∙ ap (near_known d old.me b) (sym q)
      at a low all (inr n) =
          let apart : ◌≢◌ {A = ℕ} a i = n in
          history_other new.known i a (near_known d new.me b i) n ∙ k.here a (omega (arith, low, apart)) all

  pub all_learnt : (new : MachineState) (i : ℕ) → length d.graph.arcs ≤ i → IsRelearning d b old new i
      → new ≡ record { deal = old.deal; me = old.me; seed = old.seed; known = relearnt d old.me b; signed = old.signed }
  all_learnt new i le k =
      k.same ∙ ap (λ (l : Histories). record { deal = old.deal; me = old.me; seed = old.seed; known = l; signed = old.signed }) whole
    where
      many : length (relearnt d old.me b) ≡ length d.graph.arcs
      many = length-map-range_with_len (near_known d old.me b) 0 (length d.graph.arcs)

      whole : new.known ≡ relearnt d old.me b
      whole = ext_get_or [] new.known (relearnt d old.me b) (k.one_each ∙ sym many) (λ a lt.
          let low : a < length d.graph.arcs = subst (λ n. a < n) k.one_each lt in
          k.here a (omega (arith, low, le)) low
          ∙ sym (get_or-map-range_with_len (near_known d old.me b) 0 (length d.graph.arcs) a a [] low (omega arith)))

-- where nothing is known yet, what comes goes on from it
pub begins_none : (k : Histories) (a b : ℕ) (h : List Entry) → history k a ≡ [] → b ≡ a → Begins (history k b) h
begins_none k a b h none same = subst (λ (l : List Entry). Begins l h) (sym (ap (history k) same ∙ none)) (h, refl)
