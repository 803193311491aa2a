-- What a machine has learnt of a ledger, as both go on.
use Rattle.std.proofs.Common.{◌≡◌, ℕ, zero, suc, ◌+◌, ◌<◌, List, [], ◌∷◌, ◌++◌, length, replicate, drop, get_or, refl, sym, ap, ◌∙◌, subst, arith}
use Rattle.std.proofs.Common.{length-append}
use Rattle.std.proofs.Math.Seq.{drop-append_seam, lt-length-set}
use Rattle.std.proofs.lemmas.List.{get_or-set_same}
use Rattle.swap_digraph.specs.declared.deal.Deal.{Deal}
use Rattle.ledger_core.specs.declared.entry.Entry.{Entry}
use Rattle.ledger_core.specs.Book.{history}
use Rattle.ledger_core.specs.Ledger.{HasEntryAdded}
use Rattle.ledger_core.specs.Value.{LedgerState}
use Rattle.swap_rules.specs.Machine.{Begins}
use Rattle.swap_rules.proofs.Prefixes.{begins_refl, begins_more}
use Rattle.party_machine.specs.Machine.{MachineState, new_machine, learnt}
use Rattle.tests_ledgers.specs.UpTo.{IsLonger, KnowsFirstEntries}

-- what is known, and the entries after as many, are the whole
pub whole : {A : Type 0} (k h : List A) → Begins k h → k ++ drop (length k) h ≡ h
whole {A = A} k h b = ap (λ (x : List A). k ++ drop (length k) x) b.1 ∙ (ap (λ (x : List A). k ++ x) (drop-append_seam k b.0) ∙ sym b.1)

pub longer_refl : (l : LedgerState) → IsLonger l l
longer_refl l = record { deal = refl; arc = refl; begins = begins_refl l.history }

pub longer_more : (k l m : LedgerState) → IsLonger k l → IsLonger l m → IsLonger k m
longer_more k l m a b =
    record { deal = b.deal ∙ a.deal; arc = b.arc ∙ a.arc; begins = begins_more k.history l.history m.history a.begins b.begins }

-- after room was made, and an entry put in
pub one_longer : (k l m : LedgerState) (e : Entry) → l.deal ≡ k.deal → l.arc ≡ k.arc → l.history ≡ k.history → HasEntryAdded l e m → IsLonger k m
one_longer k l m e d a h s =
    record { deal = s.deal ∙ d; arc = s.arc ∙ a; begins = (e ∷ [], s.history ∙ ap (λ (x : List Entry). x ++ e ∷ []) h) }

-- a ledger that has gone on
pub still_up_to : (m : MachineState) (l k : LedgerState) (steps : ℕ) → KnowsFirstEntries m l steps → IsLonger l k → KnowsFirstEntries m k steps
still_up_to m l k steps u g = record {
  deal = g.deal ∙ u.deal;
  place = subst (λ a. a < length m.known) (sym g.arc) u.place;
  begins =
      subst (λ a. Begins (history m.known a) k.history) (sym g.arc) (begins_more (history m.known l.arc) l.history k.history u.begins g.begins);
  counted = u.counted ∙ ap (λ a. length (history m.known a)) (sym g.arc);
}

-- a machine that has learnt all of the ledger
pub all_learnt : (m n : MachineState) (l : LedgerState) (fresh : List Entry) (before after : ℕ) → KnowsFirstEntries m l before
    → fresh ≡ drop (length (history m.known l.arc)) l.history → n ≡ learnt m l.arc fresh → after ≡ before + length fresh → KnowsFirstEntries n l after
all_learnt m n l fresh before after u f e s =
    let k = history m.known l.arc in
    let is : history n.known l.arc ≡ k ++ fresh =
    ap (λ (x : MachineState). history x.known l.arc) e ∙ get_or-set_same m.known l.arc (k ++ fresh) [] u.place in
    let all : k ++ fresh ≡ l.history = ap (λ (x : List Entry). k ++ x) f ∙ whole k l.history u.begins in
    let longer : length (k ++ fresh) ≡ length k + length fresh = length-append k fresh in
    record {
      deal = u.deal ∙ sym (ap (λ (x : MachineState). x.deal) e);
      place = subst (λ (x : MachineState). l.arc < length x.known) (sym e) (lt-length-set m.known l.arc (k ++ fresh) u.place);
      begins = subst (λ h. Begins h l.history) (sym (is ∙ all)) (begins_refl l.history);
      counted = s ∙ (ap (λ n. n + length fresh) u.counted ∙ (sym longer ∙ ap (λ (h : List Entry). length h) (sym is)));
    }

nothing : (n : ℕ) → history (replicate n []) 0 ≡ []
nothing zero = refl
nothing (suc n) = refl

some_place : (n : ℕ) → 0 < n → 0 < length (replicate {A = List Entry} n [])
some_place zero lt = lt
some_place (suc n) lt = omega arith

-- a new machine and a new ledger
pub up_to_nothing : (d : Deal) (v : ℕ) (seed : List ℕ) (m : MachineState) (l : LedgerState) → m ≡ new_machine d v seed
    → l ≡ record { deal = d; arc = 0; history = []; spare = 0 } → 0 < length d.graph.arcs → KnowsFirstEntries m l 0
up_to_nothing d v seed m l me le lt =
    subst (λ (x : MachineState). KnowsFirstEntries x l 0) (sym me)
    (subst (λ (x : LedgerState). KnowsFirstEntries (new_machine d v seed) x 0) (sym le) (record {
      deal = refl;
      place = some_place (length d.graph.arcs) lt;
      begins = subst (λ (h : List Entry). Begins h []) (sym (nothing (length d.graph.arcs))) ([], refl);
      counted = sym (ap (λ (h : List Entry). length h) (nothing (length d.graph.arcs)));
    }))
