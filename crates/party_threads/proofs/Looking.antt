-- A party that looks around: what holds once it has looked at a first part of its ledgers.
use Rattle.std.proofs.Common.{◌≡◌, ◌≢◌, ◌⊎◌, ℕ, ◌+◌, ◌<◌, ◌++◌, List, [], ◌∷◌, zero, suc, length, set, Option, Some, None, append_assoc, refl}
use Rattle.std.proofs.Common.{sym, ap, ◌∙◌, subst, inl, inr, arith}
use Rattle.std.proofs.lemmas.List.Elements.{filter-append}
use Rattle.std.proofs.lemmas.Option.{none-some}
use mathlib.Core.List.{IsPrefix}
use Rattle.swap_digraph.specs.declared.deal.Deal.{Deal}
use Rattle.ledger_core.specs.declared.entry.Entry.{Entry}
use Rattle.ledger_core.specs.History.{is_sender, IsLegal}
use Rattle.ledger_core.specs.Book.{Histories, history, IsLegalBook}
use Rattle.ledger_shared.specs.Value.{PassState, SharedState, party_made}
use Rattle.swap_rules.proofs.Prefixes.{same_or_not}
use Rattle.swap_rules.proofs.Conducting.{history_same, history_other}
use Rattle.party_threads.specs.Later.{arc_pass, Advanced}
use Rattle.party_threads.specs.Tracks.{Watcher, watcher_knowing, IsFresh, HasLooked, LookedIf, HaveLooked}
use Rattle.party_threads.proofs.Passes.{one_went, watching_on, first_seen_arc, elsewhere_on}

-- More entries of others are fresh.
fresh_more : (v : ℕ) (k h g : List Entry) (more : List Entry) → IsFresh v k h → g ≡ h ++ more → party_made v more ≡ [] → IsFresh v k g
fresh_more v k h g more f is none = (
  f.0 ++ more,
  is ∙ (ap (λ x. x ++ more) f.1 ∙ append_assoc k f.0 more),
  filter-append (λ (e : Entry). is_sender v e.sender) f.0 more ∙ (ap (λ x. x ++ party_made v more) f.2 ∙ none),
)

-- putting nothing where there is nothing changes nothing
set_none : (ps : List (Option PassState)) (a : ℕ) → arc_pass ps a ≡ None → set ps a None ≡ ps
set_none [] a e = refl
set_none (p ∷ ps) zero e = ap (λ x. x ∷ ps) (sym e)
set_none (p ∷ ps) (suc a) e = ap (λ xs. p ∷ xs) (set_none ps a e)

module _ (ledgers : List SharedState) (w : Watcher) (ps : List (Option PassState)) (k : ℕ) (x y : Watcher) (qs : List (Option PassState))
    (h : HaveLooked ledgers w ps k x qs) (below : k < length qs) where
  known : k < length x.known
  known = subst (λ z. k < z) (h.watching.tracks.places ∙ sym h.watching.known) below

  module _ (p q : PassState) (here : arc_pass qs k ≡ Some p) (l : HasLooked x k p y q) where
    abbrev now : List Entry
    now = history x.known k ++ l.fresh

    fresh_now : (a : ℕ) → (a ≡ k) ⊎ (a ≢ k) → IsFresh w.me (history w.known a) (history (set x.known k now) a)
    fresh_now a (inl same) =
        subst (λ z. IsFresh w.me (history w.known z) (history (set x.known k now) z)) (sym same)
        (fresh_more w.me (history w.known k) (history x.known k) _ l.fresh (h.fresh k) (history_same x.known k now known)
        (subst (λ v. party_made v l.fresh ≡ []) h.me l.foreign))
    fresh_now a (inr apart) =
        subst (IsFresh w.me (history w.known a)) (sym (history_other x.known k a now apart)) (h.fresh a)

    legal_now : (a : ℕ) → (a ≡ k) ⊎ (a ≢ k) → IsLegal w.deal a (history w.known a) → IsLegal w.deal a (history (set x.known k now) a)
    legal_now a (inl same) before =
        subst (λ z. IsLegal w.deal z (history (set x.known k now) z)) (sym same)
        (subst (IsLegal w.deal k) (sym (history_same x.known k now known)) (subst (λ d. IsLegal d k now) h.deal l.legal))
    legal_now a (inr apart) before = subst (IsLegal w.deal a) (sym (history_other x.known k a now apart)) (h.legal a before)

    seen_on_here : HaveLooked ledgers w ps (k + 1) (watcher_knowing x k now) (set qs k (Some q))
    seen_on_here = record {
      deal = h.deal;
      me = h.me;
      watching = watching_on ledgers x qs k p q now h.watching below here (l.fresh, l.pass) l.seen;
      gone_on = one_went ps qs k (Some q) below h.gone_on (subst (λ o. Advanced o (Some q)) (sym here) (q, refl, (l.fresh, l.pass)));
      seen = first_seen_arc k qs q below h.seen l.whole;
      fresh = λ a. fresh_now a (same_or_not a k);
      legal = λ a before. legal_now a (same_or_not a k) before;
      elsewhere = elsewhere_on ps qs w.known x.known k p now h.gone_on here h.elsewhere;
    }

  -- where there is no pass nothing is looked at
  past : arc_pass qs k ≡ None → HaveLooked ledgers w ps (k + 1) x qs
  past none = record {
    deal = h.deal;
    me = h.me;
    watching = h.watching;
    gone_on = h.gone_on;
    seen = λ a p lt is. at a p lt is (same_or_not a k);
    fresh = h.fresh;
    legal = h.legal;
    elsewhere = h.elsewhere;
  }
    where
      at : (a : ℕ) (p : PassState) → a < k + 1 → arc_pass qs a ≡ Some p → (a ≡ k) ⊎ (a ≢ k) → IsPrefix p.shared p.seen
      at a p lt is (inl same) = absurd (none-some p (sym none ∙ subst (λ z. arc_pass qs z ≡ Some p) same is))
      at a p lt is (inr apart) = h.seen a p (omega (arith, lt, apart)) is

  -- one more ledger was looked at, if there is a pass to it
  pub looks_on : (q : Option PassState) → LookedIf x k (arc_pass qs k) y q → HaveLooked ledgers w ps (k + 1) y (set qs k q)
  looks_on q l = go (arc_pass qs k) refl l
    where
      go : (o : Option PassState) → arc_pass qs k ≡ o → LookedIf x k o y q → HaveLooked ledgers w ps (k + 1) y (set qs k q)
      go None none l0 =
          subst (λ z. HaveLooked ledgers w ps (k + 1) y (set qs k z)) (sym l0.1)
          (subst (λ zs. HaveLooked ledgers w ps (k + 1) y zs) (sym (set_none qs k none))
          (subst (λ z. HaveLooked ledgers w ps (k + 1) z qs) (sym l0.0) (past none)))
      go (Some p) here l0 =
          subst (λ z. HaveLooked ledgers w ps (k + 1) y (set qs k z)) (sym l0.1)
          (subst (λ z. HaveLooked ledgers w ps (k + 1) z (set qs k (Some l0.0))) (sym l0.2.knows) (seen_on_here p l0.0 here l0.2))

-- a book of longer histories is legal where these are
pub legal_after : (d : Deal) (k h : Histories) → length h ≡ length d.graph.arcs → ((a : ℕ) → IsLegal d a (history k a) → IsLegal d a (history h a))
    → IsLegalBook d k → IsLegalBook d h
legal_after d k h many legal l = record {
  one_each = many;
  legal = λ a lt. legal a (l.legal a (subst (λ z. a < z) (many ∙ sym l.one_each) lt));
}
