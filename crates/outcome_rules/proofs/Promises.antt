-- What exact findings promise by the laws of the swap, and what exact outcomes show of it.
use Rattle.std.proofs.Common.{◌≡◌, ◌⊎◌, ℕ, ◌+◌, ◌<◌, Bool, false, List, [], inl, inr, sym, ap, ◌∙◌, subst, arith, slice_index_or}
use Rattle.std.specs.List.{list_any}
use Rattle.std.proofs.lemmas.List.FromFn.{get_or-map-range_with_len}
use Rattle.swap_digraph.specs.declared.deal.Deal.{Deal}
use Rattle.ledger_core.specs.Book.{Histories, IsLegalBook}
use Rattle.swap_rules.specs.declared.finding.Finding.{Finding}
use Rattle.swap_rules.specs.declared.outcome.Outcome.{Outcome}
use Rattle.swap_rules.specs.declared.outcome.Outcome.TheVariants.{NoDeal, Underwater, Deal as WholeDeal}
use Rattle.swap_rules.specs.Accepted.{IsAccepted}
use Rattle.swap_rules.specs.Findings.{findings}
use Rattle.swap_rules.specs.Outcome.{outcome}
use Rattle.swap_rules.specs.Laws.{names_party, FindsNothing, IsTransferred}
use Rattle.swap_rules.specs.Walking.{endangers, strands}
use Rattle.swap_rules.proofs.Found as found
use Rattle.swap_rules.proofs.Refunds.{watchful_is_safe}
use Rattle.swap_rules.proofs.Walking.{unpublished_loses_nothing}
use Rattle.swap_units.proofs.Found as units_found
use Rattle.swap_units.proofs.Units.{watchful_is_whole}
use Rattle.outcome_rules.specs.Report.{is_conforming_party, deal_outcomes}
use Rattle.coalition_laws.proofs.Coalition as coalition
use Rattle.outcome_rules.specs.Promises.{AllAreConforming, AllArePaid, AllHaveRefunds, NobodyGains, NoneIsUnderwater, NoneLosesUnits, UnpublishedLoseNothing, WatchfulAreWhole}

module _ (d : Deal) (conforming : List Bool) (b : Histories) (l : List Finding) (legal : IsLegalBook d b)
    (exact : l ≡ findings d (is_conforming_party conforming) b) where
  pub none_is_underwater : IsAccepted d → NoneIsUnderwater d conforming (outcome d b) l
  none_is_underwater k v c none =
      found.late_publish_is_safe d (is_conforming_party conforming) b v k legal c.party c.conforms (subst (λ l. list_any (endangers d v) l ≡ false) exact c.clear)
      (subst (λ l. list_any (names_party d v) l ≡ false) exact none)

  pub all_have_refunds : IsAccepted d → AllHaveRefunds d conforming b l
  all_have_refunds k v c =
      found.late_unlock_has_refunds d (is_conforming_party conforming) b v k legal c.party c.conforms (subst (λ l. list_any (strands d v) l ≡ false) exact c.clear)

  pub all_are_paid : IsAccepted d → AllArePaid d conforming b l
  all_are_paid k v c none =
      units_found.unendangered_is_paid d (is_conforming_party conforming) b v k legal c.party c.conforms
      (subst (λ l. list_any (endangers d v) l ≡ false) exact c.clear) (subst (λ l. list_any (names_party d v) l ≡ false) exact none)

  pub none_loses_units : IsAccepted d → NoneLosesUnits d conforming b l
  none_loses_units k v c s none =
      (units_found.unstranded_is_whole d (is_conforming_party conforming) b v k legal c.party c.conforms
      (subst (λ l. list_any (endangers d v) l ≡ false) exact c.clear) (subst (λ l. list_any (strands d v) l ≡ false) exact s.clear)
      (subst (λ l. list_any (names_party d v) l ≡ false) exact none)).1

  pub watchful_are_whole : IsAccepted d → WatchfulAreWhole d b
  watchful_are_whole k v conducted watchful =
      (watchful_is_safe d b v k legal conducted watchful, watchful_is_whole d b v k legal conducted watchful)

  pub unpublished_lose_nothing : IsAccepted d → UnpublishedLoseNothing d b
  unpublished_lose_nothing k v none gives = unpublished_loses_nothing d b v k legal none gives

  pub is_transferred : (k : IsAccepted d) → AllAreConforming d conforming → l ≡ [] → IsTransferred d b k
  is_transferred k all none = found.without_findings_all_is_transferred d (is_conforming_party conforming) b k legal all (sym exact ∙ none)

  pub finds_nothing : l ≡ [] → FindsNothing d (is_conforming_party conforming) b
  finds_nothing none = found.nothing_found d (is_conforming_party conforming) b legal (sym exact ∙ none)

  pub nobody_gains : IsAccepted d → NobodyGains d conforming b (outcome d b) l
  nobody_gains k = subst (NobodyGains d conforming b (outcome d b)) (sym exact) (record {
    together = λ c others. coalition.cheaters_gain_nothing d (is_conforming_party conforming) b c k legal others;
    alone = λ v below others. coalition.cheater_gains_nothing d (is_conforming_party conforming) b v k legal others;
    all_or_nothing = λ all. coalition.unharmed_trade_all_or_nothing d (is_conforming_party conforming) b k legal all;
  })

module _ (d : Deal) (b : Histories) (shown : List Outcome) (exact : shown ≡ deal_outcomes d b) where
  outcome_shown : (v : ℕ) → v < d.graph.n → slice_index_or shown v Underwater ≡ outcome d b v
  outcome_shown v l =
      let z : ◌≡◌ {A = ℕ} (0 + v) v = omega arith in
      ap (λ os. slice_index_or os v Underwater) exact ∙ get_or-map-range_with_len (outcome d b) 0 d.graph.n v v Underwater l z

  pub none_is_shown_underwater : (conforming : List Bool) (l : List Finding) → NoneIsUnderwater d conforming (outcome d b) l
      → NoneIsUnderwater d conforming (λ v. slice_index_or shown v Underwater) l
  none_is_shown_underwater conforming l safe v c none under = safe v c none (sym (outcome_shown v c.party) ∙ under)

  pub all_are_whole : (k : IsAccepted d) → IsTransferred d b k → (v : ℕ) → v < d.graph.n → slice_index_or shown v Underwater ≡ WholeDeal
  all_are_whole k t v l = outcome_shown v l ∙ t.whole v l

  pub none_is_shown_to_gain : (conforming : List Bool) (l : List Finding) → NobodyGains d conforming b (outcome d b) l
      → NobodyGains d conforming b (λ v. slice_index_or shown v Underwater) l
  none_is_shown_to_gain conforming l gains = record {
    together = gains.together;
    alone = λ v below others. let k = gains.alone v below others in
        (λ free. k.0 (sym (outcome_shown v below) ∙ free), λ less. k.1 (sym (outcome_shown v below) ∙ less));
    all_or_nothing = λ all. shown_so (gains.all_or_nothing all);
  }
    where
      shown_so : ((v : ℕ) → v < d.graph.n → outcome d b v ≡ NoDeal) ⊎ ((v : ℕ) → v < d.graph.n → outcome d b v ≡ WholeDeal)
          → ((v : ℕ) → v < d.graph.n → slice_index_or shown v Underwater ≡ NoDeal) ⊎ ((v : ℕ) → v < d.graph.n → slice_index_or shown v Underwater ≡ WholeDeal)
      shown_so (inl none) = inl (λ v below. outcome_shown v below ∙ none v below)
      shown_so (inr whole) = inr (λ v below. outcome_shown v below ∙ whole v below)
