-- What an empty list of findings says.
use Rattle.std.proofs.Common.{Option, eq-eqb, ◌==◌, ◌≡◌, ◌⊎◌, ℕ, ◌+◌, ◌<◌, nat_lt, Bool, true, false, cond, not, if◌then◌else◌, ◌&&◌, List, [], ◌∷◌}
use Rattle.std.proofs.Common.{◌++◌, length, Some, None, refl, sym, ap, ◌∙◌, subst, inl, inr, ltb-true, lt-ltb}
use Rattle.std.specs.List.{list_any, list_all, range_with_len, flat_map, cons_option}
use Rattle.std.proofs.lemmas.Bool.{false≢true}
use Rattle.std.specs.Prelude.{filter_map}
use Rattle.swap_base.specs.Lists.{IsElement, moments}
use Rattle.swap_base.proofs.Lists.{list_any-in, list_all-from, and_both, in_append, or-right, at_moment, all_from_list_all, in_range, in_flat_map}
use Rattle.swap_digraph.specs.Deal.{party, counterparty}
use Rattle.swap_digraph.specs.declared.deal.Deal.{Deal}
use Rattle.swap_digraph.specs.Graph.{arcs}
use Rattle.ledger_core.specs.History.{height}
use Rattle.ledger_core.specs.Book.{Histories, history, IsLegalBook}
use Rattle.swap_rules.specs.Findings.{findings, or_zero, failing, broken, deal_rules, arc_late_findings, lates, forgeries, party_findings, unfinished}
use Rattle.swap_rules.specs.Conduct.{IsConducted, keeps_entry}
use Rattle.swap_rules.specs.Late.{reference_height, is_late}
use Rattle.swap_rules.specs.Forged.{is_forged}
use Rattle.swap_rules.specs.Outcome.{IsEnded, EnteringHaveEnded, LeavingHaveEnded}
use Rattle.swap_rules.specs.declared.finding.Rule.{Rule}
use Rattle.swap_rules.specs.declared.finding.Rule.TheVariants.{Publish as ToPublish, Unlock as ToUnlock, Claim as ToClaim, Refund as ToRefund}
use Rattle.swap_rules.specs.declared.finding.Finding.{Finding}
use Rattle.swap_rules.specs.declared.finding.Finding.TheVariants.{Broke, Late, Forged, Unfinished}
use Rattle.swap_rules.specs.Laws.{UnnamedIsSafe, is_against_party, names_party, IsUnforged, WithoutFindingsAllIsTransferred, Conforms, NothingFound}
use Rattle.swap_rules.proofs.Refunds.{every_book_is_safe, safe_by, unlocks_all, claims_all, has_refunds, late_asks, on_time_asks}
use Rattle.swap_rules.proofs.Entering.{UnlocksInTime}
use Rattle.swap_rules.proofs.Accepted.{times_law}
use Rattle.swap_rules.specs.Walking.{detains, endangers, strands, LateAskerHasRefunds, LatePublishIsSafe, LateUnlockHasRefunds}
use Rattle.swap_rules.proofs.Transfer.{all_is_transferred}
use Rattle.swap_rules.proofs.Words.{append_empty, flat_map_none, past_end, publish_rule, unlock_rule, claim_rule, refund_rule, or-left, enters, leaves}
use Rattle.time_bounds.specs.Times as times

failing_head : {A : Type 0} (say : A → Finding) (test : A → Bool) (x : A) (xs : List A) (t : Bool)
    → cons_option (if t then None else Some (say x)) (filter_map (λ m. if test m then None else Some (say m)) xs) ≡ []
    → (filter_map (λ m. if test m then None else Some (say m)) xs ≡ [] → list_all test xs ≡ true) → (t && list_all test xs) ≡ true
failing_head say test x xs true e rest = rest e
failing_head say test x xs false e rest = absurd (cc e)

failing_empty : {A : Type 0} (say : A → Finding) (test : A → Bool) (xs : List A) → filter_map (λ m. if test m then None else Some (say m)) xs ≡ []
    → list_all test xs ≡ true
failing_empty say test [] e = refl
failing_empty say test (x ∷ xs) e = failing_head say test x xs (test x) e (failing_empty say test xs)

within : (a m : ℕ) → (a < m) ⊎ (a < m → ⊥)
within a m = go (nat_lt a m) refl
  where
    go : (x : Bool) → nat_lt a m ≡ x → (a < m) ⊎ (a < m → ⊥)
    go true e = inl (ltb-true a m e)
    go false e = inr (λ l. false≢true (sym e ∙ lt-ltb a m l))

late_none : (x : Bool) (f : Finding) → cond x (f ∷ []) [] ≡ [] → x ≡ false
late_none true f e = absurd (cc e)
late_none false f e = refl

unfinished_none : (x : Bool) (f : Finding) → cond x [] (f ∷ []) ≡ [] → x ≡ true
unfinished_none true f e = refl
unfinished_none false f e = absurd (cc e)

no_not : (x : Bool) → not x ≡ true → x ≡ false
no_not true e = absurd (cc e)
no_not false e = refl

nothing_of_party : (d : Deal) (b : Histories) (v : ℕ) → IsLegalBook d b → party_findings d b v ≡ [] → Conforms d b v
nothing_of_party d b v legal e =
    let k1 = append_empty (broken d b v ++ lates d b v) (forgeries d b v) e in
    let k2 = append_empty (broken d b v) (lates d b v) k1.0 in
    record {
      conducted = λ a. elim (within a (length d.graph.arcs)) [
        | inl l ↦ failing_empty (λ m. Broke v a (length m.past)) (keeps_entry d b v a) (moments (history b a))
            (flat_map_none (λ a. failing (Broke v a) (keeps_entry d b v a) (history b a)) (arcs d.graph) a k2.0 (in_range a (length d.graph.arcs) l))
        | inr n ↦ ap (λ h. list_all (keeps_entry d b v a) (moments h)) (past_end b a (λ l. n (subst (λ z. a < z) legal.one_each l)))
      ];
      on_time = λ rule a r i. late_none (is_late d b v rule a) (Late v rule a (or_zero (reference_height d b v rule a) + d.delta))
          (flat_map_none (arc_late_findings d b v rule) (arcs d.graph) a (flat_map_none (λ rule.
          flat_map (arc_late_findings d b v rule) (arcs d.graph)) (deal_rules d) rule k2.1 r) i);
      unforged = λ a past x w m.
          let out = leaves d v a w in
          let q =
          failing_empty (λ m. Forged v a (length m.past)) (λ m. not (is_forged d b v m.now)) (moments (history b a))
          (flat_map_none (λ a. failing (Forged v a) (λ m. not (is_forged d b v m.now)) (history b a)) (arcs d.graph) a k1.1
          (in_range a (length d.graph.arcs) out.0)) in
          no_not (is_forged d b v x) (at_moment (λ m. not (is_forged d b v m.now) ≡ true) (history b a) past x
          (all_from_list_all (λ m. not (is_forged d b v m.now)) (moments (history b a)) q) m);
    }

nothing_unfinished : (d : Deal) (b : Histories) → unfinished d b ≡ [] → IsEnded d b
nothing_unfinished d b e a l =
    ltb-true (times.horizon d.start d.delta d.bound) (height (history b a))
    (unfinished_none _ (Unfinished a (height (history b a))) (flat_map_none (λ a.
    if nat_lt (times.horizon d.start d.delta d.bound) (height (history b a)) then [] else Unfinished a (height (history b a)) ∷ []) (arcs d.graph) a
    e (in_range a (length d.graph.arcs) l)))

none_if : (x : Bool) (xs : List Finding) → cond x xs [] ≡ [] → x ≡ true → xs ≡ []
none_if true xs e h = e
none_if false xs e h = absurd (cc h)

pub nothing_found : NothingFound
nothing_found d conforming b legal e =
    let parts = append_empty (flat_map (λ v. if conforming v then party_findings d b v else []) (range_with_len 0 d.graph.n)) (unfinished d b) e in
    record {
      ended = nothing_unfinished d b parts.1;
      conforms = λ v l c. nothing_of_party d b v legal
          (none_if (conforming v) (party_findings d b v) (flat_map_none (λ v.
          if conforming v then party_findings d b v else []) (range_with_len 0 d.graph.n) v parts.0 (in_range v d.graph.n l)) c);
    }

-- What is found of a party stands in the list.

failing_in : {A : Type 0} (say : A → Finding) (test : A → Bool) (xs : List A) (x : A) → IsElement x xs → test x ≡ false
    → IsElement (say x) (filter_map (λ m. if test m then None else Some (say m)) xs)
failing_in say test [] x i e = absurd i
failing_in say test (y ∷ xs) x (inl q) e =
    let f : test y ≡ false = ap test (sym q) ∙ e in
    subst (λ o. IsElement (say x) (cons_option o (filter_map (λ m. if test m then None else Some (say m)) xs)))
    (sym (ap (λ t. cond t None (Some (say y))) f)) (inl (ap say q))
failing_in say test (y ∷ xs) x (inr i) e = later (if test y then None else Some (say y)) (failing_in say test xs x i e)
  where
    later : (o : Option Finding) → IsElement (say x) (filter_map (λ m. if test m then None else Some (say m)) xs)
        → IsElement (say x) (cons_option o (filter_map (λ m. if test m then None else Some (say m)) xs))
    later None j = j
    later (Some z) j = inr j

split_test : (x : Bool) → (x ≡ false → ⊥) → x ≡ true
split_test true h = refl
split_test false h = absurd (h refl)

module _ (d : Deal) (conforming : ℕ → Bool) (b : Histories) (v : ℕ) (legal : IsLegalBook d b) (below : v < d.graph.n) (c : conforming v ≡ true) where
  of_party : (x : Finding) → IsElement x (party_findings d b v) → IsElement x (findings d conforming b)
  of_party x i = in_append (flat_map (λ v. if conforming v then party_findings d b v else []) (range_with_len 0 d.graph.n)) (unfinished d b) x (inl
      (in_flat_map (λ v. if conforming v then party_findings d b v else []) (range_with_len 0 d.graph.n) v x (in_range v d.graph.n below)
      (subst (λ t. IsElement x (cond t (party_findings d b v) [])) (sym c) i)))

  clean : (t : Finding → Bool) (x : Finding) → list_any t (findings d conforming b) ≡ false → IsElement x (party_findings d b v) → t x ≡ true → ⊥
  clean t x none i p = false≢true (sym none ∙ list_any-in t (findings d conforming b) x p (of_party x i))

  -- What no finding of a kind says.
  module _ (t : Finding → Bool) (none : list_any t (findings d conforming b) ≡ false) where
    pub conducted_by : ((a e : ℕ) → t (Broke v a e) ≡ true) → IsConducted d b v
    conducted_by broke a = elim (within a (length d.graph.arcs)) [
      | inl l ↦ list_all-from (keeps_entry d b v a) (moments (history b a)) (λ m i.
          split_test (keeps_entry d b v a m) (λ e. clean t (Broke v a (length m.past)) none
          (in_append (broken d b v ++ lates d b v) (forgeries d b v) (Broke v a (length m.past))
          (inl (in_append (broken d b v) (lates d b v) (Broke v a (length m.past)) (inl
          (in_flat_map (λ a. failing (Broke v a) (keeps_entry d b v a) (history b a)) (arcs d.graph) a (Broke v a (length m.past))
          (in_range a (length d.graph.arcs) l)
          (failing_in (λ m. Broke v a (length m.past)) (keeps_entry d b v a) (moments (history b a)) m i e))))))
          (broke a (length m.past))))
      | inr n ↦ ap (λ h. list_all (keeps_entry d b v a) (moments h)) (past_end b a (λ l. n (subst (λ z. a < z) legal.one_each l)))
    ]

    not_late_by : (rule : Rule) (a : ℕ) → ((due : ℕ) → t (Late v rule a due) ≡ true) → IsElement rule (deal_rules d) → IsElement a (arcs d.graph)
        → is_late d b v rule a ≡ false
    not_late_by rule a said r i = go (is_late d b v rule a) refl
      where
        go : (x : Bool) → is_late d b v rule a ≡ x → is_late d b v rule a ≡ false
        go false e = e
        go true e = absurd (clean t (Late v rule a (or_zero (reference_height d b v rule a) + d.delta)) none
            (in_append (broken d b v ++ lates d b v) (forgeries d b v) (Late v rule a (or_zero (reference_height d b v rule a) + d.delta))
            (inl (in_append (broken d b v) (lates d b v) (Late v rule a (or_zero (reference_height d b v rule a) + d.delta)) (inr
            (in_flat_map (λ rule. flat_map (arc_late_findings d b v rule) (arcs d.graph)) (deal_rules d) rule (Late v rule a (or_zero (reference_height d b v rule a) + d.delta)) r
            (in_flat_map (arc_late_findings d b v rule) (arcs d.graph) a (Late v rule a (or_zero (reference_height d b v rule a) + d.delta)) i
            (subst (λ t. IsElement (Late v rule a (or_zero (reference_height d b v rule a) + d.delta))
            (cond t (Late v rule a (or_zero (reference_height d b v rule a) + d.delta) ∷ []) [])) (sym e) (inl refl))))))))
            (said (or_zero (reference_height d b v rule a) + d.delta)))

    ended_by : (a : ℕ) → ((n : ℕ) → t (Unfinished a n) ≡ true) → a < length d.graph.arcs → times.horizon d.start d.delta d.bound < height (history b a)
    ended_by a said l =
        ltb-true (times.horizon d.start d.delta d.bound) (height (history b a))
        (split_test _ (λ e. false≢true (sym none ∙ list_any-in t (findings d conforming b) (Unfinished a (height (history b a))) (said (height (history b a)))
        (in_append (flat_map (λ v. if conforming v then party_findings d b v else []) (range_with_len 0 d.graph.n)) (unfinished d b)
        (Unfinished a (height (history b a))) (inr
        (in_flat_map (λ a. if nat_lt (times.horizon d.start d.delta d.bound) (height (history b a)) then [] else Unfinished a (height (history b a))
        ∷ []) (arcs d.graph) a (Unfinished a (height (history b a))) (in_range a (length d.graph.arcs) l)
        (subst (λ t. IsElement (Unfinished a (height (history b a))) (cond t [] (Unfinished a (height (history b a)) ∷ []))) (sym e) (inl refl))))))))

  is_unforged : list_any (names_party d v) (findings d conforming b) ≡ false → IsUnforged d b v
  is_unforged none a past x w m =
      let out = leaves d v a w in
      let all =
      list_all-from (λ m. not (is_forged d b v m.now)) (moments (history b a)) (λ n i.
      split_test (not (is_forged d b v n.now)) (λ e. clean (names_party d v) (Forged v a (length n.past)) none
      (in_append (broken d b v ++ lates d b v) (forgeries d b v) (Forged v a (length n.past)) (inr
      (in_flat_map (λ a. failing (Forged v a) (λ m. not (is_forged d b v m.now)) (history b a)) (arcs d.graph) a (Forged v a (length n.past))
      (in_range a (length d.graph.arcs) out.0)
      (failing_in (λ m. Forged v a (length m.past)) (λ m. not (is_forged d b v m.now)) (moments (history b a)) n i e))))
      (and_both (v == v) (party d a == v) (eq-eqb v v refl) (eq-eqb (party d a) v out.1)))) in
      no_not (is_forged d b v x) (at_moment (λ m. not (is_forged d b v m.now) ≡ true) (history b a) past x
      (all_from_list_all (λ m. not (is_forged d b v m.now)) (moments (history b a)) all) m)

pub unnamed_is_safe : UnnamedIsSafe
unnamed_is_safe d conforming b v k legal below c none =
    let s =
    every_book_is_safe d b v k legal
    (λ a w. let e = enters d v a w in
    ended_by d conforming b v legal below c (is_against_party d v) none a (λ n. or-right (party d a == v) (counterparty d a == v) (eq-eqb (counterparty d a) v e.1)) e.0)
    (λ a w. let e = leaves d v a w in
    ended_by d conforming b v legal below c (is_against_party d v) none a (λ n. or-left (party d a == v) (counterparty d a == v) (eq-eqb (party d a) v e.1)) e.0)
    (conducted_by d conforming b v legal below c (is_against_party d v) none (λ a e. eq-eqb v v refl))
    (λ rule a r i. not_late_by d conforming b v legal below c (is_against_party d v) none rule a (λ due. eq-eqb v v refl) r i) in
    (λ unforged. s.safe (is_unforged d conforming b v legal below c unforged), s.refunds)

-- A party whose publishes and refunds alone were late isn't underwater.
pub late_publish_is_safe : LatePublishIsSafe
late_publish_is_safe d conforming b v k legal below c none unnamed =
    safe_by d b v k legal conducted (λ stake. unlocks_all d b v k legal ended conducted unlocks)
    (λ stake. claims_all d b v legal ended conducted (times_law d k) claimed) (is_unforged d conforming b v legal below c unnamed)
  where
    ended : EnteringHaveEnded d b v
    ended a w =
        let e = enters d v a w in ended_by d conforming b v legal below c (endangers d v) none a (λ n. eq-eqb (counterparty d a) v e.1) e.0

    conducted : IsConducted d b v
    conducted = conducted_by d conforming b v legal below c (endangers d v) none (λ a e. eq-eqb v v refl)

    unlocks : UnlocksInTime d b v
    unlocks i a l j = not_late_by d conforming b v legal below c (endangers d v) none (ToUnlock i) a (λ due. eq-eqb v v refl) (unlock_rule d i l) j

    claimed : (a : ℕ) → IsElement a (arcs d.graph) → is_late d b v ToClaim a ≡ false
    claimed a j = not_late_by d conforming b v legal below c (endangers d v) none ToClaim a (λ due. eq-eqb v v refl) (claim_rule d) j

-- A party whose unlocks and claims alone were late has its refunds.
pub late_unlock_has_refunds : LateUnlockHasRefunds
late_unlock_has_refunds d conforming b v k legal below c none =
    has_refunds d b v legal conducted (times_law d k) (on_time_asks d b v legal conducted published asked (times_law d k) ended)
  where
    ended : LeavingHaveEnded d b v
    ended a w =
        let e = leaves d v a w in ended_by d conforming b v legal below c (strands d v) none a (λ n. eq-eqb (party d a) v e.1) e.0

    conducted : IsConducted d b v
    conducted = conducted_by d conforming b v legal below c (strands d v) none (λ a e. eq-eqb v v refl)

    published : (a : ℕ) → IsElement a (arcs d.graph) → is_late d b v ToPublish a ≡ false
    published a j = not_late_by d conforming b v legal below c (strands d v) none ToPublish a (λ due. eq-eqb v v refl) (publish_rule d) j

    asked : (a : ℕ) → IsElement a (arcs d.graph) → is_late d b v ToRefund a ≡ false
    asked a j = not_late_by d conforming b v legal below c (strands d v) none ToRefund a (λ due. eq-eqb v v refl) (refund_rule d) j

-- A party whose refunds alone weren't late has its refunds, if it asks back only after its
-- publishes.
pub late_asker_has_refunds : LateAskerHasRefunds
late_asker_has_refunds d conforming b v k legal below c asks none =
    has_refunds d b v legal conducted (times_law d k) (late_asks d b v legal conducted asked (times_law d k) ended asks)
  where
    ended : LeavingHaveEnded d b v
    ended a w =
        let e = leaves d v a w in ended_by d conforming b v legal below c (detains d v) none a (λ n. eq-eqb (party d a) v e.1) e.0

    conducted : IsConducted d b v
    conducted = conducted_by d conforming b v legal below c (detains d v) none (λ a e. eq-eqb v v refl)

    asked : (a : ℕ) → IsElement a (arcs d.graph) → is_late d b v ToRefund a ≡ false
    asked a j = not_late_by d conforming b v legal below c (detains d v) none ToRefund a (λ due. eq-eqb v v refl) (refund_rule d) j

pub without_findings_all_is_transferred : WithoutFindingsAllIsTransferred
without_findings_all_is_transferred d conforming b k legal all none =
    let f = nothing_found d conforming b legal none in
    all_is_transferred d b k legal f.ended (λ v l. f.conforms v l (all v l))
