-- Where all conform and none is late, nothing is found.
use Rattle.std.proofs.Common.{◌≡◌, ℕ, ◌+◌, ◌<◌, ◌≤◌, nat_lt, Bool, true, false, cond, not, if◌then◌else◌, List, [], ◌∷◌, ◌++◌, length, Some, None, refl}
use Rattle.std.proofs.Common.{ap, ◌∙◌, inl, inr, arith, lt-ltb, ◌*◌}
use Rattle.std.specs.List.{list_all, range_with_len, flat_map, cons_option}
use Rattle.std.specs.Prelude.{filter_map}
use Rattle.swap_base.specs.Lists.{IsElement, Moment, moments}
use Rattle.swap_base.proofs.Lists.{list_all-from, in_range, from_range, and_parts}
use Rattle.swap_digraph.specs.Graph.{arcs}
use Rattle.ledger_core.specs.declared.entry.Entry.{Entry}
use Rattle.ledger_core.specs.History.{height}
use Rattle.ledger_core.specs.Book.{history}
use Rattle.swap_rules.specs.Conduct.{keeps_entry}
use Rattle.swap_rules.specs.Late.{reference_height}
use Rattle.swap_rules.specs.Forged.{is_forged}
use Rattle.swap_rules.specs.Findings.{or_zero, deal_rules, failing, broken, arc_late_findings, lates, forgeries, party_findings, unfinished}
use Rattle.swap_rules.specs.declared.finding.Finding.{Finding}
use Rattle.swap_rules.specs.declared.finding.Finding.TheVariants.{Broke, Late, Forged, Unfinished}
use Rattle.swap_rules.specs.Laws.{RacesAreDealt, AllIsDealt}
use Rattle.swap_rules.specs.Rounds.{round_book}
use Rattle.swap_rules.proofs.Rounds.{races_in_time}
use Rattle.swap_rules.proofs.Words.{leaves}
use Rattle.swap_rules.proofs.Transfer.{all_is_transferred}
use Rattle.swap_rules.proofs.Forging.{nothing_is_forged}
use Rattle.swap_rules.proofs.Conducting.{from_moments}
use Rattle.time_bounds.specs.Times as times

append_both : {A : Type 0} (xs ys : List A) → xs ≡ [] → ys ≡ [] → xs ++ ys ≡ []
append_both xs ys e f = ap (λ l. l ++ ys) e ∙ f

flat_map_empty : {A B : Type 0} (f : A → List B) (xs : List A) → ((x : A) → IsElement x xs → f x ≡ []) → flat_map f xs ≡ []
flat_map_empty f [] h = refl
flat_map_empty f (x ∷ xs) h = append_both (f x) (flat_map f xs) (h x (inl refl)) (flat_map_empty f xs (λ y i. h y (inr i)))

failing_none : (say : Moment Entry → Finding) (test : Moment Entry → Bool) (xs : List (Moment Entry)) → list_all test xs ≡ true
    → filter_map (λ m. if test m then None else Some (say m)) xs ≡ []
failing_none say test [] e = refl
failing_none say test (x ∷ xs) e =
    let k = and_parts (test x) (list_all test xs) e in
    ap (λ t. cons_option (cond t None (Some (say x))) (filter_map (λ m. if test m then None else Some (say m)) xs)) k.0 ∙ failing_none say test xs k.1

pub all_dealt : AllIsDealt
all_dealt d conforming b k legal ended conducted on_time = record {
  nothing = append_both (flat_map (λ v. if conforming v then party_findings d b v else []) (range_with_len 0 d.graph.n)) (unfinished d b)
      (flat_map_empty (λ v. if conforming v then party_findings d b v else []) (range_with_len 0 d.graph.n) (λ v i.
      of_party v (from_range v d.graph.n i) (conforming v)))
      (flat_map_empty (λ a. if nat_lt (times.horizon d.start d.delta d.bound) (height (history b a)) then [] else Unfinished a (height (history b a))
      ∷ []) (arcs d.graph)
      (λ a i. ap (λ t. cond t [] (Unfinished a (height (history b a)) ∷ [])) (lt-ltb _ _ (ended a (from_range a (length d.graph.arcs) i)))));
  whole =
      (all_is_transferred d b k legal ended (λ v l. record {
        conducted = conducted v l;
        on_time = on_time v l;
        unforged =
            λ a past e w m. nothing_is_forged d b k legal conducted v a past e (leaves d v a w).0 m;
      })).whole;
}
  where
    clean : (v : ℕ) → v < d.graph.n → party_findings d b v ≡ []
    clean v l = append_both (broken d b v ++ lates d b v) (forgeries d b v)
        (append_both (broken d b v) (lates d b v)
        (flat_map_empty (λ a. failing (Broke v a) (keeps_entry d b v a) (history b a)) (arcs d.graph) (λ a i.
        failing_none (λ m. Broke v a (length m.past)) (keeps_entry d b v a) (moments (history b a)) (conducted v l a)))
        (flat_map_empty (λ rule. flat_map (arc_late_findings d b v rule) (arcs d.graph)) (deal_rules d) (λ rule i.
        flat_map_empty (arc_late_findings d b v rule) (arcs d.graph) (λ a z.
        ap (λ t. cond t (Late v rule a (or_zero (reference_height d b v rule a) + d.delta) ∷ []) []) (on_time v l rule a i z)))))
        (flat_map_empty (λ a. failing (Forged v a) (λ m. not (is_forged d b v m.now)) (history b a)) (arcs d.graph) (λ a i.
        failing_none (λ m. Forged v a (length m.past)) (λ m. not (is_forged d b v m.now)) (moments (history b a))
        (list_all-from (λ m. not (is_forged d b v m.now)) (moments (history b a)) (λ m z.
        ap not (nothing_is_forged d b k legal conducted v a m.past m.now (from_range a (length d.graph.arcs) i)
        (from_moments (history b a) m z))))))

    of_party : (v : ℕ) → v < d.graph.n → (x : Bool) → cond x (party_findings d b v) [] ≡ []
    of_party v l true = clean v l
    of_party v l false = refl

pub races_dealt : RacesAreDealt
races_dealt d conforming ticks rounds books k some fast long all =
    let n : 2 ≤ d.graph.n = k.parties.0 in
    let first = (all 0 (omega arith)).1 in
    all_dealt d conforming (round_book books rounds) k (first.legal rounds (omega arith))
    (λ a l. let h : height (history (round_book books rounds) a) ≡ rounds * ticks = first.at rounds a (omega arith) (in_range a (length d.graph.arcs) l) in
    omega arith)
    (λ v l. (all v l).1.conducted)
    (λ v l. let x = all v l in (races_in_time d v x.0 ticks rounds books k some x.1).1 fast)
