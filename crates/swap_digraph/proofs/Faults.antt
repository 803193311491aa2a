-- The least arc that has a fault, by a walk over the arcs.
use Rattle.std.proofs.Common.{◌≡◌, ◌≢◌, ℕ, zero, suc, ◌+◌, ◌<◌, ◌≤◌, Bool, true, false, cond, not, ◌&&◌, ◌==◌, nat_lt, List, [], ◌∷◌, ◌++◌, length}
use Rattle.std.proofs.Common.{get_or, take, drop, Option, Some, None, is_some, refl, sym, ap, ◌∙◌, arith, add-one, drop-cons}
use Rattle.std.proofs.Common.{ltb-true, position}
use Rattle.std.proofs.lemmas.List.{nil_from_length, length-drop, take_more}
use Rattle.swap_base.specs.Lists.{or_else}
use Rattle.swap_base.proofs.Lists.{or_else-skips, or_else-stays, and_parts, none_both}
use Rattle.swap_digraph.specs.declared.arc_ends.ArcEnds.{ArcEnds}
use Rattle.swap_digraph.specs.declared.fault.ArcFault.{ArcFault}
use Rattle.swap_digraph.specs.declared.fault.ArcFault.TheVariants.{OutOfRange, SelfArc}
use Rattle.std.proofs.lemmas.Bool.{eqb-false}
use Rattle.swap_digraph.specs.declared.deal.Version.{Version}
use Rattle.swap_digraph.specs.Arcs.{arc_fault, next_arc_fault, first_fault, parallel, same_ends}
use Rattle.swap_digraph.specs.Graph.{HasEnds}

-- the first fault from arc i on
abbrev pub fault_from : ℕ → Version → List ArcEnds → ℕ → Option ArcFault
fault_from n v arcs i = next_arc_fault n v (take i arcs) (drop i arcs)

step : (n : ℕ) (v : Version) (arcs before : List ArcEnds) (i : ℕ) (d : ArcEnds) → i < length arcs → before ≡ take i arcs
    → fault_from n v arcs i ≡ or_else (arc_fault n v before (length before) (get_or arcs i d)) (fault_from n v arcs (i + 1))
step n v arcs before i d lt e =
    let c : drop i arcs ≡ get_or arcs i d ∷ drop (i + 1) arcs = rw (add-one, drop-cons arcs i d) refl in
    let m : take (i + 1) arcs ≡ take i arcs ++ get_or arcs i d ∷ [] = take_more arcs i d lt in
    ap (λ (xs : List ArcEnds). next_arc_fault n v (take i arcs) xs) c
    ∙ ap (λ (xs : List ArcEnds). or_else (arc_fault n v xs (length xs) (get_or arcs i d))
    (next_arc_fault n v (take i arcs ++ get_or arcs i d ∷ []) (drop (i + 1) arcs))) (sym e)
    ∙ ap (λ (xs : List ArcEnds). or_else (arc_fault n v before (length before) (get_or arcs i d)) (next_arc_fault n v xs (drop (i + 1) arcs))) (sym m)

-- this arc has none
pub goes_on : (n : ℕ) (v : Version) (arcs before : List ArcEnds) (i : ℕ) (d : ArcEnds) (r total : Option ArcFault) → i < length arcs
    → before ≡ take i arcs → r ≡ arc_fault n v before (length before) (get_or arcs i d) → is_some r ≡ false
    → fault_from n v arcs i ≡ total → fault_from n v arcs (i + 1) ≡ total
goes_on n v arcs before i d r total lt e h none so_far =
    sym (step n v arcs before i d lt e ∙ ap (λ (o : Option ArcFault). or_else o (fault_from n v arcs (i + 1))) (sym h)
    ∙ or_else-skips r (fault_from n v arcs (i + 1)) none) ∙ so_far

-- this arc has the first
pub is_found : (n : ℕ) (v : Version) (arcs before : List ArcEnds) (i : ℕ) (d : ArcEnds) (r total : Option ArcFault) → i < length arcs
    → before ≡ take i arcs → r ≡ arc_fault n v before (length before) (get_or arcs i d) → is_some r ≡ true
    → fault_from n v arcs i ≡ total → r ≡ total
is_found n v arcs before i d r total lt e h some so_far =
    sym (step n v arcs before i d lt e ∙ ap (λ (o : Option ArcFault). or_else o (fault_from n v arcs (i + 1))) (sym h)
    ∙ or_else-stays r (fault_from n v arcs (i + 1)) some) ∙ so_far

pub is_none : (n : ℕ) (v : Version) (arcs : List ArcEnds) (i : ℕ) (total : Option ArcFault) → length arcs ≤ i → fault_from n v arcs i ≡ total → None ≡ total
is_none n v arcs i total le so_far =
    let e : drop i arcs ≡ [] = nil_from_length (drop i arcs) (omega (arith, length-drop i arcs)) in
    sym (ap (λ (xs : List ArcEnds). next_arc_fault n v (take i arcs) xs) e) ∙ so_far

-- an arc without a fault leads from one party to another
pub record IsSound (n : ℕ) (a : ArcEnds) : Type 0 where
  pub from : a.from < n
  pub to : a.to < n
  pub apart : a.from ≢ a.to

by_tests : (n k : ℕ) (a : ArcEnds) (within same : Bool) (rest : Option ArcFault) → (nat_lt a.from n && nat_lt a.to n) ≡ within → (a.from == a.to) ≡ same
    → cond (not within) (Some (OutOfRange k)) (cond same (Some (SelfArc k)) rest) ≡ None → IsSound n a
by_tests n k a true false rest w s e =
    let t = and_parts (nat_lt a.from n) (nat_lt a.to n) w in
    record { from = ltb-true a.from n t.0; to = ltb-true a.to n t.1; apart = eqb-false a.from a.to s }
by_tests n k a true true rest w s e = cc e
by_tests n k a false same rest w s e = cc e

sound_at : (n : ℕ) (v : Version) (before : List ArcEnds) (k : ℕ) (a : ArcEnds) → arc_fault n v before k a ≡ None → IsSound n a
unfolding arc_fault
sound_at n v before k a e = by_tests n k a (nat_lt a.from n && nat_lt a.to n) (a.from == a.to) (parallel v k (position (same_ends a) before)) refl refl e

sound_after : (n : ℕ) (v : Version) (before arcs : List ArcEnds) (i : ℕ) (d : ArcEnds) → next_arc_fault n v before arcs ≡ None → i < length arcs
    → IsSound n (get_or arcs i d)
sound_after n v before [] i d e lt = absurd (omega arith)
sound_after n v before (a ∷ arcs) zero d e lt = sound_at n v before (length before) a (none_both _ _ e).0
sound_after n v before (a ∷ arcs) (suc i) d e lt = sound_after n v (before ++ a ∷ []) arcs i d (none_both _ _ e).1 (omega arith)

pub has_ends : (n : ℕ) (v : Version) (arcs : List ArcEnds) → None ≡ first_fault n v arcs → HasEnds (record { n = n; arcs = arcs })
unfolding first_fault
has_ends n v arcs e =
    record {
      from = λ a lt. (sound_after n v [] arcs a (record { from = 0; to = 0 }) (sym e) lt).from;
      to = λ a lt. (sound_after n v [] arcs a (record { from = 0; to = 0 }) (sym e) lt).to;
      apart = λ a lt. (sound_after n v [] arcs a (record { from = 0; to = 0 }) (sym e) lt).apart;
    }
