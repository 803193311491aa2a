-- A header within its limits passes its checks exactly where its deal is accepted, or that of a
-- plain job proposed.
use Rattle.std.proofs.Common.{◌≡◌, ◌⊎◌, inl, inr, ℕ, suc, ◌+◌, ◌<◌, ◌≤◌, Bool, true, false, cond, ◌==◌, IsTrue, List, [], ◌∷◌, ◌++◌}
use Rattle.std.proofs.Common.{length, get_or, take, position}
use Rattle.std.proofs.Common.{Option, Some, None, Ok, refl, sym, ap, ap₂, ◌∙◌, subst, arith, append-nil, append_assoc, get_or-take, eqb-true}
use Rattle.std.proofs.Common.{eq-eqb, lt-ltb, slice_index}
use Rattle.std.proofs.lemmas.Bool.{le-ltb, ne_eqb}
use Rattle.std.proofs.lemmas.List.{length-take}
use Rattle.std.specs.List.{position_from}
use Rattle.std.proofs.lemmas.Iterator.Adapters.{position_from-zero}
use Rattle.swap_base.specs.Lists.{first_given_answer, IsElement}
use Rattle.swap_base.proofs.Lists.{and_parts, from_range}
use Rattle.time_bounds.specs.Times.{need, timelock}
use Rattle.swap_digraph.specs.Value.{Graph}
use Rattle.swap_digraph.specs.Graph.{ends, arcs, is_path, are_followers, HasEnds, HasDistinctEnds, IsFeedback, IsHeight, IsDist}
use Rattle.swap_digraph.specs.Arcs.{arc_fault, first_fault, next_arc_fault, graph_or, build_digraph, same_ends}
use Rattle.swap_digraph.specs.declared.arc_ends.ArcEnds.{ArcEnds}
use Rattle.swap_digraph.specs.declared.fault.ArcFault.{ArcFault}
use Rattle.swap_digraph.specs.declared.deal.Mode.{Mode}
use Rattle.swap_digraph.specs.declared.deal.Mode.TheVariants.{Timelocks, Hashkeys}
use Rattle.swap_digraph.specs.declared.deal.Version.{Version}
use Rattle.swap_digraph.specs.declared.deal.Version.TheVariants.{One, Two}
use Rattle.swap_digraph.proofs.Faults.{has_ends}
use Rattle.digraph_check.proofs.ClosedSets.{none_of_connected}
use Rattle.leader_check.specs.Levels.{greatest_level}
use Rattle.leader_check.proofs.Walks as walks
use Rattle.leader_check.proofs.Heights as heights
use Rattle.leader_check.specs.Distance.{leader_distance}
use Rattle.leader_check.proofs.Far.{dist_is, dist_by_rounds, dist_one}
use Rattle.swap_rules.specs.Accepted.{IsOfVersion, IsTimed}
use Rattle.swap_offer.specs.Proposed.{HasModeLeaders, IsProposed}
use Rattle.swap_offer.proofs.Proposals.{is_proposed}
use Rattle.command_input.specs.declared.reason.Reason.TheVariants.{WrongTimelock}
use Rattle.offer_moves.proofs.Chains.{went}
use Rattle.offer_header.specs.declared.header.Header.{Header}
use Rattle.offer_header.specs.Header.{IsHeaderInLimits}
use Rattle.offer_header.specs.Raw.{is_plain}
use Rattle.swap_offer.specs.Checks.{build_graph, by_arcs, header_digraph, connected, unless_closed, one_leader, led, unless_cycle, least_bound}
use Rattle.swap_offer.specs.Checks.{bounded, start_after_delta}
use Rattle.swap_offer.specs.Checks.{arcs_timed, unless_wrong, wrong_timelock, timed_unless, checked_digraph, admitted, header_deal, IsAcceptedOrProposed, IsAcceptedUnless}
use Rattle.swap_offer.specs.Laws.{AdmittedIsAccepted}
use Rattle.swap_offer.proofs.Accepted.{no_fault, accepted_for}

abbrev no_arc : ArcEnds
no_arc = record { from = 0; to = 0 }

-- Arcs that lead from one party to another have no fault in version 2; they have none in version 1
-- where no two of them have the same ends.

same_true : (a b : ArcEnds) → same_ends a b ≡ true → a ≡ b
same_true a b e =
    let t = and_parts (a.from == b.from) (a.to == b.to) e in
    ap₂ (λ (f t : ℕ). let x : ArcEnds = record { from = f; to = t } in x) (eqb-true a.from b.from t.0) (eqb-true a.to b.to t.1)

is_absent : (f : ArcEnds → Bool) (from : ℕ) (xs : List ArcEnds) → ((j : ℕ) → j < length xs → f (get_or xs j no_arc) ≡ false) → position_from f from xs ≡ None
is_absent f from [] not_one = refl
is_absent f from (x ∷ xs) not_one = rw (not_one 0 (omega arith)) (is_absent f (from + 1) xs (λ j lt. not_one (suc j) (omega arith)))

all_sound : (v : Version) (n : ℕ) (before xs : List ArcEnds)
    → ((i k : ℕ) → i < length xs → arc_fault n v (before ++ take i xs) k (get_or xs i no_arc) ≡ None) → next_arc_fault n v before xs ≡ None
all_sound v n before [] not_one = refl
all_sound v n before (x ∷ xs) not_one =
    let head : arc_fault n v before (length before) x ≡ None =
    subst (λ (ys : List ArcEnds). arc_fault n v ys (length before) x ≡ None) (append-nil before) (not_one 0 (length before) (omega arith)) in
    let tail : next_arc_fault n v (before ++ x ∷ []) xs ≡ None =
    all_sound v n (before ++ x ∷ []) xs
    (λ i k lt. subst (λ (ys : List ArcEnds). arc_fault n v ys k (get_or xs i no_arc) ≡ None) (sym (append_assoc before (x ∷ []) (take i xs)))
    (not_one (suc i) k (omega arith))) in
    rw head tail

sound : (n k : ℕ) (before : List ArcEnds) (a : ArcEnds) → a.from < n → a.to < n → (a.from ≡ a.to → ⊥) → position (same_ends a) before ≡ None
    → arc_fault n One before k a ≡ None
unfolding arc_fault
sound n k before a from to apart none = rw (lt-ltb a.from n from, lt-ltb a.to n to, ne_eqb a.from a.to apart, none) refl

by_test : (b : Bool) → (b ≡ true → ⊥) → b ≡ false
by_test true not_one = absurd (not_one refl)
by_test false not_one = refl

not_before : (g : Graph) → HasDistinctEnds g → (i : ℕ) → i < length g.arcs → position (same_ends (get_or g.arcs i no_arc)) (take i g.arcs) ≡ None
not_before g apart i lt =
    position_from-zero (same_ends (get_or g.arcs i no_arc)) (take i g.arcs)
    ∙ is_absent (same_ends (get_or g.arcs i no_arc)) 0 (take i g.arcs)
    (λ j less.
    let size = length-take i g.arcs in
    let low : j < i = omega (arith, less, size) in
    let there : j < length g.arcs = omega (arith, low, lt) in
    by_test (same_ends (get_or g.arcs i no_arc) (get_or (take i g.arcs) j no_arc))
    (λ t.
    let e : ends g i ≡ ends g j = same_true (get_or g.arcs i no_arc) (get_or (take i g.arcs) j no_arc) t ∙ get_or-take i g.arcs j no_arc low in
    let same : i ≡ j = apart i j lt there e in
    absurd (omega (arith, low, same))))

no_fault_of : (g : Graph) → HasEnds g → HasDistinctEnds g → first_fault g.n One g.arcs ≡ None
unfolding first_fault
no_fault_of g has apart =
    all_sound One g.n [] g.arcs
    (λ i k lt. sound g.n k (take i g.arcs) (get_or g.arcs i no_arc) (has.from i lt) (has.to i lt) (has.apart i lt) (not_before g apart i lt))

sound_for_two : (n k : ℕ) (before : List ArcEnds) (a : ArcEnds) → a.from < n → a.to < n → (a.from ≡ a.to → ⊥) → arc_fault n Two before k a ≡ None
unfolding arc_fault
sound_for_two n k before a from to apart = rw (lt-ltb a.from n from, lt-ltb a.to n to, ne_eqb a.from a.to apart) refl

no_fault_by : (v : Version) (h : Header) → HasEnds (header_digraph h) → IsOfVersion v (header_deal h (header_digraph h))
    → first_fault (length h.names) v h.arcs ≡ None
unfolding first_fault
no_fault_by One h has apart = no_fault_of (header_digraph h) has apart
no_fault_by Two h has keyed =
    all_sound Two (length h.names) [] h.arcs
    (λ i k lt. sound_for_two (length h.names) k (take i h.arcs) (get_or h.arcs i no_arc) (has.from i lt) (has.to i lt) (has.apart i lt))

-- Heights, and first answers.

height_least : (g : Graph) (leaders : List ℕ) (h k : ℕ) → IsHeight g leaders h → IsHeight g leaders k → h ≤ k
height_least g leaders h k a b = go a.reached
  where
    go : (h ≡ 0) ⊎ ((p : List ℕ) × IsTrue (is_path g p) × IsTrue (are_followers leaders p) × (length p ≡ h)) → h ≤ k
    go (inl e) = omega (arith, e)
    go (inr p) = let m = b.most p.0 p.1 p.2 in let e = p.3 in omega (arith, m, e)

height_one : (g : Graph) (leaders : List ℕ) (h k : ℕ) → IsHeight g leaders h → IsHeight g leaders k → h ≡ k
height_one g leaders h k a b =
    let low = height_least g leaders h k a b in
    let high = height_least g leaders k h b a in
    omega (arith, low, high)

none_all : {A B : Type 0} (f : A → Option B) (xs : List A) → ((x : A) → IsElement x xs → f x ≡ None) → first_given_answer f xs ≡ None
none_all f [] not_one = refl
none_all f (x ∷ xs) not_one = rw (not_one x (inl refl)) (none_all f xs (λ y i. not_one y (inr i)))

-- Each check passes.

module _ (h : Header) (a : IsProposed (header_deal h (header_digraph h))) where
  graph_is : build_graph h ≡ Ok (header_digraph h)
  unfolding build_graph build_digraph
  graph_is = ap (λ (o : Option ArcFault). by_arcs (graph_or (length h.names) h.arcs o)) (no_fault_by h.version h a.ends a.of_version)

  is_connected : connected (header_digraph h) ≡ Ok tt
  unfolding connected
  is_connected = ap unless_closed (none_of_connected (header_digraph h) a.strong)

  is_led : led (header_digraph h) h.leaders ≡ Ok tt
  unfolding led
  is_led = ap unless_cycle ((walks.no_cycle_is_feedback (header_digraph h) h.leaders).1 a.feedback)

  has_one : (m : Mode) → HasModeLeaders m (header_deal h (header_digraph h)) → one_leader m h.leaders ≡ Ok tt
  unfolding one_leader
  has_one Timelocks e = rw (le-ltb 1 (length h.leaders) (omega (arith, e))) refl
  has_one Hashkeys t = refl

  enough : least_bound (header_digraph h) h.leaders ≤ h.bound
  enough =
      let e : greatest_level (header_digraph h) h.leaders ≡ a.height =
      height_one (header_digraph h) h.leaders (greatest_level (header_digraph h) h.leaders) a.height
      (heights.greatest_level_is_height (header_digraph h) h.leaders a.feedback) a.is_height in
      subst (λ (k : ℕ). need (length h.names) (length h.leaders) k ≤ h.bound) (sym e) a.bound.0

  is_bounded : bounded h.bound (least_bound (header_digraph h) h.leaders) ≡ Ok tt
  unfolding bounded
  is_bounded = rw (le-ltb h.bound (least_bound (header_digraph h) h.leaders) enough) refl

  is_started : start_after_delta h.start h.delta ≡ Ok tt
  unfolding start_after_delta
  is_started = rw (le-ltb h.start h.delta a.start.0) refl

  is_party : (leader : ℕ) → h.leaders ≡ leader ∷ [] → leader < length h.names
  is_party leader e =
      let few = a.leaders.0 in
      subst (λ (l : ℕ). l < length h.names) (ap (λ (ls : List ℕ). get_or ls 0 0) e) (a.leader 0 (omega (arith, few)))

  is_feedback : (leader : ℕ) → h.leaders ≡ leader ∷ [] → IsFeedback (header_digraph h) (leader ∷ [])
  is_feedback leader e = subst (IsFeedback (header_digraph h)) e a.feedback

  near : (leader v : ℕ) → h.leaders ≡ leader ∷ [] → v < length h.names → IsDist (header_digraph h) leader v (leader_distance (header_digraph h) leader v)
  near leader v e lt =
      let g : Graph = header_digraph h in
      let k : ℕ = greatest_level g (leader ∷ []) in
      let feedback = is_feedback leader e in
      let party = is_party leader e in
      let tall = heights.greatest_level_is_height g (leader ∷ []) feedback in
      let far = dist_is g leader a.ends a.strong party feedback k k v tall (omega arith) lt in
      subst (IsDist g leader v) (dist_by_rounds g leader a.ends a.strong party feedback k v tall lt) far

  right_timelock : (leader b : ℕ) → h.leaders ≡ leader ∷ [] → IsTimed Timelocks (header_deal h (header_digraph h)) → b < length h.arcs
      → wrong_timelock h (header_digraph h) leader b ≡ None
  right_timelock leader b e t lt =
      let g : Graph = header_digraph h in
      let v : ℕ = (ends g b).to in
      let s = t.1 b lt in
      let same : slice_index h.leaders 0 ≡ leader = ap (λ (ls : List ℕ). get_or ls 0 0) e in
      let own : IsDist g leader v s.dist = subst (λ (l : ℕ). IsDist g l v s.dist) same s.is_dist in
      let d : s.dist ≡ leader_distance g leader v =
      dist_one g leader a.ends a.strong (is_party leader e) (is_feedback leader e) v s.dist (leader_distance g leader v) own (near leader v e (a.ends.to b lt)) in
      let given : ℕ = slice_index h.timelocks b in
      let wanted : ℕ = timelock h.start h.delta h.bound (leader_distance g leader v) in
      let right : given ≡ wanted = s.timelock ∙ ap (timelock h.start h.delta h.bound) d in
      ap (λ (x : Bool). cond x None (Some (WrongTimelock b given wanted))) (eq-eqb given wanted right)

  is_in_time : (m : Mode) → IsTimed m (header_deal h (header_digraph h)) → arcs_timed h (header_digraph h) m h.leaders ≡ Ok tt
  unfolding arcs_timed
  is_in_time Hashkeys t = refl
  is_in_time Timelocks t = go h.leaders refl
    where
      go : (ls : List ℕ) → h.leaders ≡ ls → arcs_timed h (header_digraph h) Timelocks ls ≡ Ok tt
      go [] e = refl
      go (leader ∷ []) e =
          ap unless_wrong (none_all (wrong_timelock h (header_digraph h) leader) (arcs (header_digraph h))
          (λ b i. right_timelock leader b e t (from_range b (length h.arcs) i)))
      go (x ∷ y ∷ ls) e = refl

  checked_is : timed_unless (is_plain h.purpose) h (header_digraph h) ≡ Ok tt → checked_digraph h (header_digraph h) ≡ Ok tt
  unfolding checked_digraph
  checked_is t = rw (is_connected, has_one h.mode a.led, is_led, is_bounded, is_started) t

  is_admitted : timed_unless (is_plain h.purpose) h (header_digraph h) ≡ Ok tt → admitted h ≡ Ok (header_digraph h)
  unfolding admitted
  is_admitted t = rw (graph_is, checked_is t) refl

admits : (h : Header) (plain : Bool) → is_plain h.purpose ≡ plain → IsAcceptedUnless plain (header_deal h (header_digraph h))
    → admitted h ≡ Ok (header_digraph h)
admits h true e a = is_admitted h a (subst (λ (b : Bool). timed_unless b h (header_digraph h) ≡ Ok tt) (sym e) refl)
admits h false e a =
    let p = is_proposed (header_deal h (header_digraph h)) a in
    is_admitted h p (subst (λ (b : Bool). timed_unless b h (header_digraph h) ≡ Ok tt) (sym e) (is_in_time h p h.mode a.timed))

passes : (h : Header) → IsHeaderInLimits h → admitted h ≡ Ok (header_digraph h) → IsAcceptedOrProposed h.purpose (header_deal h (header_digraph h))
unfolding admitted
passes h k e =
    let g = went (build_graph h) _ (header_digraph h) e in
    let c = went (checked_digraph h g.0) _ (header_digraph h) g.2 in
    let same : g.0 ≡ header_digraph h = cc (c.2) in
    let made : build_graph h ≡ Ok (header_digraph h) = subst (λ (x : Graph). build_graph h ≡ Ok x) same g.1 in
    let check : checked_digraph h (header_digraph h) ≡ Ok c.0 = subst (λ (x : Graph). checked_digraph h x ≡ Ok c.0) same c.1 in
    let has = has_ends (length h.names) h.version h.arcs (sym (no_fault h (header_digraph h) made)) in
    accepted_for h (header_digraph h) c.0 k has refl refl made check

pub admitted_is_accepted : AdmittedIsAccepted
admitted_is_accepted h k = (passes h k, λ a. admits h (is_plain h.purpose) refl a)
