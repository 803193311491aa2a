-- A deal that passes the checks is an accepted one, or that of a plain job a proposed one.
use Rattle.std.proofs.Common.{◌≡◌, ℕ, ◌<◌, ◌≤◌, ◌==◌, nat_lt, Bool, true, false, cond, List, [], ◌∷◌, length, get_or, slice_index, Option, Some, None, Result}
use Rattle.std.proofs.Common.{Ok, Err, refl, sym, ap, ◌∙◌, subst, arith, inl, inr, ltb-false, eqb-true, replicate}
use Rattle.swap_base.specs.Lists.{or_else, first_given_answer, IsElement}
use Rattle.swap_base.proofs.Lists.{in_range}
use Rattle.time_bounds.specs.Times.{timelock}
use Rattle.swap_digraph.specs.Value.{Graph}
use Rattle.swap_digraph.specs.Graph.{ends, resolve_all_ends, arcs, HasEnds, HasDistinctEnds, IsStronglyConnected, IsFeedback, IsHeight, IsDist}
use Rattle.swap_digraph.specs.Arcs.{first_fault, graph_or, build_digraph}
use Rattle.swap_digraph.specs.declared.arc_ends.ArcEnds.{ArcEnds}
use Rattle.swap_digraph.specs.declared.fault.ArcFault.{ArcFault}
use Rattle.swap_digraph.specs.declared.deal.Mode.{Mode}
use Rattle.swap_digraph.specs.declared.deal.Mode.TheVariants.{Timelocks, Hashkeys}
use Rattle.swap_digraph.specs.declared.deal.Version.{Version}
use Rattle.swap_digraph.specs.declared.deal.Version.TheVariants.{One, Two}
use Rattle.swap_digraph.proofs.Distinct.{distinct}
use Rattle.hashkey_path.proofs.Feeding.{any_id}
use Rattle.digraph_check.specs.Reach.{closed_set}
use Rattle.digraph_check.proofs.ClosedSets.{connected_of_none}
use Rattle.leader_check.specs.Cycles.{follower_cycle}
use Rattle.leader_check.specs.Levels.{greatest_level}
use Rattle.leader_check.proofs.Walks as walks
use Rattle.leader_check.proofs.Heights as heights
use Rattle.leader_check.specs.Distance.{leader_distance}
use Rattle.leader_check.proofs.Far.{dist_is, dist_by_rounds}
use Rattle.swap_rules.specs.Accepted.{IsAccepted, IsOfVersion, IsTimed, HasTimelock}
use Rattle.swap_offer.specs.Proposed.{HasModeLeaders, IsProposed}
use Rattle.swap_offer.proofs.Proposals as proposals
use Rattle.command_input.specs.declared.reason.Reason.{Reason}
use Rattle.command_input.specs.declared.reason.Reason.TheVariants.{BoundTooSmall, StartTooSoon, ManyLeaders, WrongTimelock}
use Rattle.offer_moves.proofs.Chains.{went}
use Rattle.offer_header.specs.Raw.{is_plain, IsVersionMode}
use Rattle.offer_header.specs.declared.header.Header.{Header}
use Rattle.offer_header.specs.Header.{IsHeaderInLimits}
use Rattle.swap_offer.specs.Checks.{build_graph, by_arcs, least_bound, connected, unless_closed, one_leader, led, unless_cycle, bounded, start_after_delta, arcs_timed}
use Rattle.swap_offer.specs.Checks.{unless_wrong, wrong_timelock, timed_unless, checked_digraph, unnamed, header_deal, IsAcceptedOrProposed, IsAcceptedUnless}
use Rattle.swap_offer.proofs.Size.{is_sized}

is_connected : (g : Graph) (u : Unit {0}) → connected g ≡ Ok u → IsStronglyConnected g
unfolding connected
is_connected g u e = go (closed_set g) refl e
  where
    go : (o : Option (List ℕ)) → closed_set g ≡ o → unless_closed o ≡ Ok u → IsStronglyConnected g
    go None h k = connected_of_none g h
    go (Some set) h k = absurd (cc k)

is_led : (g : Graph) (leaders : List ℕ) (u : Unit {0}) → led g leaders ≡ Ok u → IsFeedback g leaders
unfolding led
is_led g leaders u e = go (follower_cycle g leaders) refl e
  where
    go : (o : Option (List ℕ)) → follower_cycle g leaders ≡ o → unless_cycle o ≡ Ok u → IsFeedback g leaders
    go None h k = (walks.no_cycle_is_feedback g leaders).0 h
    go (Some cycle) h k = absurd (cc k)

not_refused : (t : Bool) (r : Reason) (u : Unit {0}) → cond {A = Result (Unit {0}) Reason} t (Err r) (Ok tt) ≡ Ok u → t ≡ false
not_refused true r u e = absurd (cc e)
not_refused false r u e = refl

is_bounded : (bound needed : ℕ) (u : Unit {0}) → bounded bound needed ≡ Ok u → needed ≤ bound
unfolding bounded
is_bounded bound needed u e = ltb-false bound needed (not_refused (nat_lt bound needed) (BoundTooSmall bound needed) u e)

is_started : (start delta : ℕ) (u : Unit {0}) → start_after_delta start delta ≡ Ok u → delta ≤ start
unfolding start_after_delta
is_started start delta u e = ltb-false start delta (not_refused (nat_lt start delta) (StartTooSoon start delta) u e)

has_one : (leaders : List ℕ) (u : Unit {0}) → one_leader Timelocks leaders ≡ Ok u → length leaders ≤ 1
unfolding one_leader
has_one leaders u e = ltb-false 1 (length leaders) (not_refused (nat_lt 1 (length leaders)) (ManyLeaders (length leaders)) u e)

-- Timelocks.

none_at : {A B : Type 0} (f : A → Option B) (xs : List A) (x : A) → first_given_answer f xs ≡ None → IsElement x xs → f x ≡ None
none_at f [] x e i = absurd i
none_at {A} {B} f (y ∷ xs) x e i = go (f y) refl e i (none_at f xs x)
  where
    go : (o : Option B) → f y ≡ o → or_else o (first_given_answer f xs) ≡ None → IsElement x (y ∷ xs) → (first_given_answer f xs ≡ None → IsElement x xs → f x ≡ None) → f x ≡ None
    go None h k (inl s) rest = ap f s ∙ h
    go None h k (inr j) rest = rest k j
    go (Some z) h k j rest = absurd (cc k)

has_timelock : (h : Header) (g : Graph) (leader a : ℕ) → wrong_timelock h g leader a ≡ None
    → slice_index h.timelocks a ≡ timelock h.start h.delta h.bound (leader_distance g leader (ends g a).to)
has_timelock h g leader a e = go (slice_index h.timelocks a == timelock h.start h.delta h.bound (leader_distance g leader (ends g a).to)) refl e
  where
    go : (t : Bool) → (slice_index h.timelocks a == timelock h.start h.delta h.bound (leader_distance g leader (ends g a).to)) ≡ t
        → cond t None (Some (WrongTimelock a (slice_index h.timelocks a) (timelock h.start h.delta h.bound (leader_distance g leader (ends g a).to)))) ≡ None
        → slice_index h.timelocks a ≡ timelock h.start h.delta h.bound (leader_distance g leader (ends g a).to)
    go true s k = eqb-true (slice_index h.timelocks a) (timelock h.start h.delta h.bound (leader_distance g leader (ends g a).to)) s
    go false s k = absurd (cc k)

all_timed : (h : Header) (g : Graph) (leader : ℕ) (u : Unit {0}) → arcs_timed h g Timelocks (leader ∷ []) ≡ Ok u → (a : ℕ) → a < length g.arcs
    → wrong_timelock h g leader a ≡ None
unfolding arcs_timed
all_timed h g leader u e a lt = go (first_given_answer (wrong_timelock h g leader) (arcs g)) refl e
  where
    go : (o : Option Reason) → first_given_answer (wrong_timelock h g leader) (arcs g) ≡ o → unless_wrong o ≡ Ok u → wrong_timelock h g leader a ≡ None
    go None s k = none_at (wrong_timelock h g leader) (arcs g) a s (in_range a (length g.arcs) lt)
    go (Some r) s k = absurd (cc k)

timed_by : (h : Header) (g : Graph) (id : List ℕ) (leader height : ℕ) (u : Unit {0}) → h.leaders ≡ leader ∷ [] → HasEnds g → IsStronglyConnected g
    → leader < g.n → IsFeedback g (leader ∷ []) → IsHeight g (leader ∷ []) height
    → arcs_timed h g Timelocks (leader ∷ []) ≡ Ok u → IsTimed Timelocks (unnamed h g id)
timed_by h g id leader height u e has strong lt feedback tall t = (ap length e, timelocks)
  where
    timelocks : (a : ℕ) → a < length g.arcs → HasTimelock (unnamed h g id) a
    timelocks a b =
        let v : ℕ = (ends g a).to in
        let far = dist_is g leader has strong lt feedback height height v tall (omega arith) (has.to a b) in
        let near = subst (IsDist g leader v) (dist_by_rounds g leader has strong lt feedback height v tall (has.to a b)) far in
        record {
          dist = leader_distance g leader v;
          is_dist = rw e near;
          timelock = has_timelock h g leader a (all_timed h g leader u t a b);
        }

one_of : (xs : List ℕ) → 1 ≤ length xs → length xs ≤ 1 → xs ≡ get_or xs 0 0 ∷ []
one_of [] some few = absurd (omega arith)
one_of (x ∷ []) some few = refl
one_of (x ∷ y ∷ xs) some few = absurd (omega arith)

is_timed : (m : Mode) (h : Header) (g : Graph) (id : List ℕ) (u v : Unit {0}) → m ≡ h.mode → IsHeaderInLimits h → g.n ≡ length h.names → g.arcs ≡ h.arcs
    → HasEnds g
    → IsStronglyConnected g → IsFeedback g h.leaders
    → one_leader m h.leaders ≡ Ok u → arcs_timed h g m h.leaders ≡ Ok v → IsTimed m (unnamed h g id)
is_timed Timelocks h g id u v m k n a has strong feedback one t =
    let e : h.leaders ≡ get_or h.leaders 0 0 ∷ [] = one_of h.leaders k.leaders.0 (has_one h.leaders u one) in
    let f : IsFeedback g (get_or h.leaders 0 0 ∷ []) = subst (IsFeedback g) e feedback in
    let few = k.leaders.0 in
    timed_by h g id (get_or h.leaders 0 0) (greatest_level g (get_or h.leaders 0 0 ∷ [])) v e has strong (rw n (k.leader.below 0 (omega (arith, few)))) f
    (heights.greatest_level_is_height g (get_or h.leaders 0 0 ∷ []) f)
    (subst (λ (ls : List ℕ). arcs_timed h g Timelocks ls ≡ Ok v) e t)
is_timed Hashkeys h g id u v m k n a has strong feedback one t = λ b lt. k.untimed (sym m) b (subst (λ (xs : List ArcEnds). b < length xs) a lt)

-- In version 1 no two arcs have the same ends.

pub no_fault : (h : Header) (g : Graph) → build_graph h ≡ Ok g → first_fault (length h.names) h.version h.arcs ≡ None
unfolding build_graph build_digraph
no_fault h g e = go (first_fault (length h.names) h.version h.arcs) refl e
  where
    go : (o : Option ArcFault) → first_fault (length h.names) h.version h.arcs ≡ o → by_arcs (graph_or (length h.names) h.arcs o) ≡ Ok g
        → first_fault (length h.names) h.version h.arcs ≡ None
    go None s k = s
    go (Some f) s k = absurd (cc k)

all_apart : (g : Graph) (n : ℕ) (xs : List ArcEnds) → g.arcs ≡ xs → first_fault n One xs ≡ None → HasDistinctEnds g
all_apart g n xs same e a b la lb s =
    distinct n xs e a b (subst (λ (ys : List ArcEnds). a < length ys) same la) (subst (λ (ys : List ArcEnds). b < length ys) same lb)
    (subst (λ (ys : List ArcEnds). resolve_all_ends ys a ≡ resolve_all_ends ys b) same s)

of_version : (v : Version) (h : Header) (g : Graph) → IsVersionMode v h.mode → g.arcs ≡ h.arcs → first_fault (length h.names) v h.arcs ≡ None
    → IsOfVersion v (header_deal h g)
of_version One h g mode arcs f = all_apart g (length h.names) h.arcs arcs f
of_version Two h g mode arcs f = mode

led_by : (m : Mode) (h : Header) (g : Graph) (id : List ℕ) (u : Unit {0}) → IsHeaderInLimits h → one_leader m h.leaders ≡ Ok u → HasModeLeaders m (unnamed h g id)
led_by Timelocks h g id u k one = let few = has_one h.leaders u one in let some = k.leaders.0 in omega (arith, few, some)
led_by Hashkeys h g id u k one = tt

-- What a header shows that passes its checks.
record Passed (h : Header) (g : Graph) : Type 0 where
  strong : IsStronglyConnected g
  one : (v : Unit {0}) × (one_leader h.mode h.leaders ≡ Ok v)
  feedback : IsFeedback g h.leaders
  bound : least_bound g h.leaders ≤ h.bound
  start : h.delta ≤ h.start
  timed : (v : Unit {0}) × (timed_unless (is_plain h.purpose) h g ≡ Ok v)

passed : (h : Header) (g : Graph) (u : Unit {0}) → checked_digraph h g ≡ Ok u → Passed h g
unfolding checked_digraph
passed h g u e =
    let c = went (connected g) _ u e in
    let o = went (one_leader h.mode h.leaders) _ u c.2 in
    let l = went (led g h.leaders) _ u o.2 in
    let b = went (bounded h.bound (least_bound g h.leaders)) _ u l.2 in
    let s = went (start_after_delta h.start h.delta) _ u b.2 in
    record {
      strong = is_connected g c.0 c.1;
      one = (o.0, o.1);
      feedback = is_led g h.leaders l.0 l.1;
      bound = is_bounded h.bound (least_bound g h.leaders) b.0 b.1;
      start = is_started h.start h.delta s.0 s.1;
      timed = (u, s.2);
    }

proposed : (h : Header) (g : Graph) → IsHeaderInLimits h → HasEnds g → g.n ≡ length h.names → g.arcs ≡ h.arcs → build_graph h ≡ Ok g → Passed h g
    → IsProposed (header_deal h g)
proposed h g k has n arcs made p =
    let sized = is_sized h g (header_deal h g).id k has n arcs in
    let f = no_fault h g made in
    record {
      parties = sized.parties;
      arcs = sized.arcs;
      ends = has;
      of_version = of_version h.version h g k.mode arcs f;
      strong = p.strong;
      leaders = k.leaders;
      leader = sized.leader;
      apart = k.leader.apart;
      led = led_by h.mode h g (header_deal h g).id p.one.0 k p.one.1;
      feedback = p.feedback;
      height = greatest_level g h.leaders;
      is_height = heights.greatest_level_is_height g h.leaders p.feedback;
      delta = k.delta;
      start = (p.start, k.start.1);
      bound = (p.bound, k.bound.1);
      one_amount_each = sized.amounts;
      amounts = λ a lt. k.amount a (subst (λ (xs : List ArcEnds). a < length xs) arcs lt);
    }

accepted : (h : Header) (g : Graph) → IsHeaderInLimits h → HasEnds g → g.n ≡ length h.names → g.arcs ≡ h.arcs → build_graph h ≡ Ok g → Passed h g
    → is_plain h.purpose ≡ false → IsAccepted (header_deal h g)
accepted h g k has n arcs made p stated =
    let sized = is_sized h g (header_deal h g).id k has n arcs in
    let t : arcs_timed h g h.mode h.leaders ≡ Ok p.timed.0 = subst (λ (b : Bool). timed_unless b h g ≡ Ok p.timed.0) stated p.timed.1 in
    let d = header_deal h g in
    proposals.is_accepted d d.hashlocks d.keys d.timelocks d.id (proposed h g k has n arcs made p) sized.hashlocks sized.keys sized.timelocks
    (is_timed h.mode h g (header_deal h g).id p.one.0 p.timed.0 refl k n arcs has p.strong p.feedback p.one.1 t)
    (sym (any_id (unnamed h g (replicate 32 0)) (header_deal h g).id))

pub accepted_for : (h : Header) (g : Graph) (u : Unit {0}) → IsHeaderInLimits h → HasEnds g → g.n ≡ length h.names → g.arcs ≡ h.arcs → build_graph h ≡ Ok g
    → checked_digraph h g ≡ Ok u → IsAcceptedOrProposed h.purpose (header_deal h g)
accepted_for h g u k has n arcs made e = by (is_plain h.purpose) refl
  where
    by : (plain : Bool) → is_plain h.purpose ≡ plain → IsAcceptedUnless plain (header_deal h g)
    by true s = proposed h g k has n arcs made (passed h g u e)
    by false s = accepted h g k has n arcs made (passed h g u e) s
