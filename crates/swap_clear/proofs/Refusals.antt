-- What a refusal says.
use Rattle.std.proofs.Common.{◌≡◌, ◌≢◌, ◌⊎◌, ℕ, zero, suc, ◌+◌, ◌<◌, ◌≤◌, ◌==◌, Bool, true, false, not, cond, ◌&&◌, nat_lt, List, [], ◌∷◌, ◌++◌, length}
use Rattle.std.proofs.Common.{map, get_or}
use Rattle.std.proofs.Common.{Option, Some, None, Result, Ok, Err, refl, sym, ap, ◌∙◌, subst, inl, inr, arith, ltb-true, eqb-true}
use Rattle.std.proofs.lemmas.Bool.{eqb-false, ltb-false}
use Rattle.std.proofs.lemmas.List.{get_or-map, length-map}
use Rattle.std.proofs.Common.{◌-◌, filter, length-append}
use Rattle.std.specs.List.{range_with_len}
use Rattle.swap_base.proofs.Lists.{range-next, range-none}
use Rattle.swap_base.specs.Lists.{or_else}
use Rattle.swap_base.specs.Fault.{◌>>=◌, steps}
use Rattle.swap_digraph.specs.declared.arc_ends.ArcEnds.{ArcEnds}
use Rattle.swap_digraph.specs.Value.{Graph}
use Rattle.swap_digraph.specs.Graph.{ends, HasEnds}
use Rattle.swap_clear.specs.declared.proposed.Proposed.{Proposed}
use Rattle.swap_clear.specs.declared.answer.Group.{Group}
use Rattle.swap_clear.specs.declared.answer.Clearing.{Clearing}
use Rattle.swap_clear.specs.declared.fault.ClearReason.{ClearReason}
use Rattle.swap_clear.specs.declared.fault.ClearReason.TheVariants.{OutOfRange, SelfArc, TooManyLeaders}
use Rattle.swap_clear.specs.Proposals.{resolve_arc_ends, proposed_graph, proposal_fault, first_proposal_fault, graph_unless, proposals_graph}
use Rattle.swap_clear.specs.Groups.{all_left_out}
use Rattle.swap_clear.specs.Leaders.{choose_leaders, order}
use Rattle.swap_clear.specs.Led.{SoManyRemain}
use Rattle.swap_clear.specs.Clearing.{add_group, cleared_components, cleared_groups}
use Rattle.swap_clear.specs.Refused.{IsSoundArc, IsFault}
use Rattle.swap_clear.proofs.ClearedGroups.{sound}
use Rattle.swap_clear.proofs.Leading.{lead_remain}
use Rattle.swap_clear.proofs.Places.{own_has_ends}
use Rattle.swap_clear.proofs.Remaining.{is_order}
use Rattle.swap_clear.proofs.Gathered.{own_with, is_head, many, add_none, add_one, add_many, the_group}

abbrev pub at_place : List Proposed → ℕ → Proposed
at_place arcs i = get_or arcs i (record { from = 0; to = 0; amount = 0 })

-- both ends of the proposal are parties, and they differ
abbrev IsFine : ℕ → Proposed → Type 0
IsFine n p = (p.from < n) × (p.to < n) × (p.from ≢ p.to)

fine_of : (n k : ℕ) (p : Proposed) → proposal_fault n k p ≡ None → IsFine n p
fine_of n k p e = go (nat_lt p.from n) (nat_lt p.to n) (p.from == p.to) refl refl refl e
  where
    go : (f t s : Bool) → nat_lt p.from n ≡ f → nat_lt p.to n ≡ t → (p.from == p.to) ≡ s
        → cond (not (f && t)) (Some (OutOfRange k)) (cond s (Some (SelfArc k)) None) ≡ None → IsFine n p
    go true true false a b d h = (ltb-true p.from n a, ltb-true p.to n b, eqb-false p.from p.to d)
    go true true true a b d h = absurd (cc h)
    go true false s a b d h = absurd (cc h)
    go false t s a b d h = absurd (cc h)

-- the place of the first fault, where the numbers begin with k
record Faulty (n k : ℕ) (arcs : List Proposed) (reason : ClearReason) : Type 0 where
  pub place : ℕ
  pub stands : place < length arcs
  pub before : (a : ℕ) → a < place → IsFine n (at_place arcs a)
  pub is : proposal_fault n (k + place) (at_place arcs place) ≡ Some reason

faulty_on : (n k : ℕ) (p : Proposed) (arcs : List Proposed) (reason : ClearReason) → IsFine n p → Faulty n (k + 1) arcs reason → Faulty n k (p ∷ arcs) reason
faulty_on n k p arcs reason fine rest =
    let l = rest.stands in
    let sum : (k + 1) + rest.place ≡ k + suc rest.place = omega arith in
    record {
      place = suc rest.place;
      stands = omega (arith, l);
      before = by_place;
      is = ap (λ (j : ℕ). proposal_fault n j (at_place arcs rest.place)) (sym sum) ∙ rest.is;
    }
  where
    by_place : (a : ℕ) → a < suc rest.place → IsFine n (at_place (p ∷ arcs) a)
    by_place zero lt = fine
    by_place (suc a) lt = rest.before a (omega (arith, lt))

faulty : (n k : ℕ) (arcs : List Proposed) (reason : ClearReason) → first_proposal_fault n k arcs ≡ Some reason → Faulty n k arcs reason
unfolding first_proposal_fault
faulty n k [] reason e = absurd (cc e)
faulty n k (p ∷ arcs) reason e = go (proposal_fault n k p) refl e (faulty n (k + 1) arcs reason)
  where
    go : (o : Option ClearReason) → proposal_fault n k p ≡ o → or_else o (first_proposal_fault n (k + 1) arcs) ≡ Some reason
        → (first_proposal_fault n (k + 1) arcs ≡ Some reason → Faulty n (k + 1) arcs reason) → Faulty n k (p ∷ arcs) reason
    go None f h rest = faulty_on n k p arcs reason (fine_of n k p f) (rest h)
    go (Some x) f h rest =
        let zeroth : k + 0 ≡ k = omega arith in
        record {
          place = 0;
          stands = omega arith;
          before = λ a lt. absurd (omega (arith, lt));
          is = ap (λ (j : ℕ). proposal_fault n j p) zeroth ∙ f ∙ h;
        }

arc_fault : (n k : ℕ) (g : Graph) (reason : ClearReason) (p : Proposed) → g.n ≡ n → ends g k ≡ resolve_arc_ends p → k < length g.arcs → ((a : ℕ) → a < k
    → IsSoundArc g a)
    → proposal_fault n k p ≡ Some reason → IsFault g reason
arc_fault n k g reason p size same lt before e = go (nat_lt p.from n) (nat_lt p.to n) (p.from == p.to) refl refl refl e
  where
    from : (ends g k).from ≡ p.from
    from = ap (λ (x : ArcEnds). x.from) same

    to : (ends g k).to ≡ p.to
    to = ap (λ (x : ArcEnds). x.to) same

    high : (x y m : ℕ) → x ≡ y → m ≤ y → n ≡ m → g.n ≤ x
    high x y m s le z = omega (arith, s, le, z, size)

    below : (x y : ℕ) → x ≡ y → y < n → x < g.n
    below x y s l = omega (arith, s, l, size)

    go : (f t s : Bool) → nat_lt p.from n ≡ f → nat_lt p.to n ≡ t → (p.from == p.to) ≡ s
        → cond (not (f && t)) (Some (OutOfRange k)) (cond s (Some (SelfArc k)) None) ≡ Some reason → IsFault g reason
    go true true true a b d h =
        let is : SelfArc k ≡ reason = cc h in
        subst (IsFault g) is (lt, below (ends g k).from p.from from (ltb-true p.from n a), from ∙ eqb-true p.from p.to d ∙ sym to, before)
    go true true false a b d h = absurd (cc h)
    go true false s a b d h =
        let is : OutOfRange k ≡ reason = cc h in
        subst (IsFault g) is (lt, inr (high (ends g k).to p.to n to (ltb-false p.to n b) refl), before)
    go false t s a b d h =
        let is : OutOfRange k ≡ reason = cc h in
        subst (IsFault g) is (lt, inl (high (ends g k).from p.from n from (ltb-false p.from n a) refl), before)

pub graph_refused : (n : ℕ) (arcs : List Proposed) (reason : ClearReason) → proposals_graph n arcs ≡ Err reason → IsFault (proposed_graph n arcs) reason
unfolding proposals_graph
graph_refused n arcs reason e = go (first_proposal_fault n 0 arcs) refl e
  where
    at_ends : (i : ℕ) → i < length arcs → ends (proposed_graph n arcs) i ≡ resolve_arc_ends (at_place arcs i)
    at_ends i lt = get_or-map resolve_arc_ends arcs i (record { from = 0; to = 0; amount = 0 }) (record { from = 0; to = 0 }) lt

    sound_at : (i : ℕ) → i < length arcs → IsFine n (at_place arcs i) → IsSoundArc (proposed_graph n arcs) i
    sound_at i lt fine = subst (λ (x : ArcEnds). (x.from < n) × (x.to < n) × (x.from ≢ x.to)) (sym (at_ends i lt)) fine

    go : (o : Option ClearReason) → first_proposal_fault n 0 arcs ≡ o → graph_unless (proposed_graph n arcs) o ≡ Err reason
        → IsFault (proposed_graph n arcs) reason
    go None f h = absurd (cc h)
    go (Some x) f h =
        let same : x ≡ reason = cc h in
        let k = faulty n 0 arcs reason (f ∙ ap (λ (y : ClearReason). Some y) same) in
        let l = k.stands in
        let long : length (map resolve_arc_ends arcs) ≡ length arcs = length-map arcs resolve_arc_ends in
        let zeroth : 0 + k.place ≡ k.place = omega arith in
        arc_fault n k.place (proposed_graph n arcs) reason (at_place arcs k.place) refl (at_ends k.place l) (omega (arith, l, long))
        (λ a lt. sound_at a (omega (arith, lt, l)) (k.before a lt)) (ap (λ (j : ℕ). proposal_fault n j (at_place arcs k.place)) (sym zeroth) ∙ k.is)

-- The groups are refused for too many leaders alone, at the first group that has them.

record ManyAt (g : Graph) (a m k group count : ℕ) : Type 0 where
  pub head : ℕ
  pub from : a ≤ head
  pub to : head < a + m
  pub least : is_head g head ≡ true
  pub number : group ≡ k + length (filter (is_head g) (range_with_len a (head - a)))
  pub leaders : count ≡ length (choose_leaders (own_with g head))
  pub many : 8 < count
  pub before : (v : ℕ) → a ≤ v → v < head → is_head g v ≡ true → length (choose_leaders (own_with g v)) ≤ 8

abbrev IsMany : Graph → ℕ → ℕ → ℕ → ClearReason → Type 0
IsMany g a m k (OutOfRange j) = ⊥
IsMany g a m k (SelfArc j) = ⊥
IsMany g a m k (TooManyLeaders group count) = ManyAt g a m k group count

at_or_after : (a v : ℕ) → a ≤ v → (v ≡ a) ⊎ (a + 1 ≤ v)
at_or_after a v le = grind arith

extend_at : (g : Graph) (a m k j group count : ℕ) (head : Bool) → is_head g a ≡ head → (head ≡ true → length (choose_leaders (own_with g a)) ≤ 8)
    → j ≡ k + cond {A = ℕ} head 1 0 → ManyAt g (a + 1) m j group count → ManyAt g a (suc m) k group count
extend_at g a m k j group count head is few sum rest =
    let low = rest.from in
    let high = rest.to in
    let n = rest.number in
    let one : length (filter (is_head g) (range_with_len a (rest.head - a)))
    ≡ length (cond head (a ∷ filter (is_head g) (range_with_len (a + 1) (rest.head - (a + 1))))
    (filter (is_head g) (range_with_len (a + 1) (rest.head - (a + 1))))) =
    ap (λ (xs : List ℕ). length (filter (is_head g) xs)) (range-next a rest.head (omega (arith, low)))
    ∙ ap (λ (b : Bool). length (cond b (a ∷ filter (is_head g) (range_with_len (a + 1) (rest.head - (a + 1))))
    (filter (is_head g) (range_with_len (a + 1) (rest.head - (a + 1)))))) is in
    let size = longer head (filter (is_head g) (range_with_len (a + 1) (rest.head - (a + 1)))) in
    record {
      head = rest.head;
      from = omega (arith, low);
      to = omega (arith, high);
      least = rest.least;
      number = omega (arith, n, one, size, sum);
      leaders = rest.leaders;
      many = rest.many;
      before = λ v le lt h. elim (at_or_after a v le) [ inl s ↦ here v s h | inr l ↦ rest.before v l lt h ];
    }
  where
    longer : (b : Bool) (xs : List ℕ) → length (cond b (a ∷ xs) xs) ≡ cond {A = ℕ} b 1 0 + length xs
    longer true xs = omega arith
    longer false xs = omega arith

    here : (v : ℕ) → v ≡ a → is_head g v ≡ true → length (choose_leaders (own_with g v)) ≤ 8
    here v s h =
        subst (λ (x : ℕ). length (choose_leaders (own_with g x)) ≤ 8) (sym s) (few (sym is ∙ ap (is_head g) (sym s) ∙ h))

extend : (g : Graph) (a m k j : ℕ) (head : Bool) (reason : ClearReason) → is_head g a ≡ head → (head ≡ true → length (choose_leaders (own_with g a)) ≤ 8)
    → j ≡ k + cond {A = ℕ} head 1 0 → IsMany g (a + 1) m j reason → IsMany g a (suc m) k reason
extend g a m k j head (OutOfRange i) is few sum rest = rest
extend g a m k j head (SelfArc i) is few sum rest = rest
extend g a m k j head (TooManyLeaders group count) is few sum rest = extend_at g a m k j group count head is few sum rest

steps_refused : (g : Graph) (m a : ℕ) (before : List Group) (reason : ClearReason) → steps (add_group g) before (range_with_len a m) ≡ Err reason
    → IsMany g a m (length before) reason
unfolding steps
steps_refused g zero a before reason e = absurd (cc e)
steps_refused g (suc m) a before reason e =
    by_tests (is_head g a) (many g a) refl refl (steps_refused g m (a + 1) before reason) (steps_refused g m (a + 1) (before ++ the_group g a ∷ []) reason)
  where
    onward : (r : Result (List Group) ClearReason) → add_group g before a ≡ r → r >>= (λ t. steps (add_group g) t (range_with_len (a + 1) m)) ≡ Err reason
    onward r made = ap (λ (x : Result (List Group) ClearReason). x >>= λ t. steps (add_group g) t (range_with_len (a + 1) m)) (sym made) ∙ e

    by_tests : (head lots : Bool) → is_head g a ≡ head → many g a ≡ lots
        → (steps (add_group g) before (range_with_len (a + 1) m) ≡ Err reason → IsMany g (a + 1) m (length before) reason)
        → (steps (add_group g) (before ++ the_group g a ∷ []) (range_with_len (a + 1) m) ≡ Err reason
        → IsMany g (a + 1) m (length (before ++ the_group g a ∷ [])) reason) → IsMany g a (suc m) (length before) reason
    by_tests false lots h l rest more =
        extend g a m (length before) (length before) false reason h (λ t. absurd (cc t)) (omega arith) (rest (onward (Ok before) (add_none g before a h)))
    by_tests true false h l rest more =
        let size = length-append before (the_group g a ∷ []) in
        extend g a m (length before) (length (before ++ the_group g a ∷ [])) true reason h
        (λ t. ltb-false 8 (length (choose_leaders (own_with g a))) l) (omega (arith, size))
        (more (onward (Ok (before ++ the_group g a ∷ [])) (add_one g before a h l)))
    by_tests true true h l rest more =
        let k = onward (Err (TooManyLeaders (length before) (length (choose_leaders (own_with g a))))) (add_many g before a h l) in
        let is : TooManyLeaders (length before) (length (choose_leaders (own_with g a))) ≡ reason = cc k in
        let none = ap (λ (xs : List ℕ). length (filter (is_head g) xs)) (range-none a a (omega arith)) in
        subst (IsMany g a (suc m) (length before)) is (record {
          head = a;
          from = omega arith;
          to = omega arith;
          least = h;
          number = omega (arith, none);
          leaders = refl;
          many = ltb-true 8 (length (choose_leaders (own_with g a))) l;
          before = λ v le lt t. absurd (omega (arith, le, lt));
        })

-- the leaders that the definition gives are what remains
leaders_remain : (g : Graph) → HasEnds g → (v : ℕ) → v < g.n → SoManyRemain (own_with g v) (length (choose_leaders (own_with g v)))
leaders_remain g has v low = record {
  order = order (own_with g v);
  is_order = is_order (own_with g v) (own_has_ends g has v low);
  leaders = choose_leaders (own_with g v);
  remain = lead_remain (own_with g v);
  many = refl;
}

many_fault : (g : Graph) (reason : ClearReason) → HasEnds g → IsMany g 0 g.n 0 reason → IsFault g reason
many_fault g (OutOfRange k) has m = absurd m
many_fault g (SelfArc k) has m = absurd m
many_fault g (TooManyLeaders group count) has m = (
  let high = m.to in
      let n = m.number in
      let all : m.head - 0 ≡ m.head = omega arith in
      let same = ap (λ (k : ℕ). length (filter (is_head g) (range_with_len 0 k))) all in
      let placed : group ≡ length (filter (is_head g) (range_with_len 0 m.head)) = omega (arith, n, same) in
      record {
        head = m.head;
        party = omega (arith, high);
        least = m.least;
        number = placed;
        leaders = subst (SoManyRemain (own_with g m.head)) (sym m.leaders) (leaders_remain g has m.head (omega (arith, high)));
        many = m.many;
        before = λ v lt h. (length (choose_leaders (own_with g v)), leaders_remain g has v (omega (arith, high, lt)), m.before v (omega arith) lt h);
      },
  λ a lt. (has.from a lt, has.to a lt, has.apart a lt),
)

pub groups_refused : (g : Graph) (reason : ClearReason) → HasEnds g → cleared_components g ≡ Err reason → IsFault g reason
unfolding cleared_components
groups_refused g reason has e = many_fault g reason has (steps_refused g g.n 0 [] reason e)

pub clearing_refused : (n : ℕ) (arcs : List Proposed) (reason : ClearReason) → cleared_groups n arcs ≡ Err reason → IsFault (proposed_graph n arcs) reason
unfolding cleared_groups
clearing_refused n arcs reason e = by_graph (proposals_graph n arcs) refl e
  where
    by_groups : (g : Graph) → g ≡ proposed_graph n arcs → HasEnds (proposed_graph n arcs) → (r : Result (List Group) ClearReason) → cleared_components g ≡ r
        → ◌≡◌ {A = Result Clearing ClearReason} (r >>= λ groups. Ok (record { left_out = all_left_out g; groups = groups })) (Err reason)
        → IsFault (proposed_graph n arcs) reason
    by_groups g is has (Ok groups) made h = absurd (cc h)
    by_groups g is has (Err other) made h =
        let same : other ≡ reason = cc h in
        groups_refused (proposed_graph n arcs) reason has (ap cleared_components (sym is) ∙ made ∙ ap (λ (x : ClearReason). Err x) same)

    by_graph : (r : Result Graph ClearReason) → proposals_graph n arcs ≡ r
        → ◌≡◌ {A = Result Clearing ClearReason} (r >>= λ g. cleared_components g >>= λ groups. Ok (record { left_out = all_left_out g; groups = groups }))
        (Err reason)
        → IsFault (proposed_graph n arcs) reason
    by_graph (Ok g) made h = let s = sound n arcs g made in by_groups g s.0 s.1 (cleared_components g) refl h
    by_graph (Err other) made h =
        let same : other ≡ reason = cc h in
        graph_refused n arcs reason (made ∙ ap (λ (x : ClearReason). Err x) same)
