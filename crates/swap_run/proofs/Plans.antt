-- What the plans of scripts' and strategies' parties keep, and that what they call may be made.
use Rattle.std.proofs.Common.{◌≡◌, ◌≢◌, ◌⊎◌, ℕ, ◌+◌, ◌<◌, nat_lt, Bool, true, false, cond, ◌&&◌, List, [], length, get_or, set, Option}
use Rattle.std.proofs.Common.{Some, None, refl, sym, ap, ◌∙◌, subst, inl, inr, ltb-true}
use Rattle.std.specs.List.{All}
use Rattle.std.proofs.lemmas.Bool.{false≢true}
use Rattle.std.proofs.lemmas.Option.{same_Some}
use Rattle.std.proofs.lemmas.List.{get_or-set_same, get_or-set_other, length-set}
use Rattle.swap_base.proofs.Lists.{and_parts, all_moments_front}
use Rattle.swap_digraph.specs.declared.deal.Deal.{Deal}
use Rattle.swap_digraph.specs.Deal.{IsWellSized}
use Rattle.ledger_core.specs.declared.entry.Call.{Call}
use Rattle.ledger_core.specs.declared.entry.Entry.{Entry}
use Rattle.ledger_core.specs.History.{fit, IsLegal, IsLegalMoment}
use Rattle.ledger_core.specs.Book.{Histories, history, IsLegalBook}
use Rattle.swap_job.specs.declared.moves.Move.{Move}
use Rattle.swap_job.specs.Crafted.{Seeds}
use Rattle.swap_job.specs.Fitting.{IsPartyMove, is_near}
use Rattle.swap_run.specs.View.{IsView, IsPartyAnswer, MayAnswer}
use Rattle.swap_rules.specs.Machine.{Begins}
use Rattle.swap_rules.proofs.Growth.{Grows}
use Rattle.swap_rules.proofs.Prefixes.{begins_refl, begins_more, same_or_not}
use Rattle.swap_rules.proofs.Conducting.{history_same, history_other}
use Rattle.swap_run.specs.Run.{Cast, Plan, Question, State, party_role, party_plan, plan_with_ledger, plans_seen, after_turn, is_planned, is_party_answer, answered_call}
use Rattle.swap_run.specs.Laws.{IsGoodPlan, IsGood}

-- Plans among plans.

-- A plan over a book that grows.
pub plan_grown : (d : Deal) (seeds : Seeds) (v : ℕ) (b c : Histories) (n : Plan) → Grows b c → IsGoodPlan d seeds v b n → IsGoodPlan d seeds v c n
plan_grown d seeds v b c n grows g = record {
  one_each = g.one_each;
  begins = λ a. begins_more (history n.known a) (history b a) (history c a) (g.begins a) (grows a);
  far = g.far;
  moves = g.moves;
}

-- A plan that knows a ledger up to its end.
plan_seen : (d : Deal) (seeds : Seeds) (v a : ℕ) (b : Histories) (n : Plan) (h : List Entry) → a < length d.graph.arcs → is_near d v a ≡ true
    → history b a ≡ h → IsGoodPlan d seeds v b n → IsGoodPlan d seeds v b (plan_with_ledger n a h)
plan_seen d seeds v a b n h la near e g = record {
  one_each = length-set n.known a h ∙ g.one_each;
  begins = λ z. begins z (same_or_not z a);
  far = λ z lz far. away z lz far (same_or_not z a);
  moves = g.moves;
}
  where
    below : a < length n.known
    below = subst (λ m. a < m) (sym g.one_each) la

    begins : (z : ℕ) → (z ≡ a) ⊎ (z ≢ a) → Begins (history (set n.known a h) z) (history b z)
    begins z (inl q) =
        subst (λ y. Begins (history (set n.known a h) y) (history b y)) (sym q)
        (subst (λ k. Begins k (history b a)) (sym (history_same n.known a h below
        ∙ refl)) (subst (λ k. Begins k (history b a)) e (begins_refl (history b a))))
    begins z (inr apart) = subst (λ k. Begins k (history b z)) (sym (history_other n.known a z h apart)) (g.begins z)

    away : (z : ℕ) → z < length d.graph.arcs → is_near d v z ≡ false → (z ≡ a) ⊎ (z ≢ a) → history (set n.known a h) z ≡ []
    away z lz far (inl q) = absurd (false≢true (sym far ∙ (ap (is_near d v) q ∙ near)))
    away z lz far (inr apart) = history_other n.known a z h apart ∙ g.far z lz far

-- Good states with other plans.

pub with_plans : (c : Cast) (s : State) (ps : List Plan) → length ps ≡ c.deal.graph.n
    → ((v : ℕ) → v < c.deal.graph.n → IsGoodPlan c.deal c.seeds v s.book (get_or ps v (record { known = []; moves = []; turns = 0 }))) → IsGood c s
    → IsGood c (record s { plans = ps })
with_plans c s ps each good g = record {
  legal = g.legal;
  one_each = g.one_each;
  notes = λ v l cv. let n = g.notes v l cv in record { one_each = n.one_each; places = n.places; knows = n.knows; far = n.far; sound = n.sound };
  plan_each = each;
  plans = good;
}

pub with_plan : (c : Cast) (s : State) (v : ℕ) (n : Plan) → v < c.deal.graph.n → IsGoodPlan c.deal c.seeds v s.book n → IsGood c s
    → IsGood c (record s { plans = set s.plans v n })
with_plan c s v n lv good g = with_plans c s (set s.plans v n) (length-set s.plans v n ∙ g.plan_each) (λ u lu. at u lu (same_or_not u v)) g
  where
    at : (u : ℕ) → u < c.deal.graph.n → (u ≡ v) ⊎ (u ≢ v)
        → IsGoodPlan c.deal c.seeds u s.book (get_or (set s.plans v n) u (record { known = []; moves = []; turns = 0 }))
    at u lu (inl e) = subst (λ y. IsGoodPlan c.deal c.seeds y s.book (get_or (set s.plans v n) y (record { known = []; moves = []; turns = 0 }))) (sym e)
        (subst (IsGoodPlan c.deal c.seeds v s.book) (sym (get_or-set_same s.plans v n (record {
          known = [];
          moves = [];
          turns =
              0;
        }) (subst (λ m. v < m) (sym g.plan_each) lv))) good)
    at u lu (inr apart) =
        subst (IsGoodPlan c.deal c.seeds u s.book) (sym (get_or-set_other s.plans v u n (record { known = []; moves = []; turns = 0 }) apart))
        (g.plans u lu)

pub good_seen : (c : Cast) (s : State) (v a : ℕ) (h : List Entry) → v < c.deal.graph.n → a < length c.deal.graph.arcs → is_near c.deal v a ≡ true
    → history s.book a ≡ h → IsGood c s → IsGood c (record s { plans = plans_seen c s v a h })
good_seen c s v a h lv la near e g = go (is_planned (party_role c v))
  where
    go : (b : Bool) → IsGood c (record s { plans = cond b (set s.plans v (plan_with_ledger (party_plan s v) a h)) s.plans })
    go true = with_plan c s v (plan_with_ledger (party_plan s v) a h) lv (plan_seen c.deal c.seeds v a s.book (party_plan s v) h la near e (g.plans v lv)) g
    go false = with_plans c s s.plans g.plan_each g.plans g

pub good_turn : (c : Cast) (s : State) (v : ℕ) (moves : List Move) → v < c.deal.graph.n → All (IsPartyMove c.deal c.seeds v) moves → IsGood c s
    → IsGood c (after_turn s v moves)
good_turn c s v moves lv all g =
    let p = g.plans v lv in
    with_plan c s v (record (party_plan s v) { moves = moves; turns = (party_plan s v).turns + 1 }) lv (record {
      one_each = p.one_each;
      begins =
          p.begins;
      far = p.far;
      moves = all;
    }) g

pub good_asked : (c : Cast) (s : State) (qs : List Question) → IsGood c s → IsGood c (record s { asked = qs })
good_asked c s qs g = record {
  legal = g.legal;
  one_each = g.one_each;
  notes = λ v l cv. let m = g.notes v l cv in record { one_each = m.one_each; places = m.places; knows = m.knows; far = m.far; sound = m.sound };
  plan_each = g.plan_each;
  plans = g.plans;
}

-- What a party is shown.

-- what a plan knows is a legal book
pub plan_legal : (d : Deal) (seeds : Seeds) (v : ℕ) (b : Histories) (n : Plan) → IsLegalBook d b → IsGoodPlan d seeds v b n → IsLegalBook d n.known
plan_legal d seeds v b n legal g = record {
  one_each = g.one_each;
  legal = λ a l.
      let k = g.begins a in
      all_moments_front (IsLegalMoment d a) (history n.known a) k.0
      (subst (IsLegal d a) k.1 (legal.legal a (subst (λ m. a < m) (g.one_each ∙ sym legal.one_each) l)));
}

pub plan_view : (d : Deal) (seeds : Seeds) (v : ℕ) (b : Histories) (n : Plan) → IsWellSized d → v < d.graph.n → IsLegalBook d b
    → IsGoodPlan d seeds v b n → IsView d v n.known
plan_view d seeds v b n sized lv legal g = record { sized = sized; party = lv; legal = plan_legal d seeds v b n legal g; far = g.far }

-- an answer that passes the test may be made
pub answer_may : (d : Deal) (v : ℕ) (o : Option (ℕ × Call)) → MayAnswer d v (answered_call d v o)
answer_may d v None = λ x q. absurd (cc q)
answer_may d v (Some x) = go (is_party_answer d v x) refl
  where
    go : (b : Bool) → is_party_answer d v x ≡ b → MayAnswer d v (cond b (Some x) None)
    go false e = λ y q. absurd (cc q)
    go true e = λ y q.
        let k = and_parts (nat_lt x.0 (length d.graph.arcs) && is_near d v x.0) (fit d x.0 x.1) e in
        let j = and_parts (nat_lt x.0 (length d.graph.arcs)) (is_near d v x.0) k.0 in
        subst (IsPartyAnswer d v) (same_Some x y q) (record { arc = ltb-true x.0 (length d.graph.arcs) j.0; near = j.1; fits = k.1 })
