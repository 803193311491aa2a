-- A fair finish from the start of conforming parties is rounds of one tick each. Every party acts
-- at the height at which the round began. So each party deals.
use Rattle.std.proofs.Common.{◌≡◌, ◌≢◌, ◌⊎◌, ℕ, suc, zero, ◌+◌, ◌*◌, ◌<◌, ◌≤◌, nat_lt, nat_le, Bool, true, false, cond, [], length, None, fold}
use Rattle.std.proofs.Common.{slice_index_or, refl, sym, ap, ◌∙◌, subst, inl, inr, arith, le-leb, lt-ltb, ltb-true}
use Rattle.std.specs.List.{range_with_len}
use Rattle.std.proofs.lemmas.Bool.{false≢true}
use Rattle.swap_base.proofs.Lists.{list_all-in, in_range, from_range}
use Rattle.swap_digraph.specs.Graph.{arcs}
use Rattle.ledger_core.specs.History.{height}
use Rattle.ledger_core.specs.Book.{history}
use Rattle.swap_rules.specs.Due.{due}
use Rattle.swap_rules.specs.Machine.{Begins, Knows}
use Rattle.swap_rules.specs.Rounds.{IsNear, IsTurn, IsRounds}
use Rattle.swap_rules.specs.Laws.{IsDealt}
use Rattle.ledger_core.proofs.History.{not-true}
use Rattle.swap_rules.proofs.Words.{past_end}
use Rattle.swap_rules.proofs.Prefixes.{begins_more, begins_height, same_or_not}
use Rattle.swap_rules.proofs.Growth.{Grows}
use Rattle.swap_rules.proofs.Rounds.{rounds_on_time}
use Rattle.swap_rules.proofs.Dealing.{all_dealt}
use Rattle.party_wallet.specs.Value.{signed_hashkey}
use Rattle.swap_run.specs.Run.{Cast, State, conforms, state_notes, next_action, start}
use Rattle.swap_run.specs.Laws.{IsReadyCast, IsGood}
use Rattle.swap_run.specs.Fair.{repeat, turn, turns, the_horizon, raised, round, is_above_horizon, round_unless_ended, finish}
use Rattle.swap_run.specs.FairLaws.{FairIsDealt}
use Rattle.swap_run.proofs.Good.{start_is_good, good_is_kept, empty_at}
use Rattle.swap_run.proofs.Acts.{first_none}
use Rattle.swap_run.proofs.Turns.{Calm, calm_more, Rests, rested, turned}
use Rattle.swap_run.proofs.Rounds.{rounded}
use Rattle.swap_run.proofs.Finish.{round_goes_on}

-- The turn of v among the turns of a round.
pub record IsTurned (c : Cast) (v : ℕ) (s t : State) : Type 0 where
  pub mid : State
  pub good : IsGood c mid
  pub calm : Calm s.book mid.book
  pub seen : (a : ℕ) → IsNear c.deal v a → Begins (history s.book a) (history (state_notes mid v).known a)
  pub rest : next_action c mid v ≡ None
  pub same : state_notes t v ≡ state_notes mid v

-- A good state whose ledgers are all at one height.
pub record IsAtOneHeight (c : Cast) (s : State) (r : ℕ) : Type 0 where
  pub good : IsGood c s
  pub at : (a : ℕ) → a < length c.deal.graph.arcs → height (history s.book a) ≡ r

-- What a round leaves of it.
record Leveled (c : Cast) (r : ℕ) (s t : State) : Type 0 where
  level : IsAtOneHeight c t (suc r)
  grows : Grows s.book t.book
  turn_of : (v : ℕ) → v < c.deal.graph.n → IsTurn c.deal v (c.wallet v) s.book t.book r

raised_low : (m r : ℕ) → r ≤ m → cond {A = ℕ} (nat_le r m) (r + 1) r ≡ suc r
raised_low m r l = ap (λ y. cond {A = ℕ} y (r + 1) r) (le-leb r m l) ∙ next r
  where
    next : (r : ℕ) → r + 1 ≡ suc r
    next r = omega arith

module _ (c : Cast) (ready : IsReadyCast c) (all : (v : ℕ) → v < c.deal.graph.n → conforms c v ≡ true) where
  later_turns : (m k : ℕ) (s : State) → k + m ≤ c.deal.graph.n → IsGood c s → (v : ℕ) → v < k
      → state_notes (fold (turn c) s (range_with_len k m)) v ≡ state_notes s v
  later_turns zero k s l g v b = refl
  later_turns (suc m) k s l g v b =
      let t = turned c ready k (omega arith) s g in
      later_turns m (k + 1) (turn c s k) (omega arith) t.good v (omega arith) ∙ t.others v (λ e. let q : ◌≡◌ {A = ℕ} v k = e in omega arith)

  its_turn : (m k : ℕ) (s : State) → k + m ≤ c.deal.graph.n → IsGood c s → (v : ℕ) → k ≤ v → v < k + m → IsTurned c v s (fold (turn c) s (range_with_len k m))
  its_turn zero k s l g v low high = absurd (omega arith)
  its_turn (suc m) k s l g v low high =
      let x = rested c ready k (omega arith) (all k (omega arith)) s g in
      go x (same_or_not v k) (λ n. its_turn m (k + 1) (turn c s k) (omega arith) x.turned.good v n (omega arith))
    where
      go : Rests c k s (turn c s k) → (v ≡ k) ⊎ (v ≢ k) → (k + 1 ≤ v → IsTurned c v (turn c s k) (fold (turn c) (turn c s k) (range_with_len (k + 1) m)))
          → IsTurned c v s (fold (turn c) (turn c s k) (range_with_len (k + 1) m))
      go x (inl e) again = record {
        mid = turn c s k;
        good = x.turned.good;
        calm = x.turned.calm;
        seen =
            λ a i. subst (λ u. Begins (history s.book a) (history (state_notes (turn c s k) u).known a)) (sym e)
            (x.seen a (subst (λ u. IsNear c.deal u a) e i));
        rest = subst (λ u. next_action c (turn c s k) u ≡ None) (sym e) x.rest;
        same = later_turns m (k + 1) (turn c s k) (omega arith) x.turned.good v (let q : ◌≡◌ {A = ℕ} v k = e in omega arith);
      }
      go x (inr n) again =
          let y = again (let q : ◌≢◌ {A = ℕ} v k = n in omega arith) in
          record {
            mid = y.mid;
            good = y.good;
            calm = calm_more s.book (turn c s k).book y.mid.book x.turned.calm y.calm;
            seen =
                λ a i. begins_more (history s.book a) (history (turn c s k).book a) (history (state_notes y.mid v).known a) (x.turned.calm.grows a)
                (y.seen a i);
            rest = y.rest;
            same = y.same;
          }

  -- the turn of v among those of a round
  pub round_turn : (s : State) → IsGood c s → (v : ℕ) → v < c.deal.graph.n → IsTurned c v s (turns c s)
  unfolding turns
  round_turn s g v lv = its_turn c.deal.graph.n 0 s (omega arith) g v (omega arith) (omega arith)

  -- nothing that v knows is above the height of the round
  pub known_low : (r : ℕ) (s mid : State) (v a : ℕ) → IsAtOneHeight c s r → Calm s.book mid.book → Knows v (history (state_notes mid v).known a) (history mid.book a)
      → height (history (state_notes mid v).known a) ≤ r
  known_low r s mid v a x calm n = go (nat_lt a (length c.deal.graph.arcs)) refl
    where
      below : height (history (state_notes mid v).known a) ≤ height (history s.book a)
      below =
          let h = begins_height (history (state_notes mid v).known a) (history mid.book a) (n.rest, n.whole) in
          let e : height (history mid.book a) ≡ height (history s.book a) = calm.heights a in
          omega arith

      go : (y : Bool) → nat_lt a (length c.deal.graph.arcs) ≡ y → height (history (state_notes mid v).known a) ≤ r
      go true e = let l = below in let o : height (history s.book a) ≡ r = x.at a (ltb-true _ _ e) in omega arith
      go false e =
          let l = below in
          let none : history s.book a ≡ [] = past_end s.book a (λ q. false≢true (sym e ∙ lt-ltb _ _ (subst (λ z. a < z) x.good.legal.one_each q))) in
          let z : ◌≡◌ {A = ℕ} (height (history s.book a)) 0 = ap height none in
          omega arith

  leveled : (r : ℕ) (s : State) → r ≤ the_horizon c.deal → IsAtOneHeight c s r → Leveled c r s (round c s)
  leveled r s l x =
      let k = rounded c ready s x.good in
      record {
        level = record { good = k.good; at = λ a la. k.raises a la ∙ (ap (raised c.deal) (x.at a la) ∙ raised_low (the_horizon c.deal) r l) };
        grows = k.grows;
        turn_of = λ v lv.
            let m = round_turn s x.good v lv in
            let known_is : state_notes (round c s) v ≡ state_notes m.mid v =
            ap (λ ns. slice_index_or ns v (record { known = []; signed = [] })) k.notes_same ∙ (ap (λ z. state_notes z v) k.mid_is ∙ m.same) in
            let new = k.good.notes v lv (all v lv) in
            let old = m.good.notes v lv (all v lv) in
            record {
              known = (state_notes m.mid v).known;
              signed = signed_hashkey (state_notes m.mid v).signed;
              seen = m.seen;
              knows = λ a. subst (λ n. Knows v (history n.known a) (history (round c s).book a)) known_is (new.knows a);
              done = first_none (due c.deal v (c.wallet v) (signed_hashkey (state_notes m.mid v).signed) (state_notes m.mid v).known) m.rest;
              top = λ a. known_low r s m.mid v a x m.calm (old.knows a);
            };
      }

  not_ended : (r : ℕ) (s : State) → r ≤ the_horizon c.deal → IsAtOneHeight c s r → is_above_horizon c.deal s.book ≡ false
  not_ended r s l x = not-true _ (λ e.
      let n : 2 ≤ length c.deal.graph.arcs = ready.accepted.arcs.0 in
      let z =
      list_all-in (λ a. nat_lt (the_horizon c.deal) (height (history s.book a))) (arcs c.deal.graph) 0 e
      (in_range 0 (length c.deal.graph.arcs) (omega arith)) in
      let o : height (history s.book 0) ≡ r = x.at 0 (omega arith) in
      let q = ltb-true _ _ z in
      omega arith)

  stepped : (r : ℕ) (s : State) → r ≤ the_horizon c.deal → IsAtOneHeight c s r → Leveled c r s (round_unless_ended c s)
  stepped r s l x = subst (Leveled c r s) (sym (round_goes_on c s (not_ended r s l x))) (leveled r s l x)

  abbrev after : ℕ → State
  after r = repeat r (round_unless_ended c) (start c)

  levels : (r : ℕ) → r ≤ the_horizon c.deal + 1 → IsAtOneHeight c (after r) r
  levels zero l = record { good = start_is_good c ready; at = λ a la. ap height (empty_at c.deal a) }
  levels (suc r) l = Leveled.level (stepped r (after r) (omega arith) (levels r (omega arith)))

  fair_rounds : (v : ℕ) → v < c.deal.graph.n → IsRounds c.deal v (c.wallet v) 1 0 (the_horizon c.deal + 1) (λ r. (after r).book)
  fair_rounds v lv = record {
    legal = λ r l. (IsAtOneHeight.good (levels r l)).legal;
    conducted = (good_is_kept c (after (the_horizon c.deal + 1)) ready (IsAtOneHeight.good (levels (the_horizon c.deal + 1) (omega arith)))).conducted v lv (all v lv);
    grows =
        λ r a l. subst (λ q. Begins (history (after r).book a) (history (after q).book a)) (next r)
        (Leveled.grows (stepped r (after r) (omega arith) (levels r (omega arith))) a);
    at = λ r a l i. let o : height (history (after r).book a) ≡ r = IsAtOneHeight.at (levels r l) a (from_range a (length c.deal.graph.arcs) i) in omega arith;
    turn = λ r l. subst (λ q. IsTurn c.deal v (c.wallet v) (after r).book (after q).book (r * 1 + 0)) (next r)
        (subst (IsTurn c.deal v (c.wallet v) (after r).book (after (suc r)).book) (same r)
        (Leveled.turn_of (stepped r (after r) (omega arith) (levels r (omega arith))) v lv));
  }
    where
      next : (r : ℕ) → suc r ≡ r + 1
      next r = omega arith

      same : (r : ℕ) → r ≡ r * 1 + 0
      same r = omega arith

  fair : IsDealt c.deal (conforms c) (finish c (start c)).book
  unfolding finish
  fair =
      let last = levels (the_horizon c.deal + 1) (omega arith) in
      all_dealt c.deal (conforms c) (after (the_horizon c.deal + 1)).book ready.accepted last.good.legal
      (λ a l. let o : height (history (after (the_horizon c.deal + 1)).book a) ≡ the_horizon c.deal + 1 = last.at a l in omega arith)
      (λ v l. (good_is_kept c (after (the_horizon c.deal + 1)) ready last.good).conducted v l (all v l))
      (λ v l. let d : 1 ≤ c.deal.delta = ready.accepted.delta.0 in
      rounds_on_time c.deal v (c.wallet v) 1 0 (the_horizon c.deal + 1) (λ r.
      (after r).book) ready.accepted (omega arith) (omega arith) (fair_rounds v l))

pub fair_is_dealt : FairIsDealt
fair_is_dealt c ready all = fair c ready all
