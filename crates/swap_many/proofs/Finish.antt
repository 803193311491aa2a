-- A fair finish keeps what every run keeps, and ends with every chain above every horizon.
use Rattle.std.proofs.Common.{◌≡◌, ◌≢◌, ◌⊎◌, ℕ, suc, zero, ◌+◌, ◌<◌, ◌≤◌, ◌==◌, ◌||◌, nat_lt, nat_le, Bool, true, false, cond, List, [], ◌∷◌, length, fold, map}
use Rattle.std.proofs.Common.{refl, sym, ap, ap₂, ◌∙◌, subst, inl, inr, arith, ltb-true, leb-true, le-ltb}
use Rattle.std.specs.List.{list_all, range_with_len}
use Rattle.swap_base.specs.Lists.{IsElement}
use Rattle.swap_base.proofs.Lists.{list_all-in, in_range, from_range, from_filter, greatest-in, greatest-below, below_or}
use Rattle.std.proofs.lemmas.Bool.{false≢true}
use Rattle.swap_digraph.specs.Deal.{party, counterparty}
use Rattle.swap_digraph.specs.Graph.{arcs}
use Rattle.ledger_core.specs.History.{height}
use Rattle.ledger_core.specs.Book.{history}
use Rattle.ledger_core.proofs.History.{not-true}
use Rattle.swap_job.specs.declared.event.Event.TheVariants.{Look, Act}
use Rattle.swap_rules.specs.Outcome.{IsEnded}
use Rattle.swap_rules.proofs.Prefixes.{same_or_not, from_flat_map}
use Rattle.swap_run.specs.Run.{conforms}
use Rattle.swap_run.specs.Fair.{repeat, adjacent_arcs, most_acts, the_horizon}
use Rattle.swap_run.specs.Laws.{IsGood, IsKept}
use Rattle.swap_run.proofs.Good.{good_is_kept}
use Rattle.swap_run.proofs.Ticks.{horizon_low}
use Rattle.swap_many.specs.declared.many_event.ManyEvent.TheVariants.{Tick, In, Sweep}
use Rattle.swap_many.specs.Chains.{Setup, Slot, chain_slots, slots, arc_chain, put, chain_height, has_no_tick, book, is_accepted_deed}
use Rattle.swap_many.specs.Many.{Run, swap_state, done, last_horizon, swap_looks, swap_turn, swap_turns, many_round, all_ended, round_or_rest, many_run, many_finish}
use Rattle.swap_many.specs.Kept.{Kept, Time, later, ticked, kept_tick, kept_sweep, kept_done, kept_run, kept_finish}
use Rattle.swap_many.specs.Kept.{answer_sweep}
use Rattle.swap_many.specs.Laws.{IsReadySetup, ManyFinishesEnd}
use Rattle.swap_many.proofs.Projections.{put_same, put_each, height_is, shown_at}
use Rattle.swap_many.specs.Sound.{AreTicksBelowHeights, Keeps}
use Rattle.swap_many.proofs.Clocks.{same_timed}
use Rattle.swap_many.proofs.Units.{keeps_step, keeps_run, counted_is_placed}

from_map : {A B : Type 0} (f : A → B) (xs : List A) (y : B) → IsElement y (map f xs) → (x : A) × IsElement x xs × (y ≡ f x)
from_map f [] y i = absurd i
from_map f (x ∷ xs) y (inl e) = (x, inl refl, e)
from_map f (x ∷ xs) y (inr i) = let k = from_map f xs y i in (k.0, inr k.1, k.2)

-- The two finishes go side by side.

abbrev pub run_height : Run → ℕ → ℕ
run_height r i = chain_height (r.chains i)

abbrev pub kept_height : Kept → ℕ → ℕ
kept_height z i = (z.clocks i).height

module _ (m : Setup) (ready : IsReadySetup m) where
  both_fold : {B : Type 0} (f : Run → B → Run) (g : Kept → B → Kept) (xs : List B) (r : Run) (z : Kept)
      → ((r : Run) (z : Kept) (x : B) → IsElement x xs → Keeps m r z → Keeps m (f r x) (g z x)) → Keeps m r z → Keeps m (fold f r xs) (fold g z xs)
  both_fold f g [] r z h k = k
  both_fold f g (x ∷ xs) r z h k = both_fold f g xs (f r x) (g z x) (λ r z y i. h r z y (inr i)) (h r z x (inl refl) k)

  pub both_repeat : (n : ℕ) (f : Run → Run) (g : Kept → Kept) (r : Run) (z : Kept) → ((r : Run) (z : Kept) → Keeps m r z → Keeps m (f r) (g z)) → Keeps m r z
      → Keeps m (repeat n f r) (repeat n g z)
  both_repeat zero f g r z h k = k
  both_repeat (suc n) f g r z h k = h (repeat n f r) (repeat n g z) (both_repeat n f g r z h k)

  both_look : (s v : ℕ) (r : Run) (z : Kept) → s < m.swaps → v < (m.cast s).deal.graph.n → Keeps m r z
      → Keeps m (swap_looks m (done false m) (done true m) run_height s v r) (swap_looks m (kept_done false m) (kept_done true m) kept_height s v z)
  both_look s v r z ls lv k =
      both_fold (λ r a. done false m r (In s (Look v a))) (λ z a. kept_done false m z (In s (Look v a))) (adjacent_arcs (m.cast s).deal v) r z (λ r z a i k.
      let j = from_filter (λ a. (v == party (m.cast s).deal a) || (v == counterparty (m.cast s).deal a)) a (arcs (m.cast s).deal.graph) i in
      keeps_step false m r z (In s (Look v a)) ready (record {
        swap = ls;
        no_tick = refl;
        can = record { known = lv; arc = from_range a (length (m.cast s).deal.graph.arcs) j.0; adjacent = j.1 };
      }) k) k

  both_act : (s v : ℕ) (r : Run) (z : Kept) → s < m.swaps → v < (m.cast s).deal.graph.n → Keeps m r z
      → Keeps m (done false m r (In s (Act v))) (kept_done false m z (In s (Act v)))
  both_act s v r z ls lv k = keeps_step false m r z (In s (Act v)) ready (record { swap = ls; no_tick = refl; can = lv }) k

  both_turn : (s : ℕ) (r : Run) (z : Kept) (v : ℕ) → s < m.swaps → v < (m.cast s).deal.graph.n → Keeps m r z
      → Keeps m (swap_turn m (done false m) (done true m) run_height s r v) (swap_turn m (kept_done false m) (kept_done true m) kept_height s z v)
  both_turn s r z v ls lv k = go (conforms (m.cast s) v)
    where
      seen : Keeps m (swap_looks m (done false m) (done true m) run_height s v r) (swap_looks m (kept_done false m) (kept_done true m) kept_height s v z)
      seen = both_look s v r z ls lv k

      go : (b : Bool)
          → Keeps m
          (cond b (repeat (most_acts (m.cast s).deal) (λ r. done false m r (In s (Act v))) (swap_looks m (done false m) (done true m) run_height s v r))
          (done false m (swap_looks m (done false m) (done true m) run_height s v r) (In s (Act v))))
          (cond b (repeat (most_acts (m.cast s).deal) (λ z. kept_done false m z (In s (Act v)))
          (swap_looks m (kept_done false m) (kept_done true m) kept_height s v z))
          (kept_done false m (swap_looks m (kept_done false m) (kept_done true m) kept_height s v z) (In s (Act v))))
      go true =
          both_repeat (most_acts (m.cast s).deal) (λ r. done false m r (In s (Act v))) (λ z. kept_done false m z (In s (Act v)))
          (swap_looks m (done false m) (done true m) run_height s v r) (swap_looks m (kept_done false m) (kept_done true m) kept_height s v z)
          (λ r z k. both_act s v r z ls lv k) seen
      go false =
          both_act s v (swap_looks m (done false m) (done true m) run_height s v r)
          (swap_looks m (kept_done false m) (kept_done true m) kept_height s v z) ls lv seen

  both_round : (r : Run) (z : Kept) → Keeps m r z
      → Keeps m (many_round m (done false m) (done true m) run_height r) (many_round m (kept_done false m) (kept_done true m) kept_height z)
  both_round r z k =
      both_fold (λ r i. done false m r (Tick i 1)) (λ z i. kept_done false m z (Tick i 1)) (range_with_len 0 (length m.chains)) _ _
      (λ r z i j k. keeps_step false m r z (Tick i 1) ready (record {
        chain = from_range i (length m.chains) j;
        some = omega arith;
        few = omega arith;
      }) k)
      (both_fold (swap_turns m (done false m) (done true m) run_height) (swap_turns m (kept_done false m) (kept_done true m) kept_height)
      (range_with_len 0 m.swaps) r z
      (λ r z s i k. both_fold (swap_turn m (done false m) (done true m) run_height s) (swap_turn m (kept_done false m) (kept_done true m) kept_height s)
      (range_with_len 0 (m.cast s).deal.graph.n) r z
      (λ r z v j k. both_turn s r z v (from_range s m.swaps i) (from_range v (m.cast s).deal.graph.n j) k) k) k)

  pub both_unless : (r : Run) (z : Kept) → Keeps m r z
      → Keeps m (round_or_rest m (done false m) (done true m) run_height r) (round_or_rest m (kept_done false m) (kept_done true m) kept_height z)
  both_unless r z k =
      subst (λ b. Keeps m (cond b r (many_round m (done false m) (done true m) run_height r))
      (cond (all_ended m (kept_done false m) (kept_done true m) kept_height z) z (many_round m (kept_done false m) (kept_done true m) kept_height z)))
      (ap (λ (h : ℕ → ℕ). list_all (λ i. nat_lt (last_horizon m) (h i)) (range_with_len 0 (length m.chains))) (λ j i. k.follows.heights i j))
      (go (all_ended m (kept_done false m) (kept_done true m) kept_height z))
    where
      go : (b : Bool)
          → Keeps m (cond b r (many_round m (done false m) (done true m) run_height r))
          (cond b z (many_round m (kept_done false m) (kept_done true m) kept_height z))
      go true = k
      go false = both_round r z k

  pub slot_known : (t : Slot) → IsElement t (slots m) → (t.swap < m.swaps) × (t.arc < length (m.cast t.swap).deal.graph.arcs)
  slot_known t i =
      let k = from_flat_map (chain_slots m) (range_with_len 0 m.swaps) t i in
      let j = from_map (λ (a : ℕ). let t : Slot = record { swap = k.0; arc = a } in t) (arcs (m.cast k.0).deal.graph) t k.2 in
      subst (λ (t : Slot). (t.swap < m.swaps) × (t.arc < length (m.cast t.swap).deal.graph.arcs)) (sym j.2)
      (from_range k.0 m.swaps k.1, from_range j.0 (length (m.cast k.0).deal.graph.arcs) j.1)

  pub both_finish : (r : Run) (z : Kept) → Keeps m r z → Keeps m (many_finish m r) (kept_finish m z)
  both_finish r z k =
      both_fold (λ r t. done true m r (Sweep t.swap t.arc)) (λ z t. kept_done true m z (Sweep t.swap t.arc)) (slots m) _ _
      (λ r z t i k. let l = slot_known t i in keeps_step true m r z (Sweep t.swap t.arc) ready (record { swap = l.0; arc = l.1 }) k)
      (both_repeat (last_horizon m + 1) (round_or_rest m (done false m) (done true m) run_height)
      (round_or_rest m (kept_done false m) (kept_done true m) kept_height) r z both_unless k)

-- Ticks of a round.

-- What ticks by 1 of the chains from lo on, n of them, leave.
pub record Raised (m : Setup) (lo n : ℕ) (z t : Kept) : Type 0 where
  pub timed : AreTicksBelowHeights t
  pub mono : (j : ℕ) → (z.clocks j).height ≤ (t.clocks j).height
  pub up : (j : ℕ) → lo ≤ j → j < lo + n → (z.clocks j).height ≤ last_horizon m → (z.clocks j).height + 1 ≤ (t.clocks j).height

module _ (m : Setup) (ready : IsReadySetup m) where
  last_low : last_horizon m ≤ 14000
  last_low =
      greatest-below (λ s. the_horizon (m.cast s).deal) (range_with_len 0 m.swaps) 14000
      (λ s i. horizon_low (m.cast s).deal (ready.casts s (from_range s m.swaps i)).accepted)

  has_room : (z : Kept) (i : ℕ) → AreTicksBelowHeights z → (z.clocks i).height ≤ last_horizon m → has_no_tick (z.clocks i).ticks (z.clocks i).height 1 ≡ false
  has_room z i t low =
      let h = last_low in
      let c = t i in
      ap₂ (λ x y. x || y)
      (not-true (nat_le 20000 (z.clocks i).ticks) (λ e. let y : 20000 ≤ (z.clocks i).ticks = leb-true 20000 _ e in absurd (omega arith)))
      (le-ltb 1000000 ((z.clocks i).height + 1) (omega arith))

  tick_one : (z : Kept) (i : ℕ) → AreTicksBelowHeights z → Raised m i 1 z (kept_tick m z i 1)
  tick_one z i t = go (has_no_tick (z.clocks i).ticks (z.clocks i).height 1) refl
    where
      grown : (j : ℕ) → (z.clocks j).height ≤ (put z.clocks i (later (z.clocks i) 1) j).height
      grown = put_each (λ j (x : Time). (z.clocks j).height ≤ x.height) z.clocks i (later (z.clocks i) 1) (more (z.clocks i).height) (λ j. omega arith)
        where
          more : (n : ℕ) → n ≤ n + 1
          more n = omega arith

      go : (b : Bool) → has_no_tick (z.clocks i).ticks (z.clocks i).height 1 ≡ b
          → Raised m i 1 z (cond b z (record z { clocks = put z.clocks i (later (z.clocks i) 1); swaps = λ s. ticked m i 1 s (z.swaps s) }))
      go true e = record {
        timed = t;
        mono = λ j. omega arith;
        up = λ j lo hi low. absurd (false≢true (sym (at j (between i j lo hi) low) ∙ e));
      }
        where
          between : (i j : ℕ) → i ≤ j → j < i + 1 → j ≡ i
          between i j lo hi = omega arith

          at : (j : ℕ) → j ≡ i → (z.clocks j).height ≤ last_horizon m → has_no_tick (z.clocks i).ticks (z.clocks i).height 1 ≡ false
          at j q low = has_room z i t (subst (λ j. (z.clocks j).height ≤ last_horizon m) q low)
      go false e = record {
        timed =
            put_each (λ j (x : Time). x.ticks ≤ x.height) z.clocks i (later (z.clocks i) 1) (more (z.clocks i).ticks (z.clocks i).height (t i)) t;
        mono = grown;
        up =
            λ j lo hi low. subst (λ j. (z.clocks j).height + 1 ≤ (put z.clocks i (later (z.clocks i) 1) j).height) (sym (between i j lo hi))
            (subst (λ (x : Time). (z.clocks i).height + 1 ≤ x.height) (sym (put_same z.clocks i (later (z.clocks i) 1))) (same (z.clocks i).height));
      }
        where
          between : (i j : ℕ) → i ≤ j → j < i + 1 → j ≡ i
          between i j lo hi = omega arith

          more : (n h : ℕ) → n ≤ h → n + 1 ≤ h + 1
          more n h l = omega arith

          same : (n : ℕ) → n + 1 ≤ n + 1
          same n = omega arith

  tick_all : (n lo : ℕ) (z : Kept) → AreTicksBelowHeights z → Raised m lo n z (fold (λ z i. kept_done false m z (Tick i 1)) z (range_with_len lo n))
  tick_all zero lo z t = record { timed = t; mono = λ j. omega arith; up = λ j l h low. absurd (omega arith) }
  tick_all (suc n) lo z t =
      let one = tick_one z lo t in
      let x = tick_all n (lo + 1) (kept_tick m z lo 1) one.timed in
      join (kept_tick m z lo 1) (fold (λ z i. kept_done false m z (Tick i 1)) (kept_tick m z lo 1) (range_with_len (lo + 1) n)) one x
    where
      join : (y w : Kept) → Raised m lo 1 z y → Raised m (lo + 1) n y w → Raised m lo (suc n) z w
      join y w one x = record {
        timed = x.timed;
        mono = λ j. let a = one.mono j in let b = x.mono j in omega arith;
        up = λ j l h low. at j l h low (same_or_not j lo);
      }
        where
          at : (j : ℕ) → lo ≤ j → j < lo + suc n → (z.clocks j).height ≤ last_horizon m → (j ≡ lo) ⊎ (j ≢ lo)
              → (z.clocks j).height + 1 ≤ (w.clocks j).height
          at j l h low (inl e) =
              let q : ◌≡◌ {A = ℕ} j lo = e in
              let a = one.up j (omega arith) (omega arith) low in
              let b = x.mono j in
              omega arith
          at j l h low (inr n2) =
              let q : ◌≢◌ {A = ℕ} j lo = n2 in
              let a = one.mono j in
              let b = x.mono j in
              high j l (omega arith) h low a b (below_or (last_horizon m) (y.clocks j).height)
            where
              high : (j : ℕ) → lo ≤ j → lo + 1 ≤ j → j < lo + suc n → (z.clocks j).height ≤ last_horizon m → (z.clocks j).height ≤ (y.clocks j).height
                  → (y.clocks j).height ≤ (w.clocks j).height
                  → (last_horizon m < (y.clocks j).height) ⊎ ((y.clocks j).height ≤ last_horizon m) → (z.clocks j).height + 1 ≤ (w.clocks j).height
              high j l l2 h low a b (inl c) = omega arith
              high j l l2 h low a b (inr c) = let u = x.up j l2 (omega arith) c in omega arith

  -- Turns tick nothing.

  fold_clocks : {B : Type 0} (f : Kept → B → Kept) (xs : List B) (z : Kept) → ((z : Kept) (x : B) → (f z x).clocks ≡ z.clocks) → (fold f z xs).clocks ≡ z.clocks
  fold_clocks f [] z h = refl
  fold_clocks f (x ∷ xs) z h = fold_clocks f xs (f z x) h ∙ h z x

  repeat_clocks : (n : ℕ) (f : Kept → Kept) (z : Kept) → ((z : Kept) → (f z).clocks ≡ z.clocks) → (repeat n f z).clocks ≡ z.clocks
  repeat_clocks zero f z h = refl
  repeat_clocks (suc n) f z h = h (repeat n f z) ∙ repeat_clocks n f z h

  looks_clocks : (s v : ℕ) (z : Kept) → (swap_looks m (kept_done false m) (kept_done true m) kept_height s v z).clocks ≡ z.clocks
  looks_clocks s v z = fold_clocks (λ z a. kept_done false m z (In s (Look v a))) (adjacent_arcs (m.cast s).deal v) z (λ z a. refl)

  turn_clocks : (s v : ℕ) (z : Kept) → (swap_turn m (kept_done false m) (kept_done true m) kept_height s z v).clocks ≡ z.clocks
  turn_clocks s v z = go (conforms (m.cast s) v)
    where
      go : (b : Bool)
          → (cond b (repeat (most_acts (m.cast s).deal) (λ z. kept_done false m z (In s (Act v)))
          (swap_looks m (kept_done false m) (kept_done true m) kept_height s v z))
          (kept_done false m (swap_looks m (kept_done false m) (kept_done true m) kept_height s v z) (In s (Act v)))).clocks ≡ z.clocks
      go true =
          repeat_clocks (most_acts (m.cast s).deal) (λ z. kept_done false m z (In s (Act v)))
          (swap_looks m (kept_done false m) (kept_done true m) kept_height s v z) (λ z. refl) ∙ looks_clocks s v z
      go false = looks_clocks s v z

  turns_clocks : (z : Kept) → (fold (swap_turns m (kept_done false m) (kept_done true m) kept_height) z (range_with_len 0 m.swaps)).clocks ≡ z.clocks
  turns_clocks z =
      fold_clocks (swap_turns m (kept_done false m) (kept_done true m) kept_height) (range_with_len 0 m.swaps) z
      (λ z s. fold_clocks (swap_turn m (kept_done false m) (kept_done true m) kept_height s) (range_with_len 0 (m.cast s).deal.graph.n) z
      (λ z v. turn_clocks s v z))

  pub round_raised : (z : Kept) → AreTicksBelowHeights z → Raised m 0 (length m.chains) z (many_round m (kept_done false m) (kept_done true m) kept_height z)
  round_raised z t =
      let mid = fold (swap_turns m (kept_done false m) (kept_done true m) kept_height) z (range_with_len 0 m.swaps) in
      let x = tick_all (length m.chains) 0 mid (same_timed z mid (turns_clocks z) t) in
      record {
        timed = x.timed;
        mono = λ j. subst (λ (c : ℕ → Time). (c j).height ≤ ((many_round m (kept_done false m) (kept_done true m) kept_height z).clocks j).height)
            (turns_clocks z) (x.mono j);
        up = λ j l h low.
            subst (λ (c : ℕ → Time). (c j).height + 1 ≤ ((many_round m (kept_done false m) (kept_done true m) kept_height z).clocks j).height) (turns_clocks z)
            (x.up j l h (subst (λ (c : ℕ → Time). (c j).height ≤ last_horizon m) (sym (turns_clocks z)) low));
      }

  -- What n rounds leave.
  record Above (n : ℕ) (z : Kept) : Type 0 where
    timed : AreTicksBelowHeights z
    above : (i : ℕ) → i < length m.chains → n ≤ (z.clocks i).height

  next_above : (n : ℕ) (z : Kept) → n ≤ last_horizon m → Above n z → Above (suc n) (round_or_rest m (kept_done false m) (kept_done true m) kept_height z)
  next_above n z l x = go (all_ended m (kept_done false m) (kept_done true m) kept_height z) refl
    where
      go : (b : Bool) → all_ended m (kept_done false m) (kept_done true m) kept_height z ≡ b
          → Above (suc n) (cond b z (many_round m (kept_done false m) (kept_done true m) kept_height z))
      go true e = record {
        timed = x.timed;
        above = λ i li.
            let k = ltb-true _ _ (list_all-in (λ i. nat_lt (last_horizon m) (z.clocks i).height) (range_with_len 0 (length m.chains)) i e
            (in_range i (length m.chains) li)) in
            omega arith;
      }
      go false e = let y = round_raised z x.timed in record { timed = y.timed; above = λ i li. at i li y (below_or (last_horizon m) (z.clocks i).height) }
        where
          at : (i : ℕ) → i < length m.chains → Raised m 0 (length m.chains) z (many_round m (kept_done false m) (kept_done true m) kept_height z)
              → (last_horizon m < (z.clocks i).height) ⊎ ((z.clocks i).height ≤ last_horizon m)
              → suc n ≤ ((many_round m (kept_done false m) (kept_done true m) kept_height z).clocks i).height
          at i li y (inl c) = let k = y.mono i in omega arith
          at i li y (inr c) = let k = y.up i (omega arith) (omega arith) c in let q = x.above i li in omega arith

  all_above : (n : ℕ) (z : Kept) → n ≤ last_horizon m + 1 → AreTicksBelowHeights z → Above n
      (repeat n (round_or_rest m (kept_done false m) (kept_done true m) kept_height) z)
  all_above zero z l t = record { timed = t; above = λ i li. omega arith }
  all_above (suc n) z l t =
      next_above n (repeat n (round_or_rest m (kept_done false m) (kept_done true m) kept_height) z) (omega arith) (all_above n z (omega arith) t)

  sweep_clocks : (z : Kept) (t : Slot) → (kept_done true m z (Sweep t.swap t.arc)).clocks ≡ z.clocks
  sweep_clocks z t = go (is_accepted_deed (answer_sweep true m z t.swap t.arc))
    where
      go : (b : Bool) → (cond b (kept_sweep m z t.swap t.arc) z).clocks ≡ z.clocks
      go true = refl
      go false = refl

  -- after a fair finish every chain is above every horizon
  pub finish_above : (z : Kept) → AreTicksBelowHeights z → (i : ℕ) → i < length m.chains → last_horizon m < ((kept_finish m z).clocks i).height
  finish_above z t i l =
      let rounds = repeat (last_horizon m + 1) (round_or_rest m (kept_done false m) (kept_done true m) kept_height) z in
      let x = all_above (last_horizon m + 1) z (omega arith) t in
      subst (λ (c : ℕ → Time). last_horizon m < (c i).height)
      (sym (fold_clocks (λ z t. kept_done true m z (Sweep t.swap t.arc)) (slots m) rounds (λ z t. sweep_clocks z t)))
      (let k = Above.above x i l in omega arith)

  pub swap_ended : (r : Run) (z : Kept) (s : ℕ) → s < m.swaps → Keeps m r z → ((i : ℕ) → i < length m.chains → last_horizon m < (z.clocks i).height)
      → IsEnded (m.cast s).deal (book m r.chains s)
  swap_ended r z s ls k above = λ a la.
      let e : height (history (book m r.chains s) a) ≡ (z.clocks (arc_chain m s a)).height =
      ap height (shown_at m r.chains s a la) ∙ (height_is s a (r.chains (arc_chain m s a)) ∙ sym (k.follows.heights (arc_chain m s a))) in
      let h = above (arc_chain m s a) (ready.chain s a ls la) in
      let g = greatest-in (λ s. the_horizon (m.cast s).deal) (range_with_len 0 m.swaps) s (in_range s m.swaps ls) in
      end (the_horizon (m.cast s).deal) (last_horizon m) (z.clocks (arc_chain m s a)).height (height (history (book m r.chains s) a)) g h e
    where
      end : (a b c d : ℕ) → a ≤ b → b < c → d ≡ c → a < d
      end a b c d l h e = omega arith

keeps_kept : (m : Setup) (r : Run) (z : Kept) (s : ℕ) → IsReadySetup m → s < m.swaps → Keeps m r z → IsKept (m.cast s) (book m r.chains s)
keeps_kept m r z s ready l k = good_is_kept (m.cast s) (swap_state m r s) (ready.casts s l) (subst (IsGood (m.cast s)) (k.follows.swaps s l) (k.good s l))

pub many_finishes_end : ManyFinishesEnd
many_finishes_end m events ready all =
    let k = keeps_run m events ready all in
    let f = both_finish m ready (many_run m events) (kept_run m events) k in
    record {
      follows = f.follows;
      ended = λ s l. swap_ended m ready (many_finish m (many_run m events)) (kept_finish m (kept_run m events)) s l f
          (finish_above m ready (kept_run m events) k.timed);
      kept = λ s l. keeps_kept m (many_finish m (many_run m events)) (kept_finish m (kept_run m events)) s ready l f;
      units = λ i l. counted_is_placed m (many_finish m (many_run m events)) (kept_finish m (kept_run m events)) i l f;
    }
