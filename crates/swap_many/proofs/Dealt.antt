-- A fair finish of several swaps with no event before it: each round raises each ledger by one
-- height, and every party of a swap in which all conform acts at the height at which the round
-- began; so that swap deals.
use Rattle.std.proofs.Common.{◌≡◌, ◌⊎◌, ℕ, suc, zero, ◌+◌, ◌*◌, ◌<◌, ◌≤◌, nat_lt, Bool, true, false, cond, List, [], ◌∷◌, ◌++◌, length, fold}
use Rattle.std.proofs.Common.{refl, sym, ap, ◌∙◌, subst, inl, inr, arith, ltb-true}
use Rattle.std.specs.List.{range_with_len}
use Rattle.swap_base.proofs.Lists.{below_or, from_range, greatest-in, in_range, list_all-in}
use Rattle.ledger_core.specs.declared.entry.Entry.{Entry}
use Rattle.ledger_core.specs.History.{height}
use Rattle.ledger_core.specs.Book.{Histories, history}
use Rattle.ledger_core.proofs.History.{not-true}
use Rattle.swap_rules.specs.Machine.{Begins}
use Rattle.swap_rules.specs.Rounds.{IsTurn, IsRounds}
use Rattle.swap_rules.specs.Laws.{IsDealt}
use Rattle.swap_rules.proofs.Words.{past_end}
use Rattle.swap_rules.proofs.Prefixes.{begins_more}
use Rattle.swap_rules.proofs.Rounds.{rounds_on_time}
use Rattle.swap_rules.proofs.Dealing.{all_dealt}
use Rattle.swap_run.specs.Run.{Cast, State, conforms}
use Rattle.swap_run.specs.Laws.{IsGood}
use Rattle.swap_run.specs.Fair.{repeat, turns, the_horizon}
use Rattle.swap_run.specs.Called.{swept_turns}
use Rattle.swap_run.proofs.Good.{good_is_kept}
use Rattle.swap_run.proofs.Rounds.{turns_from}
use Rattle.swap_run.proofs.Swept.{none_swept}
use Rattle.swap_many.specs.declared.many_event.ManyEvent.TheVariants.{Sweep}
use Rattle.swap_many.specs.Chains.{Setup, Slot, slots, arc_chain, book, is_accepted_deed}
use Rattle.swap_many.specs.Many.{Run, done, last_horizon, round_or_rest, many_start, many_finish}
use Rattle.swap_many.specs.Kept.{Kept, answer_sweep, kept_done, kept_start, kept_sweep}
use Rattle.swap_many.specs.Fair.{kept_round, kept_round_or_rest, kept_rounds, have_ended}
use Rattle.swap_many.specs.Laws.{IsReadySetup, EveryFairSwapIsDealt}
use Rattle.swap_many.specs.Sound.{Keeps}
use Rattle.swap_many.proofs.Projections.{height_is, shown_at}
use Rattle.swap_many.proofs.Units.{keeps_start}
use Rattle.swap_many.proofs.Finish.{run_height, both_repeat, both_unless, round_raised, many_finishes_end}
use Rattle.swap_many.proofs.Skips.{book_ticks, clock_tick, all_chains, once, turned_once, ticked_once, goes_on, up, clocks_up}
use Rattle.swap_run.proofs.Fair.{IsAtOneHeight}
use Rattle.swap_many.proofs.InTurn.{turn_of_round}

-- a state with other histories
abbrev pub with_book : State → Histories → State
with_book t b = record t { book = b }

-- Sweeps leave each swap as it is.

sweep_swaps : (m : Setup) (z : Kept) (t : Slot) → (kept_done true m z (Sweep t.swap t.arc)).swaps ≡ z.swaps
sweep_swaps m z t = go (is_accepted_deed (answer_sweep true m z t.swap t.arc))
  where
    go : (b : Bool) → (cond b (kept_sweep m z t.swap t.arc) z).swaps ≡ z.swaps
    go true = refl
    go false = refl

sweeps_swaps : (m : Setup) (ts : List Slot) (z : Kept) → (fold (λ z t. kept_done true m z (Sweep t.swap t.arc)) z ts).swaps ≡ z.swaps
sweeps_swaps m [] z = refl
sweeps_swaps m (t ∷ ts) z = sweeps_swaps m ts (kept_done true m z (Sweep t.swap t.arc)) ∙ sweep_swaps m z t

-- a run and what is kept of it, whose chains all stand at height r, and no slot is swept
record AtHeight (m : Setup) (r : ℕ) (x : Run) (z : Kept) : Type 0 where
  keeps : Keeps m x z
  at : (i : ℕ) → i < length m.chains → (z.clocks i).height ≡ r
  unswept : z.swept ≡ (λ s a. false)

module _ (m : Setup) (ready : IsReadySetup m) (s : ℕ) (low : s < m.swaps) (all : (v : ℕ) → v < (m.cast s).deal.graph.n → conforms (m.cast s) v ≡ true) where
  abbrev c : Cast
  c = m.cast s

  abbrev count : ℕ
  count = length c.deal.graph.arcs

  -- What a round leaves.

  -- the swap's ledgers stand where its chains do
  level : (r : ℕ) (x : Run) (z : Kept) → AtHeight m r x z → IsAtOneHeight c (z.swaps s) r
  level r x z k = record {
    good = k.keeps.good s low;
    at = λ a l. ap (λ (t : State). height (history t.book a)) (k.keeps.follows.swaps s low)
        ∙ (ap height (shown_at m x.chains s a l)
        ∙ (height_is s a (x.chains (arc_chain m s a))
        ∙ (sym (k.keeps.follows.heights (arc_chain m s a)) ∙ k.at (arc_chain m s a) (ready.chain s a low l))));
  }

  -- the histories after the ticks of a round
  abbrev risen : Kept → Histories
  risen z = book_ticks m z.clocks s (all_chains m) (turns c (z.swaps s)).book

  turned_is : (z : Kept) → z.swept ≡ (λ s a. false) → (once m z).swaps s ≡ turns c (z.swaps s)
  turned_is z unswept =
      turned_once m z.swept s m.swaps 0 z.swaps (omega arith) (omega (arith, low))
      ∙ (ap (λ (sw : ℕ → ℕ → Bool). swept_turns (sw s) c (z.swaps s)) unswept ∙ (none_swept c (z.swaps s)).1)

  round_is : (z : Kept) → z.swept ≡ (λ s a. false) → (kept_round m z).swaps s ≡ with_book (turns c (z.swaps s)) (risen z)
  round_is z unswept =
      ap (λ (t : Kept). t.swaps s) (ticked_once m z)
      ∙ ap (λ (t : State). with_book t (book_ticks m z.clocks s (all_chains m) t.book)) (turned_is z unswept)

  -- some chain is there
  some_chain : 0 < length m.chains
  some_chain =
      let n : 2 ≤ count = (ready.casts s low).accepted.arcs.0 in
      let l = ready.chain s 0 low (omega (arith, n)) in
      omega (arith, l)

  not_ended : (r : ℕ) (x : Run) (z : Kept) → r ≤ last_horizon m → AtHeight m r x z → have_ended m z ≡ false
  not_ended r x z l k = not-true _ (λ e.
      let some = some_chain in
      let p = list_all-in (λ i. nat_lt (last_horizon m) (z.clocks i).height) (range_with_len 0 (length m.chains)) 0 e (in_range 0 (length m.chains) some) in
      let above : last_horizon m < (z.clocks 0).height = ltb-true _ _ p in
      let is : (z.clocks 0).height ≡ r = k.at 0 some in
      absurd (omega (arith, above, is, l)))

  clock_next : (r : ℕ) (x : Run) (z : Kept) → r ≤ last_horizon m → AtHeight m r x z → (i : ℕ) → i < length m.chains
      → ((kept_round m z).clocks i).height ≡ suc r
  clock_next r x z l k i li =
      let is : (z.clocks i).height ≡ r = k.at i li in
      let least : (z.clocks i).height + 1 ≤ ((kept_round m z).clocks i).height =
      (round_raised m ready z k.keeps.timed).up i (omega arith) (omega (arith, li)) (omega (arith, is, l)) in
      let same : ((kept_round m z).clocks i).height ≡ (fold (clock_tick m) z.clocks (all_chains m) i).height =
      ap (λ (t : Kept). (t.clocks i).height) (ticked_once m z) in
      let most : (fold (clock_tick m) z.clocks (all_chains m) i).height ≤ (z.clocks i).height + 1 = clocks_up m i (length m.chains) 0 z.clocks in
      omega (arith, is, least, same, most)

  -- What a round leaves of a swap whose ledgers stand at height r.
  record Raises (r : ℕ) (old new : State) : Type 0 where
    grows : (a : ℕ) → Begins (history old.book a) (history new.book a)
    turn_of : (v : ℕ) → v < c.deal.graph.n → IsTurn c.deal v (c.wallet v) old.book new.book r

  grows_by : (z : Kept) (old : State) → IsGood c old → IsGood c (with_book (turns c old) (book_ticks m z.clocks s (all_chains m) (turns c old).book)) → (a : ℕ)
      → Begins (history old.book a) (history (book_ticks m z.clocks s (all_chains m) (turns c old).book) a)
  unfolding turns
  grows_by z old good new a =
      let u = turns_from c (ready.casts s low) c.deal.graph.n 0 old (omega arith) good in
      begins_more (history old.book a) (history (turns c old).book a) (history (book_ticks m z.clocks s (all_chains m) (turns c old).book) a) (u.calm.grows a)
      (ticks u.good.legal.one_each (below_or a count))
    where
      ticks : length (turns c old).book ≡ count → (a < count) ⊎ (count ≤ a)
          → Begins (history (turns c old).book a) (history (book_ticks m z.clocks s (all_chains m) (turns c old).book) a)
      ticks each (inl l) = let k = up m s a l (length m.chains) 0 z.clocks (turns c old).book each in (k.more, k.is)
      ticks each (inr past) =
          let before : history (turns c old).book a ≡ [] = past_end (turns c old).book a (λ q. absurd (omega (arith, past, q, each))) in
          let after : history (book_ticks m z.clocks s (all_chains m) (turns c old).book) a ≡ [] =
          past_end (book_ticks m z.clocks s (all_chains m) (turns c old).book) a (λ q. let e = new.legal.one_each in absurd (omega (arith, past, q, e))) in
          ([], after ∙ sym (ap (λ (h : List Entry). h ++ []) before))

  next : (r : ℕ) (x y : Run) (z : Kept) → r ≤ last_horizon m → AtHeight m r x z → Keeps m y (kept_round_or_rest m z)
      → AtHeight m (suc r) y (kept_round_or_rest m z) × Raises r (z.swaps s) ((kept_round_or_rest m z).swaps s)
  next r x y z l k keeps =
      let is : kept_round_or_rest m z ≡ kept_round m z = goes_on m z (not_ended r x z l k) in
      let new : (kept_round_or_rest m z).swaps s ≡ with_book (turns c (z.swaps s)) (risen z) =
      ap (λ (t : Kept). t.swaps s) is ∙ round_is z k.unswept in
      let good : IsGood c (with_book (turns c (z.swaps s)) (risen z)) = subst (IsGood c) new (keeps.good s low) in (
        record {
          keeps = keeps;
          at = λ i li. ap (λ (t : Kept). (t.clocks i).height) is ∙ clock_next r x z l k i li;
          unswept = ap (λ (t : Kept). t.swept) is ∙ (ap (λ (t : Kept). t.swept) (ticked_once m z) ∙ k.unswept);
        },
        subst (Raises r (z.swaps s)) (sym new) (record {
          grows = grows_by z (z.swaps s) (k.keeps.good s low) good;
          turn_of = λ v lv. turn_of_round c (ready.casts s low) all r (z.swaps s) (risen z) (level r x z k) good v lv;
        }),
      )

  -- All rounds.

  abbrev run_at : ℕ → Run
  run_at r = repeat r (round_or_rest m (done false m) (done true m) run_height) (many_start m)

  abbrev kept_at : ℕ → Kept
  kept_at r = repeat r (kept_round_or_rest m) (kept_start m)

  keeps_entry : (r : ℕ) → Keeps m (run_at r) (kept_at r)
  keeps_entry r =
      both_repeat m ready r (round_or_rest m (done false m) (done true m) run_height) (kept_round_or_rest m) (many_start m) (kept_start m)
      (both_unless m ready) (keeps_start m ready)

  heights : (r : ℕ) → r ≤ last_horizon m + 1 → AtHeight m r (run_at r) (kept_at r)
  heights zero l = record { keeps = keeps_entry zero; at = λ i li. refl; unswept = refl }
  heights (suc r) l =
      (next r (run_at r) (run_at (suc r)) (kept_at r) (omega (arith, l)) (heights r (omega (arith, l))) (keeps_entry (suc r))).0

  raises : (r : ℕ) → r < last_horizon m + 1 → Raises r ((kept_at r).swaps s) ((kept_at (suc r)).swaps s)
  raises r l = (next r (run_at r) (run_at (suc r)) (kept_at r) (omega (arith, l)) (heights r (omega (arith, l))) (keeps_entry (suc r))).1

  abbrev next_book : ℕ → Histories
  next_book r = ((kept_at r).swaps s).book

  level_at : (r : ℕ) → r ≤ last_horizon m + 1 → IsAtOneHeight c ((kept_at r).swaps s) r
  level_at r l = level r (run_at r) (kept_at r) (heights r l)

  next_is : (r : ℕ) → suc r ≡ r + 1
  next_is r = omega arith

  fair_rounds : (v : ℕ) → v < c.deal.graph.n → IsRounds c.deal v (c.wallet v) 1 0 (last_horizon m + 1) next_book
  fair_rounds v lv = record {
    legal = λ r l. (level_at r l).good.legal;
    conducted =
        (good_is_kept c ((kept_at (last_horizon m + 1)).swaps s) (ready.casts s low) (level_at (last_horizon m + 1) (omega arith)).good).conducted v lv (all v lv);
    grows = λ r a l. subst (λ q. Begins (history (next_book r) a) (history (next_book q) a)) (next_is r) (Raises.grows (raises r l) a);
    at = λ r a l i. let o : height (history (next_book r) a) ≡ r = (level_at r l).at a (from_range a count i) in omega arith;
    turn = λ r l. subst (λ q. IsTurn c.deal v (c.wallet v) (next_book r) (next_book q) (r * 1 + 0)) (next_is r)
        (subst (IsTurn c.deal v (c.wallet v) (next_book r) (next_book (suc r))) (same r) (Raises.turn_of (raises r l) v lv));
  }
    where
      same : (r : ℕ) → r ≡ r * 1 + 0
      same r = omega arith

  above : the_horizon c.deal < last_horizon m + 1
  above = let g = greatest-in (λ s. the_horizon (m.cast s).deal) (range_with_len 0 m.swaps) s (in_range s m.swaps low) in omega (arith, g)

  dealt_after : IsDealt c.deal (conforms c) (next_book (last_horizon m + 1))
  dealt_after =
      let last = level_at (last_horizon m + 1) (omega arith) in
      let accepted = (ready.casts s low).accepted in
      let some : 1 ≤ c.deal.delta = accepted.delta.0 in
      all_dealt c.deal (conforms c) (next_book (last_horizon m + 1)) accepted last.good.legal
      (λ a l. let o : height (history (next_book (last_horizon m + 1)) a) ≡ last_horizon m + 1 = last.at a l in let h = above in omega (arith, o, h))
      (λ v l. (good_is_kept c ((kept_at (last_horizon m + 1)).swaps s) (ready.casts s low) last.good).conducted v l (all v l))
      (λ v l. rounds_on_time c.deal v (c.wallet v) 1 0 (last_horizon m + 1) next_book accepted (omega arith) (omega (arith, some)) (fair_rounds v l))

  -- the sweeps after them leave the book
  book_is : book m (many_finish m (many_start m)).chains s ≡ next_book (last_horizon m + 1)
  book_is =
      let f = many_finishes_end m [] ready (λ i x l. absurd (omega (arith, l))) in
      sym (ap (λ (t : State). t.book) (f.follows.swaps s low))
      ∙ ap (λ (g : ℕ → State). (g s).book) (sweeps_swaps m (slots m) (kept_rounds m (kept_start m)))

  pub dealt : IsDealt c.deal (conforms c) (book m (many_finish m (many_start m)).chains s)
  dealt = subst (IsDealt c.deal (conforms c)) (sym book_is) dealt_after

pub every_fair_swap_is_dealt : EveryFairSwapIsDealt
every_fair_swap_is_dealt m s ready low all = dealt m ready s low all
