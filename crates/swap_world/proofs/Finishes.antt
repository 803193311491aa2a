-- The parts of a fair finish: what each leads to, and where it stops.
use Rattle.std.proofs.Common.{◌≡◌, ℕ, suc, ◌+◌, ◌-◌, ◌<◌, ◌≤◌, ◌==◌, ◌||◌, nat_le, leb-true, leb-false, zero-add, get_or}
use Rattle.std.proofs.Common.{Bool, true, false, cond, List, [], ◌∷◌, ◌++◌, length, replicate, fold, refl}
use Rattle.std.proofs.Common.{sym, ap, ◌∙◌, subst, arith, Result, Ok, Err, OnOk}
use Rattle.std.specs.List.{All, range_with_len}
use Rattle.std.proofs.lemmas.List.FromFn.{get_or-map-range_with_len, length-map-range_with_len}
use Rattle.std.proofs.lemmas.List.Elements.{All-filter, All-from_get_or, All-get_or, filter_passes}
use Rattle.swap_digraph.specs.declared.deal.Deal.{Deal}
use Rattle.swap_digraph.specs.Deal.{party, counterparty}
use Rattle.swap_digraph.specs.Graph.{arcs}
use Rattle.ledger_core.specs.History.{height}
use Rattle.ledger_core.specs.Book.{Histories, history}
use Rattle.swap_job.specs.declared.event.Event.{Event}
use Rattle.swap_job.specs.declared.event.Event.TheVariants.{Look, Act, Tick}
use Rattle.swap_job.specs.Step.{CanLook}
use Rattle.swap_run.specs.Run.{Cast, State, conforms, step}
use Rattle.swap_run.specs.Fair.{repeat, adjacent_arcs, looks, acts, most_acts, turn, turns, the_horizon, tick_low}
use Rattle.swap_run.specs.Fair.{ticks, round, is_above_horizon, round_unless_ended, finish}
use Rattle.swap_run.specs.Steps.{finish_steps, look_steps, low_step, pass_steps, round_steps, rounds_steps, tick_steps, turn_steps, turns_steps, IsSkipped}
use Rattle.swap_run.proofs.Along.{along_start, looks_run, turns_run, rounds_run, rounds_plus}
use Rattle.swap_run.specs.Run.{start}
use Rattle.swap_run.specs.Asked.{Answers}
use Rattle.swap_run.specs.Laws.{IsReadyCast, IsGood}
use Rattle.swap_run.proofs.Finish.{finishes_are_good}
use Rattle.swap_run.proofs.Fair.{fair_is_dealt}
use Rattle.swap_rules.specs.Outcome.{IsEnded}
use Rattle.swap_rules.specs.Laws.{IsDealt}
use Rattle.swap_world.specs.Value.{WorldState, world_answers, world_cast, answering_cast}
use Rattle.swap_world.specs.Gone.{MayGive, HasGone}
use Rattle.swap_world.specs.TouchingArcs.{all_adjacent}
use Rattle.swap_world.specs.Stopped.{AllWorldPartiesConform, IsStopped}
use Rattle.swap_world.proofs.Ways.{over, over_ticks, over_turns, repeat_split, range_all}
use Rattle.swap_world.proofs.Gone.{gone_as, gone_then, cast_gone, deal_gone, more_asked, nothing_asked, stopped_as, stopped_after, stopped_then, way_from}
use Rattle.swap_world.proofs.Worlds.{ready_for, good_for}

-- A party's looks.

abbrev near : Deal → ℕ → ℕ → Bool
near d v a = (v == party d a) || (v == counterparty d a)

-- each arc that touches a party is one of the deal's
pub near_low : (d : Deal) (v : ℕ) → All (λ a. a < length d.graph.arcs) (adjacent_arcs d v)
near_low d v =
    let m = length d.graph.arcs in
    All-filter (near d v) (λ a. a < m) (arcs d.graph) (range_all (λ a. a < m) m (λ i lt. lt))

-- the list of a party in the lists of all
pub near_at : (d : Deal) (lists : List (List ℕ)) (p : ℕ) (x : List ℕ) → lists ≡ all_adjacent d → p < d.graph.n → x ≡ get_or lists p x → x ≡ adjacent_arcs d p
near_at d lists p x e l is =
    is ∙ ap (λ (xs : List (List ℕ)). get_or xs p x) e ∙ get_or-map-range_with_len (adjacent_arcs d) 0 d.graph.n p p x l (zero-add p)

pub near_many : (d : Deal) (lists : List (List ℕ)) → lists ≡ all_adjacent d → length lists ≡ d.graph.n
near_many d lists e = ap (λ (xs : List (List ℕ)). length xs) e ∙ length-map-range_with_len (adjacent_arcs d) 0 d.graph.n

-- each arc that touches a party can be looked at
pub can_look : (d : Deal) (v : ℕ) → v < d.graph.n → All (CanLook d v) (adjacent_arcs d v)
can_look d v l =
    let m = length d.graph.arcs in
    let low : All (λ a. a < m) (adjacent_arcs d v) = near_low d v in
    let touches : All (λ a. near d v a ≡ true) (adjacent_arcs d v) = filter_passes (near d v) (arcs d.graph) in
    All-from_get_or (CanLook d v) (adjacent_arcs d v) 0 (λ i lt. record {
      known = l;
      arc = All-get_or (λ a. a < m) (adjacent_arcs d v) i 0 lt low;
      adjacent = All-get_or (λ a. near d v a ≡ true) (adjacent_arcs d v) i 0 lt touches;
    })

pub looks_over : (c : Cast) (v : ℕ) (s : State) (xs : List ℕ) → xs ≡ adjacent_arcs c.deal v → fold (λ t a. step c t (Look v a)) s xs ≡ looks c v s
unfolding looks
looks_over c v s xs e = ap (λ (ys : List ℕ). fold (λ t a. step c t (Look v a)) s ys) e

-- A party's turn.

-- how a party acts in its turn: until nothing is due where it conforms, else once
abbrev pub acts_as : Bool → Cast → ℕ → State → State
acts_as true c v s = acts c v (most_acts c.deal) s
acts_as false c v s = step c s (Act v)

turn_acts : (c : Cast) (s : State) (v : ℕ) (b : Bool) → conforms c v ≡ b → turn c s v ≡ acts_as b c v (looks c v s)
unfolding turn
turn_acts c s v true e = ap (λ (b : Bool). cond b (acts c v (most_acts c.deal) (looks c v s)) (step c (looks c v s) (Act v))) e
turn_acts c s v false e = ap (λ (b : Bool). cond b (acts c v (most_acts c.deal) (looks c v s)) (step c (looks c v s) (Act v))) e

-- the steps of how a party acts in its turn
abbrev pub acts_steps : Bool → Deal → ℕ → List Event
acts_steps true d v = replicate (most_acts d) (Act v)
acts_steps false d v = Act v ∷ []

turn_steps_as : (c : Cast) (v : ℕ) (b : Bool) → conforms c v ≡ b → look_steps c.deal v ++ acts_steps b c.deal v ≡ turn_steps c v
unfolding turn_steps
turn_steps_as c v true e =
    ap (λ (b : Bool). look_steps c.deal v ++ cond b (replicate (most_acts c.deal) (Act v)) (Act v ∷ [])) (sym e)
turn_steps_as c v false e =
    ap (λ (b : Bool). look_steps c.deal v ++ cond b (replicate (most_acts c.deal) (Act v)) (Act v ∷ [])) (sym e)

pub turn_cut : (gives : MayGive) (old new : WorldState) (v : ℕ) → IsStopped gives (λ c s. look_steps c.deal v) old new
    → IsStopped gives (λ c s. turn_steps c v) old new
turn_cut gives old new v k =
    stopped_as gives (λ c s. look_steps c.deal v ++ acts_steps (conforms c v) c.deal v) (λ c s. turn_steps c v) old new
    (λ g. turn_steps_as (answering_cast old g) v (conforms (answering_cast old g) v) refl)
    (stopped_then gives (λ c s. look_steps c.deal v) (λ c s. acts_steps (conforms c v) c.deal v) old new k)

module _ (gives : MayGive) (old mid new : WorldState) (v : ℕ) (b : Bool) (is : conforms (world_cast mid) v ≡ b)
    (looked : HasGone gives (λ c s. looks c v s) old mid) where
  was : (g : Answers) → conforms (answering_cast old g) v ≡ b
  was g = subst (λ c. conforms c v ≡ b) (cast_gone gives (λ c s. looks c v s) old mid looked) is

  -- acts end a turn
  pub turn_ends : HasGone gives (λ c s. acts_as b c v s) mid new → HasGone gives (λ c s. turn c s v) old new
  turn_ends k =
      gone_as gives (λ c s. acts_as b c v (looks c v s)) (λ c s. turn c s v) old new
      (λ g. sym (turn_acts (answering_cast old g) old.state v b (was g)))
      (gone_then gives (λ c s. looks c v s) (λ c s. acts_as b c v s) old mid new looked k)

  pub turn_stops : IsStopped gives (λ c s. acts_steps b c.deal v) mid new → IsStopped gives (λ c s. turn_steps c v) old new
  turn_stops k =
      stopped_as gives (λ c s. look_steps c.deal v ++ acts_steps b c.deal v) (λ c s. turn_steps c v) old new
      (λ g. turn_steps_as (answering_cast old g) v b (was g))
      (stopped_after gives (λ c s. looks c v s) (λ c s. look_steps c.deal v) (λ c s. acts_steps b c.deal v) old mid new looked
      (λ g. looks_run (answering_cast old g) v old.state) k)

-- Ticks.

pub is_low : (c : Cast) (s : State) (a : ℕ) → height (history s.book a) ≤ the_horizon c.deal → tick_low c s a ≡ step c s (Tick a 1)
is_low c s a l = go (nat_le (height (history s.book a)) (the_horizon c.deal)) refl
  where
    go : (b : Bool) → nat_le (height (history s.book a)) (the_horizon c.deal) ≡ b → cond b (step c s (Tick a 1)) s ≡ step c s (Tick a 1)
    go true e = refl
    go false e = absurd (omega (arith, l, leb-false _ _ e))

pub is_low_step : (d : Deal) (b : Histories) (a : ℕ) → height (history b a) ≤ the_horizon d → low_step d b a ≡ Tick a 1 ∷ []
is_low_step d b a l = go (nat_le (height (history b a)) (the_horizon d)) refl
  where
    go : (y : Bool) → nat_le (height (history b a)) (the_horizon d) ≡ y → cond y (Tick a 1 ∷ []) [] ≡ Tick a 1 ∷ []
    go true e = refl
    go false e = absurd (omega (arith, l, leb-false _ _ e))

pub is_high : (c : Cast) (s : State) (a : ℕ) → the_horizon c.deal < height (history s.book a) → tick_low c s a ≡ s
is_high c s a l = go (nat_le (height (history s.book a)) (the_horizon c.deal)) refl
  where
    go : (b : Bool) → nat_le (height (history s.book a)) (the_horizon c.deal) ≡ b → cond b (step c s (Tick a 1)) s ≡ s
    go true e = absurd (omega (arith, l, leb-true _ _ e))
    go false e = refl

module _ (gives : MayGive) (w new : WorldState) where
  pub ticks_stop : IsStopped gives (λ c s. over (tick_low c) (λ t a. low_step c.deal t.book a) s (range_with_len 0 (length w.deal.graph.arcs))) w new
      → IsStopped gives (λ c s. tick_steps c.deal s.book) w new
  unfolding tick_steps
  ticks_stop k =
      stopped_as gives (λ c s. over (tick_low c) (λ t a. low_step c.deal t.book a) s (range_with_len 0 (length w.deal.graph.arcs)))
      (λ c s. tick_steps c.deal s.book) w new (λ g. over_ticks (answering_cast w g) (range_with_len 0 (length w.deal.graph.arcs)) w.state) k

  pub ticks_are : HasGone gives (λ c s. fold (tick_low c) s (range_with_len 0 (length w.deal.graph.arcs))) w new → HasGone gives ticks w new
  unfolding ticks
  ticks_are k = gone_as gives (λ c s. fold (tick_low c) s (range_with_len 0 (length w.deal.graph.arcs))) ticks w new (λ g. refl) k

-- Rounds.

module _ (gives : MayGive) (w new : WorldState) where
  pub turns_stop : IsStopped gives (λ c s. over (turn c) (λ t v. turn_steps c v) s (range_with_len 0 w.deal.graph.n)) w new
      → IsStopped gives (λ c s. turns_steps c) w new
  unfolding turns_steps
  turns_stop k =
      stopped_as gives (λ c s. over (turn c) (λ t v. turn_steps c v) s (range_with_len 0 w.deal.graph.n)) (λ c s. turns_steps c) w new
      (λ g. over_turns (answering_cast w g) (range_with_len 0 w.deal.graph.n) w.state) k

  pub turns_are : HasGone gives (λ c s. fold (turn c) s (range_with_len 0 w.deal.graph.n)) w new → HasGone gives turns w new
  unfolding turns
  turns_are k = gone_as gives (λ c s. fold (turn c) s (range_with_len 0 w.deal.graph.n)) turns w new (λ g. refl) k

module _ (gives : MayGive) (old mid new : WorldState) (turned : HasGone gives turns old mid) where
  pub round_ends : HasGone gives ticks mid new → HasGone gives round old new
  unfolding round
  round_ends k =
      gone_as gives (λ c s. ticks c (turns c s)) round old new (λ g. refl) (gone_then gives turns ticks old mid new turned k)

  pub round_stops : IsStopped gives (λ c s. tick_steps c.deal s.book) mid new → IsStopped gives round_steps old new
  round_stops k =
      stopped_after gives turns (λ c s. turns_steps c) (λ c s. tick_steps c.deal s.book) old mid new turned (λ g. turns_run (answering_cast old g) old.state) k

pub round_cut : (gives : MayGive) (old new : WorldState) → IsStopped gives (λ c s. turns_steps c) old new → IsStopped gives round_steps old new
round_cut gives old new k = stopped_then gives (λ c s. turns_steps c) (λ c s. tick_steps c.deal (turns c s).book) old new k

pub is_round : (c : Cast) (s : State) → is_above_horizon c.deal s.book ≡ false → round_unless_ended c s ≡ round c s
is_round c s e = ap (λ (b : Bool). cond b s (round c s)) e

pub is_rest : (c : Cast) (s : State) → is_above_horizon c.deal s.book ≡ true → round_unless_ended c s ≡ s
is_rest c s e = ap (λ (b : Bool). cond b s (round c s)) e

-- Rounds that only take their ticks, and a round after them.
module _ (gives : MayGive) (old mid new : WorldState) (n : ℕ) (skips : (g : Answers) → IsSkipped (answering_cast old g) n old.state) where
  are_rounds : (g : Answers) → round (answering_cast old g) (repeat n (ticks (answering_cast old g)) old.state)
      ≡ repeat (n + 1) (round_unless_ended (answering_cast old g)) old.state
  are_rounds g = let e : suc n ≡ n + 1 = omega arith in sym (skips g).skips ∙ ap (λ k. repeat k (round_unless_ended (answering_cast old g)) old.state) e

  -- memory ran out within so many rounds, of at most `most`
  within : (most : ℕ) → n ≤ most - 1 → 1 ≤ most → IsStopped gives (rounds_steps (suc n)) old new
      → (m : ℕ) × (m ≤ most) × IsStopped gives (rounds_steps m) old new
  within most few some k = (suc n, omega (arith, few, some), k)

  pub advance_cut : (most : ℕ) → n ≤ most - 1 → 1 ≤ most → IsStopped gives (pass_steps n) old new
      → (m : ℕ) × (m ≤ most) × IsStopped gives (rounds_steps m) old new
  advance_cut most few some k =
      within most few some (record {
        stopped = k.stopped;
        cast = k.cast;
        asked = k.asked;
        book = λ g x. (skips g).pass new.state.book (k.book g x);
      })

  pub advance_ends : HasGone gives (λ c s. repeat n (ticks c) s) old mid → HasGone gives round mid new
      → HasGone gives (λ c s. repeat (n + 1) (round_unless_ended c) s) old new
  advance_ends a b =
      gone_as gives (λ c s. round c (repeat n (ticks c) s)) (λ c s. repeat (n + 1) (round_unless_ended c) s) old new are_rounds
      (gone_then gives (λ c s. repeat n (ticks c) s) round old mid new a b)

  pub advance_stops : (most : ℕ) → n ≤ most - 1 → 1 ≤ most → HasGone gives (λ c s. repeat n (ticks c) s) old mid → IsStopped gives round_steps mid new
      → (m : ℕ) × (m ≤ most) × IsStopped gives (rounds_steps m) old new
  advance_stops most few some a k =
      within most few some (record {
        stopped = k.stopped;
        cast = k.cast ∙ cast_gone gives (λ c s. repeat n (ticks c) s) old mid a;
        asked = more_asked gives old mid new a.asked (deal_gone gives (λ c s. repeat n (ticks c) s) old mid a) k.asked;
        book = λ g x. (skips g).last new.state.book (way_from gives (λ c s. repeat n (ticks c) s) round_steps old mid new g a k.asked x (k.book g x));
      })

-- Rounds, with the number that are left and the number in all.
module _ (gives : MayGive) (old mid new : WorldState) (all left n : ℕ) (few : left ≤ all) (some : n ≤ left)
    (so_far : HasGone gives (λ c s. repeat (all - left) (round_unless_ended c) s) old mid) where
  in_a_row : (f : State → State) (s : State) → repeat n f (repeat (all - left) f s) ≡ repeat (all - (left - n)) f s
  in_a_row f s =
      let e : n + (all - left) ≡ all - (left - n) = omega arith in
      sym (repeat_split n (all - left) f s) ∙ ap (λ k. repeat k f s) e

  pub goes_further : HasGone gives (λ c s. repeat n (round_unless_ended c) s) mid new
      → HasGone gives (λ c s. repeat (all - (left - n)) (round_unless_ended c) s) old new
  goes_further h =
      gone_as gives (λ c s. repeat n (round_unless_ended c) (repeat (all - left) (round_unless_ended c) s))
      (λ c s. repeat (all - (left - n)) (round_unless_ended c) s) old new
      (λ g. in_a_row (round_unless_ended (answering_cast old g)) old.state)
      (gone_then gives (λ c s. repeat (all - left) (round_unless_ended c) s) (λ c s. repeat n (round_unless_ended c) s) old mid new so_far h)

  all_steps : (c : Cast) (s : State) → (rounds_steps (all - left) c s ++ rounds_steps n c (repeat (all - left) (round_unless_ended c) s))
      ++ rounds_steps (left - n) c (repeat (n + (all - left)) (round_unless_ended c) s) ≡ rounds_steps all c s
  all_steps c s =
      let e : (left - n) + (n + (all - left)) ≡ all = omega (arith, few, some) in
      ap (λ (es : List Event). es ++ rounds_steps (left - n) c (repeat (n + (all - left)) (round_unless_ended c) s)) (sym (rounds_plus c n (all - left) s))
      ∙ sym (rounds_plus c (left - n) (n + (all - left)) s) ∙ ap (λ k. rounds_steps k c s) e

  pub stops_further : IsStopped gives (rounds_steps n) mid new → IsStopped gives (rounds_steps all) old new
  stops_further k =
      stopped_as gives (λ c s. (rounds_steps (all - left) c s ++ rounds_steps n c (repeat (all - left) (round_unless_ended c) s))
      ++ rounds_steps (left - n) c (repeat (n + (all - left)) (round_unless_ended c) s)) (rounds_steps all) old new
      (λ g. all_steps (answering_cast old g) old.state)
      (stopped_then gives (λ c s. rounds_steps (all - left) c s ++ rounds_steps n c (repeat (all - left) (round_unless_ended c) s))
      (λ c s. rounds_steps (left - n) c (repeat (n + (all - left)) (round_unless_ended c) s)) old new
      (stopped_after gives (λ c s. repeat (all - left) (round_unless_ended c) s) (rounds_steps (all - left)) (rounds_steps n) old mid new so_far
      (λ g. rounds_run (answering_cast old g) (all - left) old.state) k))

module _ (gives : MayGive) (w new : WorldState) where
  pub finish_stops_at : IsStopped gives (rounds_steps (the_horizon w.deal + 1)) w new → IsStopped gives finish_steps w new
  unfolding finish_steps
  finish_stops_at k = stopped_as gives (rounds_steps (the_horizon w.deal + 1)) finish_steps w new (λ g. refl) k

  pub finish_is : HasGone gives (λ c s. repeat (the_horizon w.deal + 1) (round_unless_ended c) s) w new → HasGone gives finish w new
  unfolding finish
  finish_is k = gone_as gives (λ c s. repeat (the_horizon w.deal + 1) (round_unless_ended c) s) finish w new (λ g. refl) k

  -- where memory runs out before the first round
  pub finish_stops_first : new ≡ record w { stopped = true } → IsStopped gives finish_steps w new
  finish_stops_first e =
      subst (IsStopped gives finish_steps w) (sym e) (record {
        stopped = refl;
        cast = refl;
        asked = nothing_asked gives w (record w { stopped = true }) refl refl;
        book = λ g x. along_start (answering_cast w g) w.state (finish_steps (answering_cast w g) w.state) w.state.book refl;
      })

-- What a finish leaves.

module _ {A E : Type 0} (gives : MayGive) (w new : WorldState) (ready : IsReadyCast (world_cast w)) where
  pub has_ended_by : (r : Result A E) → OnOk r (HasGone gives finish w new) → IsGood (world_cast w) w.state → OnOk r (IsEnded w.deal new.state.book)
  has_ended_by (Ok x) k good =
      let g = world_answers new in
      subst (λ (s : State). IsEnded w.deal s.book) (sym (k.state g (λ i l. refl)))
      (finishes_are_good (answering_cast w g) w.state (ready_for (world_cast w) g ready) (good_for (world_cast w) g w.state good)).1
  has_ended_by (Err x) k good = tt

  pub dealt_by : (r : Result A E) → OnOk r (HasGone gives finish w new)
      → OnOk r (AllWorldPartiesConform w → w.state ≡ start (world_cast w) → IsDealt w.deal (conforms (world_cast w)) new.state.book)
  dealt_by (Ok x) k = λ all at.
      let g = world_answers new in
      subst (λ (s : State). IsDealt w.deal (conforms (world_cast w)) s.book)
      (sym (k.state g (λ i l. refl) ∙ ap (λ (s : State). finish (answering_cast w g) s) at))
      (fair_is_dealt (answering_cast w g) (ready_for (world_cast w) g ready) all)
  dealt_by (Err x) k = tt
