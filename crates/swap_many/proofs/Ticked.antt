-- What a tick of a chain does to many worlds.
use Rattle.std.proofs.Common.{◌≡◌, ◌⊎◌, ℕ, suc, zero, ◌+◌, ◌<◌, ◌≤◌, ◌==◌, Bool, true, false, cond, List, [], ◌∷◌, length, map, fold, refl, sym, ap}
use Rattle.std.proofs.Common.{ap₂, ◌∙◌, subst, inl, inr, arith, slice_set, slice_index_or}
use Rattle.std.proofs.Common.{Result, Ok, Err, IsErr, OnOk, OnErr}
use Rattle.std.proofs.lemmas.List.{length-map, length-set}
use Rattle.std.specs.List.{All, range_with_len}
use Rattle.std.specs.List.Sorted.{IsStrictlyIncreasing}
use Rattle.std.proofs.lemmas.List.Elements.{All-filter}
use Rattle.std.proofs.lemmas.List.Kept.{IsStrictlyIncreasing-filter}
use Rattle.std.proofs.lemmas.List.FromFn.{get_or-map-range_with_len, length-map-range_with_len, length-range_with_len, get_or-range_with_len}
use Rattle.escrow_core.specs.declared.reply.Reply.TheVariants.{Accepted, ClockFull}
use Rattle.swap_many.specs.declared.many_reply.ManyReply.TheVariants.{Plain}
use Rattle.swap_base.proofs.Lists.{below_or}
use Rattle.swap_digraph.specs.Graph.{arcs}
use Rattle.swap_job.specs.declared.event.Event.TheVariants as events
use Rattle.swap_run.specs.Asked.{Answers}
use Rattle.swap_run.specs.Run.{Cast, State, step}
use Rattle.swap_run.specs.Laws.{IsKept}
use Rattle.swap_world.specs.Value.{WorldState, world_cast, answering_cast}
use Rattle.swap_world.specs.Gone.{MayGive, HasAsked}
use Rattle.swap_world.specs.On.{tick_arc, tick_arcs}
use Rattle.swap_world.proofs.Gone.{nothing_asked}
use Rattle.swap_world.proofs.Ways.{range_all}
use Rattle.swap_many.specs.declared.many_event.ManyEvent.TheVariants.{Tick}
use Rattle.swap_many.specs.declared.place.Place.{Place}
use Rattle.swap_many.specs.Accounts.{ChainState, account_units}
use Rattle.swap_many.specs.Chains.{Setup, put, has_no_tick, nowhere, Units, is_accepted_deed, chain_tick_reply}
use Rattle.swap_many.specs.Kept.{Kept, Time, later, tick_ledgers, ticked, kept_done}
use Rattle.swap_many.specs.Laws.{CanTickChain}
use Rattle.swap_many.specs.Ticking.{nth, IsTicked, AreTicked, AreTickable, some_stopped}
use Rattle.swap_many.specs.Value.{ManyState, no_world, nth_world, nth_chain, world_setup, made_setup, many_kept, AreSame, HasManyGone, IsManyStopped}
use Rattle.swap_many.specs.Inside.{stands, standing, AreWhole}
use Rattle.swap_many.proofs.Projections.{put_still}
use Rattle.swap_many.proofs.Each.{none_stopped}
use Rattle.swap_many.proofs.Values.{can_for, with_chain, each_chain, chains_put, put_map, whole_next, sound_step}
use Rattle.swap_many.proofs.Turning.{fold_filter}
use Rattle.swap_many.proofs.Way.{no_step, one_step}

-- the ledgers that are told to tick are those on the chain
pub ticked_is : (m : Setup) (s i k : ℕ) (w : WorldState) (g : Answers) (ps : List Place) (t : State) → answering_cast w g ≡ m.cast s
    → ps ≡ slice_index_or m.places s [] → length ps ≡ length w.deal.graph.arcs → tick_arcs (stands i ps) k (world_cast w) t ≡ ticked m i k s t
ticked_is m s i k w g ps t is here many =
    fold_filter (λ a. (slice_index_or ps a nowhere).chain == i) (tick_arc k (world_cast w)) t (range_with_len 0 (length ps))
    ∙ (ap (λ n. fold (λ t a. cond ((slice_index_or ps a nowhere).chain == i) (step (world_cast w) t (events.Tick a k)) t) t (range_with_len 0 n)) many
    ∙ ap₂ (λ (c : Cast) (ps : List Place).
    fold (λ t a. cond ((slice_index_or ps a nowhere).chain == i) (step c t (events.Tick a k)) t) t (arcs c.deal.graph)) is here)

asked_ticked : (k : ℕ) (c : Cast) (t : State) (on : List ℕ) → (tick_arcs on k c t).asked ≡ t.asked
asked_ticked k c t [] = refl
asked_ticked k c t (a ∷ on) = asked_ticked k c (step c t (events.Tick a k)) on

-- the arcs that stand on a chain are arcs, and ascend

stands_low : (i : ℕ) (ps : List Place) → All (λ a. a < length ps) (stands i ps)
stands_low i ps =
    All-filter (λ a. (slice_index_or ps a nowhere).chain == i) (λ a. a < length ps) (range_with_len 0 (length ps))
    (range_all (λ a. a < length ps) (length ps) (λ a l. l))

range_up : (n : ℕ) → IsStrictlyIncreasing (range_with_len 0 n)
range_up n k l =
    let many = length-range_with_len 0 n in
    let here = get_or-range_with_len 0 n k 0 (omega (arith, l, many)) in
    let next = get_or-range_with_len 0 n (k + 1) 0 (omega (arith, l, many)) in
    omega (arith, here, next)

stands_up : (i : ℕ) (ps : List Place) → IsStrictlyIncreasing (stands i ps)
stands_up i ps =
    IsStrictlyIncreasing-filter (λ a. (slice_index_or ps a nowhere).chain == i) (range_with_len 0 (length ps)) (range_up (length ps))

-- past the last one nothing is there
pub past_end : {A : Type 0} (xs : List A) (s : ℕ) (d : A) → length xs ≤ s → slice_index_or xs s d ≡ d
past_end [] s d l = refl
past_end (x ∷ xs) zero d l = absurd (omega arith)
past_end (x ∷ xs) (suc s) d l = past_end xs s d (omega arith)

pub map_at : {A B : Type 0} (f : A → B) (xs : List A) (i : ℕ) (d : A) (e : B) → i < length xs → slice_index_or (map f xs) i e ≡ f (slice_index_or xs i d)
map_at f [] i d e l = absurd (omega arith)
map_at f (x ∷ xs) zero d e l = refl
map_at f (x ∷ xs) (suc i) d e l = map_at f xs i d e (omega arith)

-- which arcs of each swap stand on chain i, as it is looked up
pub looked_up : (on : List (List (List ℕ))) (n : ℕ) (ps : List (List Place)) (i : ℕ) → on ≡ standing n ps → i < n
    → (i < length on) × (slice_index_or on i [] ≡ map (stands i) ps)
looked_up on n ps i e l = (
  subst (λ m. i < m) (sym (ap length e ∙ length-map-range_with_len (λ i. map (stands i) ps) 0 n)) l,
  ap (λ xs. slice_index_or xs i []) e ∙ (let z : 0 + i ≡ i = omega arith in get_or-map-range_with_len (λ i. map (stands i) ps) 0 n i i [] l z),
)

pub may_tick : (w : ManyState) (i : ℕ) → AreWhole w → w.stopped ≡ false → AreTickable (map (stands i) w.places) w.worlds
may_tick w i whole on = record {
  one_each = length-map w.places (stands i) ∙ whole.places;
  arcs = λ s l. subst (λ (xs : List ℕ). All (λ a. a < length (nth w.worlds s).deal.graph.arcs) xs) (sym (here s l))
      (subst (λ n. All (λ a. a < n) (stands i (slice_index_or w.places s []))) (whole.arcs s l) (stands_low i (slice_index_or w.places s [])));
  ascending = λ s l. subst IsStrictlyIncreasing (sym (here s l)) (stands_up i (slice_index_or w.places s []));
  go_on = whole.on on;
}
  where
    here : (s : ℕ) → s < length w.worlds → slice_index_or (map (stands i) w.places) s [] ≡ stands i (slice_index_or w.places s [])
    here s l = map_at (stands i) w.places s [] [] (subst (λ n. s < n) (sym whole.places) l)

-- a tick that is accepted has room
pub has_room : (ticks height k : ℕ) → is_accepted_deed (chain_tick_reply ticks height k) ≡ true → has_no_tick ticks height k ≡ false
has_room ticks height k e = go (has_no_tick ticks height k) e
  where
    go : (b : Bool) → is_accepted_deed (cond b (Plain ClockFull) (Plain Accepted)) ≡ true → b ≡ false
    go true e = absurd (cc e)
    go false e = refl

pub ok_unless : {A E : Type 0} (r : Result A E) (b : Bool) (P : Type 0) → (b ≡ true → IsErr r) → (b ≡ false → P) → OnOk r P
ok_unless (Err e) b P err ok = tt
ok_unless (Ok x) true P err ok = absurd (cc (err refl))
ok_unless (Ok x) false P err ok = ok refl

pub err_unless : {A E : Type 0} (r : Result A E) (b : Bool) (x : A) (P : Type 0) → (b ≡ false → r ≡ Ok x) → (b ≡ true → P) → OnErr r P
err_unless (Ok y) b x P ok err = tt
err_unless (Err e) true x P ok err = err refl
err_unless (Err e) false x P ok err = absurd (cc (ok refl))

-- What the worlds are after a chain's ticks.
pub record HasTicked (gives : MayGive) (w : ManyState) (i k : ℕ) (x : ChainState) (ws : List WorldState) (b : Bool) : Type 0 where
  pub gone : b ≡ false → HasManyGone gives (λ m z. kept_done false m z (Tick i k)) w (record w { worlds = ws; chains = slice_set w.chains i x; stopped = b })
  pub stops : b ≡ true
      → IsManyStopped gives (λ m z. kept_done false m z (Tick i k)) w (record w { worlds = ws; chains = slice_set w.chains i x; stopped = b })
  pub all_whole : AreWhole (record w { worlds = ws; chains = slice_set w.chains i x; stopped = b })

module _ (gives : MayGive) (w : ManyState) (i k : ℕ) (x : ChainState) (ws : List WorldState) (b : Bool) (low : i < length w.chains) (whole : AreWhole w)
    (room : has_no_tick (nth_chain w i).clock.ticks (nth_chain w i).clock.height k ≡ false)
    (clock : x ≡ record (nth_chain w i) { clock = later (nth_chain w i).clock k })
    (all : AreTicked (map (stands i) w.places) k (length w.worlds) w.worlds ws) where
  abbrev with_ticks : ManyState
  with_ticks = record w { worlds = ws; chains = slice_set w.chains i x; stopped = b }

  on_at : (s : ℕ) → s < length w.worlds → slice_index_or (map (stands i) w.places) s [] ≡ stands i (slice_index_or w.places s [])
  on_at s l = map_at (stands i) w.places s [] [] (subst (λ n. s < n) (sym whole.places) l)

  each : (P : ℕ → WorldState → Type 0)
      → ((s : ℕ) → s < length w.worlds → IsTicked (stands i (slice_index_or w.places s [])) k (nth_world w s) (nth ws s) → P s (nth ws s))
      → ((s : ℕ) → length w.worlds ≤ s → P s (nth_world w s)) → (s : ℕ) → P s (nth ws s)
  each P at other s = go (below_or s (length w.worlds))
    where
      go : (s < length w.worlds) ⊎ (length w.worlds ≤ s) → P s (nth ws s)
      go (inl l) = at s l (subst (λ on. IsTicked on k (nth_world w s) (nth ws s)) (on_at s l) (all.ticked s l l))
      go (inr l) = subst (P s) (sym (all.others s l)) (other s l)

  pub ticks_same : AreSame gives w with_ticks
  ticks_same = record {
    swaps = all.one_each;
    casts = each (λ s y. world_cast y ≡ world_cast (nth_world w s)) (λ s l t. ap world_cast t.same) (λ s l. refl);
    asked = each (λ s y. HasAsked gives (nth_world w s) y)
        (λ s l t. nothing_asked gives (nth_world w s) (nth ws s)
        (ap (λ (y : State). y.asked) t.state
        ∙ asked_ticked k (world_cast (nth_world w s)) (nth_world w s).state (stands i (slice_index_or w.places s [])))
        (ap (λ (y : WorldState). y.answers) t.same))
        (λ s l. nothing_asked gives (nth_world w s) (nth_world w s) refl refl);
    places = refl;
    openings = refl;
  }

  rests : (g : ℕ → Answers) (s : ℕ) → length w.worlds ≤ s → (nth_world w s).state ≡ ticked (made_setup w g) i k s (nth_world w s).state
  rests g s l =
      sym (ap (λ (y : WorldState). fold (tick_ledgers (made_setup w g) i k s) (nth_world w s).state (arcs y.deal.graph)) (past_end w.worlds s no_world l))

  pub ticks_kept : (g : ℕ → Answers) → many_kept with_ticks ≡ kept_done false (made_setup w g) (many_kept w) (Tick i k)
  ticks_kept g =
      (λ j. record {
        swaps = λ s. swaps s j;
        clocks = clocks j;
        free = frees j;
        swept = (many_kept w).swept;
      })
      ∙ sym (ap (λ b. cond b (many_kept w) (record (many_kept w) {
        clocks = put (many_kept w).clocks i (later (nth_chain w i).clock k);
        swaps = λ s. ticked (made_setup w g) i k s (nth_world w s).state;
      })) room)
    where
      swaps : (s : ℕ) → (nth ws s).state ≡ ticked (made_setup w g) i k s (nth_world w s).state
      swaps = each (λ s y. y.state ≡ ticked (made_setup w g) i k s (nth_world w s).state)
          (λ s l t. t.state ∙ ticked_is (made_setup w g) s i k (nth_world w s) (g s) (slice_index_or w.places s []) (nth_world w s).state refl refl
          (whole.arcs s l))
          (rests g)

      clocks : (λ j. (nth_chain (with_chain w i x low) j).clock) ≡ put (many_kept w).clocks i (later (nth_chain w i).clock k)
      clocks =
          ap (λ (f : ℕ → ChainState). let h : ℕ → Time = λ j. (f j).clock in h) (chains_put w i x low)
          ∙ (put_map (λ (y : ChainState). y.clock) (nth_chain w) i x
          ∙ ap (λ (y : ChainState). put (many_kept w).clocks i y.clock) clock)

      frees : (λ j. account_units (nth_chain (with_chain w i x low) j).free) ≡ (many_kept w).free
      frees =
          ap (λ (f : ℕ → ChainState). let h : ℕ → Units = λ j. account_units (f j).free in h) (chains_put w i x low)
          ∙ (put_map (λ (y : ChainState). account_units y.free) (nth_chain w) i x
          ∙ put_still (many_kept w).free i (account_units x.free) (ap (λ (y : ChainState). account_units y.free) clock))

  ticks_gone : b ≡ w.stopped → HasManyGone gives (λ m z. kept_done false m z (Tick i k)) w with_ticks
  ticks_gone on = record { same = ticks_same; goes_on = on; kept = λ g c. ticks_kept g }

  ticks_stop : b ≡ true → CanTickChain (world_setup w) i k → IsManyStopped gives (λ m z. kept_done false m z (Tick i k)) w with_ticks
  ticks_stop on can = record {
    stopped = on;
    same = ticks_same;
    way = λ g c. let m = made_setup w g in
        record {
          there = kept_done false m (many_kept w) (Tick i k);
          before = one_step m (whole.ready g) (many_kept w) (record { fair = false; event = Tick i k }) (can_for w g (Tick i k) can);
          after = no_step m (whole.ready g) (kept_done false m (many_kept w) (Tick i k));
          books = λ s l. ap (λ (z : Kept). (z.swaps s).book) (ticks_kept g);
          clocks = λ j. ap (λ (z : Kept). z.clocks j) (ticks_kept g);
          free = λ j. ap (λ (z : Kept). z.free j) (ticks_kept g);
        };
  }

  ticks_whole : w.stopped ≡ false → b ≡ some_stopped ws → CanTickChain (world_setup w) i k → AreWhole with_ticks
  ticks_whole on is can =
      whole_next gives w with_ticks whole ticks_same (length-set w.chains i x)
      (each_chain w i x low (λ j y. length y.free ≡ length (nth_chain w j).free) (ap (λ (y : ChainState). length y.free) clock) (λ j. refl))
      refl (λ s. refl) (λ q s l. none_stopped (λ (y : WorldState). y.stopped) ws s no_world (sym is ∙ q) l)
      (λ q. sound_step gives w with_ticks false (Tick i k) whole on (λ g. can_for w g (Tick i k) can) (ticks_gone (q ∙ sym on)))
      (each (λ s y. s < length ws → IsKept (world_cast y) y.state.book) (λ s l t k. t.kept) (λ s l k. absurd (past s l k)))
    where
      past : (s : ℕ) → length w.worlds ≤ s → s < length ws → ⊥
      past s l k = let e = all.one_each in absurd (omega (arith, l, k, e))

  pub has_ticked : w.stopped ≡ false → b ≡ some_stopped ws → CanTickChain (world_setup w) i k → HasTicked gives w i k x ws b
  has_ticked on is can = record { gone = λ q. ticks_gone (q ∙ sym on); stops = λ q. ticks_stop q can; all_whole = ticks_whole on is can }
