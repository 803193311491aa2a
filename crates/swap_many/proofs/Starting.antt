-- Many swaps before any event: all is whole, and what is kept is that of the run before any event.
use Rattle.std.proofs.Common.{◌≡◌, ◌⊎◌, ℕ, ◌+◌, ◌-◌, ◌<◌, ◌≤◌, Bool, false, List, [], length, map, replicate, refl, sym, ap, ◌∙◌, subst, inl, inr}
use Rattle.std.proofs.Common.{arith, slice_index_or, None}
use Rattle.std.specs.List.{range_with_len}
use Rattle.std.proofs.lemmas.List.{length-map, length-replicate, get_or-replicate}
use Rattle.std.proofs.lemmas.List.FromFn.{get_or-map-range_with_len, length-map-range_with_len}
use Rattle.swap_base.proofs.Lists.{below_or}
use Rattle.swap_run.specs.Asked.{Answers, with_answers}
use Rattle.swap_run.specs.Run.{Cast, State, start}
use Rattle.swap_run.specs.Laws.{IsReadyCast, IsKept}
use Rattle.swap_run.proofs.Good.{start_is_good, good_is_kept}
use Rattle.swap_world.specs.Value.{WorldState, world_cast, answering_cast}
use Rattle.swap_many.specs.declared.place.Place.{Place}
use Rattle.swap_many.specs.Accounts.{ChainState, account_units}
use Rattle.swap_many.specs.Chains.{Setup, opening_units, set_aside, first_free}
use Rattle.swap_many.specs.Many.{many_start}
use Rattle.swap_many.specs.Kept.{kept_start}
use Rattle.swap_many.specs.Laws.{IsReadySetup}
use Rattle.swap_many.specs.Sound.{Keeps}
use Rattle.swap_many.specs.Opened.{overdrawn}
use Rattle.swap_many.specs.Opening.{AreOpenable, setup_of_worlds, new_chain, none_swept, new_many}
use Rattle.swap_many.specs.Ticking.{nth}
use Rattle.swap_many.specs.Value.{ManyState, no_world, no_chain, nth_chain, swept_slots, made_setup, many_kept}
use Rattle.swap_many.specs.Inside.{AreWhole}
use Rattle.swap_many.proofs.Units.{keeps_start}
use Rattle.swap_many.proofs.Opened.{no_lack_is_covered}
use Rattle.swap_many.proofs.Ticked.{past_end, map_at}

-- whatever strategies may answer
ready_for : (c : Cast) (g : Answers) → IsReadyCast c → IsReadyCast (with_answers c g)
ready_for c g k = record { accepted = k.accepted; one_each = k.one_each; roles = k.roles; wallets = k.wallets; scripts = k.scripts }

kept_new : (c : Cast) (t : State) → IsReadyCast c → t ≡ start c → IsKept c t.book
kept_new c t ready e = subst (λ (t : State). IsKept c t.book) (sym e) (good_is_kept c (start c) ready (start_is_good c ready))

module _ (chains : List (List ℕ)) (ws : List WorldState) (places : List (List Place)) (opening_deadline : AreOpenable chains ws places) where
  abbrev m : Setup
  m = setup_of_worlds ws places chains

  abbrev new : ManyState
  new = new_many chains ws places

  inside_chain : (i : ℕ) → i < length chains → nth_chain new i ≡ new_chain m i
  inside_chain i l =
      let z : 0 + i ≡ i = omega arith in get_or-map-range_with_len (new_chain (setup_of_worlds ws places chains)) 0 (length chains) i i no_chain l z

  chain_out : (i : ℕ) → length chains ≤ i → nth_chain new i ≡ no_chain
  chain_out i l =
      let e = length-map-range_with_len (new_chain (setup_of_worlds ws places chains)) 0 (length chains) in
      past_end (map (new_chain (setup_of_worlds ws places chains)) (range_with_len 0 (length chains))) i no_chain (omega (arith, e, l))

  accounts_new : (i : ℕ) → length (nth_chain new i).free ≡ length (slice_index_or chains i [])
  accounts_new i = go (below_or i (length chains))
    where
      go : (i < length chains) ⊎ (length chains ≤ i) → length (nth_chain new i).free ≡ length (slice_index_or chains i [])
      go (inl l) =
          ap (λ (y : ChainState). length y.free) (inside_chain i l)
          ∙ length-map-range_with_len (first_free (setup_of_worlds ws places chains) i) 0 (length (slice_index_or chains i []))
      go (inr l) = ap (λ (y : ChainState). length y.free) (chain_out i l) ∙ sym (ap (λ xs. length xs) (past_end chains i [] l))

  free_new : (i x : ℕ) → account_units (nth_chain new i).free x ≡ first_free m i x
  free_new i x = go (below_or i (length chains)) (below_or x (length (slice_index_or chains i [])))
    where
      none : (o a : ℕ) → o ≡ 0 → 0 ≡ o - a
      none o a e = omega (arith, e)

      go : (i < length chains) ⊎ (length chains ≤ i) → (x < length (slice_index_or chains i [])) ⊎ (length (slice_index_or chains i []) ≤ x)
          → account_units (nth_chain new i).free x ≡ first_free m i x
      go (inl l) (inl k) =
          let z : 0 + x ≡ x = omega arith in
          ap (λ (y : ChainState). account_units y.free x) (inside_chain i l)
          ∙ get_or-map-range_with_len (first_free (setup_of_worlds ws places chains) i) 0 (length (slice_index_or chains i [])) x x 0 k z
      go (inl l) (inr k) =
          let e = accounts_new i in
          past_end (nth_chain new i).free x 0 (omega (arith, e, k))
          ∙ none (opening_units m i x) (set_aside m i x) (past_end (slice_index_or chains i []) x 0 k)
      go (inr l) k =
          ap (λ (y : ChainState). account_units y.free x) (chain_out i l)
          ∙ none (opening_units m i x) (set_aside m i x) (ap (λ (xs : List ℕ). slice_index_or xs x 0) (past_end chains i [] l))

  clock_new : (i : ℕ) → (nth_chain new i).clock ≡ no_chain.clock
  clock_new i = go (below_or i (length chains))
    where
      go : (i < length chains) ⊎ (length chains ≤ i) → (nth_chain new i).clock ≡ no_chain.clock
      go (inl l) = ap (λ (y : ChainState). y.clock) (inside_chain i l)
      go (inr l) = ap (λ (y : ChainState). y.clock) (chain_out i l)

  flags_in : (s : ℕ) → s < length ws → swept_slots new s ≡ none_swept (nth ws s)
  flags_in s l = map_at none_swept ws s no_world [] l

  swept_new : (s a : ℕ) → slice_index_or (swept_slots new s) a false ≡ false
  swept_new s a = go (below_or s (length ws))
    where
      never : (n : ℕ) → (a < n) ⊎ (n ≤ a) → slice_index_or (replicate n false) a false ≡ false
      never n (inl l) = get_or-replicate n a false false l
      never n (inr l) = let e = length-replicate n false in past_end (replicate n false) a false (omega (arith, e, l))

      go : (s < length ws) ⊎ (length ws ≤ s) → slice_index_or (swept_slots new s) a false ≡ false
      go (inl l) =
          ap (λ (xs : List Bool). slice_index_or xs a false) (flags_in s l)
          ∙ never (length (nth ws s).deal.graph.arcs) (below_or a (length (nth ws s).deal.graph.arcs))
      go (inr l) =
          let e = length-map ws none_swept in
          ap (λ (xs : List Bool). slice_index_or xs a false) (past_end (map none_swept ws) s [] (omega (arith, e, l)))

  state_new : (g : ℕ → Answers) (s : ℕ) → (nth ws s).state ≡ start (answering_cast (nth ws s) (g s))
  state_new g s = go (below_or s (length ws))
    where
      go : (s < length ws) ⊎ (length ws ≤ s) → (nth ws s).state ≡ start (answering_cast (nth ws s) (g s))
      go (inl l) = (opening_deadline.new s l).state
      go (inr l) =
          subst (λ (y : WorldState). y.state ≡ start (answering_cast y (g s))) (sym (past_end ws s no_world l)) refl

  pub kept_is : (g : ℕ → Answers) → many_kept new ≡ kept_start (made_setup new g)
  kept_is g = λ j. record {
    swaps = λ s. state_new g s j;
    clocks = λ i. clock_new i j;
    free = λ i x. free_new i x j;
    swept = λ s a. swept_new s a j;
  }

  pub start_keeps : (g : ℕ → Answers) → IsReadySetup (made_setup new g) → Keeps (made_setup new g) (many_start (made_setup new g)) (many_kept new)
  start_keeps g ready = subst (Keeps (made_setup new g) (many_start (made_setup new g))) (sym (kept_is g)) (keeps_start (made_setup new g) ready)

  module _ (none : overdrawn (setup_of_worlds ws places chains) ≡ None) (casts : (s : ℕ) → s < length ws → IsReadyCast (world_cast (nth ws s))) where
    ready_new : (g : ℕ → Answers) → IsReadySetup (made_setup new g)
    ready_new g = record {
      casts = λ s l. ready_for (world_cast (nth ws s)) (g s) (casts s l);
      chain = λ s a l k. (opening_deadline.known s a l k).chain;
      from = λ s a l k. (opening_deadline.known s a l k).from;
      to = λ s a l k. (opening_deadline.known s a l k).to;
      covered = no_lack_is_covered (made_setup new g) (record {
        chain = λ s a l k. (opening_deadline.known s a l k).chain;
        from = λ s a l k. (opening_deadline.known s a l k).from;
      }) none;
    }

    pub new_whole : AreWhole new
    new_whole = record {
      few = opening_deadline.placed.few;
      few_chains = subst (λ n. n ≤ 32) (sym (length-map-range_with_len (new_chain (setup_of_worlds ws places chains)) 0
          (length chains))) opening_deadline.few_chains;
      places = opening_deadline.placed.one_each;
      arcs = opening_deadline.placed.arcs;
      swept = length-map ws none_swept;
      slots =
          λ s l. ap (λ (xs : List Bool). length xs) (flags_in s l) ∙ length-replicate (length (nth ws s).deal.graph.arcs) false;
      chains = length-map-range_with_len (new_chain (setup_of_worlds ws places chains)) 0 (length chains);
      accounts = accounts_new;
      units = opening_deadline.units;
      ready = ready_new;
      on = λ q s l. (opening_deadline.new s l).goes_on;
      sound = λ q g c. (many_start (made_setup new g), start_keeps g (ready_new g));
      kept = λ s l. kept_new (world_cast (nth ws s)) (nth ws s).state (casts s l) (opening_deadline.new s l).state;
    }
