-- One part of many worlds changes: a world, a chain, or the swept slots of a swap; and what stays.
use Rattle.std.proofs.Common.{◌≡◌, ◌≢◌, ◌⊎◌, ℕ, ◌<◌, ◌≤◌, ◌==◌, ◌^◌, Bool, true, false, cond, List, [], length, refl, sym, ap, ap₂}
use Rattle.std.proofs.Common.{◌∙◌, subst, inl, inr, slice_set, slice_index_or, sum_by, None}
use Rattle.std.proofs.lemmas.List.{length-set}
use Rattle.swap_digraph.specs.declared.deal.Deal.{Deal}
use Rattle.swap_rules.proofs.Prefixes.{same_or_not}
use Rattle.swap_run.specs.Asked.{Answers, with_answers}
use Rattle.swap_run.specs.Run.{Cast, State}
use Rattle.swap_run.specs.Laws.{IsKept}
use Rattle.swap_world.specs.Value.{WorldState, world_cast}
use Rattle.swap_world.specs.Gone.{MayGive, HasAsked}
use Rattle.swap_world.specs.Actors.{AreHeld}
use Rattle.swap_world.proofs.Gone.{continues_less, nothing_asked, more_asked}
use Rattle.swap_many.specs.declared.many_event.ManyEvent.{ManyEvent}
use Rattle.swap_many.specs.declared.many_event.ManyEvent.TheVariants.{Tick, In, Pay, Sweep}
use Rattle.swap_many.specs.Accounts.{ChainState, account_units}
use Rattle.swap_many.specs.Chains.{Setup, put, Units, place, arc_chain}
use Rattle.ledger_core.specs.History.{IsLegal}
use Rattle.ledger_core.specs.Book.{history}
use Rattle.swap_many.specs.Many.{Run, done}
use Rattle.swap_many.specs.Kept.{Kept, Time, kept_done}
use Rattle.swap_many.specs.Laws.{IsReadySetup, CanCome, CanSweep}
use Rattle.swap_many.specs.Sound.{Keeps}
use Rattle.swap_many.specs.Stages.{Stage}
use Rattle.swap_many.specs.Value.{ManyState, no_world, no_chain, nth_world, nth_chain, swept_slots, world_setup, made_setup, many_kept, ContinueAll, AreAllHeld}
use Rattle.swap_many.specs.Value.{AreSame, HasManyGone}
use Rattle.swap_many.specs.Inside.{AreWhole}
use Rattle.swap_many.proofs.Projections.{put_same, put_other, put_each}
use Rattle.swap_many.proofs.Accounts.{any_default, set_is_put}
use Rattle.swap_many.proofs.Units.{keeps_step}

-- Functions of a place.

pub put_map : {A B : Type 0} (h : A → B) (f : ℕ → A) (i : ℕ) (x : A) → (λ j. h (put f i x j)) ≡ put (λ j. h (f j)) i (h x)
put_map {A} {B} h f i x = λ k j. go (j == i) j k
  where
    go : (b : Bool) (j : ℕ) → h (cond b x (f j)) ≡ cond b (h x) (h (f j))
    go true j = refl
    go false j = refl

-- what stands in a list is what the list says
pub item_is : {A : Type 0} (xs : List A) (i : ℕ) (d x : A) → i < length xs → x ≡ slice_index_or xs i x → x ≡ slice_index_or xs i d
item_is xs i d x l e = e ∙ any_default xs i x d l

-- What is the same.

module _ (gives : MayGive) where
  pub all_same : (w : ManyState) → AreSame gives w w
  all_same w = record {
    swaps = refl;
    casts = λ s. refl;
    asked = λ s. nothing_asked gives (nth_world w s) (nth_world w s) refl refl;
    places = refl;
    openings = refl;
  }

  pub same_deal : (old new : ManyState) (s : ℕ) → AreSame gives old new → (nth_world new s).deal ≡ (nth_world old s).deal
  same_deal old new s k = ap (λ (c : Cast). c.deal) (k.casts s)

  pub same_then : (old mid new : ManyState) → AreSame gives old mid → AreSame gives mid new → AreSame gives old new
  same_then old mid new a b = record {
    swaps = b.swaps ∙ a.swaps;
    casts = λ s. b.casts s ∙ a.casts s;
    asked = λ s. more_asked gives (nth_world old s) (nth_world mid s) (nth_world new s) (a.asked s) (same_deal old mid s a) (b.asked s);
    places = b.places ∙ a.places;
    openings = b.openings ∙ a.openings;
  }

  pub same_setup : (old new : ManyState) (g : ℕ → Answers) → AreSame gives old new → made_setup new g ≡ made_setup old g
  same_setup old new g k = λ j. record {
    swaps = k.swaps j;
    cast = λ s. with_answers (k.casts s j) (g s);
    places = k.places j;
    chains = k.openings j;
  }

  pub same_setup_of : (old new : ManyState) → AreSame gives old new → world_setup new ≡ world_setup old
  same_setup_of old new k = λ j. record { swaps = k.swaps j; cast = λ s. k.casts s j; places = k.places j; chains = k.openings j }

  -- what continues the answers of later worlds continues those of earlier ones
  pub continue_less : (old new : ManyState) (g : ℕ → Answers) → AreSame gives old new → ContinueAll new g → ContinueAll old g
  continue_less old new g k e s l =
      continues_less gives (nth_world old s) (nth_world new s) (g s) (k.asked s) (e s (subst (λ n. s < n) (sym k.swaps) l))

  pub held_same : (old new : ManyState) (holds : List ℕ → Bool) → AreSame gives old new → AreAllHeld holds old → AreAllHeld holds new
  held_same old new holds k held s l =
      subst (λ (c : Cast). AreHeld holds c.roles) (sym (k.casts s)) (held s (subst (λ n. s < n) k.swaps l))

  -- What stays whole.

  pub whole_next : (old new : ManyState) → AreWhole old → AreSame gives old new → length new.chains ≡ length old.chains
      → ((i : ℕ) → length (nth_chain new i).free ≡ length (nth_chain old i).free) → length new.swept ≡ length old.swept
      → ((s : ℕ) → length (swept_slots new s) ≡ length (swept_slots old s))
      → (new.stopped ≡ false → (s : ℕ) → s < length new.worlds → (nth_world new s).stopped ≡ false)
      → (new.stopped ≡ false → (g : ℕ → Answers) → ContinueAll new g → (r : Run) × Keeps (made_setup new g) r (many_kept new))
      → ((s : ℕ) → s < length new.worlds → IsKept (world_cast (nth_world new s)) (nth_world new s).state.book) → AreWhole new
  whole_next old new w same chains accounts swept slots on sound kept = record {
    few = subst (λ n. n ≤ 8) (sym same.swaps) w.few;
    few_chains = subst (λ n. n ≤ 32) (sym chains) w.few_chains;
    places = ap length same.places ∙ (w.places ∙ sym same.swaps);
    arcs =
        λ s l. ap (λ ps. length (slice_index_or ps s [])) same.places
        ∙ (w.arcs s (subst (λ n. s < n) same.swaps l) ∙ ap (λ (d : Deal). length d.graph.arcs) (sym (same_deal old new s same)));
    swept = swept ∙ (w.swept ∙ sym same.swaps);
    slots =
        λ s l. slots s ∙ (w.slots s (subst (λ n. s < n) same.swaps l) ∙ ap (λ (d : Deal). length d.graph.arcs) (sym (same_deal old new s same)));
    chains = chains ∙ (w.chains ∙ ap length (sym same.openings));
    accounts = λ i. accounts i ∙ (w.accounts i ∙ ap (λ os. length (slice_index_or os i [])) (sym same.openings));
    units = λ i. subst (λ os. sum_by (λ u. u) (slice_index_or os i []) ≤ 10 ^ 18) (sym same.openings) (w.units i);
    ready = λ g. subst IsReadySetup (sym (same_setup old new g same)) (w.ready g);
    on = on;
    sound = sound;
    kept = kept;
  }

  -- where f is a step
  pub sound_step : (old new : ManyState) (fair : Bool) (e : ManyEvent) → AreWhole old → old.stopped ≡ false
      → ((g : ℕ → Answers) → CanCome (made_setup old g) e) → HasManyGone gives (λ m z. kept_done fair m z e) old new
      → (g : ℕ → Answers) → ContinueAll new g → (r : Run) × Keeps (made_setup new g) r (many_kept new)
  sound_step old new fair e w on can k g c =
      let was = w.sound on g (continue_less old new g k.same c) in
      let m = made_setup old g in (
        done fair m was.0 e,
        subst (λ (m : Setup). Keeps m (done fair (made_setup old g) was.0 e) (many_kept new)) (sym (same_setup old new g k.same))
            (subst (Keeps m (done fair m was.0 e)) (sym (k.kept g c)) (keeps_step fair m was.0 (many_kept old) e (w.ready g) (can g) was.1)),
      )

-- what may come doesn't hang on answers
pub can_for : (w : ManyState) (g : ℕ → Answers) (e : ManyEvent) → CanCome (world_setup w) e → CanCome (made_setup w g) e
can_for w g (Tick i k) can = record { chain = can.chain; some = can.some; few = can.few }
can_for w g (In s e) can = record { swap = can.swap; no_tick = can.no_tick; can = can.can }
can_for w g (Pay i from to units) can = record { chain = can.chain; from_known = can.from_known; to_known = can.to_known }
can_for w g (Sweep s a) can = record { swap = can.swap; arc = can.arc }

-- A world changes.

module _ (w : ManyState) (s : ℕ) (x : WorldState) (b : Bool) (low : s < length w.worlds) where
  abbrev pub with_world : ManyState
  with_world = record w { worlds = slice_set w.worlds s x; stopped = b }

  pub worlds_put : (λ t. nth_world (with_world) t) ≡ put (nth_world w) s x
  worlds_put = set_is_put no_world w.worlds s x low

  -- what holds of the new world and of each other one
  pub each_world : (P : ℕ → WorldState → Type 0) → P s x → ((t : ℕ) → t ≢ s → P t (nth_world w t)) → (t : ℕ) → P t (nth_world with_world t)
  each_world P new old t = subst (P t) (sym (ap (λ (f : ℕ → WorldState). f t) worlds_put)) (go (same_or_not t s))
    where
      go : (t ≡ s) ⊎ (t ≢ s) → P t (put (nth_world w) s x t)
      go (inl q) = subst (λ z. P z (put (nth_world w) s x z)) (sym q) (subst (P s) (sym (put_same (nth_world w) s x)) new)
      go (inr n) = subst (P t) (sym (put_other (nth_world w) s x t n)) (old t n)

  pub world_same : (gives : MayGive) → world_cast x ≡ world_cast (nth_world w s) → HasAsked gives (nth_world w s) x → AreSame gives w with_world
  world_same gives c a = record {
    swaps = length-set w.worlds s x;
    casts = each_world (λ t y. world_cast y ≡ world_cast (nth_world w t)) c (λ t n. refl);
    asked = each_world (λ t y. HasAsked gives (nth_world w t) y) a (λ t n. nothing_asked gives (nth_world w t) (nth_world w t) refl refl);
    places = refl;
    openings = refl;
  }

  pub world_kept : many_kept with_world ≡ record (many_kept w) { swaps = put (many_kept w).swaps s x.state }
  world_kept =
      ap (λ (f : ℕ → State). let z : Kept = record (many_kept w) { swaps = f } in z)
      (ap (λ (f : ℕ → WorldState). let h : ℕ → State = λ t. (f t).state in h) worlds_put ∙ put_map (λ (y : WorldState). y.state) (nth_world w) s x)

-- A chain changes.

module _ (w : ManyState) (i : ℕ) (x : ChainState) (low : i < length w.chains) where
  abbrev pub with_chain : ManyState
  with_chain = record w { chains = slice_set w.chains i x }

  pub chains_put : (λ j. nth_chain with_chain j) ≡ put (nth_chain w) i x
  chains_put = set_is_put no_chain w.chains i x low

  pub each_chain : (P : ℕ → ChainState → Type 0) → P i x → ((j : ℕ) → P j (nth_chain w j)) → (j : ℕ) → P j (nth_chain with_chain j)
  each_chain P new old j = subst (P j) (sym (ap (λ (f : ℕ → ChainState). f j) chains_put)) (put_each P (nth_chain w) i x new old j)

  pub chain_kept : many_kept with_chain ≡ record (many_kept w) {
    clocks = put (many_kept w).clocks i x.clock;
    free = put (many_kept w).free i (account_units x.free);
  }
  chain_kept =
      ap₂ (λ (c : ℕ → Time) (f : ℕ → Units). let z : Kept = record (many_kept w) { clocks = c; free = f } in z)
      (ap (λ (f : ℕ → ChainState). let h : ℕ → Time = λ j. (f j).clock in h) chains_put ∙ put_map (λ (y : ChainState). y.clock) (nth_chain w) i x)
      (ap (λ (f : ℕ → ChainState). let h : ℕ → Units = λ j. account_units (f j).free in h) chains_put ∙ put_map (λ (y : ChainState). account_units y.free)
      (nth_chain w) i x)

-- Where an arc stands.

module _ (w : ManyState) (s a : ℕ) (whole : AreWhole w) (can : CanSweep (world_setup w) s a) where
  pub chain_low : arc_chain (world_setup w) s a < length w.chains
  chain_low = subst (λ n. arc_chain (world_setup w) s a < n) (sym whole.chains) ((whole.ready (λ t k. None)).chain s a can.swap can.arc)

  pub from_low : (place (world_setup w) s a).from < length (nth_chain w (arc_chain (world_setup w) s a)).free
  from_low =
      subst (λ n. (place (world_setup w) s a).from < n) (sym (whole.accounts (arc_chain (world_setup w) s a)))
      ((whole.ready (λ t k. None)).from s a can.swap can.arc)

  pub to_low : (place (world_setup w) s a).to < length (nth_chain w (arc_chain (world_setup w) s a)).free
  to_low =
      subst (λ n. (place (world_setup w) s a).to < n) (sym (whole.accounts (arc_chain (world_setup w) s a)))
      ((whole.ready (λ t k. None)).to s a can.swap can.arc)

  pub flag_low : a < length (swept_slots w s)
  flag_low = subst (λ n. a < n) (sym (whole.slots s can.swap)) can.arc

  pub legal_at : IsLegal (nth_world w s).deal a (history (nth_world w s).state.book a)
  legal_at = let k = (whole.kept s can.swap).legal in k.legal a (subst (λ n. a < n) (sym k.one_each) can.arc)

-- with other stages, or after want of memory, all else is the same
pub whole_still : (w : ManyState) (y : List Stage) (stopped : Bool) → (stopped ≡ false → w.stopped ≡ false) → AreWhole w
    → AreWhole (record w { stages = y; stopped = stopped })
whole_still w y stopped before k = record {
  few = k.few;
  few_chains = k.few_chains;
  places = k.places;
  arcs = k.arcs;
  swept = k.swept;
  slots = k.slots;
  chains = k.chains;
  accounts = k.accounts;
  units = k.units;
  ready = k.ready;
  on = λ e. k.on (before e);
  sound = λ e. k.sound (before e);
  kept = k.kept;
}

-- memory ran out, and nothing else changed
pub stopped_whole : (w : ManyState) → AreWhole w → AreWhole (record w { stopped = true })
stopped_whole w k = whole_still w w.stages true (λ e. absurd (cc e)) k
