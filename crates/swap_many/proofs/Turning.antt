-- The parts of a fair finish: looks, acts, turns, ticks, rounds and sweeps.
use Rattle.std.proofs.Common.{◌≡◌, ℕ, suc, zero, ◌+◌, ◌<◌, ◌≤◌, Bool, true, false, cond, List, [], ◌∷◌, length, map, filter, fold}
use Rattle.std.proofs.Common.{refl, sym, ap, ◌∙◌, subst, arith, Option, Some, None, is_some}
use Rattle.std.specs.Prelude.{option_map}
use Rattle.std.specs.List.{All, range_with_len, flat_map}
use Rattle.std.proofs.lemmas.List.Elements.{All-get_or, All-same, All-weaker}
use Rattle.std.proofs.Common.{get_or, max, take}
use Rattle.std.proofs.lemmas.List.{take_all}
use Rattle.std.proofs.lemmas.List.FromFn.{length-range_with_len, get_or-range_with_len}
use Rattle.std.proofs.lemmas.List.Concat.{flat_map-cons}
use Rattle.swap_base.specs.Lists.{greatest}
use Rattle.std.proofs.lemmas.List.Sums.{fold-append}
use Rattle.swap_digraph.specs.declared.deal.Deal.{Deal}
use Rattle.swap_digraph.specs.Graph.{arcs}
use Rattle.swap_base.proofs.Lists.{from_range}
use Rattle.swap_job.specs.Step.{CanLook}
use Rattle.swap_job.specs.declared.event.Event.TheVariants.{Look, Act}
use Rattle.swap_run.specs.Asked.{Answers}
use Rattle.swap_run.specs.Fair.{repeat, adjacent_arcs, most_acts}
use Rattle.swap_run.specs.Run.{Cast, State, conforms, party_role, next_action}
use Rattle.swap_run.specs.Called.{called, by_due, role_call, role_turn, landed_event, apply_step}
use Rattle.swap_run.proofs.Calls.{calls_split}
use Rattle.swap_world.specs.Value.{world_cast, answering_cast, world_answers}
use Rattle.swap_world.specs.Gone.{MayGive}
use Rattle.swap_world.proofs.Finishes.{can_look}
use Rattle.swap_world.specs.On.{is_slot_swept}
use Rattle.swap_many.specs.declared.many_event.ManyEvent.TheVariants.{Tick, In, Sweep}
use Rattle.swap_many.specs.declared.many_reply.ManyReply.{ManyReply}
use Rattle.swap_many.specs.Chains.{Setup, Slot, slots, chain_slots, put}
use Rattle.swap_many.specs.Many.{last_horizon}
use Rattle.swap_many.specs.Kept.{Kept, kept_done, kept_reply, answer_call}
use Rattle.swap_many.specs.Laws.{CanHappen}
use Rattle.swap_many.specs.Way.{Leads}
use Rattle.swap_many.specs.Fair.{kept_look, kept_looks, kept_act, kept_acts, kept_turn, kept_turns, kept_chain_tick, kept_ticks, kept_round}
use Rattle.swap_many.specs.Fair.{kept_round_or_rest, kept_rounds, kept_swap_sweeps, kept_sweeps, have_ended}
use Rattle.swap_many.specs.Value.{ManyState, IsSwapParty, AreReady, nth_world, swept_slots, world_setup, made_setup, many_kept, ContinueAll, HasManyGone}
use Rattle.swap_many.specs.Value.{IsManyStopped}
use Rattle.swap_many.proofs.Projections.{put_still}
use Rattle.swap_many.proofs.Values.{same_setup}
use Rattle.swap_many.proofs.Finish.{slot_known}
use Rattle.swap_many.proofs.Way.{one_step, fold_steps, repeat_steps, act_steps, looks_steps, turn_steps, unless_steps}
use Rattle.swap_many.proofs.Gone.{LeadOn, AllLead, gone_as, gone_then, stopped_as, stopped_then, stopped_after, leads_repeat, repeat_on, repeat_rests}

-- Folds.

pub fold_filter : {A B : Type 0} (p : B → Bool) (f : A → B → A) (x : A) (ys : List B)
    → fold f x (filter p ys) ≡ fold (λ x y. cond (p y) (f x y) x) x ys
fold_filter p f x [] = refl
fold_filter {A} {B} p f x (y ∷ ys) = go (p y) (λ x. fold_filter p f x ys)
  where
    go : (b : Bool) → ((x : A) → fold f x (filter p ys) ≡ fold (λ x y. cond (p y) (f x y) x) x ys)
        → fold f x (cond b (y ∷ filter p ys) (filter p ys)) ≡ fold (λ x y. cond (p y) (f x y) x) (cond b (f x y) x) ys
    go true rest = rest (f x y)
    go false rest = rest x

pub fold_map : {A B C : Type 0} (f : A → C → A) (h : B → C) (x : A) (ys : List B) → fold f x (map h ys) ≡ fold (λ x y. f x (h y)) x ys
fold_map f h x [] = refl
fold_map f h x (y ∷ ys) = fold_map f h (f x (h y)) ys

pub fold_flat : {A B C : Type 0} (f : A → C → A) (h : B → List C) (x : A) (ys : List B)
    → fold f x (flat_map h ys) ≡ fold (λ x y. fold f x (h y)) x ys
fold_flat f h x [] = refl
fold_flat f h x (y ∷ ys) =
    ap (fold f x) (flat_map-cons h y ys) ∙ (fold-append f x (h y) (flat_map h ys) ∙ fold_flat f h (fold f x (h y)) ys)

pub same_fold : {A B : Type 0} (f h : A → B → A) (x : A) (ys : List B) → ((x : A) (y : B) → f x y ≡ h x y) → fold f x ys ≡ fold h x ys
same_fold f h x [] e = refl
same_fold f h x (y ∷ ys) e = ap (λ z. fold f z ys) (e x y) ∙ same_fold f h (h x y) ys e

-- What may come.

near_look : (d : Deal) (p : ℕ) (near : List ℕ) → p < d.graph.n → near ≡ adjacent_arcs d p → All (CanLook d p) near
near_look d p near l e = All-same (CanLook d p) near (adjacent_arcs d p) e (can_look d p l)

-- a look at an arc of the list of those that touch the party
pub may_look : (w : ManyState) (s p k a : ℕ) (near : List ℕ) → IsSwapParty w s p → near ≡ adjacent_arcs (nth_world w s).deal p → k < length near
    → a ≡ get_or near k a → CanHappen (world_setup w) s (Look p a)
may_look w s p k a near party e l is = record {
  swap = party.swap;
  no_tick = refl;
  can =
      subst (CanLook (nth_world w s).deal p) (sym is)
      (All-get_or (CanLook (nth_world w s).deal p) near k a l (near_look (nth_world w s).deal p near party.party e));
}

-- Steps lead on.

module _ (w : ManyState) (ready : AreReady w) where
  pub look_leads : (s p : ℕ) (near : List ℕ) → IsSwapParty w s p → near ≡ adjacent_arcs (nth_world w s).deal p → AllLead w (kept_look s p) near
  look_leads s p near k e =
      All-weaker (CanLook (nth_world w s).deal p) (λ a. LeadOn w (λ m z. kept_look s p m z a)) (λ a can g z.
      one_step (made_setup w g) (ready g) z (record { fair = false; event = In s (Look p a) }) (record { swap = k.swap; no_tick = refl; can = can })) near
      (near_look (nth_world w s).deal p near k.party e)

  pub act_leads : (s p : ℕ) → IsSwapParty w s p → LeadOn w (kept_act s p)
  act_leads s p k g z = act_steps (made_setup w g) (ready g) s p z k.swap k.party

  pub acts_lead : (s p : ℕ) → IsSwapParty w s p → LeadOn w (kept_acts s p)
  acts_lead s p k g z =
      repeat_steps (made_setup w g) (ready g) (most_acts (nth_world w s).deal) (kept_act s p (made_setup w g)) z (λ z. act_leads s p k g z)

  pub looks_lead : (s p : ℕ) → IsSwapParty w s p → LeadOn w (kept_looks s p)
  looks_lead s p k g z = looks_steps (made_setup w g) (ready g) s p z k.swap k.party

  pub turn_leads : (s p : ℕ) → IsSwapParty w s p → LeadOn w (λ m z. kept_turn s m z p)
  turn_leads s p k g z = turn_steps (made_setup w g) (ready g) s p z k.swap k.party

  pub turns_lead : (s : ℕ) → s < length w.worlds → LeadOn w (λ m z. kept_turns m z s)
  turns_lead s l g z =
      fold_steps (made_setup w g) (ready g) (kept_turn s (made_setup w g)) (range_with_len 0 (nth_world w s).deal.graph.n) z
      (λ z v j. turn_leads s v (record { swap = l; party = from_range v (nth_world w s).deal.graph.n j }) g z)

  pub all_turns_lead : LeadOn w (λ m z. fold (kept_turns m) z (range_with_len 0 m.swaps))
  all_turns_lead g z =
      fold_steps (made_setup w g) (ready g) (kept_turns (made_setup w g)) (range_with_len 0 (length w.worlds)) z
      (λ z s j. turns_lead s (from_range s (length w.worlds) j) g z)

  pub tick_leads : (i : ℕ) → i < length w.openings → LeadOn w (λ m z. kept_chain_tick m z i)
  tick_leads i l g z =
      one_step (made_setup w g) (ready g) z (record { fair = false; event = Tick i 1 }) (record { chain = l; some = omega arith; few = omega arith })

  pub ticks_lead : LeadOn w kept_ticks
  ticks_lead g z =
      fold_steps (made_setup w g) (ready g) (kept_chain_tick (made_setup w g)) (range_with_len 0 (length w.openings)) z
      (λ z i j. tick_leads i (from_range i (length w.openings) j) g z)

  pub unless_leads : LeadOn w kept_round_or_rest
  unless_leads g z = unless_steps (made_setup w g) (ready g) z

none_of : {A B : Type 0} (f : A → B) (o : Option A) → None ≡ option_map f o → o ≡ None
none_of f None e = refl
none_of f (Some x) e = absurd (cc e)

module _ (w : ManyState) (s p : ℕ) (c : conforms (world_cast (nth_world w s)) p ≡ true) where
  due_is : (g : Answers) → called (answering_cast (nth_world w s) g) (nth_world w s).state (Act p)
      ≡ by_due p (next_action (world_cast (nth_world w s)) (nth_world w s).state p)
  due_is g =
      ap (λ b. cond b (by_due p (next_action (world_cast (nth_world w s)) (nth_world w s).state p))
      (role_call (answering_cast (nth_world w s) g) (nth_world w s).state p (party_role (world_cast (nth_world w s)) p))) c

  -- where it calls nothing its act changes nothing
  pub idle : (h g : ℕ → Answers) → None ≡ kept_reply false (made_setup w h) (many_kept w) (In s (Act p))
      → kept_act s p (made_setup w g) (many_kept w) ≡ many_kept w
  idle h g e =
      let x = answering_cast (nth_world w s) (g s) in
      let t = (nth_world w s).state in
      let sw = is_slot_swept (swept_slots w s) in
      let none : called x t (Act p) ≡ None =
      due_is (g s) ∙ (sym (due_is (h s)) ∙ none_of (answer_call (made_setup w h) (many_kept w) s) (called (answering_cast (nth_world w s) (h s)) t (Act p)) e) in
      let rests : apply_step sw x t (Act p) ≡ t =
      ap (landed_event sw x t (Act p)) none
      ∙ ((calls_split x t (Act p) refl).alone none ∙ ap (λ b. cond b t (role_turn x t p (party_role x p))) c) in
      ap (λ (y : State). let z : Kept = record (many_kept w) { swaps = put (many_kept w).swaps s y } in z) rests
      ∙ ap (λ (f : ℕ → State). let z : Kept = record (many_kept w) { swaps = f } in z) (put_still (many_kept w).swaps s t refl)

none_if : {A : Type 0} (o : Option A) → is_some o ≡ false → o ≡ None
none_if None e = refl
none_if (Some x) e = absurd (cc e)

-- once an act made no call, more acts change nothing
pub acts_done : (gives : MayGive) (old mid new : ManyState) (s p n k : ℕ) (o : Option ManyReply) → k < n → conforms (world_cast (nth_world mid s)) p ≡ true
    → is_some o ≡ false
    → ((g : ℕ → Answers) → ContinueAll new g → o ≡ kept_reply false (made_setup mid g) (many_kept mid) (In s (Act p)))
    → HasManyGone gives (λ m z. repeat k (kept_act s p m) z) old mid → HasManyGone gives (λ m z. kept_done false m z (In s (Act p))) mid new
    → HasManyGone gives (λ m z. repeat n (kept_act s p m) z) old new
acts_done gives old mid new s p n k o l c none reply so_far act =
    repeat_rests gives (kept_act s p) old new new n (k + 1) (repeat_on gives (kept_act s p) old mid new n k so_far act) (omega (arith, l)) (λ g.
    ap (λ z. kept_act s p (made_setup new g) z) same ∙ (ap (λ m. kept_act s p m (many_kept mid)) (same_setup gives mid new g act.same)
    ∙ (idle mid s p c (λ t. world_answers (nth_world new t)) g nothing ∙ sym same)))
  where
    nothing : None ≡ kept_reply false (made_setup mid (λ t. world_answers (nth_world new t))) (many_kept mid) (In s (Act p))
    nothing = sym (none_if o none) ∙ reply (λ t. world_answers (nth_world new t)) (λ t l i lt. refl)

    same : many_kept new ≡ many_kept mid
    same =
        act.kept (λ t. world_answers (nth_world new t)) (λ t l i lt. refl)
        ∙ idle mid s p c (λ t. world_answers (nth_world new t)) (λ t. world_answers (nth_world new t)) nothing

-- Turns.

-- what follows the looks of a turn
abbrev pub rest_of : ℕ → ℕ → Setup → Kept → Kept
rest_of s p m z = cond (conforms (m.cast s) p) (kept_acts s p m z) (kept_act s p m z)

module _ (gives : MayGive) (w mid new : ManyState) (s p : ℕ) (ready : AreReady w) (k : IsSwapParty w s p) where
  rest_leads : LeadOn w (rest_of s p)
  rest_leads g z = go (conforms (world_cast (nth_world w s)) p)
    where
      go : (b : Bool) → Leads (made_setup w g) z (cond b (kept_acts s p (made_setup w g) z) (kept_act s p (made_setup w g) z))
      go true = acts_lead w ready s p k g z
      go false = act_leads w ready s p k g z

  pub turn_cut : IsManyStopped gives (kept_looks s p) w mid → IsManyStopped gives (λ m z. kept_turn s m z p) w mid
  turn_cut h = stopped_then gives (kept_looks s p) (rest_of s p) w mid ready rest_leads h

  module _ (looked : HasManyGone gives (kept_looks s p) w mid) where
    same_conforms : conforms (world_cast (nth_world w s)) p ≡ conforms (world_cast (nth_world mid s)) p
    same_conforms = ap (λ (c : Cast). conforms c p) (sym (looked.same.casts s))

    rest_is : (b : Bool) → conforms (world_cast (nth_world mid s)) p ≡ b → (g : ℕ → Answers)
        → cond b (kept_acts s p (made_setup w g) (kept_looks s p (made_setup w g) (many_kept w)))
        (kept_act s p (made_setup w g) (kept_looks s p (made_setup w g) (many_kept w)))
        ≡ kept_turn s (made_setup w g) (many_kept w) p
    rest_is b e g =
        sym (ap (λ b. cond b (kept_acts s p (made_setup w g) (kept_looks s p (made_setup w g) (many_kept w)))
        (kept_act s p (made_setup w g) (kept_looks s p (made_setup w g) (many_kept w)))) (same_conforms ∙ e))

    pub turn_acts : conforms (world_cast (nth_world mid s)) p ≡ true → HasManyGone gives (kept_acts s p) mid new
        → HasManyGone gives (λ m z. kept_turn s m z p) w new
    turn_acts e h =
        gone_as gives (λ m z. kept_acts s p m (kept_looks s p m z)) (λ m z. kept_turn s m z p) w new (rest_is true e)
        (gone_then gives (kept_looks s p) (kept_acts s p) w mid new looked h)

    pub turn_acts_stop : conforms (world_cast (nth_world mid s)) p ≡ true → IsManyStopped gives (kept_acts s p) mid new
        → IsManyStopped gives (λ m z. kept_turn s m z p) w new
    turn_acts_stop e h =
        stopped_as gives (λ m z. kept_acts s p m (kept_looks s p m z)) (λ m z. kept_turn s m z p) w new (rest_is true e)
        (stopped_after gives (kept_looks s p) (kept_acts s p) w mid new ready (looks_lead w ready s p k) looked h)

    pub turn_act : conforms (world_cast (nth_world mid s)) p ≡ false → HasManyGone gives (λ m z. kept_done false m z (In s (Act p))) mid new
        → HasManyGone gives (λ m z. kept_turn s m z p) w new
    turn_act e h =
        gone_as gives (λ m z. kept_act s p m (kept_looks s p m z)) (λ m z. kept_turn s m z p) w new (rest_is false e)
        (gone_then gives (kept_looks s p) (kept_act s p) w mid new looked h)

    pub turn_act_stop : conforms (world_cast (nth_world mid s)) p ≡ false → IsManyStopped gives (λ m z. kept_done false m z (In s (Act p))) mid new
        → IsManyStopped gives (λ m z. kept_turn s m z p) w new
    turn_act_stop e h =
        stopped_as gives (λ m z. kept_act s p m (kept_looks s p m z)) (λ m z. kept_turn s m z p) w new (rest_is false e)
        (stopped_after gives (kept_looks s p) (kept_act s p) w mid new ready (looks_lead w ready s p k) looked h)

-- A round: every swap's turns, and then the ticks.

abbrev pub all_turns : Setup → Kept → Kept
all_turns m z = fold (kept_turns m) z (range_with_len 0 m.swaps)

pub round_cut : (gives : MayGive) (old new : ManyState) → AreReady old → IsManyStopped gives all_turns old new → IsManyStopped gives kept_round old new
round_cut gives old new ready k =
    stopped_as gives (λ m z. kept_ticks m (all_turns m z)) kept_round old new (λ a. refl)
    (stopped_then gives all_turns kept_ticks old new ready (ticks_lead old ready) k)

module _ (gives : MayGive) (old mid new : ManyState) (turned : HasManyGone gives all_turns old mid) where
  pub round_ends : HasManyGone gives kept_ticks mid new → HasManyGone gives kept_round old new
  round_ends k =
      gone_as gives (λ m z. kept_ticks m (all_turns m z)) kept_round old new (λ a. refl) (gone_then gives all_turns kept_ticks old mid new turned k)

  pub round_stops : AreReady old → IsManyStopped gives kept_ticks mid new → IsManyStopped gives kept_round old new
  round_stops ready k =
      stopped_as gives (λ m z. kept_ticks m (all_turns m z)) kept_round old new (λ a. refl)
      (stopped_after gives all_turns kept_ticks old mid new ready (all_turns_lead old ready) turned k)

pub rounds_lead : (w : ManyState) → AreReady w → LeadOn w kept_rounds
rounds_lead w ready = leads_repeat w ready kept_round_or_rest (unless_leads w ready) (last_horizon (world_setup w) + 1)

-- Sweeps.

pub sweeps_are : (m : Setup) (z : Kept) → fold (kept_swap_sweeps m) z (range_with_len 0 m.swaps) ≡ kept_sweeps m z
sweeps_are m z =
    sym (fold_flat (λ z t. kept_done true m z (Sweep t.swap t.arc)) (chain_slots m) z (range_with_len 0 m.swaps)
    ∙ same_fold (λ z s. fold (λ z t. kept_done true m z (Sweep t.swap t.arc)) z (chain_slots m s)) (kept_swap_sweeps m) z (range_with_len 0 m.swaps)
    (λ z s. fold_map (λ z t. kept_done true m z (Sweep t.swap t.arc)) (λ a. (let t : Slot = record { swap = s; arc = a } in t)) z
    (arcs (m.cast s).deal.graph)))

pub sweeps_lead : (w : ManyState) → AreReady w → LeadOn w kept_sweeps
sweeps_lead w ready g z =
    fold_steps (made_setup w g) (ready g) (λ z t. kept_done true (made_setup w g) z (Sweep t.swap t.arc)) (slots (made_setup w g)) z (λ z t i.
    let l = slot_known (made_setup w g) (ready g) t i in
    one_step (made_setup w g) (ready g) z (record { fair = true; event = Sweep t.swap t.arc }) (record { swap = l.0; arc = l.1 }))

-- Rounds.

-- where every chain is above every horizon, a round is a rest, and else it is a round
pub rests : (w : ManyState) (g : ℕ → Answers) → have_ended (world_setup w) (many_kept w) ≡ true
    → kept_round_or_rest (made_setup w g) (many_kept w) ≡ many_kept w
rests w g e = ap (λ b. cond b (many_kept w) (kept_round (made_setup w g) (many_kept w))) e

pub is_round : (w : ManyState) (g : ℕ → Answers) → have_ended (world_setup w) (many_kept w) ≡ false
    → kept_round (made_setup w g) (many_kept w) ≡ kept_round_or_rest (made_setup w g) (many_kept w)
is_round w g e = sym (ap (λ b. cond b (many_kept w) (kept_round (made_setup w g) (many_kept w))) e)

-- The greatest horizon, swap by swap.

greatest_next : {A : Type 0} (f : A → ℕ) (xs : List A) (k : ℕ) (d : A) → k < length xs
    → greatest f (take (suc k) xs) ≡ max (greatest f (take k xs)) (f (get_or xs k d))
greatest_next f [] k d l = absurd (omega arith)
greatest_next f (x ∷ xs) zero d l = omega arith
greatest_next f (x ∷ xs) (suc k) d l =
    let e = greatest_next f xs k d (omega arith) in
    ap (max (f x)) e ∙ join (f x) (greatest f (take k xs)) (f (get_or xs k d))
  where
    join : (a b c : ℕ) → max a (max b c) ≡ max (max a b) c
    join a b c = omega arith

pub greatest_more : (f : ℕ → ℕ) (n k : ℕ) → k < n → greatest f (take (k + 1) (range_with_len 0 n)) ≡ max (greatest f (take k (range_with_len 0 n))) (f k)
greatest_more f n k l =
    let e : k + 1 ≡ suc k = omega arith in
    let m = length-range_with_len 0 n in
    let z : 0 + k ≡ k = omega arith in
    ap (λ j. greatest f (take j (range_with_len 0 n))) e
    ∙ (greatest_next f (range_with_len 0 n) k 0 (omega (arith, m, l))
    ∙ ap (λ j. max (greatest f (take k (range_with_len 0 n))) (f j)) (get_or-range_with_len 0 n k 0 l ∙ z))

pub greatest_all : (f : ℕ → ℕ) (n k : ℕ) → n ≤ k → greatest f (take k (range_with_len 0 n)) ≡ greatest f (range_with_len 0 n)
greatest_all f n k l = let m = length-range_with_len 0 n in ap (greatest f) (take_all k (range_with_len 0 n) (omega (arith, m, l)))
