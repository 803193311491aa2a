-- Histories on the way to a state: by a step, in a loop over a list, and in a loop that repeats.
use Rattle.std.proofs.Common.{◌≡◌, ◌≢◌, ◌⊎◌, inl, inr, Result, Ok, Err, OnOk, OnErr, ℕ, suc, zero, ◌+◌, ◌-◌, ◌<◌, ◌≤◌, nat_le, Bool, true, false, cond}
use Rattle.std.proofs.Common.{List, [], ◌∷◌, ◌++◌, length, map, replicate, get_or, take, fold, refl, sym, ap, ◌∙◌, subst, arith}
use Rattle.std.specs.List.{range_with_len, list_all, flat_map, All}
use Rattle.std.proofs.lemmas.List.Folds.{list_all_at, list_all_more}
use Rattle.swap_base.proofs.Lists.{and_both}
use Rattle.std.proofs.lemmas.List.{replicate-append-replicate, take_all}
use Rattle.std.proofs.lemmas.List.FromFn.{length-range_with_len, get_or-range_with_len}
use Rattle.std.proofs.lemmas.List.Sums.{fold_more}
use Rattle.std.proofs.lemmas.List.Elements.{All-from_get_or}
use Rattle.ledger_core.specs.History.{height}
use Rattle.ledger_core.specs.Book.{Histories, history}
use Rattle.swap_job.specs.declared.event.Event.{Event}
use Rattle.swap_job.specs.declared.event.Event.TheVariants.{Tick, Look, Act}
use Rattle.swap_run.specs.Run.{Cast, State, continued_run, step}
use Rattle.swap_run.specs.Fair.{repeat, acts, the_horizon, tick_low, ticks, turn}
use Rattle.swap_run.specs.Steps.{after_low, low_step, low_steps, pass_steps, tick_steps, turn_steps, IsIntermediateBook}
use Rattle.swap_run.proofs.Along.{along_more, along_after, acts_run, pass_run}
use Rattle.swap_rules.proofs.Prefixes.{same_or_not}
use Rattle.swap_world.specs.Value.{WorldState}

-- Lists and numbers.

pub range_all : (P : ℕ → Type 0) (m : ℕ) → ((i : ℕ) → i < m → P i) → All P (range_with_len 0 m)
range_all P m h = All-from_get_or P (range_with_len 0 m) 0 (λ i lt.
    let n = length-range_with_len 0 m in
    let l : i < m = omega (arith, n, lt) in
    let z : 0 + i ≡ i = omega arith in
    subst P (sym (get_or-range_with_len 0 m i 0 l ∙ z)) (h i l))

pub range_more : {A : Type 0} (f : A → ℕ → A) (s : A) (m k : ℕ) → k < m
    → fold f s (take (k + 1) (range_with_len 0 m)) ≡ f (fold f s (take k (range_with_len 0 m))) k
range_more {A = A} f s m k l =
    let n = length-range_with_len 0 m in
    let z : 0 + k ≡ k = omega arith in
    fold_more f s (range_with_len 0 m) k 0 (omega (arith, n, l))
    ∙ ap (λ (i : ℕ). f (fold f s (take k (range_with_len 0 m))) i) (get_or-range_with_len 0 m k 0 l ∙ z)

pub range_whole : {A : Type 0} (f : A → ℕ → A) (s : A) (m k : ℕ) → m ≤ k → fold f s (take k (range_with_len 0 m)) ≡ fold f s (range_with_len 0 m)
range_whole {A = A} f s m k le = let n = length-range_with_len 0 m in ap (λ (xs : List ℕ). fold f s xs) (take_all k (range_with_len 0 m) (omega (arith, n, le)))

-- one of the first m numbers fails the test
pub range_fails : (p : ℕ → Bool) (m k : ℕ) → k < m → p k ≡ false → list_all p (range_with_len 0 m) ≡ false
range_fails p m k l h =
    let n = length-range_with_len 0 m in
    let z : 0 + k ≡ k = omega arith in
    list_all_at p (range_with_len 0 m) k 0 (omega (arith, n, l)) (ap p (get_or-range_with_len 0 m k 0 l ∙ z) ∙ h)

-- the first k pass it, and the next one too
pub range_holds_more : (p : ℕ → Bool) (m k : ℕ) → k < m → list_all p (take k (range_with_len 0 m)) ≡ true → p k ≡ true
    → list_all p (take (k + 1) (range_with_len 0 m)) ≡ true
range_holds_more p m k l so_far h =
    let n = length-range_with_len 0 m in
    let z : 0 + k ≡ k = omega arith in
    list_all_more p (range_with_len 0 m) k 0 (omega (arith, n, l)) ∙ and_both _ _ so_far (ap p (get_or-range_with_len 0 m k 0 l ∙ z) ∙ h)

pub range_holds : (p : ℕ → Bool) (m k : ℕ) → m ≤ k → list_all p (take k (range_with_len 0 m)) ≡ true → list_all p (range_with_len 0 m) ≡ true
range_holds p m k le so_far = let n = length-range_with_len 0 m in sym (ap (list_all p) (take_all k (range_with_len 0 m) (omega (arith, n, le)))) ∙ so_far

pub repeat_split : {A : Type 0} (j k : ℕ) (f : A → A) (x : A) → repeat (j + k) f x ≡ repeat j f (repeat k f x)
repeat_split zero k f x = let z : 0 + k ≡ k = omega arith in ap (λ i. repeat i f x) z
repeat_split (suc j) k f x = let z : suc j + k ≡ suc (j + k) = omega arith in ap (λ i. repeat i f x) z ∙ ap f (repeat_split j k f x)

-- Ways.

-- the steps over a list, each from where those before it lead
abbrev pub over : {B : Type 0} → (State → B → State) → (State → B → List Event) → State → List B → List Event
over f e s [] = []
over f e s (x ∷ xs) = e s x ++ over f e (f s x) xs

module _ (c : Cast) {B : Type 0} (f : State → B → State) (e : State → B → List Event) (runs : (s : State) (x : B) → continued_run c s (e s x) ≡ f s x) where
  -- what is on the way of one of them is on the way of all
  pub along_over : (xs : List B) (k : ℕ) (x : B) (s : State) (b : Histories) → k < length xs → x ≡ get_or xs k x
      → IsIntermediateBook c (fold f s (take k xs)) (e (fold f s (take k xs)) x) b → IsIntermediateBook c s (over f e s xs) b
  along_over [] k x s b l is w = absurd (omega (arith, l))
  along_over (y ∷ xs) zero x s b l is w =
      along_more c s (e s y) (over f e (f s y) xs) b (subst (λ (z : B). IsIntermediateBook c s (e s z) b) is w)
  along_over (y ∷ xs) (suc k) x s b l is w =
      along_after c s (e s y) (over f e (f s y) xs) b (subst (λ (t : State). IsIntermediateBook c t (over f e (f s y) xs) b) (sym (runs s y))
      (along_over xs k x (f s y) b (omega (arith, l)) is w))

module _ (c : Cast) where
  pub over_events : (xs : List Event) (s : State) → over (step c) (λ t x. x ∷ []) s xs ≡ xs
  over_events [] s = refl
  over_events (x ∷ xs) s = ap (λ (ys : List Event). x ∷ ys) (over_events xs (step c s x))

  pub over_looks : (v : ℕ) (xs : List ℕ) (s : State) → over (λ t a. step c t (Look v a)) (λ t a. Look v a ∷ []) s xs ≡ map (λ a. Look v a) xs
  over_looks v [] s = refl
  over_looks v (a ∷ xs) s = ap (λ (ys : List Event). Look v a ∷ ys) (over_looks v xs (step c s (Look v a)))

  pub over_turns : (xs : List ℕ) (s : State) → over (turn c) (λ t v. turn_steps c v) s xs ≡ flat_map (turn_steps c) xs
  over_turns [] s = refl
  over_turns (v ∷ xs) s = ap (λ (ys : List Event). turn_steps c v ++ ys) (over_turns xs (turn c s v))

  low_book : (s : State) (a : ℕ) → (tick_low c s a).book ≡ after_low c.deal s.book a
  low_book s a = go (nat_le (height (history s.book a)) (the_horizon c.deal))
    where
      go : (y : Bool) → (cond y (step c s (Tick a 1)) s).book ≡ cond y (step c s (Tick a 1)).book s.book
      go true = refl
      go false = refl

  pub low_run : (s : State) (a : ℕ) → continued_run c s (low_step c.deal s.book a) ≡ tick_low c s a
  low_run s a = go (nat_le (height (history s.book a)) (the_horizon c.deal))
    where
      go : (y : Bool) → continued_run c s (cond y (Tick a 1 ∷ []) []) ≡ cond y (step c s (Tick a 1)) s
      go true = refl
      go false = refl

  pub over_ticks : (js : List ℕ) (s : State) → over (tick_low c) (λ t a. low_step c.deal t.book a) s js ≡ low_steps c.deal s.book js
  over_ticks [] s = refl
  over_ticks (a ∷ js) s =
      ap (λ (ys : List Event). low_step c.deal s.book a ++ ys) (over_ticks js (tick_low c s a)
      ∙ ap (λ (b : Histories). low_steps c.deal b js) (low_book s a))

  -- on the way of act k of m acts
  pub along_acts : (m k v : ℕ) (s : State) (b : Histories) → k < m → IsIntermediateBook c (acts c v k s) (Act v ∷ []) b → IsIntermediateBook c s (replicate m (Act v)) b
  along_acts m k v s b l w =
      let e : k + (1 + (m - (k + 1))) ≡ m = omega (arith, l) in
      let rest = replicate (m - (k + 1)) (Act v) in
      subst (λ (es : List Event). IsIntermediateBook c s es b)
      (ap (λ (es : List Event). replicate k (Act v) ++ es) (replicate-append-replicate 1 (m - (k + 1)) (Act v))
      ∙ replicate-append-replicate k (1 + (m - (k + 1))) (Act v) ∙ ap (λ i. replicate i (Act v)) e)
      (along_after c s (replicate k (Act v)) (replicate 1 (Act v) ++ rest) b
      (subst (λ (t : State). IsIntermediateBook c t (replicate 1 (Act v) ++ rest) b) (sym (acts_run c k v s))
      (along_more c (acts c v k s) (replicate 1 (Act v)) rest b w)))

  -- on the way of the ticks of round k of m rounds
  pub along_pass : (m k : ℕ) (s : State) (b : Histories) → k < m → IsIntermediateBook c (repeat k (ticks c) s) (tick_steps c.deal (repeat k (ticks c) s).book) b
      → IsIntermediateBook c s (pass_steps m c s) b
  along_pass zero k s b l w = absurd (omega (arith, l))
  along_pass (suc m) k s b l w = go (same_or_not k m) (λ lt. along_pass m k s b lt w)
    where
      last : List Event
      last = tick_steps c.deal (repeat m (ticks c) s).book

      go : (k ≡ m) ⊎ (k ≢ m) → (k < m → IsIntermediateBook c s (pass_steps m c s) b) → IsIntermediateBook c s (pass_steps (suc m) c s) b
      go (inl e) rest =
          along_after c s (pass_steps m c s) last b (subst (λ (t : State). IsIntermediateBook c t last b) (sym (pass_run c m s))
          (subst (λ i. IsIntermediateBook c (repeat i (ticks c) s) (tick_steps c.deal (repeat i (ticks c) s).book) b) e w))
      go (inr apart) rest = let q : ◌≢◌ {A = ℕ} k m = apart in along_more c s (pass_steps m c s) last b (rest (omega (arith, l, q)))

-- Worlds.

-- the world with another state
abbrev pub at : WorldState → State → WorldState
at w st = record { deal = w.deal; conforming = w.conforming; seeds = w.seeds; roles = w.roles; answers = w.answers; state = st; stopped = w.stopped }

pub if_ok : {A E : Type 0} {P : Type 0} (r : Result A E) → P → OnOk r P
if_ok (Ok x) p = p
if_ok (Err e) p = tt

pub if_err : {A E : Type 0} {P : Type 0} (r : Result A E) → P → OnErr r P
if_err (Ok x) p = tt
if_err (Err e) p = p
