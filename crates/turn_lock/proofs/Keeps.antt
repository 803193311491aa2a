-- Each step keeps the rule.
use Rattle.std.proofs.Common.{◌≡◌, ◌≢◌, ℕ, zero, suc, ◌+◌, ◌*◌, ◌/◌, ◌%◌, ◌<◌, ◌^◌, ◌==◌, ◌||◌, eqb, Bool, true, false, true≢false, IsTrue, List, [], ◌∷◌, ◌++◌}
use Rattle.std.proofs.Common.{length, get_or, set, Option, Some, None, refl, sym, ap, ◌∙◌, subst, ⊎_elim, arith, ne_eqb, eq-eqb, bit_or, w64}
use Rattle.std.specs.Int.{bit_at}
use Rattle.std.specs.List.{AllByRecursion}
use Rattle.std.proofs.lemmas.Nat.Bits.{bit_at_set_same, bit_at_set_other, bit_at-zero, same_from_bits}
use Rattle.std.proofs.Math.Nat.{mod-lt}
use mathlib.Core.Option as core
use mathlib.Core.Logic.{dite}
use native.Mathlib.Decide.{ℕ_discrete}
use lib.ListN.{get_elem?}
use lib.Seq.{set-get_or}
use prog.Atomic.{either}
use Rattle.atomic_table.specs.Table.{State, Act, keeps, takes, gives, step, stepped, opening, Valid, carried_after, Allows, Splits, Joins, Final, Seen}
use Rattle.atomic_table.proofs.Lists.{at_set, set_again, set_here, set_else, at_longer, at_snoc, exchanged}
use Rattle.atomic_table.specs.Seated.{TableId}
use Rattle.atomic_table.specs.declared.shared.Seat.{Seat}
use Rattle.turn_lock.specs.declared.view.View.{View}
use Rattle.turn_lock.specs.SeatHistory.{author_entries, IsContinuedByAuthor, HaveAuthorsBelow, IsOnceEach, Part, has_number, first_part_history, Covers}
use Rattle.turn_lock.specs.Turns.{Phase, early, home, out, mark, turn_word, phase_slot, fresh, spent, resting, turning, joined_opening, joined_view, IsOwn, Knows, Stands, IsKept, Sat}
use Rattle.turn_lock.specs.Turns.{idle, Claims, ClaimsFirst, Takes, Asks, Gives, AreNumberedSeats}
use Rattle.turn_lock.proofs.Histories.{prefix_self, prefix_trans, all_map, all_append, others_stay, none_above}

off : false ≡ true → ⊥
off e = true≢false (sym e)

pub chosen : (n k : ℕ) (a b : ℕ) (F : ℕ → Type 0) → (n ≡ k → F a) → (n ≢ k → F b) → F (either (eqb n k) a b)
chosen n k a b F hit miss = dite (ℕ_discrete n k) (λ e. subst (λ t. F (either t a b)) (sym (eq-eqb n k e)) (hit e)) (λ ne. subst (λ t. F (either t a b))
    (sym (ne_eqb n k ne)) (miss ne))

home_out : {T : Type 0} (x : T) (j : ℕ) → home x ≡ out j → ⊥
home_out x j e = cc

out_out : {T : Type 0} (i j : ℕ) → (let a : Phase T = out i in a ≡ out j) → i ≡ j
out_out i j e = cc

one_or_none : (let n : ℕ = 1 in n ≡ 0) → ⊥
one_or_none e = omega arith

value_of : {T : Type 0} → T → List (ℕ × Option T) → T
value_of d ((n, Some x) ∷ xs) = x
value_of d _ = d

same_value : {T : Type 0} (x y : T) → (let a : List (ℕ × Option T) = (0, Some x) ∷ [] in a ≡ (0, Some y) ∷ []) → x ≡ y
unfolding value_of
same_value x y e = ap (value_of x) e

early_out : {T : Type 0} (j : ℕ) → (let a : Phase T = early in a ≡ out j) → ⊥
early_out j e = cc

holder_apart : {E : Type 0} (views : List (View E)) (id j : ℕ) (f v : View E) → get_elem? views id ≡ core.some f → f.holds ≡ false
    → get_elem? views j ≡ core.some v → v.holds ≡ true → j ≢ id
holder_apart views id j f v at idle there holds e =
    true≢false (sym holds ∙ (ap (λ (w : View _). w.holds) (core.some-injective _ _ (sym there ∙ (ap (get_elem? views) e ∙ at))) ∙ idle))

-- a mask of one bit says which
mask_of : (j k mask : ℕ) → j < 64 → k < 64 → mask ≡ 1 * 2 ^ j % 2 ^ 64 → mask ≡ 1 * 2 ^ k % 2 ^ 64 → j ≡ k
mask_of j k mask fits small a b = dite (ℕ_discrete j k) (λ e. e) (λ ne. absurd (one_or_none (sym (bit_at_set_same w64 0 j fits)
    ∙ (ap (λ m. bit_at (bit_or 0 m) j) (sym a ∙ b) ∙ (bit_at_set_other w64 0 k small j ne ∙ bit_at-zero j)))))

set_already : (n mask k : ℕ) → k < 64 → mask ≡ 1 * 2 ^ k % 2 ^ 64 → bit_at n k ≢ 0 → bit_or n mask ≡ n
set_already n mask k small is taken = same_from_bits (bit_or n mask) n (λ i. ap (λ m. bit_at (bit_or n m) i) is ∙ dite (ℕ_discrete i k)
    (λ (e : i ≡ k). ap (λ j. bit_at (bit_or n (1 * 2 ^ k % 2 ^ 64)) j) e ∙ (bit_at_set_same w64 n k small ∙ sym (ap (λ j. bit_at n j) e ∙ one)))
    (λ ne. bit_at_set_other w64 n k small i ne))
  where
    one : bit_at n k ≡ 1
    one = let b : ℕ = bit_at n k in let below : b < 2 = mod-lt (n / 2 ^ k) (omega arith) in let some : b ≢ 0 = taken in let is : b ≡ 1 = omega arith in is

-- Numbers of a view.

some_part : {E : Type 0} (p : Part E) (ps : List (Part E)) → p ∷ ps ≢ []
some_part p ps e = cc

none_of_two : (a b : Bool) → (a || b) ≡ false → (a ≡ false) × (b ≡ false)
none_of_two false b e = (refl, e)
none_of_two true b e = absurd (off (sym e))

in_neither : {E : Type 0} (k : ℕ) (ps qs : List (Part E)) → has_number k ps ≡ false → has_number k qs ≡ false → has_number k (ps ++ qs) ≡ false
in_neither k [] qs a b = b
in_neither k (p ∷ ps) qs a b =
    let t = none_of_two (p.0 == k) (has_number k ps) a in
    ap (λ c. c || has_number k (ps ++ qs)) t.0 ∙ in_neither k ps qs t.1 b

-- of two views that keep one opening, the view of both keeps it
keep_opening : {E : Type 0} (start o p : List E) (ps qs : List (Part E)) → (ps ≢ [] → o ≡ start) → (qs ≢ [] → p ≡ start) → ps ++ qs ≢ []
    → joined_opening ps o p ≡ start
keep_opening start o p [] qs first second some = second some
keep_opening start o p (x ∷ xs) qs first second some = first (some_part x xs)

pub place_inside : {A : Type 0} (xs : List A) (i : ℕ) (a : A) → get_elem? xs i ≡ core.some a → i < length xs
place_inside [] i a e = absurd (core.some-ne-none a (sym e))
place_inside (x ∷ xs) zero a e = omega arith
place_inside (x ∷ xs) (suc i) a e = let below = place_inside xs i a e in omega arith

module _ {T E : Type 0} (history : T → List E) (author : E → ℕ) (start : List E) (seats : ℕ) where
  abbrev St : Type 0
  St = State (Option T) (View E)

  abbrev Rule : St → Type 0
  Rule = IsKept history author start seats

  abbrev Own : (ℕ → ℕ) → List E → ℕ → ℕ → Part E → Type 0
  Own = IsOwn history author start seats

  abbrev Sees : (ℕ → ℕ) → Phase T → List E → ℕ → ℕ → View E → Type 0
  Sees = Knows history author start seats

  word_0 : (s : St) (r : Rule s) → get_or s.words 0 0 ≡ turn_word r.phase r.waited (length r.current)
  word_0 s r = ap (λ ws. get_or ws 0 0) r.words

  word_1 : (s : St) (r : Rule s) → get_or s.words 1 0 ≡ r.claimed
  word_1 s r = ap (λ ws. get_or ws 1 0) r.words

  -- one view is set
  views_set : (F : ℕ → View E → Type 0) (vs : List (View E)) (id : ℕ) (w : View E) → F id w → ((j : ℕ) (v : View E) → j ≢ id → get_elem? vs j ≡ core.some v
      → F j v)
      → (j : ℕ) (v : View E) → get_elem? (set vs id w) j ≡ core.some v → F j v
  views_set F vs id w mine others j v e = ⊎_elim (λ (t : (j ≡ id) × (w ≡ v)). subst (λ (x : ℕ × View E). F x.0 x.1) (λ i. (sym t.0 i, t.1 i)) mine)
      (λ (t : (j ≢ id) × (get_elem? vs j ≡ core.some v)). others j v t.0 t.1) (at_set vs id j w v e)

  -- a step that changes nothing
  unmoved : (s : St) → Rule s → (i id : ℕ) (cs : List (ℕ × Option T)) (v : View E) → get_elem? s.views id ≡ core.some v
      → Rule (stepped s i (get_or s.words i 0) id cs v keeps)
  unmoved s r i id cs v at = subst (λ (t : List ℕ × List (View E)). Rule record {
    words = t.0;
    homes = s.homes;
    views =
        t.1;
  }) (λ k. (sym (set-get_or s.words i 0) k, sym (set_again s.views id v at) k)) r

  pub begins : (words : List ℕ) → words ≡ (4 * length start + 1) ∷ 0 ∷ [] → HaveAuthorsBelow author seats start → Rule (opening words (None ∷ []) (fresh start))
  begins words ws below = record {
    phase = early;
    current = start;
    claimed = 0;
    owner = λ n. 0;
    waited = false;
    words = ws;
    homes = refl;
    stands = (refl, bit_at-zero 0);
    started = prefix_self start;
    unclaimed = λ k e. refl;
    authors = λ k le. none_above author seats k le start below;
    views = one;
  }
    where
      one : (id : ℕ) (v : View E) → get_elem? (fresh start ∷ []) id ≡ core.some v → Sees (λ n. 0) early start 0 id v
      one zero v e = subst (Sees (λ n. 0) early start 0 0) (core.some-injective _ _ e)
          (record { turn = λ h. absurd (off h); own = tt; once = tt; opened = λ _. refl })
      one (suc id) v e = absurd (core.some-ne-none v (sym e))

  stays_out : (current : List E) (claimed : ℕ) (views views' : List (View E)) (phase : Phase T) → ((j : ℕ) (v : View E) → v.holds ≡ true
      → get_elem? views j ≡ core.some v → get_elem? views' j ≡ core.some v)
      → Stands history author start seats current claimed views phase → Stands history author start seats current claimed views' phase
  stays_out current claimed views views' early f h = h
  stays_out current claimed views views' (home x) f h = h
  stays_out current claimed views views' (out j) f h = ((h.0.0, f j h.0.0 h.0.2 h.0.1, h.0.2), h.1)

  pub splits : (id : ℕ) → Splits Rule id (fresh start) (fresh start) (fresh start)
  splits id s r at = let f : View E = fresh start in let same : set s.views id f ≡ s.views = set_again s.views id f at in
      let all : Rule record { words = s.words; homes = s.homes; views = s.views ++ f ∷ [] } = record {
        phase = r.phase;
        current = r.current;
        claimed = r.claimed;
        owner = r.owner;
        waited = r.waited;
        words = r.words;
        homes = r.homes;
        stands = stays_out r.current r.claimed s.views (s.views ++ f ∷ []) r.phase (λ j v _ e. at_longer s.views (f ∷ []) j v e) r.stands;
        started = r.started;
        unclaimed = r.unclaimed;
        authors = r.authors;
        views = λ j v e. ⊎_elim (r.views j v) (λ (t : f ≡ v). subst (Sees r.owner r.phase r.current r.claimed j) t (record {
          turn = λ h. absurd (off h);
          own = tt;
          once = tt;
          opened = λ _. refl;
        })) (at_snoc s.views f v j e);
      } in
      subst (λ (vs : List (View E)). Rule record { words = s.words; homes = s.homes; views = vs ++ f ∷ [] }) (sym same) all

  -- the word of a turn that is out, with which the word of that a seat waits for it
  asked : (p : Phase T) (w : Bool) (c word next : ℕ) → turn_word p w c ≡ word → word % 4 ≡ 1 → next ≡ word + 2 → next ≡ turn_word p true c
  asked early false c word next is odd more = omega arith
  asked early true c word next is odd more = absurd (omega arith)
  asked (home x) w c word next is odd more = absurd (omega arith)
  asked (out j) false c word next is odd more = omega arith
  asked (out j) true c word next is odd more = absurd (omega arith)

  waited_for : (s : St) (r : Rule s) (word next : ℕ) → word % 4 ≡ 1 → next ≡ word + 2 → get_or s.words 0 0 ≡ word
      → Rule record { words = set s.words 0 next; homes = s.homes; views = s.views }
  waited_for s r word next odd more found = record {
    phase = r.phase;
    current = r.current;
    claimed = r.claimed;
    owner = r.owner;
    waited = true;
    words = ap (λ ws. set ws 0 next) r.words ∙ ap (λ (n : ℕ). n ∷ r.claimed ∷ [])
        (asked r.phase r.waited (length r.current) word next (sym (word_0 s r) ∙ found) odd more);
    homes = r.homes;
    stands = r.stands;
    started = r.started;
    unclaimed = r.unclaimed;
    authors = r.authors;
    views = r.views;
  }

  pub asks : (slots id word next : ℕ) (m : Sat T E) → word % 4 ≡ 1 → next ≡ word + 2
      → Allows Rule slots id m 0 (λ n. either (n == word) next n) (Asks {T = T} (step slots 0 word next core.none) m)
  asks slots id word next m odd more s r _ at _ =
      let F : ℕ → Type 0 = λ n. (w : View E) × (a : Act (Option T)) × Valid s.homes m.1 a × Rule (stepped s 0 n id m.1 w a)
      × Asks {T = T} (step slots 0 word next core.none) m (get_or s.words 0 0) (w, carried_after m.1 a) in
      exchanged (get_or s.words 0 0) word next F
      (λ found. (
        m.0,
        keeps,
        tt,
        subst (λ (vs : List (View E)). Rule record { words = set s.words 0 next; homes = s.homes; views = vs }) (sym (set_again s.views id m.0 at))
            (waited_for s r word next odd more found),
        refl,
      ))
      (λ _. (m.0, keeps, tt, unmoved s r 0 id m.1 m.0 at, refl))

  -- the views of others, where the phase, the history, the claims and the owners change
  others_see : (owner owner' : ℕ → ℕ) (phase phase' : Phase T) (current current' : List E) (claimed claimed' j : ℕ) (v : View E)
      → (v.holds ≡ true → phase ≡ out j → ⊥)
      → ((p : Part E) → Own owner current claimed j p → Own owner' current' claimed' j p) → Sees owner phase current claimed j v
      → Sees owner' phase' current' claimed' j v
  others_see owner owner' phase phase' current current' claimed claimed' j v idle go k = record {
    turn = λ h. absurd (idle h (k.turn h).0);
    own = all_map (Own owner current claimed j) (Own owner' current' claimed' j) go v.parts k.own;
    once = k.once;
    opened = k.opened;
  }

  -- a word that says that the turn is out is no multiple of four
  marked : (w : Bool) (c word : ℕ) → 4 * c + mark w ≡ word → word % 4 ≡ 0 → ⊥
  marked false c word is free = omega arith
  marked true c word is free = omega arith

  free_at_home : (s : St) (r : Rule s) (word : ℕ) → word % 4 ≡ 0 → get_or s.words 0 0 ≡ word → (x : T) × (r.phase ≡ home x)
  free_at_home s r word free is = go r.phase (sym (word_0 s r) ∙ is) refl
    where
      go : (p : Phase T) → turn_word p r.waited (length r.current) ≡ word → r.phase ≡ p → (x : T) × (r.phase ≡ home x)
      go early w e = absurd (marked r.waited (length r.current) word w free)
      go (home x) w e = (x, e)
      go (out j) w e = absurd (marked r.waited (length r.current) word w free)

  pub takes_turn : (slots id k word next : ℕ) (waited : Bool) (o h : List E) → word % 4 ≡ 0 → next ≡ word + mark waited
      → Allows Rule slots id (idle o k h) 0 (λ n. either (n == word) next n) (Takes history author (step slots 0 word next core.none) (idle o k h))
  takes_turn slots id k word next waited o h free more s r _ at _ =
      let F : ℕ → Type 0 = λ n. (w : View E) × (a : Act (Option T)) × Valid s.homes [] a × Rule (stepped s 0 n id [] w a)
      × Takes history author (step slots 0 word next core.none) (idle o k h) (get_or s.words 0 0) (w, carried_after [] a) in
      exchanged (get_or s.words 0 0) word next F
      (λ is. hit is (free_at_home s r word free is))
      (λ ne. (resting o k h, keeps, tt, unmoved s r 0 id [] (resting o k h) at, ((λ is. absurd (ne is)), (λ _. refl))))
    where
      hit : get_or s.words 0 0 ≡ word → (x : T) × (r.phase ≡ home x)
          → (w : View E) × (a : Act (Option T)) × Valid s.homes [] a × Rule (stepped s 0 next id [] w a)
          × Takes history author (step slots 0 word next core.none) (idle o k h) (get_or s.words 0 0) (w, carried_after [] a)
      hit is p = let x : T = p.0 in let w : View E = turning o k r.current in
          let homes : s.homes ≡ core.some (Some x) ∷ [] = r.homes ∙ ap (λ q. phase_slot q ∷ []) p.1 in
          let stands : Stands history author start seats r.current r.claimed s.views (home x) =
          subst (Stands history author start seats r.current r.claimed s.views) p.1 r.stands in
          let count : 4 * length r.current ≡ word = sym (word_0 s r ∙ ap (λ (q : Phase T). turn_word q r.waited (length r.current)) p.1) ∙ is in
          let sees = r.views id (resting o k h) at in
          let mine = sees.own.0 in
          let apart : (j : ℕ) → r.phase ≡ out j → ⊥ = λ j e. home_out x j (sym p.1 ∙ e) in (
            w,
            takes 0 (Some x),
            ap (λ hs. get_elem? hs 0) homes,
            record {
              phase = out id;
              current = r.current;
              claimed = r.claimed;
              owner = r.owner;
              waited = waited;
              words = ap (λ ws. set ws 0 next) r.words ∙ ap (λ (n : ℕ). n ∷ r.claimed ∷ []) (more ∙ ap (λ (n : ℕ). n + mark waited) (sym count));
              homes = ap (λ hs. set hs 0 core.none) homes;
              stands = ((w, set_here s.views id w (place_inside s.views id (resting o k h) at), refl), stands.1);
              started = r.started;
              unclaimed = r.unclaimed;
              authors = r.authors;
              views = views_set (Sees r.owner (out id) r.current r.claimed) s.views id w
                  record {
                    turn = λ _. (refl, (k, refl));
                    own = (
                      record {
                        place = mine.place;
                        below = mine.below;
                        claim = mine.claim;
                        began = r.started;
                        covered = (prefix_self r.current, refl);
                      },
                      tt,
                    );
                    once = (refl, tt);
                    opened = λ _. sees.opened (some_part (k, h) []);
                  }
                  (λ j v _ e. others_see r.owner r.owner r.phase (out id) r.current r.current r.claimed r.claimed j v (λ _. apart j) (λ q o. o)
                  (r.views j v e));
            },
            (
              (λ _. (
                x,
                ap (λ (c : List E). (turning o k c, (0, Some x) ∷ [])) (sym stands.0),
                subst (λ (c : List E). Covers author c (k, h)) (sym stands.0) mine.covered,
              )),
              (λ ne. absurd (ne is)),
            ),
          )

  pub takes_turn_at : (slots id k word next : ℕ) (waited : Bool) (o h : List E) (m : Sat T E) → m ≡ idle o k h → word % 4 ≡ 0 → next ≡ word + mark waited
      → Allows Rule slots id m 0 (λ n. either (n == word) next n) (Takes history author (step slots 0 word next core.none) m)
  takes_turn_at slots id k word next waited o h m e free more =
      subst (λ (x : Sat T E). Allows Rule slots id x 0 (λ n. either (n == word) next n) (Takes history author (step slots 0 word next core.none) x))
      (sym e) (takes_turn slots id k word next waited o h free more)

  others_own : (id j : ℕ) → j ≢ id → (k : ℕ) (current new : List E) (owner : ℕ → ℕ) (claimed : ℕ) → owner k ≡ id → IsContinuedByAuthor author k current new
      → (p : Part E) → Own owner current claimed j p → Own owner new claimed j p
  others_own id j apart k current new owner claimed mine further p o = let other : p.0 ≢ k = λ e. apart (sym o.place ∙ (ap owner e ∙ mine)) in record {
    place = o.place;
    below = o.below;
    claim = o.claim;
    began = o.began;
    covered = (prefix_trans p.1 current new o.covered.0 (further.0, further.1), others_stay author p.0 k other current new further ∙ o.covered.1);
  }

  pub gives_turn : (slots id k word : ℕ) (o h : List E) (x : T) → word ≡ 4 * length (history x) → IsContinuedByAuthor author k h (history x)
      → Allows Rule slots id (turning o k h, (0, Some x) ∷ []) 0 (λ _. word) (Gives history (step slots 0 word 0 core.none)
      (turning o k h, (0, Some x) ∷ []))
  gives_turn slots id k word o h x word_is further s r _ at _ =
      let turn = (r.views id (turning o k h) at).turn refl in
      let known : h ≡ r.current = ap first_part_history turn.1.1 in
      let homes : s.homes ≡ core.none ∷ [] = r.homes ∙ ap (λ q. phase_slot q ∷ []) turn.0 in
      let stands : Stands history author start seats r.current r.claimed s.views (out id) =
      subst (Stands history author start seats r.current r.claimed s.views) turn.0 r.stands in
      let mine = (r.views id (turning o k h) at).own.0 in
      let new : List E = history x in
      let go : IsContinuedByAuthor author k r.current new = subst (λ c. IsContinuedByAuthor author k c new) known further in
      let w : View E = resting o k new in (
        w,
        gives,
        tt,
        record {
          phase = home x;
          current = new;
          claimed = r.claimed;
          owner = r.owner;
          waited = false;
          words = ap (λ ws. set ws 0 word) r.words ∙ ap (λ (n : ℕ). n ∷ r.claimed ∷ []) word_is;
          homes = ap (λ hs. set hs 0 (core.some (Some x))) homes;
          stands = (refl, stands.1);
          started = prefix_trans start r.current new r.started (go.0, go.1);
          unclaimed = λ j free. let other : j ≢ k = λ e. one_or_none (sym mine.claim ∙ (ap (λ (n : ℕ). bit_at r.claimed n) (sym e) ∙ free)) in
              others_stay author j k other r.current new go ∙ r.unclaimed j free;
          authors = λ j le. let below : k < seats = mine.below in let other : j ≢ k = λ e. omega arith in others_stay author j k other r.current new go
              ∙ r.authors j le;
          views = views_set (Sees r.owner (home x) new r.claimed) s.views id w
              record {
                turn = λ t. absurd (off t);
                own = (
                  record {
                    place = mine.place;
                    below = mine.below;
                    claim = mine.claim;
                    began =
                        prefix_trans start r.current new r.started (go.0, go.1);
                    covered = (prefix_self new, refl);
                  },
                  tt,
                );
                once = (refl, tt);
                opened = λ _. (r.views id (turning o k h) at).opened (some_part (k, h) []);
              }
              (λ j v apart e. others_see r.owner r.owner r.phase (home x) r.current new r.claimed r.claimed j v (λ _ p. apart (out_out j id (sym p ∙ turn.0)))
              (others_own id j apart k r.current new r.owner r.claimed mine.place go) (r.views j v e));
        },
        λ y e. ap (λ (z : T). idle o k (history z)) (same_value x y e),
      )

  pub gives_turn_at : (slots id k word : ℕ) (o h : List E) (x : T) (m : Sat T E) → m ≡ (turning o k h, (0, Some x) ∷ [])
      → word ≡ 4 * length (history x) → IsContinuedByAuthor author k h (history x)
      → Allows Rule slots id m 0 (λ _. word) (Gives history (step slots 0 word 0 core.none) m)
  gives_turn_at slots id k word o h x m e word_is further =
      subst (λ (z : Sat T E). Allows Rule slots id z 0 (λ _. word) (Gives history (step slots 0 word 0 core.none) z)) (sym e)
      (gives_turn slots id k word o h x word_is further)

  -- the owner of k is the seat at id, and the others are as before
  abbrev claimed_by : (ℕ → ℕ) → ℕ → ℕ → ℕ → ℕ
  claimed_by owner k id n = either (eqb n k) id (owner n)

  keeps_own : (owner : ℕ → ℕ) (current : List E) (claimed mask k id j : ℕ) → k < 64 → mask ≡ 1 * 2 ^ k % 2 ^ 64 → bit_at claimed k ≡ 0 → (p : Part E)
      → Own owner current claimed j p → Own (claimed_by owner k id) current (bit_or claimed mask) j p
  keeps_own owner current claimed mask k id j small is free p o = let other : p.0 ≢ k = λ e. one_or_none (sym o.claim ∙ (ap (λ (n : ℕ). bit_at claimed n) e
      ∙ free)) in record {
        place = chosen p.0 k id (owner p.0) (λ n. n ≡ j) (λ e. absurd (other e)) (λ _. o.place);
        below = o.below;
        claim = ap (λ m. bit_at (bit_or claimed m) p.0) is ∙ (bit_at_set_other w64 claimed k small p.0 other ∙ o.claim);
        began = o.began;
        covered = o.covered;
      }

  -- what a claim leaves of the rule, whatever it does with the turn
  still_unclaimed : (current : List E) (claimed mask k : ℕ) → k < 64 → mask ≡ 1 * 2 ^ k % 2 ^ 64 → ((j : ℕ) → bit_at claimed j ≡ 0
      → author_entries author j current ≡ author_entries author j start)
      → (j : ℕ) → bit_at (bit_or claimed mask) j ≡ 0 → author_entries author j current ≡ author_entries author j start
  still_unclaimed current claimed mask k small is f j e = dite (ℕ_discrete j k)
      (λ (same : j ≡ k). absurd (one_or_none (sym (bit_at_set_same w64 claimed k small)
      ∙ (ap (λ (x : ℕ × ℕ). bit_at (bit_or claimed x.0) x.1) (λ i. (sym is i, sym same i)) ∙ e))))
      (λ other. f j (sym (ap (λ m. bit_at (bit_or claimed m) j) is ∙ bit_at_set_other w64 claimed k small j other) ∙ e))

  claims_0 : (slots id k mask : ℕ) → (0 < k) → k < 64 → k < seats → mask ≡ 1 * 2 ^ k % 2 ^ 64 → (s : St) (r : Rule s)
      → get_elem? s.views id ≡ core.some (fresh start) → bit_at r.claimed k ≡ 0
      → Rule (stepped s 1 (bit_or (get_or s.words 1 0) mask) id [] (resting start k start) keeps)
  claims_0 slots id k mask positive small below is s r at free = let w : View E = resting start k start in let claimed : ℕ = bit_or r.claimed mask in
      let owner : ℕ → ℕ = claimed_by r.owner k id in record {
        phase = r.phase;
        current = r.current;
        claimed = claimed;
        owner = owner;
        waited = r.waited;
        words = ap (λ n. set s.words 1 (bit_or n mask)) (word_1 s r) ∙ ap (λ ws. set ws 1 claimed) r.words;
        homes = r.homes;
        stands = first_stays r.phase r.stands;
        started = r.started;
        unclaimed = still_unclaimed r.current r.claimed mask k small is r.unclaimed;
        authors = r.authors;
        views = views_set (Sees owner r.phase r.current claimed) s.views id w
            record {
              turn = λ t. absurd (off t);
              own = (
                record {
                  place = chosen k k id (r.owner k) (λ n. n ≡ id) (λ _. refl) (λ ne. absurd (ne refl));
                  below = below;
                  claim = ap (λ m. bit_at (bit_or r.claimed m) k) is ∙ bit_at_set_same w64 r.claimed k small;
                  began = prefix_self start;
                  covered = (r.started, r.unclaimed k free);
                },
                tt,
              );
              once = (refl, tt);
              opened = λ _. refl;
            }
            (λ j v _ e. let sees = r.views j v e in record {
              turn = sees.turn;
              own =
                  all_map (Own r.owner r.current r.claimed j) (Own owner r.current claimed j)
                  (keeps_own r.owner r.current r.claimed mask k id j small is free) v.parts sees.own;
              once = sees.once;
              opened = sees.opened;
            });
      }
    where
      bit_0 : bit_at (bit_or r.claimed mask) 0 ≡ bit_at r.claimed 0
      bit_0 = ap (λ m. bit_at (bit_or r.claimed m) 0) is ∙ bit_at_set_other w64 r.claimed k small 0 (λ e. omega arith)

      first_stays : (p : Phase T) → Stands history author start seats r.current r.claimed s.views p
          → Stands history author start seats r.current (bit_or r.claimed mask) (set s.views id (resting start k start)) p
      first_stays early h = (h.0, bit_0 ∙ h.1)
      first_stays (home x) h = (h.0, bit_0 ∙ h.1)
      first_stays (out j) h = (
        (
          h.0.0,
          set_else s.views id j (resting start k start) (holder_apart s.views id j (fresh start) h.0.0 at refl h.0.1 h.0.2)
              ∙ h.0.1,
          h.0.2,
        ),
        bit_0 ∙ h.1,
      )

  -- a claim of a number that is taken changes nothing
  claims_nothing : (s : St) (r : Rule s) (id k mask : ℕ) → k < 64 → mask ≡ 1 * 2 ^ k % 2 ^ 64 → get_elem? s.views id ≡ core.some (fresh start)
      → bit_at r.claimed k ≢ 0
      → Rule (stepped s 1 (bit_or (get_or s.words 1 0) mask) id [] (fresh start) keeps)
  claims_nothing s r id k mask small is at taken =
      subst (λ (n : ℕ). Rule (stepped s 1 n id [] (fresh start) keeps)) (sym word) (unmoved s r 1 id [] (fresh start) at)
    where
      word : bit_or (get_or s.words 1 0) mask ≡ get_or s.words 1 0
      word = ap (λ n. bit_or n mask) (word_1 s r) ∙ (set_already r.claimed mask k small is taken ∙ sym (word_1 s r))

  pub claims_at : (slots id k mask : ℕ) (m : Sat T E) → m ≡ (fresh start, []) → 0 < k → k < 64 → k < seats → mask ≡ 1 * 2 ^ k % 2 ^ 64
      → Allows Rule slots id m 1 (λ n. bit_or n mask) (Claims (step slots 1 mask 0 core.none) m)
  claims_at slots id k mask m e positive small below is =
      subst (λ (z : Sat T E). Allows Rule slots id z 1 (λ n. bit_or n mask) (Claims (step slots 1 mask 0 core.none) z)) (sym e) claims
    where
      claims : Allows Rule slots id (fresh start, []) 1 (λ n. bit_or n mask) (Claims {T = T} (step slots 1 mask 0 core.none) (fresh start, []))
      claims s r _ at _ = dite (ℕ_discrete (bit_at r.claimed k) 0)
          (λ free. (
            resting start k start,
            keeps,
            tt,
            claims_0 slots id k mask positive small below is s r at free,
            λ j fits same. let one : j ≡ k = mask_of j k mask fits small same is in (
              (λ _. ap (λ (n : ℕ). idle start n start) (sym one)),
              (λ taken. absurd (taken (ap (λ (x : ℕ × ℕ). bit_at x.0 x.1) (λ i. (word_1 s r i, one i)) ∙ free))),
            ),
          ))
          (λ taken. (
            fresh start,
            keeps,
            tt,
            claims_nothing s r id k mask small is at taken,
            λ j fits same. let one : j ≡ k = mask_of j k mask fits small same is in
                ((λ free. absurd (taken (sym (ap (λ (x : ℕ × ℕ). bit_at x.0 x.1) (λ i. (word_1 s r i, one i))) ∙ free))), (λ _. refl)),
          ))

  claims_1 : (s : St) (r : Rule s) (id : ℕ) → 0 < seats → get_elem? s.views id ≡ core.some (fresh start) → bit_at r.claimed 0 ≡ 0 → r.phase ≡ early
      → Rule (stepped s 1 (bit_or (get_or s.words 1 0) 1) id [] (turning start 0 start) (takes 0 None))
  claims_1 s r id below at free p = let w : View E = turning start 0 start in let claimed : ℕ = bit_or r.claimed 1 in let owner : ℕ → ℕ =
      claimed_by r.owner 0 id in
      let small : 0 < 64 = omega arith in
      let homes : s.homes ≡ core.some None ∷ [] = r.homes ∙ ap (λ q. phase_slot q ∷ []) p in
      let stands : Stands history author start seats r.current r.claimed s.views early =
      subst (Stands history author start seats r.current r.claimed s.views) p r.stands in
      let bit_0 : bit_at claimed 0 ≡ 1 = bit_at_set_same w64 r.claimed 0 small in record {
        phase = out id;
        current = r.current;
        claimed = claimed;
        owner = owner;
        waited = r.waited;
        words = ap (λ n. set s.words 1 (bit_or n 1)) (word_1 s r) ∙ (ap (λ ws. set ws 1 claimed) r.words
            ∙ ap (λ (q : Phase T). turn_word q r.waited (length r.current) ∷ claimed ∷ []) p);
        homes = ap (λ hs. set hs 0 core.none) homes;
        stands = ((w, set_here s.views id w (place_inside s.views id (fresh start) at), refl), bit_0);
        started = r.started;
        unclaimed = still_unclaimed r.current r.claimed 1 0 small refl r.unclaimed;
        authors = r.authors;
        views = views_set (Sees owner (out id) r.current claimed) s.views id w
            record {
              turn = λ _. (refl, (0, ap (λ (c : List E). (let a : List (Part E) = (0, c) ∷ [] in a)) (sym stands.0)));
              own = (record { place = refl; below = below; claim = bit_0; began = prefix_self start; covered = (r.started, r.unclaimed 0 free) }, tt);
              once = (refl, tt);
              opened = λ _. refl;
            }
            (λ j v _ e. others_see r.owner owner r.phase (out id) r.current r.current r.claimed claimed j v (λ _ is. early_out j (sym p
            ∙ is)) (keeps_own r.owner r.current r.claimed 1 0 id j small refl free) (r.views j v e));
      }

  free_at_early : (s : St) (r : Rule s) → bit_at r.claimed 0 ≡ 0 → r.phase ≡ early
  free_at_early s r free = go r.phase r.stands
    where
      go : (p : Phase T) → Stands history author start seats r.current r.claimed s.views p → p ≡ early
      go early h = refl
      go (home x) h = absurd (one_or_none (sym h.1 ∙ free))
      go (out j) h = absurd (one_or_none (sym h.1 ∙ free))

  pub claims_first_at : (slots id : ℕ) (m : Sat T E) → m ≡ (fresh start, []) → 0 < seats
      → Allows Rule slots id m 1 (λ n. bit_or n 1) (ClaimsFirst (step slots 1 1 0 core.none) m)
  claims_first_at slots id m e below = subst (λ (z : Sat T E). Allows Rule slots id z 1 (λ n. bit_or n 1) (ClaimsFirst (step slots 1 1 0 core.none) z))
      (sym e) claims
    where
      claims : Allows Rule slots id (fresh start, []) 1 (λ n. bit_or n 1) (ClaimsFirst {T = T} (step slots 1 1 0 core.none) (fresh start, []))
      claims s r _ at _ = dite (ℕ_discrete (bit_at r.claimed 0) 0)
          (λ free. let p : r.phase ≡ early = free_at_early s r free in (
            turning start 0 start,
            takes 0 None,
            ap (λ hs. get_elem? hs 0) (r.homes ∙ ap (λ q. phase_slot q ∷ []) p),
            claims_1 s r id below at free p,
            ((λ _. refl), (λ taken. absurd (taken (ap (λ (n : ℕ). bit_at n 0) (word_1 s r) ∙ free)))),
          ))
          (λ taken. (
            fresh start,
            keeps,
            tt,
            claims_nothing s r id 0 1 (let l : 0 < 64 = omega arith in l) refl at taken,
            ((λ free. absurd (taken (sym (ap (λ (n : ℕ). bit_at n 0) (word_1 s r)) ∙ free))), (λ _. refl)),
          ))

  -- what the seat at other owned is owned by the seat at id
  abbrev handed : (ℕ → ℕ) → ℕ → ℕ → ℕ → ℕ
  handed owner other id n = either (eqb (owner n) other) id (owner n)

  moved : (owner : ℕ → ℕ) (current : List E) (claimed other id j : ℕ) → j ≢ other → (p : Part E) → Own owner current claimed j p
      → Own (handed owner other id) current claimed j p
  moved owner current claimed other id j ne p o = record {
    place = chosen (owner p.0) other id (owner p.0) (λ n. n ≡ j) (λ e. absurd (ne (sym o.place ∙ e))) (λ _. o.place);
    below = o.below;
    claim = o.claim;
    began = o.began;
    covered = o.covered;
  }

  taken_over : (owner : ℕ → ℕ) (current : List E) (claimed other id : ℕ) → (p : Part E) → Own owner current claimed other p
      → Own (handed owner other id) current claimed id p
  taken_over owner current claimed other id p o = record {
    place = chosen (owner p.0) other id (owner p.0) (λ n. n ≡ id) (λ _. refl) (λ ne. absurd (ne o.place));
    below = o.below;
    claim = o.claim;
    began = o.began;
    covered = o.covered;
  }

  -- a number of one seat is no other's
  absent : (owner : ℕ → ℕ) (current : List E) (claimed id other k : ℕ) → (other ≡ id → ⊥) → owner k ≡ id → (qs : List (Part E))
      → AllByRecursion (Own owner current claimed other) qs → has_number k qs ≡ false
  absent owner current claimed id other k apart mine [] h = refl
  absent owner current claimed id other k apart mine (q ∷ qs) h =
      let not_it : q.0 ≢ k = λ e. apart (sym h.0.place ∙ (ap owner e ∙ mine)) in
      ap (λ b. b || has_number k qs) (ne_eqb q.0 k not_it) ∙ absent owner current claimed id other k apart mine qs h.1

  -- the numbers of two seats
  once_both : (owner : ℕ → ℕ) (current : List E) (claimed id other : ℕ) → (other ≡ id → ⊥) → (ps qs : List (Part E))
      → AllByRecursion (Own owner current claimed id) ps → AllByRecursion (Own owner current claimed other) qs → IsOnceEach ps → IsOnceEach qs
      → IsOnceEach (ps ++ qs)
  once_both owner current claimed id other apart [] qs own theirs first second = second
  once_both owner current claimed id other apart (p ∷ ps) qs own theirs first second = (
    in_neither p.0 ps qs first.0 (absent owner current claimed id other p.0 apart own.0.place qs theirs),
    once_both owner current claimed id other apart ps qs own.1 theirs first.1 second,
  )

  pub joins : (id other : ℕ) (v w : View E) → v.holds ≡ false → w.holds ≡ false → Joins Rule id v other w (joined_view v w) spent
  joins id other v w v_idle w_idle s r at apart there =
      let there' : get_elem? s.views other ≡ core.some w = sym (set_else s.views id other (joined_view v w) apart) ∙ there in
      let b : View E = joined_view v w in
      let owner : ℕ → ℕ = handed r.owner other id in
      let vs : List (View E) = set s.views id b in record {
        phase = r.phase;
        current = r.current;
        claimed = r.claimed;
        owner = owner;
        waited = r.waited;
        words = r.words;
        homes = r.homes;
        stands = stays_out r.current r.claimed s.views (set vs other spent) r.phase (λ j u holds e. set_else vs other j spent
            (holder_apart s.views other j w u there' w_idle e holds) ∙ (set_else s.views id j b (holder_apart s.views id j v u at v_idle e holds)
            ∙ e)) r.stands;
        started = r.started;
        unclaimed = r.unclaimed;
        authors = r.authors;
        views = views_set (Sees owner r.phase r.current r.claimed) vs other spent
            record { turn = λ t. absurd (off t); own = tt; once = tt; opened = λ some. absurd (some refl) }
            (λ j u not_other e. views_set (λ i x. i ≢ other → Sees owner r.phase r.current r.claimed i x) s.views id b
            (λ _. record {
              turn = λ t. absurd (off t);
              own = all_append (Own owner r.current r.claimed id) v.parts w.parts
                  (all_map (Own r.owner r.current r.claimed id) (Own owner r.current r.claimed id) (moved r.owner r.current r.claimed other id id
                  (λ e. apart (sym e))) v.parts (r.views id v at).own)
                  (all_map (Own r.owner r.current r.claimed other) (Own owner r.current r.claimed id)
                  (taken_over r.owner r.current r.claimed other id) w.parts (r.views other w there').own);
              once = once_both r.owner r.current r.claimed id other apart v.parts w.parts (r.views id v at).own (r.views other w there').own
                  (r.views id v at).once (r.views other w there').once;
              opened = keep_opening start v.opening w.opening v.parts w.parts (r.views id v at).opened (r.views other w there').opened;
            })
            (λ i x _ e' not_it. let sees = r.views i x e' in record {
              turn = sees.turn;
              own =
                  all_map (Own r.owner r.current r.claimed i) (Own owner r.current r.claimed i)
                  (moved r.owner r.current r.claimed other id i not_it) x.parts sees.own;
              once = sees.once;
              opened = sees.opened;
            })
            j u e not_other);
      }

  -- a number in the list has its part
  bounded_part : (P : Part E → Type 0) (k : ℕ) (ps : List (Part E)) → AllByRecursion P ps → IsTrue (has_number k ps) → (p : Part E) × (p.0 ≡ k) × P p
  bounded_part P k [] h e = absurd (off e)
  bounded_part P k (p ∷ ps) h e = dite (ℕ_discrete p.0 k) (λ is. (p, is, h.0)) (λ ne. bounded_part P k ps h.1 (ap (λ b. b || has_number k ps) (sym
      (ne_eqb p.0 k ne))
      ∙ e))

  -- at the end, a seat with every number
  pub closes : (id : ℕ) (v : View E) (words : List ℕ) (slots : List (Option T)) → v.holds ≡ false → 0 < seats
      → ((k : ℕ) → k < seats → IsTrue (has_number k v.parts)) → Final (Seen Rule id v) words slots
      → (x : T) × (get_elem? slots 0 ≡ core.some (Some x)) × AllByRecursion (Covers author (history x)) v.parts
  closes id v words slots idle some_seats all f = go f.1.0.phase refl
    where
      go : (p : Phase T) → f.1.0.phase ≡ p → (x : T) × (get_elem? slots 0 ≡ core.some (Some x)) × AllByRecursion (Covers author (history x)) v.parts
      go early is = let stands = subst (Stands history author start seats f.1.0.current f.1.0.claimed f.0.views) is f.1.0.stands in
          let o = bounded_part (Own f.1.0.owner f.1.0.current f.1.0.claimed id) 0 v.parts (f.1.0.views id v f.1.1).own (all 0 some_seats) in
          absurd (one_or_none (sym (ap (λ n. bit_at f.1.0.claimed n) (sym o.1) ∙ o.2.claim) ∙ stands.1))
      go (home x) is = let stands = subst (Stands history author start seats f.1.0.current f.1.0.claimed f.0.views) is f.1.0.stands in (
        x,
        f.4 0 (Some x) (ap (λ hs. get_elem? hs 0) (f.1.0.homes ∙ ap (λ q. phase_slot q ∷ []) is)),
        all_map (Own f.1.0.owner f.1.0.current f.1.0.claimed id) (Covers author (history x)) (λ p o. subst (λ (c : List E). Covers author c p)
            (sym stands.0) o.covered) v.parts (f.1.0.views id v f.1.1).own,
      )
      go (out j) is = let stands = subst (Stands history author start seats f.1.0.current f.1.0.claimed f.0.views) is f.1.0.stands in
          let w : View E = stands.0.0 in
          let sees = f.1.0.views j w stands.0.1 in
          let turn = (sees.turn stands.0.2).1 in
          let o = (subst (AllByRecursion (Own f.1.0.owner f.1.0.current f.1.0.claimed j)) turn.1 sees.own).0 in
          let mine = bounded_part (Own f.1.0.owner f.1.0.current f.1.0.claimed id) turn.0 v.parts (f.1.0.views id v f.1.1).own (all turn.0 o.below) in
          absurd (holder_apart f.0.views id j v w f.1.1 idle stands.0.1 stands.0.2 (sym o.place ∙ (ap f.1.0.owner (sym mine.1) ∙ mine.2.place)))

pub seats_snoc : {T E : Type 0} (lock : TableId) (start : List E) (k : ℕ) (ss : List (Seat (Option T) (View E))) (s : Seat (Option T) (View E))
    → AreNumberedSeats lock start k ss → s.table_id ≡ lock → s.me ≡ idle start (k + length ss) start → AreNumberedSeats lock start k (ss ++ s ∷ [])
seats_snoc lock start k [] s h id me = ((id, me ∙ ap (λ (n : ℕ). idle start n start) (let n : k + 0 ≡ k = omega arith in n)), tt)
seats_snoc lock start k (x ∷ xs) s h id me = (
  h.0,
  seats_snoc lock start (k + 1) xs s h.1 id (me ∙ ap (λ (n : ℕ). idle start n start) (let n : k + suc (length xs) ≡ k + 1 + length xs =
      omega arith in n)),
)
