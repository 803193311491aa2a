-- Rounds of many swaps in which nobody makes a call: a round after as many ticks of the chains
-- leads to where all of them lead.
use Rattle.std.proofs.Common.{◌≡◌, ◌≢◌, ◌⊎◌, inl, inr, ℕ, zero, suc, ◌+◌, ◌<◌, ◌≤◌, ◌==◌, ◌&&◌, ◌++◌, Bool, true, false, cond, List, [], ◌∷◌, length, fold}
use Rattle.std.proofs.Common.{refl, sym, ap, ap₂, ◌∙◌, subst, arith, nat_lt, ltb-true, eqb-true, append-nil, append_assoc}
use Rattle.std.specs.List.{range_with_len}
use Rattle.std.proofs.lemmas.List.Folds.{list_all-append}
use Rattle.swap_base.specs.Lists.{IsElement}
use Rattle.swap_base.proofs.Lists.{below_or, from_range, in_range, list_all-in}
use Rattle.swap_digraph.specs.Graph.{arcs}
use Rattle.escrow_core.specs.declared.reply.Reply.TheVariants.{Accepted}
use Rattle.ledger_core.specs.declared.entry.Entry.{Entry}
use Rattle.ledger_core.specs.Ledger.{tick_entry}
use Rattle.ledger_core.specs.History.{height, is_clock_full}
use Rattle.ledger_core.specs.Book.{Histories, history}
use Rattle.ledger_core.proofs.Bounds.{height-push}
use Rattle.ledger_core.proofs.History.{not-true}
use Rattle.swap_rules.specs.Rest.{is_ticking}
use Rattle.swap_rules.proofs.Prefixes.{same_or_not}
use Rattle.swap_run.specs.Asked.{Answers}
use Rattle.swap_run.specs.Run.{Cast, Notes, State, conforms, party_role, is_planned, state_notes, after_tick}
use Rattle.swap_run.specs.Called.{swept_turns}
use Rattle.swap_run.specs.Fair.{repeat}
use Rattle.swap_run.specs.Quiet.{IsIdle}
use Rattle.swap_run.proofs.Entries.{tick_full, tick_room}
use Rattle.swap_world.specs.Quiet.{IsRaised, AreRaised, IsQuietState}
use Rattle.swap_world.specs.Value.{world_cast}
use Rattle.swap_many.specs.Chains.{Setup, arc_chain, put, has_no_tick}
use Rattle.swap_many.specs.Many.{last_horizon}
use Rattle.swap_many.specs.Kept.{Kept, Time, later, ticked}
use Rattle.swap_many.specs.Fair.{kept_chain_tick, kept_turns, kept_ticks, kept_round, kept_round_or_rest, have_ended}
use Rattle.swap_many.specs.Value.{ManyState, nth_world, nth_chain, world_setup, made_setup, many_kept}
use Rattle.swap_many.proofs.Projections.{put_same, put_other}
use Rattle.swap_many.proofs.Tick.{book_tick, ticked_is, book_tick_length, ticks_inside}
use Rattle.swap_many.proofs.On.{turns_are_on}
use Rattle.swap_many.proofs.Still.{turns_again}

-- Histories that ticks alone make longer.

no_raise : (n : ℕ) (h : List Entry) → IsRaised n h h
no_raise n h = record { more = []; ticks = refl; is = sym (append-nil h); high = omega arith }

raise_more : (n : ℕ) (h k l : List Entry) → IsRaised n h k → IsRaised 1 k l → IsRaised (suc n) h l
raise_more n h k l a b =
    let x = a.high in
    let y = b.high in
    record {
      more = a.more ++ b.more;
      ticks = list_all-append (λ e. is_ticking e.what) a.more b.more ∙ ap₂ (λ u v. u && v) a.ticks b.ticks;
      is = b.is ∙ (ap (λ (z : List Entry). z ++ b.more) a.is ∙ append_assoc h a.more b.more);
      high = omega (arith, x, y);
    }

tick_raises : (h : List Entry) → IsRaised 1 h (after_tick 1 h)
tick_raises h = go (is_clock_full h 1) refl
  where
    go : (b : Bool) → is_clock_full h 1 ≡ b → IsRaised 1 h (after_tick 1 h)
    go true e = subst (IsRaised 1 h) (sym (tick_full 1 h e)) (no_raise 1 h)
    go false e =
        let t = tick_entry 1 (height h + 1) Accepted in
        let p : height (h ++ t ∷ []) ≡ height h + 1 = height-push h t in
        subst (IsRaised 1 h) (sym (tick_room 1 h e)) (record { more = t ∷ []; ticks = refl; is = refl; high = omega (arith, p) })

not_before : (j k s : ℕ) → s < k → IsElement s (range_with_len k j) → ⊥
not_before zero k s l i = i
not_before (suc j) k s l (inl e) = let q : ◌≡◌ {A = ℕ} s k = e in absurd (omega (arith, l, q))
not_before (suc j) k s l (inr i) = not_before j (k + 1) s (omega (arith, l)) i

module _ (m : Setup) where
  -- What a tick of each chain of a list does.

  abbrev pub full : (ℕ → Time) → ℕ → Bool
  full ck i = has_no_tick (ck i).ticks (ck i).height 1

  abbrev pub clock_tick : (ℕ → Time) → ℕ → ℕ → Time
  clock_tick ck i = cond (full ck i) ck (put ck i (later (ck i) 1))

  -- of the histories of swap s
  abbrev pub chain_tick : (ℕ → Time) → (i s : ℕ) → Histories → Histories
  chain_tick ck i s b = cond (full ck i) b (fold (book_tick m i 1 s) b (arcs (m.cast s).deal.graph))

  abbrev pub book_ticks : (ℕ → Time) → ℕ → List ℕ → Histories → Histories
  book_ticks ck s [] b = b
  book_ticks ck s (i ∷ is) b = book_ticks (clock_tick ck i) s is (chain_tick ck i s b)

  abbrev pub after_ticks : Kept → List ℕ → Kept
  after_ticks z is = record z {
    clocks = fold clock_tick z.clocks is;
    swaps = λ s. record (z.swaps s) { book = book_ticks z.clocks s is (z.swaps s).book };
  }

  abbrev after_tick_of : Kept → ℕ → Kept
  after_tick_of z i = record z {
    clocks = clock_tick z.clocks i;
    swaps = λ s. record (z.swaps s) { book = chain_tick z.clocks i s (z.swaps s).book };
  }

  tick_is : (z : Kept) (i : ℕ) → kept_chain_tick m z i ≡ after_tick_of z i
  tick_is z i = go (full z.clocks i)
    where
      go : (b : Bool)
          → cond b z (record z { clocks = put z.clocks i (later (z.clocks i) 1); swaps = λ s. ticked m i 1 s (z.swaps s) })
          ≡ record z {
            clocks = cond b z.clocks (put z.clocks i (later (z.clocks i) 1));
            swaps = λ s. record (z.swaps s) { book = cond b (z.swaps s).book (fold (book_tick m i 1 s) (z.swaps s).book (arcs (m.cast s).deal.graph)) };
          }
      go true = refl
      go false = λ j. record {
        swaps = λ s. ticked_is m i 1 s (arcs (m.cast s).deal.graph) (z.swaps s) j;
        clocks = put z.clocks i (later (z.clocks i) 1);
        free = z.free;
        swept = z.swept;
      }

  ticks_are : (is : List ℕ) (z : Kept) → fold (kept_chain_tick m) z is ≡ after_ticks z is
  ticks_are [] z = refl
  ticks_are (i ∷ is) z = ap (λ (t : Kept). fold (kept_chain_tick m) t is) (tick_is z i) ∙ ticks_are is (after_tick_of z i)

  -- What the turns of each swap of a list do.

  abbrev pub turned : (ℕ → ℕ → Bool) → (ℕ → State) → ℕ → ℕ → State
  turned sw f x = put f x (swept_turns (sw x) (m.cast x) (f x))

  turns_are : (xs : List ℕ) (z : Kept) → fold (kept_turns m) z xs ≡ record z { swaps = fold (turned z.swept) z.swaps xs }
  turns_are [] z = refl
  turns_are (x ∷ xs) z =
      ap (λ (t : Kept). fold (kept_turns m) t xs) (turns_are_on m x z) ∙ turns_are xs (record z { swaps = turned z.swept z.swaps x })

  module _ (sw : ℕ → ℕ → Bool) (s : ℕ) where
    unturned : (xs : List ℕ) (f : ℕ → State) → (IsElement s xs → ⊥) → fold (turned sw) f xs s ≡ f s
    unturned [] f out = refl
    unturned (x ∷ xs) f out = unturned xs (turned sw f x) (λ i. out (inr i)) ∙ put_other f x (swept_turns (sw x) (m.cast x) (f x)) s (λ e. out (inl e))

    turned_at : (k : ℕ) (rest : List ℕ) (f : ℕ → State) → (s ≡ k) ⊎ (s ≢ k) → (s ≡ k → IsElement s rest → ⊥)
        → (s ≢ k → fold (turned sw) (turned sw f k) rest s ≡ swept_turns (sw s) (m.cast s) (turned sw f k s))
        → fold (turned sw) (turned sw f k) rest s ≡ swept_turns (sw s) (m.cast s) (f s)
    turned_at k rest f (inl e) out more =
        unturned rest (turned sw f k) (out e)
        ∙ subst (λ z. turned sw f z s ≡ swept_turns (sw s) (m.cast s) (f s)) e (put_same f s (swept_turns (sw s) (m.cast s) (f s)))
    turned_at k rest f (inr n) out more =
        more n ∙ ap (swept_turns (sw s) (m.cast s)) (put_other f k (swept_turns (sw k) (m.cast k) (f k)) s n)

    pub turned_once : (j k : ℕ) (f : ℕ → State) → k ≤ s → s < k + j → fold (turned sw) f (range_with_len k j) s ≡ swept_turns (sw s) (m.cast s) (f s)
    turned_once zero k f lo hi = absurd (omega (arith, lo, hi))
    turned_once (suc j) k f lo hi =
        turned_at k (range_with_len (k + 1) j) f (same_or_not s k)
        (λ e i. not_before j (k + 1) s (let q : ◌≡◌ {A = ℕ} s k = e in omega (arith, q)) i)
        (λ n. let q : ◌≢◌ {A = ℕ} s k = n in turned_once j (k + 1) (turned sw f k) (omega (arith, lo, q)) (omega (arith, hi)))

  -- Rounds.

  abbrev pub all_swaps : List ℕ
  all_swaps = range_with_len 0 m.swaps

  abbrev pub all_chains : List ℕ
  all_chains = range_with_len 0 (length m.chains)

  abbrev pub all_turns : Kept → Kept
  all_turns z = fold (kept_turns m) z all_swaps

  -- nobody of swap s makes a call in its turn
  pub record IsResting (s : ℕ) (x : State) : Type 0 where
    pub noted : length x.notes ≡ (m.cast s).deal.graph.n
    pub plain : (v : ℕ) → v < (m.cast s).deal.graph.n → conforms (m.cast s) v ≡ false → is_planned (party_role (m.cast s) v) ≡ false
    pub idle : (v : ℕ) → v < (m.cast s).deal.graph.n → conforms (m.cast s) v ≡ true → IsIdle (m.cast s) x.book v (state_notes x v)

  module _ (z : Kept) where
    abbrev pub once : Kept
    once = record z { swaps = fold (turned z.swept) z.swaps all_swaps }

    pub ticked_once : kept_ticks m (all_turns z) ≡ after_ticks once all_chains
    ticked_once = ap (kept_ticks m) (turns_are all_swaps z) ∙ ticks_are all_chains once

    round_clocks : (kept_round m z).clocks ≡ (kept_ticks m z).clocks
    round_clocks = ap (λ (t : Kept). t.clocks) ticked_once ∙ sym (ap (λ (t : Kept). t.clocks) (ticks_are all_chains z))

    abbrev later_book : ℕ → State → State
    later_book s x = record x { book = book_ticks z.clocks s all_chains x.book }

    swap_again : (s : ℕ) → (s < m.swaps → IsResting s (z.swaps s)) → (s < m.swaps) ⊎ (m.swaps ≤ s)
        → fold (turned z.swept) (λ s. later_book s (fold (turned z.swept) z.swaps all_swaps s)) all_swaps s
        ≡ fold (turned z.swept) (λ s. later_book s (z.swaps s)) all_swaps s
    swap_again s rests (inl l) =
        let r = rests l in
        let c = m.cast s in
        turned_once z.swept s m.swaps 0 (λ s. later_book s (fold (turned z.swept) z.swaps all_swaps s)) (omega arith) (omega (arith, l))
        ∙ (ap (λ (x : State). swept_turns (z.swept s) c (later_book s x)) (turned_once z.swept s m.swaps 0 z.swaps (omega arith) (omega (arith, l)))
        ∙ (turns_again (z.swept s) c r.plain (book_ticks z.clocks s all_chains) (z.swaps s) r.noted r.idle
        ∙ sym (turned_once z.swept s m.swaps 0 (λ s. later_book s (z.swaps s)) (omega arith) (omega (arith, l)))))
    swap_again s rests (inr g) =
        let out : IsElement s all_swaps → ⊥ = λ i. (let l = from_range s m.swaps i in absurd (omega (arith, g, l))) in
        unturned z.swept s all_swaps (λ s. later_book s (fold (turned z.swept) z.swaps all_swaps s)) out
        ∙ (ap (later_book s) (unturned z.swept s all_swaps z.swaps out) ∙ sym (unturned z.swept s all_swaps (λ s. later_book s (z.swaps s)) out))

    round_again : ((s : ℕ) → s < m.swaps → IsResting s (z.swaps s)) → kept_round m (kept_round m z) ≡ kept_round m (kept_ticks m z)
    round_again rests =
        let middle : record (after_ticks once all_chains) { swaps = fold (turned z.swept) (after_ticks once all_chains).swaps all_swaps }
        ≡ record (after_ticks z all_chains) { swaps = fold (turned z.swept) (after_ticks z all_chains).swaps all_swaps } = λ j. record {
          swaps = λ s. swap_again s (rests s) (below_or s m.swaps) j;
          clocks = fold clock_tick z.clocks all_chains;
          free = z.free;
          swept = z.swept;
        } in
        ap (kept_ticks m)
        (ap all_turns ticked_once ∙ (turns_are all_swaps (after_ticks once all_chains)
        ∙ (middle ∙ sym (ap all_turns (ticks_are all_chains z) ∙ turns_are all_swaps (after_ticks z all_chains)))))

  pub goes_on : (z : Kept) → have_ended m z ≡ false → kept_round_or_rest m z ≡ kept_round m z
  goes_on z e = ap (λ b. cond b z (kept_round m z)) e

  -- n rounds in which nobody makes a call, and one more
  rounds_skip : (n : ℕ) (z : Kept) → ((i : ℕ) → i ≤ n → have_ended m (repeat i (kept_ticks m) z) ≡ false)
      → ((i : ℕ) → i < n → (s : ℕ) → s < m.swaps → IsResting s ((repeat i (kept_ticks m) z).swaps s))
      → repeat (suc n) (kept_round_or_rest m) z ≡ kept_round m (repeat n (kept_ticks m) z)
  rounds_skip zero z low rests = goes_on z (low 0 (omega arith))
  rounds_skip (suc n) z low rests =
      let t = repeat n (kept_ticks m) z in
      let on : have_ended m (kept_round m t) ≡ false
      = ap (λ (ck : ℕ → Time). have_ended m (record t { clocks = ck })) (round_clocks t) ∙ low (suc n) (omega arith) in
      ap (kept_round_or_rest m) (rounds_skip n z (λ i l. low i (omega (arith, l))) (λ i l. rests i (omega (arith, l))))
      ∙ (goes_on (kept_round m t) on ∙ round_again t (rests n (omega arith)))

  -- What n ticks of all chains leave: the notes, and histories that are longer by ticks.

  module _ (s : ℕ) where
    abbrev pub count : ℕ
    count = length (m.cast s).deal.graph.arcs

    tick_many : (ck : ℕ → Time) (i : ℕ) (b : Histories) → length (chain_tick ck i s b) ≡ length b
    tick_many ck i b = go (full ck i)
      where
        go : (y : Bool) → length (cond y b (fold (book_tick m i 1 s) b (arcs (m.cast s).deal.graph))) ≡ length b
        go true = refl
        go false = book_tick_length m i 1 s (arcs (m.cast s).deal.graph) b

    ticks_many : (is : List ℕ) (ck : ℕ → Time) (b : Histories) → length (book_ticks ck s is b) ≡ length b
    ticks_many [] ck b = refl
    ticks_many (i ∷ is) ck b = ticks_many is (clock_tick ck i) (chain_tick ck i s b) ∙ tick_many ck i b

    module _ (a : ℕ) (l : a < count) where
      -- the ledger of its arc, where that stands on the chain and where it doesn't
      tick_at : (i : ℕ) (b : Histories) → length b ≡ count
          → history (fold (book_tick m i 1 s) b (arcs (m.cast s).deal.graph)) a
          ≡ cond (arc_chain m s a == i) (after_tick 1 (history b a)) (history b a)
      tick_at i b e = ticks_inside m i 1 s count 0 b a (omega arith) (omega (arith, l)) (omega (arith, e))

      tick_away : (ck : ℕ → Time) (i : ℕ) (b : Histories) → length b ≡ count → arc_chain m s a ≢ i → history (chain_tick ck i s b) a ≡ history b a
      tick_away ck i b e n = go (full ck i)
        where
          go : (y : Bool) → history (cond y b (fold (book_tick m i 1 s) b (arcs (m.cast s).deal.graph))) a ≡ history b a
          go true = refl
          go false =
              tick_at i b e
              ∙ ap (λ y. cond y (after_tick 1 (history b a)) (history b a)) (not-true (arc_chain m s a == i) (λ q. n (eqb-true (arc_chain m s a) i q)))

      tick_up : (ck : ℕ → Time) (i : ℕ) (b : Histories) → length b ≡ count → IsRaised 1 (history b a) (history (chain_tick ck i s b) a)
      tick_up ck i b e = go (full ck i)
        where
          by : (y : Bool) → IsRaised 1 (history b a) (cond y (after_tick 1 (history b a)) (history b a))
          by true = tick_raises (history b a)
          by false = no_raise 1 (history b a)

          go : (y : Bool) → IsRaised 1 (history b a) (history (cond y b (fold (book_tick m i 1 s) b (arcs (m.cast s).deal.graph))) a)
          go true = no_raise 1 (history b a)
          go false = subst (IsRaised 1 (history b a)) (sym (tick_at i b e)) (by (arc_chain m s a == i))

      off : (j k : ℕ) (ck : ℕ → Time) (b : Histories) → length b ≡ count → arc_chain m s a < k
          → history (book_ticks ck s (range_with_len k j) b) a ≡ history b a
      off zero k ck b e low = refl
      off (suc j) k ck b e low =
          off j (k + 1) (clock_tick ck k) (chain_tick ck k s b) (tick_many ck k b ∙ e) (omega (arith, low))
          ∙ tick_away ck k b e (λ q. let p : ◌≡◌ {A = ℕ} (arc_chain m s a) k = q in absurd (omega (arith, low, p)))

      up_by : (k : ℕ) (ck : ℕ → Time) (b : Histories) (after : List Entry) → length b ≡ count → (arc_chain m s a ≡ k) ⊎ (arc_chain m s a ≢ k)
          → (arc_chain m s a ≡ k → after ≡ history (chain_tick ck k s b) a) → IsRaised 1 (history (chain_tick ck k s b) a) after
          → IsRaised 1 (history b a) after
      up_by k ck b after e (inl q) rest more = subst (IsRaised 1 (history b a)) (sym (rest q)) (tick_up ck k b e)
      up_by k ck b after e (inr n) rest more = subst (λ (h : List Entry). IsRaised 1 h after) (tick_away ck k b e n) more

      pub up : (j k : ℕ) (ck : ℕ → Time) (b : Histories) → length b ≡ count → IsRaised 1 (history b a) (history (book_ticks ck s (range_with_len k j) b) a)
      up zero k ck b e = no_raise 1 (history b a)
      up (suc j) k ck b e =
          let longer : length (chain_tick ck k s b) ≡ count = tick_many ck k b ∙ e in
          up_by k ck b (history (book_ticks (clock_tick ck k) s (range_with_len (k + 1) j) (chain_tick ck k s b)) a) e (same_or_not (arc_chain m s a) k)
          (λ q. off j (k + 1) (clock_tick ck k) (chain_tick ck k s b) longer (let p : ◌≡◌ {A = ℕ} (arc_chain m s a) k = q in omega (arith, p)))
          (up j (k + 1) (clock_tick ck k) (chain_tick ck k s b) longer)

    module _ (z : Kept) (whole : length (z.swaps s).book ≡ count) where
      abbrev then_at : ℕ → State
      then_at n = (repeat n (kept_ticks m) z).swaps s

      notes_stay : (n : ℕ) → (then_at n).notes ≡ (z.swaps s).notes
      notes_stay zero = refl
      notes_stay (suc n) = ap (λ (t : Kept). (t.swaps s).notes) (ticks_are all_chains (repeat n (kept_ticks m) z)) ∙ notes_stay n

      books_stay : (n : ℕ) → length (then_at n).book ≡ count
      books_stay zero = whole
      books_stay (suc n) =
          let t = repeat n (kept_ticks m) z in
          ap (λ (t : Kept). length (t.swaps s).book) (ticks_are all_chains t) ∙ (ticks_many all_chains t.clocks (t.swaps s).book ∙ books_stay n)

      books_rise : (n : ℕ) → AreRaised n (z.swaps s).book (then_at n).book
      books_rise zero a l = no_raise 0 (history (z.swaps s).book a)
      books_rise (suc n) a l =
          let t = repeat n (kept_ticks m) z in
          raise_more n (history (z.swaps s).book a) (history (t.swaps s).book a) (history (then_at (suc n)).book a) (books_rise n a l)
          (subst (λ (t' : Kept). IsRaised 1 (history (t.swaps s).book a) (history (t'.swaps s).book a)) (sym (ticks_are all_chains t))
          (up a (subst (λ k. a < k) whole l) (length m.chains) 0 t.clocks (t.swaps s).book (books_stay n)))

  -- Clocks.

  module _ (q : ℕ) where
    clock_away : (i : ℕ) (ck : ℕ → Time) → q ≢ i → clock_tick ck i q ≡ ck q
    clock_away i ck n = go (full ck i)
      where
        go : (b : Bool) → cond b ck (put ck i (later (ck i) 1)) q ≡ ck q
        go true = refl
        go false = put_other ck i (later (ck i) 1) q n

    clock_up : (i : ℕ) (ck : ℕ → Time) → q ≡ i → (clock_tick ck i q).height ≤ (ck q).height + 1
    clock_up i ck e = go (full ck i)
      where
        here : put ck i (later (ck i) 1) q ≡ later (ck q) 1
        here = subst (λ j. put ck j (later (ck j) 1) q ≡ later (ck q) 1) e (put_same ck q (later (ck q) 1))

        go : (b : Bool) → (cond b ck (put ck i (later (ck i) 1)) q).height ≤ (ck q).height + 1
        go true = omega arith
        go false = let h : (put ck i (later (ck i) 1) q).height ≡ (ck q).height + 1 = ap (λ (t : Time). t.height) here in omega (arith, h)

    clocks_off : (j k : ℕ) (ck : ℕ → Time) → q < k → fold clock_tick ck (range_with_len k j) q ≡ ck q
    clocks_off zero k ck low = refl
    clocks_off (suc j) k ck low =
        clocks_off j (k + 1) (clock_tick ck k) (omega (arith, low))
        ∙ clock_away k ck (λ e. let p : ◌≡◌ {A = ℕ} q k = e in absurd (omega (arith, low, p)))

    clocks_by : (k : ℕ) (ck : ℕ → Time) (after : Time) → (q ≡ k) ⊎ (q ≢ k) → (q ≡ k → after ≡ clock_tick ck k q)
        → after.height ≤ (clock_tick ck k q).height + 1 → after.height ≤ (ck q).height + 1
    clocks_by k ck after (inl e) rest more =
        let h : after.height ≡ (clock_tick ck k q).height = ap (λ (t : Time). t.height) (rest e) in
        let u = clock_up k ck e in
        omega (arith, h, u)
    clocks_by k ck after (inr n) rest more = subst (λ (t : Time). after.height ≤ t.height + 1) (clock_away k ck n) more

    pub clocks_up : (j k : ℕ) (ck : ℕ → Time) → (fold clock_tick ck (range_with_len k j) q).height ≤ (ck q).height + 1
    clocks_up zero k ck = omega arith
    clocks_up (suc j) k ck =
        clocks_by k ck (fold clock_tick (clock_tick ck k) (range_with_len (k + 1) j) q) (same_or_not q k)
        (λ e. clocks_off j (k + 1) (clock_tick ck k) (let p : ◌≡◌ {A = ℕ} q k = e in omega (arith, p)))
        (clocks_up j (k + 1) (clock_tick ck k))

    rises : (n : ℕ) (z : Kept) → ((repeat n (kept_ticks m) z).clocks q).height ≤ (z.clocks q).height + n
    rises zero z = omega arith
    rises (suc n) z =
        let t = repeat n (kept_ticks m) z in
        let h : ((kept_ticks m t).clocks q).height ≡ (fold clock_tick t.clocks all_chains q).height
        = ap (λ (t : Kept). (t.clocks q).height) (ticks_are all_chains t) in
        let u = clocks_up (length m.chains) 0 t.clocks in
        let r = rises n z in
        omega (arith, h, u, r)

  -- a chain that isn't above the horizon after them
  not_ended : (n : ℕ) (z : Kept) (q : ℕ) → q < length m.chains → (z.clocks q).height + n ≤ last_horizon m → (i : ℕ) → i ≤ n
      → have_ended m (repeat i (kept_ticks m) z) ≡ false
  not_ended n z q l low i few = not-true _ (λ e.
      let r = rises q i z in
      let p = list_all-in (λ j. nat_lt (last_horizon m) ((repeat i (kept_ticks m) z).clocks j).height) all_chains q e (in_range q (length m.chains) l) in
      let above : last_horizon m < ((repeat i (kept_ticks m) z).clocks q).height = ltb-true (last_horizon m) _ p in
      absurd (omega (arith, r, above, low, few)))

-- Fewer rounds in which nobody makes a call.
pub still_less : (c : Cast) (n k : ℕ) (s : State) → k ≤ n → IsQuietState c n s → IsQuietState c k s
still_less c n k s l r = record { noted = r.noted; plain = r.plain; idle = λ i b less. r.idle i b (omega (arith, less, l)) }

-- Many worlds in which nobody makes a call in n rounds, and a chain stays low.
pub many_skip : (w : ManyState) (g : ℕ → Answers) (n : ℕ)
    → ((s : ℕ) → s < length w.worlds → length (nth_world w s).state.book ≡ length (nth_world w s).deal.graph.arcs)
    → have_ended (world_setup w) (many_kept w) ≡ false
    → (0 < n → (q : ℕ) × (q < length w.openings) × ((nth_chain w q).clock.height + n ≤ last_horizon (world_setup w)))
    → (0 < n → (s : ℕ) → s < length w.worlds → IsQuietState (world_cast (nth_world w s)) n (nth_world w s).state)
    → repeat (suc n) (kept_round_or_rest (made_setup w g)) (many_kept w) ≡ kept_round (made_setup w g) (repeat n (kept_ticks (made_setup w g)) (many_kept w))
many_skip w g zero whole on low still = goes_on (made_setup w g) (many_kept w) on
many_skip w g (suc k) whole on low still =
    let n = suc k in
    let more : 0 < n = omega arith in
    let m = made_setup w g in
    let z = many_kept w in
    let a = low more in
    rounds_skip m n z (not_ended m n z a.0 a.1 a.2) (λ i l s ls.
    let r = still more s ls in
    let same = notes_stay m s z (whole s ls) i in
    record {
      noted = ap (λ (ns : List Notes). length ns) same ∙ r.noted;
      plain = r.plain;
      idle = λ v lv cv.
          subst (IsIdle (m.cast s) ((repeat i (kept_ticks m) z).swaps s).book v)
          (sym (ap (λ (ns : List Notes). state_notes (record (z.swaps s) { notes = ns }) v) same))
          (r.idle i ((repeat i (kept_ticks m) z).swaps s).book l (books_rise m s z (whole s ls) i) v lv cv);
    })
