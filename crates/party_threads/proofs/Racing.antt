-- Races keep what they promise: by the laws of rounds, which are in time with a round's ticks and a
-- slack of as many.
use Rattle.std.proofs.Common.{◌≡◌, ℕ, zero, suc, ◌+◌, ◌*◌, ◌<◌, ◌≤◌, true, false, List, [], ◌∷◌, ◌++◌, length, refl, sym, ap, ◌∙◌, subst, arith, ◌⊎◌, inl, inr}
use Rattle.std.proofs.Common.{zero-add}
use Rattle.std.proofs.Math.Nat.{lt-mul-div-succ, mul_comm}
use Rattle.std.proofs.Math.ListN.{get_or-eq_default}
use Rattle.std.proofs.lemmas.List.FromFn.{get_or-map-range_with_len, length-map-range_with_len}
use Rattle.std.proofs.lemmas.List.Sums.{sum_by-append}
use Rattle.swap_base.specs.Lists.{IsElement}
use Rattle.swap_base.proofs.Lists.{from_range, in_range, below_or}
use Rattle.swap_digraph.specs.Graph.{arcs}
use Rattle.escrow_core.specs.declared.reply.Reply.TheVariants.{Accepted}
use Rattle.ledger_core.specs.declared.entry.Entry.{Entry}
use Rattle.ledger_core.specs.History.{height, entry_ticks}
use Rattle.ledger_core.specs.Ledger.{tick_entry}
use Rattle.ledger_core.specs.Book.{Histories, history, IsLegalBook}
use Rattle.ledger_shared.specs.Value.{party_made, ticks_in_order}
use Rattle.swap_rules.specs.Conduct.{IsConducted}
use Rattle.swap_rules.specs.Due.{due}
use Rattle.swap_rules.specs.Machine.{Begins, Knows}
use Rattle.swap_rules.specs.Rounds.{IsRounds, IsTurn, IsDoneInTime, IsRaceTurn, round_book, AreRaceBooks}
use Rattle.swap_rules.proofs.Rounds.{rounds_in_time, rounds_on_time}
use Rattle.swap_rules.proofs.Dealing.{all_dealt}
use Rattle.party_wallet.specs.Value.{signed_hashkey}
use Rattle.swap_run.specs.Run.{Cast, State, conforms, party_role, is_planned, state_notes, start}
use Rattle.swap_run.specs.Laws.{IsReadyCast, IsGood}
use Rattle.swap_run.specs.Fair.{the_horizon}
use Rattle.swap_run.proofs.Acts.{first_none}
use Rattle.swap_run.proofs.Good.{start_is_good, good_is_kept, empty_at}
use Rattle.party_threads.specs.Race.{needed_rounds, IsRound, IsRaced, round_books, IsOfRounds, IsRaceBook, RacesAreKept, ticks_of_rounds}
use Rattle.typed_books.specs.Books.{IsTypedBook}
use Rattle.swap_world.specs.Gone.{MayGive}
use Rattle.party_threads.specs.Views.{PlaysByViews}
use Rattle.party_threads.proofs.Clocks.{height_of_ticks}
use Rattle.party_threads.proofs.Resting.{rest_shows_in_calls}
use Rattle.party_threads.proofs.Viewing.{plays_by_views}

height_append : (h k : List Entry) → height (h ++ k) ≡ height h + height k
height_append h k = sum_by-append (λ (e : Entry). entry_ticks e.what) h k

height_of_rounds : (ticks r : ℕ) → height (ticks_of_rounds ticks r) ≡ r * ticks
height_of_rounds ticks zero = omega arith
height_of_rounds ticks (suc r) =
    let more = height_append (ticks_of_rounds ticks r) (tick_entry ticks (suc r * ticks) Accepted ∷ []) in
    let here = height_of_rounds ticks r in
    omega arith

module _ (gives : MayGive) (c : Cast) (ticks rounds : ℕ) (ready : IsReadyCast c) (some : 1 ≤ ticks) (states : ℕ → State) (first : states 0 ≡ start c)
    (each : (r : ℕ) → r < rounds → IsRound gives c ticks (states r) (states (r + 1))) where
  next : (r : ℕ) → suc r ≡ r + 1
  next r = omega arith

  step : (r : ℕ) → r < rounds → IsRound gives c ticks (states r) (states (suc r))
  step r l = subst (λ n. IsRound gives c ticks (states r) (states n)) (sym (next r)) (each r l)

  good : (r : ℕ) → r ≤ rounds → IsGood c (states r)
  good zero l = subst (IsGood c) (sym first) (start_is_good c ready)
  good (suc r) l = (step r (omega (arith, l))).good

  at_start : (a : ℕ) → history (states 0).book a ≡ []
  at_start a = ap (λ (s : State). history s.book a) first ∙ empty_at c.deal a

  below : (r a : ℕ) → r ≤ rounds → IsElement a (arcs c.deal.graph) → a < length (states r).book
  below r a l i = subst (λ n. a < n) (sym (good r l).legal.one_each) (from_range a (length c.deal.graph.arcs) i)

  party_level : (r a : ℕ) → r ≤ rounds → IsElement a (arcs c.deal.graph) → ticks_in_order (history (states r).book a) ≡ ticks_of_rounds ticks r
      → height (history (states r).book a) ≡ r * ticks
  party_level r a l i e = height_of_ticks c.deal a (history (states r).book a) ((good r l).legal.legal a (below r a l i)) ∙
      (ap height e ∙ height_of_rounds ticks r)

  ticked : (r a : ℕ) → r ≤ rounds → IsElement a (arcs c.deal.graph) → ticks_in_order (history (states r).book a) ≡ ticks_of_rounds ticks r
  ticked zero a l i = ap ticks_in_order (at_start a)
  ticked (suc r) a l i =
      let before = ticked r a (omega (arith, l)) i in
      let level = party_level r a (omega (arith, l)) i before in
      let sums : r * ticks + ticks ≡ suc r * ticks = omega arith in
      (step r (omega (arith, l))).ticked a i
      ∙ (ap (λ h. h ++ tick_entry ticks (height (history (states r).book a) + ticks) Accepted ∷ []) before
      ∙ ap (λ n. ticks_of_rounds ticks r ++ tick_entry ticks n Accepted ∷ []) (ap (λ n. n + ticks) level ∙ sums))

  level : (r a : ℕ) → r ≤ rounds → IsElement a (arcs c.deal.graph) → height (history (states r).book a) ≡ r * ticks
  level r a l i = party_level r a l i (ticked r a l i)

  unmade : (r v a : ℕ) → r ≤ rounds → v < c.deal.graph.n → conforms c v ≡ false → is_planned (party_role c v) ≡ false
      → party_made v (history (states r).book a) ≡ []
  unmade zero v a l lv e p = ap (party_made v) (at_start a)
  unmade (suc r) v a l lv e p = (step r (omega (arith, l))).others v a lv e p ∙ unmade r v a (omega (arith, l)) lv e p

  low : (r v a : ℕ) → r < rounds → v < c.deal.graph.n → conforms c v ≡ true → height (history (state_notes (states (suc r)) v).known a) ≤ r * ticks + ticks
  low r v a l lv cv = go (below_or a (length c.deal.graph.arcs))
    where
      know : Knows v (history (state_notes (states (suc r)) v).known a) (history (states (suc r)).book a)
      know = ((step r l).good.notes v lv cv).knows a

      split : height (history (states (suc r)).book a) ≡ height (history (state_notes (states (suc r)) v).known a) + height know.rest
      split = ap height know.whole ∙ height_append (history (state_notes (states (suc r)) v).known a) know.rest

      go : (a < length c.deal.graph.arcs) ⊎ (length c.deal.graph.arcs ≤ a) → height (history (state_notes (states (suc r)) v).known a) ≤ r * ticks + ticks
      go (inl lt) = let h = level (suc r) a (omega (arith, l)) (in_range a (length c.deal.graph.arcs) lt) in omega (arith, h, split)
      go (inr ge) =
          let none : history (states (suc r)).book a ≡ [] = get_or-eq_default (states (suc r)).book []
          (subst (λ n. n ≤ a) (sym (step r l).good.legal.one_each) ge) in
          let h : height (history (states (suc r)).book a) ≡ 0 = ap height none in
          omega (arith, h, split)

  turn : (r v : ℕ) → r < rounds → v < c.deal.graph.n → conforms c v ≡ true
      → IsTurn c.deal v (c.wallet v) (states r).book (states (suc r)).book (r * ticks + ticks)
  turn r v l lv cv =
      let n = state_notes (states (suc r)) v in
      record {
        known = n.known;
        signed = signed_hashkey n.signed;
        seen = λ a near. (step r l).seen v a lv cv near;
        knows = ((step r l).good.notes v lv cv).knows;
        done = first_none (due c.deal v (c.wallet v) (signed_hashkey n.signed) n.known) ((step r l).rests v lv cv);
        top = λ a. low r v a l lv cv;
      }

  machine_rounds : (v : ℕ) → v < c.deal.graph.n → conforms c v ≡ true → IsRounds c.deal v (c.wallet v) ticks ticks rounds (λ r. (states r).book)
  machine_rounds v lv cv = record {
    legal = λ r l. (good r l).legal;
    conducted = (good_is_kept c (states rounds) ready (good rounds (omega arith))).conducted v lv cv;
    grows = λ r a l. (each r l).grows a;
    at = λ r a l i. level r a l i;
    turn = λ r l. subst (λ n. IsTurn c.deal v (c.wallet v) (states r).book (states n).book (r * ticks + ticks)) (next r) (turn r v l lv cv);
  }

  -- The books at the ends of the rounds.

  book_is : (r : ℕ) → r ≤ rounds → round_book (round_books states rounds) r ≡ (states r).book
  book_is r l = get_or-map-range_with_len (λ r. (states r).book) 0 (rounds + 1) r r [] (omega (arith, l)) (zero-add r)

  race_turn : (r v : ℕ) → r < rounds → v < c.deal.graph.n → conforms c v ≡ true → IsRaceTurn c.deal v (c.wallet v) (states r).book (states (r + 1)).book
  race_turn r v l lv cv =
      let n = state_notes (states (r + 1)) v in
      let notes = (each r l).good.notes v lv cv in
      record {
        known = n.known;
        seen = λ a near. (each r l).seen v a lv cv near;
        knows = notes.knows;
        done =
            (rest_shows_in_calls c.deal v (c.wallet v) n.known (signed_hashkey n.signed) ready.accepted notes.sound).0
            (first_none (due c.deal v (c.wallet v) (signed_hashkey n.signed) n.known) ((each r l).rests v lv cv));
      }

  listed : (v : ℕ) → v < c.deal.graph.n → conforms c v ≡ true → AreRaceBooks c.deal v (c.wallet v) ticks rounds (round_books states rounds)
  listed v lv cv = record {
    number = length-map-range_with_len (λ r. (states r).book) 0 (rounds + 1);
    legal = λ r l. subst (IsLegalBook c.deal) (sym (book_is r l)) (good r l).legal;
    conducted =
        subst (λ b. IsConducted c.deal b v) (sym (book_is rounds (omega arith)))
        ((good_is_kept c (states rounds) ready (good rounds (omega arith))).conducted v lv cv);
    empty = λ a. ap (λ b. history b a) (book_is 0 (omega arith)) ∙ at_start a;
    grows = λ r a l. both_are r l (λ old new. Begins (history old a) (history new a)) ((each r l).grows a);
    at = λ r a l i. ap (λ b. height (history b a)) (book_is r l) ∙ level r a l i;
    turn = λ r l. both_are r l (IsRaceTurn c.deal v (c.wallet v)) (race_turn r v l lv cv);
  }
    where
      both_are : (r : ℕ) → r < rounds → (P : Histories → Histories → Type 0) → P (states r).book (states (r + 1)).book
          → P (round_book (round_books states rounds) r) (round_book (round_books states rounds) (r + 1))
      both_are r l P p =
          subst (λ (w : Histories × Histories). P w.0 w.1) (λ i. (sym (book_is r (omega (arith, l))) i, sym (book_is (r + 1) (omega (arith, l))) i)) p

  of_rounds : rounds ≡ needed_rounds c.deal ticks → IsOfRounds gives c ticks (states rounds).book
  of_rounds is = record {
    end = states rounds;
    raced = record { states = states; first = first; last = ap states (sym is); each = λ r l. each r (subst (λ n. r < n) (sym is) l) };
    book = refl;
    listed = λ v lv cv. subst (λ n. AreRaceBooks c.deal v (c.wallet v) ticks n (round_books states n)) is (listed v lv cv);
  }

  kept : the_horizon c.deal < rounds * ticks → rounds ≡ needed_rounds c.deal ticks → IsTypedBook (states rounds).book
      → IsRaceBook gives c ticks (states rounds).book
  kept past is typed =
      let whole = good rounds (omega arith) in
      let kept = good_is_kept c (states rounds) ready whole in
      let ended : (a : ℕ) → a < length c.deal.graph.arcs → the_horizon c.deal < height (history (states rounds).book a) =
      λ a l. let h = level rounds a (omega arith) (in_range a (length c.deal.graph.arcs) l) in omega (arith, h, past) in
      let on_time = λ (two : 2 * ticks ≤ c.deal.delta) (v : ℕ) (lv : v < c.deal.graph.n) (cv : conforms c v ≡ true).
      rounds_on_time c.deal v (c.wallet v) ticks ticks rounds (λ r. (states r).book) ready.accepted some (omega (arith, two)) (machine_rounds v lv cv) in
      record {
        came = of_rounds is;
        legal = whole.legal;
        typed = typed;
        ticked = λ a i. ticked rounds a (omega arith) i ∙ ap (ticks_of_rounds ticks) is;
        ended = ended;
        conducted = kept.conducted;
        others = λ v a lv e p. unmade rounds v a (omega arith) lv e p;
        played = λ v lv e p. subst (λ n. PlaysByViews gives c ticks n (states rounds).book v) is
            (plays_by_views gives c ticks rounds states v lv ready first (λ r l. good r l) (λ r a l la. level r a l (in_range a (length c.deal.graph.arcs) la))
            (λ r a l. (each r l).grows a) (λ r l. (each r l).played v lv e p));
        in_time = λ v rule a ref lv cv ir ia e.
            let two : ref + ticks + ticks ≡ ref + 2 * ticks = omega arith in
            subst (IsDoneInTime c.deal (states rounds).book v rule a) two
            (rounds_in_time c.deal v (c.wallet v) ticks ticks rounds (λ r. (states r).book) ready.accepted some (machine_rounds v lv cv) rule a ref ir ia e);
        on_time = on_time;
        dealt = λ two all. all_dealt c.deal (conforms c) (states rounds).book ready.accepted whole.legal ended (λ v lv. kept.conducted v lv (all v lv))
            (λ v lv. on_time two v lv (all v lv));
      }

pub races_are_kept : RacesAreKept
races_are_kept gives c ticks t ready some raced typed =
    let past : the_horizon c.deal < needed_rounds c.deal ticks * ticks =
    subst (λ n. the_horizon c.deal < n) (mul_comm ticks (needed_rounds c.deal ticks)) (lt-mul-div-succ (the_horizon c.deal) some) in
    subst (λ (s : State). IsRaceBook gives c ticks s.book) raced.last
    (kept gives c ticks (needed_rounds c.deal ticks) ready some raced.states raced.first raced.each past refl
    (subst (λ (s : State). IsTypedBook s.book) (sym raced.last) typed))

-- after r rounds, whether they pass the horizon or not
pub following_level : (gives : MayGive) (c : Cast) (ticks r : ℕ) (t : State) → IsReadyCast c → 1 ≤ ticks → IsRaced gives c ticks r t → (a : ℕ)
    → IsElement a (arcs c.deal.graph) → height (history t.book a) ≡ r * ticks
following_level gives c ticks r t ready some raced a i =
    subst (λ (s : State). height (history s.book a) ≡ r * ticks) raced.last
    (level gives c ticks r ready some raced.states raced.first raced.each r a (omega arith) i)

pub ticked_after : (gives : MayGive) (c : Cast) (ticks r : ℕ) (t : State) → IsReadyCast c → 1 ≤ ticks → IsRaced gives c ticks r t → (a : ℕ)
    → IsElement a (arcs c.deal.graph)
    → ticks_in_order (history t.book a) ≡ ticks_of_rounds ticks r
ticked_after gives c ticks r t ready some raced a i =
    subst (λ (s : State). ticks_in_order (history s.book a) ≡ ticks_of_rounds ticks r) raced.last
    (ticked gives c ticks r ready some raced.states raced.first raced.each r a (omega arith) i)
