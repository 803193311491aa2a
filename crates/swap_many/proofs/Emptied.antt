-- What a sweep does to many worlds.
use Rattle.std.proofs.Common.{◌≡◌, ℕ, ◌+◌, ◌<◌, ◌≤◌, ◌^◌, ◌&&◌, not, nat_lt, Bool, true, false, cond, List, [], length, map, refl, sym}
use Rattle.std.proofs.Common.{ap, ◌∙◌, subst, arith, slice_set, slice_index_or, sum_by, is_some, is_none}
use Rattle.std.specs.List.{range_with_len}
use Rattle.std.proofs.lemmas.List.{length-set, ext_get_or}
use Rattle.std.proofs.lemmas.List.FromFn.{get_or-map-range_with_len, length-map-range_with_len}
use Rattle.std.proofs.lemmas.List.Sums.{sum-map}
use Rattle.ledger_core.specs.declared.accounts.Accounts.{Accounts}
use Rattle.ledger_core.specs.History.{accounts, held, published, settled}
use Rattle.ledger_core.specs.Book.{history}
use Rattle.escrow_core.specs.declared.reply.Reply.TheVariants.{Accepted}
use Rattle.swap_run.specs.Run.{State}
use Rattle.swap_run.specs.Fair.{the_horizon}
use Rattle.swap_world.specs.Value.{world_answers}
use Rattle.swap_world.specs.Gone.{MayGive}
use Rattle.swap_many.specs.declared.many_event.ManyEvent.TheVariants.{Sweep}
use Rattle.swap_many.specs.declared.many_reply.ManyReply.{ManyReply}
use Rattle.swap_many.specs.declared.many_reply.ManyReply.TheVariants.{Plain}
use Rattle.swap_many.specs.Accounts.{ChainState, account_units}
use Rattle.swap_many.specs.declared.place.Place.{Place}
use Rattle.swap_many.specs.Chains.{place, arc_chain, put, plus, returned, Units, is_accepted_deed, projection, free, opening_units, in_accounts}
use Rattle.swap_many.specs.Kept.{Time, kept_sweep, kept_done, answer_sweep}
use Rattle.swap_many.specs.Many.{Run}
use Rattle.swap_many.specs.Laws.{CanSweep}
use Rattle.swap_many.specs.Sound.{Keeps}
use Rattle.swap_many.specs.Value.{ManyState, nth_world, nth_chain, swept_slots, world_setup, made_setup, many_kept, AreSame, HasManyGone}
use Rattle.swap_many.specs.Inside.{AreWhole}
use Rattle.swap_many.proofs.Projections.{put_still, put_each, shown_at}
use Rattle.swap_many.proofs.Accounts.{set_is_put}
use Rattle.swap_many.proofs.Over.{done_rows}
use Rattle.swap_many.proofs.Fits.{sweep_fits}
use Rattle.swap_many.proofs.Values.{put_map, can_for, all_same, each_chain, chains_put, whole_next, sound_step, chain_low, from_low, to_low}

-- a list is what it says of its places
pub list_sum : (xs : List ℕ) → sum_by (account_units xs) (range_with_len 0 (length xs)) ≡ sum_by (λ u. u) xs
list_sum xs =
    sym (sum-map (account_units xs) (range_with_len 0 (length xs)))
    ∙ (ap (λ ys. sum_by (λ u. u) ys) (ext_get_or 0 (map (account_units xs) (range_with_len 0 (length xs))) xs
    (length-map-range_with_len (account_units xs) 0 (length xs)) (λ i l.
    let low : i < length xs = subst (λ n. i < n) (length-map-range_with_len (account_units xs) 0 (length xs)) l in
    let z : 0 + i ≡ i = omega arith in
    get_or-map-range_with_len (account_units xs) 0 (length xs) i i 0 low z)))

-- A slot whose units may go back: its place, its chain, and what it holds.
pub record MayGoBack (w : ManyState) (s a : ℕ) (fair : Bool) (p : Place) (y : ChainState) (b : Accounts) : Type 0 where
  pub on : w.stopped ≡ false
  pub can : CanSweep (world_setup w) s a
  pub accepted : answer_sweep fair (world_setup w) (many_kept w) s a ≡ Plain Accepted
  pub at : p ≡ place (world_setup w) s a
  pub here : y ≡ nth_chain w p.chain
  pub is : b ≡ accounts (nth_world w s).deal a (history (nth_world w s).state.book a)

module _ (w : ManyState) (s a : ℕ) (fair : Bool) (whole : AreWhole w) (on : w.stopped ≡ false) (can : CanSweep (world_setup w) s a)
    (accepted : answer_sweep fair (world_setup w) (many_kept w) s a ≡ Plain Accepted) where
  open_slot : (many_kept w).swept s a ≡ false
  open_slot =
      let past = history (nth_world w s).state.book a in
      let k = done_rows (nat_lt ((many_kept w).clocks (arc_chain (world_setup w) s a)).height (the_horizon (nth_world w s).deal + 1))
      ((many_kept w).swept s a)
      (is_some (published past) && is_none (settled past)) (not fair && is_none (published past)) (the_horizon (nth_world w s).deal + 1) (held past)
      (ap is_accepted_deed accepted) in
      k.1

  -- the two balances fit into the free accounts
  pub they_fit : sum_by (λ u. u) (nth_chain w (arc_chain (world_setup w) s a)).free
      + (accounts (nth_world w s).deal a (history (nth_world w s).state.book a)).party
      + (accounts (nth_world w s).deal a (history (nth_world w s).state.book a)).counterparty ≤ 10 ^ 18
  they_fit =
      let was = whole.sound on (λ t. world_answers (nth_world w t)) (λ t l k lt. refl) in
      fits was.0 was.1
    where
      fits : (r : Run) → Keeps (made_setup w (λ t. world_answers (nth_world w t))) r (many_kept w)
          → sum_by (λ u. u) (nth_chain w (arc_chain (world_setup w) s a)).free
          + (accounts (nth_world w s).deal a (history (nth_world w s).state.book a)).party
          + (accounts (nth_world w s).deal a (history (nth_world w s).state.book a)).counterparty ≤ 10 ^ 18
      fits r k =
          let m = made_setup w (λ t. world_answers (nth_world w t)) in
          let j = arc_chain m s a in
          let few = sweep_fits m r (many_kept w) s a (whole.ready (λ t. world_answers (nth_world w t))) (record { swap = can.swap; arc = can.arc }) k
          (sym (k.follows.swept s a) ∙ open_slot) in
          let past : projection s a (r.chains j) ≡ history (nth_world w s).state.book a =
          sym (ap (λ (y : State). history y.book a) (k.follows.swaps s can.swap) ∙ shown_at m r.chains s a can.arc) in
          let sum : in_accounts m j (free m j (r.chains j)) ≡ sum_by (λ u. u) (nth_chain w j).free =
          ap (in_accounts m j) (sym (k.follows.free j))
          ∙ (ap (λ n. sum_by (account_units (nth_chain w j).free) (range_with_len 0 n)) (sym (whole.accounts j)) ∙ list_sum (nth_chain w j).free) in
          let all : in_accounts m j (opening_units m j) ≡ sum_by (λ u. u) (slice_index_or w.openings j []) = list_sum (slice_index_or w.openings j []) in
          end (in_accounts m j (free m j (r.chains j))) (sum_by (λ u. u) (nth_chain w j).free)
          (accounts (nth_world w s).deal a (projection s a (r.chains j))) (accounts (nth_world w s).deal a (history (nth_world w s).state.book a))
          (in_accounts m j (opening_units m j)) (sum_by (λ u. u) (slice_index_or w.openings j [])) sum
          (ap (accounts (nth_world w s).deal a) past) few all (whole.units j)
        where
          end : (f x : ℕ) (p q : Accounts) (c y : ℕ) → f ≡ x → p ≡ q → f + p.party + p.counterparty ≤ c → c ≡ y → y ≤ 10 ^ 18
              → x + q.party + q.counterparty ≤ 10 ^ 18
          end f x p q c y e h l k u = last f x p.party q.party p.counterparty q.counterparty c y e (ap (λ (z : Accounts). z.party) h)
              (ap (λ (z : Accounts). z.counterparty) h) l k u
            where
              last : (f x p q o t c y : ℕ) → f ≡ x → p ≡ q → o ≡ t → f + p + o ≤ c → c ≡ y → y ≤ 10 ^ 18 → x + q + t ≤ 10 ^ 18
              last f x p q o t c y e1 e2 e3 l e4 u = omega arith

  module _ (gives : MayGive) (x : ChainState) (f : List Bool) (clock : x.clock ≡ (nth_chain w (arc_chain (world_setup w) s a)).clock)
      (units : account_units x.free
      ≡ returned (account_units (nth_chain w (arc_chain (world_setup w) s a)).free) (place (world_setup w) s a)
      (accounts (nth_world w s).deal a (history (nth_world w s).state.book a)))
      (count : length x.free ≡ length (nth_chain w (arc_chain (world_setup w) s a)).free) (flag : f ≡ slice_set (swept_slots w s) a true) where
    abbrev pub with_sweep : ManyState
    with_sweep = record w { chains = slice_set w.chains (arc_chain (world_setup w) s a) x; swept = slice_set w.swept s f }

    low : s < length w.swept
    low = subst (λ n. s < n) (sym whole.swept) can.swap

    flags_put : (λ t. swept_slots with_sweep t) ≡ put (swept_slots w) s f
    flags_put = set_is_put [] w.swept s f low

    sweep_same : AreSame gives w with_sweep
    sweep_same =
        let k = all_same gives w in record { swaps = k.swaps; casts = k.casts; asked = k.asked; places = k.places; openings = k.openings }

    swept_now : (λ t c. slice_index_or (swept_slots with_sweep t) c false) ≡ put (many_kept w).swept s (put ((many_kept w).swept s) a true)
    swept_now =
        ap (λ (h : ℕ → List Bool). let k : ℕ → ℕ → Bool = λ t c. slice_index_or (h t) c false in k) flags_put
        ∙ (put_map (λ (xs : List Bool). let k : ℕ → Bool = λ c. slice_index_or xs c false in k) (swept_slots w) s f
        ∙ ap (λ (k : ℕ → Bool). put (many_kept w).swept s k)
        (ap (λ (xs : List Bool). let k : ℕ → Bool = λ c. slice_index_or xs c false in k) flag
        ∙ set_is_put false (swept_slots w s) a true (subst (λ n. a < n) (sym (whole.slots s can.swap)) can.arc)))

    clocks_now : (λ j. (nth_chain with_sweep j).clock) ≡ (many_kept w).clocks
    clocks_now =
        ap (λ (f : ℕ → ChainState). let h : ℕ → Time = λ j. (f j).clock in h) (chains_put w (arc_chain (world_setup w) s a) x (chain_low w s a whole can))
        ∙ (put_map (λ (y : ChainState). y.clock) (nth_chain w) (arc_chain (world_setup w) s a) x
        ∙ put_still (many_kept w).clocks (arc_chain (world_setup w) s a) x.clock clock)

    free_now : (λ j. account_units (nth_chain with_sweep j).free)
        ≡ put (many_kept w).free (arc_chain (world_setup w) s a)
        (returned ((many_kept w).free (arc_chain (world_setup w) s a)) (place (world_setup w) s a)
        (accounts (nth_world w s).deal a (history (nth_world w s).state.book a)))
    free_now =
        ap (λ (f : ℕ → ChainState). let h : ℕ → Units = λ j. account_units (f j).free in h)
        (chains_put w (arc_chain (world_setup w) s a) x (chain_low w s a whole can))
        ∙ (put_map (λ (y : ChainState). account_units y.free) (nth_chain w) (arc_chain (world_setup w) s a) x
        ∙ ap (λ (u : Units). put (many_kept w).free (arc_chain (world_setup w) s a) u) units)

    pub sweep_gone : HasManyGone gives (λ m z. kept_done fair m z (Sweep s a)) w with_sweep
    sweep_gone = record {
      same = sweep_same;
      goes_on = refl;
      kept = λ g c. (λ j. record { swaps = (many_kept w).swaps; clocks = clocks_now j; free = free_now j; swept = swept_now j })
          ∙ sym (ap (λ (r : ManyReply). cond (is_accepted_deed r) (kept_sweep (world_setup w) (many_kept w) s a) (many_kept w)) accepted);
    }

    pub sweep_whole : AreWhole with_sweep
    sweep_whole =
        whole_next gives w with_sweep whole sweep_same (length-set w.chains (arc_chain (world_setup w) s a) x)
        (each_chain w (arc_chain (world_setup w) s a) x (chain_low w s a whole can) (λ j y. length y.free ≡ length (nth_chain w j).free) count (λ j. refl))
        (length-set w.swept s f) slots whole.on
        (λ q. sound_step gives w with_sweep fair (Sweep s a) whole on (λ g. can_for w g (Sweep s a) can) sweep_gone) whole.kept
      where
        slots : (t : ℕ) → length (swept_slots with_sweep t) ≡ length (swept_slots w t)
        slots t =
            ap (λ (h : ℕ → List Bool). length (h t)) flags_put
            ∙ put_each (λ t xs. length xs ≡ length (swept_slots w t)) (swept_slots w) s f
            (ap (λ (xs : List Bool). length xs) flag ∙ length-set (swept_slots w s) a true) (λ t. refl) t

  -- The two balances fit by what the code holds: where the arc stands, its chain before and the two
  -- balances.
  module _ (p : Place) (y : ChainState) (b : Accounts) (at : p ≡ place (world_setup w) s a) (here : y ≡ nth_chain w p.chain)
      (is : b ≡ accounts (nth_world w s).deal a (history (nth_world w s).state.book a)) where
    chain_is : y ≡ nth_chain w (arc_chain (world_setup w) s a)
    chain_is = here ∙ ap (λ (p : Place). nth_chain w p.chain) at

    pub from_in : p.from < length y.free
    from_in =
        subst (λ (p : Place). p.from < length y.free) (sym at)
        (subst (λ (y : ChainState). (place (world_setup w) s a).from < length y.free) (sym chain_is) (from_low w s a whole can))

    pub to_in : p.to < length y.free
    to_in =
        subst (λ (p : Place). p.to < length y.free) (sym at)
        (subst (λ (y : ChainState). (place (world_setup w) s a).to < length y.free) (sym chain_is) (to_low w s a whole can))

    pub both_fit : sum_by (λ u. u) y.free + b.party + b.counterparty ≤ 10 ^ 18
    both_fit =
        subst (λ (y : ChainState). sum_by (λ u. u) y.free + b.party + b.counterparty ≤ 10 ^ 18) (sym chain_is)
        (subst (λ (b : Accounts). sum_by (λ u. u) (nth_chain w (arc_chain (world_setup w) s a)).free + b.party + b.counterparty ≤ 10 ^ 18) (sym is) they_fit)

    module _ (gives : MayGive) (mid x : ChainState) (f old : List Bool) (one : account_units mid.free ≡ plus (account_units y.free) p.from b.party)
        (two : account_units x.free ≡ plus (account_units mid.free) p.to b.counterparty) (clock_one : mid.clock ≡ y.clock) (clock_two : x.clock ≡ mid.clock)
        (count_one : length mid.free ≡ length y.free) (count_two : length x.free ≡ length mid.free) (was : old ≡ swept_slots w s)
        (flag : f ≡ slice_set old a true) where
      units_back : account_units x.free
          ≡ returned (account_units (nth_chain w (arc_chain (world_setup w) s a)).free) (place (world_setup w) s a)
          (accounts (nth_world w s).deal a (history (nth_world w s).state.book a))
      units_back =
          two ∙ (ap (λ (u : Units). plus u p.to b.counterparty) one
          ∙ (ap (λ (p : Place). returned (account_units y.free) p b) at
          ∙ (ap (λ (y : ChainState). returned (account_units y.free) (place (world_setup w) s a) b) chain_is
          ∙ ap (λ (b : Accounts). returned (account_units (nth_chain w (arc_chain (world_setup w) s a)).free) (place (world_setup w) s a) b) is)))

      clock_back : x.clock ≡ (nth_chain w (arc_chain (world_setup w) s a)).clock
      clock_back = clock_two ∙ (clock_one ∙ ap (λ (y : ChainState). y.clock) chain_is)

      count_back : length x.free ≡ length (nth_chain w (arc_chain (world_setup w) s a)).free
      count_back = count_two ∙ (count_one ∙ ap (λ (y : ChainState). length y.free) chain_is)

      flag_back : f ≡ slice_set (swept_slots w s) a true
      flag_back = flag ∙ ap (λ (xs : List Bool). slice_set xs a true) was

      pub back_gone : HasManyGone gives (λ m z. kept_done fair m z (Sweep s a)) w
          (record w { chains = slice_set w.chains p.chain x; swept = slice_set w.swept s f })
      back_gone =
          subst (λ (p : Place). HasManyGone gives (λ m z. kept_done fair m z (Sweep s a)) w
          (record w { chains = slice_set w.chains p.chain x; swept = slice_set w.swept s f })) (sym at)
          (sweep_gone gives x f clock_back units_back count_back flag_back)

      pub back_whole : AreWhole (record w { chains = slice_set w.chains p.chain x; swept = slice_set w.swept s f })
      back_whole =
          subst (λ (p : Place). AreWhole (record w { chains = slice_set w.chains p.chain x; swept = slice_set w.swept s f })) (sym at)
          (sweep_whole gives x f clock_back units_back count_back flag_back)
