-- All units of a chain are in one place: in a free account, in a balance of a slot that isn't
-- swept, or held by a contract.
use Rattle.std.proofs.Common.{append-nil, ◌≡◌, ◌≢◌, ◌⊎◌, ℕ, suc, ◌+◌, ◌-◌, ◌<◌, ◌≤◌, ◌==◌, ◌&&◌, ◌||◌, not, nat_lt, Bool, true, false, cond, List, [], ◌∷◌}
use Rattle.std.proofs.Common.{◌++◌, length, fold, Option, Some, None, is_some, is_none, refl, sym, ap, ap₂, ◌∙◌, subst, inl, inr, arith, eq-eqb, eqb-true}
use Rattle.std.proofs.Common.{sum_by}
use Rattle.std.proofs.Common.{ltb-false, All}
use Rattle.std.specs.Prelude.{slice_index_or, option_map}
use Rattle.std.specs.List.{range_with_len}
use Rattle.swap_base.proofs.Lists.{from_range}
use Rattle.swap_digraph.specs.Graph.{arcs}
use Rattle.swap_digraph.specs.Deal.{amount}
use Rattle.escrow_core.specs.declared.reply.Reply.TheVariants.{Accepted, ClockFull, NoFunds}
use Rattle.ledger_core.specs.declared.accounts.Accounts.{Accounts}
use Rattle.ledger_core.specs.History.{published, settled, held, accounts, IsLegal}
use Rattle.ledger_core.proofs.History.{not-true}
use Rattle.swap_rules.specs.Laws.{AddsUp}
use Rattle.swap_rules.proofs.Prefixes.{same_or_not}
use Rattle.swap_rules.proofs.Units.{units_are_kept}
use Rattle.swap_run.specs.Laws.{IsGood}
use Rattle.swap_run.specs.Fair.{the_horizon}
use Rattle.swap_many.specs.declared.many_event.ManyEvent.{ManyEvent}
use Rattle.swap_many.specs.declared.many_event.ManyEvent.TheVariants.{Tick, In, Pay, Sweep}
use Rattle.swap_many.specs.declared.many_reply.ManyReply.{ManyReply}
use Rattle.swap_many.specs.declared.many_reply.ManyReply.TheVariants.{Plain}
use Rattle.swap_run.specs.Called.{Called, called}
use Rattle.swap_many.specs.Chains.{Setup, place, arc_chain, put, Emptied, Paid, Ticked, ChainEntry, chain_height, chain_ticks, has_no_tick, projection, Chains}
use Rattle.swap_many.specs.Chains.{sum_over_arcs, slot_funding, set_aside, opening_units, Units, plus, paid, returned, is_accepted_deed, first_free, free, is_swept}
use Rattle.swap_many.specs.Chains.{reply_to_call, reply_to_payment, reply_to_sweep, entered, in_accounts, unswept, in_slot, placed_units}
use Rattle.swap_many.specs.Many.{Run, swap_state, post_call, posted, done, many_step, many_start, many_run}
use Rattle.swap_many.specs.Kept.{Kept, kept_done, kept_step, kept_start, kept_run}
use Rattle.swap_many.specs.Laws.{IsReadySetup, CanPay, CanSweep, CanCome, Follows, AreGood, UnitsArePlaced, SweptAcceptNothing}
use Rattle.swap_many.specs.Sound.{AreSweptSlotsFinal, worth, Count, AreSoundChains, Keeps}
use Rattle.swap_many.proofs.Projections.{put_same, put_other, put_each, put_still, free_more, swept_more, shown_at, book_length}
use Rattle.swap_many.proofs.Tick.{entry_tick}
use Rattle.swap_many.proofs.Landed.{parse_call, call_free, call_swept}
use Rattle.swap_many.proofs.Follow.{start_follows, step_follows, step_good, tick_swept, or-end, and-end}
use Rattle.swap_many.proofs.Clocks.{step_timed}
use Rattle.swap_many.proofs.Sums.{sum_same, sum_zero, sum_plus, sum_swap, sum_put, sum_one}
use Rattle.swap_many.proofs.Over.{over_held, over_after_tick, over_after_call, over_after_payment, over_after_sweep, done_rows, over_swept, swept_refuses}

-- Sums over slots.

total_same : (m : Setup) (f g : ℕ → ℕ → ℕ) → ((s a : ℕ) → s < m.swaps → a < length (m.cast s).deal.graph.arcs → f s a ≡ g s a) → sum_over_arcs m f ≡ sum_over_arcs m g
total_same m f g e =
    sum_same (λ s. sum_by (f s) (arcs (m.cast s).deal.graph)) (λ s. sum_by (g s) (arcs (m.cast s).deal.graph)) (range_with_len 0 m.swaps)
    (λ s i. sum_same (f s) (g s) (arcs (m.cast s).deal.graph)
    (λ a j. e s a (from_range s m.swaps i) (from_range a (length (m.cast s).deal.graph.arcs) j)))

pub total_put : (m : Setup) (g : ℕ → ℕ → ℕ) (s a v : ℕ) → s < m.swaps → a < length (m.cast s).deal.graph.arcs
    → sum_over_arcs m (put g s (put (g s) a v)) + g s a ≡ sum_over_arcs m g + v
total_put m g s a v ls la =
    let e1 : sum_over_arcs m (put g s (put (g s) a v)) ≡ sum_by (put inner s (sum_by (put (g s) a v) (arcs (m.cast s).deal.graph))) (range_with_len 0 m.swaps) =
    sum_same (λ t. sum_by (put g s (put (g s) a v) t) (arcs (m.cast t).deal.graph)) (put inner s (sum_by (put (g s) a v) (arcs (m.cast s).deal.graph)))
    (range_with_len 0 m.swaps) (λ t i. at t (same_or_not t s)) in
    let e2 = sum_put inner 0 m.swaps s (sum_by (put (g s) a v) (arcs (m.cast s).deal.graph)) (omega arith) (omega arith) in
    let e3 = sum_put (g s) 0 (length (m.cast s).deal.graph.arcs) a v (omega arith) (omega arith) in
    join (sum_over_arcs m (put g s (put (g s) a v))) (sum_by (put inner s (sum_by (put (g s) a v) (arcs (m.cast s).deal.graph))) (range_with_len 0 m.swaps))
    (inner s) (sum_over_arcs m g) (sum_by (put (g s) a v) (arcs (m.cast s).deal.graph)) (g s a) e1 e2 e3
  where
    inner : ℕ → ℕ
    inner t = sum_by (g t) (arcs (m.cast t).deal.graph)

    join : (x y k z w q : ℕ) → x ≡ y → y + k ≡ z + w → w + q ≡ k + v → x + q ≡ z + v
    join x y k z w q e f h = omega arith

    at : (t : ℕ) → (t ≡ s) ⊎ (t ≢ s)
        → sum_by (put g s (put (g s) a v) t) (arcs (m.cast t).deal.graph) ≡ put inner s (sum_by (put (g s) a v) (arcs (m.cast s).deal.graph)) t
    at t (inl e) =
        subst (λ t. sum_by (put g s (put (g s) a v) t) (arcs (m.cast t).deal.graph) ≡ put inner s (sum_by (put (g s) a v) (arcs (m.cast s).deal.graph))
        t) (sym e)
        (ap (λ f. sum_by f (arcs (m.cast s).deal.graph)) (put_same g s (put (g s) a v)) ∙ sym
        (put_same inner s (sum_by (put (g s) a v) (arcs (m.cast s).deal.graph))))
    at t (inr n) =
        ap (λ f. sum_by f (arcs (m.cast t).deal.graph)) (put_other g s (put (g s) a v) t n)
        ∙ sym (put_other inner s (sum_by (put (g s) a v) (arcs (m.cast s).deal.graph)) t n)

-- The beginning.

pub start_count : (m : Setup) (i : ℕ) → IsReadySetup m → Count m i []
start_count m i ready =
    join (in_accounts m i (first_free m i)) (in_accounts m i (set_aside m i)) (sum_over_arcs m (worth m i [])) (in_accounts m i (opening_units m i))
    (sym (sum_plus (first_free m i) (set_aside m i) history_accounts)
    ∙ sum_same (λ x. first_free m i x + set_aside m i x) (opening_units m i) history_accounts (λ x j. back (opening_units m i x) (set_aside m i x) (ready.covered i x)))
    (sum_swap (λ x s. sum_by (slot_funding m i x s) (arcs (m.cast s).deal.graph)) history_accounts (range_with_len 0 m.swaps)
    ∙ (sum_same (λ s. sum_by (λ x. sum_by (slot_funding m i x s) (arcs (m.cast s).deal.graph)) history_accounts)
    (λ s. sum_by (λ a. sum_by (λ x. slot_funding m i x s a) history_accounts) (arcs (m.cast s).deal.graph)) (range_with_len 0 m.swaps)
    (λ s j. sum_swap (λ x a. slot_funding m i x s a) history_accounts (arcs (m.cast s).deal.graph))
    ∙ total_same m (λ s a. sum_by (λ x. slot_funding m i x s a) history_accounts) (worth m i []) (λ s a ls la. one s a ls la (same_or_not (arc_chain m s a) i))))
  where
    history_accounts : List ℕ
    history_accounts = range_with_len 0 (length (slice_index_or m.chains i []))

    back : (o w : ℕ) → w ≤ o → (o - w) + w ≡ o
    back o w l = omega arith

    join : (x y z w : ℕ) → x + y ≡ w → y ≡ z → x + z ≡ w
    join x y z w e f = omega arith

    one : (s a : ℕ) → s < m.swaps → a < length (m.cast s).deal.graph.arcs → (arc_chain m s a ≡ i) ⊎ (arc_chain m s a ≢ i)
        → sum_by (λ x. cond (arc_chain m s a == i) (cond (x == (place m s a).from) (amount (m.cast s).deal a) 0) 0) history_accounts
        ≡ cond (arc_chain m s a == i) (amount (m.cast s).deal a) 0
    one s a ls la (inl e) =
        ap (λ b. sum_by (λ x. cond b (cond (x == (place m s a).from) (amount (m.cast s).deal a) 0) 0) history_accounts) (eq-eqb (arc_chain m s a) i e)
        ∙ (sum_one (length (slice_index_or m.chains i [])) (place m s a).from (amount (m.cast s).deal a)
        (subst (λ j. (place m s a).from < length (slice_index_or m.chains j [])) e (ready.from s a ls la))
        ∙ sym (ap (λ b. cond b (amount (m.cast s).deal a) 0) (eq-eqb (arc_chain m s a) i e)))
    one s a ls la (inr n) =
        let k : (arc_chain m s a == i) ≡ false = not-true (arc_chain m s a == i) (λ e. n (eqb-true (arc_chain m s a) i e)) in
        ap (λ b. sum_by (λ x. cond b (cond (x == (place m s a).from) (amount (m.cast s).deal a) 0) 0) history_accounts) k
        ∙ (sum_zero (λ (x : ℕ). 0) history_accounts (λ x j. refl) ∙ sym (ap (λ b. cond b (amount (m.cast s).deal a) 0) k))

-- Entries that neither free nor sweep anything.

count_same : (m : Setup) (i : ℕ) (h new : List ChainEntry) → free m i new ≡ free m i h → ((s a : ℕ) → is_swept s a new ≡ is_swept s a h) → Count m i h
    → Count m i new
count_same m i h new f w c =
    ap₂ (λ x y. x + y) (ap (in_accounts m i) f)
    (total_same m (worth m i new) (worth m i h) (λ s a ls la. ap (λ b. cond (arc_chain m s a == i) (cond b 0 (amount (m.cast s).deal a)) 0) (w s a)))
    ∙ c

-- Payments.

plus_sum : (n : ℕ) (f : Units) (x u : ℕ) → x < n → sum_by (plus f x u) (range_with_len 0 n) ≡ sum_by f (range_with_len 0 n) + u
plus_sum n f x u l = end _ _ (f x) (sum_put f 0 n x (f x + u) (omega arith) (omega arith))
  where
    end : (p q w : ℕ) → p + w ≡ q + (w + u) → p ≡ q + u
    end p q w e = omega arith

paid_sum : (n : ℕ) (f : Units) (from to units : ℕ) → from < n → to < n → units ≤ f from
    → sum_by (paid f from to units) (range_with_len 0 n) ≡ sum_by f (range_with_len 0 n)
paid_sum n f from to units lf lt l =
    end _ _ _ (f from) (plus_sum n (put f from (f from - units)) to units lt) (sum_put f 0 n from (f from - units) (omega arith) (omega arith)) l
  where
    end : (p q g w : ℕ) → p ≡ g + units → g + w ≡ q + (w - units) → units ≤ w → p ≡ q
    end p q g w e k l = omega arith

pay_count : (m : Setup) (i from to units : ℕ) (h : List ChainEntry) → CanPay m i from to → Count m i h
    → Count m i (h ++ record { height = chain_height h; deed = Paid from to units; reply = reply_to_payment (free m i h from) units } ∷ [])
pay_count m i from to units h can c = go (nat_lt (free m i h from) units) refl
  where
    swept : (y : ManyReply) (s a : ℕ)
        → is_swept s a (h ++ record { height = chain_height h; deed = Paid from to units; reply = y } ∷ []) ≡ is_swept s a h
    swept y s a =
        swept_more s a h (record { height = chain_height h; deed = Paid from to units; reply = y })
        ∙ (ap (λ b. is_swept s a h || b) (and-end (is_accepted_deed y)) ∙ or-end (is_swept s a h))

    go : (b : Bool) → nat_lt (free m i h from) units ≡ b
        → Count m i (h ++ record {
          height = chain_height h;
          deed = Paid from to units;
          reply = cond b (Plain (NoFunds (free m i h from))) (Plain Accepted);
        } ∷ [])
    go true e =
        count_same m i h (h ++ record { height = chain_height h; deed = Paid from to units; reply = Plain (NoFunds (free m i h from)) } ∷ [])
        (free_more m i h (record { height = chain_height h; deed = Paid from to units; reply = Plain (NoFunds (free m i h from)) }))
        (swept (Plain (NoFunds (free m i h from)))) c
    go false e =
        ap₂ (λ x y. x + y)
        (ap (in_accounts m i) (free_more m i h (record { height = chain_height h; deed = Paid from to units; reply = Plain Accepted }))
        ∙ paid_sum (length (slice_index_or m.chains i [])) (free m i h) from to units can.from_known can.to_known
        (ltb-false (free m i h from) units e))
        (total_same m (worth m i (h ++ record { height = chain_height h; deed = Paid from to units; reply = Plain Accepted } ∷ [])) (worth m i h)
        (λ s a ls la. ap (λ b. cond (arc_chain m s a == i) (cond b 0 (amount (m.cast s).deal a)) 0) (swept (Plain Accepted) s a)))
        ∙ c

-- Sweeps.

module _ (m : Setup) (fair : Bool) (s a : ℕ) (h : List ChainEntry) where
  abbrev sweep_reply : ManyReply
  sweep_reply = reply_to_sweep fair (the_horizon (m.cast s).deal) (chain_height h) (is_swept s a h) (projection s a h)

  abbrev sweep_entry : ChainEntry
  sweep_entry = record {
    height = chain_height h;
    deed = Emptied s a;
    reply = reply_to_sweep fair (the_horizon (m.cast s).deal) (chain_height h) (is_swept s a h) (projection s a h);
  }

  swept_now : (b : Bool) → is_accepted_deed sweep_reply ≡ b → (t c : ℕ) → is_swept t c (h ++ sweep_entry ∷ []) ≡ (is_swept t c h || (b && ((t == s) && (c == a))))
  swept_now b q t c = swept_more t c h sweep_entry ∙ ap (λ b. is_swept t c h || (b && ((t == s) && (c == a)))) q

  free_now : (b : Bool) → is_accepted_deed sweep_reply ≡ b
      → free m (arc_chain m s a) (h ++ sweep_entry ∷ [])
      ≡ cond b (returned (free m (arc_chain m s a) h) (place m s a) (accounts (m.cast s).deal a (projection s a h))) (free m (arc_chain m s a) h)
  free_now b q =
      free_more m (arc_chain m s a) h sweep_entry
      ∙ ap (λ b. cond b (returned (free m (arc_chain m s a) h) (place m s a) (accounts (m.cast s).deal a (projection s a h))) (free m (arc_chain m s a) h)) q

  same_test : (t c : ℕ) → (t ≢ s) ⊎ (c ≢ a) → ((t == s) && (c == a)) ≡ false
  same_test t c (inl n) = ap (λ x. x && (c == a)) (not-true (t == s) (λ w. n (eqb-true t s w)))
  same_test t c (inr n) = ap (λ y. (t == s) && y) (not-true (c == a) (λ w. n (eqb-true c a w))) ∙ and-end (t == s)

  -- the slot counts for nothing more, and each other one for what it did
  worth_now : is_accepted_deed sweep_reply ≡ true → (t c : ℕ)
      → worth m (arc_chain m s a) (h ++ sweep_entry ∷ []) t c
      ≡ put (worth m (arc_chain m s a) h) s (put (worth m (arc_chain m s a) h s) a 0) t c
  worth_now q t c = go (same_or_not t s) (same_or_not c a)
    where
      none : (x y : Bool) (w : ℕ) → cond x (cond (y || true) 0 w) 0 ≡ 0
      none true true w = refl
      none true false w = refl
      none false y w = refl

      old : ((t == s) && (c == a)) ≡ false
          → worth m (arc_chain m s a) (h ++ sweep_entry ∷ []) t c ≡ worth m (arc_chain m s a) h t c
      old k =
          ap (λ b. cond (arc_chain m t c == arc_chain m s a) (cond b 0 (amount (m.cast t).deal c)) 0)
          (swept_now true q t c ∙ (ap (λ b. is_swept t c h || b) k ∙ or-end (is_swept t c h)))

      go : (t ≡ s) ⊎ (t ≢ s) → (c ≡ a) ⊎ (c ≢ a)
          → worth m (arc_chain m s a) (h ++ sweep_entry ∷ []) t c
          ≡ put (worth m (arc_chain m s a) h) s (put (worth m (arc_chain m s a) h s) a 0) t c
      go (inl e) (inl k) =
          ap (λ b. cond (arc_chain m t c == arc_chain m s a) (cond b 0 (amount (m.cast t).deal c)) 0)
          (swept_now true q t c ∙ ap (λ b. is_swept t c h || b) (ap₂ (λ x y. x && y) (eq-eqb t s e) (eq-eqb c a k)))
          ∙ (none (arc_chain m t c == arc_chain m s a) (is_swept t c h) (amount (m.cast t).deal c)
          ∙ sym (ap₂ (λ t c. put (worth m (arc_chain m s a) h) s (put (worth m (arc_chain m s a) h s) a 0) t c) e k
          ∙ (ap (λ f. f a) (put_same (worth m (arc_chain m s a) h) s (put (worth m (arc_chain m s a) h s) a 0))
          ∙ put_same (worth m (arc_chain m s a) h s) a 0)))
      go (inl e) (inr n) =
          old (same_test t c (inr n))
          ∙ sym (ap (λ t. put (worth m (arc_chain m s a) h) s (put (worth m (arc_chain m s a) h s) a 0) t c) e
          ∙ (ap (λ f. f c) (put_same (worth m (arc_chain m s a) h) s (put (worth m (arc_chain m s a) h s) a 0))
          ∙ (put_other (worth m (arc_chain m s a) h s) a 0 c n ∙ ap (λ t. worth m (arc_chain m s a) h t c) (sym e))))
      go (inr n) other =
          old (same_test t c (inl n))
          ∙ sym (ap (λ f. f c) (put_other (worth m (arc_chain m s a) h) s (put (worth m (arc_chain m s a) h s) a 0) t n))

  sweep_count : IsReadySetup m → CanSweep m s a → IsLegal (m.cast s).deal a (projection s a h) → Count m (arc_chain m s a) h
      → Count m (arc_chain m s a) (h ++ sweep_entry ∷ [])
  sweep_count ready can legal c = go (is_accepted_deed sweep_reply) refl
    where
      rows : is_accepted_deed sweep_reply ≡ true → (nat_lt (chain_height h) (the_horizon (m.cast s).deal + 1) ≡ false) × (is_swept s a h ≡ false) ×
          ((is_some (published (projection s a h)) && is_none (settled (projection s a h))) ≡ false)
      rows q =
          done_rows (nat_lt (chain_height h) (the_horizon (m.cast s).deal + 1)) (is_swept s a h)
          (is_some (published (projection s a h)) && is_none (settled (projection s a h))) (not fair && is_none (published (projection s a h)))
          (the_horizon (m.cast s).deal + 1) (held (projection s a h)) q

      b : Accounts
      b = accounts (m.cast s).deal a (projection s a h)

      was : is_accepted_deed sweep_reply ≡ true → worth m (arc_chain m s a) h s a ≡ amount (m.cast s).deal a
      was q =
          ap₂ (λ x y. cond x (cond y 0 (amount (m.cast s).deal a)) 0) (eq-eqb (arc_chain m s a) (arc_chain m s a) refl) (rows q).1

      adds : AddsUp (m.cast s).deal a (projection s a h)
      adds = units_are_kept (m.cast s).deal a (projection s a h) [] (subst (IsLegal (m.cast s).deal a) (sym (append-nil (projection s a h))) legal)

      end : (f g p q x y t u o : ℕ) → g ≡ (f + p) + q → (p + q) + u ≡ o → u ≡ 0 → t + y ≡ x + 0 → y ≡ o → g + t ≡ f + x
      end f g p q x y t u o e1 e2 e3 e4 e5 = omega arith

      go : (d : Bool) → is_accepted_deed sweep_reply ≡ d → Count m (arc_chain m s a) (h ++ sweep_entry ∷ [])
      go false q =
          count_same m (arc_chain m s a) h (h ++ sweep_entry ∷ []) (free_now false q) (λ t c. swept_now false q t c ∙ or-end (is_swept t c h)) c
      go true q =
          end (in_accounts m (arc_chain m s a) (free m (arc_chain m s a) h)) (in_accounts m (arc_chain m s a) (free m (arc_chain m s a) (h ++ sweep_entry
          ∷ [])))
          b.party b.counterparty (sum_over_arcs m (worth m (arc_chain m s a) h)) (worth m (arc_chain m s a) h s a)
          (sum_over_arcs m (worth m (arc_chain m s a) (h ++ sweep_entry ∷ []))) (held (projection s a h)) (amount (m.cast s).deal a)
          (ap (in_accounts m (arc_chain m s a)) (free_now true q)
          ∙ (plus_sum (length (slice_index_or m.chains (arc_chain m s a) [])) (plus (free m (arc_chain m s a) h) (place m s a).from b.party) (place m s a).to
          b.counterparty (ready.to s a can.swap can.arc)
          ∙ ap (λ n. n + b.counterparty) (plus_sum (length (slice_index_or m.chains (arc_chain m s a) [])) (free m (arc_chain m s a) h)
          (place m s a).from b.party
          (ready.from s a can.swap can.arc))))
          adds (over_held (projection s a h) (over_swept (projection s a h) (rows q).2))
          (ap (λ n. n + worth m (arc_chain m s a) h s a) (total_same m (worth m (arc_chain m s a) (h ++ sweep_entry ∷ []))
          (put (worth m (arc_chain m s a) h) s (put (worth m (arc_chain m s a) h s) a 0)) (λ t c lt lc. worth_now q t c))
          ∙ total_put m (worth m (arc_chain m s a) h) s a 0 can.swap can.arc)
          (was q)
          ∙ c

-- All events.

-- the projections of a run are legal
pub shown_legal : (m : Setup) (r : Run) (z : Kept) (s a : ℕ) → Follows m r z → AreGood m z → s < m.swaps → a < length (m.cast s).deal.graph.arcs
    → IsLegal (m.cast s).deal a (projection s a (r.chains (arc_chain m s a)))
shown_legal m r z s a f g ls la =
    let k : IsGood (m.cast s) (swap_state m r s) = subst (IsGood (m.cast s)) (f.swaps s ls) (g s ls) in
    subst (IsLegal (m.cast s).deal a) (shown_at m r.chains s a la) (k.legal.legal a (subst (λ n. a < n) (sym (book_length m r.chains s)) la))

-- a chain gets a history that is as sound as its own was
sound_next : (m : Setup) (h : Chains) (i : ℕ) (new : List ChainEntry) → AreSoundChains m h → AreSweptSlotsFinal new → (i < length m.chains → Count m i new)
    → AreSoundChains m (put h i new)
sound_next m h i new k o c = record {
  over = put_each (λ j l. AreSweptSlotsFinal l) h i new o k.over;
  count = put_each (λ j l. j < length m.chains → Count m j l) h i new c k.count;
}

pub step_sound : (fair : Bool) (m : Setup) (r : Run) (z : Kept) (e : ManyEvent) → IsReadySetup m → CanCome m e → Follows m r z → AreGood m z → AreSoundChains m r.chains
    → AreSoundChains m (done fair m r e).chains
step_sound fair m r z (Tick i k) ready can f g x = go (has_no_tick (chain_ticks (r.chains i)) (chain_height (r.chains i)) k)
  where
    go : (b : Bool)
        → AreSoundChains m (put r.chains i (entered (r.chains i) (record {
          height = chain_height (r.chains i) + k;
          deed = Ticked k;
          reply = cond b (Plain ClockFull) (Plain Accepted);
        })))
    go true = subst (AreSoundChains m) (sym (put_still r.chains i (r.chains i) refl)) x
    go false =
        sound_next m r.chains i (r.chains i ++ entry_tick k (r.chains i) ∷ []) x (over_after_tick k (r.chains i) (x.over i))
        (λ l. count_same m i (r.chains i) (r.chains i ++ entry_tick k (r.chains i) ∷ []) (free_more m i (r.chains i) (entry_tick k (r.chains i)))
        (λ s a. tick_swept s a k (r.chains i)) (x.count i l))
step_sound fair m r z (In s e) ready can f g x = go (called (m.cast s) (swap_state m r s) e)
  where
    go : (o : Option Called) → AreSoundChains m (posted r.chains (option_map (post_call m r s) o))
    go None = x
    go (Some c) =
        sound_next m r.chains (arc_chain m s c.arc)
        (entered (r.chains (arc_chain m s c.arc)) (parse_call s c.arc c.sender c.call (r.chains (arc_chain m s c.arc)) reply)) x
        (over_after_call m s c.arc c.sender c.call (r.chains (arc_chain m s c.arc)) (x.over (arc_chain m s c.arc)))
        (λ l. count_same m (arc_chain m s c.arc) (r.chains (arc_chain m s c.arc))
        (entered (r.chains (arc_chain m s c.arc)) (parse_call s c.arc c.sender c.call (r.chains (arc_chain m s c.arc)) reply))
        (call_free m (arc_chain m s c.arc) s c.arc c.sender c.call (r.chains (arc_chain m s c.arc)) reply)
        (λ t a. call_swept t a s c.arc c.sender c.call (r.chains (arc_chain m s c.arc)) reply) (x.count (arc_chain m s c.arc) l))
      where
        reply : ManyReply
        reply = reply_to_call m (r.chains (arc_chain m s c.arc)) s c.arc c.sender c.call
step_sound fair m r z (Pay i from to units) ready can f g x =
    sound_next m r.chains i
    (r.chains i ++ record { height = chain_height (r.chains i); deed = Paid from to units; reply = reply_to_payment (free m i (r.chains i) from) units } ∷ [])
    x (over_after_payment from to units (r.chains i) (reply_to_payment (free m i (r.chains i) from) units) (x.over i))
    (λ l. pay_count m i from to units (r.chains i) can (x.count i l))
step_sound fair m r z (Sweep s a) ready can f g x =
    sound_next m r.chains (arc_chain m s a) (r.chains (arc_chain m s a) ++ sweep_entry m fair s a (r.chains (arc_chain m s a)) ∷ []) x
    (over_after_sweep fair (the_horizon (m.cast s).deal) s a (r.chains (arc_chain m s a)) (x.over (arc_chain m s a)))
    (λ l. sweep_count m fair s a (r.chains (arc_chain m s a)) ready can (shown_legal m r z s a f g can.swap can.arc) (x.count (arc_chain m s a) l))

pub start_sound : (m : Setup) → IsReadySetup m → AreSoundChains m (many_start m).chains
start_sound m ready = record { over = λ i s a e. absurd (cc e); count = λ i l. start_count m i ready }

pub keeps_start : (m : Setup) → IsReadySetup m → Keeps m (many_start m) (kept_start m)
keeps_start m ready = let x = start_follows m ready in record { follows = x.0; good = x.1; sound = start_sound m ready; timed = λ i. omega arith }

pub keeps_step : (fair : Bool) (m : Setup) (r : Run) (z : Kept) (e : ManyEvent) → IsReadySetup m → CanCome m e → Keeps m r z
    → Keeps m (done fair m r e) (kept_done fair m z e)
keeps_step fair m r z e ready can k = record {
  follows = step_follows fair m r z e ready can k.follows k.good;
  good = step_good fair m z e ready can k.good;
  sound = step_sound fair m r z e ready can k.follows k.good k.sound;
  timed = step_timed fair m z e can k.timed;
}

keeps_from : (m : Setup) (events : List ManyEvent) (r : Run) (z : Kept) → IsReadySetup m → All (CanCome m) events → Keeps m r z
    → Keeps m (fold (many_step m) r events) (fold (kept_step m) z events)
keeps_from m [] r z ready all k = k
keeps_from m (e ∷ events) r z ready all k =
    keeps_from m events (many_step m r e) (kept_step m z e) ready (λ k d l. all (suc k) d (omega arith))
    (keeps_step false m r z e ready (all 0 e (omega arith)) k)

pub keeps_run : (m : Setup) (events : List ManyEvent) → IsReadySetup m → All (CanCome m) events → Keeps m (many_run m events) (kept_run m events)
keeps_run m events ready all = keeps_from m events (many_start m) (kept_start m) ready all (keeps_start m ready)

-- where the units count, they are placed
pub counted_is_placed : (m : Setup) (r : Run) (z : Kept) (i : ℕ) → i < length m.chains → Keeps m r z
    → placed_units m i (r.chains i) ≡ in_accounts m i (opening_units m i)
counted_is_placed m r z i l k =
    ap (λ n. in_accounts m i (free m i (r.chains i)) + n)
    (total_same m (in_slot m i (r.chains i)) (worth m i (r.chains i)) (λ s a ls la. one s a ls la (same_or_not (arc_chain m s a) i))) ∙ k.sound.count i l
  where
    slot : (s a : ℕ) → IsLegal (m.cast s).deal a (projection s a (r.chains i)) → (b : Bool) → is_swept s a (r.chains i) ≡ b
        → unswept b (accounts (m.cast s).deal a (projection s a (r.chains i))) + held (projection s a (r.chains i)) ≡ cond b 0 (amount (m.cast s).deal a)
    slot s a legal true e = none (held (projection s a (r.chains i))) (over_held (projection s a (r.chains i)) (k.sound.over i s a e))
      where
        none : (n : ℕ) → n ≡ 0 → 0 + n ≡ 0
        none n e = omega arith
    slot s a legal false e =
        units_are_kept (m.cast s).deal a (projection s a (r.chains i)) []
        (subst (IsLegal (m.cast s).deal a) (sym (append-nil (projection s a (r.chains i)))) legal)

    one : (s a : ℕ) → s < m.swaps → a < length (m.cast s).deal.graph.arcs → (arc_chain m s a ≡ i) ⊎ (arc_chain m s a ≢ i)
        → in_slot m i (r.chains i) s a ≡ worth m i (r.chains i) s a
    one s a ls la (inl e) =
        ap (λ n. cond (arc_chain m s a == i) n 0) (slot s a (subst (λ j. IsLegal (m.cast s).deal a (projection s a (r.chains j))) e
        (shown_legal m r z s a k.follows k.good ls la)) (is_swept s a (r.chains i)) refl)
    one s a ls la (inr n) =
        let q : (arc_chain m s a == i) ≡ false = not-true (arc_chain m s a == i) (λ e. n (eqb-true (arc_chain m s a) i e)) in
        ap (λ b. cond b (unswept (is_swept s a (r.chains i)) (accounts (m.cast s).deal a (projection s a (r.chains i)))
        + held (projection s a (r.chains i))) 0) q ∙ sym (ap (λ b. cond b (cond (is_swept s a (r.chains i)) 0 (amount (m.cast s).deal a)) 0) q)

pub units_are_placed : UnitsArePlaced
units_are_placed m events i ready all l = counted_is_placed m (many_run m events) (kept_run m events) i l (keeps_run m events ready all)

pub swept_accept_nothing : SweptAcceptNothing
swept_accept_nothing m events s a p c ready all ls la e =
    swept_refuses m s a p c ((many_run m events).chains (arc_chain m s a)) ((keeps_run m events ready all).sound.over (arc_chain m s a)) e
