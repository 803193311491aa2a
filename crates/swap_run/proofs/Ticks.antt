-- The ticks of a round raise each ledger that isn't above the horizon by one height.
use Rattle.std.proofs.Common.{count_by, ◌≡◌, ◌≢◌, ◌⊎◌, ℕ, suc, zero, ◌+◌, ◌*◌, ◌<◌, ◌≤◌, nat_lt, nat_le, Bool, true, false, cond, ◌||◌, List, [], ◌∷◌}
use Rattle.std.proofs.Common.{◌++◌, length, fold, refl, sym, ap, ap₂, ◌∙◌, subst, inl, inr, arith, leb-true, le-ltb, mul-le-mul_right}
use Rattle.std.specs.List.{range_with_len}
use Rattle.std.proofs.lemmas.List.Sums.{sum_by-append, sum_by-cons}
use Rattle.swap_base.proofs.Lists.{at_moment, all_moments_front, grow}
use Rattle.swap_digraph.specs.declared.deal.Deal.{Deal}
use Rattle.escrow_core.specs.declared.reply.Reply.{Reply}
use Rattle.escrow_core.specs.declared.reply.Reply.TheVariants.{Accepted}
use Rattle.ledger_core.specs.declared.entry.Sender.{Sender}
use Rattle.ledger_core.specs.declared.entry.Sender.TheVariants.{Party, Clock}
use Rattle.ledger_core.specs.declared.entry.What.{What}
use Rattle.ledger_core.specs.declared.entry.What.TheVariants.{Call as Made, Tick as Ticks}
use Rattle.ledger_core.specs.declared.entry.Entry.{Entry}
use Rattle.ledger_core.specs.History.{height, entry_ticks, is_tick, is_clock_full, IsLegal, IsLegalMoment, IsLegalEntry}
use Rattle.ledger_core.specs.Ledger.{tick_entry}
use Rattle.ledger_core.specs.Book.{history}
use Rattle.swap_job.specs.declared.event.Event.TheVariants.{Tick}
use Rattle.swap_rules.specs.Accepted.{IsAccepted}
use Rattle.ledger_core.proofs.History.{not-true}
use Rattle.swap_rules.proofs.Prefixes.{begins_refl, begins_more, same_or_not}
use Rattle.swap_rules.proofs.Growth.{Grows}
use Rattle.swap_rules.proofs.Conducting.{next_grows, history_same, history_other}
use Rattle.swap_run.specs.Run.{Cast, State, after_tick, step}
use Rattle.swap_run.specs.Laws.{IsReadyCast, IsGood}
use Rattle.swap_run.specs.Fair.{the_horizon, raised, tick_low}
use Rattle.swap_run.proofs.Entries.{tick_room, next_tick}
use Rattle.swap_run.proofs.Good.{in_book, steps_are_good}
use Rattle.ledger_core.proofs.Bounds.{height-push}

-- In a legal history each tick adds to the height.

clocks : List Entry → ℕ
clocks h = count_by (λ e. is_tick e.sender) h

clocks_push : (h : List Entry) (e : Entry) → clocks (h ++ e ∷ []) ≡ clocks h + cond (is_tick e.sender) 1 0
unfolding clocks
clocks_push h e =
    let e1 : clocks (h ++ e ∷ []) ≡ clocks h + clocks (e ∷ []) = sum_by-append (λ z. cond (is_tick z.sender) 1 0) h (e ∷ []) in
    let e2 : clocks (e ∷ []) ≡ cond (is_tick e.sender) 1 0 + clocks [] = sum_by-cons (λ z. cond (is_tick z.sender) 1 0) e [] in
    let e3 : clocks [] ≡ 0 = refl in
    omega arith

tick_some : (d : Deal) (a : ℕ) (past : List Entry) (s : Sender) (w : What) (at : ℕ) (r : Reply) → IsLegalEntry d a past s w at r
    → ◌≤◌ (cond {A = ℕ} (is_tick s) 1 0) (entry_ticks w)
tick_some d a past (Party p) w at r l = omega arith
tick_some d a past Clock (Ticks k) at r l = l.some
tick_some d a past Clock (Made c) at r l = absurd l

clocks_low : (d : Deal) (a : ℕ) (h : List Entry) → IsLegal d a h → clocks h ≤ height h
unfolding clocks
clocks_low d a h l = grow (λ h. IsLegal d a h → clocks h ≤ height h) h (λ l. let z : clocks [] ≡ 0 = refl in omega arith) (λ xs x rest l.
    let l0 = rest (all_moments_front (IsLegalMoment d a) xs (x ∷ []) l) in
    let e = at_moment (IsLegalMoment d a) (xs ++ x ∷ []) xs x l ([], refl) in
    let t = tick_some d a xs x.sender x.what x.height x.reply e in
    let h1 = height-push xs x in
    let h2 = clocks_push xs x in
    omega arith) l

-- One tick.

pub horizon_low : (d : Deal) → IsAccepted d → the_horizon d ≤ 14000
horizon_low d k =
    let b : d.bound ≤ 64 = k.bound.1 in
    let e : d.delta ≤ 100 = k.delta.1 in
    let s : d.start ≤ 1000 = k.start.1 in
    let m : (2 * d.bound + 2) * d.delta ≤ 130 * d.delta = mul-le-mul_right d.delta (omega arith) in
    omega arith

has_room : (d : Deal) (a : ℕ) (h : List Entry) → IsAccepted d → IsLegal d a h → height h ≤ the_horizon d → is_clock_full h 1 ≡ false
unfolding clocks
has_room d a h k l low =
    let c = clocks_low d a h l in
    let z = horizon_low d k in
    let a1 : nat_le 20000 (clocks h) ≡ false = not-true _ (λ e. let y : 20000 ≤ clocks h = leb-true 20000 _ e in absurd (omega arith)) in
    let a2 : nat_lt 1000000 (height h + 1) ≡ false = le-ltb 1000000 (height h + 1) (omega arith) in
    ap₂ (λ x y. x || y) a1 a2

tick_raises : (d : Deal) (a : ℕ) (h : List Entry) → IsAccepted d → IsLegal d a h → height h ≤ the_horizon d → height (after_tick 1 h) ≡ height h + 1
tick_raises d a h k l low = ap height (tick_room 1 h (has_room d a h k l low)) ∙ height-push h (tick_entry 1 (height h + 1) Accepted)

-- What a tick of the ledger of arc a leaves, where it is low.
record TickedOne (c : Cast) (a : ℕ) (s t : State) : Type 0 where
  good : IsGood c t
  notes_same : t.notes ≡ s.notes
  here : height (history t.book a) ≡ raised c.deal (height (history s.book a))
  others : (z : ℕ) → z ≢ a → history t.book z ≡ history s.book z
  grows : Grows s.book t.book

-- What the ticks of m ledgers from arc k on leave.
pub record Ticked (c : Cast) (k m : ℕ) (s t : State) : Type 0 where
  pub good : IsGood c t
  pub notes_same : t.notes ≡ s.notes
  pub at : (a : ℕ) → k ≤ a → a < k + m → height (history t.book a) ≡ raised c.deal (height (history s.book a))
  pub below : (a : ℕ) → a < k → history t.book a ≡ history s.book a
  pub grows : Grows s.book t.book

module _ (c : Cast) (ready : IsReadyCast c) where
  tick_one : (s : State) (a : ℕ) → a < length c.deal.graph.arcs → IsGood c s → TickedOne c a s (tick_low c s a)
  tick_one s a l g = go (nat_le (height (history s.book a)) (the_horizon c.deal)) refl
    where
      go : (y : Bool) → nat_le (height (history s.book a)) (the_horizon c.deal) ≡ y → TickedOne c a s (cond y (step c s (Tick a 1)) s)
      go true e = record {
        good = steps_are_good c s (Tick a 1) ready (record { arc = l; some = omega arith; few = omega arith }) g;
        notes_same = refl;
        here = ap height (history_same s.book a (after_tick 1 (history s.book a)) (in_book c s a g l))
            ∙ (tick_raises c.deal a (history s.book a) ready.accepted (g.legal.legal a (in_book c s a g l))
            (leb-true (height (history s.book a)) (the_horizon c.deal) e)
            ∙ sym (ap (λ z. cond {A = ℕ} z (height (history s.book a) + 1) (height (history s.book a))) e));
        others = λ z n. history_other s.book a z (after_tick 1 (history s.book a)) n;
        grows =
            next_grows c.deal s.book a (after_tick 1 (history s.book a)) Clock (Ticks 1) (in_book c s a g l)
            (next_tick c.deal a (history s.book a) 1 (omega arith) (omega arith));
      }
      go false e = record {
        good = g;
        notes_same = refl;
        here = sym (ap (λ z. cond {A = ℕ} z (height (history s.book a) + 1) (height (history s.book a))) e);
        others = λ z n. refl;
        grows = λ z. begins_refl (history s.book z);
      }

  pub ticks_all : (m k : ℕ) (s : State) → k + m ≤ length c.deal.graph.arcs → IsGood c s → Ticked c k m s (fold (tick_low c) s (range_with_len k m))
  ticks_all zero k s l g =
      record { good = g; notes_same = refl; at = λ a low high. absurd (omega arith); below = λ a b. refl; grows = λ a. begins_refl (history s.book a) }
  ticks_all (suc m) k s l g =
      let one = tick_one s k (omega arith) g in
      let x = ticks_all m (k + 1) (tick_low c s k) (omega arith) one.good in
      join (tick_low c s k) (fold (tick_low c) (tick_low c s k) (range_with_len (k + 1) m)) one x
    where
      join : (mid t : State) → TickedOne c k s mid → Ticked c (k + 1) m mid t → Ticked c k (suc m) s t
      join mid t one x = record {
        good = x.good;
        notes_same = x.notes_same ∙ one.notes_same;
        at = λ a lo hi. at a lo hi (same_or_not a k);
        below = λ a b. x.below a (omega arith) ∙ one.others a (λ e. let q : ◌≡◌ {A = ℕ} a k = e in omega arith);
        grows = λ a. begins_more (history s.book a) (history mid.book a) (history t.book a) (one.grows a) (x.grows a);
      }
        where
          at : (a : ℕ) → k ≤ a → a < k + suc m → (a ≡ k) ⊎ (a ≢ k) → height (history t.book a) ≡ raised c.deal (height (history s.book a))
          at a lo hi (inl e) =
              subst (λ z. height (history t.book z) ≡ raised c.deal (height (history s.book z))) (sym e) (ap height (x.below k (omega arith))
              ∙ one.here)
          at a lo hi (inr n) = x.at a (let q : ◌≢◌ {A = ℕ} a k = n in omega arith) (omega arith) ∙ ap (λ h. raised c.deal (height h)) (one.others a n)
