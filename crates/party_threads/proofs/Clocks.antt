-- What a tick leaves of a clock's pass.
use Rattle.std.proofs.Common.{◌≡◌, ℕ, ◌+◌, ◌<◌, ◌≤◌, Bool, true, false, List, [], ◌∷◌, ◌++◌, length, count_by, Option, Some, None, refl, sym, ap, ◌∙◌, subst}
use Rattle.std.proofs.Common.{arith, ◌≢◌, ◌⊎◌, set, zero-add, inl, inr, append_assoc, append-nil, nat_le, ◌||◌, true≢false, if◌then◌else◌, le-ltb}
use Rattle.std.proofs.lemmas.List.Sums.{length-filter, sum_by-cons}
use Rattle.std.proofs.lemmas.List.Elements.{filter-append}
use Rattle.std.proofs.lemmas.Bool.{lt-leb}
use mathlib.Core.List.{IsPrefix}
use Rattle.swap_base.specs.Lists.{IsElement}
use Rattle.swap_base.proofs.Lists.{moment_from_in, at_moment, all_moments_front, below_or}
use Rattle.swap_rules.proofs.Prefixes.{same_or_not}
use Rattle.std.proofs.lemmas.List.{length-set, get_or-set_same, get_or-set_other}
use Rattle.std.proofs.Math.ListN.{get_or-eq_default}
use Rattle.swap_digraph.specs.declared.deal.Deal.{Deal}
use Rattle.escrow_core.specs.declared.reply.Reply.{Reply}
use Rattle.escrow_core.specs.declared.reply.Reply.TheVariants.{Accepted, ClockFull}
use Rattle.escrow_core.specs.Table.{first_row}
use Rattle.ledger_core.specs.declared.entry.Entry.{Entry}
use Rattle.ledger_core.specs.declared.entry.Sender.{Sender}
use Rattle.ledger_core.specs.declared.entry.Sender.TheVariants.{Party, Clock}
use Rattle.ledger_core.specs.declared.entry.What.{What}
use Rattle.ledger_core.specs.declared.entry.What.TheVariants.{Call as Made, Tick}
use Rattle.ledger_core.specs.History.{height, entry_ticks, is_tick, is_clock_full, reply_to_tick, IsLegal, IsLegalEntry, IsLegalMoment}
use Rattle.ledger_core.specs.Ledger.{tick_entry}
use Rattle.ledger_shared.specs.Value.{ClockState, SharedState, ticks_in_order, clock_mine, added_by_tick, HasTicked}
use Rattle.party_threads.specs.Later.{IsClockLater, arc_clock}
use Rattle.party_threads.specs.Ticks.{HasRoomForTicks, HasTickedOnce, ClockAdvanced, HaveClocksAdvanced, Ticked, HaveTicked}

-- The height of a legal history is that of its ticks.

not_raising : (s : Sender) (w : What) (d : Deal) (a : ℕ) (past : List Entry) (at : ℕ) (r : Reply) → IsLegalEntry d a past s w at r → is_tick s ≡ false
    → entry_ticks w ≡ 0
not_raising (Party p) (Made c) d a past at r l e = refl
not_raising (Party p) (Tick k) d a past at r l e = absurd l
not_raising Clock w d a past at r l e = absurd (true≢false e)

height_split : (h : List Entry) → ((e : Entry) → IsElement e h → is_tick e.sender ≡ false → entry_ticks e.what ≡ 0) → height h ≡ height (ticks_in_order h)
height_split [] f = refl
height_split (e ∷ es) f = go (height_split es (λ x i. f x (inr i))) (is_tick e.sender) refl
  where
    go : height es ≡ height (ticks_in_order es) → (b : Bool) → is_tick e.sender ≡ b
        → height (e ∷ es) ≡ height (if is_tick e.sender then e ∷ ticks_in_order es else ticks_in_order es)
    go rest true is =
        sum_by-cons (λ (x : Entry). entry_ticks x.what) e es ∙ (ap (λ n. entry_ticks e.what + n) rest
        ∙ (sym (sum_by-cons (λ (x : Entry). entry_ticks x.what) e (ticks_in_order es))
        ∙ sym (ap (λ b. height (if b then e ∷ ticks_in_order es else ticks_in_order es)) is)))
    go rest false is =
        sum_by-cons (λ (x : Entry). entry_ticks x.what) e es ∙ (ap (λ n. n + height es) (f e (inl refl) is)
        ∙ (zero-add (height es) ∙ rest ∙ sym (ap (λ b. height (if b then e ∷ ticks_in_order es else ticks_in_order es)) is)))

pub height_of_ticks : (d : Deal) (a : ℕ) (h : List Entry) → IsLegal d a h → height h ≡ height (ticks_in_order h)
height_of_ticks d a h legal = height_split h (λ e i is.
    let m = moment_from_in h e i in
    not_raising e.sender e.what d a m.0 e.height e.reply (at_moment (IsLegalMoment d a) h m.0 e legal m.1) is)

-- What was shown since has no tick.

none_more : (seen others : List Entry) → ticks_in_order others ≡ [] → ticks_in_order (seen ++ others) ≡ ticks_in_order seen
none_more seen others none =
    filter-append (λ (e : Entry). is_tick e.sender) seen others ∙ (ap (λ x. ticks_in_order seen ++ x) none ∙ append-nil (ticks_in_order seen))

-- the clock isn't full
not_full : (h : List Entry) (k : ℕ) → count_by (λ e. is_tick e.sender) h < 20000 → height h + k ≤ 1000000 → is_clock_full h k ≡ false
not_full h k few low = and_false (nat_le 20000 (count_by (λ (e : Entry). is_tick e.sender) h)) _ (lt-leb 20000 _ few) (le-ltb 1000000 (height h + k) low)
  where
    and_false : (a b : Bool) → a ≡ false → b ≡ false → (a || b) ≡ false
    and_false a b p q = ap (λ x. x || b) p ∙ q

pub accepts : (h : List Entry) (k : ℕ) → is_clock_full h k ≡ false → reply_to_tick h k ≡ Accepted
accepts h k e = ap (λ b. first_row ((b, ClockFull) ∷ [])) e

-- A tick that has room is one more tick.
module _ (d : Deal) (a k : ℕ) (p q : ClockState) (r : Reply) (room : HasRoomForTicks k p) (ticked : HasTicked p k r q) (legal : IsLegal d a q.seen)
    (whole : IsPrefix p.shared q.seen) where
  abbrev h : List Entry
  h = p.seen ++ ticked.others

  mine : ticks_in_order h ≡ clock_mine p
  mine = none_more p.seen ticked.others ticked.foreign

  -- all that the pass has then seen
  now : q.seen ≡ h ++ added_by_tick r (tick_entry k (height h + k) r)
  now = ap (λ (x : ClockState). x.seen) ticked.entries ∙ sym (append_assoc p.seen ticked.others (added_by_tick r (tick_entry k (height h + k) r)))

  legal_before : IsLegal d a h
  legal_before = all_moments_front (IsLegalMoment d a) h (added_by_tick r (tick_entry k (height h + k) r)) (subst (IsLegal d a) now legal)

  level : height h ≡ height (clock_mine p)
  level = height_of_ticks d a h legal_before ∙ ap height mine

  accepted : r ≡ Accepted
  accepted =
      let n : count_by (λ (e : Entry). is_tick e.sender) h ≡ length (clock_mine p) = sym (length-filter (λ (e : Entry). is_tick e.sender) h) ∙ ap length mine in
      ticked.reply ∙ accepts h k (not_full h k (subst (λ x. x < 20000) (sym n) room.few) (subst (λ x. x + k ≤ 1000000) (sym level) room.low))

  pub ticked_once : HasTickedOnce k p q
  ticked_once = record {
    later = (_, ticked.entries);
    mine =
        ap ticks_in_order now ∙ (filter-append (λ (e : Entry). is_tick e.sender) h (added_by_tick r (tick_entry k (height h + k) r))
        ∙ (ap (λ x. x ++ ticks_in_order (added_by_tick r (tick_entry k (height h + k) r))) mine
        ∙ (ap (λ x. clock_mine p ++ ticks_in_order (added_by_tick x (tick_entry k (height h + k) x))) accepted
        ∙ ap (λ x. clock_mine p ++ tick_entry k (x + k) Accepted ∷ []) level)));
    whole = subst (λ s. IsPrefix s q.seen) (sym (ap (λ (x : ClockState). x.shared) ticked.entries)) whole;
  }

-- Ledgers that tick, one after another.

clock_self : (p : ClockState) → IsClockLater p p
clock_self p = ([], λ i. record { lock = p.lock; deal = p.deal; arc = p.arc; shared = p.shared; seen = sym (append-nil p.seen) i })

went_self : (p : Option ClockState) → ClockAdvanced p p
went_self None = refl
went_self (Some p) = (p, refl, clock_self p)

-- So far the first k ledgers have ticked.
pub record IsTicking (ticks : ℕ) (ledgers : List SharedState) (ps : List (Option ClockState)) (k : ℕ) (qs : List (Option ClockState)) : Type 0 where
  pub places : length qs ≡ length ps
  pub gone_on : HaveClocksAdvanced ps qs
  pub ticked : (a : ℕ) → a < k → Ticked ticks (arc_clock ps a) (arc_clock qs a)
  pub left : (a : ℕ) → k ≤ a → arc_clock qs a ≡ arc_clock ps a

pub ticking_begins : (ticks : ℕ) (ledgers : List SharedState) (ps : List (Option ClockState)) (k : ℕ) → k ≡ 0 → IsTicking ticks ledgers ps k ps
ticking_begins ticks ledgers ps k e = record {
  places = refl;
  gone_on = λ a. went_self (arc_clock ps a);
  ticked = λ a lt. absurd (omega (arith, lt, e));
  left = λ a le. refl;
}

clock_same : (ps : List (Option ClockState)) (a : ℕ) (q : Option ClockState) → a < length ps → arc_clock (set ps a q) a ≡ q
clock_same ps a q l = get_or-set_same ps a q None l

clock_other : (ps : List (Option ClockState)) (a b : ℕ) (q : Option ClockState) → b ≢ a → arc_clock (set ps a q) b ≡ arc_clock ps b
clock_other ps a b q n = get_or-set_other ps a b q None n

module _ (ticks : ℕ) (ledgers : List SharedState) (ps : List (Option ClockState)) (k : ℕ) (qs : List (Option ClockState)) (i : IsTicking ticks ledgers ps k qs)
    (below : k < length qs) (q : Option ClockState) where
  at_it : arc_clock (set qs k q) k ≡ q
  at_it = clock_same qs k q below

  went_on : ClockAdvanced (arc_clock ps k) q → (a : ℕ) → (a ≡ k) ⊎ (a ≢ k) → ClockAdvanced (arc_clock ps a) (arc_clock (set qs k q) a)
  went_on w a (inl e) = subst (λ b. ClockAdvanced (arc_clock ps b) (arc_clock (set qs k q) b)) (sym e) (subst (ClockAdvanced (arc_clock ps k)) (sym at_it) w)
  went_on w a (inr n) = subst (ClockAdvanced (arc_clock ps a)) (sym (clock_other qs k a q n)) (i.gone_on a)

  -- one pass has gone on
  pub one_went : ClockAdvanced (arc_clock qs k) q → HaveClocksAdvanced ps (set qs k q)
  one_went w a = went_on (subst (λ o. ClockAdvanced o q) (i.left k (omega arith)) w) a (same_or_not a k)

  now_ticked : Ticked ticks (arc_clock ps k) q → (a : ℕ) → a < k + 1 → (a ≡ k) ⊎ (a ≢ k) → Ticked ticks (arc_clock ps a) (arc_clock (set qs k q) a)
  now_ticked t a lt (inl e) = subst (λ b. Ticked ticks (arc_clock ps b) (arc_clock (set qs k q) b)) (sym e) (subst (Ticked ticks (arc_clock ps k)) (sym at_it) t)
  now_ticked t a lt (inr n) = subst (Ticked ticks (arc_clock ps a)) (sym (clock_other qs k a q n)) (i.ticked a (omega (arith, lt, n)))

  -- one ledger has ticked
  pub ticking_on : ClockAdvanced (arc_clock qs k) q → Ticked ticks (arc_clock qs k) q → IsTicking ticks ledgers ps (k + 1) (set qs k q)
  ticking_on w t = record {
    places = length-set qs k q ∙ i.places;
    gone_on = one_went w;
    ticked = λ a lt. now_ticked (subst (λ o. Ticked ticks o q) (i.left k (omega arith)) t) a lt (same_or_not a k);
    left = λ a le. clock_other qs k a q (λ e. omega (arith, le, e)) ∙ i.left a (omega (arith, le));
  }

-- where there is no pass there is nothing to do
pub ticking_past : (ticks : ℕ) (ledgers : List SharedState) (ps : List (Option ClockState)) (k : ℕ) (qs : List (Option ClockState))
    → IsTicking ticks ledgers ps k qs → arc_clock qs k ≡ None → IsTicking ticks ledgers ps (k + 1) qs
ticking_past ticks ledgers ps k qs i none = record {
  places = i.places;
  gone_on = i.gone_on;
  ticked = λ a lt. go a lt (same_or_not a k);
  left = λ a le. i.left a (omega (arith, le));
}
  where
    here : arc_clock ps k ≡ None
    here = sym (i.left k (omega arith)) ∙ none

    go : (a : ℕ) → a < k + 1 → (a ≡ k) ⊎ (a ≢ k) → Ticked ticks (arc_clock ps a) (arc_clock qs a)
    go a lt (inl e) = subst (λ b. Ticked ticks (arc_clock ps b) (arc_clock qs b)) (sym e) (subst (λ o. Ticked ticks o (arc_clock qs k)) (sym here) none)
    go a lt (inr n) = i.ticked a (omega (arith, lt, n))

pub ticking_ends : (ticks : ℕ) (ledgers : List SharedState) (ps : List (Option ClockState)) (k : ℕ) (qs : List (Option ClockState))
    → IsTicking ticks ledgers ps k qs → length qs ≤ k → HaveTicked ticks ps qs
ticking_ends ticks ledgers ps k qs i le a = go (below_or a k)
  where
    go : (a < k) ⊎ (k ≤ a) → Ticked ticks (arc_clock ps a) (arc_clock qs a)
    go (inl lt) = i.ticked a lt
    go (inr ge) =
        let old : arc_clock ps a ≡ None = get_or-eq_default ps None (let n = i.places in omega (arith, n, le, ge)) in
        let new : arc_clock qs a ≡ None = get_or-eq_default qs None (omega (arith, le, ge)) in
        subst (λ o. Ticked ticks o (arc_clock qs a)) (sym old) new
