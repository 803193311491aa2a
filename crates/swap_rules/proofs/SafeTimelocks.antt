-- With timelocks, no conducted party that unlocks and claims, and in whose name nothing is forged,
-- ends underwater.
use Rattle.std.proofs.Common.{◌≡◌, ◌≢◌, ℕ, ◌+◌, ◌<◌, ◌≤◌, Bool, true, false, cond, not, slice_index, ◌-◌, if◌then◌else◌, max, ◌&&◌, ◌||◌, length}
use Rattle.std.proofs.Common.{Option, Some, None, is_some, refl, sym, ap, ◌∙◌, subst, arith}
use Rattle.std.proofs.lemmas.Bool.{false≢true}
use Rattle.swap_base.specs.Lists.{IsElement, greatest}
use Rattle.swap_base.proofs.Lists.{from_whole, moment_from_in, list_all-in, list_any-in, or-right, from_range, and_both, greatest-below}
use Rattle.swap_digraph.specs.declared.deal.Deal.{Deal}
use Rattle.swap_digraph.specs.declared.deal.Mode.TheVariants.{Timelocks}
use Rattle.swap_digraph.specs.Graph.{leaving, entering, is_listed}
use Rattle.swap_digraph.specs.Deal.{locks, leads}
use Rattle.hashkey_path.specs.declared.hashkey.Hashkey.{Hashkey}
use Rattle.escrow_core.specs.Terms.{stated_terms, last_unlock}
use Rattle.ledger_core.specs.declared.entry.Call.TheVariants.{Unlock}
use Rattle.ledger_core.specs.History.{Opening, opened, is_open}
use Rattle.ledger_core.specs.Book.{Histories, history, IsLegalBook}
use Rattle.swap_rules.specs.declared.outcome.Outcome.TheVariants.{Underwater}
use Rattle.swap_rules.specs.Party.{is_ready, ready_height, is_triggered, first_key, opens_without_party}
use Rattle.swap_rules.specs.Conduct.{IsConducted}
use Rattle.swap_rules.specs.Late.{height_of_opening, unlock_base, when, reference_height}
use Rattle.swap_rules.specs.Forged.{forges}
use Rattle.swap_rules.specs.Outcome.{outcome, EnteringHaveEnded}
use Rattle.swap_rules.proofs.Entering.{DueUnlock, UnlocksInTime, parse_call, call_due, ready_below, gets_all}
use Rattle.swap_digraph.proofs.Paths.{in-is_listed}
use Rattle.swap_rules.proofs.Words.{enters, act_of}
use Rattle.swap_rules.proofs.Times.{TimelockLaw, last-timelock, below_horizon, times_of_timelocks, no_path}
use Rattle.ledger_core.proofs.History.{is_some-of, lock-below}
use Rattle.swap_rules.specs.Laws.{IsUnforged}
use Rattle.swap_rules.specs.Walking.{UnlocksAll, ClaimsAll, HasLost, IsUnrevealed}
use Rattle.swap_rules.proofs.Leaving.{underwater_lost, underwater_missing, Shown, shown_timelocks, Opener, opener_at, triggered_ready, is_known, Passing, enabled_parts, opener, presents}
use Rattle.time_bounds.specs.Times as times

module _ (d : Deal) (b : Histories) (v : ℕ) (legal : IsLegalBook d b) (conducted : IsConducted d b v)
    (law : TimelockLaw d) where
  some_lock : 0 < length d.leaders
  some_lock = (times_of_timelocks d law).lock

  module _ (ready : is_ready d b v ≡ true) where
    g_low : ready_height d b v ≤ times.opening_deadline d.start d.delta d.bound
    g_low = ready_below d b v legal conducted (times_of_timelocks d law) ready

    -- what was opened on a leaving arc can be passed on in time
    base_low : (a : ℕ) → IsElement a (entering d.graph v) → leads d v 0 ≡ false → (o : Option Hashkey)
        → unlock_base d.mode d b v 0 o + d.delta ≤ slice_index d.timelocks a
    base_low a w l o =
        let early : times.opening_deadline d.start d.delta d.bound + d.delta ≤ slice_index d.timelocks a = law.opens a (enters d v a w).0 in
        let k : unlock_base d.mode d b v 0 o ≡ greatest (λ c. height_of_opening (opened (history b c) 0)) (leaving d.graph v) =
        ap (λ m. unlock_base m d b v 0 o) law.mode in
        let low : greatest (λ c. height_of_opening (opened (history b c) 0)) (leaving d.graph v) ≤ slice_index d.timelocks a - d.delta =
        greatest-below (λ c. height_of_opening (opened (history b c) 0)) (leaving d.graph v) (slice_index d.timelocks a - d.delta) (λ c z.
        go c z (opened (history b c) 0) refl) in
        omega arith
      where
        go : (c : ℕ) → IsElement c (leaving d.graph v) → (o : Option Opening) → opened (history b c) 0 ≡ o
            → height_of_opening o ≤ slice_index d.timelocks a - d.delta
        go c z None e = omega arith
        go c z (Some x) e =
            let u = opener_at d b v legal conducted some_lock c 0 z x e in
            let in_time : x.height ≤ last_unlock d.mode (stated_terms d c) x.key = u.in_time in
            let same : last_unlock d.mode (stated_terms d c) x.key ≡ slice_index d.timelocks c = last-timelock d (stated_terms d c) x.key law.mode in
            let step : slice_index d.timelocks c + d.delta ≤ slice_index d.timelocks a = law.steps v a c w z l in
            omega arith

    -- a known lock makes the unlock of every entering arc due
    due_known_zero : (a : ℕ) → IsElement a (entering d.graph v) → is_known d b v 0 ≡ true → DueUnlock d b v a 0
    unfolding reference_height
    due_known_zero a w known = go (leads d v 0) refl
      where
        on : (is_listed a (entering d.graph v) && is_ready d b v && is_known d b v 0) ≡ true
        on =
            and_both (is_listed a (entering d.graph v) && is_ready d b v) _
            (and_both (is_listed a (entering d.graph v)) (is_ready d b v) (in-is_listed a (entering d.graph v) w) ready) known

        due_at : (r : ℕ) → (if leads d v 0 then ready_height d b v else max (ready_height d b v) (unlock_base d.mode d b v 0 (first_key b v 0))) ≡ r
            → r + d.delta ≤ slice_index d.timelocks a → DueUnlock d b v a 0
        due_at r e low =
            let last : slice_index d.timelocks a ≤ times.last_expiry d.start d.delta d.bound = law.ends a (enters d v a w).0 in
            let more = below_horizon d.start d.bound d.delta in
            record {
              within = some_lock;
              ref = r;
              value = sym e;
              enabled =
                  ap (λ x. when x (if leads d v 0 then ready_height d b v else max (ready_height d b v) (unlock_base d.mode d b v 0 (first_key b v 0)))) on
                  ∙ ap Some e;
              ends = omega arith;
              early = λ key valid first. let same : last_unlock d.mode (stated_terms d a) key ≡ slice_index d.timelocks a =
                  last-timelock d (stated_terms d a) key law.mode in omega arith;
            }

        go : (x : Bool) → leads d v 0 ≡ x → DueUnlock d b v a 0
        go true e =
            let g = g_low in
            let early : times.opening_deadline d.start d.delta d.bound + d.delta ≤ slice_index d.timelocks a = law.opens a (enters d v a w).0 in
            due_at (ready_height d b v) (ap (λ x. cond x (ready_height d b v) (max (ready_height d b v) (unlock_base d.mode d b v 0 (first_key b v 0)))) e)
            (omega arith)
        go false e =
            let g = g_low in
            let early : times.opening_deadline d.start d.delta d.bound + d.delta ≤ slice_index d.timelocks a = law.opens a (enters d v a w).0 in
            let base = base_low a w e (first_key b v 0) in
            due_at (max (ready_height d b v) (unlock_base d.mode d b v 0 (first_key b v 0)))
            (ap (λ x. cond x (ready_height d b v) (max (ready_height d b v) (unlock_base d.mode d b v 0 (first_key b v 0)))) e) (omega arith)

    due_known : (a i : ℕ) → IsElement a (entering d.graph v) → i < length d.leaders → is_known d b v i ≡ true → DueUnlock d b v a i
    due_known a i w below known =
        let one : length d.leaders ≡ 1 = law.one in
        let first : i ≡ 0 = omega arith in
        subst (λ j. DueUnlock d b v a j) (sym first) (due_known_zero a w (subst (λ j. is_known d b v j ≡ true) first known))

  -- an opened leaving arc makes its lock known
  known_open : (c i : ℕ) → IsElement c (leaving d.graph v) → is_open (history b c) i ≡ true → is_known d b v i ≡ true
  known_open c i z t =
      let o = is_some-of (opened (history b c) i) t in
      let u = opener_at d b v legal conducted some_lock c i z o.0 o.1 in
      or-right (leads d v i || is_some (first_key b v i)) _ (list_any-in (λ c. opens_without_party v (opened (history b c) i)) (leaving d.graph v) c
      (ap (opens_without_party v) o.1 ∙ ap (λ p. not (is_listed v p)) (no_path d c o.0.key law.mode u.path)) z)

  module _ (unforged : IsUnforged d b v) where
    shown : (a i : ℕ) → i < length d.leaders → IsElement a (leaving d.graph v) → leads d v i ≡ true → (o : Opening)
        → Opener d b v legal conducted some_lock a i o → Shown b v
    shown a i below w l o u =
        let f : forges Timelocks d b v (Some (Unlock o.key)) ≡ false =
        ap (λ m. forges m d b v (Some (Unlock o.key))) (sym law.mode) ∙ (ap (forges d.mode d b v) (sym u.took) ∙ unforged a u.past u.now w u.stands) in
        shown_timelocks d b v o.key f u.secret (ap (leads d v) u.lock ∙ l)

    ready_once : (a : ℕ) → IsElement a (leaving d.graph v) → is_triggered d b a ≡ true → is_ready d b v ≡ true
    ready_once = triggered_ready d b v legal conducted some_lock shown

    -- a leader that presented no hashkey for its lock has lost nothing
    unrevealed_timelocks : IsUnrevealed d b v → (a : ℕ) → IsElement a (leaving d.graph v) → is_triggered d b a ≡ true → ⊥
    unrevealed_timelocks n a w t =
        let o = opener d b v legal conducted some_lock a n.lock w t n.below in
        let s = shown a n.lock n.below w n.own o.0 o.1 in
        let y = from_whole b s.entry s.stands in
        let m = moment_from_in (history b y.0) s.entry y.2 in
        let act = (act_of d y.0 (history b y.0) m.0 s.entry (Unlock s.key) v (legal.legal y.0 y.1) m.1 s.called).0 in
        let low : s.key.lock < length d.leaders = lock-below d y.0 s.key act.fits in
        let below : n.lock < length d.leaders = n.below in
        let one : length d.leaders ≡ 1 = law.one in
        let same : s.key.lock ≡ n.lock = omega arith in
        false≢true (sym (ap is_some n.none) ∙ presents b v n.lock s.entry s.key s.stands s.called same)

    pub passing_timelocks : Passing d b v
    passing_timelocks = record { ready = ready_once; known = known_open; due = due_known }

    -- A conducted party that unlocks and claims, and is not forged on a leaving arc, never ends
    -- underwater.
    safety_timelocks : (HasLost d b v → UnlocksAll d b v) → (HasLost d b v → ClaimsAll d b v) → outcome d b v ≢ Underwater
    safety_timelocks unlocks claims e =
        let lost = underwater_lost d b v e in
        let missing = underwater_missing d b v e in
        let ready = ready_once lost.0 lost.1 lost.2 in
        let stake = list_any-in (is_triggered d b) (leaving d.graph v) lost.0 lost.2 lost.1 in
        let has = gets_all d b v legal conducted (times_of_timelocks d law) ready (claims stake)
        (λ a i w k.
        let below = from_range i (length d.leaders) k in
        let due = due_known ready a i w below (known_open lost.0 i lost.1 (list_all-in (is_open (history b lost.0)) (locks d) i lost.2 k)) in
        parse_call d b v i a (unlocks stake i a due.ref below due.enabled)) missing.0 missing.1 in
        false≢true (sym missing.2 ∙ has)

-- an enabled unlock that isn't late is called while its hashkey is accepted
pub timelocks_unlock : (d : Deal) (b : Histories) (v : ℕ) → TimelockLaw d → IsLegalBook d b → EnteringHaveEnded d b v → IsConducted d b v → UnlocksInTime d b v → UnlocksAll d b v
timelocks_unlock d b v law legal ended conducted unlocks i a r below enabled =
    let e = enabled_parts d b v i a r enabled in
    let due = due_known d b v legal conducted law e.ready a i e.enters below e.known in
    let c = call_due d b v legal ended conducted unlocks a i e.enters due in
    record { past = c.past; now = c.now; key = c.key; stands = c.stands; called = c.called; lock = c.lock; in_time = c.last }

pub timelocks_are_safe : (d : Deal) (b : Histories) (v : ℕ) → TimelockLaw d → IsLegalBook d b → IsConducted d b v
    → (HasLost d b v → UnlocksAll d b v) → (HasLost d b v → ClaimsAll d b v) → IsUnforged d b v → outcome d b v ≢ Underwater
timelocks_are_safe d b v law legal conducted unlocks claims unforged = safety_timelocks d b v legal conducted law unforged unlocks claims

pub timelocks_unrevealed : (d : Deal) (b : Histories) (v : ℕ) → TimelockLaw d → IsLegalBook d b → IsConducted d b v → IsUnforged d b v → IsUnrevealed d b v
    → (a : ℕ) → IsElement a (leaving d.graph v) → is_triggered d b a ≡ true → ⊥
timelocks_unrevealed d b v law legal conducted unforged n = unrevealed_timelocks d b v legal conducted law unforged n
