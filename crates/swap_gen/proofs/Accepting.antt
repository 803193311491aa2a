-- A proposed deal with all that its parties' seeds give is an accepted one.
use Rattle.std.proofs.Common.{◌≡◌, ℕ, ◌+◌, ◌-◌, ◌<◌, ◌≤◌, List, [], ◌∷◌, length, map, get_or, Option, slice_index, slice_index_or}
use Rattle.std.proofs.Common.{refl, sym, ap, ◌∙◌, subst, arith, mul-le-mul_right}
use Rattle.std.proofs.lemmas.List.{length-map, length-replicate, get_or-replicate}
use Rattle.std.proofs.lemmas.List.FromFn.{length-range_with_len, length-map-range_with_len, get_or-map-range_with_len}
use Rattle.time_bounds.specs.Times as times
use Rattle.swap_digraph.specs.Graph.{arcs, IsDist, IsFeedback, IsHeight}
use Rattle.swap_digraph.specs.Deal.{counterparty, lock_leader, locks, HasKeys, IsWellSized}
use Rattle.swap_digraph.specs.declared.deal.Deal.{Deal}
use Rattle.swap_digraph.specs.declared.deal.Mode.{Mode}
use Rattle.swap_digraph.specs.declared.deal.Mode.TheVariants.{Timelocks, Hashkeys}
use Rattle.leader_check.specs.Distance.{leader_distance}
use Rattle.leader_check.proofs.Far.{dist_is, dist_bounded, dist_by_rounds}
use Rattle.hashkey_path.proofs.Feeding.{any_id}
use Rattle.swap_rules.specs.Accepted.{IsAccepted, IsTimed}
use Rattle.swap_offer.proofs.Proposals.{is_accepted}
use Rattle.swap_offer.specs.Proposed.{HasModeLeaders, IsProposed}
use Rattle.swap_gen.specs.Made.{seed_hashlock, seed_keys, all_keys, arc_timelock, all_timelocks, seed_filled_deal, made_deal}

-- The one leader of a deal with timelocks.

pub one_of : (xs : List ℕ) → length xs ≡ 1 → xs ≡ get_or xs 0 0 ∷ []
one_of [] e = absurd (omega arith)
one_of (x ∷ []) e = refl
one_of (x ∷ y ∷ xs) e = absurd (omega arith)

pub led_by_one : (m : Mode) (d : Deal) → m ≡ Timelocks → HasModeLeaders m d → length d.leaders ≡ 1
led_by_one Timelocks d e h = h
led_by_one Hashkeys d e h = absurd (cc e)

module _ (d : Deal) (k : IsProposed d) (one : length d.leaders ≡ 1) where
  pub alone : d.leaders ≡ lock_leader d 0 ∷ []
  alone = one_of d.leaders one

  pub leader_below : lock_leader d 0 < d.graph.n
  leader_below = k.leader 0 (omega (arith, one))

  pub feedback_alone : IsFeedback d.graph (lock_leader d 0 ∷ [])
  feedback_alone = subst (IsFeedback d.graph) alone k.feedback

  pub height_alone : IsHeight d.graph (lock_leader d 0 ∷ []) k.height
  height_alone = subst (λ ls. IsHeight d.graph ls k.height) alone k.is_height

  pub dist_at : (v : ℕ) → v < d.graph.n → IsDist d.graph (lock_leader d 0) v (leader_distance d.graph (lock_leader d 0) v)
  dist_at v lt =
      let far = dist_is d.graph (lock_leader d 0) k.ends k.strong leader_below feedback_alone k.height k.height v height_alone (omega arith) lt in
      subst (IsDist d.graph (lock_leader d 0) v) (dist_by_rounds d.graph
      (lock_leader d 0) k.ends k.strong leader_below feedback_alone k.height v height_alone lt)
      far

-- What is filled in has the sizes that it should have.

keys_sized : (m : Mode) (seeds : List (Option (List ℕ))) (d e : Deal) → e.graph ≡ d.graph → e.leaders ≡ d.leaders → e.keys ≡ all_keys m seeds d → HasKeys m e
keys_sized Timelocks seeds d e g l s = s
keys_sized Hashkeys seeds d e g l s = (
  ap length s ∙ length-map-range_with_len (seed_keys seeds d) 0 d.graph.n ∙ ap (λ h. h.n) (sym g),
  λ p lt. ap (λ (ks : List (List (List ℕ))). length (slice_index_or ks p [])) s
      ∙ ap length (get_or-map-range_with_len (seed_keys seeds d) 0 d.graph.n p p [] (subst (λ h. p < h.n) g lt) (omega arith))
      ∙ length-map (locks d) _ ∙ length-range_with_len 0 (length d.leaders) ∙ ap length (sym l),
)

timelocks_sized : (m : Mode) (d : Deal) → length (all_timelocks m d) ≡ length d.graph.arcs
timelocks_sized Timelocks d = length-map-range_with_len (arc_timelock d) 0 (length d.graph.arcs)
timelocks_sized Hashkeys d = length-replicate (length d.graph.arcs) 0

pub timelock_at : (d : Deal) (a : ℕ) → a < length d.graph.arcs → slice_index (all_timelocks Timelocks d) a ≡ arc_timelock d a
timelock_at d a lt = get_or-map-range_with_len (arc_timelock d) 0 (length d.graph.arcs) a a 0 lt (omega arith)

-- a distance is at most the bound
pub dist_low : (d : Deal) (k : IsProposed d) → length d.leaders ≡ 1 → (v : ℕ) → v < d.graph.n → leader_distance d.graph (lock_leader d 0) v ≤ 64
dist_low d k one v lt =
    let b = dist_bounded d.graph (lock_leader d 0) k.ends k.strong (leader_below d k one) (feedback_alone d k one) k.height v
    (leader_distance d.graph (lock_leader d 0) v) (height_alone d k one) (dist_at d k one v lt) in
    let m : times.need d.graph.n 1 k.height ≤ d.bound = subst (λ n. times.need d.graph.n n k.height ≤ d.bound) one k.bound.0 in
    let most = k.bound.1 in
    omega (arith, b, m, most)

timelocks_low : (m : Mode) (d : Deal) → IsProposed d → HasModeLeaders m d → (a : ℕ) → a < length d.graph.arcs → slice_index (all_timelocks m d) a ≤ 1000000
timelocks_low Timelocks d k one a lt =
    let e = timelock_at d a lt in
    let far = dist_low d k one (counterparty d a) (k.ends.to a lt) in
    let b = k.bound.1 in
    let s = k.start.1 in
    let t = k.delta.1 in
    let n : d.bound + 1 + leader_distance d.graph (lock_leader d 0) (counterparty d a) ≤ 129 = omega (arith, far, b) in
    let m = mul-le-mul_right d.delta n in
    omega (arith, e, m, s, t)
timelocks_low Hashkeys d k one a lt = let e = get_or-replicate {A = ℕ} (length d.graph.arcs) a 0 0 lt in omega (arith, e)

pub filled_is_sized : (seeds : List (Option (List ℕ))) (d : Deal) → IsProposed d → IsWellSized (seed_filled_deal seeds d)
filled_is_sized seeds d k = record {
  ends = k.ends;
  parties = k.parties;
  arcs = k.arcs;
  leaders = k.leaders;
  leader = k.leader;
  start = k.start.1;
  delta = k.delta.1;
  bound = k.bound.1;
  amounts = k.one_amount_each;
  amount = λ a lt. (k.amounts a lt).1;
  hashlocks = length-map d.leaders (seed_hashlock seeds);
  keys = keys_sized d.mode seeds d (seed_filled_deal seeds d) refl refl refl;
  timelocks = timelocks_sized d.mode d;
  timelock = timelocks_low d.mode d k k.led;
}

same_timelocks : (m : Mode) (d : Deal) (hs : List (List ℕ)) (ks : List (List (List ℕ)))
    → all_timelocks m (record d { hashlocks = hs; keys = ks }) ≡ all_timelocks m d
same_timelocks Timelocks d hs ks = refl
same_timelocks Hashkeys d hs ks = refl

-- filled in one after another
pub sized_with : (seeds : List (Option (List ℕ))) (d : Deal) (hs : List (List ℕ)) (ks : List (List (List ℕ))) (ts : List ℕ) → IsProposed d
    → hs ≡ map (seed_hashlock seeds) d.leaders → ks ≡ all_keys d.mode seeds d
    → ts ≡ all_timelocks d.mode (record d { hashlocks = hs; keys = ks }) → IsWellSized (record d { hashlocks = hs; keys = ks; timelocks = ts })
sized_with seeds d hs ks ts k eh ek et =
    subst (λ (x : List (List ℕ)). IsWellSized (record d { hashlocks = x; keys = ks; timelocks = ts })) (sym eh)
    (subst (λ (x : List (List (List ℕ))). IsWellSized (record d { hashlocks = map (seed_hashlock seeds) d.leaders; keys = x; timelocks = ts })) (sym ek)
    (subst (λ (x : List ℕ). IsWellSized (record d { hashlocks = map (seed_hashlock seeds) d.leaders; keys = all_keys d.mode seeds d; timelocks = x }))
    (sym (et ∙ same_timelocks d.mode d hs ks)) (filled_is_sized seeds d k)))

-- Acceptance.

timed_by : (m : Mode) (seeds : List (Option (List ℕ))) (d : Deal) (e : Deal) → IsProposed d → HasModeLeaders m d → e ≡ made_deal seeds d
    → e.timelocks ≡ all_timelocks m d → IsTimed m e
unfolding made_deal
timed_by Timelocks seeds d e k one s t = rw s (
  one,
  λ a lt. record {
    dist = leader_distance d.graph (lock_leader d 0) (counterparty d a);
    is_dist = dist_at d k one (counterparty d a) (k.ends.to a lt);
    timelock = ap (λ (ts : List ℕ). slice_index ts a) (ap (λ x. x.timelocks) (sym s) ∙ t) ∙ timelock_at d a lt;
  },
)
timed_by Hashkeys seeds d e k one s t = λ a lt. ap (λ (ts : List ℕ). slice_index ts a) t
    ∙ get_or-replicate {A = ℕ} (length d.graph.arcs) a 0 0 (subst (λ x. a < length x.graph.arcs) s lt)

pub made_is_accepted : (seeds : List (Option (List ℕ))) (d : Deal) → IsProposed d → IsAccepted (made_deal seeds d)
unfolding made_deal
made_is_accepted seeds d k =
    let e = made_deal seeds d in
    let sized = filled_is_sized seeds d k in
    is_accepted d e.hashlocks e.keys e.timelocks e.id k sized.hashlocks (keys_sized d.mode seeds d e refl refl refl) sized.timelocks
    (timed_by d.mode seeds d e k k.led refl refl) (sym (any_id (seed_filled_deal seeds d) e.id))

pub made_accepted : (seeds : List (Option (List ℕ))) (d e : Deal) → IsProposed d → e ≡ made_deal seeds d → IsAccepted e
made_accepted seeds d e k is = subst IsAccepted (sym is) (made_is_accepted seeds d k)
