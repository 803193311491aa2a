-- An event that is answered fits its deal.
use Rattle.std.proofs.Common.{◌≡◌, ℕ, ◌<◌, ◌&&◌, ◌||◌, ◌==◌, Bool, true, false, length, slice_index_or, List, Ok, Err, Option, None, refl}
use Rattle.std.proofs.Common.{sym, ap, ◌∙◌}
use Rattle.std.proofs.Common.{[], ◌∷◌, cond, is_some, subst, arith}
use Rattle.std.specs.List.{list_all}
use Rattle.std.specs.Prelude.{unwrap_or, IsTrue, codes}
use Rattle.swap_base.proofs.Lists.{and_both}
use Rattle.swap_digraph.specs.declared.deal.Deal.{Deal}
use Rattle.swap_digraph.specs.Deal.{IsWellSized, party, counterparty}
use Rattle.swap_job.specs.declared.job.Job.{Job}
use Rattle.swap_job.specs.declared.moves.Move.{Move}
use Rattle.swap_job.specs.declared.moves.Move.TheVariants.{Publish, Craft, Replay, Raw, Claim, Refund, Transfer, Wait}
use Rattle.swap_job.specs.declared.event.Event.{Event}
use Rattle.swap_job.specs.declared.event.Event.TheVariants.{Tick, Look, Act, Call, Crash}
use Rattle.swap_job.specs.Crafted.{Seeds}
use Rattle.swap_job.specs.Fitting.{IsFitting}
use Rattle.swap_job.specs.Resolved.{move_arc}
use Rattle.swap_job.specs.Step.{CanStep, IsJobEvent}
use Rattle.command_input.specs.declared.reason.Reason.TheVariants.{NoSeed, NotConforming}
use Rattle.offer_moves.specs.FieldLimits.{ranged_number}
use Rattle.offer_moves.specs.Names.{party_of_name}
use Rattle.offer_moves.specs.declared.raw.RawMove.{RawMove}
use Rattle.offer_moves.specs.Moves.{deal_sizes, parse_arc, parse_move}
use Rattle.offer_moves.specs.Placed.{deviating, adjacent, placed}
use Rattle.offer_moves.specs.Kept.{AreSeeded, IsMadeMove}
use Rattle.offer_moves.proofs.Made.{arc_fits, adjacent_fits, move_made, placed_fits}
use Rattle.offer_events.specs.declared.raw.RawEvent.{RawEvent}
use Rattle.offer_events.specs.declared.raw.RawEvent.TheVariants as raw_events
use Rattle.offer_events.specs.Event.{event_of_tick, event_of_look, event_of_act, permitted, event_of_call, event_of_crash, checked_event}
use Rattle.offer_events.specs.Event.{each_seeded, needs_seeds, crafted_with_seeds, conforming_crash}
use Rattle.offer_moves.proofs.Chains.{went}
use Rattle.offer_moves.proofs.Ranges.{number_within_ok, party_below}

all_seeded : (seeds : Seeds) (vs : List ℕ) (u : Unit {0}) → each_seeded seeds vs ≡ Ok u → list_all (λ v. is_some (slice_index_or seeds v None)) vs ≡ true
all_seeded seeds [] u e = refl
all_seeded seeds (v ∷ vs) u e = go (is_some (slice_index_or seeds v None)) refl e (all_seeded seeds vs u)
  where
    go : (b : Bool) → is_some (slice_index_or seeds v None) ≡ b → cond b (each_seeded seeds vs) (Err (NoSeed v)) ≡ Ok u
        → (each_seeded seeds vs ≡ Ok u → list_all (λ v. is_some (slice_index_or seeds v None)) vs ≡ true)
        → (is_some (slice_index_or seeds v None) && list_all (λ v. is_some (slice_index_or seeds v None)) vs) ≡ true
    go true is e rest = and_both _ _ is (rest e)
    go false is e rest = absurd (cc e)

seeds_there : (job : Job) (mv : Move) (u : Unit {0}) → needs_seeds job.purpose ≡ true → crafted_with_seeds job mv ≡ Ok u → AreSeeded job.seeds mv
seeds_there job (Craft a lock via onto) u needs e =
    all_seeded job.seeds via u (sym (ap (λ b. cond b (each_seeded job.seeds via) (Ok tt)) needs) ∙ e)
seeds_there job (Publish a start delta bound timelock amount locks) u needs e = tt
seeds_there job (Replay a lock onto) u needs e = tt
seeds_there job (Raw a key) u needs e = tt
seeds_there job (Claim a) u needs e = tt
seeds_there job (Refund a) u needs e = tt
seeds_there job (Transfer a to units) u needs e = tt
seeds_there job (Wait a height) u needs e = tt

permitted_fits : (job : Job) (line p : ℕ) (mv : Move) (u : Unit {0}) → IsMadeMove job.deal job.seeds line mv → needs_seeds job.purpose ≡ true
    → permitted job line p mv ≡ Ok u
    → IsFitting job.deal job.seeds mv × IsTrue ((p == party job.deal (move_arc mv)) || (p == counterparty job.deal (move_arc mv)))
unfolding permitted
permitted_fits job line p mv u made needs e =
    let q = went (placed job.deal.graph.arcs job.conforming line p mv) _ u e in
    placed_fits job.deal job.conforming job.seeds line p mv q.0 made (seeds_there job mv u needs q.2) q.1

deviates_of : (line : ℕ) (b : Bool) (u : Unit {0}) → deviating line b ≡ Ok u → b ≡ false
unfolding deviating
deviates_of line false u e = refl
deviates_of line true u e = absurd (cc e)

call_fits : (job : Job) (line : ℕ) (name : List ℕ) (raw : RawMove) (event : Event) → IsWellSized job.deal → length job.names ≡ job.deal.graph.n
    → needs_seeds job.purpose ≡ true → event_of_call job line name raw ≡ Ok event → IsJobEvent job event
unfolding event_of_call
call_fits job line name raw event w same needs e =
    let p = went (party_of_name line job.names name) _ event e in
    let q = went (parse_move (deal_sizes job.deal) job.names line raw) _ event p.2 in
    let r = went (deviating line _) _ event q.2 in
    let b = went (permitted job line p.0 q.0) _ event r.2 in
    let s : Call p.0 q.0 ≡ event = cc (b.2) in
    let known : p.0 < length job.names = party_below line job.names name p.0 p.1 in
    let made = move_made job.deal job.seeds job.names line raw q.0 w same q.1 in
    let k = deviates_of line (slice_index_or job.conforming p.0 false) r.0 r.1 in
    let k1 = permitted_fits job line p.0 q.0 b.0 made needs b.1 in
    subst (IsJobEvent job) s (record {
      known = omega (arith, known, same);
      deviates = k;
      fits = k1.0;
      adjacent = k1.1;
    })

look_fits : (job : Job) (line : ℕ) (name : List ℕ) (n : ℕ) (event : Event) → IsWellSized job.deal → length job.names ≡ job.deal.graph.n
    → event_of_look job line name n ≡ Ok event → IsJobEvent job event
unfolding event_of_look
look_fits job line name n event w same e =
    let p = went (party_of_name line job.names name) _ event e in
    let q = went (parse_arc (deal_sizes job.deal) line (codes "arc") n) _ event p.2 in
    let r = went (adjacent job.deal.graph.arcs line p.0 q.0) _ event q.2 in
    let s : Look p.0 q.0 ≡ event = cc (r.2) in
    let known : p.0 < length job.names = party_below line job.names name p.0 p.1 in
    subst (IsJobEvent job) s (record {
      known = omega (arith, known, same);
      arc = arc_fits job.deal line (codes "arc") n q.0 q.1;
      adjacent = adjacent_fits job.deal line p.0 q.0 r.0 r.1;
    })

act_fits : (job : Job) (line : ℕ) (name : List ℕ) (event : Event) → length job.names ≡ job.deal.graph.n → event_of_act job line name ≡ Ok event
    → IsJobEvent job event
unfolding event_of_act
act_fits job line name event same e =
    let p = went (party_of_name line job.names name) _ event e in
    let s : Act p.0 ≡ event = cc (p.2) in
    let known : p.0 < length job.names = party_below line job.names name p.0 p.1 in
    subst (IsJobEvent job) s (omega (arith, known, same))

tick_fits : (d : Deal) (c : List Bool) (seeds : Seeds) (line n : ℕ) (by : Option ℕ) (event : Event) → event_of_tick d line n by ≡ Ok event
    → CanStep d c seeds event
unfolding event_of_tick
tick_fits d c seeds line n by event e =
    let p = went (parse_arc (deal_sizes d) line (codes "tick") n) _ event e in
    let q = went (ranged_number line (codes "by") 1 1000000 (unwrap_or by 1)) _ event p.2 in
    let s : Tick p.0 q.0 ≡ event = cc (q.2) in
    let k = number_within_ok line (codes "by") 1 1000000 (unwrap_or by 1) q.0 q.1 in
    subst (λ x. CanStep d c seeds x) s (record { arc = arc_fits d line (codes "tick") n p.0 p.1; some = k.0; few = k.1 })

conforms_of : (line : ℕ) (b : Bool) (u : Unit {0}) → cond b (Ok tt) (Err (NotConforming line)) ≡ Ok u → b ≡ true
conforms_of line true u e = refl
conforms_of line false u e = absurd (cc e)

crash_fits : (job : Job) (line : ℕ) (name : List ℕ) (n m : ℕ) (event : Event) (u : Unit {0}) → length job.names ≡ job.deal.graph.n
    → event_of_crash job line name n m ≡ Ok event → conforming_crash job.conforming line event ≡ Ok u → IsJobEvent job event
unfolding event_of_crash
crash_fits job line name n m event u same e conforming =
    let p = went (party_of_name line job.names name) _ event e in
    let q = went (ranged_number line (codes "after") 0 3 n) _ event p.2 in
    let r = went (ranged_number line (codes "image") 0 255 m) _ event q.2 in
    let s : Crash p.0 q.0 r.0 ≡ event = cc (r.2) in
    let known : p.0 < length job.names = party_below line job.names name p.0 p.1 in
    let few = number_within_ok line (codes "after") 0 3 n q.0 q.1 in
    let own : conforming_crash job.conforming line (Crash p.0 q.0 r.0) ≡ Ok u =
    subst (λ (x : Event). conforming_crash job.conforming line x ≡ Ok u) (sym s) conforming in
    subst (IsJobEvent job) s (record {
      known = omega (arith, known, same);
      conforms = conforms_of line (slice_index_or job.conforming p.0 false) u own;
      few = few.1;
    })

pub checked_fits : (job : Job) (line : ℕ) (raw : RawEvent) (event : Event) (u : Unit {0}) → IsWellSized job.deal → length job.names ≡ job.deal.graph.n
    → needs_seeds job.purpose ≡ true → checked_event job line raw ≡ Ok event → conforming_crash job.conforming line event ≡ Ok u → IsJobEvent job event
checked_fits job line (raw_events.Tick n by) event u w same needs e own = tick_fits job.deal job.conforming job.seeds line n by event e
checked_fits job line (raw_events.Look name n) event u w same needs e own = look_fits job line name n event w same e
checked_fits job line (raw_events.Act name) event u w same needs e own = act_fits job line name event same e
checked_fits job line (raw_events.Call name raw) event u w same needs e own = call_fits job line name raw event w same needs e
checked_fits job line (raw_events.Crash name after image) event u w same needs e own = crash_fits job line name after image event u same e own
