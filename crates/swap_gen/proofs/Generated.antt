-- The job that a number gives.
use Rattle.std.proofs.Common.{◌≡◌, ℕ, ◌<◌, ◌≤◌, List, Option, Some, None, IsSome, slice_index_or, refl, sym, subst}
use Rattle.std.proofs.Common.{arith}
use Rattle.std.proofs.lemmas.List.FromFn.{get_or-map-range_with_len}
use Rattle.swap_digraph.specs.Value.{Graph}
use Rattle.swap_job.specs.Step.{IsJobEvent}
use Rattle.swap_job.specs.declared.job.Job.{Job}
use Rattle.swap_rules.specs.Accepted.{IsAccepted}
use Rattle.swap_offer.specs.Proposed.{HaveSeeds, IsProposed}
use Rattle.swap_gen.specs.Made.{made_deal}
use Rattle.swap_gen.specs.Owned.{OwnsKeys}
use Rattle.swap_gen.specs.Drawn.{drawn_graph, plain_deal, plain_job, drawn_seed, generated}
use Rattle.swap_gen.specs.Events.{drawn_event}
use Rattle.swap_gen.specs.Inside.{GeneratorHolds}
use Rattle.swap_gen.specs.declared.generator.Generator.TheInside.{Inside}
use Rattle.swap_gen.proofs.Proposing.{plain_is_proposed}
use Rattle.swap_gen.proofs.Accepting.{made_is_accepted}
use Rattle.swap_gen.proofs.Owning.{made_is_owned}
use Rattle.swap_gen.proofs.Stepping.{event_steps}

pub generated_is_accepted : (seed n : ℕ) → 2 ≤ n → n ≤ 24 → IsAccepted (generated seed n).deal
unfolding plain_job
generated_is_accepted seed n many few = made_is_accepted (plain_job seed n).seeds (plain_deal seed n) (plain_is_proposed seed n many few)

pub generated_graph : (seed n : ℕ) → (generated seed n).deal.graph ≡ drawn_graph seed n
unfolding plain_job plain_deal made_deal
generated_graph seed n = refl

plain_graph : (seed n : ℕ) → (plain_job seed n).deal.graph ≡ drawn_graph seed n
unfolding plain_job plain_deal
plain_graph seed n = refl

some_seed : (seed n p : ℕ) → p < n → IsSome (slice_index_or {A = Option (List ℕ)} (plain_job seed n).seeds p None)
unfolding plain_job
some_seed seed n p lt = subst (λ (o : Option (List ℕ)). IsSome o)
    (sym (get_or-map-range_with_len (λ i. Some (drawn_seed seed i)) 0 n p p None lt (omega arith)))
    refl

pub plain_has_seeds : (seed n : ℕ) → HaveSeeds (plain_job seed n)
plain_has_seeds seed n p lt = some_seed seed n p (subst (λ (g : Graph). p < g.n) (plain_graph seed n) lt)

pub generated_is_owned : (seed n : ℕ) → (p : ℕ) → p < (generated seed n).deal.graph.n → OwnsKeys (generated seed n) p
generated_is_owned seed n p lt = made_is_owned (plain_job seed n) (plain_has_seeds seed n) p lt

-- the job that a generator holds is accepted, and its parties own the keys
pub held_is_accepted : (g : Inside) → GeneratorHolds g → IsAccepted g.job.deal
held_is_accepted g k = subst (λ (j : Job). IsAccepted j.deal) (sym k.job) (generated_is_accepted g.draws.seed g.job.deal.graph.n k.parties.0 k.parties.1)

pub held_is_owned : (g : Inside) → GeneratorHolds g → (p : ℕ) → p < g.job.deal.graph.n → OwnsKeys g.job p
held_is_owned g k = subst (λ (j : Job). (p : ℕ) → p < j.deal.graph.n → OwnsKeys j p) (sym k.job) (generated_is_owned g.draws.seed g.job.deal.graph.n)

pub generated_steps : (seed n k : ℕ) → 2 ≤ n → IsJobEvent (generated seed n) (drawn_event seed (drawn_graph seed n) k).0
generated_steps seed n k many =
    let job = generated seed n in event_steps job.deal job.conforming job.seeds seed n many (generated_graph seed n) k

pub plain_job_is_proposed : (seed n : ℕ) → 2 ≤ n → n ≤ 24 → IsProposed (plain_job seed n).deal
unfolding plain_job
plain_job_is_proposed seed n many few = plain_is_proposed seed n many few

pub generated_is : (seed n : ℕ) → record (plain_job seed n) { deal = made_deal (plain_job seed n).seeds (plain_job seed n).deal } ≡ generated seed n
unfolding plain_job
generated_is seed n = refl
