-- Events that were read can come.
use Rattle.std.proofs.Common.{◌≡◌, ◌<◌, ◌≤◌, ℕ, Bool, true, false, [], length, refl, sym, subst, arith, if◌then◌else◌}
use Rattle.std.proofs.lemmas.Bool.{ltb-true}
use Rattle.std.specs.Prelude.{nat_lt, slice_index_or, IfOk, Result, Ok, Err}
use Rattle.swap_job.specs.declared.job.Job.{Job}
use Rattle.swap_job.specs.Step.{IsJobEvent}
use Rattle.swap_many.specs.declared.many_event.ManyEvent.{ManyEvent}
use Rattle.swap_many.specs.declared.many_event.ManyEvent.TheVariants.{Tick, Pay, Sweep}
use Rattle.many_lines.specs.declared.payment.Payment.{Payment}
use Rattle.many_lines.specs.Event.{is_slot}
use Rattle.many_lines.specs.Places.{job_of_swap}
use Rattle.many_lines.specs.Setup.{IsSwapEvent, MayCome}
use Rattle.many_lines.specs.Whole.{AreBoundedChains}
use Rattle.many_lines.specs.declared.many_job.ManyJob.{ManyJob}

pub tick_comes : (many : ManyJob) (i k : ℕ) → AreBoundedChains many → i < length many.names → 1 ≤ k → k ≤ 1000000 → MayCome many (Tick i k)
tick_comes many i k chains lt some few =
    let here : i < length many.units = omega (arith, lt, chains.each) in
    λ g places. record { chain = here; some = some; few = few }

pub payment_comes : (many : ManyJob) (p : Payment) → AreBoundedChains many → p.chain < length many.names → p.from < length (slice_index_or many.names p.chain [])
    → p.to < length (slice_index_or many.names p.chain []) → MayCome many (Pay p.chain p.from p.to p.units)
payment_comes many p chains lt from to =
    let here : p.chain < length many.units = omega (arith, lt, chains.each) in
    let same : length (slice_index_or many.units p.chain []) ≡ length (slice_index_or many.names p.chain []) = (chains.chains p.chain lt).each in
    λ g places. record { chain = here; from_known = rw same from; to_known = rw same to }

both : (a b : Bool) → (if a then b else false) ≡ true → (a ≡ true) × (b ≡ true)
both true b is = (refl, is)
both false b is = absurd (cc is)

pub sweep_comes : (many : ManyJob) (s a : ℕ) → is_slot many.jobs s a ≡ true → MayCome many (Sweep s a)
sweep_comes many s a is =
    let t = both (nat_lt s (length many.jobs)) (nat_lt a (length (job_of_swap many.jobs s).deal.graph.arcs)) is in
    λ g places. record { swap = ltb-true s _ t.0; arc = ltb-true a _ t.1 }

event_comes : (many : ManyJob) (s : ℕ) (job : Job) (e : ManyEvent) → s < length many.jobs → job_of_swap many.jobs s ≡ job → IsSwapEvent s job e → MayCome many e
event_comes many s job e lt is h =
    let can : IsJobEvent (job_of_swap many.jobs s) h.event = subst (λ (j : Job). IsJobEvent j h.event) (sym is) h.can in
    subst (MayCome many) (sym h.is) (λ g places. record { swap = lt; no_tick = h.no_tick; can = can })

pub events_come : {F : Type 0} (many : ManyJob) (s : ℕ) (job : Job) (result : Result ManyEvent F) → s < length many.jobs → job_of_swap many.jobs s ≡ job
    → IfOk result (IsSwapEvent s job) → IfOk result (MayCome many)
events_come many s job (Ok e) lt is h = event_comes many s job e lt is h
events_come many s job (Err fault) lt is h = h
