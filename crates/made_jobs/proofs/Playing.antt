-- A world of a generated job takes its events.
use Rattle.std.proofs.Common.{◌≡◌, ℕ, zero, suc, ◌<◌, Bool, true, false, List, [], ◌∷◌, length, map, replicate, Option, Some, None, is_some}
use Rattle.std.proofs.Common.{refl, sym, ap, ap₂, ◌∙◌, subst}
use Rattle.std.specs.List.{list_any}
use Rattle.std.proofs.lemmas.List.{length-replicate}
use Rattle.std.proofs.lemmas.List.FromFn.{length-map-range_with_len}
use Rattle.swap_digraph.specs.Deal.{IsWellSized}
use Rattle.swap_digraph.specs.declared.deal.Deal.{Deal}
use Rattle.swap_job.specs.declared.event.Event.{Event}
use Rattle.swap_job.specs.declared.job.Job.{Job}
use Rattle.swap_job.specs.declared.job.Role.{Role}
use Rattle.swap_job.specs.declared.job.Role.TheVariants.{Conforming, Manual}
use Rattle.swap_job.specs.Step.{CanStep, IsJobEvent}
use Rattle.swap_job.specs.Roles.{is_conforming}
use Rattle.swap_rules.specs.Accepted.{IsAccepted}
use Rattle.swap_rules.proofs.Accepted.{accepted_is_well_sized}
use Rattle.party_wallet.specs.Value.{WalletState}
use Rattle.ledger_core.specs.Book.{Histories}
use Rattle.swap_rules.specs.Outcome.{IsEnded}
use Rattle.swap_run.specs.Asked.{is_strategy}
use Rattle.swap_run.specs.Run.{Cast, State, is_planned, run, continued_run, start, step}
use Rattle.swap_run.specs.Fair.{finish}
use Rattle.swap_run.specs.Laws.{IsKept}
use Rattle.swap_world.specs.Cast.{job_cast, made_cast}
use Rattle.swap_world.specs.Actors.{AllFit, HaveRoles, ConformingHaveSeeds}
use Rattle.swap_world.specs.Gone.{MayGive, HasGone}
use Rattle.swap_world.specs.Value.{WorldState, world_cast, new_world}
use Rattle.swap_world.proofs.Plain.{plain_finish}
use Rattle.swap_world.proofs.Team.{all_fit, nobody_asks, plain_roles}
use Rattle.swap_gen.specs.Drawn.{generated, plain_job, plain_deal, drawn_seed}
use Rattle.swap_gen.specs.Made.{made_deal}
use Rattle.swap_gen.specs.Events.{generated_events, GeneratorState}
use Rattle.swap_gen.specs.Owned.{inside_wallets, OwnsKeys}
use Rattle.made_jobs.specs.Generating.{generated_book, IsJobWorld}

pub is_sized : (d : Deal) → IsAccepted d → IsWellSized d
is_sized d k = accepted_is_well_sized d k

some_is : (o : Option (List ℕ)) (seed : List ℕ) → o ≡ Some seed → is_some o ≡ true
some_is None seed e = absurd (cc e)
some_is (Some x) seed e = refl

pub have_seeds : (job : Job) → ((p : ℕ) → p < job.deal.graph.n → OwnsKeys job p) → length job.conforming ≡ job.deal.graph.n
    → length job.seeds ≡ job.deal.graph.n → ConformingHaveSeeds job
have_seeds job own conforming seeds = record {
  conforming = conforming;
  seeds = seeds;
  there = λ p lt c. some_is _ (own p lt).seed (own p lt).there;
}

-- who owns its keys has a right wallet
pub owners_fit : (job : Job) → ((p : ℕ) → p < job.deal.graph.n → OwnsKeys job p) → AllFit job
owners_fit job own = all_fit job (λ p lt c. let k = own p lt in (k.seed, k.there, k.fits))

same_cast : (job : Job) (w : WorldState) → IsJobWorld job w → world_cast w ≡ job_cast job
same_cast job w k =
    ap₂ (λ (d : Deal) (rs : List Role). made_cast d w.conforming w.seeds rs) k.deal k.roles
    ∙ ap₂ (λ (c : List Bool) (s : List (Option (List ℕ))). made_cast job.deal c s job.roles) k.conforming k.seeds

-- the lists of a generated job

pub generated_conforming : (seed n : ℕ) → length (generated seed n).conforming ≡ (generated seed n).deal.graph.n
unfolding plain_job plain_deal made_deal
generated_conforming seed n = length-replicate n true

pub generated_seeds : (seed n : ℕ) → length (generated seed n).seeds ≡ (generated seed n).deal.graph.n
unfolding plain_job plain_deal made_deal
generated_seeds seed n = length-map-range_with_len (λ i. Some (drawn_seed seed i)) 0 n

-- everybody conforms

abbrev role : Bool → Role
role true = Conforming
role false = Manual

role_conforms : (b : Bool) → is_conforming (role b) ≡ b
role_conforms true = refl
role_conforms false = refl

role_plans : (b : Bool) → is_planned (role b) ≡ false
role_plans true = refl
role_plans false = refl

all_conform : (n : ℕ) → replicate n Conforming ≡ map role (replicate n true)
all_conform zero = refl
all_conform (suc n) = ap (λ (rs : List Role). Conforming ∷ rs) (all_conform n)

pub generated_roles : (seed n : ℕ) → HaveRoles (generated seed n)
unfolding plain_job plain_deal made_deal
generated_roles seed n = plain_roles role role_conforms role_plans (generated seed n) (all_conform n)

-- one more event

pub can_step : (seed n : ℕ) (g : GeneratorState) (w : WorldState) (event : Event) → g.seed ≡ seed → g.parties ≡ n → IsJobWorld (generated seed n) w
    → IsJobEvent (generated g.seed g.parties) event → CanStep w.deal w.conforming w.seeds event
can_step seed n g w event s p k can =
    subst (λ (d : Deal). CanStep d w.conforming w.seeds event) (sym k.deal)
    (subst (λ (c : List Bool). CanStep (generated seed n).deal c w.seeds event) (sym k.conforming)
    (subst (λ (ss : List (Option (List ℕ))). CanStep (generated seed n).deal (generated seed n).conforming ss event) (sym k.seeds)
    (subst (λ (m : ℕ). IsJobEvent (generated seed m) event) p
    (subst (λ (x : ℕ). IsJobEvent (generated x g.parties) event) s can))))

module _ (gives : MayGive) (f : Cast → State → State) (w new : WorldState) (k : HasGone gives f w new) where
  pub is_still : (job : Job) → IsJobWorld job w → IsJobWorld job new
  is_still job i = record {
    deal = ap (λ (x : WorldState). x.deal) k.same ∙ i.deal;
    conforming = ap (λ (x : WorldState). x.conforming) k.same ∙ i.conforming;
    seeds = ap (λ (x : WorldState). x.seeds) k.same ∙ i.seeds;
    roles = ap (λ (x : WorldState). x.roles) k.same ∙ i.roles;
  }

  pub goes_on_still : w.stopped ≡ false → new.stopped ≡ false
  goes_on_still on = ap (λ (x : WorldState). x.stopped) k.same ∙ on

pub one_more : (job : Job) (w new : WorldState) (event : Event) (left rest : List Event) (total : State) → IsJobWorld job w
    → new.state ≡ step (world_cast w) w.state event → left ≡ event ∷ rest → continued_run (job_cast job) w.state left ≡ total
    → continued_run (job_cast job) new.state rest ≡ total
one_more job w new event left rest total k e first so_far =
    ap (λ (s : State). continued_run (job_cast job) s rest)
    (e ∙ ap (λ (c : Cast). step c w.state event) (same_cast job w k))
    ∙ sym (ap (continued_run (job_cast job) w.state) first) ∙ so_far

-- nobody is asked in a generated job

pub generated_unasked : (seed n : ℕ) → list_any is_strategy (generated seed n).roles ≡ false
unfolding plain_job plain_deal made_deal
generated_unasked seed n =
    ap (λ (rs : List Role). list_any is_strategy rs) (all_conform n) ∙ nobody_asks role role_conforms role_plans (replicate n true)

pub unasked_in : (seed n : ℕ) (w : WorldState) → IsJobWorld (generated seed n) w → list_any is_strategy w.roles ≡ false
unasked_in seed n w k = ap (λ (rs : List Role). list_any is_strategy rs) k.roles ∙ generated_unasked seed n

pub all_taken : (job : Job) (s : State) (left : List Event) (total : State) → left ≡ [] → continued_run (job_cast job) s left ≡ total → s ≡ total
all_taken job s left total none so_far = sym (ap (continued_run (job_cast job) s) none) ∙ so_far

-- The job of a generator.

pub job_conforming : (j : Job) (seed n : ℕ) → j ≡ generated seed n → length j.conforming ≡ j.deal.graph.n
job_conforming j seed n e = subst (λ (x : Job). length x.conforming ≡ x.deal.graph.n) (sym e) (generated_conforming seed n)

pub job_seeds : (j : Job) (seed n : ℕ) → j ≡ generated seed n → length j.seeds ≡ j.deal.graph.n
job_seeds j seed n e = subst (λ (x : Job). length x.seeds ≡ x.deal.graph.n) (sym e) (generated_seeds seed n)

pub job_roles : (j : Job) (seed n : ℕ) → j ≡ generated seed n → HaveRoles j
job_roles j seed n e = subst HaveRoles (sym e) (generated_roles seed n)

pub job_wallets : (j job : Job) (wallets : List (Option WalletState)) → j ≡ job → wallets ≡ inside_wallets job → wallets ≡ inside_wallets j
job_wallets j job wallets same e = e ∙ ap inside_wallets (sym same)

-- its world before any event

pub is_of_new : (j job : Job) (w : WorldState) → j ≡ job → w ≡ new_world j → IsJobWorld job w
is_of_new j job w e new = record {
  deal = ap (λ (x : WorldState). x.deal) new ∙ ap (λ (x : Job). x.deal) e;
  conforming = ap (λ (x : WorldState). x.conforming) new ∙ ap (λ (x : Job). x.conforming) e;
  seeds = ap (λ (x : WorldState). x.seeds) new ∙ ap (λ (x : Job). x.seeds) e;
  roles = ap (λ (x : WorldState). x.roles) new ∙ ap (λ (x : Job). x.roles) e;
}

pub starts : (j job : Job) (w : WorldState) → j ≡ job → w ≡ new_world j → w.state ≡ start (job_cast job)
starts j job w e new = ap (λ (x : WorldState). x.state) new ∙ ap (λ (x : Job). start (job_cast x)) e

pub goes_on_new : (j : Job) (w : WorldState) → w ≡ new_world j → w.stopped ≡ false
goes_on_new j w new = ap (λ (x : WorldState). x.stopped) new

-- A world after the fair finish, and its book.

module _ (gives : MayGive) (w new : WorldState) (none : list_any is_strategy w.roles ≡ false) (k : HasGone gives finish w new) where
  pub finished_book : new.state.book ≡ (finish (world_cast w) w.state).book
  finished_book = ap (λ (s : State). s.book) (plain_finish gives w new none k)

  pub finished_kept : IsKept (world_cast new) new.state.book → IsKept (world_cast w) (finish (world_cast w) w.state).book
  finished_kept kept =
      subst (λ (b : Histories). IsKept (world_cast w) b) finished_book (subst (λ (c : Cast). IsKept c new.state.book) (ap world_cast k.same) kept)

  pub finished_ended : IsEnded w.deal new.state.book → IsEnded w.deal (finish (world_cast w) w.state).book
  finished_ended e = subst (λ (b : Histories). IsEnded w.deal b) finished_book e

-- the run of a number's job, where first is its world before any event, and played the world after
-- all of them
module _ (seed n count : ℕ) (first played : WorldState) (begins : first.state ≡ start (job_cast (generated seed n)))
    (runs : played.state ≡ continued_run (job_cast (generated seed n)) first.state (generated_events seed n count)) (of : IsJobWorld (generated seed n) played) where
  run_is : played.state ≡ run (job_cast (generated seed n)) (generated_events seed n count)
  run_is = runs ∙ ap (λ (s : State). continued_run (job_cast (generated seed n)) s (generated_events seed n count)) begins

  pub book_is : (finish (world_cast played) played.state).book ≡ generated_book seed n count
  unfolding generated_book
  book_is =
      ap (λ (c : Cast). (finish c played.state).book) (same_cast (generated seed n) played of)
      ∙ ap (λ (s : State). (finish (job_cast (generated seed n)) s).book) run_is

  pub is_kept : IsKept (world_cast played) (finish (world_cast played) played.state).book → IsKept (job_cast (generated seed n)) (generated_book seed n count)
  is_kept k =
      subst (λ (b : Histories). IsKept (job_cast (generated seed n)) b) book_is
      (subst (λ (c : Cast). IsKept c (finish (world_cast played) played.state).book) (same_cast (generated seed n) played of) k)

  pub has_ended : IsEnded played.deal (finish (world_cast played) played.state).book → IsEnded (generated seed n).deal (generated_book seed n count)
  has_ended k =
      subst (λ (b : Histories). IsEnded (generated seed n).deal b) book_is
      (subst (λ (d : Deal). IsEnded d (finish (world_cast played) played.state).book) of.deal k)
