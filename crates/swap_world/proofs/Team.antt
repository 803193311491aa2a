-- What acts for the parties of a job, one by one.
use Rattle.std.proofs.Common.{zero-add, ◌≡◌, ℕ, zero, suc, ◌<◌, ◌||◌, Bool, true, false, cond, List, [], ◌∷◌, length, get_or}
use Rattle.std.proofs.Common.{map, replicate, slice_index_or, Option, Some, None, is_some, refl, sym, ap, ap₂, ◌∙◌, subst}
use Rattle.std.specs.List.{All, list_any}
use Rattle.std.proofs.lemmas.List.Elements.{All-nil}
use Rattle.std.proofs.lemmas.Bool.{false≢true}
use Rattle.std.proofs.lemmas.List.{same_lists, get_or_default, get_or-map, length-map, length-replicate, get_or-replicate}
use Rattle.std.proofs.lemmas.List.FromFn.{get_or-map-range_with_len, length-map-range_with_len}
use Rattle.swap_base.proofs.Lists.{or_neither}
use Rattle.swap_job.specs.declared.job.Job.{Job}
use Rattle.swap_rules.specs.Accepted.{IsAccepted}
use Rattle.swap_rules.specs.Machine.{IsWallet}
use Rattle.swap_run.specs.Asked.{is_strategy}
use Rattle.swap_run.specs.Run.{Notes, Plan, no_notes, first_plan, is_planned}
use Rattle.swap_digraph.specs.declared.deal.Deal.{Deal}
use Rattle.swap_job.specs.Fitting.{IsPartyMove}
use Rattle.swap_job.specs.Roles.{IsHeld, job_role, is_conforming, role_script}
use Rattle.swap_job.specs.declared.job.Role.{Role}
use Rattle.swap_job.specs.declared.job.Role.TheVariants as kinds
use Rattle.swap_run.specs.Laws.{IsReadyCast}
use Rattle.party_wallet.specs.Fits.{wrong_lock}
use Rattle.party_machine.proofs.Good.{fitting_is_good}
use Rattle.swap_world.specs.Cast.{job_cast, signing_wallet}
use Rattle.swap_world.specs.Actors.{by_role, role_actor, job_actor, team, wrong_lock_if_seeded, AllFit, AreHeld, HaveRoles, ConformingHaveSeeds}
use Rattle.swap_world.specs.Inside.{actor_notes, actor_plan, IsPartyActor, ArePartyActors}
use Rattle.swap_world.specs.Players.{Racer}
use Rattle.swap_world.specs.declared.player.Player.TheVariants.{Manual}

-- Each place has its party's player.

pub team_length : (job : Job) → length (team job) ≡ job.deal.graph.n
team_length job = length-map-range_with_len (job_actor job) 0 job.deal.graph.n

pub team_at : (job : Job) (p : ℕ) → p < job.deal.graph.n → get_or (team job) p Manual ≡ job_actor job p
team_at job p lt = get_or-map-range_with_len (job_actor job) 0 job.deal.graph.n p p Manual lt (zero-add p)

-- What each is.

-- what is known of the player of party p
pub record IsOwn (job : Job) (p : ℕ) (x : Racer) : Type 0 where
  pub is : IsPartyActor job.deal (slice_index_or job.conforming p false) (slice_index_or job.seeds p None) (job_role job p) p x
  pub notes : actor_notes job.deal x ≡ no_notes job.deal
  pub plan : actor_plan job.deal x ≡ first_plan job.deal (job_role job p)
  pub fits : slice_index_or job.conforming p false ≡ true → (seed : List ℕ) × (slice_index_or job.seeds p None ≡ Some seed)
      × (wrong_lock job.deal p seed ≡ None)

by_itself : (job : Job) (p : ℕ) (role : Role) → slice_index_or job.conforming p false ≡ false → job_role job p ≡ role → IsOwn job p (by_role job.deal role)
by_itself job p role ec er = record { is = kind role er; notes = no_note role; plan = first role er; fits = λ t. absurd (false≢true (sym ec ∙ t)) }
  where
    kind : (r : Role) → job_role job p ≡ r
        → IsPartyActor job.deal (slice_index_or job.conforming p false) (slice_index_or job.seeds p None) (job_role job p) p (by_role job.deal r)
    kind kinds.Conforming e = (ec, ap is_planned e)
    kind kinds.Manual e = (ec, ap is_planned e)
    kind (kinds.Script moves) e = (ec, ap is_planned e)
    kind (kinds.Strategy name) e = (ec, ap is_planned e)

    no_note : (r : Role) → actor_notes job.deal (by_role job.deal r) ≡ no_notes job.deal
    no_note kinds.Conforming = refl
    no_note kinds.Manual = refl
    no_note (kinds.Script moves) = refl
    no_note (kinds.Strategy name) = refl

    first : (r : Role) → job_role job p ≡ r → actor_plan job.deal (by_role job.deal r) ≡ first_plan job.deal (job_role job p)
    first kinds.Conforming e = sym (ap (first_plan job.deal) e)
    first kinds.Manual e = sym (ap (first_plan job.deal) e)
    first (kinds.Script moves) e = sym (ap (first_plan job.deal) e)
    first (kinds.Strategy name) e = sym (ap (first_plan job.deal) e)

-- the plan of a party that conforms is one of no moves
no_moves : (d : Deal) (role : Role) → is_conforming role ≡ true → first_plan d kinds.Manual ≡ first_plan d role
no_moves d kinds.Conforming e = refl
no_moves d kinds.Manual e = absurd (cc e)
no_moves d (kinds.Script moves) e = absurd (cc e)
no_moves d (kinds.Strategy name) e = absurd (cc e)

own : (job : Job) (p : ℕ) (b : Bool) (o : Option (List ℕ)) → slice_index_or job.conforming p false ≡ b → slice_index_or job.seeds p None ≡ o
    → b ≡ is_conforming (job_role job p) → (b ≡ true → is_some o ≡ true) → cond b (wrong_lock_if_seeded job.deal p o) None ≡ None
    → IsOwn job p (cond b (role_actor job.deal (job_role job p) p o) (by_role job.deal (job_role job p)))
own job p false o eb eo role some right = by_itself job p (job_role job p) eb refl
own job p true None eb eo role some right = absurd (false≢true (some refl))
own job p true (Some seed) eb eo role some right = record {
  is = (eb, refl, refl, eo);
  notes = refl;
  plan = no_moves job.deal (job_role job p) (sym role);
  fits = λ t. (seed, eo, right);
}

-- there is a role per party
pub role_each : (job : Job) → ConformingHaveSeeds job → HaveRoles job → length job.roles ≡ job.deal.graph.n
role_each job seeds roles = sym (length-map job.roles is_conforming) ∙ (sym (ap (λ (bs : List Bool). length bs) roles.conforming) ∙ seeds.conforming)

role_of_its : (job : Job) (p : ℕ) → ConformingHaveSeeds job → HaveRoles job → p < job.deal.graph.n
    → slice_index_or job.conforming p false ≡ is_conforming (job_role job p)
role_of_its job p seeds roles lt =
    ap (λ (bs : List Bool). get_or bs p false) roles.conforming
    ∙ get_or-map is_conforming job.roles p kinds.Manual false (subst (λ n. p < n) (sym (role_each job seeds roles)) lt)

pub is_own : (job : Job) (p : ℕ) → ConformingHaveSeeds job → HaveRoles job → AllFit job → p < job.deal.graph.n → IsOwn job p (job_actor job p)
is_own job p seeds roles fit lt =
    own job p (slice_index_or job.conforming p false) (slice_index_or job.seeds p None) refl refl (role_of_its job p seeds roles lt) (seeds.there p lt)
    (fit p lt)

pub are_actors : (job : Job) → ConformingHaveSeeds job → HaveRoles job → AllFit job → ArePartyActors job.deal job.conforming job.seeds job.roles (team job)
are_actors job seeds roles fit = record {
  one_each = team_length job;
  each = λ v x l is.
      let lt : v < job.deal.graph.n = subst (λ n. v < n) (team_length job) l in
      subst (IsPartyActor job.deal (slice_index_or job.conforming v false) (slice_index_or job.seeds v None) (job_role job v) v)
      (sym (team_at job v lt) ∙ (get_or_default (team job) v Manual x l ∙ sym is)) (is_own job v seeds roles fit lt).is;
}

pub no_notes_yet : (job : Job) → ConformingHaveSeeds job → HaveRoles job → AllFit job
    → map (actor_notes job.deal) (team job) ≡ replicate job.deal.graph.n (no_notes job.deal)
no_notes_yet job seeds roles fit =
    same_lists (map (actor_notes job.deal) (team job)) (replicate job.deal.graph.n (no_notes job.deal))
    (length-map (team job) (actor_notes job.deal) ∙ (team_length job ∙ sym (length-replicate job.deal.graph.n (no_notes job.deal))))
    (λ k d lt. at k d (subst (λ n. k < n) (length-map (team job) (actor_notes job.deal)) lt))
  where
    at : (k : ℕ) (d : Notes) → k < length (team job)
        → get_or (map (actor_notes job.deal) (team job)) k d ≡ get_or (replicate job.deal.graph.n (no_notes job.deal)) k d
    at k d lt =
        let below = subst (λ z. k < z) (team_length job) lt in
        get_or-map (actor_notes job.deal) (team job) k Manual d lt ∙ (ap (actor_notes job.deal) (team_at job k below)
        ∙ ((is_own job k seeds roles fit below).notes ∙ sym (get_or-replicate job.deal.graph.n k (no_notes job.deal) d below)))

pub first_plans : (job : Job) → ConformingHaveSeeds job → HaveRoles job → AllFit job → map (actor_plan job.deal) (team job) ≡ map (first_plan job.deal) job.roles
first_plans job seeds roles fit =
    same_lists (map (actor_plan job.deal) (team job)) (map (first_plan job.deal) job.roles)
    (length-map (team job) (actor_plan job.deal) ∙ (team_length job ∙ sym (length-map job.roles (first_plan job.deal) ∙ role_each job seeds roles)))
    (λ k d lt. at k d (subst (λ n. k < n) (length-map (team job) (actor_plan job.deal)) lt))
  where
    at : (k : ℕ) (d : Plan) → k < length (team job)
        → get_or (map (actor_plan job.deal) (team job)) k d ≡ get_or (map (first_plan job.deal) job.roles) k d
    at k d lt =
        let below = subst (λ z. k < z) (team_length job) lt in
        get_or-map (actor_plan job.deal) (team job) k Manual d lt ∙ (ap (actor_plan job.deal) (team_at job k below) ∙ ((is_own job k seeds roles fit below).plan
        ∙ sym (get_or-map (first_plan job.deal) job.roles k kinds.Manual d (subst (λ z. k < z) (sym (role_each job seeds roles)) below))))

pub is_ready : (job : Job) → IsAccepted job.deal → ConformingHaveSeeds job → HaveRoles job → AllFit job → IsReadyCast (job_cast job)
is_ready job accepted seeds roles fit = record {
  accepted = accepted;
  one_each = seeds.conforming;
  roles = role_each job seeds roles;
  wallets = λ v lt t. let f =
      (is_own job v seeds roles fit lt).fits t in
      subst (λ o. IsWallet job.deal v (signing_wallet o v job.deal)) (sym f.1) (fitting_is_good job.deal v f.0 accepted lt f.2);
  scripts = roles.scripts;
}

-- where each conforming party has a seed that gives it what the deal states, every wallet is right
pub all_fit : (job : Job) → ((p : ℕ) → p < job.deal.graph.n → slice_index_or job.conforming p false ≡ true
    → (seed : List ℕ) × (slice_index_or job.seeds p None ≡ Some seed) × (wrong_lock job.deal p seed ≡ None)) → AllFit job
all_fit job have p lt = by (slice_index_or job.conforming p false) refl
  where
    by : (b : Bool) → slice_index_or job.conforming p false ≡ b → cond b (wrong_lock_if_seeded job.deal p (slice_index_or job.seeds p None)) None ≡ None
    by false c = refl
    by true c = let h = have p lt c in ap (wrong_lock_if_seeded job.deal p) h.1 ∙ h.2

-- A job in which nobody follows a script or a strategy.

module _ (f : Bool → Role) (same : (b : Bool) → is_conforming (f b) ≡ b) (plain : (b : Bool) → is_planned (f b) ≡ false) where
  plain_at : (bs : List Bool) (p : ℕ) → is_planned (get_or (map f bs) p kinds.Manual) ≡ false
  plain_at [] p = refl
  plain_at (b ∷ bs) zero = plain b
  plain_at (b ∷ bs) (suc p) = plain_at bs p

  conforms_as : (bs : List Bool) → bs ≡ map is_conforming (map f bs)
  conforms_as [] = refl
  conforms_as (b ∷ bs) = ap₂ (λ (x : Bool) (xs : List Bool). x ∷ xs) (sym (same b)) (conforms_as bs)

  no_strategy : (role : Role) → is_planned role ≡ false → is_strategy role ≡ false
  no_strategy kinds.Conforming e = refl
  no_strategy kinds.Manual e = refl
  no_strategy (kinds.Script moves) e = refl
  no_strategy (kinds.Strategy name) e = e

  no_script : (role : Role) → is_planned role ≡ false → role_script role ≡ []
  no_script kinds.Conforming e = refl
  no_script kinds.Manual e = refl
  no_script (kinds.Script moves) e = absurd (cc e)
  no_script (kinds.Strategy name) e = refl

  pub nobody_asks : (bs : List Bool) → list_any is_strategy (map f bs) ≡ false
  nobody_asks [] = refl
  nobody_asks (b ∷ bs) = ap (λ x. x || list_any is_strategy (map f bs)) (no_strategy (f b) (plain b)) ∙ nobody_asks bs

  pub plain_roles : (job : Job) → job.roles ≡ map f job.conforming → HaveRoles job
  plain_roles job e = record {
    conforming = conforms_as job.conforming ∙ ap (map is_conforming) (sym e);
    scripts = λ p lt.
        let none : role_script (job_role job p) ≡ []
        = ap (λ (rs : List Role). role_script (get_or rs p kinds.Manual)) e
        ∙ no_script (get_or (map f job.conforming) p kinds.Manual) (plain_at job.conforming p)
        in
        subst (All (IsPartyMove job.deal job.seeds p)) (sym none) (All-nil (IsPartyMove job.deal job.seeds p));
  }

-- where nobody follows a strategy, any `Strategies` will do

held_by : (holds : List ℕ → Bool) (role : Role) → is_strategy role ≡ false → IsHeld holds role
held_by holds kinds.Conforming e = tt
held_by holds kinds.Manual e = tt
held_by holds (kinds.Script moves) e = tt
held_by holds (kinds.Strategy name) e = absurd (cc e)

not_among : (rs : List Role) (p : ℕ) → list_any is_strategy rs ≡ false → is_strategy (get_or rs p kinds.Manual) ≡ false
not_among [] p e = refl
not_among (r ∷ rs) zero e = (or_neither (is_strategy r) (list_any is_strategy rs) e).0
not_among (r ∷ rs) (suc p) e = not_among rs p (or_neither (is_strategy r) (list_any is_strategy rs) e).1

pub unasked_are_held : (holds : List ℕ → Bool) (rs : List Role) → list_any is_strategy rs ≡ false → AreHeld holds rs
unasked_are_held holds rs e = λ p lt. held_by holds (get_or rs p kinds.Manual) (not_among rs p e)
