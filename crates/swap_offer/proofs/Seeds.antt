-- A job that passes has the wallets and the seeds that its purpose needs.
use Rattle.std.proofs.Common.{◌≡◌, ℕ, ◌<◌, ◌&&◌, ◌||◌, Bool, true, false, cond, List, Option, Some, None, IsSome, is_none, option_map, OnOk, Result, Ok, Err}
use Rattle.std.proofs.Common.{is_some, refl, sym, ap, subst}
use Rattle.std.specs.List.{range_with_len}
use Rattle.swap_base.specs.Fault.{Gives}
use Rattle.swap_base.specs.Lists.{first_given_answer}
use Rattle.swap_base.specs.declared.fault.Fault.{Fault}
use Rattle.swap_base.proofs.Lists.{in_range, none_in, or-right}
use Rattle.swap_job.specs.declared.job.Job.{Job}
use Rattle.swap_job.specs.declared.job.Purpose.{Purpose}
use Rattle.swap_job.specs.declared.job.Purpose.TheVariants.{Check, Run, Race, Make, Audit}
use Rattle.command_input.specs.declared.reason.Reason.{Reason}
use Rattle.command_input.specs.declared.reason.Reason.TheVariants.{NoSeed, WrongWallet}
use Rattle.party_wallet.specs.Fits.{wrong_lock}
use Rattle.swap_offer.specs.Checks.{unless_wrong}
use Rattle.swap_offer.specs.Wallets.{party_conforms, party_seed, is_crafter, needs_seed, no_seed, seeded, wrong_seed, wrong_wallet, fitting, fitting_wallets}
use Rattle.swap_offer.specs.Wallets.{walleted}
use Rattle.swap_offer.specs.Wallets.{HaveWallets, HaveRequiredWallets, HaveRequiredSeeds}

passed : (o : Option Reason) (u : Unit {0}) → unless_wrong o ≡ Ok u → o ≡ None
passed None u e = refl
passed (Some r) u e = absurd (cc e)

seed_is : (c : Bool) (o : Option (List ℕ)) (r : Reason) → c ≡ true → cond (c && is_none o) (Some r) None ≡ None → (seed : List ℕ) × (o ≡ Some seed)
seed_is true None r t e = absurd (cc e)
seed_is true (Some seed) r t e = (seed, refl)
seed_is false o r t e = absurd (cc t)

no_lock : (p : ℕ) (o : Option ℕ) → option_map (WrongWallet p) o ≡ None → o ≡ None
no_lock p None e = refl
no_lock p (Some lock) e = absurd (cc e)

fits_is : (job : Job) (p : ℕ) (seed : List ℕ) (c : Bool) (o : Option (List ℕ)) → c ≡ true → o ≡ Some seed → cond c (wrong_seed job p o) None ≡ None
    → wrong_lock job.deal p seed ≡ None
fits_is job p seed false o t s e = absurd (cc t)
fits_is job p seed true None t s e = absurd (cc s)
fits_is job p seed true (Some given) t s e =
    let same : given ≡ seed = cc s in
    subst (λ x. wrong_lock job.deal p x ≡ None) same (no_lock p (wrong_lock job.deal p given) e)

have : (job : Job) → ((p : ℕ) → party_conforms job p ≡ true → needs_seed job.purpose job p ≡ true)
    → first_given_answer (no_seed job) (range_with_len 0 job.deal.graph.n) ≡ None
    → first_given_answer (wrong_wallet job) (range_with_len 0 job.deal.graph.n) ≡ None → HaveWallets job
have job needs none wrong p lt c =
    let k = in_range p job.deal.graph.n lt in
    let absent = none_in (no_seed job) (range_with_len 0 job.deal.graph.n) p none k in
    let s = seed_is (needs_seed job.purpose job p) (party_seed job p) (NoSeed p) (needs p c) absent in
    record {
      seed = s.0;
      there = s.1;
      fits = fits_is job p s.0 (party_conforms job p) (party_seed job p) c s.1 (none_in (wrong_wallet job) (range_with_len 0 job.deal.graph.n) p wrong k);
    }

needs_as : (job : Job) (purpose : Purpose) (p : ℕ) → job.purpose ≡ purpose → needs_seed purpose job p ≡ true → needs_seed job.purpose job p ≡ true
needs_as job purpose p e c = subst (λ (x : Purpose). needs_seed x job p ≡ true) (sym e) c

either : (a b : Bool) → a ≡ true → (a || b) ≡ true
either a b e = ap (λ (x : Bool). x || b) e

have_for : (job : Job) (u w : Unit {0}) → seeded job ≡ Ok u → walleted job ≡ Ok w → HaveRequiredWallets job.purpose job
unfolding seeded walleted fitting
have_for job u w s f = by job.purpose refl f
  where
    by : (purpose : Purpose) → job.purpose ≡ purpose → fitting_wallets purpose job ≡ Ok w → HaveRequiredWallets purpose job
    by Check e k = tt
    by Run e k = have job (λ p c. needs_as job Run p e (either (party_conforms job p) (is_crafter job p) c)) (passed _ u s) (passed _ w k)
    by Race e k = have job (λ p c. needs_as job Race p e (either (party_conforms job p) (is_crafter job p) c)) (passed _ u s) (passed _ w k)
    by Make e k = tt
    by Audit e k = tt

pub have_on : {X : Type 0} (job : Job) (u : Unit {0}) (result : Result X (Fault Reason)) → seeded job ≡ Ok u → Gives (λ _. tt) result (walleted job)
    → OnOk result (HaveRequiredWallets job.purpose job)
have_on job u (Ok x) s f = have_for job u tt s f
have_on job u (Err e) s f = tt

-- a plain job has the seed of each party

some_is : (o : Option (List ℕ)) (seed : List ℕ) → o ≡ Some seed → IsSome o
some_is None seed e = absurd (cc e)
some_is (Some x) seed e = refl

seeds_for : (job : Job) (u : Unit {0}) → seeded job ≡ Ok u → HaveRequiredSeeds job.purpose job
unfolding seeded
seeds_for job u s = by job.purpose refl
  where
    by : (purpose : Purpose) → job.purpose ≡ purpose → HaveRequiredSeeds purpose job
    by Check e = tt
    by Run e = tt
    by Race e = tt
    by Make e = λ p lt.
        let absent = none_in (no_seed job) (range_with_len 0 job.deal.graph.n) p (passed _ u s) (in_range p job.deal.graph.n lt) in
        let there = seed_is (needs_seed job.purpose job p) (party_seed job p) (NoSeed p) (needs_as job Make p e refl) absent in
        some_is (party_seed job p) there.0 there.1
    by Audit e = tt

pub seeds_on : {X : Type 0} (job : Job) (u : Unit {0}) (result : Result X (Fault Reason)) → seeded job ≡ Ok u → OnOk result (HaveRequiredSeeds job.purpose job)
seeds_on job u (Ok x) s = seeds_for job u s
seeds_on job u (Err e) s = tt

pub seeded_on : {X : Type 0} (job : Job) (u : Unit {0}) (result : Result X (Fault Reason)) → seeded job ≡ Ok u → OnOk result (seeded job ≡ Ok tt)
seeded_on job u (Ok x) s = s
seeded_on job u (Err e) s = tt

-- a party that crafts in a script has a seed

-- the purpose needs it
abbrev pub AsksCrafters : Job → Type 0
AsksCrafters job = (p : ℕ) → is_crafter job p ≡ true → needs_seed job.purpose job p ≡ true

pub asks_in_run : (job : Job) → job.purpose ≡ Run → AsksCrafters job
asks_in_run job e p c = needs_as job Run p e (or-right (party_conforms job p) (is_crafter job p) c)

pub asks_in_race : (job : Job) → job.purpose ≡ Race → AsksCrafters job
asks_in_race job e p c = needs_as job Race p e (or-right (party_conforms job p) (is_crafter job p) c)

pub asks_to_make : (job : Job) → job.purpose ≡ Make → AsksCrafters job
asks_to_make job e p c = needs_as job Make p e refl

crafter_seed : (job : Job) (p : ℕ) → AsksCrafters job → first_given_answer (no_seed job) (range_with_len 0 job.deal.graph.n) ≡ None
    → p < job.deal.graph.n → is_crafter job p ≡ true → is_some (party_seed job p) ≡ true
crafter_seed job p asks none lt c =
    let absent = none_in (no_seed job) (range_with_len 0 job.deal.graph.n) p none (in_range p job.deal.graph.n lt) in
    let there = seed_is (needs_seed job.purpose job p) (party_seed job p) (NoSeed p) (asks p c) absent in
    ap is_some there.1

pub crafters_seeded : (job : Job) (u : Unit {0}) → AsksCrafters job → seeded job ≡ Ok u → (p : ℕ) → p < job.deal.graph.n
    → is_crafter job p ≡ true → is_some (party_seed job p) ≡ true
unfolding seeded
crafters_seeded job u asks s p lt c = crafter_seed job p asks (passed _ u s) lt c
