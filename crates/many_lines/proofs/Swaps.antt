-- What holds of each swap and of each chain that was read.
use Rattle.std.proofs.Common.{◌≡◌, ◌<◌, ◌≤◌, ◌⊎◌, inl, inr, ℕ, Bool, List, [], ◌∷◌, ◌++◌, length, get_or, refl, sym, subst, ◌∙◌, ap, arith, length-append}
use Rattle.std.proofs.lemmas.Bool.{cases_lt}
use Rattle.std.proofs.lemmas.List.{get_or_append_left, get_or_default, map_push}
use Rattle.std.proofs.Math.Seq.{get_or-append_seam}
use Rattle.std.specs.Prelude.{true, false, if◌then◌else◌, map, slice_index_or, OnOk, Result, Ok, Err}
use Rattle.swap_job.specs.declared.job.Job.{Job}
use Rattle.swap_job.specs.declared.job.Purpose.TheVariants.{Run}
use Rattle.offer_header.specs.Limits.{HoldsEach}
use Rattle.swap_offer.specs.Job.{IsWholeJob}
use Rattle.many_lines.specs.Below.{AreChainsBelow, IsBoundedChain}
use Rattle.many_lines.specs.Places.{job_of_swap, no_job}
use Rattle.many_lines.specs.Whole.{AreBoundedChains, AreSwaps, IsSwap}
use Rattle.many_lines.specs.declared.many_job.ManyJob.{ManyJob}

-- what stands there is the job of the swap
pub is_job_at : (jobs : List Job) (s : ℕ) (job : Job) → s < length jobs → job ≡ get_or jobs s job → job_of_swap jobs s ≡ job
is_job_at jobs s job lt is = get_or_default jobs s no_job job lt ∙ sym is

is_chains_at : (all : List (List ℕ)) (s : ℕ) (chains : List ℕ) → s < length all → chains ≡ get_or all s chains → slice_index_or all s [] ≡ chains
is_chains_at all s chains lt is = get_or_default all s [] chains lt ∙ sym is

module _ (many : ManyJob) (swaps : AreSwaps many) (s : ℕ) (lt : s < length many.jobs) (job : Job) (is : job ≡ get_or many.jobs s job) where
  pub whole_here : IsWholeJob job
  whole_here = subst IsWholeJob (is_job_at many.jobs s job lt is) (swaps.swaps s lt).whole

  pub run_here : job.purpose ≡ Run
  run_here = subst (λ (j : Job). j.purpose ≡ Run) (is_job_at many.jobs s job lt is) (swaps.swaps s lt).purpose

  module _ (chains : List ℕ) (are : chains ≡ get_or many.chains s chains) where
    same : slice_index_or many.chains s [] ≡ chains
    same = is_chains_at many.chains s chains (omega (arith, lt, swaps.each)) are

    pub arcs_here : length chains ≡ length job.deal.graph.arcs
    arcs_here =
        sym (ap length same) ∙ (swaps.swaps s lt).arcs ∙ ap (λ (j : Job). length j.deal.graph.arcs) (is_job_at many.jobs s job lt is)

    pub chains_here : (a : ℕ) → a < length chains → slice_index_or chains a 0 < length many.names
    chains_here =
        subst (λ (cs : List ℕ). (a : ℕ) → a < length cs → slice_index_or cs a 0 < length many.names) same (λ a l. (swaps.swaps s lt).below a 0 l)

pub few_accounts : (many : ManyJob) → AreBoundedChains many → (i : ℕ) → i < length many.names → length (slice_index_or many.names i []) ≤ 256
few_accounts many chains i lt = omega (arith, (chains.chains i lt).few)

-- One more.

module _ {A B : Type 0} (P : A → B → Type 0) (xs : List A) (ys : List B) (x a : A) (y b : B) (each : length ys ≡ length xs)
    (before : (i : ℕ) → i < length xs → P (get_or xs i a) (get_or ys i b)) (here : P x y) where
  pub one_more : (i : ℕ) → i < length (xs ++ x ∷ []) → P (get_or (xs ++ x ∷ []) i a) (get_or (ys ++ y ∷ []) i b)
  one_more i lt = go (cases_lt i (length xs))
    where
      go : (i < length xs) ⊎ (length xs ≤ i) → P (get_or (xs ++ x ∷ []) i a) (get_or (ys ++ y ∷ []) i b)
      go (inl l) = rw (get_or_append_left xs (x ∷ []) a i l, get_or_append_left ys (y ∷ []) b i (rw each l)) (before i l)
      go (inr le) =
          let at : i ≡ length xs = omega (arith, lt, le, length-append xs (x ∷ [])) in
          let there : i ≡ length ys = at ∙ sym each in
          let one : get_or (xs ++ x ∷ []) i a ≡ x = rw at (get_or-append_seam xs x [] a) in
          let two : get_or (ys ++ y ∷ []) i b ≡ y = rw there (get_or-append_seam ys y [] b) in
          rw (one, two) here

pub chains_more : (many : ManyJob) (names : List (List ℕ)) (units : List ℕ) → AreBoundedChains many → length many.names < 32 → IsBoundedChain names units
    → AreBoundedChains (record { names = many.names ++ names ∷ []; units = many.units ++ units ∷ []; jobs = many.jobs; chains = many.chains })
chains_more many names units old few here = record {
  few = omega (arith, few, length-append many.names (names ∷ []));
  each = omega (arith, old.each, length-append many.names (names ∷ []), length-append many.units (units ∷ []));
  chains = one_more IsBoundedChain many.names many.units names [] units [] old.each old.chains here;
}

pub swaps_more : (many : ManyJob) (job : Job) (chains : List ℕ) → AreSwaps many → length many.jobs < 8 → IsSwap (length many.names) job chains
    → AreSwaps (record { names = many.names; units = many.units; jobs = many.jobs ++ job ∷ []; chains = many.chains ++ chains ∷ [] })
swaps_more many job chains old few here = record {
  few = omega (arith, few, length-append many.jobs (job ∷ []));
  each = omega (arith, old.each, length-append many.jobs (job ∷ []), length-append many.chains (chains ∷ []));
  swaps = one_more (IsSwap (length many.names)) many.jobs many.chains job no_job chains [] old.each old.swaps here;
}

pub no_swaps_yet : (many : ManyJob) → length many.jobs ≡ 0 → length many.chains ≡ 0 → AreSwaps many
no_swaps_yet many jobs chains = record {
  few = omega (arith, jobs);
  each = chains ∙ sym jobs;
  swaps = λ s lt. absurd (omega (arith, lt, jobs));
}

-- ---- strategies

abbrev pub AreAllHeld : (List ℕ → Bool) → List Job → Type 0
AreAllHeld has jobs = (s : ℕ) → s < length jobs → HoldsEach has (job_of_swap jobs s).roles

pub holds_more : (has : List ℕ → Bool) (jobs : List Job) (job : Job) → AreAllHeld has jobs → HoldsEach has job.roles → AreAllHeld has (jobs ++ job ∷ [])
holds_more has jobs job held here = one_more (λ (x y : Job). HoldsEach has x.roles) jobs jobs job no_job job no_job refl held here

-- what is held of the same swaps
pub held_as : {T E : Type 0} (result : Result T E) (has : List ℕ → Bool) (one two three : List Job) → one ≡ two → OnOk result (three ≡ one)
    → OnOk result (AreAllHeld has two → AreAllHeld has three)
held_as (Ok x) has one two three before is = subst (AreAllHeld has) (sym (is ∙ before))
held_as (Err e) has one two three before is = is

-- what a call says of what is held
pub held_after : {T E : Type 0} (result : Result T E) (has : List ℕ → Bool) (one two three : List Job) → one ≡ two
    → OnOk result (AreAllHeld has one → AreAllHeld has three) → OnOk result (AreAllHeld has two → AreAllHeld has three)
held_after (Ok x) has one two three before is = λ held. is (subst (AreAllHeld has) (sym before) held)
held_after (Err e) has one two three before is = is

-- Once there is a swap there is a chain.

nothing_below_zero : (count : ℕ) (chains : List ℕ) → AreChainsBelow count chains → 1 ≤ length chains → 1 ≤ count
nothing_below_zero count chains below some = let one = below 0 0 (omega (arith, some)) in omega (arith, one)

pub some_chain : (many : ManyJob) → AreSwaps many → 1 ≤ length many.jobs → 1 ≤ length many.names
some_chain many swaps some =
    let swap = swaps.swaps 0 (omega (arith, some)) in
    nothing_below_zero (length many.names) (slice_index_or many.chains 0 []) swap.below (omega (arith, swap.arcs, swap.whole.sized.arcs.0))

-- ---- lists that grow

pub grown : {X : Type 0} (xs ys : List X) (x : X) (done : Bool) → ys ≡ (if done then xs ++ x ∷ [] else xs) → done ≡ true → ys ≡ xs ++ x ∷ []
grown xs ys x true is there = is
grown xs ys x false is there = absurd (cc there)

pub mapped_more : {X Y Z : Type 0} (f : X → Z) (g : Y → Z) (xs : List X) (ys : List Y) (more : List X) (more' : List Y) (x : X) (y : Y)
    → more ≡ xs ++ x ∷ [] → more' ≡ ys ++ y ∷ [] → map f xs ≡ map g ys → f x ≡ g y → map f more ≡ map g more'
mapped_more f g xs ys more more' x y p q all one = rw (p, q, map_push f xs x, map_push g ys y, all, one) refl
