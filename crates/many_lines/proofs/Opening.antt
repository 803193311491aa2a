-- Swaps that were read can be opened, with the places that were found.
use Rattle.std.proofs.Common.{◌≡◌, ◌<◌, ◌≤◌, ◌⊎◌, inl, inr, ◌*◌, ◌^◌, ℕ, List, [], length, map, refl, sym, subst, ap, ◌∙◌, arith}
use Rattle.std.proofs.lemmas.Bool.{cases_lt}
use Rattle.std.proofs.lemmas.List.{get_or-map, get_or_past, length-map}
use Rattle.std.proofs.lemmas.List.Sums.{sum_by-le}
use Rattle.std.specs.List.{sum_by}
use Rattle.std.specs.Prelude.{slice_index_or}
use Rattle.swap_job.specs.declared.job.Job.{Job}
use Rattle.swap_world.specs.Value.{WorldState, new_world}
use Rattle.swap_many.specs.Opening.{AreOpenable, IsNewWorld}
use Rattle.swap_many.specs.Ticking.{nth}
use Rattle.swap_many.specs.Value.{no_world}
use Rattle.swap_many.specs.declared.place.Place.{Place}
use Rattle.many_lines.specs.Fields.{most_units}
use Rattle.many_lines.specs.Places.{job_of_swap, no_job}
use Rattle.many_lines.specs.Whole.{AreBoundedChains, ArePlaced, AreSwaps}
use Rattle.many_lines.specs.declared.many_job.ManyJob.{ManyJob}

-- the world of swap s
pub world_is : (jobs : List Job) (s : ℕ) → s < length jobs → nth (map new_world jobs) s ≡ new_world (job_of_swap jobs s)
world_is jobs s lt = get_or-map new_world jobs s no_job no_world lt

few_here : (units : List ℕ) → length units ≤ 64 → sum_by (λ u. u) units ≤ length units * most_units → sum_by (λ u. u) units ≤ 10 ^ 18
few_here units few most = omega (arith, few, most)

module _ (many : ManyJob) (chains : AreBoundedChains many) (i : ℕ) where
  pub few_accounts_of : length (slice_index_or many.units i []) ≤ 64
  few_accounts_of = go (cases_lt i (length many.names))
    where
      go : (i < length many.names) ⊎ (length many.names ≤ i) → length (slice_index_or many.units i []) ≤ 64
      go (inl lt) = let chain = chains.chains i lt in omega (arith, chain.few, chain.each)
      go (inr le) = rw (get_or_past many.units i [] (omega (arith, le, chains.each))) (omega arith)

  pub few_units_of : sum_by (λ u. u) (slice_index_or many.units i []) ≤ 10 ^ 18
  few_units_of = go (cases_lt i (length many.names))
    where
      go : (i < length many.names) ⊎ (length many.names ≤ i) → sum_by (λ u. u) (slice_index_or many.units i []) ≤ 10 ^ 18
      go (inl lt) =
          let units : List ℕ = slice_index_or many.units i [] in
          few_here units few_accounts_of (sum_by-le (λ u. u) most_units units (chains.chains i lt).low)
      go (inr le) = rw (get_or_past many.units i [] (omega (arith, le, chains.each))) (omega arith)

pub are_openable : (many : ManyJob) (places : List (List Place)) → AreBoundedChains many → AreSwaps many → ArePlaced many places
    → AreOpenable many.units (map new_world many.jobs) places
are_openable many places chains swaps placed =
    let all : length (map new_world many.jobs) ≡ length many.jobs = length-map many.jobs new_world in
    record {
      few_chains = omega (arith, chains.few, chains.each);
      accounts = few_accounts_of many chains;
      units = few_units_of many chains;
      new = λ s lt. subst IsNewWorld (sym (world_is many.jobs s (omega (arith, lt, all)))) (record { state = refl; goes_on = refl });
      placed =
          record {
            few = omega (arith, all, swaps.few);
            one_each = placed.one_each ∙ sym all;
            arcs = λ s lt.
                let here : s < length many.jobs = omega (arith, lt, all) in
                placed.arcs s here ∙ ap (λ (w : WorldState). length w.deal.graph.arcs) (sym (world_is many.jobs s here));
          };
      known = λ s a lt arc.
          let here : s < length many.jobs = omega (arith, lt, all) in
          placed.known s a here (subst (λ (w : WorldState). a < length w.deal.graph.arcs) (world_is many.jobs s here) arc);
    }
