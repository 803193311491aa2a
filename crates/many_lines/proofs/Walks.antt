-- Places that are found one after the other, as loops do.
use Rattle.std.proofs.Common.{◌≡◌, ℕ, ◌+◌, ◌<◌, ◌≤◌, length, get_or, drop, List, [], ◌∷◌, ◌++◌, Result, Ok, Err, refl, sym, ap, ◌∙◌, append_assoc, arith}
use Rattle.std.proofs.Common.{add-one, drop-cons, append-nil}
use Rattle.std.proofs.lemmas.List.{nil_from_length, length-drop}
use Rattle.swap_base.specs.declared.fault.Fault.{Fault}
use Rattle.swap_base.specs.declared.fault.Fault.TheVariants.{Refused, NoMemory}
use Rattle.swap_base.specs.Fault.{◌>>=◌, Fails}
use Rattle.swap_job.specs.declared.job.Job.{Job}
use Rattle.command_input.specs.declared.refusal.Refusal.{Refusal}
use Rattle.swap_many.specs.declared.place.Place.{Place}
use Rattle.many_lines.specs.Places.{arc_places, job_of_swap, find_place, swap_places}
use Rattle.many_lines.specs.declared.many_job.ManyJob.{ManyJob}

-- what was found before, and what is still found
abbrev pub with_front : {B : Type 0} → List B → Result (List B) Refusal → Result (List B) Refusal
with_front front read = read >>= λ ys. Ok (front ++ ys)

pub starts : {B : Type 0} (read : Result (List B) Refusal) → with_front [] read ≡ read
starts (Ok ys) = refl
starts (Err e) = refl

regroup : {B : Type 0} (front : List B) (y : B) (read : Result (List B) Refusal)
    → with_front front (read >>= λ ys. Ok (y ∷ ys)) ≡ with_front (front ++ y ∷ []) read
regroup {B = B} front y (Ok ys) = ap (λ (zs : List B). let r : Result (List B) Refusal = Ok zs in r) (simp append_assoc)
regroup front y (Err e) = refl

-- ---- the arcs of a swap

module _ (names : List (List (List ℕ))) (s : ℕ) (job : Job) (front : List Place) (chains : List ℕ) (i : ℕ) (total : Result (List Place) Refusal) where
  pub arcs_on : (d : ℕ) (place : Place) → i < length chains → find_place names s job (get_or chains i d) i ≡ Ok place
      → with_front front (arc_places names s job i (drop i chains)) ≡ total
      → with_front (front ++ place ∷ []) (arc_places names s job (i + 1) (drop (i + 1) chains)) ≡ total
  arcs_on d place lt found_name so_far =
      let e : drop i chains ≡ get_or chains i d ∷ drop (i + 1) chains = rw (add-one, drop-cons chains i d) refl in
      let one : with_front front (arc_places names s job i (drop i chains))
      ≡ with_front (front ++ place ∷ []) (arc_places names s job (i + 1) (drop (i + 1) chains)) =
      rw (e, found_name) (regroup front place (arc_places names s job (i + 1) (drop (i + 1) chains))) in
      sym one ∙ so_far

  pub arcs_fail : (d : ℕ) (fault : Fault Refusal) → i < length chains → Fails fault (find_place names s job (get_or chains i d) i)
      → with_front front (arc_places names s job i (drop i chains)) ≡ total → Fails fault total
  arcs_fail d NoMemory lt found_name so_far = tt
  arcs_fail d (Refused reason) lt found_name so_far =
      let e : drop i chains ≡ get_or chains i d ∷ drop (i + 1) chains = rw (add-one, drop-cons chains i d) refl in
      let one : with_front front (arc_places names s job i (drop i chains)) ≡ Err reason = rw (e, found_name) refl in
      sym so_far ∙ one

  pub arcs_done : length chains ≤ i → with_front front (arc_places names s job i (drop i chains)) ≡ total → total ≡ Ok front
  arcs_done le so_far =
      let e : drop i chains ≡ [] = nil_from_length (drop i chains) (omega (arith, length-drop i chains)) in
      let one : with_front front (arc_places names s job i (drop i chains)) ≡ Ok front = rw e (ap Ok (append-nil front)) in
      sym so_far ∙ one

-- ---- the swaps

module _ (many : ManyJob) (front : List (List Place)) (chains : List (List ℕ)) (i : ℕ) (total : Result (List (List Place)) Refusal) where
  pub swaps_on : (d : List ℕ) (places : List Place) → i < length chains → arc_places many.names i (job_of_swap many.jobs i) 0 (get_or chains i d) ≡ Ok places
      → with_front front (swap_places many i (drop i chains)) ≡ total
      → with_front (front ++ places ∷ []) (swap_places many (i + 1) (drop (i + 1) chains)) ≡ total
  swaps_on d places lt found_name so_far =
      let e : drop i chains ≡ get_or chains i d ∷ drop (i + 1) chains = rw (add-one, drop-cons chains i d) refl in
      let one : with_front front (swap_places many i (drop i chains))
      ≡ with_front (front ++ places ∷ []) (swap_places many (i + 1) (drop (i + 1) chains)) =
      rw (e, found_name) (regroup front places (swap_places many (i + 1) (drop (i + 1) chains))) in
      sym one ∙ so_far

  pub swaps_fail : (d : List ℕ) (fault : Fault Refusal) → i < length chains
      → Fails fault (arc_places many.names i (job_of_swap many.jobs i) 0 (get_or chains i d))
      → with_front front (swap_places many i (drop i chains)) ≡ total → Fails fault total
  swaps_fail d NoMemory lt found_name so_far = tt
  swaps_fail d (Refused reason) lt found_name so_far =
      let e : drop i chains ≡ get_or chains i d ∷ drop (i + 1) chains = rw (add-one, drop-cons chains i d) refl in
      let one : with_front front (swap_places many i (drop i chains)) ≡ Err reason = rw (e, found_name) refl in
      sym so_far ∙ one

  pub swaps_done : length chains ≤ i → with_front front (swap_places many i (drop i chains)) ≡ total → total ≡ Ok front
  swaps_done le so_far =
      let e : drop i chains ≡ [] = nil_from_length (drop i chains) (omega (arith, length-drop i chains)) in
      let one : with_front front (swap_places many i (drop i chains)) ≡ Ok front = rw e (ap Ok (append-nil front)) in
      sym so_far ∙ one
