-- The places that are found: each is a chain, and two of its accounts.
use Rattle.std.proofs.Common.{◌≡◌, ◌<◌, ℕ, zero, suc, ◌+◌, List, [], ◌∷◌, length, get_or, Option, Some, None, Ok, refl, sym, subst, ap, ◌∙◌, arith}
use Rattle.std.proofs.lemmas.List.Elements.{All-cons, All-head, All-nil, All-tail}
use Rattle.std.proofs.lemmas.List.Quantifiers.{position-Some}
use Rattle.std.specs.List.{All}
use Rattle.std.specs.Prelude.{slice_index_or}
use Rattle.std.specs.Str.{bytes_eq}
use Rattle.swap_base.specs.Fault.{◌>>=◌}
use Rattle.offer_moves.proofs.Chains.{went}
use Rattle.swap_job.specs.declared.job.Job.{Job}
use Rattle.swap_many.specs.Chains.{nowhere}
use Rattle.swap_many.specs.Opening.{IsChainPlace}
use Rattle.swap_many.specs.declared.place.Place.{Place}
use Rattle.many_lines.specs.Below.{AreChainsBelow}
use Rattle.many_lines.specs.Places.{find_account, arc_places, job_of_swap, make_place, find_place, arc_place, place_or, find_places, swap_places}
use Rattle.many_lines.specs.Whole.{AreBoundedChains, ArePlaced, AreSwaps}
use Rattle.many_lines.specs.declared.many_job.ManyJob.{ManyJob}

-- an account that is found is one of them
is_known : (accounts : List (List ℕ)) (name : List ℕ) (x : ℕ) → find_account accounts name ≡ Some x → x < length accounts
is_known accounts name x is = (position-Some (bytes_eq name) accounts x [] is).0

by_both : (n chain : ℕ) (from to : Option ℕ) (p : Place) → ((x : ℕ) → from ≡ Some x → x < n) → ((x : ℕ) → to ≡ Some x → x < n)
    → make_place chain from to ≡ Some p → (p.chain ≡ chain) × (p.from < n) × (p.to < n)
by_both n chain (Some x) (Some y) p low high is =
    let there : Place = record { chain = chain; from = x; to = y } in
    let same : there ≡ p = cc is in (
      sym (ap (λ (q : Place). q.chain) same),
      subst (λ (q : Place). q.from < n) same (low x refl),
      subst (λ (q : Place). q.to < n) same (high y refl),
    )
by_both n chain (Some x) None p low high is = absurd (cc is)
by_both n chain None to p low high is = absurd (cc is)

is_there : (s a : ℕ) (place : Option Place) (p : Place) → place_or s a place ≡ Ok p → place ≡ Some p
is_there s a (Some q) p is = cc is
is_there s a None p is = absurd (cc is)

module _ (many : ManyJob) (chains : AreBoundedChains many) where
  place_known : (s : ℕ) (job : Job) (chain a : ℕ) (p : Place) → chain < length many.names → find_place many.names s job chain a ≡ Ok p
      → IsChainPlace many.units p
  place_known s job chain a p lt is =
      let accounts : List (List ℕ) = slice_index_or many.names chain [] in
      let at = is_there s a (arc_place accounts job chain a) p is in
      let t = by_both (length accounts) chain _ _ p (λ x e. is_known accounts _ x e) (λ x e. is_known accounts _ x e) at in
      let same : length (slice_index_or many.units chain []) ≡ length accounts = (chains.chains chain lt).each in
      record { chain = omega (arith, t.0, lt, chains.each); from = rw (t.0, same) t.1; to = rw (t.0, same) t.2 }

  -- a place for each arc of a swap
  arcs_placed : (s : ℕ) (job : Job) (a : ℕ) (on : List ℕ) (places : List Place) → AreChainsBelow (length many.names) on
      → arc_places many.names s job a on ≡ Ok places → (length places ≡ length on) × All (IsChainPlace many.units) places
  arcs_placed s job a [] places below is =
      let e : ◌≡◌ {A = List Place} [] places = cc is in
      (subst (λ (ps : List Place). length ps ≡ 0) e refl, subst (All (IsChainPlace many.units)) e (All-nil (IsChainPlace many.units)))
  arcs_placed s job a (chain ∷ on) places below is =
      let one = went (find_place many.names s job chain a) (λ place. arc_places many.names s job (a + 1) on >>= λ ps. Ok (place ∷ ps)) places is in
      let two = went (arc_places many.names s job (a + 1) on) (λ ps. Ok (one.0 ∷ ps)) places one.2 in
      let e : one.0 ∷ two.0 ≡ places = cc two.2 in
      let rest = arcs_placed s job (a + 1) on two.0 (All-tail (λ n. n < length many.names) chain on below) two.1 in
      let here = place_known s job chain a one.0 (All-head (λ n. n < length many.names) chain on below) one.1 in (
        subst (λ (ps : List Place). length ps ≡ suc (length on)) e (ap suc rest.0),
        subst (All (IsChainPlace many.units)) e (All-cons (IsChainPlace many.units) one.0 two.0 here rest.1),
      )

  -- one more swap
  cons_each : (on : List ℕ) (more : List (List ℕ)) (ps : List Place) (others : List (List Place))
      → (length ps ≡ length on) × All (IsChainPlace many.units) ps
      → ((k : ℕ) → k < length more → (length (get_or others k []) ≡ length (get_or more k [])) × All (IsChainPlace many.units) (get_or others k []))
      → (k : ℕ) → k < length (on ∷ more)
      → (length (get_or (ps ∷ others) k []) ≡ length (get_or (on ∷ more) k [])) × All (IsChainPlace many.units) (get_or (ps ∷ others) k [])
  cons_each on more ps others here rest zero lt = here
  cons_each on more ps others here rest (suc k) lt = rest k (omega (arith, lt))

  swaps_placed : (s : ℕ) (rest : List (List ℕ)) (places : List (List Place))
      → ((k : ℕ) → k < length rest → AreChainsBelow (length many.names) (get_or rest k [])) → swap_places many s rest ≡ Ok places
      → (length places ≡ length rest)
      × ((k : ℕ) → k < length rest → (length (get_or places k []) ≡ length (get_or rest k [])) × All (IsChainPlace many.units) (get_or places k []))
  swaps_placed s [] places below is =
      let e : ◌≡◌ {A = List (List Place)} [] places = cc is in
      (subst (λ (ps : List (List Place)). length ps ≡ 0) e refl, λ k lt. absurd (omega (arith, lt)))
  swaps_placed s (on ∷ more) places below is =
      let one = went (arc_places many.names s (job_of_swap many.jobs s) 0 on) (λ ps. swap_places many (s + 1) more >>= λ others. Ok (ps ∷ others)) places is in
      let two = went (swap_places many (s + 1) more) (λ others. Ok (one.0 ∷ others)) places one.2 in
      let e : one.0 ∷ two.0 ≡ places = cc two.2 in
      let here = arcs_placed s (job_of_swap many.jobs s) 0 on one.0 (below 0 (omega arith)) one.1 in
      let rest = swaps_placed (s + 1) more two.0 (λ k lt. below (suc k) (omega (arith, lt))) two.1 in (
        subst (λ (ps : List (List Place)). length ps ≡ suc (length more)) e (ap suc rest.0),
        subst (λ (ps : List (List Place)). (k : ℕ) → k < length (on ∷ more)
            → (length (get_or ps k []) ≡ length (get_or (on ∷ more) k [])) × All (IsChainPlace many.units) (get_or ps k [])) e
            (cons_each on more one.0 two.0 here rest.1),
      )

pub are_placed : (many : ManyJob) (places : List (List Place)) → AreBoundedChains many → AreSwaps many → find_places many ≡ Ok places → ArePlaced many places
are_placed many places chains swaps is =
    let t = swaps_placed many chains 0 many.chains places (λ k lt. (swaps.swaps k (omega (arith, lt, swaps.each))).below) is in
    record {
      one_each = t.0 ∙ swaps.each;
      arcs = λ s lt. (t.1 s (omega (arith, lt, swaps.each))).0 ∙ (swaps.swaps s lt).arcs;
      known = λ s a lt below.
          let one = t.1 s (omega (arith, lt, swaps.each)) in
          one.1 a nowhere (omega (arith, below, one.0, (swaps.swaps s lt).arcs));
    }
