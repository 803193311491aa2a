-- The job of a number, whose deal states what its parties' wallets hold.
use Rattle.std.proofs.Common.{◌≡◌, ℕ, zero, suc, ◌+◌, ◌<◌, ◌≤◌, Bool, true, false, List, ◌∷◌, length, map, replicate, Option, Some, None, IsSome}
use Rattle.std.proofs.Common.{unwrap_or, option_map, slice_index_or, refl, sym, ap, ap₂, ◌∙◌, subst, arith, if◌then◌else◌}
use Rattle.std.specs.List.{range_with_len}
use Rattle.std.proofs.lemmas.List.{get_or-replicate}
use Rattle.swap_digraph.specs.declared.deal.Deal.{Deal}
use Rattle.swap_digraph.specs.declared.deal.Mode.{Mode}
use Rattle.swap_digraph.specs.declared.deal.Mode.TheVariants.{Hashkeys}
use Rattle.swap_job.specs.declared.job.Job.{Job}
use Rattle.party_wallet.specs.Value.{WalletState}
use Rattle.party_wallet.specs.Keys.{new_wallet}
use Rattle.party_wallet.specs.Wallets.{job_wallet}
use Rattle.swap_offer.specs.Proposed.{IsProposed}
use Rattle.swap_gen.specs.Made.{all_keys, made, made_deal, seed_or_zeros}
use Rattle.swap_gen.specs.Owned.{inside_wallets}
use Rattle.swap_gen.specs.Drawn.{generated, plain_deal, plain_job}
use Rattle.swap_gen.proofs.Generated.{generated_is, plain_has_seeds, plain_job_is_proposed}

-- the wallet of each party, where each conforms and has a seed

same_from : {A : Type 0} (f g : ℕ → A) (k n : ℕ) → ((i : ℕ) → k ≤ i → i < k + n → f i ≡ g i) → map f (range_with_len k n) ≡ map g (range_with_len k n)
same_from f g k zero h = refl
same_from f g k (suc n) h =
    ap₂ (λ x xs. x ∷ xs) (h k (omega arith) (omega arith)) (same_from f g (k + 1) n (λ i lo hi. h i (omega (arith, lo)) (omega (arith, hi))))

wallet_at : (conforms : Bool) (seed : Option (List ℕ)) (zeros : List ℕ) (f : List ℕ → WalletState) → conforms ≡ true → IsSome seed
    → Some (f (unwrap_or seed zeros)) ≡ (if conforms then option_map f seed else None)
wallet_at false seed zeros f c s = absurd (cc c)
wallet_at true None zeros f c s = absurd (cc s)
wallet_at true (Some seed) zeros f c s = refl

all_conform : (seed n p : ℕ) → p < n → slice_index_or (plain_job seed n).conforming p false ≡ true
unfolding plain_job
all_conform seed n p lt = get_or-replicate n p true false lt

plain_parties : (seed n : ℕ) → (plain_job seed n).deal.graph.n ≡ n
unfolding plain_job plain_deal
plain_parties seed n = refl

plain_wallets : (seed n : ℕ) → map (λ p. Some (new_wallet (seed_or_zeros (plain_job seed n).seeds p) p (plain_job seed n).deal)) (range_with_len 0
    (plain_job seed n).deal.graph.n)
    ≡ inside_wallets (plain_job seed n)
plain_wallets seed n =
    let job : Job = plain_job seed n in
    same_from (λ p. Some (new_wallet (seed_or_zeros job.seeds p) p job.deal)) (job_wallet job.deal job.conforming job.seeds) 0 job.deal.graph.n
    (λ p lo hi.
    let lt : p < job.deal.graph.n = omega (arith, hi) in
    wallet_at (slice_index_or job.conforming p false) (slice_index_or job.seeds p None) (replicate 32 0) (λ s. new_wallet s p job.deal)
    (all_conform seed n p (subst (λ k. p < k) (plain_parties seed n) lt)) (plain_has_seeds seed n p lt))

-- wallets ask of a deal its mode and how many lead, which making it keeps
made_wallets : (job : Job) → inside_wallets job ≡ inside_wallets (made job)
unfolding made_deal
made_wallets job = refl

-- The job of a number, made of the one before.
module _ (seed n : ℕ) (job : Job) (job_is : job ≡ plain_job seed n) where
  pub in_hashkeys : job.deal.mode ≡ Hashkeys
  unfolding plain_job plain_deal
  in_hashkeys = ap (λ (j : Job). j.deal.mode) job_is

  pub is_proposed : 2 ≤ n → n ≤ 24 → IsProposed job.deal
  is_proposed many few = subst (λ (j : Job). IsProposed j.deal) (sym job_is) (plain_job_is_proposed seed n many few)

  pub has_few : 2 ≤ n → n ≤ 24 → length job.deal.leaders ≤ 8
  has_few many few = let k = (is_proposed many few).leaders.1 in omega (arith, k)

  pub states_keys : (keys : List (List (List ℕ))) (seeds : List (Option (List ℕ))) → keys ≡ all_keys Hashkeys job.seeds job.deal → seeds ≡ job.seeds
      → keys ≡ all_keys job.deal.mode seeds job.deal
  states_keys keys seeds e same =
      e ∙ ap (λ (m : Mode). all_keys m job.seeds job.deal) (sym in_hashkeys)
      ∙ ap (λ (s : List (Option (List ℕ))). all_keys job.deal.mode s job.deal) (sym same)

  pub is_made : (seeds : List (Option (List ℕ))) (deal : Deal) → seeds ≡ job.seeds → deal ≡ made_deal seeds job.deal
      → record job { deal = deal } ≡ generated seed n
  is_made seeds deal seeds_are deal_is =
      ap (λ (x : Deal). record job { deal = x }) (deal_is ∙ ap (λ (s : List (Option (List ℕ))). made_deal s job.deal) seeds_are)
      ∙ ap (λ (j : Job). record j { deal = made_deal j.seeds j.deal }) job_is
      ∙ generated_is seed n

  pub has_wallets : (wallets : List (Option WalletState))
      → wallets ≡ map (λ p. Some (new_wallet (seed_or_zeros job.seeds p) p job.deal)) (range_with_len 0 job.deal.graph.n)
      → wallets ≡ inside_wallets (generated seed n)
  has_wallets wallets e =
      e ∙ ap (λ (j : Job). map (λ p. Some (new_wallet (seed_or_zeros j.seeds p) p j.deal)) (range_with_len 0 j.deal.graph.n)) job_is
      ∙ plain_wallets seed n ∙ made_wallets (plain_job seed n)
