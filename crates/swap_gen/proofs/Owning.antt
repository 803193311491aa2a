-- What is made of seeds is what their parties own.
use Rattle.std.proofs.Common.{◌≡◌, ℕ, ◌<◌, Bool, true, false, cond, not, ◌||◌, List, [], ◌∷◌, length, get_or, replicate}
use Rattle.std.proofs.Common.{Option, Some, None, unwrap_or, IsSome, slice_index_or, refl, sym, ap, ◌∙◌, inl, inr, subst, arith, eqb-true}
use Rattle.std.specs.Str.{bytes_eq}
use Rattle.std.specs.List.{find}
use Rattle.std.proofs.lemmas.List.{get_or-map, get_or_default}
use Rattle.std.proofs.lemmas.List.FromFn.{get_or-map-range_with_len}
use Rattle.swap_base.specs.Lists.{IsElement}
use Rattle.swap_base.proofs.Lists.{and_both, from_range}
use Rattle.swap_digraph.specs.Deal.{lock_leader, leads, locks, lock_hashlock}
use Rattle.swap_digraph.specs.declared.deal.Deal.{Deal}
use Rattle.swap_digraph.specs.declared.deal.Mode.{Mode}
use Rattle.swap_digraph.specs.declared.deal.Mode.TheVariants.{Timelocks, Hashkeys}
use Rattle.hash_signature.specs.Signature.{hashed_value, derive_secret, derive_public_key}
use Rattle.hashkey_path.specs.Hashkey.{party_public_key}
use Rattle.hashkey_path.proofs.Validity.{bytes_eq_self}
use Rattle.party_wallet.specs.Fits.{has_key, opens_own, fits_lock, wrong_lock}
use Rattle.swap_job.specs.declared.job.Job.{Job}
use Rattle.swap_offer.specs.Proposed.{HaveSeeds}
use Rattle.swap_gen.specs.Made.{seed_or_zeros, seed_hashlock, seed_keys, all_keys, made_deal, made}
use Rattle.swap_gen.specs.Owned.{OwnsKeys}

some_is : (o : Option (List ℕ)) → IsSome o → (x : List ℕ) × (o ≡ Some x)
some_is None h = absurd (cc h)
some_is (Some x) h = (x, refl)

seed_is : (seeds : List (Option (List ℕ))) (p : ℕ) (seed : List ℕ) → slice_index_or seeds p None ≡ Some seed → seed_or_zeros seeds p ≡ seed
seed_is seeds p seed e = ap (λ (o : Option (List ℕ)). unwrap_or o (replicate 32 0)) e

key_at : (seeds : List (Option (List ℕ))) (d : Deal) (m : Mode) (p i : ℕ) → m ≡ Hashkeys → p < d.graph.n → i < length d.leaders
    → slice_index_or (slice_index_or (all_keys m seeds d) p []) i [] ≡ derive_public_key (seed_or_zeros seeds p) p i
key_at seeds d Timelocks p i e lp li = absurd (cc e)
key_at seeds d Hashkeys p i e lp li =
    ap (λ (ks : List (List ℕ)). slice_index_or ks i []) (get_or-map-range_with_len (seed_keys seeds d) 0 d.graph.n p p [] lp (omega arith))
    ∙ get_or-map-range_with_len (derive_public_key (seed_or_zeros seeds p) p) 0 (length d.leaders) i i [] li (omega arith)

same_bytes : (xs ys : List ℕ) → xs ≡ ys → bytes_eq xs ys ≡ true
same_bytes xs ys e = subst (λ (zs : List ℕ). bytes_eq xs zs ≡ true) e (bytes_eq_self xs)

-- Where each lock fits, none is wrong.

key_fits : (m : Mode) (d : Deal) (p : ℕ) (seed : List ℕ) (i : ℕ) → (m ≡ Hashkeys → party_public_key d p i ≡ derive_public_key seed p i) → has_key m d p seed i ≡ true
key_fits Timelocks d p seed i h = refl
key_fits Hashkeys d p seed i h = same_bytes (derive_public_key seed p i) (party_public_key d p i) (sym (h refl))

secret_fits : (d : Deal) (p : ℕ) (seed : List ℕ) (i : ℕ) (b : Bool) → leads d p i ≡ b → (leads d p i ≡ true
    → lock_hashlock d i ≡ hashed_value (derive_secret seed))
    → (not b || bytes_eq (hashed_value (derive_secret seed)) (lock_hashlock d i)) ≡ true
secret_fits d p seed i false e h = refl
secret_fits d p seed i true e h = same_bytes (hashed_value (derive_secret seed)) (lock_hashlock d i) (sym (h e))

found_none : (f : ℕ → Bool) (xs : List ℕ) → ((x : ℕ) → IsElement x xs → f x ≡ true) → find (λ x. not (f x)) xs ≡ None
found_none f [] h = refl
found_none f (x ∷ xs) h = go (f x) (h x (inl refl)) (found_none f xs (λ y i. h y (inr i)))
  where
    go : (b : Bool) → b ≡ true → find (λ y. not (f y)) xs ≡ None → cond (not b) (Some x) (find (λ y. not (f y)) xs) ≡ None
    go true e rest = rest
    go false e rest = absurd (cc e)

pub made_is_owned : (job : Job) → HaveSeeds job → (p : ℕ) → p < (made job).deal.graph.n → OwnsKeys (made job) p
unfolding made_deal
made_is_owned job have p lt =
    let s = some_is (slice_index_or job.seeds p None) (have p lt) in
    let e : seed_or_zeros job.seeds p ≡ s.0 = seed_is job.seeds p s.0 s.1 in
    let d : Deal = made_deal job.seeds job.deal in
    record {
      seed = s.0;
      there = s.1;
      fits = found_none (fits_lock d p s.0) (locks d) (λ i among.
          let li : i < length job.deal.leaders = from_range i (length job.deal.leaders) among in
          and_both (has_key d.mode d p s.0 i) (opens_own d p s.0 i)
          (key_fits d.mode d p s.0 i (λ m. key_at job.seeds job.deal job.deal.mode p i m lt li ∙ ap (λ x. derive_public_key x p i) e))
          (secret_fits d p s.0 i (leads d p i) refl (λ leads_it.
          let leader : lock_leader job.deal i ≡ p = get_or_default job.deal.leaders i 0 job.deal.graph.n li ∙ eqb-true _ p leads_it in
          get_or-map (seed_hashlock job.seeds) job.deal.leaders i 0 [] li ∙ ap (λ v. seed_hashlock job.seeds v) leader
          ∙ ap (λ x. hashed_value (derive_secret x)) e)));
    }

pub owned_by : (job r : Job) → HaveSeeds job → r.seeds ≡ job.seeds → r.deal ≡ made_deal job.seeds job.deal → (p : ℕ) → p < r.deal.graph.n → OwnsKeys r p
owned_by job r have seeds deal p lt =
    let o = made_is_owned job have p (subst (λ (d : Deal). p < d.graph.n) deal lt) in
    record {
      seed = o.seed;
      there = ap (λ (s : List (Option (List ℕ))). slice_index_or s p None) seeds ∙ o.there;
      fits = ap (λ (d : Deal). wrong_lock d p o.seed) deal ∙ o.fits;
    }

-- where all own their keys, all have seeds
pub seeds_of_owned : (job : Job) → ((p : ℕ) → p < job.deal.graph.n → OwnsKeys job p) → HaveSeeds job
seeds_of_owned job own p lt = subst IsSome (sym (own p lt).there) refl
