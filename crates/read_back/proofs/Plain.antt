-- What is made of a plain job is told whole by its header line.
use Rattle.std.proofs.Common.{◌≡◌, inl, inr, ◌&&◌, ◌<◌, ℕ, Bool, true, false, cond, List, [], ◌∷◌, length, map, is_none, Option, Some, None, option_map}
use Rattle.std.proofs.Common.{Ok, refl, ap, ◌∙◌}
use Rattle.std.specs.Prelude.{All, slice_index_or}
use Rattle.std.specs.List.{range_with_len}
use Rattle.std.proofs.lemmas.List.{length-map}
use Rattle.std.proofs.lemmas.List.Elements.{All-map, All-nil}
use Rattle.sha2.specs.Sha256.{sha256}
use Rattle.sha2.proofs.Facts256.{length-sha256}
use Rattle.swap_base.specs.Lists.{first_given_answer, IsElement}
use Rattle.swap_base.proofs.Lists.{from_range}
use Rattle.swap_digraph.specs.Deal.{locks}
use Rattle.swap_digraph.specs.declared.deal.Deal.{Deal}
use Rattle.swap_digraph.specs.declared.deal.Mode.{Mode}
use Rattle.swap_digraph.specs.declared.deal.Mode.TheVariants.{Timelocks, Hashkeys}
use Rattle.hash_signature.specs.Signature.{derive_public_key}
use Rattle.party_wallet.specs.Fits.{wrong_lock}
use Rattle.party_machine.proofs.Digests.{digest_below}
use Rattle.swap_job.specs.Roles.{is_conforming}
use Rattle.swap_job.specs.declared.job.Job.{Job}
use Rattle.swap_job.specs.declared.job.Purpose.{Purpose}
use Rattle.swap_job.specs.declared.job.Purpose.TheVariants.{Check, Run, Race, Make, Audit}
use Rattle.command_input.specs.declared.reason.Reason.{Reason}
use Rattle.command_input.specs.declared.reason.Reason.TheVariants.{NoSeed, WrongWallet}
use Rattle.swap_rules.proofs.Accepted.{accepted_is_well_sized}
use Rattle.swap_offer.specs.Proposed.{HaveSeeds, IsProposed}
use Rattle.offer_header.specs.Names.{is_name}
use Rattle.offer_header.specs.Scripts.{roles_placed}
use Rattle.offer_text.specs.HeaderLine.{is_make}
use Rattle.swap_gen.specs.Made.{all_keys, seed_hashlock, seed_keys, made_deal, seed_or_zeros}
use Rattle.swap_gen.specs.Owned.{OwnsKeys}
use Rattle.swap_gen.proofs.Accepting.{made_is_accepted}
use Rattle.swap_gen.proofs.Owning.{made_is_owned}
use Rattle.swap_offer.specs.Checks.{unless_wrong}
use Rattle.swap_offer.specs.Job.{provided}
use Rattle.swap_offer.specs.Wallets.{fitting, needs_seed, no_seed, party_seed, seeded, walleted, fitting_wallets, wrong_seed, wrong_wallet, party_conforms}
use Rattle.typed_books.specs.Typed.{IsDigest}
use Rattle.read_back.specs.Headers.{IsShowable}
use Rattle.read_back.proofs.Steps.{step}
use Rattle.read_back.specs.Made.{reads_jobs, told_job}
use Rattle.read_back.proofs.ToldJobs.{sizes_at, IsTold, IsToldRole, MayBeDigest}

-- A plain job whose header line tells it whole once it is made.
pub record IsPlainJob (has : List ℕ → Bool) (job : Job) : Type 0 where
  pub proposed : IsProposed job.deal
  pub parties : length job.names ≡ job.deal.graph.n
  pub names : All (λ x. is_name x ≡ true) job.names
  pub apart : (p q : ℕ) → p < length job.names → q < length job.names → slice_index_or job.names p [] ≡ slice_index_or job.names q [] → p ≡ q
  pub roles : length job.roles ≡ job.deal.graph.n
  pub acting : job.conforming ≡ map is_conforming job.roles
  pub seeds : length job.seeds ≡ job.deal.graph.n
  pub digests : All MayBeDigest job.seeds
  pub said : All (IsToldRole has (sizes_at job) (length job.names)) job.roles
  pub placed : (line : ℕ) → roles_placed job.deal.graph.arcs job.conforming line 0 job.roles ≡ Ok tt
  pub have : HaveSeeds job

-- ---- what is made of seeds is hashed

pub hash_is : (m : List ℕ) → IsDigest (sha256 m)
hash_is m = record { size = length-sha256 m; bytes = digest_below m }

key_is : (seed : List ℕ) (party lock : ℕ) → IsDigest (derive_public_key seed party lock)
unfolding derive_public_key
key_is seed party lock = hash_is _

row_is : (seeds : List (Option (List ℕ))) (d : Deal) (p : ℕ) → All IsDigest (seed_keys seeds d p)
row_is seeds d p = All-map IsDigest (derive_public_key (seed_or_zeros seeds p) p) (locks d) (λ i e lt. key_is (seed_or_zeros seeds p) p _)

keys_are : (m : Mode) (seeds : List (Option (List ℕ))) (d : Deal) → All (All IsDigest) (all_keys m seeds d)
keys_are Timelocks seeds d = All-nil (All IsDigest)
keys_are Hashkeys seeds d = All-map (All IsDigest) (seed_keys seeds d) (range_with_len 0 d.graph.n) (λ p e lt. row_is seeds d _)

-- ---- seeds are there, and fit

pub none_given : {A B : Type 0} (f : A → Option B) (xs : List A) → ((x : A) → IsElement x xs → f x ≡ None) → first_given_answer f xs ≡ None
none_given f [] h = refl
none_given f (x ∷ xs) h = rw (h x (inl refl)) (none_given f xs (λ y i. h y (inr i)))

not_needed : (b : Bool) (o : Option (List ℕ)) (seed : List ℕ) (r : Reason) → o ≡ Some seed → cond (b && is_none o) (Some r) None ≡ None
not_needed true o seed r e = rw e refl
not_needed false o seed r e = refl

no_wrong : (job : Job) (p : ℕ) (b : Bool) (o : Option (List ℕ)) (seed : List ℕ) → o ≡ Some seed → wrong_lock job.deal p seed ≡ None
    → cond b (wrong_seed job p o) None ≡ None
no_wrong job p true o seed e f = ap (wrong_seed job p) e ∙ ap (option_map (WrongWallet p)) f
no_wrong job p false o seed e f = refl

-- every party has a seed, which fits
abbrev OwnAll : Job → Type 0
OwnAll job = (p : ℕ) → p < job.deal.graph.n → OwnsKeys job p

module _ (job : Job) (own : OwnAll job) where
  all_seeded : first_given_answer (no_seed job) (range_with_len 0 job.deal.graph.n) ≡ None
  all_seeded =
      none_given (no_seed job) (range_with_len 0 job.deal.graph.n) (λ p i.
      let o = own p (from_range p job.deal.graph.n i) in
      not_needed (needs_seed job.purpose job p) (party_seed job p) o.seed (NoSeed p) o.there)

  all_fit : fitting job ≡ Ok tt
  unfolding fitting
  all_fit =
      ap unless_wrong (none_given (wrong_wallet job) (range_with_len 0 job.deal.graph.n) (λ p i.
      let o = own p (from_range p job.deal.graph.n i) in
      no_wrong job p (party_conforms job p) (party_seed job p) o.seed o.there o.fits))

  for_purpose : (purpose : Purpose) → reads_jobs purpose ≡ true → fitting_wallets purpose job ≡ Ok tt
  for_purpose Check e = all_fit
  for_purpose Run e = all_fit
  for_purpose Race e = all_fit
  for_purpose Make e = refl
  for_purpose Audit e = refl

  all_provided : reads_jobs job.purpose ≡ true → provided job ≡ Ok tt
  unfolding provided seeded walleted
  all_provided e = step _ tt _ (ap unless_wrong all_seeded) ∙ for_purpose job.purpose e

not_made : (purpose : Purpose) → reads_jobs purpose ≡ true → is_make purpose ≡ false
not_made Check e = refl
not_made Run e = refl
not_made Race e = refl
not_made Make e = absurd (cc e)
not_made Audit e = refl

module _ (has : List ℕ → Bool) (job : Job) (k : IsPlainJob has job) (purpose : Purpose) (reads : reads_jobs purpose ≡ true) where
  is_owned : OwnAll (told_job purpose job)
  is_owned p lt = let o = made_is_owned job k.have p lt in record { seed = o.seed; there = o.there; fits = o.fits }

  is_showable : IsShowable (told_job purpose job)
  unfolding made_deal
  is_showable =
      let accepted = made_is_accepted job.seeds job.deal k.proposed in
      let conforming : length job.conforming ≡ job.deal.graph.n = ap length k.acting ∙ length-map job.roles is_conforming ∙ k.roles in
      record {
        stated = not_made purpose reads;
        sized = accepted_is_well_sized (told_job purpose job).deal accepted;
        accepted = accepted;
        parties = k.parties;
        conforming = conforming;
        names = k.names;
        apart = k.apart;
        hashlocks = All-map IsDigest (seed_hashlock job.seeds) job.deal.leaders (λ i e lt. hash_is _);
        keys = keys_are job.deal.mode job.seeds job.deal;
      }

  pub made_is_told : IsTold has (told_job purpose job)
  unfolding made_deal
  made_is_told = record {
    purpose = reads;
    shown = is_showable;
    roles = k.roles;
    acting = k.acting;
    seeds = k.seeds;
    digests = k.digests;
    said = k.said;
    placed = k.placed;
    lacks_none = all_provided (told_job purpose job) is_owned reads;
  }
