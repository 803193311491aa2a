-- What is signed is valid.
use Rattle.std.proofs.Common.{◌≡◌, ℕ, ◌+◌, ◌-◌, ◌≤◌, List, [], get_or, ap, ◌∙◌, arith}
use Rattle.std.specs.Prelude.{IsTrue}
use Rattle.std.proofs.lemmas.Slice.Eq.{bytes_eq-Decides}
use Rattle.hash_signature.specs.Signature.{chain_value, chain_start, chain_end, for_chains, digest_of_ends, derive_public_key, digit, signed_value}
use Rattle.hash_signature.specs.Signature.{made_signature, signature_chain_end, is_valid_signature}
use Rattle.hash_signature.proofs.Chains.{chain_value-sum, for_chains_same, get_or-for_chains}

-- a signature that is made for a message is valid for it
pub signed_is_valid : (seed : List ℕ) (party lock : ℕ) (m : List ℕ) → ((j : ℕ) → digit m j ≤ 15)
    → IsTrue (is_valid_signature (derive_public_key seed party lock) m (made_signature seed party lock m))
unfolding is_valid_signature derive_public_key made_signature
signed_is_valid seed party lock m small =
    let ends : for_chains (signature_chain_end m (made_signature seed party lock m)) ≡ for_chains (chain_end seed party lock) =
    for_chains_same _ _ (λ j lt.
    let start = chain_start seed party lock j in
    let value : get_or (made_signature seed party lock m) j []
    ≡ signed_value seed party lock m j = get_or-for_chains (signed_value seed party lock m) j [] lt in
    let all : (15 - digit m j) + digit m j ≡ 15 = (let s = small j in omega arith) in
    ap (chain_value (15 - digit m j)) value ∙ (chain_value-sum (15 - digit m j) (digit m j) start ∙ ap (λ (n : ℕ). chain_value n start) all)) in
    (bytes_eq-Decides (digest_of_ends (for_chains (signature_chain_end m (made_signature seed party lock m)))) (derive_public_key seed party lock)).1
    (ap digest_of_ends ends)

pub valid_as : (seed : List ℕ) (party lock : ℕ) (m : List ℕ) (values : List (List ℕ)) → ((j : ℕ) → digit m j ≤ 15)
    → values ≡ made_signature seed party lock m → IsTrue (is_valid_signature (derive_public_key seed party lock) m values)
valid_as seed party lock m values small e = rw e (signed_is_valid seed party lock m small)
