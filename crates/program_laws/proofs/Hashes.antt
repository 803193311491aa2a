-- What is made of seeds is hashed: secrets are digests, and signatures have 67 of them.
use Rattle.std.proofs.Common.{ℕ, zero, suc, Bool, true, false, cond, List, [], ◌∷◌, fold, reverse, Option, Some, None, nat_le, length, ◌+◌}
use Rattle.std.specs.Prelude.{All}
use Rattle.std.specs.List.{range_with_len}
use Rattle.std.proofs.lemmas.List.Elements.{All-cons, All-map, All-nil}
use Rattle.std.proofs.lemmas.List.FromFn.{length-map-range_with_len}
use Rattle.swap_digraph.specs.declared.deal.Deal.{Deal}
use Rattle.swap_digraph.specs.declared.deal.Mode.{Mode}
use Rattle.swap_digraph.specs.declared.deal.Mode.TheVariants.{Timelocks, Hashkeys}
use Rattle.swap_digraph.specs.Deal.{path_limit}
use Rattle.hash_chains.specs.Chains.{chain_value, chain_start}
use Rattle.hash_signature.specs.Signature.{digit, for_chains, derive_secret, made_signature, signed_value}
use Rattle.hashkey_path.specs.declared.hashkey.Hashkey.{Hashkey}
use Rattle.hashkey_path.specs.Signed.{suffix_signature}
use Rattle.party_wallet.specs.Keys.{onto_key, own_key}
use Rattle.swap_rules.specs.Due.{Wallet}
use Rattle.swap_job.specs.Crafted.{Seeds, crafted, crafted_within_limit, prepend_party, make_seed}
use Rattle.typed_books.specs.Typed.{IsDigest, IsSignature}
use Rattle.read_back.proofs.Plain.{hash_is}

-- what is there meets P
abbrev pub May : {A : Type 0} → (A → Type 0) → Option A → Type 0
May P None = Unit {0}
May P (Some x) = P x

abbrev pub KeyHas : Hashkey → Type 0
KeyHas key = IsDigest key.secret × All IsSignature key.sigs

chain_is : (n : ℕ) (y : List ℕ) → IsDigest y → IsDigest (chain_value n y)
unfolding chain_value
chain_is zero y k = k
chain_is (suc n) y k = hash_is (2 ∷ chain_value n y)

value_is : (seed : List ℕ) (party lock : ℕ) (message : List ℕ) (j : ℕ) → IsDigest (signed_value seed party lock message j)
value_is seed party lock message j = chain_is (digit message j) (chain_start seed party lock j) (hash_is _)

signature_is : (seed : List ℕ) (party lock : ℕ) (message : List ℕ) → IsSignature (made_signature seed party lock message)
unfolding made_signature for_chains
signature_is seed party lock message = record {
  size = length-map-range_with_len (signed_value seed party lock message) 0 67;
  values = All-map IsDigest (signed_value seed party lock message) (range_with_len 0 67) (λ k j lt. value_is seed party lock message _);
}

pub own_has : (m : Mode) (d : Deal) (v : ℕ) (seed : List ℕ) (i : ℕ) → KeyHas (own_key m d v seed i)
own_has Timelocks d v seed i = (hash_is (5 ∷ seed), All-nil IsSignature)
own_has Hashkeys d v seed i = (
  hash_is (5 ∷ seed),
  All-cons IsSignature (suffix_signature d i (derive_secret seed) v seed [] []) [] (signature_is seed v i _) (All-nil IsSignature),
)

pub onto_has : (m : Mode) (d : Deal) (v : ℕ) (seed : List ℕ) (inner : Hashkey) → KeyHas inner → KeyHas (onto_key m d v seed inner)
onto_has Timelocks d v seed inner k = (k.0, All-nil IsSignature)
onto_has Hashkeys d v seed inner k = (
  k.0,
  All-cons IsSignature (suffix_signature d inner.lock inner.secret v seed inner.path inner.sigs) inner.sigs (signature_is seed v inner.lock _) k.1,
)

-- A wallet signs hashkeys that hold digests.
pub record WalletHas (w : Wallet) : Type 0 where
  pub first : (i : ℕ) → KeyHas (w.first i)
  pub onto : (inner : Hashkey) → KeyHas inner → KeyHas (w.onto inner)

-- ---- what parties craft

pub fold_keeps : {S A : Type 0} (P : S → Type 0) (f : S → A → S) (s : S) (xs : List A) → P s → ((t : S) (x : A) → P t → P (f t x)) → P (fold f s xs)
fold_keeps P f s [] p keep = p
fold_keeps P f s (x ∷ xs) p keep = fold_keeps P f (f s x) xs (keep s x p) keep

put_has : (d : Deal) (seeds : Seeds) (i : ℕ) (made : Option Hashkey) (v : ℕ) → May KeyHas made → KeyHas (prepend_party d seeds i made v)
put_has d seeds i None v k = own_has d.mode d v (make_seed seeds v) i
put_has d seeds i (Some key) v k = onto_has d.mode d v (make_seed seeds v) key k

pub crafted_has : (d : Deal) (seeds : Seeds) (i : ℕ) (start : Option Hashkey) (via : List ℕ) → May KeyHas start → May KeyHas (crafted d seeds i start via)
crafted_has d seeds i start via k =
    fold_keeps (May KeyHas) (λ made v. Some (prepend_party d seeds i made v)) start (reverse via) k (λ made v m. put_has d seeds i made v m)

pub onto_crafted_has : (d : Deal) (seeds : Seeds) (i : ℕ) (o : Option Hashkey) (via : List ℕ) → May KeyHas o → May KeyHas (crafted_within_limit d seeds i o via)
onto_crafted_has d seeds i None via k = tt
onto_crafted_has d seeds i (Some key) via k = by (nat_le (length via + length key.path) (path_limit d))
  where
    by : (t : Bool) → May KeyHas (cond t (crafted d seeds i (Some key) via) None)
    by true = crafted_has d seeds i (Some key) via k
    by false = tt
