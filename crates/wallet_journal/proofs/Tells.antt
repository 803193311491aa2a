-- A hashkey's body tells the hashkey.
use Rattle.std.proofs.Common.{◌≡◌, ℕ, zero, suc, ◌+◌, ◌*◌, ◌<◌, List, [], ◌∷◌, ◌++◌, length, take, drop, get_or, refl, sym, ◌∙◌, ap, subst, arith}
use Rattle.std.proofs.Common.{length-append, append_assoc}
use Rattle.std.specs.List.{flat_map, All, AllByRecursion}
use Rattle.std.proofs.lemmas.List.Elements.{recursion_from_All, All-more}
use Rattle.std.proofs.lemmas.List.{take_at, drop_at, drop-drop, flat_map_more, take_more}
use Rattle.swap_base.specs.Text.{joined}
use Rattle.hash_signature.specs.declared.sig.Sig.{Sig}
use Rattle.hash_signature.specs.Signature.{text_values}
use Rattle.hashkey_path.specs.declared.hashkey.Hashkey.{Hashkey}
use Rattle.wallet_journal.specs.Device.{slice}
use Rattle.wallet_journal.specs.Layout.{body_signatures, body_hashkey, encoded_body, IsWholeSig, HasWholeParts}

-- one more signature at the end
pub sigs_more : (j : ℕ) (bytes : List ℕ) → body_signatures (j + 1) bytes ≡ body_signatures j bytes ++ text_values (take 2144 (drop (2144 * j) bytes)) ∷ []
sigs_more zero bytes = refl
sigs_more (suc j) bytes =
    let n : suc j + 1 ≡ suc (j + 1) = omega arith in
    let at : 2144 + 2144 * j ≡ 2144 * suc j = omega arith in
    ap (λ (m : ℕ). body_signatures m bytes) n
    ∙ ap (λ (l : List Sig). text_values (take 2144 bytes) ∷ l) (sigs_more j (drop 2144 bytes))
    ∙ ap (λ (l : List ℕ). text_values (take 2144 bytes) ∷ (body_signatures j (drop 2144 bytes) ++ text_values (take 2144 l) ∷ []))
    (drop-drop (2144 * j) 2144 bytes ∙ ap (λ (m : ℕ). drop m bytes) at)

-- bytes of signatures tell them, whatever follows
told_sigs : (sigs : List Sig) (rest : List ℕ) → AllByRecursion IsWholeSig sigs → body_signatures (length sigs) (flat_map joined sigs ++ rest) ≡ sigs
told_sigs [] rest all = refl
told_sigs (s ∷ sigs) rest all =
    let parts : flat_map joined (s ∷ sigs) ++ rest ≡ joined s ++ (flat_map joined sigs ++ rest) = append_assoc (joined s) (flat_map joined sigs) rest in
    ap (λ (l : List ℕ). text_values (take 2144 l) ∷ body_signatures (length sigs) (drop 2144 l)) parts
    ∙ (λ i. text_values (take_at (joined s) (flat_map joined sigs ++ rest) 2144 all.0.bytes i) ∷ body_signatures (length sigs)
    (drop_at (joined s) (flat_map joined sigs ++ rest) 2144 all.0.bytes i))
    ∙ (λ i. all.0.values i ∷ told_sigs sigs rest all.1 i)

sigs_size : (sigs : List Sig) → AllByRecursion IsWholeSig sigs → length (flat_map joined sigs) ≡ 2144 * length sigs
sigs_size [] all = refl
sigs_size (s ∷ sigs) all = omega (arith, length-append (joined s) (flat_map joined sigs), all.0.bytes, sigs_size sigs all.1)

module _ (k : Hashkey) (paired : length k.sigs ≡ length k.path) (told : HasWholeParts k) where
  whole : AllByRecursion IsWholeSig k.sigs
  whole = recursion_from_All IsWholeSig k.sigs told.sigs

  pub body_size : length (encoded_body k) ≡ 33 + 2145 * length k.path
  body_size =
      omega (
        arith,
        length-append k.secret (k.path ++ flat_map joined k.sigs),
        length-append k.path (flat_map joined k.sigs),
        told.secret,
        sigs_size k.sigs
            whole,
        paired,
      )

  -- the parts, each before the rest
  pub parts : (rest : List ℕ) → encoded_body k ++ rest ≡ length k.path ∷ (k.secret ++ (k.path ++ (flat_map joined k.sigs ++ rest)))
  parts rest =
      ap (λ (l : List ℕ). length k.path ∷ l) (append_assoc k.secret (k.path ++ flat_map joined k.sigs) rest
      ∙ ap (λ (l : List ℕ). k.secret ++ l) (append_assoc k.path (flat_map joined k.sigs) rest))

  module _ (i : ℕ) (is_lock : i ≡ k.lock) (rest : List ℕ) where
    all : List ℕ
    all = flat_map joined k.sigs ++ rest

    behind_secret : drop 32 (k.secret ++ (k.path ++ (flat_map joined k.sigs ++ rest))) ≡ k.path ++ (flat_map joined k.sigs ++ rest)
    behind_secret = drop_at k.secret (k.path ++ (flat_map joined k.sigs ++ rest)) 32 told.secret

    secret_is : slice 1 32 (length k.path ∷ (k.secret ++ (k.path ++ (flat_map joined k.sigs ++ rest)))) ≡ k.secret
    secret_is = take_at k.secret (k.path ++ (flat_map joined k.sigs ++ rest)) 32 told.secret

    pub path_is : slice 33 (length k.path) (length k.path ∷ (k.secret ++ (k.path ++ (flat_map joined k.sigs ++ rest)))) ≡ k.path
    path_is = ap (λ (l : List ℕ). take (length k.path) l) behind_secret ∙ take_at k.path (flat_map joined k.sigs ++ rest) (length k.path) refl

    sigs_are : body_signatures (length k.path) (drop (33 + length k.path) (length k.path ∷ (k.secret ++ (k.path ++ (flat_map joined k.sigs ++ rest))))) ≡ k.sigs
    sigs_are =
        ap (λ (l : List ℕ). body_signatures (length k.path) l) (
        sym (drop-drop (length k.path) 33 (length k.path ∷ (k.secret ++ (k.path ++ (flat_map joined k.sigs ++ rest)))))
        ∙ ap (λ (l : List ℕ). drop (length k.path) l) behind_secret
        ∙ drop_at k.path (flat_map joined k.sigs ++ rest) (length k.path) refl
        )
        ∙ ap (λ (n : ℕ). body_signatures n (flat_map joined k.sigs ++ rest)) (sym paired)
        ∙ told_sigs k.sigs rest whole

    -- a body tells its hashkey, whatever follows
    pub round_trip : body_hashkey i (encoded_body k ++ rest) ≡ k
    round_trip = ap (body_hashkey i) (parts rest) ∙ (λ j. record { lock = is_lock j; secret = secret_is j; path = path_is j; sigs = sigs_are j })

-- one more signature is put
pub put_more : (old mid new bytes : List ℕ) (sigs : List Sig) (i : ℕ) (s : Sig) → i < length sigs → s ≡ get_or sigs i s
    → mid ≡ old ++ flat_map joined (take i sigs) → new ≡ mid ++ bytes → bytes ≡ joined s → new ≡ old ++ flat_map joined (take (i + 1) sigs)
put_more old mid new bytes sigs i s lt is so_far put same =
    put ∙ (λ j. so_far j ++ same j) ∙ flat_map_more joined old (take i sigs) s
    ∙ ap (λ (l : List Sig). old ++ flat_map joined l) (ap (λ (x : Sig). take i sigs ++ x ∷ []) is ∙ sym (take_more sigs i s lt))

pub whole_more : (sigs : List Sig) (i : ℕ) (s : Sig) → i < length sigs → s ≡ get_or sigs i s → All IsWholeSig (take i sigs) → IsWholeSig s
    → All IsWholeSig (take (i + 1) sigs)
whole_more sigs i s lt is all here = All-more IsWholeSig sigs i s lt all (subst IsWholeSig is here)
