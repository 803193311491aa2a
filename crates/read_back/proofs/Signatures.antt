-- A signature that was read is read back of its digits.
use Rattle.std.proofs.Common.{◌≡◌, ℕ, List, length, Ok, refl, sym, ap, ◌∙◌, codes}
use Rattle.hex.specs.Hex.{decode_sized, encode_lower, IsBytes}
use Rattle.hex.proofs.HexLemmas.{decode_sized-encode_lower}
use Rattle.swap_base.specs.Text.{joined}
use Rattle.hash_signature.specs.Signature.{text_values}
use Rattle.hash_signature.specs.declared.sig.Sig.{Sig}
use Rattle.hash_signature.proofs.Values.{joined-text_values}
use Rattle.offer_moves.specs.FieldLimits.{decoded}
use Rattle.offer_moves.specs.Limits.{parse_sig}
use Rattle.read_back.proofs.Onward.{landed, onward}
use Rattle.read_back.proofs.Showable.{decoded_bytes}
use Rattle.read_back.proofs.Steps.{step}
use Rattle.read_back.proofs.RawMoves.{digits_of}

-- the values of some 2,144 bytes
abbrev pub IsOfBytes : Sig → Type 0
IsOfBytes s = (bytes : List ℕ) × (length bytes ≡ 2144) × IsBytes bytes × (text_values bytes ≡ s)

pub sig_is : (line : ℕ) (text : List ℕ) (s : Sig) → parse_sig line text ≡ Ok s → IsOfBytes s
unfolding parse_sig
sig_is line text =
    onward (decoded line (codes "sigs") (decode_sized text 2144)) _ IsOfBytes (λ bytes b.
    let k = decoded_bytes line (codes "sigs") 2144 text bytes b in
    landed (text_values bytes) IsOfBytes (bytes, k.0, k.1, refl))

pub sig_back : (line : ℕ) (s : Sig) → IsOfBytes s → parse_sig line (digits_of s) ≡ Ok s
unfolding parse_sig
sig_back line s k =
    let same : joined s ≡ k.0 = ap joined (sym k.3) ∙ joined-text_values k.0 k.1 in
    step _ k.0 _ (ap (λ (b : List ℕ). decoded line (codes "sigs") (decode_sized (encode_lower b) 2144)) same
    ∙ ap (decoded line (codes "sigs")) (decode_sized-encode_lower k.0 2144 k.1 k.2))
    ∙ ap (λ (v : List (List ℕ)). Ok v) k.3
