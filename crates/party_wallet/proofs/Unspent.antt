-- The keys of a new wallet, and their public keys.
use Rattle.std.proofs.Common.{◌≡◌, ℕ, ◌≤◌, List, length, get_or, map, replicate, Option, Some, None, sym, ap, ◌∙◌, arith, rules, zero-add}
use Rattle.std.specs.List.{range_with_len}
use Rattle.std.proofs.lemmas.List.{length-replicate, get_or-replicate}
use Rattle.std.proofs.lemmas.List.FromFn.{get_or-map-range_with_len, length-map-range_with_len}
use Rattle.swap_digraph.specs.declared.deal.Mode.{Mode}
use Rattle.hash_signature.specs.Key.{KeyParts}
use Rattle.hashkey_path.specs.declared.hashkey.Hashkey.{Hashkey}
use Rattle.party_wallet.specs.Keys.{party_public, unspent}
use Rattle.party_wallet.specs.Inside.{AreSpentOnce, ArePublic}

pub new_unspent : (m : Mode) (seed : List ℕ) (v n : ℕ) (keys : List (Option KeyParts)) (publics : List (Option (List ℕ))) (signed : List (Option Hashkey))
    → n ≤ 8 → keys ≡ map (unspent m seed v) (range_with_len 0 n) → publics ≡ map (party_public m seed v) (range_with_len 0 n) → signed ≡ replicate n None
    → AreSpentOnce m seed v keys signed × ArePublic m seed v (length signed) publics
new_unspent m seed v n keys publics signed few ek ep es =
    let ls : length signed ≡ n = ap length es ∙ length-replicate n None in
    let lk : length keys ≡ n = ap length ek ∙ length-map-range_with_len (unspent m seed v) 0 n in
    let lp : length publics ≡ n = ap length ep ∙ length-map-range_with_len (party_public m seed v) 0 n in (
      record {
        one_each = lk ∙ sym ls;
        few = omega arith;
        ready_at = λ i lt none. ap (λ ks. get_or ks i None) ek ∙ get_or-map-range_with_len (unspent m seed v) 0 n i i None (omega arith) (zero-add i);
        spent_at = λ i lt some. absurd (some (ap (λ ks. get_or ks i None) es ∙ get_or-replicate n i None None (omega arith)));
      },
      record {
        one_each = lp ∙ sym ls;
        public_at = λ i lt. ap (λ ps. get_or ps i None) ep ∙ get_or-map-range_with_len (party_public m seed v) 0 n i i None (omega arith) (zero-add i);
      },
    )
