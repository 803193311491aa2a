-- What rows of seeds give a deal is what the seeds give it.
use Rattle.std.proofs.Common.{◌≡◌, ◌==◌, ℕ, suc, ◌<◌, Bool, true, List, [], ◌∷◌, map, length, get_or, Option, Some, None, refl, sym, ap, ap₂, ◌∙◌}
use Rattle.std.proofs.Common.{inl, inr, subst, arith, eq-eqb}
use Rattle.std.specs.List.{range_with_len}
use Rattle.std.proofs.lemmas.List.FromFn.{get_or-map-range_with_len}
use Rattle.swap_base.specs.Lists.{IsElement}
use Rattle.swap_base.proofs.Lists.{from_range, list_any-in}
use Rattle.swap_digraph.specs.declared.deal.Deal.{Deal}
use Rattle.swap_digraph.specs.declared.deal.Mode.{Mode}
use Rattle.swap_digraph.specs.declared.deal.Mode.TheVariants.{Timelocks, Hashkeys}
use Rattle.swap_rules.specs.Party.{leads_one}
use Rattle.swap_job.specs.declared.job.Purpose.TheVariants.{Audit}
use Rattle.swap_offer.specs.Proposed.{IsProposed}
use Rattle.hashkey_path.specs.Digest.{deal_id}
use Rattle.swap_gen.specs.Made.{all_keys, all_timelocks, seed_filled_deal, seed_hashlock, seed_keys, made_deal, seed_or_zeros}
use Rattle.party_rows.specs.declared.row.Row.{Row}
use Rattle.party_rows.specs.Row.{seeded_hashlock, seeded_keys, seeded_row}
use Rattle.party_rows.specs.Rows.{find_row}
use Rattle.party_rows.specs.Dealt.{all_told_keys, dealt_deal, dealt_line, filled_deal, told_hashlock, row_hashlock, told_keys, row_keys}
use Rattle.party_rows.specs.Laws.{seeded_rows, DealtIsMade, DealtLineIsMade}

map_in : {A B : Type 0} (f g : A → B) (xs : List A) → ((x : A) → IsElement x xs → f x ≡ g x) → map f xs ≡ map g xs
map_in f g [] each = refl
map_in f g (x ∷ xs) each = ap₂ (λ y ys. y ∷ ys) (each x (inl refl)) (map_in f g xs (λ y i. each y (inr i)))

below_in : (n : ℕ) (xs : List ℕ) → ((i : ℕ) → i < length xs → get_or xs i 0 < n) → (x : ℕ) → IsElement x xs → x < n
below_in n [] below x i = absurd i
below_in n (y ∷ ys) below x (inl e) = subst (λ z. z < n) (sym e) (below 0 (omega arith))
below_in n (y ∷ ys) below x (inr i) = below_in n ys (λ k lt. below (suc k) (omega arith)) x i

module _ (seeds : List (Option (List ℕ))) (d : Deal) (k : IsProposed d) where
  row_is : (p : ℕ) → p < d.graph.n → find_row (seeded_rows seeds d) p ≡ Some (seeded_row (seed_or_zeros seeds p) p d)
  row_is p lt =
      let give : ℕ → Option Row = λ q. Some (seeded_row (seed_or_zeros seeds q) q d) in
      get_or-map-range_with_len give 0 d.graph.n p p None lt (omega arith)

  hashlock_is : (p : ℕ) → IsElement p d.leaders → told_hashlock (seeded_rows seeds d) p ≡ seed_hashlock seeds p
  unfolding seeded_row
  hashlock_is p i =
      let lt : p < d.graph.n = below_in d.graph.n d.leaders k.leader p i in
      let leads : leads_one d p ≡ true = list_any-in (λ w. w == p) d.leaders p (eq-eqb p p refl) i in
      ap row_hashlock (row_is p lt) ∙ ap (λ (b : Bool). row_hashlock (Some (record {
        hashlock = seeded_hashlock b (seed_or_zeros seeds p);
        keys = (seeded_row
            (seed_or_zeros seeds p) p d).keys;
      }))) leads

  keys_are : (p : ℕ) → p < d.graph.n → d.mode ≡ Hashkeys → told_keys (seeded_rows seeds d) p ≡ seed_keys seeds d p
  unfolding seeded_row
  keys_are p lt m = ap row_keys (row_is p lt) ∙ ap (λ (q : Mode). seeded_keys q (seed_or_zeros seeds p) p d) m

  all_are : (m : Mode) → d.mode ≡ m → all_told_keys m (seeded_rows seeds d) d.graph.n ≡ all_keys m seeds d
  all_are Timelocks e = refl
  all_are Hashkeys e =
      map_in (told_keys (seeded_rows seeds d)) (seed_keys seeds d) (range_with_len 0 d.graph.n) (λ p i. keys_are p (from_range p d.graph.n i) e)

  filled_is : filled_deal (seeded_rows seeds d) d ≡ seed_filled_deal seeds d
  filled_is =
      ap₂ (λ (hs : List (List ℕ)) (ks : List (List (List ℕ))). record d { hashlocks = hs; keys = ks; timelocks = all_timelocks d.mode d })
      (map_in (told_hashlock (seeded_rows seeds d)) (seed_hashlock seeds) d.leaders hashlock_is) (all_are d.mode refl)

pub dealt_is_made : DealtIsMade
unfolding dealt_deal made_deal
dealt_is_made seeds d k = ap (λ (e : Deal). record e { id = deal_id e }) (filled_is seeds d k)

pub dealt_line_is_made : DealtLineIsMade
dealt_line_is_made seeds job k =
    ap (λ (e : Deal). dealt_line (record (record job { deal = e }) { purpose = Audit })) (dealt_is_made seeds job.deal k)
