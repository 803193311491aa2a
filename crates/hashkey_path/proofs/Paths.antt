-- Facts on paths.
use Rattle.std.proofs.Common.{◌≡◌, ℕ, suc, ◌+◌, ◌-◌, ◌<◌, ◌≤◌, true, false, ◌&&◌, ◌==◌, List, [], ◌∷◌, length, get_or, refl, ap, ◌∙◌, arith, nat_eq}
use Rattle.std.proofs.lemmas.Bool.{not-false}
use Rattle.std.specs.Prelude.{All}
use Rattle.swap_base.proofs.Lists.{and_parts, in_place}
use Rattle.swap_digraph.specs.Value.{Graph}
use Rattle.swap_digraph.specs.Graph.{is_path, first_is, last_is}
use Rattle.swap_digraph.specs.declared.deal.Deal.{Deal}
use Rattle.swap_digraph.specs.declared.deal.Mode.{Mode}
use Rattle.swap_digraph.specs.declared.deal.Mode.TheVariants.{Timelocks, Hashkeys}
use Rattle.swap_digraph.specs.declared.deal.Version.{Version}
use Rattle.swap_digraph.specs.declared.deal.Version.TheVariants.{One, Two}
use Rattle.swap_digraph.specs.Deal.{counterparty, lock_leader, most_parties}
use Rattle.swap_digraph.proofs.Paths.{path_length, path_below}
use Rattle.hashkey_path.specs.declared.hashkey.Hashkey.{Hashkey}
use Rattle.hashkey_path.specs.Hashkey.{is_wrong_path}

-- the last vertex by its place
pub last_is-get_or : (v : ℕ) (xs : List ℕ) → 0 < length xs → nat_eq (get_or xs (length xs - 1) 0) v ≡ last_is v xs
last_is-get_or v [] lt = absurd (omega arith)
last_is-get_or v (u ∷ []) lt = refl
last_is-get_or v (u ∷ w ∷ p) lt =
    let e : length (u ∷ w ∷ p) - 1 ≡ suc (length (w ∷ p) - 1) = omega arith in
    ap (λ (k : ℕ). nat_eq (get_or (u ∷ w ∷ p) k 0) v) e ∙ last_is-get_or v (w ∷ p) (omega arith)

-- A path has at most as many vertices as there are parties, each of them a party.
pub record FitsGraph (g : Graph) (p : List ℕ) : Type 0 where
  pub few : length p ≤ g.n
  pub parties : All (λ v. v < g.n) p

pub path_fits : (g : Graph) (p : List ℕ) → is_path g p ≡ true → FitsGraph g p
path_fits g p h =
    record {
      few = path_length g p h;
      parties = λ k d lt. path_below g p (get_or p k d) h (in_place p k d lt);
    }

-- The path of a hashkey that isn't refused for its path.
pub right_path_fits : (m : Mode) (d : Deal) (a : ℕ) (key : Hashkey) → m ≡ Hashkeys → is_wrong_path d a m key ≡ false → FitsGraph d.graph key.path
right_path_fits Timelocks d a key e h = absurd (cc e)
right_path_fits Hashkeys d a key e h =
    let one =
    and_parts (is_path d.graph key.path && first_is (counterparty d a) key.path && last_is (lock_leader d key.lock) key.path)
    (length key.path == length key.sigs) (not-false _ h) in
    let two = and_parts (is_path d.graph key.path && first_is (counterparty d a) key.path) (last_is (lock_leader d key.lock) key.path) one.0 in
    let three = and_parts (is_path d.graph key.path) (first_is (counterparty d a) key.path) two.0 in
    path_fits d.graph key.path three.0

-- There are few enough parties for a place on a path to be a byte.
pub place_is_byte : (v : Version) (n k : ℕ) → n ≤ most_parties v → k ≤ n → 0 + k < 256
place_is_byte One n k a b = omega arith
place_is_byte Two n k a b = omega arith
