-- A hasher that is fed with one piece after another.
use Rattle.std.proofs.Common.{◌≡◌, ℕ, ◌+◌, List, [], ◌∷◌, ◌++◌, map, refl, sym, ap, ◌∙◌, subst, arith, append_assoc}
use Rattle.std.specs.List.{flat_map, range_with_len}
use Rattle.std.proofs.lemmas.Grind.{flat_map-append}
use Rattle.std.proofs.lemmas.List.{append-nil}
use Rattle.std.proofs.lemmas.List.Folds.{flat_map-map}
use Rattle.std.proofs.lemmas.List.FromFn.{map-range_with_len_more}
use Rattle.sha2.specs.Hashers.{Holds256}
use Rattle.sha2.specs.declared.Sha256.{Sha256}
use Rattle.sha2.specs.Sha256.{sha256}
use Rattle.swap_base.specs.Text.{joined}
use Rattle.swap_digraph.specs.Graph.{arcs}
use Rattle.swap_digraph.specs.declared.deal.Deal.{Deal}
use Rattle.hashkey_path.specs.Digest.{head_bytes, arc_bytes, leader_bytes, time_bytes, key_bytes, deal_bytes, deal_id, Feeds}

pub feeds_as : (a b : Sha256) (x y : List ℕ) → x ≡ y → Feeds a b x → Feeds a b y
feeds_as a b x y e f = let P : List ℕ → Type 0 = λ z. Feeds a b z in subst P e f

pub feeds_both : (a b c : Sha256) (x y : List ℕ) → Feeds a b x → Feeds b c y → Feeds a c (x ++ y)
feeds_both a b c x y f g m h =
    let P : List ℕ → Type 0 = λ z. Holds256 c z in subst P (append_assoc m x y) (g (m ++ x) (f m h))

-- what f gives for one number more
pub each_more : (f : ℕ → List ℕ) (n : ℕ) → flat_map f (range_with_len 0 (n + 1)) ≡ flat_map f (range_with_len 0 n) ++ f n
each_more f n =
    let before : flat_map (λ xs. xs) (map f (range_with_len 0 n)) ≡ flat_map f (range_with_len 0 n) = flat_map-map (λ xs. xs) f (range_with_len 0 n) in
    let after : flat_map (λ xs. xs) (map f (range_with_len 0 (n + 1))) ≡ flat_map f (range_with_len 0 (n + 1)) =
    flat_map-map (λ xs. xs) f (range_with_len 0 (n + 1)) in
    let more : map f (range_with_len 0 (n + 1)) ≡ map f (range_with_len 0 n) ++ f n ∷ [] = map-range_with_len_more f 0 n n (omega arith) in
    let apart : flat_map (λ xs. xs) (map f (range_with_len 0 n) ++ f n ∷ []) ≡ flat_map (λ xs. xs) (map f (range_with_len 0 n)) ++ (f n ++ []) =
    flat_map-append (λ xs. xs) (map f (range_with_len 0 n)) (f n ∷ []) in
    sym after ∙ (ap (flat_map (λ xs. xs)) more
    ∙ (apart ∙ (ap (λ z. z ++ (f n ++ [])) before ∙ ap (λ z. flat_map f (range_with_len 0 n) ++ z) (append-nil (f n)))))

-- The digest of a deal.

-- the pieces of a deal, after the byte 6
pub deal_fed : (d : Deal) (s₀ s₁ s₂ s₃ s₄ s₅ s₆ s₇ : Sha256) → Holds256 s₀ [] → Feeds s₀ s₁ (6 ∷ []) → Feeds s₁ s₂ (head_bytes d)
    → Feeds s₂ s₃ (flat_map (arc_bytes d) (arcs d.graph)) → Feeds s₃ s₄ (leader_bytes d) → Feeds s₄ s₅ (time_bytes d) → Feeds s₅ s₆ (joined d.hashlocks)
    → Feeds s₆ s₇ (key_bytes d.mode d.keys) → Holds256 s₇ (6 ∷ deal_bytes d)
unfolding deal_bytes
deal_fed d s₀ s₁ s₂ s₃ s₄ s₅ s₆ s₇ empty kind head each leaders times hashlocks keys =
    feeds_both s₀ s₁ s₇ (6 ∷ []) _ kind
    (feeds_both s₁ s₆ s₇ _ (key_bytes d.mode d.keys)
    (feeds_both s₁ s₅ s₆ _ (joined d.hashlocks)
    (feeds_both s₁ s₄ s₅ _ (time_bytes d)
    (feeds_both s₁ s₃ s₄ _ (leader_bytes d)
    (feeds_both s₁ s₂ s₃ (head_bytes d) _ head each) leaders) times) hashlocks) keys)
    [] empty

pub id_of_bytes : (d : Deal) → sha256 (6 ∷ deal_bytes d) ≡ deal_id d
unfolding deal_id
id_of_bytes d = refl

pub any_id : (d : Deal) (id : List ℕ) → deal_id (record d { id = id }) ≡ deal_id d
unfolding deal_id deal_bytes
any_id d id = refl
