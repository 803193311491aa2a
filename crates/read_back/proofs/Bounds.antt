-- A bound that is enough isn't 0.
use Rattle.std.proofs.Common.{◌≡◌, ◌<◌, ◌≤◌, ℕ, zero, suc, true, not, List, [], ◌∷◌, length, refl, arith, lt-ltb}
use Rattle.swap_base.proofs.Lists.{and_both}
use Rattle.time_bounds.specs.Times.{need}
use Rattle.swap_digraph.specs.Value.{Graph}
use Rattle.swap_digraph.specs.Graph.{is_listed, IsHeight}
use Rattle.swap_digraph.proofs.LeaderPaths.{not_leader}

a_follower : (leader : ℕ) → (v : ℕ) × (v < 2) × (v ≡ leader → ⊥)
a_follower zero = (1, omega arith, λ e. omega (arith, e))
a_follower (suc l) = (0, omega arith, λ e. omega (arith, e))

many_leaders : (n locks h b : ℕ) → 2 ≤ n → 2 ≤ locks → need n locks h ≤ b → 1 ≤ b
many_leaders n locks h b parties two le = omega arith

one_leader : (n h b : ℕ) → 2 ≤ n → 1 ≤ h → need n 1 h ≤ b → 1 ≤ b
one_leader n h b parties some le = omega arith

-- a follower alone is a path
tall_enough : (g : Graph) (l h : ℕ) → 2 ≤ g.n → IsHeight g (l ∷ []) h → 1 ≤ h
tall_enough g l h parties tall =
    let v = a_follower l in
    let low : v.0 < 2 = v.1 in
    let within : v.0 < g.n = omega (arith, low, parties) in
    tall.most (v.0 ∷ []) (lt-ltb v.0 g.n within) (and_both (not (is_listed v.0 (l ∷ []))) true (not_leader l v.0 v.2) refl)

pub enough_is_some : (g : Graph) (ls : List ℕ) (h b : ℕ) → 2 ≤ g.n → 1 ≤ length ls → IsHeight g ls h → need g.n (length ls) h ≤ b → 1 ≤ b
enough_is_some g [] h b parties some tall le = absurd (omega arith)
enough_is_some g (l ∷ []) h b parties some tall le = one_leader g.n h b parties (tall_enough g l h parties tall) le
enough_is_some g (l ∷ m ∷ ls) h b parties some tall le = many_leaders g.n (length (l ∷ m ∷ ls)) h b parties (omega arith) le
