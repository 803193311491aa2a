-- Which arcs lie on a cycle, and what shows that one doesn't.
use Rattle.std.specs.Prelude.{◌≡◌, ◌↔◌, ℕ, ◌<◌, false, IsTrue, List, length, map}
use Rattle.std.specs.List.Sorted.{IsStrictlyIncreasing}
use Rattle.swap_base.specs.Lists.{IsElement}
use Rattle.swap_digraph.specs.Value.{Graph}
use Rattle.swap_digraph.specs.Graph.{ends, is_listed, IsConnectingPath}
use Rattle.swap_clear.specs.declared.answer.LeftOut.{LeftOut}

-- A path of distinct parties leads from u to v.
abbrev pub Reaches : Graph → ℕ → ℕ → Type 0
Reaches g u v = (p : List ℕ) × IsConnectingPath g u v p

-- A path leads from the arc's counterparty back to its party.
abbrev pub IsCyclic : Graph → ℕ → Type 0
IsCyclic g a = Reaches g (ends g a).to (ends g a).from

-- The arc lies on no cycle; the set is what its counterparty reaches, which no arc leaves and which
-- lacks its party.
pub record IsLeftOut (g : Graph) (l : LeftOut) : Type 0 where
  pub arc : l.arc < length g.arcs
  pub not_cyclic : IsCyclic g l.arc → ⊥
  pub ascending : IsStrictlyIncreasing l.closed
  pub parties : (v : ℕ) → IsTrue (is_listed v l.closed) → v < g.n
  pub reached : (v : ℕ) → v < g.n → (IsTrue (is_listed v l.closed) ↔ Reaches g (ends g l.arc).to v)
  pub closed : (b : ℕ) → b < length g.arcs → IsTrue (is_listed (ends g b).from l.closed) → IsTrue (is_listed (ends g b).to l.closed)
  pub lacks : is_listed (ends g l.arc).from l.closed ≡ false

-- The list has exactly the arcs that lie on no cycle, ascending.
pub record TellsLeftOut (g : Graph) (ls : List LeftOut) : Type 0 where
  pub ascending : IsStrictlyIncreasing (map (λ l. l.arc) ls)
  pub each : (l : LeftOut) → IsElement l ls → IsLeftOut g l
  pub all : (a : ℕ) → a < length g.arcs → (IsCyclic g a → ⊥) → IsTrue (is_listed a (map (λ l. l.arc) ls))
