-- The first poll at which every ledger next to the party has come past a height far enough.
use Rattle.std.proofs.Common.{◌≡◌, ◌⊎◌, ℕ, suc, zero, ◌+◌, ◌<◌, ◌≤◌, nat_lt, Bool, true, false, List, refl, subst, inl, inr, arith}
use Rattle.std.proofs.Common.{ltb-true, ltb-false}
use Rattle.std.specs.List.{list_all}
use Rattle.swap_base.specs.Lists.{IsElement}
use Rattle.swap_base.proofs.Lists.{list_all-in, some_fails_all}
use Rattle.swap_digraph.specs.declared.deal.Deal.{Deal}
use Rattle.ledger_core.specs.Book.{Histories}
use Rattle.swap_rules.specs.Rounds.{IsNear}
use Rattle.wallet_promise.specs.Life.{Asking}
use Rattle.clock_promise.specs.Polls.{Clocks, Presents, IsPolled}

-- Of some ledgers next to v, of which none of the targets is more than the skew above one of the
-- others.
module _ (d : Deal) (v : ℕ) (b : Histories) (askings : List Asking) (presents : Presents) (c : Clocks) (polls : ℕ) (at : ℕ → ℕ → ℕ)
    (bases : List ℕ) (Target : ℕ → Type 0) where
  -- A poll at which every base is past ref so far that v is told past ref, and no target is much
  -- further.
  pub record Reached (ref : ℕ) : Type 0 where
    pub r : ℕ
    pub inside : r < polls
    pub past : (a : ℕ) → IsElement a bases → ref + c.finality < at r a
    pub soon : (a : ℕ) → Target a → at r a ≤ ref + (c.skew + c.finality + (c.pace + c.down))

  abbrev pub IsLow : ℕ → ℕ → Type 0
  IsLow ref n = (a : ℕ) → Target a → at n a ≤ ref + (c.skew + c.finality + (c.pace + c.down))

  module _ (near : (a : ℕ) → Target a → IsNear d v a) (near_base : (a : ℕ) → IsElement a bases → IsNear d v a)
      (together : (r a e : ℕ) → r < polls → Target a → IsElement e bases → at r a ≤ at r e + c.skew) (x : IsPolled d v b askings presents c polls at) where
    next : (ref n : ℕ) → suc n ≤ polls → IsLow ref n → (z : Bool) → list_all (λ a. nat_lt (ref + c.finality) (at n a)) bases ≡ z
        → Reached ref ⊎ IsLow ref (suc n)
    next ref n l low true e =
        inl (record {
          r = n;
          inside = omega arith;
          past = λ a i. ltb-true (ref + c.finality) (at n a) (list_all-in (λ a. nat_lt (ref + c.finality) (at n a)) bases a e i);
          soon = low;
        })
    next ref n l low false e =
        let y = some_fails_all (λ a. nat_lt (ref + c.finality) (at n a)) bases e in
        let behind : at n y.0 ≤ ref + c.finality = ltb-false (ref + c.finality) (at n y.0) y.2 in
        inr (λ a i.
        let rise : at (n + 1) a ≤ at n a + (c.pace + c.down) = x.rises n a (omega arith) (near a i) in
        let apart : at n a ≤ at n y.0 + c.skew = together n a y.0 (omega arith) i y.1 in
        let here : at (n + 1) a ≤ ref + (c.skew + c.finality + (c.pace + c.down)) = omega arith in
        let same : n + 1 ≡ suc n = omega arith in
        subst (λ m. at m a ≤ ref + (c.skew + c.finality + (c.pace + c.down))) same here)

    pub climb : (ref n : ℕ) → n ≤ polls → Reached ref ⊎ IsLow ref n
    climb ref zero l = inr (λ a i. let h : at 0 a ≤ c.skew + c.finality + (c.pace + c.down) = x.begins a (near a i) in omega arith)
    climb ref (suc n) l = go (climb ref n (omega arith))
      where
        go : Reached ref ⊎ IsLow ref n → Reached ref ⊎ IsLow ref (suc n)
        go (inl y) = inl y
        go (inr low) = next ref n l low (list_all (λ a. nat_lt (ref + c.finality) (at n a)) bases) refl
