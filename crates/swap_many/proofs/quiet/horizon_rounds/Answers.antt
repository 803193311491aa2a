use Rattle.std.proofs.Common.{◌≡◌, ◌⊎◌, inl, inr, ℕ, ◌<◌, ◌≤◌, ◌+◌, List, length, slice_index_or, arith, sym, ap, ◌∙◌, subst}
use Rattle.swap_many.specs.Accounts.{ChainState}
use Rattle.swap_many.specs.Value.{no_chain}
use Rattle.swap_many.proofs.Values.{item_is}
use Rattle.swap_many.proofs.quiet.horizon_rounds.Goals as goal

-- some chain stays low for n rounds
abbrev SomeLow : List ChainState → (horizon n : ℕ) → Type 0
SomeLow xs horizon n = 0 < n → (q : ℕ) × (q < length xs) × ((slice_index_or xs q no_chain).clock.height + n ≤ horizon)

either : (xs : List ChainState) (horizon n a b : ℕ) → (n ≡ a) ⊎ (n ≡ b) → SomeLow xs horizon a → SomeLow xs horizon b → SomeLow xs horizon n
either xs horizon n a b (inl e) x y = subst (SomeLow xs horizon) (sym e) x
either xs horizon n a b (inr e) x y = subst (SomeLow xs horizon) (sym e) y

at_most : (n a b most : ℕ) → (n ≡ a) ⊎ (n ≡ b) → a ≤ most → b ≤ most → n ≤ most
at_most n a b most (inl e) x y = let q : ◌≡◌ {A = ℕ} n a = e in omega (arith, q, x)
at_most n a b most (inr e) x y = let q : ◌≡◌ {A = ℕ} n b = e in omega (arith, q, y)

pub chains-preserved : goal.chains-preserved
chains-preserved c =
    let xs = c.args.chains.now in
    let i = c.chains.i in
    let l : i < length xs = c.chains-test.true in
    let here = item_is xs i no_chain c.index-chains-i.result l c.index-chains-i.is in
    let next : SomeLow xs c.args.horizon c.remaining_rounds.result
    = λ more. (
      i,
      l,
      subst (λ h. h + c.remaining_rounds.result ≤ c.args.horizon) (c.height.ensures ∙ ap (λ (y : ChainState). y.clock.height) here)
          (c.remaining_rounds.ensures.low more),
    ) in
    record {
      few = at_most c.more-rounds.result c.chains.rounds c.remaining_rounds.result c.args.most c.more-rounds.ensures.one c.chains.invariant.few
          c.remaining_rounds.ensures.few;
      low = either xs c.args.horizon c.more-rounds.result c.chains.rounds c.remaining_rounds.result c.more-rounds.ensures.one c.chains.invariant.low next;
    }
