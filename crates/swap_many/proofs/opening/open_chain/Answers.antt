use Rattle.std.proofs.Common.{◌≡◌, ◌<◌, ◌≤◌, ◌-◌, ◌++◌, ◌∷◌, [], ℕ, List, Err, arith, length, slice_index_or, sym, ap, ap₂, ◌∙◌, subst}
use Rattle.swap_digraph.proofs.Ranges.{map_more}
use Rattle.swap_many.specs.declared.overdrawn.Overdrawn.{Overdrawn}
use Rattle.swap_many.specs.Chains.{Setup, opening_units, set_aside, first_free}
use Rattle.swap_many.specs.Opened.{account_lack}
use Rattle.swap_many.specs.Opening.{setup_of_worlds, new_chain, opened_or}
use Rattle.swap_many.proofs.Values.{item_is}
use Rattle.swap_many.proofs.Begun.{first_here, first_next, lacks, lacks_none, free_fits}
use Rattle.swap_many.proofs.opening.open_chain.Goals as goal
use Rattle.swap_many.proofs.opening.open_chain.Goals.{After-as_slice-opening}

-- The units of the chain's accounts.
module _ (c : goal.After-as_slice-opening) where
  abbrev m : Setup
  m = setup_of_worlds c.args.worlds.now c.args.places.now c.args.chains.now

  units : c.as_slice-opening.result.now ≡ slice_index_or c.args.chains.now c.args.chain []
  units = c.as_slice-opening.ensures ∙ item_is c.args.chains.now c.args.chain [] c.index-chains-chain.result c.requires.chain c.index-chains-chain.is

  opens : (x : ℕ) → slice_index_or c.as_slice-opening.result.now x 0 ≡ opening_units m c.args.chain x
  opens x = ap (λ (xs : List ℕ). slice_index_or xs x 0) units

pub returns-then-have-wanted : goal.returns-then-have-wanted
returns-then-have-wanted c =
    let o = (goal.at.returns-then-have-wanted c).After-as_slice-opening in
    let i = c.args.chain in
    let x = c.accounts.account in
    let have = opens o x in
    let l : x < length (slice_index_or c.args.chains.now i []) = subst (λ (xs : List ℕ). x < length xs) (units o) c.accounts-test.true in
    let less : opening_units (m o) i x < set_aside (m o) i x = rw (← have, ← c.aside-wanted.ensures) c.if-have-wanted.true in
    ap (λ r. opened_or r (new_chain (m o) i))
    (first_here (account_lack (m o) i) (length (slice_index_or c.args.chains.now i [])) x _ l c.accounts.invariant.0 (lacks (m o) i x less))
    ∙ ap₂ (λ h k. Err (let y : Overdrawn = record { chain = i; account = x; have = h; wanted = k } in y)) (sym have) (sym c.aside-wanted.ensures)

pub accounts-preserved : goal.accounts-preserved
accounts-preserved c =
    let o = (goal.at.accounts-preserved c).After-as_slice-opening in
    let i = c.args.chain in
    let x = c.accounts.account in
    let have = opens o x in
    let inv = c.accounts.invariant in
    let enough : set_aside (m o) i x ≤ opening_units (m o) i x = rw (← have, ← c.aside-wanted.ensures) c.if-have-wanted.false in (
      first_next (account_lack (m o) i) x inv.0 (lacks_none (m o) i x enough),
      map_more (first_free (m o) i) x c.accounts.free.items c.push.new.self.items
          (c.in_ok-push.ensures.items ∙ ap₂ (λ (h k : ℕ). c.accounts.free.items ++ (h - k) ∷ []) have c.aside-wanted.ensures) inv.1,
    )

pub new-requires : goal.new-requires
new-requires c =
    let o = (goal.at.new-requires c).After-as_slice-opening in
    let e : c.accounts.account ≡ length c.as_slice-opening.result.now = omega (arith, c.accounts-test.false, c.accounts.auto) in
    record {
      few = free_fits (m o) c.args.chain c.accounts.account c.accounts.free.items (e ∙ ap length (units o)) c.accounts.invariant.1
          (c.requires.all.units c.args.chain);
    }
