-- Correct terms and valid hashkeys fit.
use Rattle.std.proofs.Common.{le-leb, ◌≡◌, ℕ, ◌<◌, ◌≤◌, ◌==◌, nat_lt, nat_le, Bool, true, false, slice_index, ◌&&◌, IsTrue, [], length, refl, sym, ap}
use Rattle.std.proofs.Common.{◌∙◌, arith, eqb-true, eq-eqb, lt-ltb, ◌^◌}
use Rattle.std.specs.List.{list_all}
use Rattle.swap_base.proofs.Lists.{list_all-from, and_parts}
use Rattle.swap_digraph.specs.Deal.{path_limit, version_path_limit, most_parties, amount, lock_hashlock}
use Rattle.swap_digraph.specs.declared.deal.Version.{Version}
use Rattle.swap_digraph.specs.declared.deal.Version.TheVariants.{One, Two}
use Rattle.swap_digraph.specs.declared.deal.Mode.{Mode}
use Rattle.swap_digraph.specs.declared.deal.Mode.TheVariants.{Timelocks, Hashkeys}
use Rattle.swap_digraph.specs.declared.deal.Deal.{Deal}
use Rattle.hashkey_path.specs.declared.hashkey.Hashkey.{Hashkey}
use Rattle.hashkey_path.specs.Hashkey.{is_wrong_path, is_valid}
use Rattle.escrow_core.specs.Terms.{stated_terms}
use Rattle.ledger_core.specs.declared.entry.Call.TheVariants.{Publish, Unlock}
use Rattle.ledger_core.specs.History.{fit}
use Rattle.swap_rules.specs.Accepted.{IsAccepted}
use Rattle.swap_rules.proofs.Times.{no_path, make_path, path_of_valid}
use Rattle.swap_rules.proofs.Accepted.{accepted_is_well_sized}
use Rattle.ledger_core.proofs.History.{not-false}
use Rattle.swap_digraph.proofs.Paths.{path_length, path_below}

six : (a b c e f g : Bool) → a ≡ true → b ≡ true → c ≡ true → e ≡ true → f ≡ true → g ≡ true → (a && b && c && e && f && g) ≡ true
six a b c e f g ha hb hc he hf hg = rw (ha, hb, hc, he, hf, hg) refl

pub terms_fit : (d : Deal) → IsAccepted d → (a : ℕ) → a < length d.graph.arcs → IsTrue (fit d a (Publish (stated_terms d a)))
terms_fit d k a l =
    let s : d.start ≤ 1000 = k.start.1 in
    let x : d.delta ≤ 100 = k.delta.1 in
    let b : d.bound ≤ 64 = k.bound.1 in
    let m : amount d a ≤ 10 ^ 12 = (k.amounts a l).1 in
    let t : slice_index d.timelocks a ≤ 1000000 = (accepted_is_well_sized d k).timelock a l in
    six (length d.hashlocks == length d.leaders) (nat_le d.start 1000000) (nat_le d.delta 1000000) (nat_le d.bound 1000000)
    (nat_le (slice_index d.timelocks a) 1000000) (nat_le (amount d a) 1000000000000)
    (eq-eqb _ _ k.hashlocks) (le-leb _ _ (omega arith)) (le-leb _ _ (omega arith)) (le-leb _ _ (omega arith)) (le-leb _ _ t) (le-leb _ _ m)

pub key_fits : (d : Deal) → IsAccepted d → (a : ℕ) (key : Hashkey) → key.lock < length d.leaders → is_valid d a (lock_hashlock d key.lock) key ≡ true
    → IsTrue (fit d a (Unlock key))
key_fits d k a key low valid = go d.mode refl
  where
    wrong : is_wrong_path d a d.mode key ≡ false
    wrong = path_of_valid d a (lock_hashlock d key.lock) key valid

    -- as many vertices as a path may have
    short : d.graph.n ≤ path_limit d
    short = by_version d.version k.parties.1
      where
        by_version : (ver : Version) → d.graph.n ≤ most_parties ver → d.graph.n ≤ version_path_limit ver
        by_version One h = h
        by_version Two h = h

    four : (p q r s : Bool) → p ≡ true → q ≡ true → r ≡ true → s ≡ true → (p && q && r && s) ≡ true
    four p q r s hp hq hr hs = rw (hp, hq, hr, hs) refl

    go : (m : Mode) → d.mode ≡ m → IsTrue (fit d a (Unlock key))
    go Hashkeys e =
        let p = make_path d a key e wrong in
        let n = short in
        let h = path_length d.graph key.path p.path in
        let same : length key.path ≡ length key.sigs = p.lengths in
        four (nat_lt key.lock (length d.leaders)) (nat_le (length key.path) (path_limit d)) (nat_le (length key.sigs) (path_limit d))
        (list_all (λ v. nat_lt v d.graph.n) key.path)
        (lt-ltb _ _ low) (le-leb _ _ (omega arith)) (le-leb _ _ (omega arith))
        (list_all-from (λ v. nat_lt v d.graph.n) key.path (λ v i. lt-ltb _ _ (path_below d.graph key.path v p.path i)))
    go Timelocks e =
        let p = and_parts (length key.path == 0) (length key.sigs == 0) (not-false _ (ap (λ m. is_wrong_path d a m key) (sym e) ∙ wrong)) in
        let none : key.path ≡ [] = no_path d a key e wrong in
        let l1 : ◌≡◌ {A = ℕ} (length key.path) 0 = ap length none in
        let l2 = eqb-true (length key.sigs) 0 p.1 in
        four (nat_lt key.lock (length d.leaders)) (nat_le (length key.path) (path_limit d)) (nat_le (length key.sigs) (path_limit d))
        (list_all (λ v. nat_lt v d.graph.n) key.path)
        (lt-ltb _ _ low) (le-leb _ _ (omega arith)) (le-leb _ _ (omega arith)) (ap (list_all (λ v. nat_lt v d.graph.n)) none)
