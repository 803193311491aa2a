-- A hashkey that a party saw is one that it can put its signature onto.
use Rattle.std.proofs.Common.{◌≡◌, ℕ, ◌<◌, ◌≤◌, ◌==◌, Bool, true, false, cond, List, [], ◌∷◌, length, get_or, Option, Some, None, option_map, refl, sym}
use Rattle.std.proofs.Common.{ap, ◌∙◌, subst, inl, inr, arith, eqb-true, nat_lt, lt-ltb}
use Rattle.std.specs.List.{find}
use Rattle.swap_base.specs.Lists.{IsElement}
use Rattle.swap_base.proofs.Lists.{and_parts, and_both}
use Rattle.std.proofs.lemmas.Bool.{not-false, not-true}
use Rattle.swap_digraph.specs.Graph.{leaving, is_listed, has_arc}
use Rattle.swap_digraph.specs.declared.deal.Deal.{Deal}
use Rattle.swap_digraph.specs.declared.deal.Mode.{Mode}
use Rattle.swap_digraph.specs.declared.deal.Mode.TheVariants.{Timelocks, Hashkeys}
use Rattle.swap_digraph.specs.declared.deal.Version.{Version}
use Rattle.swap_digraph.specs.declared.deal.Version.TheVariants.{One, Two}
use Rattle.swap_digraph.specs.Deal.{counterparty, lock_leader, path_limit, version_path_limit, most_parties, IsWellSized}
use Rattle.hashkey_path.specs.declared.hashkey.Hashkey.{Hashkey}
use Rattle.hashkey_path.specs.Hashkey.{is_valid, is_wrong_path}
use Rattle.hashkey_path.proofs.Signed.{leads_on, longer_path}
use Rattle.escrow_core.specs.Terms.{terms_hashlock}
use Rattle.ledger_core.specs.History.{Opening, opened, IsLegal}
use Rattle.ledger_core.specs.Book.{Histories, history}
use Rattle.swap_rules.specs.Party.{opens_without_party}
use Rattle.swap_rules.proofs.Words.{leaves}
use Rattle.swap_digraph.proofs.Paths.{path_below, path_length}
use Rattle.swap_rules.proofs.Times.{make_path, path_of_valid}
use Rattle.ledger_core.proofs.History.{opened_done, of_unlock}
use Rattle.swap_rules.proofs.Entering.{valid_of_unlock}
use Rattle.due_calls.specs.Unlocks.{arc_opening_key, first_seen_arc}
use Rattle.wallet_journal.specs.Layout.{are_bounded}
use Rattle.party_machine.specs.Unlocking.{IsSignable}
use Rattle.party_machine.proofs.Good.{valid_of_test}

by_test : {A : Type 0} (p : A → Bool) (x y : A) (b : Bool) (o : Option A) (xs : List A) → p x ≡ b → (o ≡ Some y → IsElement y xs × (p y ≡ true))
    → cond b (Some x) o ≡ Some y → IsElement y (x ∷ xs) × (p y ≡ true)
by_test p x y true o xs t h e = let same : x ≡ y = cc in (inl (sym same), ap p (sym same) ∙ t)
by_test p x y false o xs t h e = let r = h e in (inr r.0, r.1)

-- what is found is an element that passes
pub found : {A : Type 0} (p : A → Bool) (xs : List A) (y : A) → find p xs ≡ Some y → IsElement y xs × (p y ≡ true)
found p [] y e = absurd (cc e)
found p (x ∷ xs) y e = by_test p x y (p x) (find p xs) xs refl (found p xs y) e

record Seen (v : ℕ) (o : Option Opening) : Type 0 where
  pub opening : Opening
  pub is : o ≡ Some opening
  pub apart : is_listed v opening.key.path ≡ false

seen_parts : (v : ℕ) (o : Option Opening) → opens_without_party v o ≡ true → Seen v o
seen_parts v None e = absurd (cc e)
seen_parts v (Some o) e = record { opening = o; is = refl; apart = not-true (is_listed v o.key.path) e }

enough : (ver : Version) (n : ℕ) → n ≤ most_parties ver → n ≤ version_path_limit ver
enough One n h = h
enough Two n h = h

pub some_room : (ver : Version) → 0 < version_path_limit ver
some_room One = omega arith
some_room Two = omega arith

none_below : (n : ℕ) (xs : List ℕ) → length xs ≡ 0 → are_bounded n xs ≡ true
none_below n [] e = refl
none_below n (x ∷ xs) e = absurd (cc e)

all_below : (n : ℕ) (xs : List ℕ) → ((x : ℕ) → IsElement x xs → x < n) → are_bounded n xs ≡ true
all_below n [] f = refl
all_below n (x ∷ xs) f = and_both (nat_lt x n) (are_bounded n xs) (lt-ltb x n (f x (inl refl))) (all_below n xs (λ y i. f y (inr i)))

module _ (d : Deal) (v a : ℕ) (key : Hashkey) (hashlock : List ℕ) (sized : IsWellSized d) (below : v < d.graph.n) (arc : IsElement a (leaving d.graph v))
    (valid : is_valid d a hashlock key ≡ true) (apart : is_listed v key.path ≡ false) where
  fits_path : (m : Mode) → d.mode ≡ m
      → (length key.path < path_limit d) × (length key.sigs ≡ length key.path) × (are_bounded d.graph.n key.path ≡ true)
  fits_path Timelocks e =
      let w : is_wrong_path d a Timelocks key ≡ false = ap (λ m. is_wrong_path d a m key) (sym e) ∙ path_of_valid d a hashlock key valid in
      let p = and_parts (length key.path == 0) (length key.sigs == 0) (not-false _ w) in
      let lp = eqb-true (length key.path) 0 p.0 in
      let ls = eqb-true (length key.sigs) 0 p.1 in
      let room = some_room d.version in
      (omega arith, ls ∙ sym lp, none_below d.graph.n key.path lp)
  fits_path Hashkeys e =
      let p = make_path d a key e (path_of_valid d a hashlock key valid) in
      let l = leaves d v a arc in
      let leads = subst (λ u. has_arc d.graph u (get_or key.path 0 0) ≡ true) l.1 (leads_on d a hashlock key l.0 e (valid_of_test d a hashlock key valid)) in
      let longer = longer_path d.graph v (counterparty d a) (lock_leader d key.lock) key.path below apart leads (p.path, p.first, p.last) in
      let most = path_length d.graph (v ∷ key.path) longer.0 in
      let limit : d.graph.n ≤ path_limit d = enough d.version d.graph.n sized.parties.1 in
      (omega arith, sym p.lengths, all_below d.graph.n key.path (λ x i. path_below d.graph key.path x p.path i))

pub can_put_onto : (d : Deal) (v i a : ℕ) (k : Histories) → IsWellSized d → v < d.graph.n
    → ((c : ℕ) → c < length d.graph.arcs → IsLegal d c (history k c)) → first_seen_arc d v k i ≡ Some a → IsSignable d i (arc_opening_key k a i)
can_put_onto d v i a k sized below legal seen =
    let f = found (λ c. opens_without_party v (opened (history k c) i)) (leaving d.graph v) a seen in
    let l = leaves d v a f.0 in
    let s = seen_parts v (opened (history k a) i) f.1 in
    let u = opened_done d a (history k a) i s.opening (legal a l.0) s.is in
    let of_u = of_unlock d a u.0.past u.0.act.by s.opening.key u.0.clear in
    let valid = valid_of_unlock d a u.0.past u.0.act.by s.opening.key of_u in
    let fits = fits_path d v a s.opening.key (terms_hashlock of_u.contract.terms s.opening.key.lock) sized below f.0 valid s.apart d.mode refl in
    subst (λ (o : Option Opening). IsSignable d i (option_map (λ x. x.key) o)) (sym s.is) (u.1, fits.0, fits.1, fits.2)
