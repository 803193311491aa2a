-- What is useful is on arcs of the deal, and its hashkeys have short paths.
use Rattle.std.proofs.Common.{◌≡◌, ℕ, ◌<◌, ◌≤◌, ◌&&◌, nat_le, nat_lt, length, Option, sym, ap, subst, arith, leb-true}
use Rattle.std.specs.Prelude.{IsTrue}
use Rattle.std.specs.List.{list_all}
use Rattle.swap_base.specs.Lists.{IsElement}
use Rattle.swap_base.proofs.Lists.{and_parts}
use Rattle.swap_digraph.specs.declared.deal.Deal.{Deal}
use Rattle.swap_digraph.specs.declared.deal.Version.{Version}
use Rattle.swap_digraph.specs.declared.deal.Version.TheVariants.{One, Two}
use Rattle.swap_digraph.specs.Graph.{entering}
use Rattle.swap_digraph.specs.Deal.{version_path_limit, path_limit}
use Rattle.hashkey_path.specs.declared.hashkey.Hashkey.{Hashkey}
use Rattle.ledger_core.specs.declared.entry.Call.{Call}
use Rattle.ledger_core.specs.declared.entry.Call.TheVariants.{Unlock}
use Rattle.ledger_core.specs.History.{fit}
use Rattle.ledger_core.specs.Book.{Histories, history, IsLegalBook}
use Rattle.ledger_core.proofs.History.{opened_done}
use Rattle.swap_rules.specs.Accepted.{IsAccepted}
use Rattle.swap_rules.specs.Due.{Wallet, Action}
use Rattle.swap_rules.specs.Machine.{IsWallet, IsGoodKey}
use Rattle.swap_rules.specs.Useful.{useful}
use Rattle.swap_rules.proofs.Cases.{Case, ToPublish, ToUnlock, ToClaim, ToRefund, case_of}
use Rattle.swap_rules.proofs.Fitting.{key_fits}
use Rattle.swap_rules.proofs.Useful.{useful_is_due}
use Rattle.swap_rules.proofs.Words.{and_three, enters, leaves}
use Rattle.answer_rules.specs.Heights.{IsShort}
use Rattle.answer_rules.specs.Laws.{AreGoodKeys, SignsItsLock}
use Rattle.answer_rules.proofs.Due.{seen, Origin, WasKept, IsOwn, IsPutOn, origin}

few : (ver : Version) → version_path_limit ver ≤ 32
few One = omega arith
few Two = omega arith

fit_length : (d : Deal) (a : ℕ) (key : Hashkey) → IsTrue (fit d a (Unlock key)) → length key.path ≤ 32
fit_length d a key e =
    let p =
    and_parts (nat_lt key.lock (length d.leaders) && nat_le (length key.path) (path_limit d) && nat_le (length key.sigs) (path_limit d))
    (list_all (λ v. nat_lt v d.graph.n) key.path) e in
    let q = and_three (nat_lt key.lock (length d.leaders)) (nat_le (length key.path) (path_limit d)) (nat_le (length key.sigs) (path_limit d)) p.0 in
    let l = leb-true (length key.path) (path_limit d) q.1 in
    let most = few d.version in
    omega (arith, l, most)

module _ (d : Deal) (v : ℕ) (w : Wallet) (kept : ℕ → Option Hashkey) (k : Histories) (acc : IsAccepted d) (legal : IsLegalBook d k) (wallet : IsWallet d v w)
    (signs : SignsItsLock w) (good : AreGoodKeys d v kept) where
  good_length : (a i : ℕ) (key : Hashkey) → IsElement a (entering d.graph v) → i < length d.leaders → IsGoodKey d v i key → length key.path ≤ 32
  good_length a i key j below g =
      fit_length d a key (key_fits d acc a key (subst (λ n. n < length d.leaders) (sym g.lock) below) (g.valid a j))

  key_length : (a i : ℕ) (key : Hashkey) → IsElement a (entering d.graph v) → i < length d.leaders → Origin d v w kept k i key → length key.path ≤ 33
  key_length a i key j below (WasKept e) = let l = good_length a i key j below (good i key e) in omega (arith, l)
  key_length a i key j below (IsOwn n l e) =
      let s = good_length a i key j below (subst (λ z. IsGoodKey d v i z) e (wallet.first i below l).0) in omega (arith, s)
  key_length a i key j below (IsPutOn inner n l q e) =
      let s = seen d v k i inner q in
      let on = (leaves d v s.arc s.on).0 in
      let done = opened_done d s.arc (history k s.arc) i s.opening (legal.legal s.arc (rw legal.one_each on)) s.shown in
      let short = fit_length d s.arc s.opening.key done.0.act.fits in
      let same : length s.opening.key.path ≡ length inner.path = ap (λ z. length z.path) s.key in
      let more = signs.longer inner in
      let is : length (w.onto inner).path ≡ length key.path = ap (λ z. length z.path) e in
      omega (arith, short, same, more, is)

  by_case : (a : ℕ) (c : Call) → Case d v w kept k a c → (a < length d.graph.arcs) × IsShort c
  by_case a c (ToPublish i due e) = ((leaves d v a i).0, subst IsShort (sym e) tt)
  by_case a c (ToClaim i due e) = ((enters d v a i).0, subst IsShort (sym e) tt)
  by_case a c (ToRefund i due e) = ((leaves d v a i).0, subst IsShort (sym e) tt)
  by_case a c (ToUnlock i key below j may due e) =
      let l = key_length a i key j below (origin d v w kept k i key due) in
      let short : length key.path ≤ 1000000 = omega (arith, l) in
      ((enters d v a j).0, subst IsShort (sym e) short)

  pub useful_is_short : (at : ℕ → ℕ) (x : Action) → IsElement x (useful d v at w kept k) → (x.arc < length d.graph.arcs) × IsShort x.call
  useful_is_short at x i = by_case x.arc x.call (case_of d v w kept k x (useful_is_due d v at w kept k x i))
