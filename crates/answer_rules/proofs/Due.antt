-- What is read of a call that is useful.
use Rattle.std.proofs.Common.{◌≡◌, ℕ, Bool, true, false, cond, not, Option, Some, None, refl, sym, ap, ◌∙◌, subst}
use Rattle.std.specs.List.{list_any}
use Rattle.std.proofs.lemmas.Option.{same_Some}
use Rattle.swap_base.specs.Lists.{or_else, IsElement}
use Rattle.swap_base.proofs.Lists.{first_at, list_any-in, in_from_moment}
use Rattle.swap_digraph.specs.declared.deal.Deal.{Deal}
use Rattle.swap_digraph.specs.Graph.{leaving, is_listed}
use Rattle.swap_digraph.specs.Deal.{leads}
use Rattle.hashkey_path.specs.declared.hashkey.Hashkey.{Hashkey}
use Rattle.ledger_core.specs.History.{Opening, opened}
use Rattle.ledger_core.specs.Book.{Histories, history, IsLegalBook}
use Rattle.ledger_core.proofs.History.{opened_done}
use Rattle.swap_rules.specs.Party.{first_seen_key, key_without_party, opens_without_party}
use Rattle.swap_rules.specs.Due.{Wallet, seen_key, extended, due_key}
use Rattle.swap_rules.proofs.Words.{key_without_parts, leaves}
use Rattle.answer_rules.specs.Laws.{AreGoodKeys, SignsItsLock}

-- A hashkey that v sees: on an arc that leaves it, it opened the lock by a path without v.
pub record Seen (d : Deal) (v : ℕ) (k : Histories) (i : ℕ) (inner : Hashkey) : Type 0 where
  pub arc : ℕ
  pub on : IsElement arc (leaving d.graph v)
  pub opening : Opening
  pub shown : opened (history k arc) i ≡ Some opening
  pub key : opening.key ≡ inner
  pub without : is_listed v opening.key.path ≡ false

pub seen : (d : Deal) (v : ℕ) (k : Histories) (i : ℕ) (inner : Hashkey) → first_seen_key d k v i ≡ Some inner → Seen d v k i inner
seen d v k i inner e =
    let x = first_at (λ a. key_without_party v (opened (history k a) i)) (leaving d.graph v) inner e in
    let p = key_without_parts v (opened (history k x.now) i) inner x.gives in
    record {
      arc = x.now;
      on = subst (IsElement x.now) (sym x.stands.1) (in_from_moment x.past x.now x.stands.0);
      opening = p.0;
      shown = p.1;
      key = p.2;
      without = p.3;
    }

-- then an arc that leaves v shows one
pub seen_shows : (d : Deal) (v : ℕ) (k : Histories) (i : ℕ) (inner : Hashkey) → first_seen_key d k v i ≡ Some inner
    → list_any (λ c. opens_without_party v (opened (history k c) i)) (leaving d.graph v) ≡ true
seen_shows d v k i inner e =
    let s = seen d v k i inner e in
    list_any-in (λ c. opens_without_party v (opened (history k c) i)) (leaving d.graph v) s.arc
    (ap (opens_without_party v) s.shown ∙ ap not s.without) s.on

-- Where the hashkey of an unlock that is due comes from: it was kept, or it is v's own, or it is
-- put on one that v sees.
pub data Origin (d : Deal) (v : ℕ) (w : Wallet) (kept : ℕ → Option Hashkey) (k : Histories) (i : ℕ) (key : Hashkey) : Type 0 where
  WasKept : kept i ≡ Some key → Origin d v w kept k i key
  IsOwn : kept i ≡ None → leads d v i ≡ true → w.first i ≡ key → Origin d v w kept k i key
  IsPutOn : (inner : Hashkey) → kept i ≡ None → leads d v i ≡ false → first_seen_key d k v i ≡ Some inner → w.onto inner ≡ key → Origin d v w kept k i key

module _ (d : Deal) (v : ℕ) (w : Wallet) (kept : ℕ → Option Hashkey) (k : Histories) (i : ℕ) (key : Hashkey) where
  pub origin : due_key d v w (kept i) k i ≡ Some key → Origin d v w kept k i key
  unfolding due_key seen_key
  origin e = go (kept i) refl e
    where
      onto : (o : Option Hashkey) → first_seen_key d k v i ≡ o → kept i ≡ None → leads d v i ≡ false → extended w o ≡ Some key → Origin d v w kept k i key
      onto None q n l e = absurd (cc e)
      onto (Some inner) q n l e = IsPutOn inner n l q (same_Some (w.onto inner) key e)

      fresh : (b : Bool) → leads d v i ≡ b → kept i ≡ None → cond b (Some (w.first i)) (extended w (first_seen_key d k v i)) ≡ Some key
          → Origin d v w kept k i key
      fresh true l n e = IsOwn n l (same_Some (w.first i) key e)
      fresh false l n e = onto (first_seen_key d k v i) refl n l e

      go : (s : Option Hashkey) → kept i ≡ s → or_else s (cond (leads d v i) (Some (w.first i)) (extended w (first_seen_key d k v i))) ≡ Some key
          → Origin d v w kept k i key
      go (Some z) q e = WasKept (q ∙ e)
      go None q e = fresh (leads d v i) refl q e

  -- it is for its lock
  pub due_lock : IsLegalBook d k → SignsItsLock w → AreGoodKeys d v kept → Origin d v w kept k i key → key.lock ≡ i
  due_lock legal signs good (WasKept e) = let g = good i key e in g.lock
  due_lock legal signs good (IsOwn n l e) = ap (λ z. z.lock) (sym e) ∙ signs.own i
  due_lock legal signs good (IsPutOn inner n l q e) =
      let s = seen d v k i inner q in
      let below = (leaves d v s.arc s.on).0 in
      let done = opened_done d s.arc (history k s.arc) i s.opening (legal.legal s.arc (rw legal.one_each below)) s.shown in
      ap (λ z. z.lock) (sym e) ∙ (signs.onto inner ∙ (ap (λ z. z.lock) (sym s.key) ∙ done.1))
