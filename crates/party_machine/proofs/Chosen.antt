-- The hashkey of a due unlock is the one that was signed for its lock, where one was.
use Rattle.std.proofs.Common.{◌≡◌, ℕ, ◌<◌, Bool, true, false, cond, List, [], ◌∷◌, length, Option, Some, None, refl, sym, ap, ◌∙◌, subst, inl, inr}
use Rattle.std.specs.List.{flat_map}
use Rattle.std.proofs.lemmas.Option.{same_Some}
use Rattle.swap_base.specs.Lists.{or_else, IsElement}
use Rattle.swap_base.proofs.Lists.{first_at, in_from_moment}
use Rattle.swap_digraph.specs.Graph.{entering, leaving}
use Rattle.swap_digraph.specs.declared.deal.Deal.{Deal}
use Rattle.swap_digraph.specs.Deal.{leads, locks}
use Rattle.hashkey_path.specs.declared.hashkey.Hashkey.{Hashkey}
use Rattle.ledger_core.specs.declared.entry.Call.TheVariants.{Unlock}
use Rattle.ledger_core.specs.History.{opened, IsLegal}
use Rattle.ledger_core.specs.Book.{Histories, history}
use Rattle.swap_rules.specs.Party.{key_without_party, first_seen_key}
use Rattle.swap_rules.specs.Due.{Wallet, Action, seen_key, extended, due_key, presented, may_unlock, due_arc_unlock, due_unlocks, first}
use Rattle.swap_rules.proofs.Prefixes.{from_flat_map}
use Rattle.swap_rules.proofs.Words.{leaves, key_without_parts}
use Rattle.ledger_core.proofs.History.{opened_done}

first_in : (xs : List Action) (x : Action) → first xs ≡ Some x → IsElement x xs
first_in [] x e = absurd (cc e)
first_in (y ∷ xs) x e = inl (same_Some x y (sym e))

if_in : (test : Bool) (xs : List Action) (x : Action) → IsElement x (cond test xs []) → IsElement x xs
if_in true xs x i = i
if_in false xs x i = absurd i

present_in : (a : ℕ) (o : Option Hashkey) (x : Action) → IsElement x (presented a o) → (key : Hashkey) × (o ≡ Some key) × (x.call ≡ Unlock key)
present_in a None x i = absurd i
present_in a (Some key) x (inl e) = (key, refl, ap (λ y. y.call) e)
present_in a (Some key) x (inr i) = absurd i

-- the parts of a wallet are for the locks that they are made for
pub record IsForLocks (w : Wallet) : Type 0 where
  pub own : (i : ℕ) → (w.first i).lock ≡ i
  pub put : (k : Hashkey) → (w.onto k).lock ≡ k.lock

module _ (d : Deal) (v : ℕ) (w : Wallet) (signed : ℕ → Option Hashkey) (k : Histories) (legal : (c : ℕ) → c < length d.graph.arcs
    → IsLegal d c (history k c)) (wallet : IsForLocks w) (kept : (i : ℕ) (l : Hashkey) → signed i ≡ Some l → l.lock ≡ i) where
  -- the hashkey that was seen for a lock is for it
  seen_lock : (i : ℕ) (inner : Hashkey) → first_seen_key d k v i ≡ Some inner → inner.lock ≡ i
  seen_lock i inner q =
      let x = first_at (λ a. key_without_party v (opened (history k a) i)) (leaving d.graph v) inner q in
      let c : IsElement x.now (leaving d.graph v) = subst (IsElement x.now) (sym x.stands.1) (in_from_moment x.past x.now x.stands.0) in
      let l = leaves d v x.now c in
      let p = key_without_parts v (opened (history k x.now) i) inner x.gives in
      ap (λ (y : Hashkey). y.lock) (sym p.2) ∙ (opened_done d x.now (history k x.now) i p.0 (legal x.now l.0) p.1).1

  made_lock : (i : ℕ) (key : Hashkey) (b : Bool) (o : Option Hashkey) → first_seen_key d k v i ≡ o → cond b (Some (w.first i)) (extended w o) ≡ Some key
      → key.lock ≡ i
  made_lock i key true o q e = ap (λ (y : Hashkey). y.lock) (sym (same_Some (w.first i) key e)) ∙ wallet.own i
  made_lock i key false None q e = absurd (cc e)
  made_lock i key false (Some inner) q e = ap (λ (y : Hashkey). y.lock) (sym (same_Some (w.onto inner) key e)) ∙ (wallet.put inner ∙ seen_lock i inner q)

  due_lock : (i : ℕ) (key : Hashkey) (o : Option Hashkey) → signed i ≡ o
      → or_else o (cond (leads d v i) (Some (w.first i)) (extended w (first_seen_key d k v i))) ≡ Some key → key.lock ≡ i
  due_lock i key None q e = made_lock i key (leads d v i) (first_seen_key d k v i) refl e
  due_lock i key (Some l) q e = kept i key (q ∙ e)

  record Comes (x : Action) : Type 0 where
    pub lock : ℕ
    pub key : Hashkey
    pub call : x.call ≡ Unlock key
    pub due : or_else (signed lock) (cond (leads d v lock) (Some (w.first lock)) (extended w (first_seen_key d k v lock))) ≡ Some key

  comes : (x : Action) → IsElement x (due_unlocks d v w signed k) → Comes x
  unfolding due_arc_unlock due_key seen_key
  comes x i =
      let a = from_flat_map (λ i. flat_map (due_arc_unlock d v w (signed i) k i) (entering d.graph v)) (locks d) x i in
      let b = from_flat_map (due_arc_unlock d v w (signed a.0) k a.0) (entering d.graph v) x a.2 in
      let p = present_in b.0 (due_key d v w (signed a.0) k a.0) x (if_in (may_unlock d v k a.0 b.0) (presented b.0 (due_key d v w (signed a.0) k a.0)) x b.2) in
      record { lock = a.0; key = p.0; call = p.2; due = p.1 }

  -- what was signed for the lock of the first due unlock is its hashkey
  pub chosen : (arc i : ℕ) (key : Hashkey) → first (due_unlocks d v w signed k) ≡ Some (record { arc = arc; call = Unlock key }) → key.lock ≡ i
      → or_else (signed i) (Some key) ≡ Some key
  chosen arc i key e lock =
      let c = comes (record { arc = arc; call = Unlock key }) (first_in (due_unlocks d v w signed k) (record { arc = arc; call = Unlock key }) e) in
      let same : c.key ≡ key = (let q = c.call in cc) in
      let at : c.lock ≡ i = sym (due_lock c.lock c.key (signed c.lock) refl c.due) ∙ (ap (λ (y : Hashkey). y.lock) same ∙ lock) in
      go _ c.lock (signed i) refl (ap signed at) (c.due ∙ ap Some same)
    where
      go : (r : Option Hashkey) (j : ℕ) (o : Option Hashkey) → signed i ≡ o → signed j ≡ signed i → or_else (signed j) r ≡ Some key
          → or_else o (Some key) ≡ Some key
      go r j None q s h = refl
      go r j (Some l) q s h = sym (ap (λ z. or_else z r) (s ∙ q)) ∙ h
