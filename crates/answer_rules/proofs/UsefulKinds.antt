-- What is useful, kind by kind.
use Rattle.std.proofs.Common.{◌≡◌, ◌⊎◌, ℕ, Bool, true, false, cond, List, [], ◌∷◌, ◌++◌}
use Rattle.std.proofs.Common.{Option, Some, None, refl, sym, ap, inl, inr}
use Rattle.std.specs.List.{flat_map}
use Rattle.std.proofs.lemmas.Bool.{false≢true}
use Rattle.swap_base.specs.Lists.{IsElement}
use Rattle.swap_base.proofs.Lists.{from_append, in_append, in_flat_map}
use Rattle.swap_digraph.specs.declared.deal.Deal.{Deal}
use Rattle.swap_digraph.specs.Graph.{entering}
use Rattle.swap_digraph.specs.Deal.{locks}
use Rattle.hashkey_path.specs.declared.hashkey.Hashkey.{Hashkey}
use Rattle.ledger_core.specs.declared.entry.Call.{Call}
use Rattle.ledger_core.specs.declared.entry.Call.TheVariants.{Unlock}
use Rattle.ledger_core.specs.Book.{Histories}
use Rattle.swap_rules.specs.Due.{Wallet, Action, may_unlock, due_key, presented, due_arc_unlock}
use Rattle.swap_rules.specs.Due.{when_due, due_claims, due_refunds}
use Rattle.swap_rules.specs.Useful.{takes, is_withheld, timely_unlock, pressing_unlocks, useful_publishes, useful_unlocks, useful}
use Rattle.swap_rules.proofs.Prefixes.{from_flat_map}

-- Lists.

pub nothing_in : {A : Type 0} (xs : List A) → ((x : A) → IsElement x xs → ⊥) → xs ≡ []
nothing_in [] h = refl
nothing_in (x ∷ xs) h = absurd (h x (inl refl))

pub in_when : (test : Bool) (a : ℕ) (c : Call) (x : Action) → IsElement x (when_due test a c) → (test ≡ true) × (x.call ≡ c)
in_when true a c x (inl e) = (refl, ap (λ y. y.call) e)
in_when true a c x (inr i) = absurd i
in_when false a c x i = absurd i

pub to_when : (p q : Bool) (a : ℕ) (c : Call) (x : Action) → q ≡ true → IsElement x (when_due p a c) → IsElement x (when_due q a c)
to_when true true a c x e i = i
to_when false q a c x e i = absurd i
to_when true false a c x e i = absurd (false≢true e)

pub in_cond : (b : Bool) (xs : List Action) (x : Action) → IsElement x (cond b [] xs) → (b ≡ false) × IsElement x xs
in_cond true xs x i = absurd i
in_cond false xs x i = (refl, i)

pub to_cond : (b : Bool) (xs : List Action) (x : Action) → b ≡ false → IsElement x xs → IsElement x (cond b [] xs)
to_cond true xs x e i = absurd (false≢true (sym e))
to_cond false xs x e i = i

pub in_if : (b : Bool) (xs : List Action) (x : Action) → IsElement x (cond b xs []) → (b ≡ true) × IsElement x xs
in_if true xs x i = (refl, i)
in_if false xs x i = absurd i

to_if : (b : Bool) (xs : List Action) (x : Action) → b ≡ true → IsElement x xs → IsElement x (cond b xs [])
to_if true xs x e i = i
to_if false xs x e i = absurd (false≢true e)

pub in_presented : (a : ℕ) (o : Option Hashkey) (x : Action) → IsElement x (presented a o) → (key : Hashkey) × (o ≡ Some key) × (x.call ≡ Unlock key)
in_presented a None x i = absurd i
in_presented a (Some key) x (inl e) = (key, refl, ap (λ y. y.call) e)
in_presented a (Some key) x (inr i) = absurd i

-- Kind by kind.

-- where a useful call stands
pub data Kind (d : Deal) (v : ℕ) (at : ℕ → ℕ) (w : Wallet) (kept : ℕ → Option Hashkey) (k : Histories) (x : Action) : Type 0 where
  InPublishes : IsElement x (useful_publishes d v at k) → Kind d v at w kept k x
  InUnlocks : IsElement x (useful_unlocks d v at w kept k) → Kind d v at w kept k x
  InClaims : IsElement x (due_claims d v k) → Kind d v at w kept k x
  InRefunds : IsElement x (due_refunds d v k) → Kind d v at w kept k x

module _ (d : Deal) (v : ℕ) (at : ℕ → ℕ) (w : Wallet) (kept : ℕ → Option Hashkey) (k : Histories) (x : Action) where
  pub kind : IsElement x (useful d v at w kept k) → Kind d v at w kept k x
  unfolding useful
  kind i = outer (from_append (useful_publishes d v at k ++ useful_unlocks d v at w kept k ++ due_claims d v k) (due_refunds d v k) x i)
    where
      inner : IsElement x (useful_publishes d v at k) ⊎ IsElement x (useful_unlocks d v at w kept k) → Kind d v at w kept k x
      inner (inl j) = InPublishes j
      inner (inr j) = InUnlocks j

      middle : IsElement x (useful_publishes d v at k ++ useful_unlocks d v at w kept k) ⊎ IsElement x (due_claims d v k) → Kind d v at w kept k x
      middle (inl j) = inner (from_append (useful_publishes d v at k) (useful_unlocks d v at w kept k) x j)
      middle (inr j) = InClaims j

      outer : IsElement x (useful_publishes d v at k ++ useful_unlocks d v at w kept k ++ due_claims d v k) ⊎ IsElement x (due_refunds d v k) → Kind d v at w kept k x
      outer (inl j) = middle (from_append (useful_publishes d v at k ++ useful_unlocks d v at w kept k) (due_claims d v k) x j)
      outer (inr j) = InRefunds j

  pub is_useful : Kind d v at w kept k x → IsElement x (useful d v at w kept k)
  unfolding useful
  is_useful (InPublishes j) =
      in_append (useful_publishes d v at k ++ useful_unlocks d v at w kept k ++ due_claims d v k) (due_refunds d v k) x
      (inl (in_append (useful_publishes d v at k ++ useful_unlocks d v at w kept k) (due_claims d v k) x
      (inl (in_append (useful_publishes d v at k) (useful_unlocks d v at w kept k) x (inl j)))))
  is_useful (InUnlocks j) =
      in_append (useful_publishes d v at k ++ useful_unlocks d v at w kept k ++ due_claims d v k) (due_refunds d v k) x
      (inl (in_append (useful_publishes d v at k ++ useful_unlocks d v at w kept k) (due_claims d v k) x
      (inl (in_append (useful_publishes d v at k) (useful_unlocks d v at w kept k) x (inr j)))))
  is_useful (InClaims j) =
      in_append (useful_publishes d v at k ++ useful_unlocks d v at w kept k ++ due_claims d v k) (due_refunds d v k) x
      (inl (in_append (useful_publishes d v at k ++ useful_unlocks d v at w kept k) (due_claims d v k) x (inr j)))
  is_useful (InRefunds j) = in_append (useful_publishes d v at k ++ useful_unlocks d v at w kept k ++ due_claims d v k) (due_refunds d v k) x (inr j)

  -- A useful unlock.
  pub record Unlocked : Type 0 where
    pub lock : ℕ
    pub arc : ℕ
    pub key : Hashkey
    pub within : IsElement lock (locks d)
    pub enters : IsElement arc (entering d.graph v)
    pub free : is_withheld d v at kept k lock (due_key d v w (kept lock) k lock) ≡ false
    pub taken : takes d at k lock (due_key d v w (kept lock) k lock) arc ≡ true
    pub may : may_unlock d v k lock arc ≡ true
    pub due : due_key d v w (kept lock) k lock ≡ Some key
    pub here : IsElement x (due_arc_unlock d v w (kept lock) k lock arc)
    pub is : IsElement x (presented arc (due_key d v w (kept lock) k lock))

  pub unlocked : IsElement x (useful_unlocks d v at w kept k) → Unlocked
  unfolding due_arc_unlock
  unlocked i =
      let f = from_flat_map (pressing_unlocks d v at w kept k) (locks d) x i in
      let key = due_key d v w (kept f.0) k f.0 in
      let g = in_cond (is_withheld d v at kept k f.0 key) (flat_map (timely_unlock d v at w (kept f.0) k f.0) (entering d.graph v)) x f.2 in
      let h = from_flat_map (timely_unlock d v at w (kept f.0) k f.0) (entering d.graph v) x g.1 in
      let u = in_if (takes d at k f.0 key h.0) (due_arc_unlock d v w (kept f.0) k f.0 h.0) x h.2 in
      let t = in_if (may_unlock d v k f.0 h.0) (presented h.0 key) x u.1 in
      let p = in_presented h.0 (due_key d v w (kept f.0) k f.0) x t.1 in
      record {
        lock = f.0;
        arc = h.0;
        key = p.0;
        within = f.1;
        enters = h.1;
        free = g.0;
        may = t.0;
        due = p.1;
        here = u.1;
        taken = u.0;
        is = t.1;
      }

  pub in_due_unlocks : (i a : ℕ) → IsElement i (locks d) → IsElement a (entering d.graph v)
      → is_withheld d v at kept k i (due_key d v w (kept i) k i) ≡ false → takes d at k i (due_key d v w (kept i) k i) a ≡ true
      → IsElement x (due_arc_unlock d v w (kept i) k i a) → IsElement x (useful_unlocks d v at w kept k)
  in_due_unlocks i a j l free taken p =
      in_flat_map (pressing_unlocks d v at w kept k) (locks d) i x j
      (to_cond (is_withheld d v at kept k i (due_key d v w (kept i) k i)) (flat_map (timely_unlock d v at w (kept i) k i) (entering d.graph v)) x free
      (in_flat_map (timely_unlock d v at w (kept i) k i) (entering d.graph v) a x l
      (to_if (takes d at k i (due_key d v w (kept i) k i) a) (due_arc_unlock d v w (kept i) k i a) x taken p)))
