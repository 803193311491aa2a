-- Small facts on the words of the rules: tests, elements, senders.
use Rattle.std.proofs.Common.{get_or, zero, suc, length, arith, ◌<◌, ◌++◌, ◌≡◌, ℕ, ◌==◌, Bool, true, false, cond, ◌&&◌, ◌||◌, List, [], ◌∷◌, Option}
use Rattle.std.proofs.Common.{Some, None, refl, sym, ap, ◌∙◌, inl, inr, eqb-true, eq-eqb}
use Rattle.std.specs.List.{flat_map}
use Rattle.std.proofs.lemmas.Option.{same_Some}
use Rattle.std.proofs.lemmas.List.{get_or_default}
use Rattle.std.proofs.lemmas.Slice.Eq.{bytes_eq-Decides}
use Rattle.std.specs.Str.{bytes_eq}
use Rattle.std.specs.Prelude.{map}
use Rattle.swap_base.proofs.Lists.{same_list-refl, same_list-true, and_parts, in_range, from_range, from_filter, in_append}
use Rattle.swap_base.proofs.Lists.{in_map}
use Rattle.swap_base.specs.Lists.{IsElement, IsMoment, same_list}
use Rattle.swap_digraph.specs.declared.deal.Deal.{Deal}
use Rattle.swap_digraph.specs.Graph.{ends, arcs, leaving, entering, is_listed}
use Rattle.swap_digraph.specs.Deal.{party, counterparty, locks, leads, lock_leader}
use Rattle.hash_signature.specs.declared.sig.Sig.{Sig}
use Rattle.hashkey_path.specs.declared.hashkey.Hashkey.{Hashkey}
use Rattle.hashkey_path.specs.Hashkey.{same_key}
use Rattle.escrow_core.specs.declared.terms.Terms.{Terms}
use Rattle.escrow_core.specs.Terms.{same_terms}
use Rattle.ledger_core.specs.History.{Opening, IsLegal, is_sender, made_call}
use Rattle.ledger_core.specs.declared.entry.Call.{Call}
use Rattle.ledger_core.specs.declared.entry.Call.TheVariants.{Publish, Unlock, Claim, Refund, Transfer}
use Rattle.ledger_core.specs.declared.entry.Entry.{Entry}
use Rattle.swap_rules.specs.declared.finding.Rule.TheVariants.{Publish as ToPublish, Unlock as ToUnlock, Claim as ToClaim, Refund as ToRefund}
use Rattle.swap_rules.specs.Party.{pick_call, unlock_hashkey, key_without_party}
use Rattle.swap_rules.specs.Findings.{deal_rules}
use Rattle.ledger_core.proofs.History.{Act, act_at}

-- Equal parts, equal values.

pub and_three : (a b c : Bool) → (a && b && c) ≡ true → (a ≡ true) × (b ≡ true) × (c ≡ true)
and_three true true c e = (refl, refl, e)
and_three true false c e = absurd (cc e)
and_three false b c e = absurd (cc e)

pub and_six : (a b c d e f : Bool) → (a && b && c && d && e && f) ≡ true → (a ≡ true) × (b ≡ true) × (c ≡ true) × (d ≡ true) × (e ≡ true) × (f ≡ true)
and_six true true true true true f h = (refl, refl, refl, refl, refl, h)
and_six true true true true false f h = absurd (cc h)
and_six true true true false e f h = absurd (cc h)
and_six true true false d e f h = absurd (cc h)
and_six true false c d e f h = absurd (cc h)
and_six false b c d e f h = absurd (cc h)

pub and_five : (a b c d e : Bool) → (a && b && c && d && e) ≡ true → (a ≡ true) × (b ≡ true) × (c ≡ true) × (d ≡ true) × (e ≡ true)
and_five a b c d e h = let k = and_six true a b c d e h in (k.1, k.2, k.3, k.4, k.5)

pub bytes_eq-true : (x y : List ℕ) → bytes_eq x y ≡ true → x ≡ y
bytes_eq-true x y e = (bytes_eq-Decides x y).0 e

pub same_terms-true : (t u : Terms) → same_terms t u ≡ true → t ≡ u
same_terms-true t u e =
    let k =
    and_six (same_list bytes_eq t.locks u.locks) (t.start == u.start) (t.delta == u.delta) (t.bound == u.bound) (t.timelock == u.timelock)
    (t.amount == u.amount) e in
    let locks_same : t.locks ≡ u.locks = same_list-true bytes_eq bytes_eq-true t.locks u.locks k.0 in
    λ i. record {
      locks = locks_same i;
      start = eqb-true t.start u.start k.1 i;
      delta = eqb-true t.delta u.delta k.2 i;
      bound = eqb-true t.bound u.bound k.3 i;
      timelock = eqb-true t.timelock u.timelock k.4 i;
      amount = eqb-true t.amount u.amount k.5 i;
    }

-- The rules of a deal.

pub publish_rule : (d : Deal) → IsElement ToPublish (deal_rules d)
publish_rule d = inl refl

pub unlock_rule : (d : Deal) (i : ℕ) → i < length d.leaders → IsElement (ToUnlock i) (deal_rules d)
unlock_rule d i l =
    inr (in_append (map ToUnlock (locks d)) (ToClaim ∷ ToRefund ∷ []) (ToUnlock i)
    (inl (in_map ToUnlock (locks d) i (in_range i (length d.leaders) l))))

pub claim_rule : (d : Deal) → IsElement ToClaim (deal_rules d)
claim_rule d = inr (in_append (map ToUnlock (locks d)) (ToClaim ∷ ToRefund ∷ []) ToClaim (inr (inl refl)))

pub refund_rule : (d : Deal) → IsElement ToRefund (deal_rules d)
refund_rule d = inr (in_append (map ToUnlock (locks d)) (ToClaim ∷ ToRefund ∷ []) ToRefund (inr (inr (inl refl))))

-- A book, its parties and their calls.

pub enters : (d : Deal) (v a : ℕ) → IsElement a (entering d.graph v) → (a < length d.graph.arcs) × (counterparty d a ≡ v)
enters d v a i = let k =
    from_filter (λ a. (ends d.graph a).to == v) a (arcs d.graph) i in (from_range a (length d.graph.arcs) k.0, eqb-true (ends d.graph a).to v k.1)

pub leaves : (d : Deal) (v a : ℕ) → IsElement a (leaving d.graph v) → (a < length d.graph.arcs) × (party d a ≡ v)
leaves d v a i = let k =
    from_filter (λ a. (ends d.graph a).from == v) a (arcs d.graph) i in (from_range a (length d.graph.arcs) k.0, eqb-true (ends d.graph a).from v k.1)

pub pick_call-act : (d : Deal) (a : ℕ) (past : List Entry) (e : Entry) (c : Call) (v : ℕ) (act : Act d a past e c) → act.by ≡ v → pick_call v e ≡ Some c
pick_call-act d a past e c v act by =
    ap (λ s. cond (is_sender v s) (made_call e.what) None) act.sender ∙ (ap (λ b. cond b (made_call e.what) None) (eq-eqb act.by v by)
    ∙ ap made_call act.what)

pub call_of_parts : (v : ℕ) (e : Entry) (c : Call) → pick_call v e ≡ Some c → (is_sender v e.sender ≡ true) × (made_call e.what ≡ Some c)
call_of_parts v e c k = go (is_sender v e.sender) refl k
  where
    go : (b : Bool) → is_sender v e.sender ≡ b → cond b (made_call e.what) None ≡ Some c → (is_sender v e.sender ≡ true) × (made_call e.what ≡ Some c)
    go true h k = (h, k)
    go false h k = absurd (cc k)

-- a call of v in a legal history, with its sender
pub act_of : (d : Deal) (a : ℕ) (h past : List Entry) (e : Entry) (c : Call) (v : ℕ) → IsLegal d a h → IsMoment h past e → pick_call v e ≡ Some c
    → (act : Act d a past e c) × (act.by ≡ v)
act_of d a h past e c v l m k =
    let parts = call_of_parts v e c k in
    let act = act_at d a h past e c l m parts.1 in
    (act, eqb-true act.by v (ap (is_sender v) (sym act.sender) ∙ parts.0))

pub or-left : (x y : Bool) → x ≡ true → (x || y) ≡ true
or-left true y h = refl
or-left false y h = absurd (cc h)

pub or-first : (x y z : Bool) → (y || z) ≡ true → ((x || y) || z) ≡ true
or-first true y z h = refl
or-first false y z h = h

pub key_parts : (i : ℕ) (o : Option Call) (key : Hashkey) → unlock_hashkey i o ≡ Some key → (o ≡ Some (Unlock key)) × (key.lock ≡ i)
key_parts i (Some (Unlock k)) key e = go (k.lock == i) refl e
  where
    go : (x : Bool) → (k.lock == i) ≡ x → cond x (Some k) None ≡ Some key → (Some (Unlock k) ≡ Some (Unlock key)) × (key.lock ≡ i)
    go true h q = let same : k ≡ key = cc in (ap (λ z. Some (Unlock z)) same, ap (λ z. z.lock) (sym same) ∙ eqb-true k.lock i h)
    go false h q = absurd (cc q)
key_parts i None key e = absurd (cc e)
key_parts i (Some (Publish t)) key e = absurd (cc e)
key_parts i (Some Claim) key e = absurd (cc e)
key_parts i (Some Refund) key e = absurd (cc e)
key_parts i (Some (Transfer to units)) key e = absurd (cc e)

pub same_key-path : (k l : Hashkey) → same_key k l ≡ true → (k.lock ≡ l.lock) × (k.path ≡ l.path)
same_key-path k l e =
    let k1 = and_parts ((k.lock == l.lock) && bytes_eq k.secret l.secret && same_list (λ x y. x == y) k.path l.path) _ e in
    let k2 = and_parts ((k.lock == l.lock) && bytes_eq k.secret l.secret) (same_list (λ x y. x == y) k.path l.path) k1.0 in
    let k3 = and_parts (k.lock == l.lock) (bytes_eq k.secret l.secret) k2.0 in
    (eqb-true _ _ k3.0, same_list-true (λ x y. x == y) eqb-true k.path l.path k2.1)

pub leader_reads : (d : Deal) (v i : ℕ) → i < length d.leaders → leads d v i ≡ true → lock_leader d i ≡ v
leader_reads d v i l e = get_or_default d.leaders i 0 d.graph.n l ∙ eqb-true _ _ e

pub bytes_eq-refl : (x : List ℕ) → bytes_eq x x ≡ true
bytes_eq-refl x = (bytes_eq-Decides x x).1 refl

pub same_terms-refl : (t : Terms) → same_terms t t ≡ true
same_terms-refl t =
    let k1 = same_list-refl bytes_eq bytes_eq-refl t.locks in
    rw (
      k1,
      eq-eqb t.start t.start refl,
      eq-eqb t.delta t.delta refl,
      eq-eqb t.bound t.bound refl,
      eq-eqb t.timelock t.timelock refl,
      eq-eqb t.amount t.amount refl,
    ) refl

pub same_key-refl : (k : Hashkey) → same_key k k ≡ true
same_key-refl k =
    let k1 = same_list-refl (λ (x y : ℕ). x == y) (λ n. eq-eqb n n refl) k.path in
    let k2 = same_list-refl (λ (s t : Sig). same_list bytes_eq s t) (λ s. same_list-refl bytes_eq bytes_eq-refl s) k.sigs in
    rw (eq-eqb k.lock k.lock refl, bytes_eq-refl k.secret, k1, k2) refl

pub same_key-true : (k l : Hashkey) → same_key k l ≡ true → k ≡ l
same_key-true k l e =
    let k1 =
    and_parts ((k.lock == l.lock) && bytes_eq k.secret l.secret && same_list (λ x y. x == y) k.path l.path)
    (same_list (λ (s t : Sig). same_list bytes_eq s t) k.sigs l.sigs) e in
    let k2 = and_three (k.lock == l.lock) (bytes_eq k.secret l.secret) (same_list (λ x y. x == y) k.path l.path) k1.0 in
    let e1 : k.lock ≡ l.lock = eqb-true k.lock l.lock k2.0 in
    let e2 : k.secret ≡ l.secret = bytes_eq-true k.secret l.secret k2.1 in
    let e3 : k.path ≡ l.path = same_list-true (λ x y. x == y) eqb-true k.path l.path k2.2 in
    let e4 : k.sigs ≡ l.sigs =
    same_list-true (λ (s t : Sig). same_list bytes_eq s t) (λ s t q. same_list-true bytes_eq bytes_eq-true s t q) k.sigs l.sigs k1.1 in
    λ i. record { lock = e1 i; secret = e2 i; path = e3 i; sigs = e4 i }

pub past_end : {A : Type 0} (xs : List (List A)) (i : ℕ) → (i < length xs → ⊥) → get_or xs i [] ≡ []
past_end [] i n = refl
past_end (x ∷ xs) zero n = absurd (n (omega arith))
past_end (x ∷ xs) (suc i) n = past_end xs i (λ l. n (omega arith))

pub append_empty : {A : Type 0} (xs ys : List A) → xs ++ ys ≡ [] → (xs ≡ []) × (ys ≡ [])
append_empty [] ys e = (refl, e)
append_empty (x ∷ xs) ys e = absurd (cc e)

-- the pieces of an empty whole are empty
pub flat_map_none : {A B : Type 0} (f : A → List B) (xs : List A) (x : A) → flat_map f xs ≡ [] → IsElement x xs → f x ≡ []
flat_map_none f [] x e i = absurd i
flat_map_none f (y ∷ xs) x e (inl q) = ap f q ∙ (append_empty (f y) (flat_map f xs) e).0
flat_map_none f (y ∷ xs) x e (inr i) = flat_map_none f xs x (append_empty (f y) (flat_map f xs) e).1 i

pub key_without_parts : (v : ℕ) (o : Option Opening) (key : Hashkey) → key_without_party v o ≡ Some key
    → (w : Opening) × (o ≡ Some w) × (w.key ≡ key) × (is_listed v w.key.path ≡ false)
key_without_parts v None key e = absurd (cc e)
key_without_parts v (Some w) key e = go (is_listed v w.key.path) refl e
  where
    go : (x : Bool) → is_listed v w.key.path ≡ x → cond x None (Some w.key) ≡ Some key
        → (w' : Opening) × (Some w ≡ Some w') × (w'.key ≡ key) × (is_listed v w'.key.path ≡ false)
    go true h q = absurd (cc q)
    go false h q = (w, refl, same_Some w.key key q, h)
