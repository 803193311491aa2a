-- The contract that a legal history leaves, and its replies.
use Rattle.std.proofs.Common.{◌≡◌, ℕ, zero, suc, ◌+◌, ◌<◌, ◌≤◌, ◌==◌, nat_lt, nat_le, Bool, true, false, cond, ◌&&◌, ◌||◌, IsTrue, List, [], ◌∷◌, ◌++◌}
use Rattle.std.proofs.Common.{length, map, replicate, slice_set, get_or, Option, Some, None, is_some, is_none, option_map, refl, sym, ap, ap₂, ◌∙◌}
use Rattle.std.proofs.Common.{arith, eqb-true, eq-eqb, leb-true, ltb-true, ltb-false}
use Rattle.std.specs.List.{range_with_len}
use Rattle.std.proofs.lemmas.Option.{none-some}
use Rattle.std.proofs.lemmas.List.FromFn.{get_or-map-range_with_len, length-map-range_with_len}
use Rattle.std.proofs.Math.ListN.{get_or-eq_default}
use Rattle.swap_base.specs.Lists.{or_else}
use Rattle.swap_base.proofs.Lists.{first_given_answer-append, and_parts, or_else-none}
use Rattle.swap_digraph.specs.declared.deal.Deal.{Deal}
use Rattle.swap_digraph.specs.Deal.{party, counterparty, locks}
use Rattle.hashkey_path.specs.declared.hashkey.Hashkey.{Hashkey}
use Rattle.escrow_core.specs.declared.terms.Terms.{Terms}
use Rattle.escrow_core.specs.declared.reply.Reply.{Reply}
use Rattle.escrow_core.specs.declared.reply.Reply.TheVariants.{NoContract}
use Rattle.escrow_core.specs.Table.{first_row, unlock_rows, claim_rows, refund_rows}
use Rattle.escrow_core.specs.Value.{ContractState, AreFitting, is_lock_open, with_opened, with_settled}
use Rattle.ledger_core.specs.declared.entry.Call.{Call}
use Rattle.ledger_core.specs.declared.entry.Call.TheVariants.{Publish, Unlock, Claim, Refund, Transfer}
use Rattle.ledger_core.specs.declared.entry.Entry.{Entry}
use Rattle.ledger_core.specs.declared.facts.Settlement.{Settlement}
use Rattle.ledger_core.specs.declared.facts.Settlement.TheVariants.{Claimed, Refunded}
use Rattle.ledger_core.specs.History.{height, accepted, Publication, publication, published, Opening, opening, opened, settling, settled, is_open}
use Rattle.ledger_core.specs.History.{publication_terms, is_full, rows, history_reply, fit, balance, IsLegal}
use Rattle.ledger_core.specs.Ledger.{published_contract, history_contract, next_contract, IsHistoryContract, by_contract, reply_by_contract}
use Rattle.ledger_core.proofs.History.{published_done, opened_done, of_publish, of_unlock, of_claim, of_refund, clear_at, published-past, lock-below}
use Rattle.ledger_core.proofs.Units.{settled-published}

-- Lists over a range.

map_same : {A : Type 0} (f g : ℕ → A) → ((i : ℕ) → f i ≡ g i) → (xs : List ℕ) → map f xs ≡ map g xs
map_same f g e [] = refl
map_same f g e (x ∷ xs) = ap₂ (λ y ys. y ∷ ys) (e x) (map_same f g e xs)

map_const : {A : Type 0} (x : A) (k n : ℕ) → map (λ (i : ℕ). x) (range_with_len k n) ≡ replicate n x
map_const x k zero = refl
map_const x k (suc n) = ap (λ ys. x ∷ ys) (map_const x (k + 1) n)

-- with one more lock opened
abbrev opened_too : (ℕ → Bool) → ℕ → ℕ → Bool
opened_too f i j = f j || (i == j)

or-false : (b c : Bool) → c ≡ false → (b || c) ≡ b
or-false true c e = refl
or-false false c e = e

or-true : (b c : Bool) → c ≡ true → (b || c) ≡ true
or-true true c e = refl
or-true false c e = e

apart : (i j : ℕ) → (i ≡ j → ⊥) → (i == j) ≡ false
apart i j n = go (i == j) refl
  where
    go : (b : Bool) → (i == j) ≡ b → (i == j) ≡ false
    go true e = absurd (n (eqb-true i j e))
    go false e = e

opened_below : (f : ℕ → Bool) (i k n : ℕ) → i < k → map (opened_too f i) (range_with_len k n) ≡ map f (range_with_len k n)
opened_below f i k zero l = refl
opened_below f i k (suc n) l = ap₂ (λ y ys. y ∷ ys) (or-false (f k) (i == k) (apart i k (λ e. omega arith))) (opened_below f i (k + 1) n (omega arith))

find_opened : (f : ℕ → Bool) (k n j i : ℕ) → i ≡ k + j → map (opened_too f i) (range_with_len k n) ≡ slice_set (map f (range_with_len k n)) j true
find_opened f k zero j i e = refl
find_opened f k (suc n) zero i e = ap₂ (λ y ys. y ∷ ys) (or-true (f k) (i == k) (eq-eqb i k (omega arith))) (opened_below f i (k + 1) n (omega arith))
find_opened f k (suc n) (suc j) i e = ap₂ (λ y ys. y ∷ ys) (or-false (f k) (i == k) (apart i k (λ z. omega arith))) (find_opened f (k + 1) n j i (omega arith))

pub is_some-map : {A B : Type 0} (f : A → B) (o : Option A) → is_some (option_map f o) ≡ is_some o
is_some-map f None = refl
is_some-map f (Some x) = refl

-- the terms of a publish that fits
pub fitting : (d : Deal) (a : ℕ) (t : Terms) → IsTrue (fit d a (Publish t)) → AreFitting d t
fitting d a t f =
    let k =
    and_parts ((length t.locks == length d.leaders) && nat_le t.start 1000000 && nat_le t.delta 1000000 && nat_le t.bound 1000000
    && nat_le t.timelock 1000000) (nat_le t.amount 1000000000000) f in
    let k2 =
    and_parts ((length t.locks == length d.leaders) && nat_le t.start 1000000 && nat_le t.delta 1000000 && nat_le t.bound 1000000)
    (nat_le t.timelock 1000000) k.0 in
    let k3 = and_parts ((length t.locks == length d.leaders) && nat_le t.start 1000000 && nat_le t.delta 1000000) (nat_le t.bound 1000000) k2.0 in
    let k4 = and_parts ((length t.locks == length d.leaders) && nat_le t.start 1000000) (nat_le t.delta 1000000) k3.0 in
    let k5 = and_parts (length t.locks == length d.leaders) (nat_le t.start 1000000) k4.0 in
    record {
      locks = eqb-true (length t.locks) (length d.leaders) k5.0;
      start = leb-true t.start 1000000 k5.1;
      delta = leb-true t.delta 1000000 k4.1;
      bound = leb-true t.bound 1000000 k3.1;
      timelock = leb-true t.timelock 1000000 k2.1;
      amount = leb-true t.amount 1000000000000 k.1;
    }

module _ (d : Deal) (a : ℕ) where
  -- nothing is opened before it is published
  opened-published : (h : List Entry) → IsLegal d a h → published h ≡ None → (i : ℕ) → opened h i ≡ None
  opened-published h l n i = go (opened h i) refl
    where
      go : (o : Option Opening) → opened h i ≡ o → opened h i ≡ None
      go None e = e
      go (Some w) e =
          let u = (opened_done d a h i w l e).0 in
          let k = of_unlock d a u.past u.act.by w.key u.clear in
          absurd (none-some k.contract (sym n ∙ published-past h u.past u.now k.contract u.stands k.published))

  -- only locks of the deal are opened
  opened-beyond : (h : List Entry) → IsLegal d a h → (i : ℕ) → length d.leaders ≤ i → is_open h i ≡ false
  opened-beyond h l i b = go (opened h i) refl
    where
      go : (o : Option Opening) → opened h i ≡ o → is_some (opened h i) ≡ false
      go None e = ap is_some e
      go (Some w) e =
          let u = opened_done d a h i w l e in
          let below : w.key.lock < length d.leaders = lock-below d a w.key u.0.act.fits in
          let same : w.key.lock ≡ i = u.1 in
          absurd (omega arith)

  open_at : (h : List Entry) → IsLegal d a h → (p : Publication) (i : ℕ) → is_lock_open (published_contract d a h p) i ≡ is_open h i
  open_at h l p i = go (nat_lt i (length d.leaders)) refl
    where
      go : (b : Bool) → nat_lt i (length d.leaders) ≡ b → get_or (map (is_open h) (locks d)) i false ≡ is_open h i
      go true e = get_or-map-range_with_len (is_open h) 0 (length d.leaders) i i false (omega (arith, ltb-true i (length d.leaders) e)) (omega arith)
      go false e =
          let beyond : length d.leaders ≤ i = omega (arith, ltb-false i (length d.leaders) e) in
          let n = length-map-range_with_len (is_open h) 0 (length d.leaders) in
          get_or-eq_default (map (is_open h) (locks d)) false (omega arith) ∙ sym (opened-beyond h l i beyond)

  -- the contract tells the opened locks
  open_in : (h : List Entry) → IsLegal d a h → (p : Publication) → is_lock_open (published_contract d a h p) ≡ is_open h
  open_in h l p = λ j i. open_at h l p i j

  abbrev shown : Option Publication → (ℕ → Bool) → Option Settlement → Option ContractState
  shown o f s = option_map (λ p. record { arc = a; from = party d a; to = counterparty d a; terms = p.terms; opened = map f (locks d); settled = is_some s }) o

  same_shown : (o o' : Option Publication) (f f' : ℕ → Bool) (s s' : Option Settlement) → o ≡ o' → ((i : ℕ) → f i ≡ f' i) → s ≡ s'
      → shown o f s ≡ shown o' f' s'
  same_shown o o' f f' s s' eo ef es = λ j. shown (eo j) (λ i. ef i j) (es j)

  settled_shown : (o : Option Publication) (f : ℕ → Bool) → shown o f (Some Claimed) ≡ option_map with_settled (shown o f None)
  settled_shown None f = refl
  settled_shown (Some p) f = refl

  refunded_shown : (o : Option Publication) (f : ℕ → Bool) → shown o f (Some Refunded) ≡ option_map with_settled (shown o f None)
  refunded_shown None f = refl
  refunded_shown (Some p) f = refl

  opened_shown : (o : Option Publication) (f : ℕ → Bool) (s : Option Settlement) (i : ℕ)
      → shown o (opened_too f i) s ≡ option_map (λ c. with_opened c i) (shown o f s)
  opened_shown None f s i = refl
  opened_shown (Some p) f s i =
      ap (λ os. Some (record { arc = a; from = party d a; to = counterparty d a; terms = p.terms; opened = os; settled = is_some s }))
      (find_opened f 0 (length d.leaders) i i (omega arith))

  open_more : (o : Option Opening) (i j t : ℕ) (key : Hashkey) → key.lock ≡ i
      → is_some (or_else o (or_else (opening j t (Some (Unlock key))) None)) ≡ (is_some o || (i == j))
  open_more (Some w) i j t key e = refl
  open_more None i j t key e = go (key.lock == j) refl
    where
      go : (b : Bool) → (key.lock == j) ≡ b
          → is_some (or_else (cond b (let w : Option Opening = Some (record { height = t; key = key }) in w) None) None) ≡ (i == j)
      go true k = sym (eq-eqb i j (sym e ∙ eqb-true key.lock j k))
      go false k = sym k ∙ ap (λ x. x == j) e

  after_push : (h : List Entry) (e : Entry) (o : Option Call) → accepted e ≡ o → history_contract d a (h ++ e ∷ [])
      ≡ shown (or_else (published h) (or_else (publication e.height o) None)) (λ i.
      is_some (or_else (opened h i) (or_else (opening i e.height o) None))) (or_else (settled h) (or_else (settling o) None))
  after_push h e o k =
      same_shown _ _ _ _ _ _
      (first_given_answer-append (λ x. publication x.height (accepted x)) h (e ∷ []) ∙ ap (λ z. or_else (published h) (or_else (publication e.height z) None)) k)
      (λ i. ap is_some (first_given_answer-append (λ x. opening i x.height (accepted x)) h (e ∷ [])
      ∙ ap (λ z. or_else (opened h i) (or_else (opening i e.height z) None)) k))
      (first_given_answer-append (λ x. settling (accepted x)) h (e ∷ []) ∙ ap (λ z. or_else (settled h) (or_else (settling z) None)) k)

  -- an entry that publishes, opens and settles nothing
  stays : (h : List Entry) → shown (or_else (published h) None) (λ i. is_some (or_else (opened h i) None)) (or_else (settled h) None) ≡ history_contract d a h
  stays h = same_shown _ _ _ _ _ _ (or_else-none (published h)) (λ i. ap is_some (or_else-none (opened h i))) (or_else-none (settled h))

  -- one more entry changes the contract as its call says
  pub contract-push : (h : List Entry) (e : Entry) (o : Option Call) → accepted e ≡ o → IsLegal d a (h ++ e ∷ []) → IsLegal d a h
      → history_contract d a (h ++ e ∷ []) ≡ next_contract d a (history_contract d a h) o
  contract-push h e None k l l0 = after_push h e None k ∙ stays h
  contract-push h e (Some (Transfer to units)) k l l0 = after_push h e (Some (Transfer to units)) k ∙ stays h
  contract-push h e (Some (Publish t)) k l l0 =
      let c = clear_at d a (h ++ e ∷ []) h e (Publish t) l ([], refl) k in
      let p = of_publish d a h c.0.by t c.1 in
      after_push h e (Some (Publish t)) k
      ∙ same_shown _ (Some (record { height = e.height; terms = t })) _ (λ i. false) _ None
      (ap (λ z. or_else z (Some (record { height = e.height; terms = t }))) p.first)
      (λ i. ap (λ z. is_some (or_else z None)) (opened-published h l0 p.first i))
      (ap (λ z. or_else z None) (settled-published d a h l0 p.first))
      ∙ ap (λ os. Some (record { arc = a; from = party d a; to = counterparty d a; terms = t; opened = os; settled = false }))
      (map_const false 0 (length d.leaders))
  contract-push h e (Some (Unlock key)) k l l0 =
      after_push h e (Some (Unlock key)) k
      ∙ same_shown _ _ _ (opened_too (is_open h) key.lock) _ _ (or_else-none (published h)) (λ i.
      open_more (opened h i) key.lock i e.height key refl) (or_else-none (settled h))
      ∙ opened_shown (published h) (is_open h) (settled h) key.lock
  contract-push h e (Some Claim) k l l0 =
      let c = clear_at d a (h ++ e ∷ []) h e Claim l ([], refl) k in
      let p = of_claim d a h c.0.by c.1 in
      after_push h e (Some Claim) k
      ∙ same_shown _ _ _ (is_open h) _ (Some Claimed) (or_else-none (published h)) (λ i.
      ap is_some (or_else-none (opened h i))) (ap (λ z. or_else z (Some Claimed)) p.unsettled)
      ∙ settled_shown (published h) (is_open h)
      ∙ ap (λ s. option_map with_settled (shown (published h) (is_open h) s)) (sym p.unsettled)
  contract-push h e (Some Refund) k l l0 =
      let c = clear_at d a (h ++ e ∷ []) h e Refund l ([], refl) k in
      let p = of_refund d a h c.0.by c.1 in
      after_push h e (Some Refund) k
      ∙ same_shown _ _ _ (is_open h) _ (Some Refunded) (or_else-none (published h)) (λ i.
      ap is_some (or_else-none (opened h i))) (ap (λ z. or_else z (Some Refunded)) p.unsettled)
      ∙ refunded_shown (published h) (is_open h)
      ∙ ap (λ s. option_map with_settled (shown (published h) (is_open h) s)) (sym p.unsettled)

  -- the contract is the arc's, with terms that fit
  pub contract_in : (h : List Entry) → a < length d.graph.arcs → IsLegal d a h → IsHistoryContract d a (history_contract d a h)
  contract_in h lt l = go (published h) refl
    where
      go : (o : Option Publication) → published h ≡ o → IsHistoryContract d a (option_map (published_contract d a h) o)
      go None e = tt
      go (Some p) e =
          record {
            arc = refl;
            kept = record {
              arc = lt;
              from = refl;
              to = refl;
              terms =
                  fitting d a p.terms (published_done d a h p l e).act.fits;
              opened = length-map-range_with_len (is_open h) 0 (length d.leaders);
            };
          }

  -- The contract's replies are those of the table.

  by_settled_rows : (h : List Entry) (o : Option Publication) → IsLegal d a h → (rs : Terms → (ℕ → Bool) → Bool → List (Bool × Reply))
      → by_contract (option_map (published_contract d a h) o) (λ c. rs c.terms (is_lock_open c) c.settled)
      ≡ cond (is_none o) NoContract (first_row (rs (publication_terms o) (is_open h) (is_some (settled h))))
  by_settled_rows h None l rs = refl
  by_settled_rows h (Some p) l rs = ap (λ f. first_row (rs p.terms f (is_some (settled h)))) (open_in h l p)

  pub answer_is : (h : List Entry) (p : ℕ) (c : Call) → IsLegal d a h → is_full h p ≡ false
      → reply_by_contract d a (history_contract d a h) (height h) (balance d a h p) p c ≡ history_reply d a h p c
  unfolding rows
  answer_is h p (Publish t) l f = rw (f, is_some-map (published_contract d a h) (published h)) refl
  answer_is h p (Unlock key) l f = by_settled_rows h (published h) l (λ t g s. unlock_rows d a t g s (height h) p key) ∙ rw f refl
  answer_is h p Claim l f = by_settled_rows h (published h) l (λ t g s. claim_rows d a g s p) ∙ rw f refl
  answer_is h p Refund l f = by_settled_rows h (published h) l (λ t g s. refund_rows d a t g s (height h) p) ∙ rw f refl
  answer_is h p (Transfer to units) l f = rw f refl
