-- What an accepted call shows of the entries before it, by the table without its first row; and
-- that few of them are another's.
use Rattle.std.proofs.Common.{◌≡◌, ◌≢◌, ℕ, ◌+◌, ◌≤◌, ◌==◌, Bool, true, false, cond, ◌||◌, List, [], ◌∷◌, ◌++◌, length, count_by, drop}
use Rattle.std.proofs.Common.{Option, Some, None, is_some, is_none, refl, sym, ap, ◌∙◌, subst, arith, eqb-true, eq-eqb, ltb-false}
use Rattle.std.specs.Prelude.{IsTrue}
use Rattle.swap_base.specs.Lists.{or_else, first_given_answer}
use Rattle.swap_base.proofs.Lists.{first_given_answer-append, first_given_answer-now, or_else-stays, bit_le, count_le, count_less, in_range, length-range, grow, at_moment}
use Rattle.swap_base.proofs.Lists.{all_moments_front}
use Rattle.swap_digraph.specs.declared.deal.Deal.{Deal}
use Rattle.swap_digraph.specs.Deal.{party, locks}
use Rattle.hashkey_path.specs.declared.hashkey.Hashkey.{Hashkey}
use Rattle.escrow_core.specs.declared.terms.Terms.{Terms}
use Rattle.escrow_core.specs.declared.reply.Reply.{Reply}
use Rattle.escrow_core.specs.declared.reply.Reply.TheVariants.{Accepted}
use Rattle.ledger_core.specs.declared.entry.Call.{Call}
use Rattle.ledger_core.specs.declared.entry.Call.TheVariants.{Publish, Unlock, Claim, Refund, Transfer}
use Rattle.ledger_core.specs.declared.entry.Sender.{Sender}
use Rattle.ledger_core.specs.declared.entry.Sender.TheVariants.{Party, Clock}
use Rattle.ledger_core.specs.declared.entry.What.{What}
use Rattle.ledger_core.specs.declared.entry.What.TheVariants.{Call as Made, Tick}
use Rattle.ledger_core.specs.declared.entry.Entry.{Entry}
use Rattle.ledger_core.specs.declared.facts.Settlement.{Settlement}
use Rattle.ledger_core.specs.declared.facts.Settlement.TheVariants.{Claimed, Refunded}
use Rattle.ledger_core.specs.History.{accepted, accepted_call, made_call, publication, published, opening, settling, settled, is_open, balance, fit, rows}
use Rattle.ledger_core.specs.History.{is_sender}
use Rattle.ledger_core.proofs.Bounds.{total_calls, calls-push}
use Rattle.ledger_core.proofs.History.{clear, AreClear, not-true, not-false, lock-below}
use Rattle.swap_rules.specs.Rest.{is_ticking}
use Rattle.swap_rules.proofs.Room.{count_top}
use Rattle.wallet_promise.specs.WithoutNoise.{is_of_contract, is_told, telling, reply_without_limit, IsTrueEntry, IsTrueMoment, IsChain}
use Rattle.wallet_promise.specs.BookLaws.{OthersAreFew}
use Rattle.wallet_promise.proofs.Filters.{filter-on, filter-off}

-- Accepted calls.

pub clear_of : (d : Deal) (a : ℕ) (past : List Entry) (p : ℕ) (c : Call) → reply_without_limit d a past p c ≡ Accepted → AreClear (drop 1 (rows d a past p c))
unfolding rows
clear_of d a past p (Publish t) e = clear (drop 1 (rows d a past p (Publish t))) refl e
clear_of d a past p (Unlock key) e = clear (drop 1 (rows d a past p (Unlock key))) refl e
clear_of d a past p Claim e = clear (drop 1 (rows d a past p Claim)) refl e
clear_of d a past p Refund e = clear (drop 1 (rows d a past p Refund)) refl e
clear_of d a past p (Transfer to units) e = clear (drop 1 (rows d a past p (Transfer to units))) refl e

pub of_publish : (d : Deal) (a : ℕ) (past : List Entry) (p : ℕ) (t : Terms) → AreClear (drop 1 (rows d a past p (Publish t)))
    → (p ≡ party d a) × (is_some (published past) ≡ false) × (t.amount ≤ balance d a past p)
unfolding rows
of_publish d a past p t k = (eqb-true p (party d a) (not-false (p == party d a) k.0), k.1.0, ltb-false (balance d a past p) t.amount k.1.1.0)

pub of_unlock : (d : Deal) (a : ℕ) (past : List Entry) (p : ℕ) (key : Hashkey) → AreClear (drop 1 (rows d a past p (Unlock key)))
    → (is_none (published past) ≡ false) × (is_open past key.lock ≡ false)
unfolding rows
of_unlock d a past p key k = (k.0, k.1.1.1.0)

pub of_claim : (d : Deal) (a : ℕ) (past : List Entry) (p : ℕ) → AreClear (drop 1 (rows d a past p Claim))
    → (is_none (published past) ≡ false) × (is_some (settled past) ≡ false)
unfolding rows
of_claim d a past p k = (k.0, k.1.0)

pub of_refund : (d : Deal) (a : ℕ) (past : List Entry) (p : ℕ) → AreClear (drop 1 (rows d a past p Refund))
    → (is_none (published past) ≡ false) × (is_some (settled past) ≡ false)
unfolding rows
of_refund d a past p k = (k.0, k.1.0)

-- An accepted call that is told, with its sender.
pub record Deed (d : Deal) (a : ℕ) (past : List Entry) (s : Sender) (c : Call) : Type 0 where
  pub by : ℕ
  pub sender : s ≡ Party by
  pub fits : IsTrue (fit d a c)
  pub clear : AreClear (drop 1 (rows d a past by c))

accepted_parts : (w : What) (r : Reply) (c : Call) → accepted_call w r ≡ Some c → (made_call w ≡ Some c) × (r ≡ Accepted)
accepted_parts (Made c') Accepted c e = (e, refl)
accepted_parts _ _ c e = absurd (cc e)

deed_of : (d : Deal) (a : ℕ) (past : List Entry) (s : Sender) (w : What) (at : ℕ) (r : Reply) (c : Call) → IsTrueEntry d a past s w at r
    → made_call w ≡ Some c → r ≡ Accepted → Deed d a past s c
deed_of d a past (Party p) (Made c') at r c t k q =
    let same : c' ≡ c = cc k in
    record {
      by = p;
      sender = refl;
      fits = subst (λ x. IsTrue (fit d a x)) same t.fits;
      clear = clear_of d a past p c (ap (reply_without_limit d a past p) (sym same) ∙ (sym t.reply ∙ q));
    }
deed_of d a past Clock (Made c') at r c t k q = absurd t
deed_of d a past (Party p) (Tick n) at r c t k q = absurd t
deed_of d a past Clock (Tick n) at r c t k q = absurd (cc k)

pub deed : (d : Deal) (v a : ℕ) (past : List Entry) (e : Entry) (c : Call) → IsTrueMoment d v a (record { past = past; now = e }) → is_told v e ≡ true
    → accepted e ≡ Some c → Deed d a past e.sender c
deed d v a past e c m t k =
    let q = accepted_parts e.what e.reply c k in deed_of d a past e.sender e.what e.height e.reply c (m.told t) q.0 q.1

-- what is of the contract is told
pub told_if : (v : ℕ) (e : Entry) (c : Call) → accepted e ≡ Some c → is_of_contract (Some c) ≡ true → is_told v e ≡ true
told_if v e c k o = or_last (is_ticking e.what || is_sender v e.sender) (is_of_contract (accepted e)) (ap is_of_contract k ∙ o)
  where
    or_last : (x y : Bool) → y ≡ true → (x || y) ≡ true
    or_last true y h = refl
    or_last false y h = h

-- How far a contract went: what is published, opened and settled.

abbrev pub bit : Bool → ℕ
bit b = cond {A = ℕ} b 1 0

abbrev pub progress : Deal → List Entry → ℕ
progress d h = bit (is_some (published h)) + count_by (is_open h) (locks d) + bit (is_some (settled h))

some_more : {B : Type 0} (f : Entry → Option B) (h : List Entry) (x : Entry) → is_some (first_given_answer f h) ≡ true → is_some (first_given_answer f (h ++ x ∷ [])) ≡ true
some_more f h x e = ap is_some (first_given_answer-append f h (x ∷ []) ∙ or_else-stays (first_given_answer f h) (or_else (f x) None) e) ∙ e

some_now : {B : Type 0} (f : Entry → Option B) (h : List Entry) (x : Entry) (y : B) → f x ≡ Some y → is_some (first_given_answer f (h ++ x ∷ [])) ≡ true
some_now f h x y e = first_given_answer-now f (h ++ x ∷ []) h x y ([], refl) e

module _ (d : Deal) where
  published_more : (h : List Entry) (x : Entry) → is_some (published h) ≡ true → is_some (published (h ++ x ∷ [])) ≡ true
  published_more h x e = some_more (λ e. publication e.height (accepted e)) h x e

  open_more : (h : List Entry) (x : Entry) (i : ℕ) → is_open h i ≡ true → is_open (h ++ x ∷ []) i ≡ true
  open_more h x i e = some_more (λ e. opening i e.height (accepted e)) h x e

  settled_more : (h : List Entry) (x : Entry) → is_some (settled h) ≡ true → is_some (settled (h ++ x ∷ [])) ≡ true
  settled_more h x e = some_more (λ e. settling (accepted e)) h x e

  pub goes_on : (h : List Entry) (x : Entry) → progress d h ≤ progress d (h ++ x ∷ [])
  goes_on h x =
      let a = bit_le (is_some (published h)) (is_some (published (h ++ x ∷ []))) (published_more h x) in
      let b = count_le (is_open (h ++ x ∷ [])) (is_open h) (locks d) (open_more h x) in
      let c = bit_le (is_some (settled h)) (is_some (settled (h ++ x ∷ []))) (settled_more h x) in
      omega arith

  settles : (h : List Entry) (x : Entry) (s : Settlement) → settling (accepted x) ≡ Some s → is_some (settled h) ≡ false
      → progress d h + 1 ≤ progress d (h ++ x ∷ [])
  settles h x s now before =
      let a = bit_le (is_some (published h)) (is_some (published (h ++ x ∷ []))) (published_more h x) in
      let b = count_le (is_open (h ++ x ∷ [])) (is_open h) (locks d) (open_more h x) in
      let c1 : bit (is_some (settled h)) ≡ 0 = ap bit before in
      let c2 : bit (is_some (settled (h ++ x ∷ []))) ≡ 1 = ap bit (some_now (λ e. settling (accepted e)) h x s now) in
      omega arith

  pub gains : (a : ℕ) (h : List Entry) (x : Entry) (s : Sender) (c : Call) → accepted x ≡ Some c → is_of_contract (Some c) ≡ true → Deed d a h s c
      → progress d h + 1 ≤ progress d (h ++ x ∷ [])
  gains a h x s (Publish t) k o g =
      let a1 : bit (is_some (published h)) ≡ 0 = ap bit (of_publish d a h g.by t g.clear).1 in
      let a2 : bit (is_some (published (h ++ x ∷ []))) ≡ 1 =
      ap bit (some_now (λ e. publication e.height (accepted e)) h x (record { height = x.height; terms = t }) (ap (publication x.height) k)) in
      let b = count_le (is_open (h ++ x ∷ [])) (is_open h) (locks d) (open_more h x) in
      let c = bit_le (is_some (settled h)) (is_some (settled (h ++ x ∷ []))) (settled_more h x) in
      omega arith
  gains a h x s (Unlock key) k o g =
      let a1 = bit_le (is_some (published h)) (is_some (published (h ++ x ∷ []))) (published_more h x) in
      let here : opening key.lock x.height (accepted x) ≡ Some (record { height = x.height; key = key }) =
      ap (opening key.lock x.height) k
      ∙ ap (λ b. cond b (Some (record { height = x.height; key = key })) None) (eq-eqb key.lock key.lock refl) in
      let now : is_open (h ++ x ∷ []) key.lock ≡ true =
      some_now (λ e. opening key.lock e.height (accepted e)) h x (record { height = x.height; key = key }) here in
      let b =
      count_less (is_open (h ++ x ∷ [])) (is_open h) (locks d) (open_more h x) key.lock (in_range key.lock (length d.leaders) (lock-below d a key g.fits))
      now (of_unlock d a h g.by key g.clear).1 in
      let c = bit_le (is_some (settled h)) (is_some (settled (h ++ x ∷ []))) (settled_more h x) in
      omega arith
  gains a h x s Claim k o g = settles h x Claimed (ap settling k) (of_claim d a h g.by g.clear).1
  gains a h x s Refund k o g = settles h x Refunded (ap settling k) (of_refund d a h g.by g.clear).1
  gains a h x s (Transfer to units) k o g = absurd (cc o)

  pub all_progress : (h : List Entry) → progress d h ≤ length d.leaders + 2
  all_progress h =
      let a = bit_le (is_some (published h)) true (λ q. refl) in
      let b = count_top (is_open h) (locks d) in
      let l : length (locks d) ≡ length d.leaders = length-range 0 (length d.leaders) in
      let c = bit_le (is_some (settled h)) true (λ q. refl) in
      omega arith

-- Another's call that is told was accepted.

of_another : (d : Deal) (v a p : ℕ) (past : List Entry) (s : Sender) (w : What) (at : ℕ) (r : Reply) → p ≢ v → IsTrueEntry d a past s w at r
    → is_sender p s ≡ true → (is_ticking w || is_sender v s || is_of_contract (accepted_call w r)) ≡ true → is_of_contract (accepted_call w r) ≡ true
of_another d v a p past (Party q) (Made c) at r ne t h told =
    let n : (q == v) ≡ false = not-true (q == v) (λ x. ne (sym (eqb-true q p h) ∙ eqb-true q v x)) in
    sym (ap (λ b. b || is_of_contract (accepted_call (Made c) r)) n) ∙ told
of_another d v a p past Clock w at r ne t h told = absurd (cc h)
of_another d v a p past (Party q) (Tick k) at r ne t h told = absurd t

pub some_call : (o : Option Call) → is_of_contract o ≡ true → (c : Call) × (o ≡ Some c)
some_call None e = absurd (cc e)
some_call (Some c) e = (c, refl)

module _ (d : Deal) (v a p : ℕ) (other : p ≢ v) where
  abbrev Few : List Entry → Type 0
  Few h = IsChain d v a h → total_calls p (telling v h) ≤ progress d h

  few_sent : (h : List Entry) (x : Entry) (b : Bool) → is_sender p x.sender ≡ b → is_told v x ≡ true → IsTrueMoment d v a (record { past = h; now = x })
      → total_calls p (telling v h) ≤ progress d h → total_calls p (telling v h ++ x ∷ []) ≤ progress d (h ++ x ∷ [])
  few_sent h x true s t m few =
      let o = of_another d v a p h x.sender x.what x.height x.reply other (m.told t) s t in
      let c = some_call (accepted x) o in
      let up = gains d a h x x.sender c.0 c.1 (ap is_of_contract (sym c.1) ∙ o) (deed d v a h x c.0 m t c.1) in
      let one : bit (is_sender p x.sender) ≡ 1 = ap bit s in
      omega (arith, calls-push (telling v h) x p)
  few_sent h x false s t m few =
      let up = goes_on d h x in
      let none : bit (is_sender p x.sender) ≡ 0 = ap bit s in
      omega (arith, calls-push (telling v h) x p)

  few_step : (h : List Entry) (x : Entry) (b : Bool) → is_told v x ≡ b → IsTrueMoment d v a (record { past = h; now = x })
      → total_calls p (telling v h) ≤ progress d h → total_calls p (telling v (h ++ x ∷ [])) ≤ progress d (h ++ x ∷ [])
  few_step h x true t m few =
      subst (λ l. total_calls p l ≤ progress d (h ++ x ∷ [])) (sym (filter-on (is_told v) h x t)) (few_sent h x (is_sender p x.sender) refl t m few)
  few_step h x false t m few =
      let up = goes_on d h x in
      subst (λ l. total_calls p l ≤ progress d (h ++ x ∷ [])) (sym (filter-off (is_told v) h x t)) (omega arith)

  pub few_calls : (h : List Entry) → IsChain d v a h → total_calls p (telling v h) ≤ length d.leaders + 2
  few_calls h l =
      let k : total_calls p (telling v h) ≤ progress d h =
      grow Few h (λ l. omega arith)
      (λ xs x rest l. few_step xs x (is_told v x) refl (at_moment (IsTrueMoment d v a) (xs ++ x ∷ []) xs x l ([], refl))
      (rest (all_moments_front (IsTrueMoment d v a) xs (x ∷ []) l))) l in
      let top = all_progress d h in
      omega arith

pub others_are_few : OthersAreFew
others_are_few d v a p h l ne = few_calls d v a p ne h l
