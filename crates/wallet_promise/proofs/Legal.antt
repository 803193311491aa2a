-- What is told of a chain without limits is a legal history.
use Rattle.std.proofs.Common.{◌≡◌, ◌≢◌, ◌⊎◌, ℕ, ◌+◌, ◌≤◌, ◌==◌, nat_lt, nat_le, Bool, true, false, cond, not, ◌||◌, List, [], ◌∷◌, ◌++◌, length, drop}
use Rattle.std.proofs.Common.{Option, Some, None, is_some, is_none, refl, sym, ap, ap₂, ◌∙◌, subst, inl, inr, arith, eqb-true, eq-eqb, le-ltb}
use Rattle.std.specs.List.{list_all}
use Rattle.std.proofs.lemmas.Bool.{lt-leb, false≢true}
use Rattle.swap_base.specs.Lists.{IsMoment}
use Rattle.swap_base.proofs.Lists.{grow, at_moment, all_moments_front, all_moments_push, and_parts}
use Rattle.swap_digraph.specs.declared.deal.Deal.{Deal}
use Rattle.swap_digraph.specs.Deal.{party, amount}
use Rattle.escrow_core.specs.declared.terms.Terms.{Terms}
use Rattle.escrow_core.specs.declared.reply.Reply.{Reply}
use Rattle.escrow_core.specs.declared.reply.Reply.TheVariants.{Accepted, NotParty, NoContract, AlreadyPublished, NoFunds, SenderFull, ClockFull}
use Rattle.escrow_core.specs.Table.{first_row, unlock_rows, claim_rows, refund_rows}
use Rattle.ledger_core.specs.declared.entry.Call.{Call}
use Rattle.ledger_core.specs.declared.entry.Call.TheVariants.{Publish, Unlock, Claim, Refund, Transfer}
use Rattle.ledger_core.specs.declared.entry.Sender.{Sender}
use Rattle.ledger_core.specs.declared.entry.Sender.TheVariants.{Party, Clock}
use Rattle.ledger_core.specs.declared.entry.What.{What}
use Rattle.ledger_core.specs.declared.entry.What.TheVariants.{Call as Made, Tick}
use Rattle.ledger_core.specs.declared.entry.Entry.{Entry}
use Rattle.ledger_core.specs.declared.accounts.Accounts.{Accounts}
use Rattle.ledger_core.specs.declared.facts.Settlement.{Settlement}
use Rattle.ledger_core.specs.History.{entry_ticks, height, made_call, accepted, accepted_call, Publication, published, settled, is_open}
use Rattle.ledger_core.specs.History.{publication_terms, accounts, balance}
use Rattle.ledger_core.specs.History.{is_party, is_sender, is_tick, is_full, is_clock_full, rows, history_reply}
use Rattle.ledger_core.specs.History.{IsLegal, IsLegalEntry, IsLegalMoment}
use Rattle.ledger_core.proofs.Bounds.{total_calls, run_ticks, calls-push, ticks-push, height-push}
use Rattle.ledger_core.proofs.History.{of_transfer, clear_at}
use Rattle.swap_rules.specs.Rest.{is_ticking}
use Rattle.wallet_promise.specs.WithoutNoise.{is_of_contract, is_told, telling, SaysTheSame, reply_without_limit, IsTrueEntry, IsPaid, IsTrueMoment, IsChain}
use Rattle.wallet_promise.specs.WithoutNoise.{is_transfer}
use Rattle.wallet_promise.specs.BookLaws.{LegalIsChain, KeepsLedgerLimits, TellingIsLegal}
use Rattle.wallet_promise.proofs.Filters.{filter-on, filter-off, sum_by-part}
use Rattle.wallet_promise.proofs.Telling.{says_telling}
use Rattle.wallet_promise.proofs.Deeds.{clear_of, of_publish, few_calls}
use Rattle.wallet_promise.proofs.Funds.{Funds, funds, no_past}

-- The table with its first row, and without.

reply_is : (d : Deal) (a : ℕ) (h : List Entry) (p : ℕ) (c : Call) → history_reply d a h p c ≡ cond (is_full h p) SenderFull (reply_without_limit d a h p c)
unfolding rows
reply_is d a h p (Publish t) = refl
reply_is d a h p (Unlock key) = refl
reply_is d a h p Claim = refl
reply_is d a h p Refund = refl
reply_is d a h p (Transfer to units) = refl

abbrev is_other : Reply → Bool
is_other SenderFull = false
is_other _ = true

never_full : (rs : List (Bool × Reply)) → list_all (λ row. is_other row.1) rs ≡ true → is_other (first_row rs) ≡ true
never_full [] e = refl
never_full (row ∷ rs) e =
    let k = and_parts (is_other row.1) (list_all (λ row. is_other row.1) rs) e in go row.0 (first_row rs) k.0 (never_full rs k.1)
  where
    go : (b : Bool) (r : Reply) → is_other row.1 ≡ true → is_other r ≡ true → is_other (cond b row.1 r) ≡ true
    go true r x y = x
    go false r x y = y

room_left : (d : Deal) (a : ℕ) (h : List Entry) (p : ℕ) (c : Call) → is_other (reply_without_limit d a h p c) ≡ true
unfolding rows
room_left d a h p (Publish t) = never_full (drop 1 (rows d a h p (Publish t))) refl
room_left d a h p (Unlock key) = never_full (drop 1 (rows d a h p (Unlock key))) refl
room_left d a h p Claim = never_full (drop 1 (rows d a h p Claim)) refl
room_left d a h p Refund = never_full (drop 1 (rows d a h p Refund)) refl
room_left d a h p (Transfer to units) = never_full (drop 1 (rows d a h p (Transfer to units))) refl

-- The replies that speak of no balance.

abbrev contract_rows : Deal → ℕ → Option Publication → (ℕ → Bool) → Option Settlement → (at p : ℕ) → Call → List (Bool × Reply)
contract_rows d a o is_open s at p (Unlock key) = (is_none o, NoContract) ∷ unlock_rows d a (publication_terms o) is_open (is_some s) at p key
contract_rows d a o is_open s at p Claim = (is_none o, NoContract) ∷ claim_rows d a is_open (is_some s) p
contract_rows d a o is_open s at p Refund = (is_none o, NoContract) ∷ refund_rows d a (publication_terms o) is_open (is_some s) at p
contract_rows d a o is_open s at p (Publish t) = []
contract_rows d a o is_open s at p (Transfer to units) = []

abbrev contract_reply : Deal → ℕ → List Entry → ℕ → Call → Reply
contract_reply d a h p c = first_row (contract_rows d a (published h) (is_open h) (settled h) (height h) p c)

same_contract : (d : Deal) (v a : ℕ) (k h : List Entry) (p : ℕ) (c : Call) → SaysTheSame v k h → contract_reply d a k p c ≡ contract_reply d a h p c
same_contract d v a k h p c s =
    let same_open : is_open k ≡ is_open h = λ j i. is_some (s.opened i j) in
    ap (λ (x : Option Publication). first_row (contract_rows d a x (is_open k) (settled k) (height k) p c)) s.published
    ∙ (ap (λ (x : ℕ → Bool). first_row (contract_rows d a (published h) x (settled k) (height k) p c)) same_open
    ∙ (ap (λ (x : Option Settlement). first_row (contract_rows d a (published h) (is_open h) x (height k) p c)) s.settled
    ∙ ap (λ (x : ℕ). first_row (contract_rows d a (published h) (is_open h) (settled h) x p c)) s.height))

-- The reply to a publish.

abbrev publish_reply : (own published : Bool) (balance amount : ℕ) → Reply
publish_reply own there n m = cond (not own) NotParty (cond there AlreadyPublished (cond (nat_lt n m) (NoFunds n) Accepted))

publish_is : (d : Deal) (a : ℕ) (h : List Entry) (p : ℕ) (t : Terms)
    → reply_without_limit d a h p (Publish t) ≡ publish_reply (p == party d a) (is_some (published h)) (balance d a h p) t.amount
unfolding rows
publish_is d a h p t = refl

none_of : {A : Type 0} (o : Option A) → is_some o ≡ false → o ≡ None
none_of None e = refl
none_of (Some x) e = absurd (cc e)

module _ (d : Deal) (v a : ℕ) (h : List Entry) (f : Funds d v a h) where
  -- v's own publish is answered alike
  own_publish : (t : Terms) (x y : Bool) → (v == party d a) ≡ x → is_some (published h) ≡ y
      → publish_reply x y (balance d a (telling v h) v) t.amount ≡ publish_reply x y (balance d a h v) t.amount
  own_publish t false y e n = refl
  own_publish t true true e n = refl
  own_publish t true false e n =
      let none = none_of (published h) n in
      let same : accounts d a (telling v h) ≡ accounts d a h = f.fresh none ∙ sym (f.mine (eqb-true v (party d a) e) none) in
      ap (λ (b : Accounts). publish_reply true false (cond (v == party d a) b.party b.counterparty) t.amount) same

  -- an accepted publish is accepted
  still_published : (t : Terms) (p : ℕ) → p ≡ party d a → is_some (published h) ≡ false → t.amount ≤ balance d a h p
      → reply_without_limit d a (telling v h) p (Publish t) ≡ Accepted
  still_published t p e n funds =
      let none = none_of (published h) n in
      let mine : (p == party d a) ≡ true = eq-eqb p (party d a) e in
      let whole : t.amount ≤ (accounts d a h).party =
      subst (λ b. t.amount ≤ cond b (accounts d a h).party (accounts d a h).counterparty) mine funds in
      let total = f.total none in
      let all : (accounts d a (telling v h)).party ≡ amount d a = ap (λ (b : Accounts). b.party) (f.fresh none) in
      let has : balance d a (telling v h) p ≡ amount d a =
      ap (λ b. cond b (accounts d a (telling v h)).party (accounts d a (telling v h)).counterparty) mine ∙ all in
      let told : is_some (published (telling v h)) ≡ false = ap (λ o. is_some o) (says_telling v h).published ∙ n in
      let pays : nat_lt (balance d a (telling v h) p) t.amount ≡ false = le-ltb (balance d a (telling v h) p) t.amount (omega arith) in
      publish_is d a (telling v h) p t
      ∙ (ap₂ (λ x y. publish_reply x y (balance d a (telling v h) p) t.amount) mine told ∙ ap (λ b. cond b (NoFunds (balance d a (telling v h) p)) Accepted) pays)

  -- a call that is told has its reply
  told_reply : (p : ℕ) (c : Call) (r : Reply) → r ≡ reply_without_limit d a h p c → (p ≡ v) ⊎ (r ≡ Accepted)
      → (is_transfer (Some c) ≡ true → ⊥) → r ≡ reply_without_limit d a (telling v h) p c
  unfolding rows
  told_reply p (Unlock key) r e w calm = e ∙ sym (same_contract d v a (telling v h) h p (Unlock key) (says_telling v h))
  told_reply p Claim r e w calm = e ∙ sym (same_contract d v a (telling v h) h p Claim (says_telling v h))
  told_reply p Refund r e w calm = e ∙ sym (same_contract d v a (telling v h) h p Refund (says_telling v h))
  told_reply p (Transfer to units) r e w calm = absurd (calm refl)
  told_reply p (Publish t) r e (inl q) calm =
      let there : is_some (published (telling v h)) ≡ is_some (published h) = ap (λ o. is_some o) (says_telling v h).published in
      subst (λ z. r ≡ reply_without_limit d a h z (Publish t) → r ≡ reply_without_limit d a (telling v h) z (Publish t)) (sym q)
      (λ e. e ∙ (publish_is d a h v t ∙ (sym (own_publish t (v == party d a) (is_some (published h)) refl refl)
      ∙ (ap (λ y. publish_reply (v == party d a) y (balance d a (telling v h) v) t.amount) (sym there) ∙ sym (publish_is d a (telling v h) v t))))) e
  told_reply p (Publish t) r e (inr q) calm =
      let k = of_publish d a h p t (clear_of d a h p (Publish t) (sym e ∙ q)) in q ∙ sym (still_published t p k.0 k.1 k.2)

-- Who made a call that is told.

who : (v p : ℕ) (c : Call) (r : Reply) → ((p == v) || is_of_contract (accepted_call (Made c) r)) ≡ true
    → (p == v) ≡ true ⊎ (is_of_contract (accepted_call (Made c) r) ≡ true)
who v p c r t = go (p == v) refl t
  where
    go : (b : Bool) → (p == v) ≡ b → (b || is_of_contract (accepted_call (Made c) r)) ≡ true → (p == v) ≡ true ⊎ (is_of_contract (accepted_call (Made c) r) ≡ true)
    go true e k = inl e
    go false e k = inr k

accepts : (c : Call) (r : Reply) → is_of_contract (accepted_call (Made c) r) ≡ true → (r ≡ Accepted) × (is_of_contract (Some c) ≡ true)
accepts c Accepted e = (refl, e)
accepts c _ e = absurd (cc e)

no_contract_transfer : (c : Call) → is_of_contract (Some c) ≡ true → is_transfer (Some c) ≡ true → ⊥
no_contract_transfer (Publish t) e k = cc k
no_contract_transfer (Unlock key) e k = cc k
no_contract_transfer Claim e k = cc k
no_contract_transfer Refund e k = cc k
no_contract_transfer (Transfer to units) e k = cc e

module _ (d : Deal) (v a : ℕ) (leaders : length d.leaders ≤ 8) where
  -- the entry that is told is legal after what is told
  told_entry : (h : List Entry) (s : Sender) (w : What) (at : ℕ) (r : Reply) → IsTrueEntry d a h s w at r
      → (is_ticking w || is_sender v s || is_of_contract (accepted_call w r)) ≡ true
      → is_transfer (cond (is_sender v s) (made_call w) None) ≡ false → IsChain d v a h → Funds d v a h
      → total_calls v h + cond (is_sender v s) 1 0 ≤ 32 → run_ticks h + cond (is_tick s) 1 0 ≤ 20000 → height h + entry_ticks w ≤ 1000000
      → IsLegalEntry d a (telling v h) s w at r
  told_entry h (Party p) (Made c) at r t told calm l f calls ticks low = record {
    of_the_two = t.of_the_two;
    fits = t.fits;
    height = t.height ∙ sym (says_telling v h).height;
    reply = reply ∙ sym (reply_is d a (telling v h) p c ∙ ap (λ b. cond b SenderFull (reply_without_limit d a (telling v h) p c)) free);
    room = λ q. false≢true (sym (ap is_other q) ∙ (ap is_other reply ∙ room_left d a (telling v h) p c));
  }
    where
      by : (p == v) ≡ true ⊎ (is_of_contract (accepted_call (Made c) r) ≡ true)
      by = who v p c r told

      reply : r ≡ reply_without_limit d a (telling v h) p c
      reply = go by
        where
          go : (p == v) ≡ true ⊎ (is_of_contract (accepted_call (Made c) r) ≡ true) → r ≡ reply_without_limit d a (telling v h) p c
          go (inl e) =
              told_reply d v a h f p c r t.reply (inl (eqb-true p v e))
              (λ k. false≢true (sym calm ∙ (ap (λ b. is_transfer (cond b (Some c) None)) e ∙ k)))
          go (inr e) =
              let q = accepts c r e in told_reply d v a h f p c r t.reply (inr q.0) (λ k. no_contract_transfer c q.1 k)

      free : is_full (telling v h) p ≡ false
      free = go (p == v) refl
        where
          go : (b : Bool) → (p == v) ≡ b → is_full (telling v h) p ≡ false
          go true e =
              let one : ◌≡◌ {A = ℕ} (cond (p == v) 1 0) 1 = ap (λ b. cond {A = ℕ} b 1 0) e in
              let same : total_calls p (telling v h) ≡ total_calls v (telling v h) = ap (λ n. total_calls n (telling v h)) (eqb-true p v e) in
              let part : total_calls v (telling v h) ≤ total_calls v h = sum_by-part (is_told v) (λ e. cond (is_sender v e.sender) 1 0) h in
              lt-leb 32 (total_calls p (telling v h)) (omega arith)
          go false e =
              let few = few_calls d v a p (λ q. false≢true (sym e ∙ eq-eqb p v q)) h l in lt-leb 32 (total_calls p (telling v h)) (omega arith)
  told_entry h Clock (Tick k) at r t told calm l f calls ticks low =
      let says = (says_telling v h).height in
      let part : run_ticks (telling v h) ≤ run_ticks h = sum_by-part (is_told v) (λ e. cond (is_tick e.sender) 1 0) h in
      let few : nat_le 20000 (run_ticks (telling v h)) ≡ false = lt-leb 20000 (run_ticks (telling v h)) (omega arith) in
      let below : nat_lt 1000000 (height (telling v h) + k) ≡ false = le-ltb 1000000 (height (telling v h) + k) (omega arith) in
      record {
        some = t.some;
        below = omega arith;
        height = t.height ∙ ap (λ n. n + k) (sym says);
        reply = t.reply ∙ sym (ap₂ (λ x y. cond (x || y) ClockFull Accepted) few below);
        room = λ q. cc (sym t.reply ∙ q);
      }
  told_entry h (Party p) (Tick k) at r t told calm l f calls ticks low = absurd t
  told_entry h Clock (Made c) at r t told calm l f calls ticks low = absurd t

  abbrev Stays : List Entry → Type 0
  Stays h = IsChain d v a h → KeepsLedgerLimits v h → IsLegal d a (telling v h)

  step : (h : List Entry) (x : Entry) (b : Bool) → is_told v x ≡ b → IsTrueMoment d v a (record { past = h; now = x }) → IsChain d v a h
      → KeepsLedgerLimits v (h ++ x ∷ []) → IsLegal d a (telling v h) → IsLegal d a (telling v (h ++ x ∷ []))
  step h x true t m l in_bounds legal =
      let calls = in_bounds.calls in
      let ticks = in_bounds.ticks in
      let low = in_bounds.height in
      subst (IsLegal d a) (sym (filter-on (is_told v) h x t))
      (all_moments_push (IsLegalMoment d a) (telling v h) x legal
      (told_entry h x.sender x.what x.height x.reply (m.told t) t (in_bounds.transfers h x ([], refl)) l
      (funds d v a h l (no_past d v a h x in_bounds.transfers)) (omega (arith, calls-push h x v)) (omega (arith, ticks-push h x))
      (omega (arith, height-push h x))))
  step h x false t m l in_bounds legal = subst (IsLegal d a) (sym (filter-off (is_told v) h x t)) legal

  within_past : (h : List Entry) (x : Entry) → KeepsLedgerLimits v (h ++ x ∷ []) → KeepsLedgerLimits v h
  within_past h x w =
      let calls = w.calls in
      let ticks = w.ticks in
      let low = w.height in
      record {
        calls = omega (arith, calls-push h x v);
        ticks = omega (arith, ticks-push h x);
        height = omega (arith, height-push h x);
        transfers = no_past d v a h x w.transfers;
      }

  pub stays_legal : (h : List Entry) → Stays h
  stays_legal h =
      grow Stays h (λ l w. tt)
      (λ xs x rest l w. let before = all_moments_front (IsTrueMoment d v a) xs (x ∷ []) l in
      step xs x (is_told v x) refl (at_moment (IsTrueMoment d v a) (xs ++ x ∷ []) xs x l ([], refl)) before w (rest before (within_past xs x w)))

pub telling_is_legal : TellingIsLegal
telling_is_legal d v a h few l w = stays_legal d v a few h l w

-- A legal history is one of a chain without limits.

without_first : (b : Bool) (r x : Reply) → r ≡ cond b SenderFull x → r ≢ SenderFull → r ≡ x
without_first true r x e n = absurd (n e)
without_first false r x e n = e

tick_accepts : (b : Bool) (r : Reply) → r ≡ cond b ClockFull Accepted → r ≢ ClockFull → r ≡ Accepted
tick_accepts true r e n = absurd (n e)
tick_accepts false r e n = e

true_entry : (d : Deal) (a : ℕ) (h : List Entry) (s : Sender) (w : What) (at : ℕ) (r : Reply) → IsLegalEntry d a h s w at r → IsTrueEntry d a h s w at r
true_entry d a h (Party p) (Made c) at r l = record {
  of_the_two = l.of_the_two;
  fits = l.fits;
  height = l.height;
  reply = without_first (is_full h p) r (reply_without_limit d a h p c) (l.reply ∙ reply_is d a h p c) l.room;
}
true_entry d a h Clock (Tick k) at r l =
    record { some = l.some; height = l.height; reply = tick_accepts (is_clock_full h k) r l.reply l.room }
true_entry d a h (Party p) (Tick k) at r l = absurd l
true_entry d a h Clock (Made c) at r l = absurd l

paid : (d : Deal) (a : ℕ) (whole h : List Entry) (e : Entry) (o : Option Call) → accepted e ≡ o → IsLegal d a whole → IsMoment whole h e
    → IsPaid d a h e.sender o
paid d a whole h e None k l m = tt
paid d a whole h e (Some (Publish t)) k l m = tt
paid d a whole h e (Some (Unlock key)) k l m = tt
paid d a whole h e (Some Claim) k l m = tt
paid d a whole h e (Some Refund) k l m = tt
paid d a whole h e (Some (Transfer to units)) k l m =
    let c = clear_at d a whole h e (Transfer to units) l m k in
    subst (λ s. units ≤ cond (is_party d a s) (accounts d a h).party (accounts d a h).counterparty) (sym c.0.sender)
    (of_transfer d a h c.0.by to units c.1)

pub legal_is_chain : LegalIsChain
legal_is_chain d v a h =
    grow (λ h. IsLegal d a h → IsChain d v a h) h (λ l. tt)
    (λ xs x rest l. all_moments_push (IsTrueMoment d v a) xs x (rest (all_moments_front (IsLegalMoment d a) xs (x ∷ []) l))
    (record {
      told = λ t. true_entry d a xs x.sender x.what x.height x.reply (at_moment (IsLegalMoment d a) (xs ++ x ∷ []) xs x l ([], refl));
      paid = paid d a (xs ++ x ∷ []) xs x (accepted x) refl l ([], refl);
    }))
