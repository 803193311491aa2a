-- A history without the publishes of a party for which funds were lacking: it reads the same, but
-- for its calls, and where it was legal it is legal.
use Rattle.std.proofs.Common.{◌≡◌, ℕ, ◌+◌, ◌<◌, ◌≤◌, ◌==◌, ◌&&◌, nat_le, nat_lt, Bool, true, false, cond, not, ◌||◌, List, [], ◌∷◌, ◌++◌, filter, fold, map, zero, suc, Option, None}
use Rattle.std.proofs.Common.{is_some, is_none, refl, sym, ap, ap₂, ◌∙◌, subst, arith}
use Rattle.std.proofs.lemmas.Bool.{false≢true, lt-leb}
use Rattle.swap_base.specs.Lists.{or_else, first_given_answer}
use Rattle.swap_base.proofs.Lists.{all_moments_front, all_moments_push, at_moment, grow}
use Rattle.swap_digraph.specs.declared.deal.Deal.{Deal}
use Rattle.swap_digraph.specs.Deal.{party}
use Rattle.escrow_core.specs.declared.reply.Reply.{Reply}
use Rattle.escrow_core.specs.declared.reply.Reply.TheVariants.{Accepted, NotParty, NoContract, AlreadyPublished, NoFunds, SenderFull, ClockFull}
use Rattle.escrow_core.specs.Table.{first_row, unlock_rows, claim_rows, refund_rows}
use Rattle.ledger_core.specs.declared.accounts.Accounts.{Accounts}
use Rattle.ledger_core.specs.declared.entry.Call.{Call}
use Rattle.ledger_core.specs.declared.entry.Call.TheVariants.{Publish, Unlock, Claim, Refund, Transfer}
use Rattle.ledger_core.specs.declared.entry.What.{What}
use Rattle.ledger_core.specs.declared.entry.What.TheVariants.{Call as Made, Tick}
use Rattle.ledger_core.specs.declared.entry.Sender.{Sender}
use Rattle.ledger_core.specs.declared.entry.Sender.TheVariants.{Party, Clock}
use Rattle.ledger_core.specs.declared.entry.Entry.{Entry}
use Rattle.ledger_core.specs.declared.facts.Settlement.{Settlement}
use Rattle.ledger_core.specs.History.{entry_ticks, height, made_call, accepted, accepted_call, Publication, publication, publication_terms, opening_accounts, moved, accounts}
use Rattle.ledger_core.specs.History.{published, opened, opening, settling, is_open, settled, is_sender, is_tick, rows, history_reply, IsLegalEntry, IsLegalMoment, IsLegal}
use Rattle.ledger_core.specs.Book.{Histories, history}
use Rattle.ledger_core.proofs.Bounds.{total_calls, run_ticks, room_of}
use Rattle.swap_rules.specs.Party.{pick_call}
use Rattle.swap_rules.specs.Conduct.{is_publish}
use Rattle.swap_rules.specs.Counted.{counted, is_passed}
use Rattle.wallet_promise.proofs.Filters.{filter-on, filter-off, sum_by-part, sum_by-filter}
use Rattle.wallet_promise.specs.WithoutNoise.{is_told, telling}
use Rattle.wallet_promise.proofs.Noise.{filters-swap}
use Rattle.program_laws.specs.Enough.{all_funded, funded, is_for_want_of_funds, is_unfunded}

-- ---- a publish for which funds were lacking

both_hold : (a b : Bool) → not (a && b) ≡ false → (a ≡ true) × (b ≡ true)
both_hold true true e = (refl, refl)
both_hold true false e = absurd (false≢true (sym e))
both_hold false b e = absurd (false≢true (sym e))

lacking : (w : What) (r : Reply) → is_for_want_of_funds r ≡ true → accepted_call w r ≡ None
lacking (Tick k) r e = refl
lacking (Made c) (NoFunds n) e = refl
lacking (Made c) _ e = absurd (false≢true e)

pub not_accepted : (v : ℕ) (e : Entry) → not (is_unfunded v e) ≡ false → accepted e ≡ None
not_accepted v e h = lacking e.what e.reply (both_hold (is_publish (pick_call v e)) (is_for_want_of_funds e.reply) h).1

tickless : (v : ℕ) (e : Entry) → not (is_unfunded v e) ≡ false → entry_ticks e.what ≡ 0
tickless v e h = go e.what (is_sender v e.sender) (both_hold (is_publish (pick_call v e)) (is_for_want_of_funds e.reply) h).0
  where
    go : (t : What) (b : Bool) → is_publish (cond b (made_call t) None) ≡ true → entry_ticks t ≡ 0
    go (Made c) b e = refl
    go (Tick n) true e = absurd (false≢true e)
    go (Tick n) false e = absurd (false≢true e)

tickless_sender : (v : ℕ) (e : Entry) → not (is_unfunded v e) ≡ false → is_tick e.sender ≡ false
tickless_sender v e h = go e.sender (both_hold (is_publish (pick_call v e)) (is_for_want_of_funds e.reply) h).0
  where
    go : (s : Sender) → is_publish (cond (is_sender v s) (made_call e.what) None) ≡ true → is_tick s ≡ false
    go (Party q) t = refl
    go Clock t = absurd (false≢true t)

-- ---- what is read of a history

-- a filter that drops only what has no answer keeps the first answer
first_kept : {A B : Type 0} (p : A → Bool) (f : A → Option B) (xs : List A) → ((x : A) → p x ≡ false → f x ≡ None)
    → first_given_answer f (filter p xs) ≡ first_given_answer f xs
first_kept p f [] h = refl
first_kept p f (x ∷ xs) h = go (p x) refl (first_kept p f xs h)
  where
    go : (b : Bool) → p x ≡ b → first_given_answer f (filter p xs) ≡ first_given_answer f xs
        → first_given_answer f (filter p (x ∷ xs)) ≡ first_given_answer f (x ∷ xs)
    go true e r = rw e (ap (or_else (f x)) r)
    go false e r = rw e (r ∙ ap (λ o. or_else o (first_given_answer f xs)) (sym (h x e)))

same_fold : {A B : Type 0} (p : A → Bool) (f : B → A → B) (xs : List A) (s : B) → ((t : B) (x : A) → p x ≡ false → f t x ≡ t)
    → fold f s (filter p xs) ≡ fold f s xs
same_fold {B = B} p f [] s h = refl
same_fold {B = B} p f (x ∷ xs) s h = go (p x) refl (λ t. same_fold p f xs t h)
  where
    go : (b : Bool) → p x ≡ b → ((t : B) → fold f t (filter p xs) ≡ fold f t xs) → fold f s (filter p (x ∷ xs)) ≡ fold f s (x ∷ xs)
    go true e r = ap (λ c. fold f s (cond c (x ∷ filter p xs) (filter p xs))) e ∙ r (f s x)
    go false e r =
        ap (λ c. fold f s (cond c (x ∷ filter p xs) (filter p xs))) e ∙ (r s ∙ ap (λ t. fold f t xs) (sym (h s x e)))

same_height : (v : ℕ) (h : List Entry) → height (funded v h) ≡ height h
same_height v h = sum_by-filter (λ e. not (is_unfunded v e)) (λ e. entry_ticks e.what) h (tickless v)

pub same_published : (v : ℕ) (h : List Entry) → published (funded v h) ≡ published h
same_published v h =
    first_kept (λ e. not (is_unfunded v e)) (λ e. publication e.height (accepted e)) h (λ e q. ap (publication e.height) (not_accepted v e q))

same_opened : (v : ℕ) (h : List Entry) (i : ℕ) → opened (funded v h) i ≡ opened h i
same_opened v h i =
    first_kept (λ e. not (is_unfunded v e)) (λ e. opening i e.height (accepted e)) h (λ e q. ap (opening i e.height) (not_accepted v e q))

same_settled : (v : ℕ) (h : List Entry) → settled (funded v h) ≡ settled h
same_settled v h = first_kept (λ e. not (is_unfunded v e)) (λ e. settling (accepted e)) h (λ e q. ap settling (not_accepted v e q))

same_accounts : (d : Deal) (v a : ℕ) (h : List Entry) → accounts d a (funded v h) ≡ accounts d a h
same_accounts d v a h =
    same_fold (λ e. not (is_unfunded v e)) (λ b e. moved d a b e.sender (accepted e)) h (opening_accounts d a)
    (λ t e q. ap (λ o. moved d a t e.sender o) (not_accepted v e q))

same_ticks : (v : ℕ) (h : List Entry) → run_ticks (funded v h) ≡ run_ticks h
same_ticks v h =
    sum_by-filter (λ e. not (is_unfunded v e)) (λ e. cond (is_tick e.sender) 1 0) h (λ e q. ap (λ b. cond {A = ℕ} b 1 0) (tickless_sender v e q))

fewer_calls : (v p : ℕ) (h : List Entry) → total_calls p (funded v h) ≤ total_calls p h
fewer_calls v p h = sum_by-part (λ e. not (is_unfunded v e)) (λ e. cond (is_sender p e.sender) 1 0) h

-- ---- replies

abbrev balance_in : Deal → ℕ → Accounts → ℕ → ℕ
balance_in d a b p = cond (p == party d a) b.party b.counterparty

abbrev all_rows : Deal → ℕ → Accounts → Option Publication → (ℕ → Bool) → Option Settlement → (full : Bool) → (at p : ℕ) → Call → List (Bool × Reply)
all_rows d a b o is_open s full at p (Publish terms) =
    (full, SenderFull) ∷ (not (p == party d a), NotParty) ∷ (is_some o, AlreadyPublished)
    ∷ (nat_lt (balance_in d a b p) terms.amount, NoFunds (balance_in d a b p)) ∷ []
all_rows d a b o is_open s full at p (Unlock key) =
    (full, SenderFull) ∷ (is_none o, NoContract) ∷ unlock_rows d a (publication_terms o) is_open (is_some s) at p key
all_rows d a b o is_open s full at p Claim = (full, SenderFull) ∷ (is_none o, NoContract) ∷ claim_rows d a is_open (is_some s) p
all_rows d a b o is_open s full at p Refund =
    (full, SenderFull) ∷ (is_none o, NoContract) ∷ refund_rows d a (publication_terms o) is_open (is_some s) at p
all_rows d a b o is_open s full at p (Transfer to units) =
    (full, SenderFull) ∷ (nat_lt (balance_in d a b p) units, NoFunds (balance_in d a b p)) ∷ []

rows_are : (d : Deal) (a : ℕ) (h : List Entry) (p : ℕ) (c : Call)
    → rows d a h p c ≡ all_rows d a (accounts d a h) (published h) (is_open h) (settled h) (nat_le 32 (total_calls p h)) (height h) p c
unfolding rows
rows_are d a h p (Publish terms) = refl
rows_are d a h p (Unlock key) = refl
rows_are d a h p Claim = refl
rows_are d a h p Refund = refl
rows_are d a h p (Transfer to units) = refl

-- where there is room the reply is the same
same_reply : (d : Deal) (v a : ℕ) (h : List Entry) (p : ℕ) (c : Call) → total_calls p h < 32
    → history_reply d a (funded v h) p c ≡ history_reply d a h p c
same_reply d v a h p c room =
    let k = funded v h in
    let fewer = fewer_calls v p h in
    let free : nat_le 32 (total_calls p h) ≡ false = lt-leb 32 (total_calls p h) (omega arith) in
    let free_k : nat_le 32 (total_calls p (funded v h)) ≡ false = lt-leb 32 (total_calls p (funded v h)) (omega arith) in
    let same_open : is_open k ≡ is_open h = λ j i. is_some (same_opened v h i j) in
    ap first_row (rows_are d a k p c
    ∙ (ap (λ (x : Accounts). all_rows d a x (published k) (is_open k) (settled k) (nat_le 32 (total_calls p k)) (height k) p c) (same_accounts d v a h)
    ∙ (ap (λ (x : Option Publication). all_rows d a (accounts d a h) x (is_open k) (settled k) (nat_le 32 (total_calls p k)) (height k) p c) (same_published v h)
    ∙ (ap (λ (x : ℕ → Bool). all_rows d a (accounts d a h) (published h) x (settled k) (nat_le 32 (total_calls p k)) (height k) p c) same_open
    ∙ (ap (λ (x : Option Settlement). all_rows d a (accounts d a h) (published h) (is_open h) x (nat_le 32 (total_calls p k)) (height k) p c) (same_settled v h)
    ∙ (ap (λ (x : Bool). all_rows d a (accounts d a h) (published h) (is_open h) (settled h) x (height k) p c) (free_k ∙ sym free)
    ∙ (ap (λ (x : ℕ). all_rows d a (accounts d a h) (published h) (is_open h) (settled h) (nat_le 32 (total_calls p h)) x p c) (same_height v h)
    ∙ sym (rows_are d a h p c))))))))

-- ---- a legal history stays legal

module _ (d : Deal) (v a : ℕ) where
  funded_entry : (h : List Entry) (s : Sender) (w : What) (at : ℕ) (r : Reply) → IsLegalEntry d a h s w at r → IsLegalEntry d a (funded v h) s w at r
  funded_entry h (Party p) (Made c) at r t = record {
    of_the_two = t.of_the_two;
    fits = t.fits;
    height = t.height ∙ sym (same_height v h);
    reply = t.reply ∙ sym (same_reply d v a h p c (room_of d a h p c r t.reply t.room));
    room = t.room;
  }
  funded_entry h Clock (Tick k) at r t = record {
    some = t.some;
    below = t.below;
    height = t.height ∙ ap (λ n. n + k) (sym (same_height v h));
    reply =
        t.reply ∙ sym (ap₂ (λ (n m : ℕ). cond (nat_le 20000 n || nat_lt 1000000 (m + k)) ClockFull Accepted) (same_ticks v h) (same_height v h));
    room = t.room;
  }
  funded_entry h (Party p) (Tick k) at r t = absurd t
  funded_entry h Clock (Made c) at r t = absurd t

  step : (h : List Entry) (x : Entry) (b : Bool) → not (is_unfunded v x) ≡ b → IsLegalEntry d a h x.sender x.what x.height x.reply
      → IsLegal d a (funded v h) → IsLegal d a (funded v (h ++ x ∷ []))
  step h x true t m legal =
      subst (IsLegal d a) (sym (filter-on (λ e. not (is_unfunded v e)) h x t))
      (all_moments_push (IsLegalMoment d a) (funded v h) x legal (funded_entry h x.sender x.what x.height x.reply m))
  step h x false t m legal = subst (IsLegal d a) (sym (filter-off (λ e. not (is_unfunded v e)) h x t)) legal

  pub funded_is_legal : (h : List Entry) → IsLegal d a h → IsLegal d a (funded v h)
  funded_is_legal h =
      grow (λ h. IsLegal d a h → IsLegal d a (funded v h)) h (λ l. tt)
      (λ xs x rest l. step xs x (not (is_unfunded v x)) refl (at_moment (IsLegalMoment d a) (xs ++ x ∷ []) xs x l ([], refl))
      (rest (all_moments_front (IsLegalMoment d a) xs (x ∷ []) l)))

-- ---- what counts of a history that is told

pub funded_before : (v : ℕ) (h : List Entry) → funded v (counted v (telling v h)) ≡ counted v (telling v (funded v h))
funded_before v h =
    filters-swap (λ e. not (is_unfunded v e)) (λ e. not (is_passed v e)) (telling v h)
    ∙ ap (counted v) (filters-swap (λ e. not (is_unfunded v e)) (is_told v) h)

history_map : (f : List Entry → List Entry) → f [] ≡ [] → (b : Histories) (a : ℕ) → history (map f b) a ≡ f (history b a)
history_map f z [] a = sym z
history_map f z (h ∷ b) zero = refl
history_map f z (h ∷ b) (suc a) = history_map f z b a

pub funded_is : (v : ℕ) (b : Histories) (a : ℕ) → history (all_funded v b) a ≡ funded v (history b a)
funded_is v b a = history_map (funded v) refl b a
