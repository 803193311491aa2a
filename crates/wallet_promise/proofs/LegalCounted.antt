-- A legal history is legal without a party's refused unlocks, claims and refunds.
use Rattle.std.proofs.Common.{◌≡◌, ℕ, ◌+◌, ◌<◌, ◌≤◌, ◌==◌, nat_le, nat_lt, Bool, true, false, cond, not, ◌||◌, List, [], ◌∷◌, ◌++◌, filter, fold, Option, None}
use Rattle.std.proofs.Common.{is_some, is_none, refl, sym, ap, ap₂, ◌∙◌, subst, arith}
use Rattle.std.proofs.lemmas.Bool.{false≢true, lt-leb}
use Rattle.swap_base.proofs.Lists.{all_moments_front, all_moments_push, at_moment, grow}
use Rattle.swap_digraph.specs.declared.deal.Deal.{Deal}
use Rattle.swap_digraph.specs.Deal.{party}
use Rattle.escrow_core.specs.declared.reply.Reply.{Reply}
use Rattle.escrow_core.specs.declared.reply.Reply.TheVariants.{Accepted, NotParty, NoContract, AlreadyPublished, NoFunds, SenderFull, ClockFull}
use Rattle.escrow_core.specs.Table.{first_row, unlock_rows, claim_rows, refund_rows}
use Rattle.ledger_core.specs.declared.accounts.Accounts.{Accounts}
use Rattle.ledger_core.specs.declared.entry.Call.{Call}
use Rattle.ledger_core.specs.declared.entry.Call.TheVariants.{Publish, Unlock, Claim, Refund, Transfer}
use Rattle.ledger_core.specs.declared.entry.What.{What}
use Rattle.ledger_core.specs.declared.entry.What.TheVariants.{Call as Made, Tick}
use Rattle.ledger_core.specs.declared.entry.Sender.{Sender}
use Rattle.ledger_core.specs.declared.entry.Sender.TheVariants.{Party, Clock}
use Rattle.ledger_core.specs.declared.entry.Entry.{Entry}
use Rattle.ledger_core.specs.declared.facts.Settlement.{Settlement}
use Rattle.ledger_core.specs.History.{height, made_call, accepted, Publication, publication_terms, opening_accounts, moved, accounts, published, is_open}
use Rattle.ledger_core.specs.History.{settled, is_sender, is_tick, rows, history_reply, IsLegalEntry, IsLegalMoment, IsLegal}
use Rattle.ledger_core.proofs.Bounds.{total_calls, run_ticks, room_of}
use Rattle.swap_rules.specs.Party.{pick_call}
use Rattle.swap_rules.specs.Counted.{may_repeat, is_passed, counted}
use Rattle.swap_rules.proofs.Counted.{counted_reads, not_accepted, passed_parts}
use Rattle.wallet_promise.specs.WithoutNoise.{telling}
use Rattle.wallet_promise.proofs.Filters.{filter-on, filter-off, sum_by-part, sum_by-filter}
use Rattle.wallet_promise.proofs.Legal.{telling_is_legal}
use Rattle.wallet_promise.specs.Retrying.{CountedIsLegal, CountedToldIsLegal}

abbrev balance_in : Deal → ℕ → Accounts → ℕ → ℕ
balance_in d a b p = cond (p == party d a) b.party b.counterparty

abbrev all_rows : Deal → ℕ → Accounts → Option Publication → (ℕ → Bool) → Option Settlement → (full : Bool) → (at p : ℕ) → Call → List (Bool × Reply)
all_rows d a b o is_open s full at p (Publish terms) =
    (full, SenderFull) ∷ (not (p == party d a), NotParty) ∷ (is_some o, AlreadyPublished)
    ∷ (nat_lt (balance_in d a b p) terms.amount, NoFunds (balance_in d a b p)) ∷ []
all_rows d a b o is_open s full at p (Unlock key) =
    (full, SenderFull) ∷ (is_none o, NoContract) ∷ unlock_rows d a (publication_terms o) is_open (is_some s) at p key
all_rows d a b o is_open s full at p Claim = (full, SenderFull) ∷ (is_none o, NoContract) ∷ claim_rows d a is_open (is_some s) p
all_rows d a b o is_open s full at p Refund =
    (full, SenderFull) ∷ (is_none o, NoContract) ∷ refund_rows d a (publication_terms o) is_open (is_some s) at p
all_rows d a b o is_open s full at p (Transfer to units) =
    (full, SenderFull) ∷ (nat_lt (balance_in d a b p) units, NoFunds (balance_in d a b p)) ∷ []

rows_are : (d : Deal) (a : ℕ) (h : List Entry) (p : ℕ) (c : Call)
    → rows d a h p c ≡ all_rows d a (accounts d a h) (published h) (is_open h) (settled h) (nat_le 32 (total_calls p h)) (height h) p c
unfolding rows
rows_are d a h p (Publish terms) = refl
rows_are d a h p (Unlock key) = refl
rows_are d a h p Claim = refl
rows_are d a h p Refund = refl
rows_are d a h p (Transfer to units) = refl

-- Accounts.

same_fold : {A B : Type 0} (p : A → Bool) (f : B → A → B) (xs : List A) (s : B) → ((t : B) (x : A) → p x ≡ false → f t x ≡ t)
    → fold f s (filter p xs) ≡ fold f s xs
same_fold {B = B} p f [] s h = refl
same_fold {B = B} p f (x ∷ xs) s h = go (p x) refl (λ t. same_fold p f xs t h)
  where
    go : (b : Bool) → p x ≡ b → ((t : B) → fold f t (filter p xs) ≡ fold f t xs) → fold f s (filter p (x ∷ xs)) ≡ fold f s (x ∷ xs)
    go true e r = ap (λ c. fold f s (cond c (x ∷ filter p xs) (filter p xs))) e ∙ r (f s x)
    go false e r =
        ap (λ c. fold f s (cond c (x ∷ filter p xs) (filter p xs))) e ∙ (r s ∙ ap (λ t. fold f t xs) (sym (h s x e)))

same_accounts : (d : Deal) (v a : ℕ) (h : List Entry) → accounts d a (counted v h) ≡ accounts d a h
same_accounts d v a h =
    same_fold (λ e. not (is_passed v e)) (λ b e. moved d a b e.sender (accepted e)) h (opening_accounts d a)
    (λ t e q. ap (λ o. moved d a t e.sender o) (not_accepted v e q))

-- a call of v is no tick of the clock
tickless_sender : (v : ℕ) (e : Entry) → not (is_passed v e) ≡ false → is_tick e.sender ≡ false
tickless_sender v e h = go e.sender (passed_parts (may_repeat (pick_call v e)) (is_none (accepted e)) h).0
  where
    go : (s : Sender) → may_repeat (cond (is_sender v s) (made_call e.what) None) ≡ true → is_tick s ≡ false
    go (Party q) t = refl
    go Clock t = absurd (false≢true t)

same_ticks : (v : ℕ) (h : List Entry) → run_ticks (counted v h) ≡ run_ticks h
same_ticks v h =
    sum_by-filter (λ e. not (is_passed v e)) (λ e. cond (is_tick e.sender) 1 0) h (λ e q. ap (λ b. cond {A = ℕ} b 1 0) (tickless_sender v e q))

fewer_calls : (v p : ℕ) (h : List Entry) → total_calls p (counted v h) ≤ total_calls p h
fewer_calls v p h = sum_by-part (λ e. not (is_passed v e)) (λ e. cond (is_sender p e.sender) 1 0) h

-- where there is room the reply is the same
same_reply : (d : Deal) (v a : ℕ) (h : List Entry) (p : ℕ) (c : Call) → total_calls p h < 32
    → history_reply d a (counted v h) p c ≡ history_reply d a h p c
same_reply d v a h p c room =
    let k = counted v h in
    let s = counted_reads v h in
    let fewer = fewer_calls v p h in
    let free : nat_le 32 (total_calls p h) ≡ false = lt-leb 32 (total_calls p h) (omega arith) in
    let free_k : nat_le 32 (total_calls p (counted v h)) ≡ false = lt-leb 32 (total_calls p (counted v h)) (omega arith) in
    let same_open : is_open k ≡ is_open h = λ j i. is_some (s.opened i j) in
    ap first_row (rows_are d a k p c
    ∙ (ap (λ (x : Accounts). all_rows d a x (published k) (is_open k) (settled k) (nat_le 32 (total_calls p k)) (height k) p c) (same_accounts d v a h)
    ∙ (ap (λ (x : Option Publication). all_rows d a (accounts d a h) x (is_open k) (settled k) (nat_le 32 (total_calls p k)) (height k) p c) s.published
    ∙ (ap (λ (x : ℕ → Bool). all_rows d a (accounts d a h) (published h) x (settled k) (nat_le 32 (total_calls p k)) (height k) p c) same_open
    ∙ (ap (λ (x : Option Settlement). all_rows d a (accounts d a h) (published h) (is_open h) x (nat_le 32 (total_calls p k)) (height k) p c) s.settled
    ∙ (ap (λ (x : Bool). all_rows d a (accounts d a h) (published h) (is_open h) (settled h) x (height k) p c) (free_k ∙ sym free)
    ∙ (ap (λ (x : ℕ). all_rows d a (accounts d a h) (published h) (is_open h) (settled h) (nat_le 32 (total_calls p h)) x p c) s.height
    ∙ sym (rows_are d a h p c))))))))

module _ (d : Deal) (v a : ℕ) where
  counted_entry : (h : List Entry) (s : Sender) (w : What) (at : ℕ) (r : Reply) → IsLegalEntry d a h s w at r → IsLegalEntry d a (counted v h) s w at r
  counted_entry h (Party p) (Made c) at r t = record {
    of_the_two = t.of_the_two;
    fits = t.fits;
    height = t.height ∙ sym (counted_reads v h).height;
    reply = t.reply ∙ sym (same_reply d v a h p c (room_of d a h p c r t.reply t.room));
    room = t.room;
  }
  counted_entry h Clock (Tick k) at r t = record {
    some = t.some;
    below = t.below;
    height = t.height ∙ ap (λ n. n + k) (sym (counted_reads v h).height);
    reply =
        t.reply ∙ sym (ap₂ (λ (n m : ℕ). cond (nat_le 20000 n || nat_lt 1000000 (m + k)) ClockFull Accepted) (same_ticks v h) (counted_reads v h).height);
    room = t.room;
  }
  counted_entry h (Party p) (Tick k) at r t = absurd t
  counted_entry h Clock (Made c) at r t = absurd t

  step : (h : List Entry) (x : Entry) (b : Bool) → not (is_passed v x) ≡ b → IsLegalEntry d a h x.sender x.what x.height x.reply
      → IsLegal d a (counted v h) → IsLegal d a (counted v (h ++ x ∷ []))
  step h x true t m legal =
      subst (IsLegal d a) (sym (filter-on (λ e. not (is_passed v e)) h x t))
      (all_moments_push (IsLegalMoment d a) (counted v h) x legal (counted_entry h x.sender x.what x.height x.reply m))
  step h x false t m legal = subst (IsLegal d a) (sym (filter-off (λ e. not (is_passed v e)) h x t)) legal

  pub stays_legal : (h : List Entry) → IsLegal d a h → IsLegal d a (counted v h)
  stays_legal h =
      grow (λ h. IsLegal d a h → IsLegal d a (counted v h)) h (λ l. tt)
      (λ xs x rest l. step xs x (not (is_passed v x)) refl (at_moment (IsLegalMoment d a) (xs ++ x ∷ []) xs x l ([], refl))
      (rest (all_moments_front (IsLegalMoment d a) xs (x ∷ []) l)))

pub counted_is_legal : CountedIsLegal
counted_is_legal d v a h l = stays_legal d v a h l

pub told_is_legal : CountedToldIsLegal
told_is_legal d v a h few l w = stays_legal d v a (telling v h) (telling_is_legal d v a h few l w)
