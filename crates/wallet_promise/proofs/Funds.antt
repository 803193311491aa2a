-- Balances without the transfers of others.
use Rattle.std.proofs.Common.{◌≡◌, ◌⊎◌, ℕ, ◌+◌, ◌-◌, ◌≤◌, ◌==◌, Bool, true, false, cond, ◌||◌, List, [], ◌∷◌, ◌++◌, Option, Some, None, is_some, is_none}
use Rattle.std.proofs.Common.{refl, sym, ap, ap₂, ◌∙◌, subst, inl, inr, arith}
use Rattle.std.proofs.lemmas.Bool.{false≢true}
use Rattle.swap_base.specs.Lists.{or_else}
use Rattle.swap_base.proofs.Lists.{first_given_answer-append, or_else-none, none_both, grow, at_moment, all_moments_front}
use Rattle.swap_digraph.specs.declared.deal.Deal.{Deal}
use Rattle.swap_digraph.specs.Deal.{party, amount}
use Rattle.escrow_core.specs.declared.reply.Reply.{Reply}
use Rattle.escrow_core.specs.declared.reply.Reply.TheVariants.{Accepted}
use Rattle.ledger_core.specs.declared.entry.Call.{Call}
use Rattle.ledger_core.specs.declared.entry.Call.TheVariants.{Publish, Unlock, Claim, Refund, Transfer}
use Rattle.ledger_core.specs.declared.entry.Sender.{Sender}
use Rattle.ledger_core.specs.declared.entry.Sender.TheVariants.{Party, Clock}
use Rattle.ledger_core.specs.declared.entry.What.{What}
use Rattle.ledger_core.specs.declared.entry.What.TheVariants.{Call as Made}
use Rattle.ledger_core.specs.declared.entry.Entry.{Entry}
use Rattle.ledger_core.specs.declared.accounts.Accounts.{Accounts}
use Rattle.ledger_core.specs.declared.facts.Settlement.{Settlement}
use Rattle.ledger_core.specs.declared.facts.Settlement.TheVariants.{Claimed, Refunded}
use Rattle.ledger_core.specs.History.{made_call, accepted, accepted_call, publication, published, settling, settled, opening_accounts, transferred}
use Rattle.ledger_core.specs.History.{is_party}
use Rattle.ledger_core.specs.History.{moved, accounts, is_sender}
use Rattle.ledger_core.proofs.Units.{accounts-push}
use Rattle.ledger_core.proofs.History.{not-true}
use Rattle.swap_rules.specs.Party.{pick_call}
use Rattle.swap_rules.specs.Outcome.{is_claim}
use Rattle.swap_rules.specs.Rest.{is_ticking}
use Rattle.swap_rules.proofs.Prefixes.{moment_more}
use Rattle.wallet_promise.specs.WithoutNoise.{is_of_contract, is_told, telling, purse, IsPaid, IsTrueMoment, IsChain, is_transfer, MakesNoTransfer}
use Rattle.wallet_promise.specs.BookLaws.{BalancesAreTold}
use Rattle.wallet_promise.proofs.Filters.{filter-on, filter-off}
use Rattle.wallet_promise.proofs.Deeds.{deed, told_if, of_claim, of_refund}

-- Transfers.

ticks_accept_none : (w : What) (r : Reply) (c : Call) → accepted_call w r ≡ Some c → (is_ticking w ≡ false) × (made_call w ≡ Some c)
ticks_accept_none (Made c') Accepted c e = (refl, e)
ticks_accept_none _ _ c e = absurd (cc e)

-- an accepted transfer isn't v's, where v makes none
pub not_mine : (v : ℕ) (e : Entry) (to units : ℕ) → accepted e ≡ Some (Transfer to units) → is_transfer (pick_call v e) ≡ false → is_sender v e.sender ≡ false
not_mine v e to units k calm =
    not-true (is_sender v e.sender) (λ t. false≢true (sym calm ∙ ap is_transfer (ap (λ b. cond b (made_call e.what) None) t
    ∙ (ticks_accept_none e.what e.reply (Transfer to units) k).1)))

-- an accepted transfer that isn't v's is noise
pub transfer_is_noise : (v : ℕ) (e : Entry) (to units : ℕ) → accepted e ≡ Some (Transfer to units) → is_transfer (pick_call v e) ≡ false
    → is_told v e ≡ false
transfer_is_noise v e to units k calm =
    ap₂ (λ x y. x || y || is_of_contract (accepted e)) (ticks_accept_none e.what e.reply (Transfer to units) k).0 (not_mine v e to units k calm)
    ∙ ap is_of_contract k

-- what a transfer moves stays in the two balances
total_stays : (b : Accounts) (x y : Bool) (units : ℕ) → units ≤ cond x b.party b.counterparty
    → (transferred b x y units).party + (transferred b x y units).counterparty ≡ b.party + b.counterparty
total_stays b true true units l = refl
total_stays b false false units l = refl
total_stays b true false units l = omega arith
total_stays b false true units l = omega arith

-- who has nothing moves nothing
nothing_moves : (b : Accounts) (y : Bool) (units : ℕ) → b.counterparty ≡ 0 → units ≤ b.counterparty → transferred b false y units ≡ b
nothing_moves b false units z l = refl
nothing_moves b true units z l =
    let one : b.party + units ≡ b.party = omega arith in
    let two : b.counterparty - units ≡ b.counterparty = omega arith in
    λ i. record { party = one i; counterparty = two i; held = b.held }

not_by : (d : Deal) (v a : ℕ) (s : Sender) → v ≡ party d a → is_sender v s ≡ false → is_party d a s ≡ false
not_by d v a (Party q) e n = ap (λ p. q == p) (sym e) ∙ n
not_by d v a Clock e n = refl

some_of : {A : Type 0} (o : Option A) → is_none o ≡ false → o ≡ None → ⊥
some_of None h e = cc h
some_of (Some x) h e = cc e

publishes_none : (h : List Entry) (x : Entry) → published (h ++ x ∷ []) ≡ None → (published h ≡ None) × (publication x.height (accepted x) ≡ None)
publishes_none h x n =
    let k = none_both (published h) (or_else (publication x.height (accepted x)) None)
    (sym (first_given_answer-append (λ e. publication e.height (accepted e)) h (x ∷ [])) ∙ n) in
    (k.0, sym (or_else-none (publication x.height (accepted x))) ∙ k.1)

module _ (d : Deal) (v a : ℕ) where
  -- Before anything is published, what is told moved nothing, and the whole moved only what its two
  -- balances held.
  pub record Funds (h : List Entry) : Type 0 where
    pub fresh : published h ≡ None → accounts d a (telling v h) ≡ opening_accounts d a
    pub total : published h ≡ None → (accounts d a h).party + (accounts d a h).counterparty ≡ amount d a
    pub mine : v ≡ party d a → published h ≡ None → accounts d a h ≡ opening_accounts d a

  -- an entry that moves nothing
  idle : (h : List Entry) (x : Entry) → accounts d a (h ++ x ∷ []) ≡ accounts d a h → accounts d a (telling v (h ++ x ∷ [])) ≡ accounts d a (telling v h)
      → Funds h → Funds (h ++ x ∷ [])
  idle h x whole told f = record {
    fresh = λ n. told ∙ f.fresh (publishes_none h x n).0;
    total = λ n. ap (λ (b : Accounts). b.party + b.counterparty) whole ∙ f.total (publishes_none h x n).0;
    mine = λ e n. whole ∙ f.mine e (publishes_none h x n).0;
  }

  -- an entry after which something is published
  after : (h : List Entry) (x : Entry) → (published (h ++ x ∷ []) ≡ None → ⊥) → Funds (h ++ x ∷ [])
  after h x k = record { fresh = λ n. absurd (k n); total = λ n. absurd (k n); mine = λ e n. absurd (k n) }

  -- what is told of an entry that moves nothing in what was told
  told_still : (h : List Entry) (x : Entry) (b : Bool) → is_told v x ≡ b
      → moved d a (accounts d a (telling v h)) x.sender (accepted x) ≡ accounts d a (telling v h)
      → accounts d a (telling v (h ++ x ∷ [])) ≡ accounts d a (telling v h)
  told_still h x true t e = ap (accounts d a) (filter-on (is_told v) h x t) ∙ (accounts-push d a (telling v h) x ∙ e)
  told_still h x false t e = ap (accounts d a) (filter-off (is_told v) h x t)

  funds_step : (h : List Entry) (x : Entry) (o : Option Call) → accepted x ≡ o → IsTrueMoment d v a (record { past = h; now = x })
      → is_transfer (pick_call v x) ≡ false → Funds h → Funds (h ++ x ∷ [])
  funds_step h x None k m calm f =
      idle h x (accounts-push d a h x ∙ ap (moved d a (accounts d a h) x.sender) k)
      (told_still h x (is_told v x) refl (ap (moved d a (accounts d a (telling v h)) x.sender) k)) f
  funds_step h x (Some (Unlock key)) k m calm f =
      idle h x (accounts-push d a h x ∙ ap (moved d a (accounts d a h) x.sender) k)
      (told_still h x (is_told v x) refl (ap (moved d a (accounts d a (telling v h)) x.sender) k)) f
  funds_step h x (Some (Publish t)) k m calm f = after h x (λ n. cc (sym (ap (publication x.height) k) ∙ (publishes_none h x n).1))
  funds_step h x (Some Claim) k m calm f =
      let g = deed d v a h x Claim m (told_if v x Claim k refl) k in
      after h x (λ n. some_of (published h) (of_claim d a h g.by g.clear).0 (publishes_none h x n).0)
  funds_step h x (Some Refund) k m calm f =
      let g = deed d v a h x Refund m (told_if v x Refund k refl) k in
      after h x (λ n. some_of (published h) (of_refund d a h g.by g.clear).0 (publishes_none h x n).0)
  funds_step h x (Some (Transfer to units)) k m calm f =
      let pay : units ≤ purse d a h x.sender = subst (IsPaid d a h x.sender) k m.paid in
      let push : accounts d a (h ++ x ∷ []) ≡ transferred (accounts d a h) (is_party d a x.sender) (to == party d a) units =
      accounts-push d a h x ∙ ap (moved d a (accounts d a h) x.sender) k in
      record {
        fresh =
            λ n. ap (accounts d a) (filter-off (is_told v) h x (transfer_is_noise v x to units k calm)) ∙ f.fresh (publishes_none h x n).0;
        total =
            λ n. ap (λ (b : Accounts). b.party + b.counterparty) push
            ∙ (total_stays (accounts d a h) (is_party d a x.sender) (to == party d a) units pay ∙ f.total (publishes_none h x n).0);
        mine =
            λ e n. let before = f.mine e (publishes_none h x n).0 in
            let side : is_party d a x.sender ≡ false = not_by d v a x.sender e (not_mine v x to units k calm) in
            let zero : (accounts d a h).counterparty ≡ 0 = ap (λ (b : Accounts). b.counterparty) before in
            let few : units ≤ (accounts d a h).counterparty =
            subst (λ b. units ≤ cond b (accounts d a h).party (accounts d a h).counterparty) side pay in
            push ∙ (ap (λ b. transferred (accounts d a h) b (to == party d a) units) side
            ∙ (nothing_moves (accounts d a h) (to == party d a) units zero few ∙ before));
      }

  -- Where v is the arc's party, and nothing is claimed, the balances are those that are told, and
  -- the counterparty has nothing.
  record Same (h : List Entry) : Type 0 where
    same : accounts d a h ≡ accounts d a (telling v h)
    zero : (accounts d a h).counterparty ≡ 0

  abbrev Unclaimed : List Entry → Type 0
  Unclaimed h = is_claim (settled h) ≡ false → Same h

  unclaimed_past : (h : List Entry) (x : Entry) → is_claim (settled (h ++ x ∷ [])) ≡ false → is_claim (settled h) ≡ false
  unclaimed_past h x e = go (settled h) (sym (ap is_claim (first_given_answer-append (λ y. settling (accepted y)) h (x ∷ []))) ∙ e)
    where
      go : (s : Option Settlement) → is_claim (or_else s (or_else (settling (accepted x)) None)) ≡ false → is_claim s ≡ false
      go None e = refl
      go (Some Refunded) e = refl
      go (Some Claimed) e = e

  -- an entry that is told, or moves nothing
  both_move : (h : List Entry) (x : Entry) (o : Option Call) (b : Bool) → accepted x ≡ o → is_told v x ≡ b → (is_of_contract o ≡ true) ⊎ (o ≡ None)
      → accounts d a h ≡ accounts d a (telling v h) → accounts d a (h ++ x ∷ []) ≡ accounts d a (telling v (h ++ x ∷ []))
  both_move h x o true k t c same =
      accounts-push d a h x ∙ (ap (λ b. moved d a b x.sender (accepted x)) same ∙ (sym (accounts-push d a (telling v h) x)
      ∙ ap (accounts d a) (sym (filter-on (is_told v) h x t))))
  both_move h x None false k t c same =
      accounts-push d a h x ∙ (ap (moved d a (accounts d a h) x.sender) k ∙ (same ∙ ap (accounts d a) (sym (filter-off (is_told v) h x t))))
  both_move h x (Some y) false k t (inl c) same = absurd (false≢true (sym t ∙ told_if v x y k c))
  both_move h x (Some y) false k t (inr c) same = absurd (cc c)

  zero_stays : (h : List Entry) (x : Entry) (o : Option Call) → accepted x ≡ o
      → (moved d a (accounts d a h) x.sender o).counterparty ≡ (accounts d a h).counterparty
      → (accounts d a h).counterparty ≡ 0 → (accounts d a (h ++ x ∷ [])).counterparty ≡ 0
  zero_stays h x o k e z =
      ap (λ (b : Accounts). b.counterparty) (accounts-push d a h x ∙ ap (moved d a (accounts d a h) x.sender) k) ∙ (e ∙ z)

  same_step : (h : List Entry) (x : Entry) (o : Option Call) → accepted x ≡ o → v ≡ party d a → IsTrueMoment d v a (record { past = h; now = x })
      → is_transfer (pick_call v x) ≡ false → is_claim (settled (h ++ x ∷ [])) ≡ false → Same h → Same (h ++ x ∷ [])
  same_step h x None k e m calm u s =
      record { same = both_move h x None (is_told v x) k refl (inr refl) s.same; zero = zero_stays h x None k refl s.zero }
  same_step h x (Some (Publish t)) k e m calm u s = record {
    same = both_move h x (Some (Publish t)) (is_told v x) k refl (inl refl) s.same;
    zero = zero_stays h x (Some (Publish t)) k refl s.zero;
  }
  same_step h x (Some (Unlock key)) k e m calm u s = record {
    same = both_move h x (Some (Unlock key)) (is_told v x) k refl (inl refl) s.same;
    zero = zero_stays h x (Some (Unlock key)) k refl s.zero;
  }
  same_step h x (Some Refund) k e m calm u s = record {
    same = both_move h x (Some Refund) (is_told v x) k refl (inl refl) s.same;
    zero = zero_stays h x (Some Refund) k refl s.zero;
  }
  same_step h x (Some Claim) k e m calm u s =
      let g = deed d v a h x Claim m (told_if v x Claim k refl) k in
      absurd (claimed (settled h) (of_claim d a h g.by g.clear).1
      (ap (λ o. is_claim (or_else (settled h) (or_else (settling o) None))) (sym k)
      ∙ (sym (ap is_claim (first_given_answer-append (λ y. settling (accepted y)) h (x ∷ []))) ∙ u)))
    where
      claimed : (s : Option Settlement) → is_some s ≡ false → is_claim (or_else s (Some Claimed)) ≡ false → ⊥
      claimed None n e = cc e
      claimed (Some y) n e = cc n
  same_step h x (Some (Transfer to units)) k e m calm u s =
      let pay : units ≤ purse d a h x.sender = subst (IsPaid d a h x.sender) k m.paid in
      let side : is_party d a x.sender ≡ false = not_by d v a x.sender e (not_mine v x to units k calm) in
      let few : units ≤ (accounts d a h).counterparty =
      subst (λ b. units ≤ cond b (accounts d a h).party (accounts d a h).counterparty) side pay in
      let still : accounts d a (h ++ x ∷ []) ≡ accounts d a h =
      accounts-push d a h x ∙ (ap (moved d a (accounts d a h) x.sender) k ∙ (ap (λ b. transferred (accounts d a h) b (to == party d a) units) side
      ∙ nothing_moves (accounts d a h) (to == party d a) units s.zero few)) in
      record {
        same = still ∙ (s.same ∙ ap (accounts d a) (sym (filter-off (is_told v) h x (transfer_is_noise v x to units k calm))));
        zero = ap (λ (b : Accounts). b.counterparty) still ∙ s.zero;
      }

  pub no_past : (h : List Entry) (x : Entry) → MakesNoTransfer v (h ++ x ∷ []) → MakesNoTransfer v h
  no_past h x calm = λ past e m. calm past e (moment_more h (h ++ x ∷ []) past e (x ∷ [], refl) m)

  pub funds : (h : List Entry) → IsChain d v a h → MakesNoTransfer v h → Funds h
  funds h =
      grow (λ h. IsChain d v a h → MakesNoTransfer v h → Funds h) h
      (λ l calm. record { fresh = λ n. refl; total = λ n. omega arith; mine = λ e n. refl })
      (λ xs x rest l calm. funds_step xs x (accepted x) refl (at_moment (IsTrueMoment d v a) (xs ++ x ∷ []) xs x l ([], refl)) (calm xs x ([], refl))
      (rest (all_moments_front (IsTrueMoment d v a) xs (x ∷ []) l) (no_past xs x calm)))

  same_accounts : (h : List Entry) → IsChain d v a h → MakesNoTransfer v h → v ≡ party d a → Unclaimed h
  same_accounts h =
      grow (λ h. IsChain d v a h → MakesNoTransfer v h → v ≡ party d a → Unclaimed h) h (λ l calm e u. record { same = refl; zero = refl })
      (λ xs x rest l calm e u. same_step xs x (accepted x) refl e (at_moment (IsTrueMoment d v a) (xs ++ x ∷ []) xs x l ([], refl)) (calm xs x ([], refl)) u
      (rest (all_moments_front (IsTrueMoment d v a) xs (x ∷ []) l) (no_past xs x calm) e (unclaimed_past xs x u)))

pub balances_are_told : BalancesAreTold
balances_are_told d v a h l calm e u =
    ap (λ (b : Accounts). cond (v == party d a) b.party b.counterparty) (sym (same_accounts d v a h l calm e u).same)
