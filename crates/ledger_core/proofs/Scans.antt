-- What is kept beside a history stays what its scans give, entry by entry.
use Rattle.std.proofs.Common.{◌≡◌, ◌≢◌, ℕ, ◌+◌, ◌<◌, ◌≤◌, ◌==◌, nat_lt, nat_le, Bool, true, false, cond, ◌||◌, List, [], ◌∷◌, ◌++◌, length, Option}
use Rattle.std.proofs.Common.{None, is_some, refl, sym, ap, ap₂, ◌∙◌, subst, arith, eqb-true, eq-eqb, le-ltb}
use Rattle.std.specs.List.{list_all}
use Rattle.std.proofs.lemmas.Bool.{false≢true, lt-leb}
use Rattle.swap_base.specs.Lists.{or_else}
use Rattle.swap_base.proofs.Lists.{all_moments_push, all_moments_front, first_given_answer-append, and_parts, or_else-none}
use Rattle.swap_digraph.specs.declared.deal.Deal.{Deal}
use Rattle.swap_digraph.specs.Deal.{party, counterparty, amount, IsWellSized}
use Rattle.escrow_core.specs.declared.terms.Terms.{Terms}
use Rattle.escrow_core.specs.declared.reply.Reply.{Reply}
use Rattle.escrow_core.specs.declared.reply.Reply.TheVariants.{Accepted, SenderFull, ClockFull}
use Rattle.escrow_core.specs.Table.{first_row}
use Rattle.escrow_core.specs.Value.{ContractState}
use Rattle.ledger_core.specs.declared.accounts.Accounts.{Accounts}
use Rattle.ledger_core.specs.declared.entry.Call.{Call}
use Rattle.ledger_core.specs.declared.entry.Call.TheVariants.{Publish, Unlock, Claim, Refund, Transfer}
use Rattle.ledger_core.specs.declared.entry.What.TheVariants.{Call as Made}
use Rattle.ledger_core.specs.declared.entry.Entry.{Entry}
use Rattle.ledger_core.specs.History.{height, accepted_call, accepted, publication, published, opening, opened, settling, settled, accounts, balance}
use Rattle.ledger_core.specs.History.{held, moved_accounts, publication_terms, rows, history_reply, is_full, IsLegal, IsLegalMoment, IsLegalCall, IsLegalTick}
use Rattle.ledger_core.specs.Ledger.{call_entry, tick_entry, AreKept, AddUp, history_contract, next_contract, reply_by_contract, CanMove}
use Rattle.ledger_core.specs.Inside.{AreScans}
use Rattle.ledger_core.proofs.History.{accepted_clear, of_publish, of_transfer, not-true}
use Rattle.ledger_core.proofs.Units.{units, accounts-push}
use Rattle.ledger_core.proofs.Bounds.{total_calls, run_ticks, calls-push, ticks-push, height-push}
use Rattle.ledger_core.proofs.Contracts.{contract-push, answer_is}

-- The sender of an accepted call has what it moves.

can_publish : (d : Deal) (a : ℕ) (h : List Entry) (p : ℕ) (t : Terms) (b : Accounts) → b ≡ accounts d a h → history_reply d a h p (Publish t) ≡ Accepted
    → t.amount ≤ b.party
can_publish d a h p t b e r =
    let o = of_publish d a h p t (accepted_clear d a h p (Publish t) r) in
    subst (λ x. t.amount ≤ x.party) (sym e) (subst (λ x. t.amount ≤ cond x (accounts d a h).party (accounts d a h).counterparty)
    (eq-eqb p (party d a) o.party) o.funds)

pub can_move : (d : Deal) (a : ℕ) (h : List Entry) (p q : ℕ) (c : Call) (r : Reply) (b : Accounts) → q ≡ party d a → b ≡ accounts d a h
    → r ≡ history_reply d a h p c → CanMove b (p == q) (accepted_call (Made c) r)
can_move d a h p q (Publish t) Accepted b eq e k = can_publish d a h p t b e (sym k)
can_move d a h p q (Transfer to units) Accepted b eq e k =
    subst (λ z. units ≤ cond (p == z) b.party b.counterparty) (sym eq)
    (subst (λ x. units ≤ cond (p == party d a) x.party x.counterparty) (sym e)
    (of_transfer d a h p to units (accepted_clear d a h p (Transfer to units) (sym k))))
can_move d a h p q (Unlock key) Accepted b eq e k = tt
can_move d a h p q Claim Accepted b eq e k = tt
can_move d a h p q Refund Accepted b eq e k = tt
can_move d a h p q c _ b eq e k = tt

-- the balances and the held amount are at most the amount of the arc
pub bounded : (d : Deal) (a : ℕ) (h : List Entry) (b : Accounts) → IsLegal d a h → IsWellSized d → a < length d.graph.arcs → b ≡ accounts d a h
    → b.party + b.counterparty + b.held ≤ 1000000000000
bounded d a h b l s lt e =
    let u = units d a h l in
    let same = u.same in
    let total = u.total in
    let most : amount d a ≤ 1000000000000 = s.amount a lt in
    let p : b.party ≡ (accounts d a h).party = ap (λ x. x.party) e in
    let c : b.counterparty ≡ (accounts d a h).counterparty = ap (λ x. x.counterparty) e in
    let k : b.held ≡ (accounts d a h).held = ap (λ x. x.held) e in
    omega arith

pub held_is : (d : Deal) (a : ℕ) (h : List Entry) (b : Accounts) → IsLegal d a h → b ≡ accounts d a h → b.held ≡ held h
held_is d a h b l e = ap (λ x. x.held) e ∙ (units d a h l).same

-- at every prefix
pub add_up : (d : Deal) (a : ℕ) (h : List Entry) → IsLegal d a h → party d a ≢ counterparty d a → AddUp d a h
add_up d a h l n past rest e =
    let u = units d a past (all_moments_front (IsLegalMoment d a) past rest (subst (IsLegal d a) e l)) in
    let total = u.total in
    let p : balance d a past (party d a) ≡ (accounts d a past).party =
    ap (λ b. cond b (accounts d a past).party (accounts d a past).counterparty) (eq-eqb (party d a) (party d a) refl) in
    let c : balance d a past (counterparty d a) ≡ (accounts d a past).counterparty =
    ap (λ b. cond b (accounts d a past).party (accounts d a past).counterparty)
    (not-true (counterparty d a == party d a) (λ k. n (sym (eqb-true (counterparty d a) (party d a) k)))) in
    omega arith

-- A call that isn't full isn't answered SenderFull.

abbrev is_other : Reply → Bool
is_other SenderFull = false
is_other _ = true

other_head : (b : Bool) (r : Reply) (rs : List (Bool × Reply)) → is_other r ≡ true → (is_other (first_row rs) ≡ true)
    → is_other (cond b r (first_row rs)) ≡ true
other_head true r rs h k = h
other_head false r rs h k = k

others : (rs : List (Bool × Reply)) → list_all (λ row. is_other row.1) rs ≡ true → is_other (first_row rs) ≡ true
others [] h = refl
others (row ∷ rs) h = let k = and_parts (is_other row.1) (list_all (λ row. is_other row.1) rs) h in other_head row.0 row.1 rs k.0 (others rs k.1)

abbrev first_test : List (Bool × Reply) → Bool
first_test [] = false
first_test (row ∷ rs) = row.0

abbrev later : List (Bool × Reply) → List (Bool × Reply)
later [] = []
later (row ∷ rs) = rs

other_reply : (rs : List (Bool × Reply)) → first_test rs ≡ false → list_all (λ row. is_other row.1) (later rs) ≡ true → is_other (first_row rs) ≡ true
other_reply [] f h = refl
other_reply (row ∷ rs) f h = ap (λ z. is_other (cond z row.1 (first_row rs))) f ∙ others rs h

has_other : (d : Deal) (a : ℕ) (h : List Entry) (p : ℕ) (c : Call) → is_full h p ≡ false → is_other (history_reply d a h p c) ≡ true
unfolding rows
has_other d a h p (Publish t) f = other_reply (rows d a h p (Publish t)) f refl
has_other d a h p (Unlock key) f = other_reply (rows d a h p (Unlock key)) f refl
has_other d a h p Claim f = other_reply (rows d a h p Claim) f refl
has_other d a h p Refund f = other_reply (rows d a h p Refund) f refl
has_other d a h p (Transfer to units) f = other_reply (rows d a h p (Transfer to units)) f refl

pub has_room : (d : Deal) (a : ℕ) (h : List Entry) (p : ℕ) (c : Call) (r : Reply) → is_full h p ≡ false → r ≡ history_reply d a h p c → r ≢ SenderFull
has_room d a h p c r f e k = false≢true (ap is_other (sym k ∙ e) ∙ has_other d a h p c f)

-- Refusals.

not_accepted : (c : Call) (r : Reply) → r ≢ Accepted → accepted_call (Made c) r ≡ None
not_accepted c Accepted n = absurd (n refl)
not_accepted c _ n = refl

pub kept_self : (d : Deal) (a : ℕ) (h h' : List Entry) → h' ≡ h → AreKept d a h h'
kept_self d a h h' e = record {
  balances = λ p. ap (λ x. balance d a x p) e;
  held = ap held e;
  published = ap published e;
  opened = λ i. ap (λ x. opened x i) e;
  settled = ap settled e;
}

kept_entry : (d : Deal) (a : ℕ) (h : List Entry) (e : Entry) → accepted e ≡ None → AreKept d a h (h ++ e ∷ [])
kept_entry d a h e k =
    let p : published (h ++ e ∷ []) ≡ published h =
    first_given_answer-append (λ x. publication x.height (accepted x)) h (e ∷ [])
    ∙ (ap (λ o. or_else (published h) (or_else (publication e.height o) None)) k ∙ or_else-none (published h)) in
    let s : settled (h ++ e ∷ []) ≡ settled h =
    first_given_answer-append (λ x. settling (accepted x)) h (e ∷ [])
    ∙ (ap (λ o. or_else (settled h) (or_else (settling o) None)) k ∙ or_else-none (settled h)) in
    let b : accounts d a (h ++ e ∷ []) ≡ accounts d a h = accounts-push d a h e ∙ ap (moved_accounts (party d a) (accounts d a h) _) k in
    record {
      balances = λ q. ap (λ x. cond (q == party d a) x.party x.counterparty) b;
      held = ap₂ (λ x y. cond (is_some x) 0 (publication_terms y).amount) s p;
      published = p;
      opened =
          λ i. first_given_answer-append (λ x. opening i x.height (accepted x)) h (e ∷ [])
          ∙ (ap (λ o. or_else (opened h i) (or_else (opening i e.height o) None)) k ∙ or_else-none (opened h i));
      settled = s;
    }

pub kept_call : (d : Deal) (a : ℕ) (h : List Entry) (p at : ℕ) (c : Call) (r : Reply) → r ≢ Accepted → AreKept d a h (h ++ call_entry p at c r ∷ [])
kept_call d a h p at c r n = kept_entry d a h (call_entry p at c r) (not_accepted c r n)

-- the reply by what is kept is that of the table
pub reply_is : (d : Deal) (a : ℕ) (h : List Entry) (at : ℕ) (b : Accounts) (o : Option ContractState) (pc cc ticks have p : ℕ) (c : Call) (r : Reply)
    → AreScans d a h at b o pc cc ticks → is_full h p ≡ false → have ≡ balance d a h p → r ≡ reply_by_contract d a o at have p c → r ≡ history_reply d a h p c
reply_is d a h at b o pc cc ticks have p c r k f eh e =
    e ∙ (ap (λ x. reply_by_contract d a x at have p c) k.contract
    ∙ (ap (λ x. reply_by_contract d a (history_contract d a h) x have p c) k.height
    ∙ (ap (λ x. reply_by_contract d a (history_contract d a h) (height h) x p c) eh ∙ answer_is d a h p c k.legal f)))

-- One more call.
pub call_scans : (d : Deal) (a : ℕ) (h : List Entry) (at : ℕ) (b b' : Accounts) (o o' : Option ContractState) (pc pc' cc cc' ticks p : ℕ) (c : Call) (r : Reply)
    → AreScans d a h at b o pc cc ticks → IsLegalCall d a h p c at r
    → b' ≡ moved_accounts (party d a) b (p == party d a) (accepted_call (Made c) r)
    → o' ≡ next_contract d a o (accepted_call (Made c) r)
    → pc' ≡ pc + cond (p == party d a) 1 0
    → cc' ≡ cc + cond (p == counterparty d a) 1 0
    → AreScans d a (h ++ call_entry p at c r ∷ []) at b' o' pc' cc' ticks
call_scans d a h at b b' o o' pc pc' cc cc' ticks p c r k l eb eo ep ec =
    let legal : IsLegal d a (h ++ call_entry p at c r ∷ []) = all_moments_push (IsLegalMoment d a) h (call_entry p at c r) k.legal l in
    record {
      legal = legal;
      height = let z : height (h ++ call_entry p at c r ∷ []) ≡ height h + 0 = height-push h (call_entry p at c r) in let y = k.height in omega arith;
      accounts = eb ∙ (ap (λ x. moved_accounts (party d a) x (p == party d a) (accepted_call (Made c) r)) k.accounts
          ∙ sym (accounts-push d a h (call_entry p at c r)));
      contract =
          eo ∙ (ap (λ x. next_contract d a x (accepted_call (Made c) r)) k.contract
          ∙ sym (contract-push d a h (call_entry p at c r) (accepted_call (Made c) r) refl legal k.legal));
      by_party = ep ∙ (ap (λ n. n + cond (p == party d a) 1 0) k.by_party ∙ sym (calls-push h (call_entry p at c r) (party d a)));
      by_counterparty = ec ∙ (ap (λ n. n + cond (p == counterparty d a) 1 0) k.by_counterparty ∙ sym (calls-push h (call_entry p at c r) (counterparty d a)));
      ticks = let z : run_ticks (h ++ call_entry p at c r ∷ []) ≡ run_ticks h + 0 = ticks-push h (call_entry p at c r) in let y = k.ticks in omega arith;
    }

-- a tick for which there is room is legal
pub legal_tick : (h : List Entry) (at ticks k : ℕ) → at ≡ height h → ticks ≡ run_ticks h → 1 ≤ k → k ≤ 1000000 → ticks < 20000 → at + k ≤ 1000000
    → IsLegalTick h k (at + k) Accepted
legal_tick h at ticks k eh et some below few low =
    let ticks_fit : nat_le 20000 (run_ticks h) ≡ false = lt-leb 20000 (run_ticks h) (omega arith) in
    let height_fits : nat_lt 1000000 (height h + k) ≡ false = le-ltb 1000000 (height h + k) (omega arith) in
    record {
      some = some;
      below = below;
      height = omega arith;
      reply = ap₂ (λ x y. cond (x || y) ClockFull Accepted) (sym ticks_fit) (sym height_fits);
      room = λ e. cc e;
    }

-- One more tick.
pub tick_scans : (d : Deal) (a : ℕ) (h : List Entry) (at at' : ℕ) (b : Accounts) (o : Option ContractState) (pc cc ticks ticks' n : ℕ)
    → AreScans d a h at b o pc cc ticks → IsLegalTick h n at' Accepted → ticks' ≡ ticks + 1
    → AreScans d a (h ++ tick_entry n at' Accepted ∷ []) at' b o pc cc ticks'
tick_scans d a h at at' b o pc cc ticks ticks' n k l et =
    let e = tick_entry n at' Accepted in
    let legal : IsLegal d a (h ++ tick_entry n at' Accepted ∷ []) = all_moments_push (IsLegalMoment d a) h (tick_entry n at' Accepted) k.legal l in
    record {
      legal = legal;
      height = let z : height (h ++ tick_entry n at' Accepted ∷ []) ≡ height h + n = height-push h (tick_entry n at' Accepted) in let y =
          l.height in omega arith;
      accounts = k.accounts ∙ sym (accounts-push d a h (tick_entry n at' Accepted));
      contract = k.contract ∙ sym (contract-push d a h (tick_entry n at' Accepted) None refl legal k.legal);
      by_party = let z : total_calls (party d a) (h ++ tick_entry n at' Accepted ∷ []) ≡ total_calls (party d a) h + 0 =
          calls-push h (tick_entry n at' Accepted) (party d a) in let y = k.by_party in omega arith;
      by_counterparty = let z : total_calls (counterparty d a) (h ++ tick_entry n at' Accepted ∷ []) ≡ total_calls (counterparty d a) h + 0 =
          calls-push h (tick_entry n at' Accepted) (counterparty d a) in let y = k.by_counterparty in omega arith;
      ticks = let z : run_ticks (h ++ tick_entry n at' Accepted ∷ []) ≡ run_ticks h + 1 = ticks-push h (tick_entry n at' Accepted) in let y =
          k.ticks in omega arith;
    }
