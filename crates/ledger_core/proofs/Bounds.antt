-- A legal history has few entries, and its height is at most 1,000,000.
use Rattle.std.proofs.Common.{◌≡◌, ◌≢◌, ℕ, ◌+◌, ◌<◌, ◌≤◌, ◌==◌, nat_lt, nat_le, Bool, true, false, cond, ◌||◌, List, [], ◌∷◌, ◌++◌, length, count_by}
use Rattle.std.proofs.Common.{refl, ap, ◌∙◌, arith, eqb-true, leb-false, ltb-false, length-append}
use Rattle.std.proofs.lemmas.Bool.{false≢true}
use Rattle.std.proofs.lemmas.List.Sums.{sum_by_push}
use Rattle.swap_base.proofs.Lists.{grow, all_moments_front, at_moment, or_neither}
use Rattle.swap_digraph.specs.declared.deal.Deal.{Deal}
use Rattle.swap_digraph.specs.Deal.{party, counterparty}
use Rattle.escrow_core.specs.declared.reply.Reply.{Reply}
use Rattle.escrow_core.specs.declared.reply.Reply.TheVariants.{Accepted, SenderFull, ClockFull}
use Rattle.ledger_core.specs.declared.entry.Call.{Call}
use Rattle.ledger_core.specs.declared.entry.Sender.{Sender}
use Rattle.ledger_core.specs.declared.entry.Sender.TheVariants.{Party, Clock}
use Rattle.ledger_core.specs.declared.entry.What.{What}
use Rattle.ledger_core.specs.declared.entry.What.TheVariants.{Call as Made, Tick}
use Rattle.ledger_core.specs.declared.entry.Entry.{Entry}
use Rattle.ledger_core.specs.History.{entry_ticks, height, is_full, is_clock_full, is_tick, is_sender, history_reply, reply_to_tick, IsLegal}
use Rattle.ledger_core.specs.History.{IsLegalEntry, IsLegalMoment}
use Rattle.ledger_core.specs.Value.{IsCountable}
use Rattle.ledger_core.proofs.History.{full_reply, not-true}

abbrev pub total_calls : ℕ → List Entry → ℕ
total_calls p h = count_by (λ e. is_sender p e.sender) h

abbrev pub run_ticks : List Entry → ℕ
run_ticks h = count_by (λ e. is_tick e.sender) h

pub calls-push : (h : List Entry) (e : Entry) (q : ℕ) → total_calls q (h ++ e ∷ []) ≡ total_calls q h + cond (is_sender q e.sender) 1 0
calls-push h e q = sum_by_push (λ x. cond (is_sender q x.sender) 1 0) h e

pub ticks-push : (h : List Entry) (e : Entry) → run_ticks (h ++ e ∷ []) ≡ run_ticks h + cond (is_tick e.sender) 1 0
ticks-push h e = sum_by_push (λ x. cond (is_tick x.sender) 1 0) h e

pub height-push : (h : List Entry) (e : Entry) → height (h ++ e ∷ []) ≡ height h + entry_ticks e.what
height-push h e = sum_by_push (λ x. entry_ticks x.what) h e

-- a sender whose call isn't answered SenderFull has room
pub room_of : (d : Deal) (a : ℕ) (h : List Entry) (p : ℕ) (c : Call) (r : Reply) → r ≡ history_reply d a h p c → r ≢ SenderFull → total_calls p h < 32
room_of d a h p c r e n =
    let k : is_full h p ≡ false = not-true (is_full h p) (λ t. n (e ∙ full_reply d a h p c t)) in
    leb-false 32 (total_calls p h) k

pub record HasRoomFor (h : List Entry) (k : ℕ) : Type 0 where
  pub ticks : run_ticks h < 20000
  pub height : height h + k ≤ 1000000

-- a tick that isn't answered ClockFull has room
pub tick_room : (h : List Entry) (k : ℕ) (r : Reply) → r ≡ reply_to_tick h k → r ≢ ClockFull → HasRoomFor h k
tick_room h k r e n =
    let open_clock : is_clock_full h k ≡ false = not-true (is_clock_full h k) (λ t. n (e ∙ ap (λ b. cond b ClockFull Accepted) t)) in
    let parts = or_neither (nat_le 20000 (run_ticks h)) (nat_lt 1000000 (height h + k)) open_clock in
    record { ticks = leb-false 20000 (run_ticks h) parts.0; height = ltb-false 1000000 (height h + k) parts.1 }

module _ (d : Deal) (a : ℕ) where
  pub record Bounds (h : List Entry) : Type 0 where
    pub low : height h ≤ 1000000
    pub ticks : run_ticks h ≤ 20000
    pub by_party : total_calls (party d a) h ≤ 32
    pub by_counterparty : total_calls (counterparty d a) h ≤ 32
    pub few : length h ≤ run_ticks h + total_calls (party d a) h + total_calls (counterparty d a) h

  one_call : (h : List Entry) (p q : ℕ) (b : Bool) → (p == q) ≡ b → total_calls p h < 32 → total_calls q h ≤ 32 → total_calls q h + cond b 1 0 ≤ 32
  one_call h p q true e l m = let k : total_calls p h ≡ total_calls q h = ap (λ x. total_calls x h) (eqb-true p q e) in omega arith
  one_call h p q false e l m = omega arith

  some_of_two : (a b : Bool) → (a || b) ≡ true → 1 ≤ cond a 1 0 + cond b 1 0
  some_of_two true true h = omega arith
  some_of_two true false h = omega arith
  some_of_two false true h = omega arith
  some_of_two false false h = absurd (false≢true h)

  step : (h : List Entry) (e : Entry) (s : Sender) (w : What) → e.sender ≡ s → e.what ≡ w → IsLegalEntry d a h s w e.height e.reply → Bounds h
      → Bounds (h ++ e ∷ [])
  step h e (Party p) (Made c) es ew l b =
      let room : total_calls p h < 32 = room_of d a h p c e.reply l.reply l.room in
      let one = one_call h p (party d a) (p == party d a) refl room b.by_party in
      let two = one_call h p (counterparty d a) (p == counterparty d a) refl room b.by_counterparty in
      let some = some_of_two (p == party d a) (p == counterparty d a) l.of_the_two in
      let at_party : total_calls (party d a) (h ++ e ∷ []) ≡ total_calls (party d a) h + cond (p == party d a) 1 0 =
      calls-push h e (party d a) ∙ ap (λ z. total_calls (party d a) h + cond (is_sender (party d a) z) 1 0) es in
      let at_counterparty : total_calls (counterparty d a) (h ++ e ∷ []) ≡ total_calls (counterparty d a) h + cond (p == counterparty d a) 1 0 =
      calls-push h e (counterparty d a) ∙ ap (λ z. total_calls (counterparty d a) h + cond (is_sender (counterparty d a) z) 1 0) es in
      let clock : run_ticks (h ++ e ∷ []) ≡ run_ticks h + 0 = ticks-push h e ∙ ap (λ z. run_ticks h + cond (is_tick z) 1 0) es in
      let at : height (h ++ e ∷ []) ≡ height h + 0 = height-push h e ∙ ap (λ z. height h + entry_ticks z) ew in
      let long : length (h ++ e ∷ []) ≡ length h + 1 = length-append h (e ∷ []) in
      let low = b.low in
      let few = b.ticks in
      let count = b.few in
      record { low = omega arith; ticks = omega arith; by_party = omega arith; by_counterparty = omega arith; few = omega arith }
  step h e Clock (Tick k) es ew l b =
      let room = tick_room h k e.reply l.reply l.room in
      let before = room.ticks in
      let below = room.height in
      let at_party : total_calls (party d a) (h ++ e ∷ []) ≡ total_calls (party d a) h + 0 =
      calls-push h e (party d a) ∙ ap (λ z. total_calls (party d a) h + cond (is_sender (party d a) z) 1 0) es in
      let at_counterparty : total_calls (counterparty d a) (h ++ e ∷ []) ≡ total_calls (counterparty d a) h + 0 =
      calls-push h e (counterparty d a) ∙ ap (λ z. total_calls (counterparty d a) h + cond (is_sender (counterparty d a) z) 1 0) es in
      let clock : run_ticks (h ++ e ∷ []) ≡ run_ticks h + 1 = ticks-push h e ∙ ap (λ z. run_ticks h + cond (is_tick z) 1 0) es in
      let at : height (h ++ e ∷ []) ≡ height h + k = height-push h e ∙ ap (λ z. height h + entry_ticks z) ew in
      let long : length (h ++ e ∷ []) ≡ length h + 1 = length-append h (e ∷ []) in
      let one = b.by_party in
      let two = b.by_counterparty in
      let count = b.few in
      record { low = omega arith; ticks = omega arith; by_party = omega arith; by_counterparty = omega arith; few = omega arith }
  step h e (Party p) (Tick k) es ew l b = absurd l
  step h e Clock (Made c) es ew l b = absurd l

  pub bounds : (h : List Entry) → IsLegal d a h → Bounds h
  bounds h =
      grow (λ x. IsLegal d a x → Bounds x) h (λ l. record {
        low = omega arith;
        ticks = omega arith;
        by_party = omega arith;
        by_counterparty =
            omega arith;
        few = omega arith;
      })
      (λ xs x rest l. step xs x x.sender x.what refl refl (at_moment (IsLegalMoment d a) (xs ++ x ∷ []) xs x l ([], refl))
      (rest (all_moments_front (IsLegalMoment d a) xs (x ∷ []) l)))

  -- every legal history is countable
  pub countable : (h : List Entry) → IsLegal d a h → IsCountable h
  countable h l = let b = bounds h l in let low = b.low in let few = b.ticks in let one = b.by_party in let two = b.by_counterparty in let count =
      b.few in record { height = omega arith; count = omega arith }
