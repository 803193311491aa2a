-- The calls of a party in a legal history: at most 32, and one more after each call that finds
-- room.
use Rattle.std.proofs.Common.{◌≡◌, ◌≢◌, ℕ, ◌+◌, ◌<◌, ◌≤◌, ◌==◌, ◌||◌, Bool, true, false, cond, List, [], ◌∷◌, ◌++◌, length, filter, take, suc, Option, Some}
use Rattle.std.proofs.Common.{None, append-nil, length-append, refl, sym, ap, ◌∙◌, subst, inl, inr, arith, eqb-true, eq-eqb, leb-true, if◌then◌else◌}
use Rattle.std.proofs.lemmas.List.{take_all, take-append-le}
use Rattle.std.proofs.lemmas.List.Sums.{sum_by-cons}
use Rattle.swap_base.specs.Lists.{IsElement}
use Rattle.swap_base.proofs.Lists.{in_filter, moment_from_in, at_moment}
use Rattle.swap_digraph.specs.declared.deal.Deal.{Deal}
use Rattle.swap_digraph.specs.Deal.{party, counterparty, touches}
use Rattle.escrow_core.specs.declared.reply.Reply.{Reply}
use Rattle.escrow_core.specs.declared.reply.Reply.TheVariants.{SenderFull}
use Rattle.ledger_core.specs.declared.entry.Call.{Call}
use Rattle.ledger_core.specs.declared.entry.Entry.{Entry}
use Rattle.ledger_core.specs.declared.entry.Sender.{Sender}
use Rattle.ledger_core.specs.declared.entry.Sender.TheVariants.{Party, Clock}
use Rattle.ledger_core.specs.declared.entry.What.{What}
use Rattle.ledger_core.specs.declared.entry.What.TheVariants.{Call as Made, Tick}
use Rattle.ledger_core.specs.History.{height, is_sender, is_full, history_reply, made_call, IsLegal, IsLegalEntry, IsLegalMoment}
use Rattle.ledger_core.specs.Ledger.{after_call, call_entry, is_sender_full}
use Rattle.ledger_core.proofs.Bounds.{total_calls, bounds, room_of}
use Rattle.ledger_core.proofs.History.{full_reply}
use Rattle.ledger_core.proofs.Scans.{has_room}
use Rattle.ledger_shared.specs.Value.{party_made}
use Rattle.swap_rules.specs.Party.{pick_call}
use Rattle.party_threads.specs.Played.{with_optional_call, sender_calls}

-- what a filter leaves nothing of passes nowhere
pub none_passes : {A : Type 0} (p : A → Bool) (xs : List A) → filter p xs ≡ [] → (x : A) → IsElement x xs → p x ≡ false
none_passes {A} p xs none x i = go (p x) refl
  where
    go : (b : Bool) → p x ≡ b → b ≡ false
    go true e = absurd (subst (IsElement x) none (in_filter p x xs i e))
    go false e = refl

with_append : (o : Option Call) (cs ds : List Call) → with_optional_call o (cs ++ ds) ≡ with_optional_call o cs ++ ds
with_append None cs ds = refl
with_append (Some c) cs ds = refl

pub calls_append : (v : ℕ) (xs ys : List Entry) → sender_calls v (xs ++ ys) ≡ sender_calls v xs ++ sender_calls v ys
calls_append v [] ys = refl
calls_append v (e ∷ es) ys = ap (with_optional_call (pick_call v e)) (calls_append v es ys) ∙ with_append (pick_call v e) (sender_calls v es) (sender_calls v ys)

none_called : (v : ℕ) (xs : List Entry) → ((e : Entry) → IsElement e xs → is_sender v e.sender ≡ false) → sender_calls v xs ≡ []
none_called v [] f = refl
none_called v (e ∷ es) f =
    ap (λ b. with_optional_call (if b then made_call e.what else None) (sender_calls v es)) (f e (inl refl)) ∙ none_called v es (λ x i. f x (inr i))

-- entries of others add no call
pub others_add_none : (v : ℕ) (k others : List Entry) → party_made v others ≡ [] → sender_calls v (k ++ others) ≡ sender_calls v k
others_add_none v k others none =
    calls_append v k others
    ∙ (ap (λ cs. sender_calls v k ++ cs) (none_called v others (none_passes (λ (e : Entry). is_sender v e.sender) others none)) ∙ append-nil (sender_calls v k))

-- The calls of a party are its entries.

counted_by : (v : ℕ) (h : List Entry) → ((e : Entry) → IsElement e h → is_sender v e.sender ≡ true → (c : Call) × (made_call e.what ≡ Some c))
    → length (sender_calls v h) ≡ total_calls v h
counted_by v [] f = refl
counted_by v (e ∷ es) f = go (counted_by v es (λ x i. f x (inr i))) (is_sender v e.sender) refl
  where
    count : ◌≡◌ {A = ℕ} (total_calls v (e ∷ es)) (cond (is_sender v e.sender) 1 0 + total_calls v es)
    count = sum_by-cons (λ (x : Entry). cond (is_sender v x.sender) 1 0) e es

    go : length (sender_calls v es) ≡ total_calls v es → (b : Bool) → is_sender v e.sender ≡ b → length (sender_calls v (e ∷ es)) ≡ total_calls v (e ∷ es)
    go rest true is =
        let c = f e (inl refl) is in
        let call : pick_call v e ≡ Some c.0 = ap (λ b. if b then made_call e.what else None) is ∙ c.1 in
        let long : length (sender_calls v (e ∷ es)) ≡ suc (length (sender_calls v es)) = ap (λ o. length (with_optional_call o (sender_calls v es))) call in
        let one : ◌≡◌ {A = ℕ} (cond (is_sender v e.sender) 1 0) 1 = ap (λ z. cond {A = ℕ} z 1 0) is in
        let r : length (sender_calls v es) ≡ total_calls v es = rest in
        let n : ◌≡◌ {A = ℕ} (total_calls v (e ∷ es)) (cond (is_sender v e.sender) 1 0 + total_calls v es) = count in
        omega arith
    go rest false is =
        let call : pick_call v e ≡ None = ap (λ b. if b then made_call e.what else None) is in
        let long : length (sender_calls v (e ∷ es)) ≡ length (sender_calls v es) = ap (λ o. length (with_optional_call o (sender_calls v es))) call in
        let one : ◌≡◌ {A = ℕ} (cond (is_sender v e.sender) 1 0) 0 = ap (λ z. cond {A = ℕ} z 1 0) is in
        let r : length (sender_calls v es) ≡ total_calls v es = rest in
        let n : ◌≡◌ {A = ℕ} (total_calls v (e ∷ es)) (cond (is_sender v e.sender) 1 0 + total_calls v es) = count in
        omega arith

own_call : (d : Deal) (a : ℕ) (past : List Entry) (v : ℕ) (s : Sender) (w : What) (at : ℕ) (r : Reply) → IsLegalEntry d a past s w at r
    → is_sender v s ≡ true → (c : Call) × (made_call w ≡ Some c)
own_call d a past v (Party p) (Made c) at r l e = (c, refl)
own_call d a past v (Party p) (Tick k) at r l e = absurd l
own_call d a past v Clock w at r l e = absurd (cc e)

pub counted : (d : Deal) (a : ℕ) (h : List Entry) (v : ℕ) → IsLegal d a h → length (sender_calls v h) ≡ total_calls v h
counted d a h v legal = counted_by v h (λ e i sent.
    let m = moment_from_in h e i in
    own_call d a m.0 v e.sender e.what e.height e.reply (at_moment (IsLegalMoment d a) h m.0 e legal m.1) sent)

-- a party has at most 32 calls on an arc that touches it
pub few : (d : Deal) (a : ℕ) (h : List Entry) (v : ℕ) → IsLegal d a h → touches d v a ≡ true → length (sender_calls v h) ≤ 32
few d a h v legal near =
    let n : length (sender_calls v h) ≡ total_calls v h = counted d a h v legal in
    let b : total_calls v h ≤ 32 = go (v == party d a) refl in
    omega arith
  where
    by_party : total_calls (party d a) h ≤ 32
    by_party = (bounds d a h legal).by_party

    by_counterparty : total_calls (counterparty d a) h ≤ 32
    by_counterparty = (bounds d a h legal).by_counterparty

    go : (b : Bool) → (v == party d a) ≡ b → total_calls v h ≤ 32
    go true e = subst (λ p. total_calls p h ≤ 32) (sym (eqb-true v (party d a) e)) by_party
    go false e =
        subst (λ p. total_calls p h ≤ 32) (sym (eqb-true v (counterparty d a) (sym (ap (λ b. b || (v == counterparty d a)) e) ∙ near))) by_counterparty

-- nothing is added where nothing is answered
pub none_more : (cs : List Call) → length cs ≤ 32 → cs ≡ take 32 (cs ++ [])
none_more cs le = sym (ap (take 32) (append-nil cs) ∙ take_all 32 cs le)

not_sender_full : (r : Reply) → r ≢ SenderFull → is_sender_full r ≡ false
not_sender_full SenderFull n = absurd (n refl)
not_sender_full _ n = refl

-- What a call adds at the end of a legal history.
module _ (d : Deal) (a v : ℕ) (c : Call) (k others : List Entry) (legal : IsLegal d a (k ++ others)) (near : touches d v a ≡ true)
    (none : party_made v others ≡ []) where
  abbrev g : List Entry
  g = k ++ others

  same : sender_calls v g ≡ sender_calls v k
  same = others_add_none v k others none

  count : length (sender_calls v k) ≡ total_calls v g
  count = ap length (sym same) ∙ counted d a g v legal

  full : is_full g v ≡ true → sender_calls v (after_call d a v c g) ≡ take 32 (sender_calls v k ++ c ∷ [])
  unfolding after_call
  full e =
      let h_is : after_call d a v c g ≡ g =
      ap (λ r. if is_sender_full r then g else g ++ call_entry v (height g) c (history_reply d a g v c) ∷ []) (full_reply d a g v c e) in
      let n : length (sender_calls v k) ≡ total_calls v g = count in
      let most : length (sender_calls v g) ≤ 32 = few d a g v legal near in
      let most_k : length (sender_calls v k) ≤ 32 = subst (λ cs. length cs ≤ 32) same most in
      let least : 32 ≤ total_calls v g = leb-true 32 _ e in
      ap (sender_calls v) h_is
      ∙ (same ∙ sym (take-append-le 32 (sender_calls v k) (c ∷ []) (omega arith) ∙ take_all 32 (sender_calls v k) most_k))

  free : is_full g v ≡ false → sender_calls v (after_call d a v c g) ≡ take 32 (sender_calls v k ++ c ∷ [])
  unfolding after_call
  free e =
      let room = has_room d a g v c (history_reply d a g v c) e refl in
      let entry : Entry = call_entry v (height g) c (history_reply d a g v c) in
      let h_is : after_call d a v c g ≡ g ++ entry ∷ [] =
      ap (λ b. if b then g else g ++ call_entry v (height g) c (history_reply d a g v c) ∷ []) (not_sender_full (history_reply d a g v c) room) in
      let one : sender_calls v (entry ∷ []) ≡ c ∷ [] = ap (λ b. with_optional_call (if b then Some c else None) []) (eq-eqb v v refl) in
      let n : length (sender_calls v k) ≡ total_calls v g = count in
      let less : total_calls v g < 32 = room_of d a g v c (history_reply d a g v c) refl room in
      let long : length (sender_calls v k ++ c ∷ []) ≡ length (sender_calls v k) + 1 = length-append (sender_calls v k) (c ∷ []) in
      ap (sender_calls v) h_is ∙ (calls_append v g (entry ∷ []) ∙ (ap (λ cs. cs ++ sender_calls v (entry ∷ [])) same
      ∙ (ap (λ cs. sender_calls v k ++ cs) one ∙ sym (take_all 32 (sender_calls v k ++ c ∷ []) (omega arith)))))

  by_room : (b : Bool) → is_full g v ≡ b → sender_calls v (after_call d a v c g) ≡ take 32 (sender_calls v k ++ c ∷ [])
  by_room true e = full e
  by_room false e = free e

  pub one_more : sender_calls v (after_call d a v c g) ≡ take 32 (sender_calls v k ++ c ∷ [])
  one_more = by_room (is_full g v) refl
