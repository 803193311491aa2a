-- A legal history with its successive ticks told as one.
use Rattle.std.proofs.Common.{◌≡◌, ◌≢◌, ℕ, ◌+◌, ◌<◌, ◌≤◌, ◌==◌, nat_lt, nat_le, Bool, true, false, cond, not, ◌&&◌, ◌||◌, List, [], ◌∷◌, ◌++◌}
use Rattle.std.proofs.Common.{Option, None, is_some, is_none, refl, sym, ap, ap₂, ◌∙◌, subst, arith, le-ltb}
use Rattle.std.specs.List.{AllByRecursion}
use Rattle.std.proofs.lemmas.Bool.{lt-leb}
use Rattle.std.proofs.lemmas.List.Sums.{sum_by-cons}
use Rattle.swap_base.specs.Lists.{or_else, first_given_answer, moments_after_past}
use Rattle.swap_base.proofs.Lists.{first_given_answer-append, or_else-none, and_parts, and_both}
use Rattle.swap_digraph.specs.declared.deal.Deal.{Deal}
use Rattle.swap_digraph.specs.Deal.{party}
use Rattle.escrow_core.specs.declared.reply.Reply.{Reply}
use Rattle.escrow_core.specs.declared.reply.Reply.TheVariants.{Accepted, NotParty, NoContract, AlreadyPublished, NoFunds, SenderFull, ClockFull}
use Rattle.escrow_core.specs.Table.{first_row, unlock_rows, claim_rows, refund_rows}
use Rattle.ledger_core.specs.declared.entry.Call.{Call}
use Rattle.ledger_core.specs.declared.entry.Call.TheVariants.{Publish, Unlock, Claim, Refund, Transfer}
use Rattle.ledger_core.specs.declared.entry.Sender.{Sender}
use Rattle.ledger_core.specs.declared.entry.Sender.TheVariants.{Party, Clock}
use Rattle.ledger_core.specs.declared.entry.What.{What}
use Rattle.ledger_core.specs.declared.entry.What.TheVariants.{Call as Made, Tick}
use Rattle.ledger_core.specs.declared.entry.Entry.{Entry}
use Rattle.ledger_core.specs.declared.accounts.Accounts.{Accounts}
use Rattle.ledger_core.specs.declared.facts.Settlement.{Settlement}
use Rattle.ledger_core.specs.History.{entry_ticks, height, accepted, accepted_call, Publication, publication, published, opening, opened, settling, settled}
use Rattle.ledger_core.specs.History.{is_open, publication_terms, accounts, moved, is_clock_full, is_sender, is_tick, rows, history_reply, reply_to_tick}
use Rattle.ledger_core.specs.History.{IsLegalTick, IsLegalEntry, IsLegalMoment}
use Rattle.ledger_core.proofs.Bounds.{total_calls, run_ticks, calls-push, ticks-push, height-push, tick_room}
use Rattle.ledger_core.proofs.Units.{accounts-push}
use Rattle.swap_rules.specs.Party.{pick_call}
use Rattle.swap_rules.specs.Rest.{is_ticking}
use Rattle.wallet_promise.specs.WithoutNoise.{SaysTheSame, as_one, join, merged}
use Rattle.wallet_promise.specs.BookLaws.{MergedIsLegal}
use Rattle.wallet_promise.proofs.Merging.{ticks_may_be_merged}

-- What replies go by stands in both, and the one has no more ticks.
record Alike (d : Deal) (a : ℕ) (h k : List Entry) : Type 0 where
  height : height k ≡ height h
  accounts : accounts d a k ≡ accounts d a h
  published : published k ≡ published h
  opened : (i : ℕ) → opened k i ≡ opened h i
  settled : settled k ≡ settled h
  calls : (p : ℕ) → total_calls p k ≡ total_calls p h
  ticks : run_ticks k ≤ run_ticks h

abbrev balance_in : Deal → ℕ → Accounts → ℕ → ℕ
balance_in d a b p = cond (p == party d a) b.party b.counterparty

abbrev all_rows : Deal → ℕ → Accounts → Option Publication → (ℕ → Bool) → Option Settlement → (full : Bool) → (at p : ℕ) → Call → List (Bool × Reply)
all_rows d a b o is_open s full at p (Publish terms) =
    (full, SenderFull) ∷ (not (p == party d a), NotParty) ∷ (is_some o, AlreadyPublished)
    ∷ (nat_lt (balance_in d a b p) terms.amount, NoFunds (balance_in d a b p)) ∷ []
all_rows d a b o is_open s full at p (Unlock key) =
    (full, SenderFull) ∷ (is_none o, NoContract) ∷ unlock_rows d a (publication_terms o) is_open (is_some s) at p key
all_rows d a b o is_open s full at p Claim = (full, SenderFull) ∷ (is_none o, NoContract) ∷ claim_rows d a is_open (is_some s) p
all_rows d a b o is_open s full at p Refund =
    (full, SenderFull) ∷ (is_none o, NoContract) ∷ refund_rows d a (publication_terms o) is_open (is_some s) at p
all_rows d a b o is_open s full at p (Transfer to units) =
    (full, SenderFull) ∷ (nat_lt (balance_in d a b p) units, NoFunds (balance_in d a b p)) ∷ []

rows_are : (d : Deal) (a : ℕ) (h : List Entry) (p : ℕ) (c : Call)
    → rows d a h p c ≡ all_rows d a (accounts d a h) (published h) (is_open h) (settled h) (nat_le 32 (total_calls p h)) (height h) p c
unfolding rows
rows_are d a h p (Publish terms) = refl
rows_are d a h p (Unlock key) = refl
rows_are d a h p Claim = refl
rows_are d a h p Refund = refl
rows_are d a h p (Transfer to units) = refl

same_reply : (d : Deal) (a : ℕ) (h k : List Entry) (p : ℕ) (c : Call) → Alike d a h k → history_reply d a k p c ≡ history_reply d a h p c
same_reply d a h k p c s =
    let same_open : is_open k ≡ is_open h = λ j i. is_some (s.opened i j) in
    ap first_row (rows_are d a k p c
    ∙ (ap (λ (x : Accounts). all_rows d a x (published k) (is_open k) (settled k) (nat_le 32 (total_calls p k)) (height k) p c) s.accounts
    ∙ (ap (λ (x : Option Publication). all_rows d a (accounts d a h) x (is_open k) (settled k) (nat_le 32 (total_calls p k)) (height k) p c) s.published
    ∙ (ap (λ (x : ℕ → Bool). all_rows d a (accounts d a h) (published h) x (settled k) (nat_le 32 (total_calls p k)) (height k) p c) same_open
    ∙ (ap (λ (x : Option Settlement). all_rows d a (accounts d a h) (published h) (is_open h) x (nat_le 32 (total_calls p k)) (height k) p c) s.settled
    ∙ (ap (λ (x : ℕ). all_rows d a (accounts d a h) (published h) (is_open h) (settled h) (nat_le 32 x) (height k) p c) (s.calls p)
    ∙ (ap (λ (x : ℕ). all_rows d a (accounts d a h) (published h) (is_open h) (settled h) (nat_le 32 (total_calls p h)) x p c) s.height
    ∙ sym (rows_are d a h p c))))))))

tick_accepts : (b : Bool) (r : Reply) → r ≡ cond b ClockFull Accepted → r ≢ ClockFull → r ≡ Accepted
tick_accepts true r e n = absurd (n e)
tick_accepts false r e n = e

-- a tick for which there is room
roomy : (h : List Entry) (k : ℕ) → run_ticks h < 20000 → height h + k ≤ 1000000 → Accepted ≡ reply_to_tick h k
roomy h k few low =
    let first : nat_le 20000 (run_ticks h) ≡ false = lt-leb 20000 (run_ticks h) few in
    let second : nat_lt 1000000 (height h + k) ≡ false = le-ltb 1000000 (height h + k) low in
    sym (ap₂ (λ x y. cond (x || y) ClockFull Accepted) first second)

still_legal : (d : Deal) (a : ℕ) (h k : List Entry) (s : Sender) (w : What) (at : ℕ) (r : Reply) → Alike d a h k → IsLegalEntry d a h s w at r
    → IsLegalEntry d a k s w at r
still_legal d a h k (Party p) (Made c) at r same l = record {
  of_the_two = l.of_the_two;
  fits = l.fits;
  height = l.height ∙ sym same.height;
  reply = l.reply ∙ sym (same_reply d a h k p c same);
  room = l.room;
}
still_legal d a h k Clock (Tick n) at r same l =
    let room = tick_room h n r l.reply l.room in
    let few = same.ticks in
    let before = room.ticks in
    let below = room.height in
    let high = same.height in
    record {
      some = l.some;
      below = l.below;
      height = l.height ∙ ap (λ x. x + n) (sym same.height);
      reply = tick_accepts (is_clock_full h n) r l.reply l.room ∙ roomy k n (omega arith) (omega arith);
      room = l.room;
    }
still_legal d a h k (Party p) (Tick n) at r same l = absurd l
still_legal d a h k Clock (Made c) at r same l = absurd l

alike_more : (d : Deal) (a : ℕ) (h k : List Entry) (e : Entry) → Alike d a h k → Alike d a (h ++ e ∷ []) (k ++ e ∷ [])
alike_more d a h k e s = record {
  height = height-push k e ∙ (ap (λ n. n + entry_ticks e.what) s.height ∙ sym (height-push h e));
  accounts = accounts-push d a k e ∙ (ap (λ b. moved d a b e.sender (accepted e)) s.accounts ∙ sym (accounts-push d a h e));
  published =
      first_given_answer-append (λ x. publication x.height (accepted x)) k (e ∷ [])
      ∙ (ap (λ o. or_else o (or_else (publication e.height (accepted e)) None)) s.published
      ∙ sym (first_given_answer-append (λ x. publication x.height (accepted x)) h (e ∷ [])));
  opened =
      λ i. first_given_answer-append (λ x. opening i x.height (accepted x)) k (e ∷ [])
      ∙ (ap (λ o. or_else o (or_else (opening i e.height (accepted e)) None)) (s.opened i)
      ∙ sym (first_given_answer-append (λ x. opening i x.height (accepted x)) h (e ∷ [])));
  settled =
      first_given_answer-append (λ x. settling (accepted x)) k (e ∷ []) ∙ (ap (λ o. or_else o (or_else (settling (accepted e)) None)) s.settled
      ∙ sym (first_given_answer-append (λ x. settling (accepted x)) h (e ∷ [])));
  calls = λ p. calls-push k e p ∙ (ap (λ n. n + cond (is_sender p e.sender) 1 0) (s.calls p) ∙ sym (calls-push h e p));
  ticks = let few = s.ticks in omega (arith, ticks-push k e, ticks-push h e);
}

-- what is legal after the one is legal after the other
legal_after : (d : Deal) (a : ℕ) (h k m : List Entry) → Alike d a h k → AllByRecursion (IsLegalMoment d a) (moments_after_past h m)
    → AllByRecursion (IsLegalMoment d a) (moments_after_past k m)
legal_after d a h k [] s l = tt
legal_after d a h k (e ∷ m) s l =
    (still_legal d a h k e.sender e.what e.height e.reply s l.0, legal_after d a (h ++ e ∷ []) (k ++ e ∷ []) m (alike_more d a h k e s) l.1)

-- Two ticks told as one.

idle : (x : Entry) (k : ℕ) → x.what ≡ Tick k → accepted x ≡ None
idle x k w = ap (λ z. accepted_call z x.reply) w

skip : {B : Type 0} (q : Entry → Option B) (h : List Entry) (x : Entry) → q x ≡ None → first_given_answer q (h ++ x ∷ []) ≡ first_given_answer q h
skip q h x o = first_given_answer-append q h (x ∷ []) ∙ (ap (λ z. or_else (first_given_answer q h) (or_else z None)) o ∙ or_else-none (first_given_answer q h))

skip_two : {B : Type 0} (q : Entry → Option B) (h : List Entry) (e f g : Entry) → q e ≡ None → q f ≡ None → q g ≡ None
    → first_given_answer q (h ++ g ∷ []) ≡ first_given_answer q ((h ++ e ∷ []) ++ f ∷ [])
skip_two q h e f g oe of og = skip q h g og ∙ sym (skip q (h ++ e ∷ []) f of ∙ skip q h e oe)

module _ (d : Deal) (a : ℕ) where
  still : (h : List Entry) (x : Entry) → accepted x ≡ None → accounts d a (h ++ x ∷ []) ≡ accounts d a h
  still h x o = accounts-push d a h x ∙ ap (moved d a (accounts d a h) x.sender) o

  two_ticks : (h : List Entry) (e f : Entry) (n m : ℕ) → e.sender ≡ Clock → e.what ≡ Tick n → f.sender ≡ Clock → f.what ≡ Tick m
      → Alike d a ((h ++ e ∷ []) ++ f ∷ []) (h ++ as_one e f ∷ [])
  two_ticks h e f n m se we sf wf =
      let oe = idle e n we in
      let of = idle f m wf in
      record {
        height =
            let one = height-push h e in
            let two = height-push (h ++ e ∷ []) f in
            let three : height (h ++ as_one e f ∷ []) ≡ height h + (entry_ticks e.what + entry_ticks f.what) = height-push h (as_one e f) in
            omega arith;
        accounts = still h (as_one e f) refl ∙ sym (still (h ++ e ∷ []) f of ∙ still h e oe);
        published =
            skip_two (λ x. publication x.height (accepted x)) h e f (as_one e f) (ap (publication e.height) oe) (ap (publication f.height) of) refl;
        opened =
            λ i. skip_two (λ x. opening i x.height (accepted x)) h e f (as_one e f) (ap (opening i e.height) oe) (ap (opening i f.height) of) refl;
        settled = skip_two (λ x. settling (accepted x)) h e f (as_one e f) (ap settling oe) (ap settling of) refl;
        calls =
            λ p. let se2 : ◌≡◌ {A = ℕ} (cond (is_sender p e.sender) 1 0) 0 = ap (λ s. cond {A = ℕ} (is_sender p s) 1 0) se in
            let sf2 : ◌≡◌ {A = ℕ} (cond (is_sender p f.sender) 1 0) 0 = ap (λ s. cond {A = ℕ} (is_sender p s) 1 0) sf in
            let one = calls-push h e p in
            let two = calls-push (h ++ e ∷ []) f p in
            let three : total_calls p (h ++ as_one e f ∷ []) ≡ total_calls p h + cond (is_sender p f.sender) 1 0 = calls-push h (as_one e f) p in
            omega arith;
        ticks =
            let se2 : ◌≡◌ {A = ℕ} (cond (is_tick e.sender) 1 0) 1 = ap (λ s. cond {A = ℕ} (is_tick s) 1 0) se in
            let sf2 : ◌≡◌ {A = ℕ} (cond (is_tick f.sender) 1 0) 1 = ap (λ s. cond {A = ℕ} (is_tick s) 1 0) sf in
            let one = ticks-push h e in
            let two = ticks-push (h ++ e ∷ []) f in
            let three : run_ticks (h ++ as_one e f ∷ []) ≡ run_ticks h + cond (is_tick f.sender) 1 0 = ticks-push h (as_one e f) in
            omega arith;
      }

  -- a tick of a legal history
  record Ticks (h : List Entry) (e : Entry) : Type 0 where
    by : ℕ
    sender : e.sender ≡ Clock
    what : e.what ≡ Tick by
    legal : IsLegalTick h by e.height e.reply

  ticks_at : (h : List Entry) (e : Entry) (s : Sender) (w : What) → e.sender ≡ s → e.what ≡ w → is_ticking w ≡ true
      → IsLegalEntry d a h s w e.height e.reply → Ticks h e
  ticks_at h e Clock (Tick k) es ew t l = record { by = k; sender = es; what = ew; legal = l }
  ticks_at h e (Party p) (Tick k) es ew t l = absurd l
  ticks_at h e s (Made c) es ew t l = absurd (cc t)

  -- two ticks are one legal tick
  one_tick : (h : List Entry) (e f : Entry) → (x : Ticks h e) (y : Ticks (h ++ e ∷ []) f)
      → IsLegalEntry d a h f.sender (Tick (entry_ticks e.what + entry_ticks f.what)) f.height f.reply
  one_tick h e f x y =
      let we : entry_ticks e.what ≡ x.by = ap entry_ticks x.what in
      let wf : entry_ticks f.what ≡ y.by = ap entry_ticks y.what in
      let up = height-push h e in
      let more = ticks-push h e in
      let room = tick_room (h ++ e ∷ []) y.by f.reply y.legal.reply y.legal.room in
      let few = room.ticks in
      let low = room.height in
      let some = x.legal.some in
      let at = y.legal.height in
      subst (λ s. IsLegalEntry d a h s (Tick (entry_ticks e.what + entry_ticks f.what)) f.height f.reply) (sym y.sender)
      (record {
        some = omega arith;
        below = omega arith;
        height = omega arith;
        reply =
            tick_accepts (is_clock_full (h ++ e ∷ []) y.by) f.reply y.legal.reply y.legal.room
            ∙ roomy h (entry_ticks e.what + entry_ticks f.what) (omega arith) (omega arith);
        room = y.legal.room;
      })

  abbrev Stands : List Entry → List Entry → Type 0
  Stands h m = AllByRecursion (IsLegalMoment d a) (moments_after_past h m)

  joined : (h : List Entry) (e : Entry) (m : List Entry) → IsLegalEntry d a h e.sender e.what e.height e.reply → Stands (h ++ e ∷ []) m → Stands h (join e m)
  joined h e [] l s = (l, tt)
  joined h e (f ∷ m) l s = go (is_ticking e.what && is_ticking f.what) refl
    where
      go : (b : Bool) → (is_ticking e.what && is_ticking f.what) ≡ b → Stands h (cond b (as_one e f ∷ m) (e ∷ f ∷ m))
      go false t = (l, s)
      go true t =
          let k = and_parts (is_ticking e.what) (is_ticking f.what) t in
          let x = ticks_at h e e.sender e.what refl refl k.0 l in
          let y = ticks_at (h ++ e ∷ []) f f.sender f.what refl refl k.1 s.0 in (
            one_tick h e f x y,
            legal_after d a ((h ++ e ∷ []) ++ f ∷ []) (h ++ as_one e f ∷ []) m
                (two_ticks h e f x.by y.by x.sender x.what y.sender y.what) s.1,
          )

  merged_after : (h m : List Entry) → Stands h m → Stands h (merged m)
  merged_after h [] s = tt
  merged_after h (e ∷ m) s = joined h e (merged m) s.0 (merged_after (h ++ e ∷ []) m s.1)

-- What it says.

pub says_refl : (v : ℕ) (h : List Entry) → SaysTheSame v h h
says_refl v h = record { height = refl; published = refl; opened = λ i. refl; settled = refl; calls = λ test n. refl }

says_more : (v : ℕ) (e : Entry) (k h : List Entry) → SaysTheSame v k h → SaysTheSame v (e ∷ k) (e ∷ h)
says_more v e k h s = record {
  height =
      sum_by-cons (λ x. entry_ticks x.what) e k ∙ (ap (λ n. entry_ticks e.what + n) s.height ∙ sym (sum_by-cons (λ x. entry_ticks x.what) e h));
  published = ap (or_else (publication e.height (accepted e))) s.published;
  opened = λ i. ap (or_else (opening i e.height (accepted e))) (s.opened i);
  settled = ap (or_else (settling (accepted e))) s.settled;
  calls = λ test n. ap (λ x. test (pick_call v e) || x) (s.calls test n);
}

pub says_on : (v : ℕ) (k h l : List Entry) → SaysTheSame v k h → SaysTheSame v h l → SaysTheSame v k l
says_on v k h l s t = record {
  height = s.height ∙ t.height;
  published = s.published ∙ t.published;
  opened = λ i. s.opened i ∙ t.opened i;
  settled = s.settled ∙ t.settled;
  calls = λ test n. s.calls test n ∙ t.calls test n;
}

says_joined : (v : ℕ) (e : Entry) (m : List Entry) → SaysTheSame v (join e m) (e ∷ m)
says_joined v e [] = says_refl v (e ∷ [])
says_joined v e (f ∷ m) = go (is_ticking e.what && is_ticking f.what) refl
  where
    go : (b : Bool) → (is_ticking e.what && is_ticking f.what) ≡ b → SaysTheSame v (cond b (as_one e f ∷ m) (e ∷ f ∷ m)) (e ∷ f ∷ m)
    go false t = says_refl v (e ∷ f ∷ m)
    go true t =
        let k = and_parts (is_ticking e.what) (is_ticking f.what) t in
        let one : height (as_one e f ∷ []) ≡ (entry_ticks e.what + entry_ticks f.what) + height [] = sum_by-cons (λ x. entry_ticks x.what) (as_one e f) [] in
        let two : height (e ∷ f ∷ []) ≡ entry_ticks e.what + height (f ∷ []) = sum_by-cons (λ x. entry_ticks x.what) e (f ∷ []) in
        let three : height (f ∷ []) ≡ entry_ticks f.what + height [] = sum_by-cons (λ x. entry_ticks x.what) f [] in
        let none : height [] ≡ 0 = refl in
        ticks_may_be_merged v [] (as_one e f ∷ []) (e ∷ f ∷ []) m refl
        (and_both (is_ticking e.what) (is_ticking f.what && true) k.0 (and_both (is_ticking f.what) true k.1 refl)) (omega arith)

pub says_merged : (v : ℕ) (h : List Entry) → SaysTheSame v (merged h) h
says_merged v [] = says_refl v []
says_merged v (e ∷ h) = says_on v (join e (merged h)) (e ∷ merged h) (e ∷ h) (says_joined v e (merged h)) (says_more v e (merged h) h (says_merged v h))

pub merged_is_legal : MergedIsLegal
merged_is_legal d v a h l = (merged_after d a [] h l, says_merged v h)
