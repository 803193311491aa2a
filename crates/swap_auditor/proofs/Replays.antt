-- A replayed entry is the stated one, where its reply is.
use Rattle.std.proofs.Common.{◌≡◌, ◌≢◌, ℕ, ◌+◌, ◌≤◌, ◌<◌, Bool, true, false, cond, List, [], ◌∷◌, ◌++◌, length, get_or, take, drop, Result, Ok, Err}
use Rattle.std.proofs.Common.{refl, sym, ap, ◌∙◌, subst, arith, add-one, drop-cons, below_more}
use Rattle.std.proofs.Math.Nat.{min-eq_left}
use Rattle.std.proofs.lemmas.List.{take_more, take_all, nil_from_length, length-drop, get_or_default}
use Rattle.swap_base.specs.Fault.{◌>>=◌, Fails}
use Rattle.swap_base.specs.declared.fault.Fault.{Fault}
use Rattle.swap_base.specs.declared.fault.Fault.TheVariants.{Refused, NoMemory}
use Rattle.swap_digraph.specs.declared.deal.Deal.{Deal}
use Rattle.escrow_core.specs.declared.reply.Reply.{Reply}
use Rattle.escrow_core.specs.declared.reply.Reply.TheVariants.{SenderFull}
use Rattle.ledger_core.specs.declared.entry.Call.{Call}
use Rattle.ledger_core.specs.declared.entry.Sender.{Sender}
use Rattle.ledger_core.specs.declared.entry.Sender.TheVariants.{Party, Clock}
use Rattle.ledger_core.specs.declared.entry.What.{What}
use Rattle.ledger_core.specs.declared.entry.What.TheVariants.{Call as Made, Tick}
use Rattle.ledger_core.specs.declared.entry.Entry.{Entry}
use Rattle.swap_base.proofs.Lists.{all_moments_front}
use Rattle.ledger_core.specs.History.{height, IsLegal, IsLegalMoment}
use Rattle.ledger_core.specs.Book.{Histories, history, IsLegalBook}
use Rattle.ledger_core.specs.Ledger.{call_entry, tick_entry}
use Rattle.ledger_core.proofs.Bounds.{bounds}
use Rattle.ledger_core.proofs.Units.{units}
use Rattle.swap_auditor.specs.declared.replay.BadReply.{BadReply}
use Rattle.swap_auditor.specs.Replies.{same_reply}
use Rattle.ledger_core.specs.WellFormed.{written_height, IsFormedCall, IsFormedTick, IsFormedWhat, IsFormedEntry, IsFormed, IsWellFormed, IsFormedContinuation}
use Rattle.swap_auditor.specs.Audit.{replayed, with_entry, replay, replay_histories, AreUnitsConserved}

-- Entries.

-- the height of a legal history is written as it is, and so is that after one more tick
low_height : (n k : ℕ) → n ≤ 1000000 → k ≤ 1000000 → written_height (n + k) ≡ n + k
low_height n k l m = min-eq_left (omega arith)

same_entry : (e : Entry) (s : Sender) (h : ℕ) (w : What) (r : Reply) → e.sender ≡ s → e.height ≡ h → e.what ≡ w → e.reply ≡ r
    → record { sender = s; height = h; what = w; reply = r } ≡ e
same_entry e s h w r a b c d =
    ap (λ (x : Sender). record { sender = x; height = h; what = w; reply = r }) (sym a)
    ∙ ap (λ (x : ℕ). record { sender = e.sender; height = x; what = w; reply = r }) (sym b)
    ∙ ap (λ (x : What). record { sender = e.sender; height = e.height; what = x; reply = r }) (sym c)
    ∙ ap (λ (x : Reply). record { sender = e.sender; height = e.height; what = e.what; reply = x }) (sym d)

pub formed_call : (d : Deal) (a : ℕ) (past : List Entry) (e : Entry) (p : ℕ) (c : Call) → IsFormedEntry d a past e → e.sender ≡ Party p
    → e.what ≡ Made c → IsFormedCall d a past p c e.height
formed_call d a past e p c f s w =
    subst (λ (x : What). IsFormedWhat d a past (Party p) x e.height) w (subst (λ (x : Sender). IsFormedWhat d a past x e.what e.height) s f.what)

pub formed_tick : (d : Deal) (a : ℕ) (past : List Entry) (e : Entry) (k : ℕ) → IsFormedEntry d a past e → e.sender ≡ Clock → e.what ≡ Tick k
    → IsFormedTick past k e.height
formed_tick d a past e k f s w =
    subst (λ (x : What). IsFormedWhat d a past Clock x e.height) w (subst (λ (x : Sender). IsFormedWhat d a past x e.what e.height) s f.what)

pub call_is : (d : Deal) (a : ℕ) (past : List Entry) (e : Entry) (p : ℕ) (c : Call) (r : Reply) → IsLegal d a past → IsFormedEntry d a past e
    → e.sender ≡ Party p → e.what ≡ Made c → e.reply ≡ r → call_entry p (height past) c r ≡ e
call_is d a past e p c r l f s w is =
    let k = formed_call d a past e p c f s w in
    let low = (bounds d a past l).low in
    let at : written_height (height past) ≡ height past = min-eq_left (omega arith) in
    same_entry e (Party p) (height past) (Made c) r s (k.height ∙ at) w is

pub tick_is : (d : Deal) (a : ℕ) (past : List Entry) (e : Entry) (k : ℕ) (r : Reply) → IsLegal d a past → IsFormedEntry d a past e → e.sender ≡ Clock
    → e.what ≡ Tick k → e.reply ≡ r → tick_entry k (height past + k) r ≡ e
tick_is d a past e k r l f s w is =
    let t = formed_tick d a past e k f s w in
    same_entry e Clock (height past + k) (Tick k) r s (t.height ∙ low_height (height past) k (bounds d a past l).low t.below) w is

-- what a call leaves, where the stated reply is the replayed one
pub call_after : (d : Deal) (a : ℕ) (past new : List Entry) (e : Entry) (p : ℕ) (c : Call) (r : Reply) → IsLegal d a past → IsFormedEntry d a past e
    → e.sender ≡ Party p → e.what ≡ Made c → (r ≢ SenderFull → new ≡ past ++ call_entry p (height past) c r ∷ []) → e.reply ≡ r → new ≡ past ++ e ∷ []
call_after d a past new e p c r l f s w kept is =
    kept (λ full. f.sender_not_full (is ∙ full)) ∙ ap (λ (x : Entry). past ++ x ∷ []) (call_is d a past e p c r l f s w is)

pub no_other : (d : Deal) (a : ℕ) (past : List Entry) (e : Entry) (s : Sender) (w : What) → IsFormedEntry d a past e → e.sender ≡ s → e.what ≡ w
    → IsFormedWhat d a past s w e.height
no_other d a past e s w f x y =
    subst (λ (z : What). IsFormedWhat d a past s z e.height) y (subst (λ (z : Sender). IsFormedWhat d a past z e.what e.height) x f.what)

-- One step of a replay.

chosen : {A R : Type 0} (b : Bool) (x : A) (y : R) → b ≡ true → cond {A = Result A R} b (Ok x) (Err y) ≡ Ok x
chosen true x y e = refl
chosen false x y e = absurd (cc e)

refused : {A R : Type 0} (b : Bool) (x : A) (y : R) → b ≡ false → cond {A = Result A R} b (Ok x) (Err y) ≡ Err y
refused true x y e = absurd (cc e)
refused false x y e = refl

taken : {A R : Type 0} (b : Bool) (x t : A) (y : R) → cond {A = Result A R} b (Ok x) (Err y) ≡ Ok t → t ≡ x
taken true x t y e = cc
taken false x t y e = absurd (cc e)

pub entry_stands : (d : Deal) (a : ℕ) (past new : List Entry) (e : Entry) (r : Reply) → r ≡ replayed d a past e.sender e.what
    → same_reply e.reply r ≡ true → new ≡ past ++ e ∷ [] → with_entry d a past e ≡ Ok new
entry_stands d a past new e r is same n =
    chosen (same_reply e.reply (replayed d a past e.sender e.what)) (past ++ e ∷ []) _ (ap (same_reply e.reply) (sym is) ∙ same)
    ∙ ap (λ (h : List Entry). Ok h) (sym n)

pub entry_is_bad : (d : Deal) (a : ℕ) (past : List Entry) (e : Entry) (r : Reply) (b : BadReply) → r ≡ replayed d a past e.sender e.what
    → same_reply e.reply r ≡ false → b ≡ record { arc = a; entry = length past; stated = e.reply; replayed = r } → with_entry d a past e ≡ Err b
entry_is_bad d a past e r b is same n =
    refused (same_reply e.reply (replayed d a past e.sender e.what)) (past ++ e ∷ []) _ (ap (same_reply e.reply) (sym is) ∙ same)
    ∙ ap (λ (x : Reply). Err (record { arc = a; entry = length past; stated = e.reply; replayed = x })) (sym is)
    ∙ ap (λ (x : BadReply). Err x) (sym n)

pub entry_kept : (d : Deal) (a : ℕ) (past new : List Entry) (e : Entry) → with_entry d a past e ≡ Ok new → new ≡ past ++ e ∷ []
entry_kept d a past new e k = taken (same_reply e.reply (replayed d a past e.sender e.what)) (past ++ e ∷ []) new _ k

-- The entries of a history.

next : (xs : List Entry) (i : ℕ) (x : Entry) → i < length xs → x ≡ get_or xs i x → drop i xs ≡ x ∷ drop (i + 1) xs
next xs i x lt is = rw (add-one, drop-cons xs i x, ← is) refl

pub formed_now : (d : Deal) (a : ℕ) (past xs : List Entry) (i : ℕ) (x : Entry) → i < length xs → x ≡ get_or xs i x → IsFormedContinuation d a past (drop i xs)
    → IsFormedEntry d a past x
formed_now d a past xs i x lt is g = (rw (next xs i x lt is) at g).0

pub formed_on : (d : Deal) (a : ℕ) (past new xs : List Entry) (i : ℕ) (x : Entry) → i < length xs → x ≡ get_or xs i x → new ≡ past ++ x ∷ []
    → IsFormedContinuation d a past (drop i xs) → IsFormedContinuation d a new (drop (i + 1) xs)
formed_on d a past new xs i x lt is e g = rw e ((rw (next xs i x lt is) at g).1)

pub past_on : (past new xs : List Entry) (i : ℕ) (x : Entry) → i < length xs → x ≡ get_or xs i x → new ≡ past ++ x ∷ [] → past ≡ take i xs
    → new ≡ take (i + 1) xs
past_on past new xs i x lt is e p = e ∙ ap (λ (h : List Entry). h ++ x ∷ []) p ∙ ap (λ (y : Entry). take i xs ++ y ∷ []) is ∙ sym (take_more xs i x lt)

pub past_all : (past xs : List Entry) (i : ℕ) → length xs ≤ i → past ≡ take i xs → past ≡ xs
past_all past xs i le p = p ∙ take_all i xs le

-- at every prefix of a legal book's histories the units add up
pub units_add_up : (d : Deal) (b : Histories) → IsLegalBook d b → AreUnitsConserved d b
units_add_up d b l a h rest lt e =
    (units d a h (all_moments_front (IsLegalMoment d a) h rest (subst (IsLegal d a) e (l.legal a (omega (arith, l.one_each)))))).total

-- The histories of a book.

module _ (d : Deal) (b : Histories) where
  -- what is left of the histories
  abbrev pub left : ℕ → Result (Unit {0}) BadReply
  left i = replay_histories d i (drop i b)

  step : (i : ℕ) (h : List Entry) → i < length b → h ≡ get_or b i h → left i ≡ replay d i h >>= λ _. left (i + 1)
  step i h lt is = let e : drop i b ≡ h ∷ drop (i + 1) b = rw (add-one, drop-cons b i h, ← is) refl in ap (replay_histories d i) e

  pub book_on : (i : ℕ) (h t : List Entry) (total : Result (Unit {0}) BadReply) → i < length b → h ≡ get_or b i h → replay d i h ≡ Ok t → left i ≡ total
      → left (i + 1) ≡ total
  book_on i h t total lt is e so_far = sym (step i h lt is ∙ ap (λ (r : Result (List Entry) BadReply). r >>= λ _. left (i + 1)) e) ∙ so_far

  pub book_fails : (e : Fault BadReply) (i : ℕ) (h : List Entry) (total : Result (Unit {0}) BadReply) → i < length b → h ≡ get_or b i h
      → Fails e (replay d i h) → left i ≡ total → Fails e total
  book_fails NoMemory i h total lt is f so_far = tt
  book_fails (Refused r) i h total lt is f so_far = sym so_far ∙ step i h lt is ∙ ap (λ (x : Result (List Entry) BadReply). x >>= λ _. left (i + 1)) f

  pub book_done : (i : ℕ) (total : Result (Unit {0}) BadReply) → length b ≤ i → left i ≡ total → total ≡ Ok tt
  book_done i total le so_far = sym so_far ∙ ap (replay_histories d i) (nil_from_length (drop i b) (omega (arith, length-drop i b)))

  -- the histories before arc i are legal
  abbrev pub AreLegalBefore : ℕ → Type 0
  AreLegalBefore i = (a : ℕ) → a < i → IsLegal d a (history b a)

  pub legal_on : (i : ℕ) (h : List Entry) → i < length b → h ≡ get_or b i h → IsLegal d i h → AreLegalBefore i → AreLegalBefore (i + 1)
  legal_on i h lt is l before = below_more (λ a. IsLegal d a (history b a)) i before (subst (IsLegal d i) (is ∙ get_or_default b i h [] lt) l)

  pub book_is_legal : (i : ℕ) → IsWellFormed d b → length b ≤ i → AreLegalBefore i → IsLegalBook d b
  book_is_legal i f le before = record { one_each = f.one_each; legal = λ a lt. before a (omega arith) }

  pub formed_at : (i : ℕ) (h : List Entry) → i < length b → h ≡ get_or b i h → IsWellFormed d b → IsFormed d i h
  formed_at i h lt is f = subst (IsFormed d i) (sym (is ∙ get_or_default b i h [] lt)) (f.formed i lt)
