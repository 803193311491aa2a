-- Of a useless arc the ticks are told, and nothing that would make it another.
use Rattle.std.proofs.Common.{◌≡◌, ◌⊎◌, ◌&&◌, ◌||◌, ◌==◌, ◌≢◌, ◌+◌, ◌-◌, ◌<◌, ◌^◌, ◌++◌, ℕ, decimal, nat_le, Bool, true, false, not, cond, List, [], ◌∷◌, Option, Some, None, is_some}
use Rattle.std.proofs.Common.{Result, Ok, Err, refl, sym, ap, ◌∙◌, subst, inl, inr, append_assoc, eqb-true, eq-eqb}
use Rattle.std.specs.Prelude.{codes}
use Rattle.std.proofs.lemmas.Bool.{false≢true}
use Rattle.swap_base.specs.Lists.{or_else, IsElement, IsMoment}
use Rattle.swap_base.proofs.Lists.{first_given_answer-append, first_given_answer-front, and_both, in_from_moment, none_of, or_else-none}
use Rattle.hashkey_path.proofs.Validity.{bytes_eq-true}
use Rattle.swap_digraph.specs.declared.deal.Deal.{Deal}
use Rattle.swap_digraph.specs.Deal.{counterparty, party}
use Rattle.swap_digraph.specs.Graph.{leaving}
use Rattle.escrow_core.specs.declared.terms.Terms.{Terms}
use Rattle.escrow_core.specs.declared.reply.Reply.{Reply}
use Rattle.escrow_core.specs.declared.reply.Reply.TheVariants.{Accepted, ClockFull}
use Rattle.escrow_core.specs.Terms.{same_terms, stated_terms}
use Rattle.ledger_core.specs.declared.entry.Call.{Call}
use Rattle.ledger_core.specs.declared.entry.Call.TheVariants.{Publish, Unlock, Claim, Refund, Transfer}
use Rattle.ledger_core.specs.declared.entry.Sender.{Sender}
use Rattle.ledger_core.specs.declared.entry.Sender.TheVariants.{Party, Clock}
use Rattle.ledger_core.specs.declared.entry.What.{What}
use Rattle.ledger_core.specs.declared.entry.What.TheVariants.{Call as Made, Tick}
use Rattle.ledger_core.specs.declared.entry.Entry.{Entry}
use Rattle.ledger_core.specs.History.{accepted, accepted_call, height, is_clock_full, is_sender, publication, published, made_call, Publication}
use Rattle.ledger_core.specs.Ledger.{tick_entry}
use Rattle.swap_rules.specs.Party.{is_arc_correct, pick_call}
use Rattle.swap_rules.specs.Due.{has_called}
use Rattle.swap_rules.specs.Rest.{is_ticking}
use Rattle.swap_auditor.specs.declared.replay.BadReply.{BadReply}
use Rattle.swap_auditor.specs.Audit.{with_entry}
use Rattle.swap_auditor.proofs.Replays.{entry_kept}
use Rattle.wallet_promise.specs.WithoutNoise.{AreUseless}
use Rattle.wallet_promise.proofs.Filters.{any-append}
use Rattle.wallet_promise.proofs.Merging.{no_accepted}
use Rattle.typed_books.specs.Typed.{IsTypedReply, IsTypedSender, IsTypedWhat}
use Rattle.transcript_book.specs.declared.said.Misspelling.{Misspelling}
use Rattle.transcript_book.specs.Between.{separated_parts, spaced}
use Rattle.transcript_book.specs.Reading.{is_word, misspelt, parse_first_field}
use Rattle.transcript_book.specs.Words.{entry_words}
use Rattle.transcript_book.specs.Lines.{IsStatable, entry_line}
use Rattle.transcript_book.specs.Stated.{IsTyped}
use Rattle.transcript_book.proofs.Placed.{entry_is}
use Rattle.told_ledgers.specs.declared.kind.Kind.{Kind}
use Rattle.told_ledgers.specs.declared.kind.Kind.TheVariants.{Read, Refused, Noise, Publish as PublishLine, Accepted as AcceptedLine}
use Rattle.told_ledgers.specs.declared.told_ledger.OwnUnlock.{OwnUnlock}
use Rattle.told_ledgers.specs.declared.one_ledger.Heard.{Heard}
use Rattle.told_ledgers.specs.declared.one_ledger.Heard.TheVariants.{More, Bad}
use Rattle.told_ledgers.specs.SoFar.{LedgerSoFar}
use Rattle.told_ledgers.specs.Words as words
use Rattle.told_ledgers.specs.Words.{foreign_kind, line_kind, line_tick, nth_word, words_tick}
use Rattle.told_ledgers.specs.Ledger.{bad_entry, is_correct_publish, is_first_accepted, is_passed, is_refused, line_heard, kind_line_read, most_height, nothing_read}
use Rattle.told_ledgers.specs.Ledger.{publishes, replied, stated_entry, with_refused, with_stated, with_tick, with_tick_or_entry, with_ticks}
use Rattle.told_ledgers.proofs.Kept.{HeardSame, heard_same}
use Rattle.program_laws.specs.Apart.{all_heard, heard_ledger, then_heard}
use Rattle.program_laws.specs.Enough.{IsForeignLine, IsKindOfCall, SayEntries, SaysEntry, call_kind, is_accepting, is_for_want_of_funds, is_publish_call, is_transfer_call}
use Rattle.program_laws.specs.Enough.{may_be_repeated, own_call_kind}
use Rattle.program_laws.proofs.ByWords.{call_parts, other_kind, own_kind, tick_kind, tick_parts}

-- What was taken makes no call of v, and publishes nothing.
pub record IsIdle (v : ℕ) (k : List Entry) : Type 0 where
  pub unpublished : published k ≡ None
  pub calls : (test : Option Call → Bool) → test None ≡ false → has_called v test k ≡ false

pub idle_first : (v : ℕ) → IsIdle v []
idle_first v = record { unpublished = refl; calls = λ test n. refl }

-- the entry is no call of v, and publishes nothing
pub record IsQuiet (v : ℕ) (x : Entry) : Type 0 where
  pub unpublished : publication x.height (accepted x) ≡ None
  pub call : pick_call v x ≡ None

pub published_more : (k : List Entry) (x : Entry) → published (k ++ x ∷ []) ≡ or_else (published k) (or_else (publication x.height (accepted x)) None)
published_more k x = first_given_answer-append (λ e. publication e.height (accepted e)) k (x ∷ [])

pub published_still : (k : List Entry) (x : Entry) → publication x.height (accepted x) ≡ None → published (k ++ x ∷ []) ≡ published k
published_still k x none =
    published_more k x ∙ ap (λ (o : Option Publication). or_else (published k) (or_else o None)) none ∙ or_else-none (published k)

idle_more : (v : ℕ) (k : List Entry) (x : Entry) → IsIdle v k → IsQuiet v x → IsIdle v (k ++ x ∷ [])
idle_more v k x i q = record {
  unpublished = published_still k x q.unpublished ∙ i.unpublished;
  calls = λ test n. any-append (λ e. test (pick_call v e)) k (x ∷ []) ∙ ap (λ t. t || (test (pick_call v x) || false)) (i.calls test n)
      ∙ ap (λ (o : Option Call). test o || false) q.call ∙ ap (λ t. t || false) n;
}

-- ---- what a line can state

pub accepted_or : (c : Call) (r : Reply) → (accepted_call (Made c) r ≡ Some c) ⊎ (accepted_call (Made c) r ≡ None)
accepted_or c Accepted = inl refl
accepted_or c _ = inr refl

no_publish : (t : ℕ) (c : Call) → is_publish_call c ≡ false → publication t (Some c) ≡ None
no_publish t (Publish terms) e = absurd (cc e)
no_publish t (Unlock key) e = refl
no_publish t Claim e = refl
no_publish t Refund e = refl
no_publish t (Transfer to units) e = refl

pub unpublishing : (t : ℕ) (c : Call) (r : Reply) → is_publish_call c ≡ false → publication t (accepted_call (Made c) r) ≡ None
unpublishing t c r e = by (accepted_or c r)
  where
    by : (accepted_call (Made c) r ≡ Some c) ⊎ (accepted_call (Made c) r ≡ None) → publication t (accepted_call (Made c) r) ≡ None
    by (inl q) = ap (publication t) q ∙ no_publish t c e
    by (inr q) = ap (publication t) q

-- a call that isn't accepted publishes nothing
pub refused_or : (r : Reply) → is_accepting r ≡ false → (c : Call) → accepted_call (Made c) r ≡ None
refused_or Accepted e c = absurd (cc e)
refused_or _ e c = refl

abbrev kind_by : (accepted transfer publish : Bool) → Kind
kind_by x y z = cond (not x || y) Noise (cond z PublishLine AcceptedLine)

-- noise publishes nothing
noise_by : (t : ℕ) (c : Call) (r : Reply) (x : Bool) → is_accepting r ≡ x → kind_by x (is_transfer_call c) (is_publish_call c) ≡ Noise
    → publication t (accepted_call (Made c) r) ≡ None
noise_by t c r false q k = ap (publication t) (refused_or r q c)
noise_by t (Publish terms) r true q k = absurd (cc k)
noise_by t (Unlock key) r true q k = unpublishing t (Unlock key) r refl
noise_by t Claim r true q k = unpublishing t Claim r refl
noise_by t Refund r true q k = unpublishing t Refund r refl
noise_by t (Transfer to units) r true q k = unpublishing t (Transfer to units) r refl

pub noise_unpublishing : (t : ℕ) (c : Call) (r : Reply) → call_kind c r ≡ Noise → publication t (accepted_call (Made c) r) ≡ None
noise_unpublishing t c r k = noise_by t c r (is_accepting r) refl k

accepted_only : (c : Call) (r : Reply) (a b : Bool) → is_publish_call c ≡ b → cond a Noise (cond b PublishLine AcceptedLine) ≡ AcceptedLine
    → is_publish_call c ≡ false
accepted_only c r true b m q = absurd (cc q)
accepted_only c r false true m q = absurd (cc q)
accepted_only c r false false m q = m

read_not : Read ≡ AcceptedLine → ⊥
read_not q = cc q

own_not : (c : Call) (r : Reply) → own_call_kind c r ≡ AcceptedLine → ⊥
own_not c r e = by ((may_be_repeated c || (is_publish_call c && is_for_want_of_funds r)) && not (is_accepting r)) e
  where
    by : (b : Bool) → cond b Refused Read ≡ AcceptedLine → ⊥
    by true q = cc q
    by false q = cc q

tick_word : (n : ℕ) (r : Reply) (p : ℕ) (c : Call) (q : Reply) → entry_words Clock (Tick n) r ≡ entry_words (Party p) (Made c) q → ⊥
tick_word n r p c q e = false≢true (sym (ap (λ (ws : List (List ℕ)). is_word (nth_word 0 ws) (codes "t")) e))

-- what an entry's line can state by its words
module _ (v : ℕ) (small : v < 256) where
  call_quiet : (x : Entry) (p : ℕ) (c : Call) (t : Bool) → x.sender ≡ Party p → x.what ≡ Made c → p < 256 → (p == v) ≡ t
      → line_kind v (entry_words (Party p) (Made c) x.reply) ≡ AcceptedLine → IsQuiet v x
  call_quiet x p c true es ew lp e k =
      absurd (own_not c x.reply (sym (ap (λ q. line_kind v (entry_words (Party q) (Made c) x.reply)) (eqb-true p v e) ∙ own_kind v c x.reply) ∙ k))
  call_quiet x p c false es ew lp e k = record {
    unpublished = ap (λ (w : What). publication x.height (accepted_call w x.reply)) ew ∙ unpublishing x.height c x.reply
        (accepted_only c x.reply (not (is_accepting x.reply) || is_transfer_call c) (is_publish_call c) refl
        (sym (other_kind v p c x.reply lp small (λ q. false≢true (sym e ∙ eq-eqb p v q))) ∙ k));
    call = ap (λ (s : Sender). cond (is_sender v s) (made_call x.what) None) es ∙ ap (λ t. cond t (made_call x.what) None) e;
  }

  -- the line of an accepted call of somebody else that is no publish
  foreign_by : (x : Entry) (s : Sender) (w : What) → x.sender ≡ s → x.what ≡ w → IsTypedSender s → IsTypedWhat w → IsTypedReply x.reply
      → line_kind v (separated_parts 32 (spaced (entry_words s w x.reply))) ≡ AcceptedLine → IsQuiet v x
  foreign_by x (Party p) (Made c) es ew ts tw tr k =
      call_quiet x p c (p == v) es ew ts refl (sym (ap (line_kind v) (call_parts p c x.reply ts tw tr)) ∙ k)
  foreign_by x Clock (Tick n) es ew ts tw tr k =
      absurd (read_not (sym (ap (line_kind v) (tick_parts n x.reply tw) ∙ tick_kind v n x.reply) ∙ k))
  foreign_by x (Party p) (Tick n) es ew ts tw tr k = absurd (read_not k)
  foreign_by x Clock (Made c) es ew ts tw tr k = absurd (read_not k)

  pub foreign_quiet : (x : Entry) (line : List ℕ) → line ≡ entry_line x → IsStatable x → line_kind v (separated_parts 32 line) ≡ AcceptedLine → IsQuiet v x
  foreign_quiet x line is st k =
      foreign_by x x.sender x.what refl refl st.sender st.what st.reply (sym (ap (λ (l : List ℕ). line_kind v (separated_parts 32 l)) is) ∙ k)

  -- the line of a tick
  tick_by : (x : Entry) (n : ℕ) (r : Reply) (s : Sender) (w : What) → x.sender ≡ s → x.what ≡ w → IsTypedSender s → IsTypedWhat w → IsTypedReply x.reply
      → entry_words Clock (Tick n) r ≡ separated_parts 32 (spaced (entry_words s w x.reply)) → IsQuiet v x
  tick_by x n r (Party p) (Made c) es ew ts tw tr e = absurd (tick_word n r p c x.reply (e ∙ call_parts p c x.reply ts tw tr))
  tick_by x n r Clock (Tick k) es ew ts tw tr e = record {
    unpublished = ap (publication x.height) (no_accepted x.what x.reply (ap (λ (w : What). is_ticking w) ew));
    call = ap (λ (s : Sender). cond (is_sender v s) (made_call x.what) None) es;
  }
  tick_by x n r (Party p) (Tick k) es ew ts tw tr e = absurd (no_words e)
    where
      no_words : entry_words Clock (Tick n) r ≡ [] ∷ [] → ⊥
      no_words q = cc q
  tick_by x n r Clock (Made c) es ew ts tw tr e = absurd (no_words e)
    where
      no_words : entry_words Clock (Tick n) r ≡ [] ∷ [] → ⊥
      no_words q = cc q

  pub tick_quiet : (x : Entry) (n : ℕ) (r : Reply) (line : List ℕ) → n < 2 ^ 32 → line ≡ spaced (entry_words Clock (Tick n) r) → line ≡ entry_line x
      → IsStatable x → IsQuiet v x
  tick_quiet x n r line lt tick is st =
      tick_by x n r x.sender x.what refl refl st.sender st.what st.reply (sym (tick_parts n r lt) ∙ ap (separated_parts 32) (sym tick ∙ is))

-- a line that ticks begins with the word of a tick, so its kind is another
no_sign : (x : List ℕ) (ws : List (List ℕ)) → is_word x (codes "t") ≡ false → words_tick (x ∷ ws) ≡ misspelt
unfolding words_tick parse_first_field
no_sign x ws q = rw q

word_of_tick : (ws : List (List ℕ)) (j : ℕ) → words_tick ws ≡ Ok j → is_word (nth_word 0 ws) (codes "c") ≡ false
word_of_tick [] j e = refl
word_of_tick (x ∷ ws) j e = by (is_word x (codes "t")) refl
  where
    by : (b : Bool) → is_word x (codes "t") ≡ b → is_word x (codes "c") ≡ false
    by true q = ap (λ (l : List ℕ). is_word l (codes "c")) (bytes_eq-true x (codes "t") q)
    by false q = absurd (cc (sym e ∙ no_sign x ws q))

pub tick_line_kind : (v : ℕ) (line : List ℕ) (j : ℕ) → line_tick line ≡ Ok j → line_kind v (separated_parts 32 line) ≡ PublishLine → ⊥
unfolding line_tick
tick_line_kind v line j e k =
    let ws = separated_parts 32 line in
    absurd (cc (sym (ap (λ b. cond (not b) Read (cond (is_word (nth_word 1 ws) (decimal v)) (words.own_kind ws) (foreign_kind ws))) (word_of_tick ws j e)) ∙ k))

-- ---- a line of a useless arc

-- ticks publish nothing, and are no calls
idle_ticks : (v : ℕ) (k : List Entry) (w : ℕ) → IsIdle v k → IsIdle v (with_ticks k w)
idle_ticks v k w i = by ((w == 0) || is_clock_full k w)
  where
    by : (b : Bool) → IsIdle v (cond b k (k ++ tick_entry w (height k + w) Accepted ∷ []))
    by true = i
    by false =
        idle_more v k (tick_entry w (height k + w) Accepted) i (record {
          unpublished = ap (publication (height k + w)) (no_accepted (Tick w) Accepted refl);
          call = refl;
        })

-- what was taken stays idle, and as long as the ledger isn't closed no publish was seen
abbrev StaysIdle : ℕ → Bool → Heard → Type 0
StaysIdle v seen (More t) = IsIdle v t.past × (t.is_closed ≡ false → seen ≡ false)
StaysIdle v seen (Bad t) = IsIdle v t.history

module _ (d : Deal) (v a : ℕ) (n : ℕ) (k : List Entry) (us : List OwnUnlock) (b seen : Bool) (i : IsIdle v k) (unseen : b ≡ false → seen ≡ false) where
  abbrev here : LedgerSoFar
  here = record { deal = d; me = v; arc = a; past = k; waiting = 0; unlocks = us; is_closed = b }

  replied_idle : (x : Entry) (r : Result (List Entry) BadReply) → IsQuiet v x → ((h : List Entry) → r ≡ Ok h → h ≡ k ++ x ∷ [])
      → StaysIdle v seen (replied n here x r)
  replied_idle x (Ok h) q kept = (subst (IsIdle v) (sym (kept h refl)) (idle_more v k x i q), unseen)
  replied_idle x (Err e) q kept = i

  stated_idle : (r : Result Entry Misspelling) → ((x : Entry) → r ≡ Ok x → IsQuiet v x) → StaysIdle v seen (with_stated n here r)
  stated_idle (Ok x) q = replied_idle x (with_entry d a k x) (q x refl) (λ h e. entry_kept d a k h x e)
  stated_idle (Err w) q = i

-- An arc that enters v and not leaves it, of whose ledger this stood before the line, and this is
-- the entry that it tells.
module _ (d : Deal) (v a : ℕ) (small : v < 256) (n : ℕ) (k : List Entry) (w : ℕ) (us : List OwnUnlock) (i : IsIdle v k) (line : List ℕ) where
  abbrev at : Bool → LedgerSoFar
  at b = record { deal = d; me = v; arc = a; past = k; waiting = w; unlocks = us; is_closed = b }

  -- with its ticks as an entry
  abbrev on : Bool → LedgerSoFar
  on b = record { deal = d; me = v; arc = a; past = with_ticks k w; waiting = 0; unlocks = us; is_closed = b }

  abbrev read : Bool → Kind → Heard
  read b kind = with_tick_or_entry n (at b) kind line (line_tick line)

  module _ (b seen : Bool) (unseen : b ≡ false → seen ≡ false) where
    -- it is passed over
    passed_on : (kind : Kind) → is_passed b kind ≡ true → StaysIdle v seen (line_heard n (at b) kind line)
    passed_on kind e =
        subst (StaysIdle v seen)
        (sym (ap (λ t. cond t (More (at b)) (cond (is_refused kind) (with_refused n (at b) (stated_entry (at b) line)) (read b kind))) e)) (i, unseen)

    ticked_on : (j : ℕ) → StaysIdle v seen (with_tick n (at b) j)
    ticked_on j = by (nat_le (height k + w + j) most_height)
      where
        by : (t : Bool) → StaysIdle v seen (cond t (More (record (at b) { waiting = w + j }))
            (bad_entry n (record (at b) { waiting = most_height - height k }) (Some (record { stated = Accepted; replayed = ClockFull }))))
        by true = (i, unseen)
        by false = idle_ticks v k (most_height - height k) i

    -- it is an entry, or closes the ledger
    entered : (kind : Kind) (t : Bool) → (is_first_accepted (on b) kind && not (publishes (on b) (stated_entry (on b) line))) ≡ t
        → (t ≡ false → (x : Entry) → stated_entry (on b) line ≡ Ok x → IsQuiet v x) → StaysIdle v seen (kind_line_read n (on b) kind (stated_entry (on b) line))
    unfolding kind_line_read
    entered kind true e q =
        subst (StaysIdle v seen)
        (sym (ap (λ t. cond t (More (record (on b) { is_closed = true })) (with_stated n (on b) (stated_entry (on b) line))) e))
        (idle_ticks v k w i, λ z. absurd (cc z))
    entered kind false e q =
        subst (StaysIdle v seen)
        (sym (ap (λ t. cond t (More (record (on b) { is_closed = true })) (with_stated n (on b) (stated_entry (on b) line))) e))
        (stated_idle d v a n (with_ticks k w) us b seen (idle_ticks v k w i) unseen (stated_entry (on b) line) (q refl))

    -- it is read
    read_on : (kind : Kind) → is_passed b kind ≡ false → is_refused kind ≡ false
        → ((t : Bool) → (is_first_accepted (on b) kind && not (publishes (on b) (stated_entry (on b) line))) ≡ t → t ≡ false → (x : Entry)
        → stated_entry (on b) line ≡ Ok x → IsQuiet v x)
        → StaysIdle v seen (line_heard n (at b) kind line)
    read_on kind pass refused q =
        subst (StaysIdle v seen)
        (sym (ap (λ t. cond t (More (at b)) (cond (is_refused kind) (with_refused n (at b) (stated_entry (at b) line)) (read b kind))) pass
        ∙ ap (λ t. cond t (with_refused n (at b) (stated_entry (at b) line)) (read b kind)) refused))
        (by (line_tick line))
      where
        by : (r : Result ℕ Misspelling) → StaysIdle v seen (with_tick_or_entry n (at b) kind line r)
        by (Ok j) = ticked_on j
        by (Err e) = entered kind _ refl (q _ refl)

    pub tick_on : (m : ℕ) (r : Reply) → m < 2 ^ 32 → line ≡ spaced (entry_words Clock (Tick m) r)
        → StaysIdle v seen (line_heard n (at b) (line_kind v (separated_parts 32 line)) line)
    tick_on m r lt is =
        subst (λ (kind : Kind). StaysIdle v seen (line_heard n (at b) kind line))
        (sym (ap (λ (l : List ℕ). line_kind v (separated_parts 32 l)) is ∙ ap (line_kind v) (tick_parts m r lt) ∙ tick_kind v m r))
        (read_on Read refl refl (λ t f z x e. let p = entry_is d a (with_ticks k w) line x e in tick_quiet v small x m r line lt is p.line_is p.statable))

  wrong_on : (r : Result Entry Misspelling) → stated_entry (on false) line ≡ r
      → ((x : Entry) → IsStatable x → line ≡ entry_line x → is_correct_publish d a x.sender x.what ≡ false) → publishes (on false) r ≡ false
  wrong_on (Ok x) e c = let p = entry_is d a (with_ticks k w) line x e in c x p.statable p.line_is
  wrong_on (Err f) e c = refl

  -- what somebody else's call makes of the ledger, by its kind
  pub by_kind : (b seen : Bool) (kind : Kind) → (b ≡ false → kind ≢ PublishLine → seen ≡ false) → line_kind v (separated_parts 32 line) ≡ kind
      → (kind ≡ Read → ⊥) → (kind ≡ Refused → ⊥)
      → (kind ≡ PublishLine → b ≡ false → (v == counterparty d a) ≡ true)
      → (kind ≡ PublishLine → b ≡ false → (x : Entry) → IsStatable x → line ≡ entry_line x → is_correct_publish d a x.sender x.what ≡ false)
      → StaysIdle v seen (line_heard n (at b) kind line)
  unfolding kind_line_read
  by_kind b seen Read unseen e not_read not_refused mine wrong = absurd (not_read refl)
  by_kind b seen Refused unseen e not_read not_refused mine wrong = absurd (not_refused refl)
  by_kind b seen Noise unseen e not_read not_refused mine wrong = passed_on b seen (λ f. unseen f (λ z. absurd (cc z))) Noise refl
  by_kind true seen AcceptedLine unseen e not_read not_refused mine wrong = passed_on true seen (λ f. absurd (cc f)) AcceptedLine refl
  by_kind true seen PublishLine unseen e not_read not_refused mine wrong = passed_on true seen (λ f. absurd (cc f)) PublishLine refl
  by_kind false seen AcceptedLine unseen e not_read not_refused mine wrong =
      read_on false seen (λ f. unseen f (λ z. absurd (cc z))) AcceptedLine refl refl (λ t f z x q. let p = entry_is d a (with_ticks k w) line x q in
      foreign_quiet v small x line p.line_is p.statable e)
  by_kind false seen PublishLine unseen e not_read not_refused mine wrong = by (line_tick line) refl
    where
      idle_there : IsIdle v (with_ticks k w)
      idle_there = idle_ticks v k w i

      first : (is_first_accepted (on false) PublishLine && not (publishes (on false) (stated_entry (on false) line))) ≡ true
      first =
          and_both (is_first_accepted (on false) PublishLine) (not (publishes (on false) (stated_entry (on false) line)))
          (and_both (v == counterparty d a) (not (is_some (published (with_ticks k w)))) (mine refl refl)
          (ap (λ (o : Option Publication). not (is_some o)) idle_there.unpublished))
          (ap not (wrong_on (stated_entry (on false) line) refl (wrong refl refl)))

      no_tick_line : (j : ℕ) → line_tick line ≡ Ok j → ⊥
      no_tick_line j q = tick_line_kind v line j q e

      closing : (r : Result ℕ Misspelling) → line_tick line ≡ r → line_heard n (at false) PublishLine line ≡ More (record (on false) { is_closed = true })
      closing (Ok j) q = absurd (no_tick_line j q)
      closing (Err f) q =
          ap (with_tick_or_entry n (at false) PublishLine line) q
          ∙ ap (λ t. cond t (More (record (on false) { is_closed = true })) (with_stated n (on false) (stated_entry (on false) line))) first

      by : (r : Result ℕ Misspelling) → line_tick line ≡ r → StaysIdle v seen (line_heard n (at false) PublishLine line)
      by r q = subst (StaysIdle v seen) (sym (closing r q)) (idle_there, λ z. absurd (cc z))

-- ---- calls of others, by their kinds

pub never_read : (c : Call) (r : Reply) → call_kind c r ≡ Read → ⊥
never_read c r e = by (not (is_accepting r) || is_transfer_call c) (is_publish_call c) e
  where
    by : (x y : Bool) → cond x Noise (cond y PublishLine AcceptedLine) ≡ Read → ⊥
    by true y q = cc q
    by false true q = cc q
    by false false q = cc q

pub never_refused : (c : Call) (r : Reply) → call_kind c r ≡ Refused → ⊥
never_refused c r e = by (not (is_accepting r) || is_transfer_call c) (is_publish_call c) e
  where
    by : (x y : Bool) → cond x Noise (cond y PublishLine AcceptedLine) ≡ Refused → ⊥
    by true y q = cc q
    by false true q = cc q
    by false false q = cc q

-- a call of another kind publishes nothing
quiet_kind : (t : ℕ) (c : Call) (r : Reply) → call_kind c r ≢ PublishLine → publication t (accepted_call (Made c) r) ≡ None
quiet_kind t c r other = by (call_kind c r) refl other
  where
    by : (k : Kind) → call_kind c r ≡ k → k ≢ PublishLine → publication t (accepted_call (Made c) r) ≡ None
    by Read e n = absurd (never_read c r e)
    by Refused e n = absurd (never_refused c r e)
    by Noise e n = noise_unpublishing t c r e
    by AcceptedLine e n = unpublishing t c r (accepted_only c r (not (is_accepting r) || is_transfer_call c) (is_publish_call c) refl e)
    by PublishLine e n = absurd (n refl)

publish_by : (r : Reply) (x y z : Bool) → cond (not x || y) Noise (cond z PublishLine AcceptedLine) ≡ PublishLine → (z ≡ true) × (x ≡ true)
publish_by r false y z q = absurd (cc q)
publish_by r true true z q = absurd (cc q)
publish_by r true false true q = (refl, refl)
publish_by r true false false q = absurd (cc q)

publish_of : (c : Call) → is_publish_call c ≡ true → (t : Terms) × (c ≡ Publish t)
publish_of (Publish t) e = (t, refl)
publish_of (Unlock key) e = absurd (cc e)
publish_of Claim e = absurd (cc e)
publish_of Refund e = absurd (cc e)
publish_of (Transfer to units) e = absurd (cc e)

accepted_is : (r : Reply) → is_accepting r ≡ true → r ≡ Accepted
accepted_is Accepted e = refl
accepted_is _ e = absurd (cc e)

-- an accepted publish, by the kind of its call
pub record IsPublished (e : Entry) : Type 0 where
  pub terms : Terms
  pub what : e.what ≡ Made (Publish terms)
  pub reply : e.reply ≡ Accepted
  pub publication : publication e.height (accepted e) ≡ Some (record { height = e.height; terms = terms })

pub is_published : (e : Entry) (c : Call) → e.what ≡ Made c → call_kind c e.reply ≡ PublishLine → IsPublished e
is_published e c ew k =
    let p = publish_by e.reply (is_accepting e.reply) (is_transfer_call c) (is_publish_call c) k in
    let t = publish_of c p.0 in
    let what = ew ∙ ap Made t.1 in record {
      terms = t.0;
      what = what;
      reply = accepted_is e.reply p.1;
      publication = ap (λ (w : What). publication e.height (accepted_call w e.reply)) what
          ∙ ap (λ (r : Reply). publication e.height (accepted_call (Made (Publish t.0)) r)) (accepted_is e.reply p.1);
    }

and_false : (x : Bool) → (x && false) ≡ false
and_false true = refl
and_false false = refl

wrong_terms : (d : Deal) (a : ℕ) (s : Sender) (t : Terms) → same_terms t (stated_terms d a) ≡ false → is_correct_publish d a s (Made (Publish t)) ≡ false
wrong_terms d a (Party p) t e = ap (λ x. (p == party d a) && x) e ∙ and_false (p == party d a)
wrong_terms d a Clock t e = refl

-- the first accepted publish of a history without a correct one
first_wrong : (d : Deal) (a : ℕ) (h past more : List Entry) (e : Entry) → h ≡ (past ++ e ∷ []) ++ more → is_arc_correct d a (published h) ≡ false
    → published past ≡ None → IsPublished e → is_correct_publish d a e.sender e.what ≡ false
first_wrong d a h past more e is wrong none p =
    let now : published (past ++ e ∷ []) ≡ Some (record { height = e.height; terms = p.terms }) =
    published_more past e ∙ ap (λ (o : Option Publication). or_else o (or_else (publication e.height (accepted e)) None)) none
    ∙ ap (λ (o : Option Publication). or_else o None) p.publication in
    let all = ap published is ∙ first_given_answer-front (λ x. publication x.height (accepted x)) (past ++ e ∷ []) more _ now in
    ap (is_correct_publish d a e.sender) p.what ∙ wrong_terms d a e.sender p.terms (sym (ap (is_arc_correct d a) all) ∙ wrong)

-- ---- a useless history

same_state : (s : LedgerSoFar) (d : Deal) (v a : ℕ) → s.deal ≡ d → s.me ≡ v → s.arc ≡ a
    → s ≡ record { deal = d; me = v; arc = a; past = s.past; waiting = s.waiting; unlocks = s.unlocks; is_closed = s.is_closed }
same_state s d v a ed ev ea =
    ap (λ (x : Deal). record s { deal = x }) ed
    ∙ ap (λ (x : ℕ). record s { deal = d; me = x }) ev
    ∙ ap (λ (x : ℕ). record s { deal = d; me = v; arc = x }) ea

-- What is asked of a useless history.
pub record IsUselessHere (d : Deal) (v a : ℕ) (h : List Entry) : Type 0 where
  pub mine : (v == counterparty d a) ≡ true
  pub wrong : is_arc_correct d a (published h) ≡ false
  pub silent : (e : Entry) → IsElement e h → pick_call v e ≡ None
  pub clock : (past : List Entry) (e : Entry) → IsMoment h past e → is_ticking e.what ≡ true → e.sender ≡ Clock
  pub typed : (e : Entry) → IsElement e h → IsTyped e

module _ (d : Deal) (v a : ℕ) (small : v < 256) (h : List Entry) (u : IsUselessHere d v a h) where
  abbrev now : List Entry → ℕ → List OwnUnlock → Bool → LedgerSoFar
  now k w us b = record { deal = d; me = v; arc = a; past = k; waiting = w; unlocks = us; is_closed = b }

  abbrev is_past : List Entry → Bool
  is_past past = is_some (published past)

  -- one entry, on a ledger of which this stood before
  module _ (n : ℕ) (past more k : List Entry) (w : ℕ) (us : List OwnUnlock) (b : Bool) (e : Entry) (line : List ℕ) (is : h ≡ past ++ e ∷ more)
      (i : IsIdle v k) (unseen : b ≡ false → is_past past ≡ false) where
    abbrev after : Heard
    after = line_heard n (now k w us b) (line_kind v (separated_parts 32 line)) line

    tick_step : (j : ℕ) → e.what ≡ Tick j → line ≡ entry_line e → StaysIdle v (is_past (past ++ e ∷ [])) after
    tick_step j ew own =
        let t = u.typed e (subst (IsElement e) (sym is) (in_from_moment past e more)) in
        let sender = u.clock past e (more, is) (ap (λ (x : What). is_ticking x) ew) in
        let small_tick : j < 2 ^ 32 = subst IsTypedWhat ew t.what in
        let same = published_still past e (ap (publication e.height) (no_accepted e.what e.reply (ap (λ (x : What). is_ticking x) ew))) in
        tick_on d v a small n k w us i line b (is_past (past ++ e ∷ [])) (λ f. ap (λ (o : Option Publication). is_some o) same ∙ unseen f) j e.reply small_tick
        (own ∙ ap (λ (s : Sender). spaced (entry_words s e.what e.reply)) sender ∙ ap (λ (x : What). spaced (entry_words Clock x e.reply)) ew)

    call_step : (c : Call) → e.what ≡ Made c → IsForeignLine d v a e line → StaysIdle v (is_past (past ++ e ∷ [])) after
    call_step c ew f =
        let kind : line_kind v (separated_parts 32 line) ≡ call_kind c e.reply = subst (λ (x : What). IsKindOfCall v x e.reply line) ew f.kind in
        let whole = is ∙ sym (append_assoc past (e ∷ []) more) in
        subst (λ (x : Kind). StaysIdle v (is_past (past ++ e ∷ [])) (line_heard n (now k w us b) x line)) (sym kind)
        (by_kind d v a small n k w us i line b (is_past (past ++ e ∷ [])) (call_kind c e.reply)
        (λ z other. ap (λ (o : Option Publication). is_some o) (published_still past e
        (ap (λ (x : What). publication e.height (accepted_call x e.reply)) ew ∙ quiet_kind e.height c e.reply other)) ∙ unseen z)
        kind (never_read c e.reply) (never_refused c e.reply) (λ q z. u.mine)
        (λ q z. let y = is_published e c ew q in
        f.wrong (ap is_accepting y.reply) (first_wrong d a h past more e whole u.wrong (none_of (published past) (unseen z)) y)))

    entry_step : (x : What) → e.what ≡ x → SaysEntry true d v a e line → StaysIdle v (is_past (past ++ e ∷ [])) after
    entry_step (Tick j) ew s = tick_step j ew (s.0 (ap (λ (x : What). is_ticking x) ew))
    entry_step (Made c) ew s = call_step c ew (s.1 (ap (λ (x : What). is_ticking x) ew))

  -- one entry and those behind it
  then_idle : (n : ℕ) (ls : List (List ℕ)) (s : LedgerSoFar) (seen : Bool) (x : Heard) → s.deal ≡ d → s.me ≡ v → s.arc ≡ a → HeardSame s x
      → StaysIdle v seen x
      → ((k : List Entry) (w : ℕ) (us : List OwnUnlock) (b : Bool) → IsIdle v k → (b ≡ false → seen ≡ false)
      → IsIdle v (heard_ledger (all_heard (n + 1) (now k w us b) ls)).history)
      → IsIdle v (heard_ledger (then_heard x (λ t. all_heard (n + 1) t ls))).history
  then_idle n ls s seen (More t) ed ev ea same i more =
      subst (λ (z : LedgerSoFar). IsIdle v (heard_ledger (all_heard (n + 1) z ls)).history)
      (sym (same_state t d v a (same.deal ∙ ed) (same.me ∙ ev) (same.arc ∙ ea))) (more t.past t.waiting t.unlocks t.is_closed i.0 i.1)
  then_idle n ls s seen (Bad t) ed ev ea same i more = i

  pub idle_rest : (n : ℕ) (past rest k : List Entry) (w : ℕ) (us : List OwnUnlock) (b : Bool) (ls : List (List ℕ)) → h ≡ past ++ rest → IsIdle v k
      → (b ≡ false → is_past past ≡ false) → SayEntries true d v a rest ls → IsIdle v (heard_ledger (all_heard n (now k w us b) ls)).history
  idle_rest n past [] k w us b [] is i unseen s = idle_ticks v k w i
  idle_rest n past [] k w us b (l ∷ ls) is i unseen s = absurd s
  idle_rest n past (e ∷ rest) k w us b [] is i unseen s = absurd s
  idle_rest n past (e ∷ rest) k w us b (l ∷ ls) is i unseen s =
      then_idle n ls (now k w us b) (is_past (past ++ e ∷ []))
      (line_heard n (now k w us b) (line_kind v (separated_parts 32 l)) l) refl refl refl
      (heard_same n (now k w us b) (line_kind v (separated_parts 32 l)) l) (entry_step n past rest k w us b e l is i unseen e.what refl s.0)
      (λ x y ws c j more. idle_rest (n + 1) (past ++ e ∷ []) rest x y ws c ls (is ∙ sym (append_assoc past (e ∷ []) rest)) j more s.1)

-- no call is called
no_calls : (v : ℕ) (test : Option Call → Bool) → test None ≡ false → (h : List Entry) → ((e : Entry) → IsElement e h → pick_call v e ≡ None)
    → has_called v test h ≡ false
no_calls v test n [] s = refl
no_calls v test n (e ∷ h) s =
    ap (λ (o : Option Call). test o || has_called v test h) (s e (inl refl)) ∙ ap (λ t. t || has_called v test h) n
    ∙ no_calls v test n h (λ x i. s x (inr i))

-- what is told of a useless arc is useless too
pub useless_told : (d : Deal) (v a : ℕ) (small : v < 256) (h : List Entry) (ls : List (List ℕ)) → IsUselessHere d v a h → (IsElement a (leaving d.graph v) → ⊥)
    → SayEntries true d v a h ls → AreUseless d v a (heard_ledger (all_heard 0 (nothing_read d v a) ls)).history h
useless_told d v a small h ls u apart s =
    let i = idle_rest d v a small h u 0 [] h [] 0 [] false ls refl (idle_first v) (λ e. refl) s in record {
      enters = apart;
      one = ap (is_arc_correct d a) i.unpublished;
      other = u.wrong;
      calls = λ test n. i.calls test n ∙ sym (no_calls v test n h u.silent);
    }
