-- Of an arc that isn't useless all is told but noise.
use Rattle.std.proofs.Common.{◌≡◌, ◌⊎◌, ◌&&◌, ◌||◌, ◌==◌, ◌+◌, ◌-◌, ◌<◌, ◌++◌, ℕ, Bool, true, false, not, cond, List, [], ◌∷◌}
use Rattle.std.proofs.Common.{length, get_or, Option, Some, None, is_some, is_none, Ok, Err, refl, sym, ap, ◌∙◌, subst, inl, inr, arith, append_assoc}
use Rattle.std.proofs.Common.{append-nil}
use Rattle.std.proofs.Common.{◌^◌, ◌≤◌, count_by, eqb-true, eq-eqb, le-leb, length-append, ltb-false, nat_le, nat_lt}
use Rattle.std.specs.Prelude.{All}
use Rattle.std.proofs.lemmas.Bool.{false≢true}
use Rattle.std.proofs.lemmas.List.{get_or-append_right}
use Rattle.swap_base.specs.Lists.{or_else, IsElement, IsMoment}
use Rattle.swap_base.proofs.Lists.{all_moments_front, and_both, and_parts, at_moment, first_given_answer-front, in_from_moment, none_of, or_neither}
use Rattle.swap_digraph.specs.declared.deal.Deal.{Deal}
use Rattle.swap_digraph.specs.Deal.{counterparty, party}
use Rattle.escrow_core.specs.declared.reply.Reply.{Reply}
use Rattle.escrow_core.specs.declared.reply.Reply.TheVariants.{Accepted, ClockFull, NoFunds}
use Rattle.escrow_core.specs.Terms.{same_terms, stated_terms}
use Rattle.ledger_core.specs.declared.entry.Call.{Call}
use Rattle.ledger_core.specs.declared.entry.Call.TheVariants.{Publish, Unlock, Claim, Refund, Transfer}
use Rattle.ledger_core.specs.declared.entry.Sender.{Sender}
use Rattle.ledger_core.specs.declared.entry.Sender.TheVariants.{Party, Clock}
use Rattle.ledger_core.specs.declared.entry.What.{What}
use Rattle.ledger_core.specs.declared.entry.What.TheVariants.{Call as Made, Tick}
use Rattle.ledger_core.specs.declared.entry.Entry.{Entry}
use Rattle.ledger_core.specs.History.{accepted, accepted_call, height, history_reply, is_clock_full, is_sender, is_tick, made_call, publication, published}
use Rattle.ledger_core.specs.History.{IsLegal, IsLegalEntry, IsLegalMoment, IsLegalTick, Publication}
use Rattle.ledger_core.specs.Ledger.{tick_entry}
use Rattle.ledger_core.specs.WellFormed.{written_height, IsFormed, IsFormedCall, IsFormedEntry, IsFormedMoment, IsFormedTick, IsFormedWhat}
use Rattle.ledger_core.proofs.Bounds.{height-push}
use Rattle.ledger_core.proofs.History.{accepted_clear, of_claim, of_publish, of_refund, of_unlock}
use Rattle.swap_rules.specs.Party.{is_arc_correct, pick_call}
use Rattle.swap_rules.specs.Conduct.{is_publish}
use Rattle.swap_rules.specs.Counted as counts
use Rattle.swap_rules.specs.Counted.{counted, may_repeat}
use Rattle.swap_rules.specs.Rest.{is_ticking}
use Rattle.swap_rules.proofs.Counted.{counted_reads}
use Rattle.swap_auditor.specs.Audit.{replayed, with_entry}
use Rattle.swap_auditor.specs.Replies.{same_reply}
use Rattle.wallet_promise.specs.WithoutNoise.{is_of_contract, is_told, merged, telling}
use Rattle.wallet_promise.proofs.Filters.{filter-off, filter-on, moment-filter}
use Rattle.wallet_promise.proofs.Merged.{merged_is_legal, says_merged}
use Rattle.wallet_promise.proofs.Telling.{says_telling}
use Rattle.typed_books.specs.Typed.{IsTypedCall, IsTypedReply, IsTypedSender, IsTypedWhat}
use Rattle.transcript_book.specs.Stated.{IsTyped}
use Rattle.transcript_book.specs.Reading.{misspelt, parse_first_field}
use Rattle.transcript_book.specs.Between.{separated_parts, spaced}
use Rattle.transcript_book.specs.Lines.{IsStatable, IsStatedWhat, entry_line}
use Rattle.transcript_book.specs.Words.{entry_words}
use Rattle.transcript_book.specs.Entries.{parse_next_entry}
use Rattle.transcript_book.proofs.Complete.{entry_back}
use Rattle.transcript_book.proofs.Numbers.{number_back}
use Rattle.told_ledgers.specs.declared.kind.Kind.{Kind}
use Rattle.told_ledgers.specs.declared.kind.Kind.TheVariants.{Read, Refused, Noise, Publish as PublishLine, Accepted as AcceptedLine}
use Rattle.told_ledgers.specs.declared.told_ledger.OwnUnlock.{OwnUnlock}
use Rattle.told_ledgers.specs.declared.one_ledger.Heard.{Heard}
use Rattle.told_ledgers.specs.declared.one_ledger.Heard.TheVariants.{More}
use Rattle.told_ledgers.specs.SoFar.{LedgerSoFar}
use Rattle.told_ledgers.specs.Words.{line_kind, line_tick, words_tick}
use Rattle.told_ledgers.specs.Ledger.{bad_entry, is_correct_publish, is_first_accepted, is_passed, is_refused, line_heard, kind_line_read, most_height, own_unlock}
use Rattle.told_ledgers.specs.Ledger.{replied, stated_entry, stated_unlock, ticked, with_refused, with_stated, with_tick_or_entry}
use Rattle.swap_auditor.proofs.Replies.{same_self}
use Rattle.program_laws.specs.Apart.{all_heard, then_heard}
use Rattle.program_laws.specs.Enough.{SayEntries, SaysEntry, call_kind, is_accepting, is_for_want_of_funds, is_publish_call, is_transfer_call, is_unfunded}
use Rattle.program_laws.specs.Enough.{funded, own_call_kind}
use Rattle.program_laws.proofs.ByWords.{call_parts, other_kind, own_kind, tick_kind, tick_parts}
use Rattle.program_laws.proofs.Funded.{same_published as funded_published}
use Rattle.program_laws.proofs.Merging.{EndsWithCall, Empty, Ends, Settled, Stands, Waits, merged_call, merged_tick, stands_is, stands_tick}
use Rattle.program_laws.proofs.Useless.{accepted_or, is_published, never_read, never_refused, published_more, refused_or}

-- ---- its reply is the replayed one

replayed_is : (d : Deal) (a : ℕ) (past : List Entry) (s : Sender) (w : What) (at : ℕ) (r : Reply) → IsLegalEntry d a past s w at r → r ≡ replayed d a past s w
replayed_is d a past (Party p) (Made c) at r l = l.reply
replayed_is d a past Clock (Tick k) at r l = l.reply
replayed_is d a past (Party p) (Tick k) at r l = absurd l
replayed_is d a past Clock (Made c) at r l = absurd l

stands_here : (d : Deal) (a : ℕ) (past : List Entry) (e : Entry) → IsLegalEntry d a past e.sender e.what e.height e.reply
    → with_entry d a past e ≡ Ok (past ++ e ∷ [])
stands_here d a past e l =
    ap (λ t. cond t (Ok (past ++ e ∷ []))
    (Err (record { arc = a; entry = length past; stated = e.reply; replayed = replayed d a past e.sender e.what })))
    (ap (same_reply e.reply) (sym (replayed_is d a past e.sender e.what e.height e.reply l)) ∙ same_self e.reply)

-- ---- what is told isn't noise

noise_idle : (c : Call) (r : Reply) (x : Bool) → is_accepting r ≡ x
    → cond (not x || is_transfer_call c) Noise (cond (is_publish_call c) PublishLine AcceptedLine) ≡ Noise → is_of_contract (accepted_call (Made c) r) ≡ false
noise_idle c r false q k = ap is_of_contract (refused_or r q c)
noise_idle (Publish t) r true q k = absurd (cc k)
noise_idle (Unlock key) r true q k = absurd (cc k)
noise_idle Claim r true q k = absurd (cc k)
noise_idle Refund r true q k = absurd (cc k)
noise_idle (Transfer to units) r true q k = by (accepted_or (Transfer to units) r)
  where
    by : (accepted_call (Made (Transfer to units)) r ≡ Some (Transfer to units)) ⊎ (accepted_call (Made (Transfer to units)) r ≡ None)
        → is_of_contract (accepted_call (Made (Transfer to units)) r) ≡ false
    by (inl e) = ap is_of_contract e
    by (inr e) = ap is_of_contract e

pub not_noise : (c : Call) (r : Reply) → is_of_contract (accepted_call (Made c) r) ≡ true → call_kind c r ≡ Noise → ⊥
not_noise c r told k =
    false≢true (sym (noise_idle c r (is_accepting r) refl k) ∙ told)

-- ---- calls by their kinds

accepted_now : (r : Reply) → is_accepting r ≡ true → r ≡ Accepted
accepted_now Accepted e = refl
accepted_now _ e = absurd (cc e)

kinds_apart : (x y : Bool) → cond x Noise (cond y PublishLine AcceptedLine) ≡ AcceptedLine → (x ≡ false) × (y ≡ false)
kinds_apart true y e = absurd (cc e)
kinds_apart false true e = absurd (cc e)
kinds_apart false false e = (refl, refl)

or_none : (x y : Bool) → (not x || y) ≡ false → (x ≡ true) × (y ≡ false)
or_none true y e = (refl, e)
or_none false y e = absurd (cc e)

accepted_reply : (c : Call) (r : Reply) → call_kind c r ≡ AcceptedLine → r ≡ Accepted
accepted_reply c r e =
    accepted_now r (or_none (is_accepting r) (is_transfer_call c) (kinds_apart (not (is_accepting r) || is_transfer_call c) (is_publish_call c) e).0).0

not_publishing : (c : Call) (r : Reply) → call_kind c r ≡ AcceptedLine → (is_publish_call c || is_transfer_call c) ≡ false
not_publishing c r e =
    let k = kinds_apart (not (is_accepting r) || is_transfer_call c) (is_publish_call c) e in
    ap (λ x. x || is_transfer_call c) k.1 ∙ (or_none (is_accepting r) (is_transfer_call c) k.0).1

not_true : (b : Bool) → not b ≡ true → b ≡ false
not_true true e = absurd (false≢true e)
not_true false e = refl

-- a call of the party that counts is read
read_by : (c : Call) (r : Reply) (x : Bool) → is_accepting r ≡ x → (may_repeat (Some c) && is_none (accepted_call (Made c) r)) ≡ false
    → (is_publish (Some c) && is_for_want_of_funds r) ≡ false → own_call_kind c r ≡ Read
read_by (Publish t) r x e kept funded = ap (λ b. cond (b && not (is_accepting r)) Refused Read) funded
read_by (Transfer to units) r x e kept funded = refl
read_by (Unlock key) r true e kept funded = ap (λ b. cond (not b) Refused Read) e
read_by Claim r true e kept funded = ap (λ b. cond (not b) Refused Read) e
read_by Refund r true e kept funded = ap (λ b. cond (not b) Refused Read) e
read_by (Unlock key) r false e kept funded = absurd (false≢true (sym kept ∙ ap (λ (o : Option Call). is_none o) (refused_or r e (Unlock key))))
read_by Claim r false e kept funded = absurd (false≢true (sym kept ∙ ap (λ (o : Option Call). is_none o) (refused_or r e Claim)))
read_by Refund r false e kept funded = absurd (false≢true (sym kept ∙ ap (λ (o : Option Call). is_none o) (refused_or r e Refund)))

picked : (v : ℕ) (e : Entry) (q : ℕ) (c : Call) → e.sender ≡ Party q → e.what ≡ Made c → (q == v) ≡ true → pick_call v e ≡ Some c
picked v e q c es ew mine =
    ap (λ (s : Sender). cond (is_sender v s) (made_call e.what) None) es ∙ ap (λ b. cond b (made_call e.what) None) mine ∙ ap made_call ew

own_read : (v : ℕ) (e : Entry) (q : ℕ) (c : Call) → e.sender ≡ Party q → e.what ≡ Made c → (q == v) ≡ true → counts.is_passed v e ≡ false
    → is_unfunded v e ≡ false → own_call_kind c e.reply ≡ Read
own_read v e q c es ew mine kept funded =
    let p = picked v e q c es ew mine in
    read_by c e.reply (is_accepting e.reply) refl
    (sym (ap (λ (o : Option Call). may_repeat o && is_none (accepted e)) p ∙ ap (λ (w : What). may_repeat (Some c) && is_none (accepted_call w e.reply)) ew) ∙ kept)
    (sym (ap (λ (o : Option Call). is_publish o && is_for_want_of_funds e.reply) p) ∙ funded)

-- and one that doesn't count is refused
never_both : (b : Bool) → (b && false) ≡ false
never_both true = refl
never_both false = refl

taken_call : (c : Call) (r : Reply) → r ≡ Accepted → (may_repeat (Some c) && is_none (accepted_call (Made c) r)) ≡ false
taken_call c r q = ap (λ z. may_repeat (Some c) && is_none (accepted_call (Made c) z)) q ∙ never_both (may_repeat (Some c))

refused_by : (c : Call) (r : Reply) (x : Bool) → is_accepting r ≡ x → (may_repeat (Some c) && is_none (accepted_call (Made c) r)) ≡ true
    → own_call_kind c r ≡ Refused
refused_by (Publish t) r x e gone = absurd (false≢true gone)
refused_by (Transfer to units) r x e gone = absurd (false≢true gone)
refused_by (Unlock key) r true e gone = absurd (false≢true (sym (taken_call (Unlock key) r (accepted_now r e)) ∙ gone))
refused_by Claim r true e gone = absurd (false≢true (sym (taken_call Claim r (accepted_now r e)) ∙ gone))
refused_by Refund r true e gone = absurd (false≢true (sym (taken_call Refund r (accepted_now r e)) ∙ gone))
refused_by (Unlock key) r false e gone = ap (λ b. cond (not b) Refused Read) e
refused_by Claim r false e gone = ap (λ b. cond (not b) Refused Read) e
refused_by Refund r false e gone = ap (λ b. cond (not b) Refused Read) e

refused_call : (v : ℕ) → v < 256 → (e : Entry) (line : List ℕ) (s : Sender) (w : What) → e.sender ≡ s → e.what ≡ w → line ≡ entry_line e → IsTypedSender s
    → IsTypedWhat w → IsTypedReply e.reply → (t : Bool) → is_sender v s ≡ t → counts.is_passed v e ≡ true → line_kind v (separated_parts 32 line) ≡ Refused
refused_call v small e line (Party q) (Made c) es ew own ts tw tr true mine gone =
    let p = picked v e q c es ew mine in
    ap (λ (l : List ℕ). line_kind v (separated_parts 32 l)) (own ∙ ap (λ (z : Sender). spaced (entry_words z e.what e.reply)) es
    ∙ ap (λ (z : What). spaced (entry_words (Party q) z e.reply)) ew) ∙ ap (line_kind v) (call_parts q c e.reply ts tw tr)
    ∙ ap (λ z. line_kind v (entry_words (Party z) (Made c) e.reply)) (eqb-true q v mine) ∙ own_kind v c e.reply
    ∙ refused_by c e.reply (is_accepting e.reply) refl
    (sym (ap (λ (o : Option Call). may_repeat o && is_none (accepted e)) p ∙ ap (λ (z : What). may_repeat (Some c) && is_none (accepted_call z e.reply)) ew) ∙ gone)
refused_call v small e line s (Tick k) es ew own ts tw tr t mine gone =
    absurd (false≢true (sym (ap (λ (o : Option Call). may_repeat o && is_none (accepted e))
    (ap (λ (z : What). cond (is_sender v e.sender) (made_call z) None) ew ∙ no_call_made (is_sender v e.sender))) ∙ gone))
  where
    no_call_made : (b : Bool) → ◌≡◌ {A = Option Call} (cond b None None) None
    no_call_made true = refl
    no_call_made false = refl
refused_call v small e line (Party q) (Made c) es ew own ts tw tr false mine gone =
    absurd (false≢true (sym (ap (λ (o : Option Call). may_repeat o && is_none (accepted e))
    (ap (λ (z : Sender). cond (is_sender v z) (made_call e.what) None) es ∙ ap (λ b. cond b (made_call e.what) None) mine)) ∙ gone))
refused_call v small e line Clock (Made c) es ew own ts tw tr t mine gone =
    absurd (false≢true (sym (ap (λ (o : Option Call). may_repeat o && is_none (accepted e))
    (ap (λ (z : Sender). cond (is_sender v z) (made_call e.what) None) es)) ∙ gone))

pub refused_kind : (v : ℕ) → v < 256 → (e : Entry) (line : List ℕ) → line ≡ entry_line e → IsTyped e → counts.is_passed v e ≡ true
    → line_kind v (separated_parts 32 line) ≡ Refused
refused_kind v small e line own t gone =
    refused_call v small e line e.sender e.what refl refl own t.sender t.what t.reply (is_sender v e.sender) refl gone

-- and so is a publish for which funds were lacking
unfunded_by : (c : Call) (r : Reply) → (is_publish (Some c) && is_for_want_of_funds r) ≡ true → own_call_kind c r ≡ Refused
unfunded_by (Publish t) (NoFunds n) lacks = refl
unfunded_by (Publish t) _ lacks = absurd (false≢true lacks)
unfunded_by (Unlock key) r lacks = absurd (false≢true lacks)
unfunded_by Claim r lacks = absurd (false≢true lacks)
unfunded_by Refund r lacks = absurd (false≢true lacks)
unfunded_by (Transfer to units) r lacks = absurd (false≢true lacks)

unfunded_call : (v : ℕ) → (e : Entry) (line : List ℕ) (s : Sender) (w : What) → e.sender ≡ s → e.what ≡ w → line ≡ entry_line e → IsTypedSender s
    → IsTypedWhat w → IsTypedReply e.reply → (t : Bool) → is_sender v s ≡ t → is_unfunded v e ≡ true → line_kind v (separated_parts 32 line) ≡ Refused
unfunded_call v e line (Party q) (Made c) es ew own ts tw tr true mine lacks =
    ap (λ (l : List ℕ). line_kind v (separated_parts 32 l)) (own ∙ ap (λ (z : Sender). spaced (entry_words z e.what e.reply)) es
    ∙ ap (λ (z : What). spaced (entry_words (Party q) z e.reply)) ew) ∙ ap (line_kind v) (call_parts q c e.reply ts tw tr)
    ∙ ap (λ z. line_kind v (entry_words (Party z) (Made c) e.reply)) (eqb-true q v mine) ∙ own_kind v c e.reply
    ∙ unfunded_by c e.reply (sym (ap (λ (o : Option Call). is_publish o && is_for_want_of_funds e.reply) (picked v e q c es ew mine)) ∙ lacks)
unfunded_call v e line s (Tick k) es ew own ts tw tr t mine lacks =
    absurd (false≢true (sym (ap (λ (o : Option Call). is_publish o && is_for_want_of_funds e.reply)
    (ap (λ (z : What). cond (is_sender v e.sender) (made_call z) None) ew ∙ no_call_made (is_sender v e.sender))) ∙ lacks))
  where
    no_call_made : (b : Bool) → ◌≡◌ {A = Option Call} (cond b None None) None
    no_call_made true = refl
    no_call_made false = refl
unfunded_call v e line (Party q) (Made c) es ew own ts tw tr false mine lacks =
    absurd (false≢true (sym (ap (λ (o : Option Call). is_publish o && is_for_want_of_funds e.reply)
    (ap (λ (z : Sender). cond (is_sender v z) (made_call e.what) None) es ∙ ap (λ b. cond b (made_call e.what) None) mine)) ∙ lacks))
unfunded_call v e line Clock (Made c) es ew own ts tw tr t mine lacks =
    absurd (false≢true (sym (ap (λ (o : Option Call). is_publish o && is_for_want_of_funds e.reply)
    (ap (λ (z : Sender). cond (is_sender v z) (made_call e.what) None) es)) ∙ lacks))

pub unfunded_kind : (v : ℕ) → v < 256 → (e : Entry) (line : List ℕ) → line ≡ entry_line e → IsTyped e → is_unfunded v e ≡ true
    → line_kind v (separated_parts 32 line) ≡ Refused
unfunded_kind v small e line own t lacks =
    unfunded_call v e line e.sender e.what refl refl own t.sender t.what t.reply (is_sender v e.sender) refl lacks

-- the words of a tick
tick_words_back : (j : ℕ) (r : Reply) → 1 ≤ j → j < 2 ^ 32 → words_tick (entry_words Clock (Tick j) r) ≡ Ok j
unfolding words_tick parse_first_field
tick_words_back j r le lt = rw (number_back j (omega arith), le-leb 1 j le)

-- ---- a history

-- what counts of a history that is told, without publishes for which funds were lacking
abbrev pub part : ℕ → List Entry → List Entry
part v h = funded v (counted v (telling v h))

count_on : (v : ℕ) (past : List Entry) (e : Entry) → is_told v e ≡ true → counts.is_passed v e ≡ false
    → counted v (telling v (past ++ e ∷ [])) ≡ counted v (telling v past) ++ e ∷ []
count_on v past e told kept =
    ap (counted v) (filter-on (is_told v) past e told) ∙ filter-on (λ x. not (counts.is_passed v x)) (telling v past) e (ap not kept)

part_on : (v : ℕ) (past : List Entry) (e : Entry) → is_told v e ≡ true → counts.is_passed v e ≡ false → is_unfunded v e ≡ false
    → part v (past ++ e ∷ []) ≡ part v past ++ e ∷ []
part_on v past e told kept paid =
    ap (funded v) (count_on v past e told kept) ∙ filter-on (λ x. not (is_unfunded v x)) (counted v (telling v past)) e (ap not paid)

part_unfunded : (v : ℕ) (past : List Entry) (e : Entry) → is_told v e ≡ true → counts.is_passed v e ≡ false → is_unfunded v e ≡ true
    → part v (past ++ e ∷ []) ≡ part v past
part_unfunded v past e told kept lacks =
    ap (funded v) (count_on v past e told kept) ∙ filter-off (λ x. not (is_unfunded v x)) (counted v (telling v past)) e (ap not lacks)

part_untold : (v : ℕ) (past : List Entry) (e : Entry) → is_told v e ≡ false → part v (past ++ e ∷ []) ≡ part v past
part_untold v past e untold = ap (λ l. funded v (counted v l)) (filter-off (is_told v) past e untold)

part_refused : (v : ℕ) (past : List Entry) (e : Entry) → is_told v e ≡ true → counts.is_passed v e ≡ true → part v (past ++ e ∷ []) ≡ part v past
part_refused v past e told gone =
    ap (funded v) (ap (counted v) (filter-on (is_told v) past e told)
    ∙ filter-off (λ x. not (counts.is_passed v x)) (telling v past) e (ap not gone))

pub part_published : (v : ℕ) (past : List Entry) → published (part v past) ≡ published past
part_published v past =
    funded_published v (counted v (telling v past)) ∙ (counted_reads v (telling v past)).published ∙ (says_telling v past).published

-- What is asked of a history that isn't useless.
pub record IsNeededHere (d : Deal) (v a : ℕ) (h : List Entry) : Type 0 where
  pub legal : IsLegal d a (part v h)
  pub formed : IsFormed d a (part v h)
  pub statable : All IsStatable (part v h)
  pub correct : (v == counterparty d a) ≡ true → is_arc_correct d a (published h) ≡ true

pub all_moments : (P : Entry → Type 0) (xs past : List Entry) (e : Entry) → All P xs → IsMoment xs past e → P e
all_moments P xs past e all m =
    let here : get_or xs (length past) e ≡ e =
    ap (λ (l : List Entry). get_or l (length past) e) m.1 ∙ get_or-append_right past (e ∷ m.0) (length past) (length past) e refl (omega arith)
    ∙ ap (λ (i : ℕ). get_or (e ∷ m.0) i e) (let z : ◌≡◌ {A = ℕ} (length past - length past) 0 = omega arith in z) in
    subst P here (all (length past) e (omega (arith, ap (length {A = Entry}) m.1, length-append past (e ∷ m.0))))

-- the words of a call are no tick's
no_tick_words : (p : ℕ) (c : Call) (r : Reply) → words_tick (entry_words (Party p) (Made c) r) ≡ misspelt
unfolding words_tick parse_first_field
no_tick_words p c r = refl

module _ (d : Deal) (v a : ℕ) (small : v < 256) (h : List Entry) (u : IsNeededHere d v a h) where
  abbrev now : List Entry → ℕ → List OwnUnlock → LedgerSoFar
  now p k us = record { deal = d; me = v; arc = a; past = p; waiting = k; unlocks = us; is_closed = false }

  -- What is heard of the ledger so far, with some unlocks.
  pub record HeardAll (past : List Entry) (x : Heard) : Type 0 where
    pub unlocks : List OwnUnlock
    pub taken : List Entry
    pub waiting : ℕ
    pub ends : EndsWithCall taken
    pub stands : Stands taken waiting (merged (part v past))
    pub is : x ≡ More (now taken waiting unlocks)

  -- nothing of what was taken changed
  same_part : (past more : List Entry) (x : Heard) (k : HeardAll past x) (us : List OwnUnlock) (y : Heard) → part v more ≡ part v past
      → y ≡ More (now k.taken k.waiting us) → HeardAll more y
  same_part past more x k us y same e = record {
    unlocks = us;
    taken = k.taken;
    waiting = k.waiting;
    ends = k.ends;
    stands = subst (λ m. Stands k.taken k.waiting (merged m)) (sym same) k.stands;
    is = e;
  }

  -- an entry that counts is taken
  module _ (n : ℕ) (past more : List Entry) (p : List Entry) (k : ℕ) (us : List OwnUnlock) (e : Entry) (line : List ℕ) (is : h ≡ past ++ e ∷ more)
      (told : is_told v e ≡ true) (kept : counts.is_passed v e ≡ false) (paid : is_unfunded v e ≡ false) (own : line ≡ entry_line e) (ends : EndsWithCall p)
      (stands : Stands p k (merged (part v past))) where
    abbrev m : List Entry
    m = merged (part v past)

    moment : IsMoment (part v h) (part v past) e
    moment =
        moment-filter (λ x. not (is_unfunded v x)) (counted v (telling v h)) (counted v (telling v past)) e
        (moment-filter (λ x. not (counts.is_passed v x)) (telling v h) (telling v past) e (moment-filter (is_told v) h past e (more, is) told) (ap not kept))
        (ap not paid)

    formed_here : IsFormedEntry d a (part v past) e
    formed_here = at_moment (IsFormedMoment d a) (part v h) (part v past) e u.formed moment

    statable_here : IsStatable e
    statable_here = all_moments IsStatable (part v h) (part v past) e u.statable moment

    front : IsLegal d a (part v past ++ e ∷ [])
    front =
        all_moments_front (IsLegalMoment d a) (part v past ++ e ∷ []) moment.0
        (subst (IsLegal d a) (moment.1 ∙ sym (append_assoc (part v past) (e ∷ []) moment.0)) u.legal)

    legal_merged : IsLegal d a (merged (part v past ++ e ∷ []))
    legal_merged = (merged_is_legal d v a (part v past ++ e ∷ []) front).0

    same_height : height m ≡ height (part v past)
    same_height = (says_merged v (part v past)).height

    same_published : published m ≡ published past
    same_published = (says_merged v (part v past)).published ∙ part_published v past

    more_is : merged (part v (past ++ e ∷ [])) ≡ merged (part v past ++ e ∷ [])
    more_is = ap merged (part_on v past e told kept paid)

    -- a call
    module _ (q : ℕ) (c : Call) (es : e.sender ≡ Party q) (ew : e.what ≡ Made c) where
      calls : is_ticking e.what ≡ false
      calls = ap (λ (w : What). is_ticking w) ew

      call_is : merged (part v past ++ e ∷ []) ≡ m ++ e ∷ []
      call_is = merged_call (part v past) e calls

      legal_here : IsLegalEntry d a m e.sender e.what e.height e.reply
      legal_here = at_moment (IsLegalMoment d a) (m ++ e ∷ []) m e (subst (IsLegal d a) call_is legal_merged) ([], refl)

      formed_call : IsFormedEntry d a m e
      formed_call = record {
        what = subst (λ (s : Sender). IsFormedWhat d a m s e.what e.height) (sym es) (subst (λ (w : What). IsFormedWhat d a m (Party q) w e.height) (sym ew) here);
        sender_not_full = formed_here.sender_not_full;
        clock_not_full = formed_here.clock_not_full;
      }
        where
          was : IsFormedCall d a (part v past) q c e.height
          was = subst (λ (w : What). IsFormedWhat d a (part v past) (Party q) w e.height) ew
              (subst (λ (s : Sender). IsFormedWhat d a (part v past) s e.what e.height) es formed_here.what)

          here : IsFormedCall d a m q c e.height
          here = record { of_the_two = was.of_the_two; fits = was.fits; height = was.height ∙ ap written_height (sym same_height) }

      read : stated_entry (now m 0 us) line ≡ Ok e
      read = ap (parse_next_entry d a m) own ∙ entry_back d a m e formed_call statable_here

      taken : with_stated n (now m 0 us) (Ok e) ≡ More (now (m ++ e ∷ []) 0 (us ++ own_unlock n (pick_call v e)))
      taken = ap (replied n (now m 0 us) e) (stands_here d a m e legal_here)

      words_are : IsTypedCall c → IsTypedReply e.reply → q < 256 → separated_parts 32 line ≡ entry_words (Party q) (Made c) e.reply
      words_are tc tr lq =
          ap (λ (l : List ℕ). separated_parts 32 l) (own ∙ ap (λ (s : Sender). spaced (entry_words s e.what e.reply)) es
          ∙ ap (λ (w : What). spaced (entry_words (Party q) w e.reply)) ew)
          ∙ call_parts q c e.reply lq tc tr

      no_tick : separated_parts 32 line ≡ entry_words (Party q) (Made c) e.reply → line_tick line ≡ misspelt
      unfolding line_tick
      no_tick w = ap words_tick w ∙ no_tick_words q c e.reply

      ticked_is : ticked (now p k us) ≡ now m 0 us
      ticked_is = ap (λ (l : List Entry). now l 0 us) (stands_is p k m stands)

      by_kind : (kind : Kind) → separated_parts 32 line ≡ entry_words (Party q) (Made c) e.reply → is_passed false kind ≡ false → is_refused kind ≡ false
          → (is_first_accepted (now m 0 us) kind && not (is_correct_publish d a e.sender e.what)) ≡ false
          → HeardAll (past ++ e ∷ []) (line_heard n (now p k us) kind line)
      unfolding kind_line_read
      by_kind kind w pass refused first = record {
        unlocks = us ++ own_unlock n (pick_call v e);
        taken = m ++ e ∷ [];
        waiting = 0;
        ends = Ends m e refl calls;
        stands = Settled refl (more_is ∙ call_is);
        is = ap (λ t. cond t (More (now p k us)) (cond (is_refused kind) (with_refused n (now p k us) (stated_entry (now p k us) line))
            (with_tick_or_entry n (now p k us) kind line (line_tick line)))) pass
            ∙ ap (λ t. cond t (with_refused n (now p k us) (stated_entry (now p k us) line)) (with_tick_or_entry n (now p k us) kind line (line_tick line))) refused
            ∙ ap (with_tick_or_entry n (now p k us) kind line) (no_tick w)
            ∙ ap (λ (s : LedgerSoFar). kind_line_read n s kind (stated_entry s line)) ticked_is
            ∙ ap (kind_line_read n (now m 0 us) kind) read
            ∙ ap (λ t. cond t (More (record (now m 0 us) { is_closed = true })) (with_stated n (now m 0 us) (Ok e))) first ∙ taken;
      }

      -- the first accepted call on an arc that enters v is the correct publish
      correct_here : call_kind c e.reply ≡ PublishLine → (v == counterparty d a) ≡ true → published m ≡ None → is_correct_publish d a e.sender e.what ≡ true
      correct_here kind mine none =
          let y = is_published e c ew kind in
          let before : published past ≡ None = sym same_published ∙ none in
          let at : published (past ++ e ∷ []) ≡ Some (record { height = e.height; terms = y.terms }) =
          published_more past e ∙ ap (λ (o : Option Publication). or_else o (or_else (publication e.height (accepted e)) None)) before
          ∙ ap (λ (o : Option Publication). or_else o None) y.publication in
          let whole = is ∙ sym (append_assoc past (e ∷ []) more) in
          let all = ap published whole ∙ first_given_answer-front (λ x. publication x.height (accepted x)) (past ++ e ∷ []) more _ at in
          let terms : same_terms y.terms (stated_terms d a) ≡ true = sym (ap (is_arc_correct d a) all) ∙ u.correct mine in
          let legal = subst (λ (w : What). IsLegalEntry d a m (Party q) w e.height e.reply) y.what
          (subst (λ (s : Sender). IsLegalEntry d a m s e.what e.height e.reply) es legal_here) in
          let from = of_publish d a m q y.terms (accepted_clear d a m q (Publish y.terms) (sym legal.reply ∙ y.reply)) in
          ap (λ (s : Sender). is_correct_publish d a s e.what) es ∙ ap (is_correct_publish d a (Party q)) y.what
          ∙ and_both (q == party d a) (same_terms y.terms (stated_terms d a)) (eq-eqb q (party d a) from.party) terms

      first_by : (f g : Bool) → (f ≡ true → g ≡ true) → (f && not g) ≡ false
      first_by true true i = refl
      first_by true false i = absurd (false≢true (i refl))
      first_by false g i = refl

      publish_first : call_kind c e.reply ≡ PublishLine → (is_first_accepted (now m 0 us) PublishLine && not (is_correct_publish d a e.sender e.what)) ≡ false
      publish_first kind = first_by (is_first_accepted (now m 0 us) PublishLine) (is_correct_publish d a e.sender e.what) (λ f.
          let both = and_parts (v == counterparty d a) (not (is_some (published m))) f in
          correct_here kind both.0 (none_of (published m) (not_true (is_some (published m)) both.1)))

      -- where another call is accepted a contract stands
      contract_here : call_kind c e.reply ≡ AcceptedLine → is_some (published m) ≡ true
      contract_here kind = by c ew (accepted_reply c e.reply kind) (not_publishing c e.reply kind)
        where
          legal_at : (x : Call) → e.what ≡ Made x → e.reply ≡ Accepted → history_reply d a m q x ≡ Accepted
          legal_at x xw r =
              let l = subst (λ (w : What). IsLegalEntry d a m (Party q) w e.height e.reply) xw
              (subst (λ (s : Sender). IsLegalEntry d a m s e.what e.height e.reply) es legal_here) in
              sym l.reply ∙ r

          by : (x : Call) → e.what ≡ Made x → e.reply ≡ Accepted → (is_publish_call x || is_transfer_call x) ≡ false → is_some (published m) ≡ true
          by (Publish t) xw r o = absurd (cc o)
          by (Transfer to units) xw r o = absurd (cc o)
          by (Unlock key) xw r o = ap (λ (z : Option Publication). is_some z) (of_unlock d a m q key (accepted_clear d a m q (Unlock key) (legal_at (Unlock key) xw r))).published
          by Claim xw r o = ap (λ (z : Option Publication). is_some z) (of_claim d a m q (accepted_clear d a m q Claim (legal_at Claim xw r))).published
          by Refund xw r o = ap (λ (z : Option Publication). is_some z) (of_refund d a m q (accepted_clear d a m q Refund (legal_at Refund xw r))).published

      other_first : call_kind c e.reply ≡ AcceptedLine → (is_first_accepted (now m 0 us) AcceptedLine && not (is_correct_publish d a e.sender e.what)) ≡ false
      other_first kind = first_by (is_first_accepted (now m 0 us) AcceptedLine) (is_correct_publish d a e.sender e.what) (λ f.
          let both = and_parts (v == counterparty d a) (not (is_some (published m))) f in
          absurd (false≢true (sym (not_true (is_some (published m)) both.1) ∙ contract_here kind)))

      foreign : (kind : Kind) → separated_parts 32 line ≡ entry_words (Party q) (Made c) e.reply → call_kind c e.reply ≡ kind → (kind ≡ Noise → ⊥)
          → HeardAll (past ++ e ∷ []) (line_heard n (now p k us) kind line)
      foreign Read w kind other = absurd (never_read c e.reply kind)
      foreign Refused w kind other = absurd (never_refused c e.reply kind)
      foreign Noise w kind other = absurd (other refl)
      foreign AcceptedLine w kind other = by_kind AcceptedLine w refl refl (other_first kind)
      foreign PublishLine w kind other = by_kind PublishLine w refl refl (publish_first kind)

      of_party : (t : Bool) → (q == v) ≡ t → q < 256 → separated_parts 32 line ≡ entry_words (Party q) (Made c) e.reply
          → HeardAll (past ++ e ∷ []) (line_heard n (now p k us) (line_kind v (separated_parts 32 line)) line)
      of_party true mine lq w =
          subst (λ (x : Kind). HeardAll (past ++ e ∷ []) (line_heard n (now p k us) x line))
          (sym (ap (line_kind v) w ∙ ap (λ z. line_kind v (entry_words (Party z) (Made c) e.reply)) (eqb-true q v mine) ∙ own_kind v c e.reply
          ∙ own_read v e q c es ew mine kept paid))
          (by_kind Read w refl refl refl)
      of_party false mine lq w =
          let contract : is_of_contract (accepted_call (Made c) e.reply) ≡ true =
          sym (ap (λ (s : Sender). is_ticking e.what || is_sender v s || is_of_contract (accepted_call e.what e.reply)) es
          ∙ ap (λ (x : What). is_ticking x || (q == v) || is_of_contract (accepted_call x e.reply)) ew
          ∙ ap (λ t. t || is_of_contract (accepted_call (Made c) e.reply)) mine) ∙ told in
          subst (λ (x : Kind). HeardAll (past ++ e ∷ []) (line_heard n (now p k us) x line))
          (sym (ap (line_kind v) w ∙ other_kind v q c e.reply lq small (λ z. false≢true (sym mine ∙ eq-eqb q v z))))
          (foreign (call_kind c e.reply) w refl (not_noise c e.reply contract))

    -- a tick
    module _ (j : ℕ) (es : e.sender ≡ Clock) (ew : e.what ≡ Tick j) where
      formed_tick : IsFormedTick (part v past) j e.height
      formed_tick =
          subst (λ (w : What). IsFormedWhat d a (part v past) Clock w e.height) ew
          (subst (λ (s : Sender). IsFormedWhat d a (part v past) s e.what e.height) es formed_here.what)

      legal_tick : IsLegalTick (part v past) j e.height e.reply
      legal_tick =
          subst (λ (w : What). IsLegalEntry d a (part v past) Clock w e.height e.reply) ew
          (subst (λ (s : Sender). IsLegalEntry d a (part v past) s e.what e.height e.reply) es
          (at_moment (IsLegalMoment d a) (part v h) (part v past) e u.legal moment))

      took : e.reply ≡ Accepted
      took = subst (λ (w : What). IsStatedWhat w e.reply) ew statable_here.tick

      entry_is : e ≡ tick_entry j e.height Accepted
      entry_is =
          ap (λ (s : Sender). record e { sender = s }) es ∙ ap (λ (w : What). record e { sender = Clock; what = w }) ew
          ∙ ap (λ (r : Reply). record e { sender = Clock; what = Tick j; reply = r }) took

      -- what was taken and what waits comes to the height
      high : height m ≡ height p + k
      high = by stands
        where
          by : Stands p k m → height m ≡ height p + k
          by (Settled none same) = ap height same ∙ (let z : ◌≡◌ {A = ℕ} (height p) (height p + k) = omega arith in z)
          by (Waits some room same) =
              ap height same ∙ height-push p (tick_entry k (height p + k) Accepted)

      at : e.height ≡ height p + k + j
      at = legal_tick.height ∙ ap (λ n. n + j) (sym same_height ∙ high)

      behind : part v past ++ e ∷ [] ≡ part v past ++ tick_entry j (height p + k + j) Accepted ∷ []
      behind = ap (λ (x : Entry). part v past ++ x ∷ []) (entry_is ∙ ap (λ n. tick_entry j n Accepted) at)

      -- the last tick of what is merged is accepted
      room_by : (q : List Entry) (i : ℕ) → IsLegal d a (q ++ tick_entry i (height q + i) Accepted ∷ []) → is_clock_full q i ≡ false
      room_by q i l = by (is_clock_full q i) refl
        where
          last : IsLegalTick q i (height q + i) Accepted
          last = at_moment (IsLegalMoment d a) (q ++ tick_entry i (height q + i) Accepted ∷ []) q (tick_entry i (height q + i) Accepted) l ([], refl)

          by : (b : Bool) → is_clock_full q i ≡ b → is_clock_full q i ≡ false
          by false x = x
          by true x = absurd (cc (last.reply ∙ ap (λ t. cond t ClockFull Accepted) x))

      room : is_clock_full p (k + j) ≡ false
      room = by stands
        where
          by : Stands p k m → is_clock_full p (k + j) ≡ false
          by s = room_by p (k + j) (subst (IsLegal d a) (ap merged behind ∙ merged_tick p (part v past) k j ends s) legal_merged)

      stands_now : Stands p (k + j) (merged (part v (past ++ e ∷ [])))
      stands_now =
          subst (Stands p (k + j)) (sym (more_is ∙ ap merged behind)) (stands_tick p (part v past) k j ends stands legal_tick.some room)

      words_are_tick : separated_parts 32 line ≡ entry_words Clock (Tick j) e.reply
      words_are_tick =
          ap (λ (l : List ℕ). separated_parts 32 l) (own ∙ ap (λ (s : Sender). spaced (entry_words s e.what e.reply)) es
          ∙ ap (λ (w : What). spaced (entry_words Clock w e.reply)) ew)
          ∙ tick_parts j e.reply (subst IsTypedWhat ew statable_here.what)

      ticks : line_tick line ≡ Ok j
      unfolding line_tick
      ticks = ap words_tick words_are_tick ∙ tick_words_back j e.reply legal_tick.some (subst IsTypedWhat ew statable_here.what)

      low : nat_le (height p + k + j) most_height ≡ true
      low =
          le-leb (height p + k + j) 1000000
          (let z = ltb-false 1000000 (height p + (k + j)) (or_neither (nat_le 20000 (count_by (λ x. is_tick x.sender) p)) (nat_lt 1000000 (height p + (k + j))) room).1 in
          omega (arith, z))

      tick_step : HeardAll (past ++ e ∷ []) (line_heard n (now p k us) (line_kind v (separated_parts 32 line)) line)
      tick_step = record {
        unlocks = us;
        taken = p;
        waiting = k + j;
        ends = ends;
        stands = stands_now;
        is = ap (λ (x : Kind). line_heard n (now p k us) x line) (ap (line_kind v) words_are_tick ∙ tick_kind v j e.reply)
            ∙ ap (with_tick_or_entry n (now p k us) Read line) ticks
            ∙ ap (λ t. cond t (More (now p (k + j) us)) (bad_entry n (record (now p k us) { waiting = most_height - height p }) (Some (record { stated = Accepted; replayed = ClockFull })))) low;
      }

    of_entry : (s : Sender) (w : What) → e.sender ≡ s → e.what ≡ w → IsTypedSender s → IsTypedWhat w → IsFormedWhat d a (part v past) s w e.height
        → HeardAll (past ++ e ∷ []) (line_heard n (now p k us) (line_kind v (separated_parts 32 line)) line)
    of_entry (Party q) (Made c) es ew ts tw f = of_party q c es ew (q == v) refl ts (words_are q c es ew tw statable_here.reply ts)
    of_entry Clock (Tick j) es ew ts tw f = tick_step j es ew
    of_entry (Party q) (Tick j) es ew ts tw f = absurd f
    of_entry Clock (Made c) es ew ts tw f = absurd f

    told_step : HeardAll (past ++ e ∷ []) (line_heard n (now p k us) (line_kind v (separated_parts 32 line)) line)
    told_step = of_entry e.sender e.what refl refl statable_here.sender statable_here.what formed_here.what

  -- a refused call of v makes nothing of the ledger
  refused_step : (n : ℕ) (past more : List Entry) (x : Heard) (k : HeardAll past x) (e : Entry) (line : List ℕ)
      → part v (past ++ e ∷ []) ≡ part v past → line_kind v (separated_parts 32 line) ≡ Refused
      → HeardAll (past ++ e ∷ []) (line_heard n (now k.taken k.waiting k.unlocks) (line_kind v (separated_parts 32 line)) line)
  refused_step n past more x k e line same kind =
      let s = now k.taken k.waiting k.unlocks in
      same_part past (past ++ e ∷ []) x k (k.unlocks ++ stated_unlock n s (stated_entry s line)) _ same (ap (λ (z : Kind). line_heard n s z line) kind)

  step : (n : ℕ) (past more : List Entry) (x : Heard) (k : HeardAll past x) (e : Entry) (line : List ℕ) (t r f : Bool) → h ≡ past ++ e ∷ more
      → is_told v e ≡ t → counts.is_passed v e ≡ r → is_unfunded v e ≡ f → IsTyped e → SaysEntry false d v a e line
      → HeardAll (past ++ e ∷ []) (line_heard n (now k.taken k.waiting k.unlocks) (line_kind v (separated_parts 32 line)) line)
  step n past more x k e line true false false is told kept paid t s =
      told_step n past more k.taken k.waiting k.unlocks e line is told kept paid (s.0 told) k.ends k.stands
  step n past more x k e line true false true is told kept lacks t s =
      refused_step n past more x k e line (part_unfunded v past e told kept lacks) (unfunded_kind v small e line (s.0 told) t lacks)
  step n past more x k e line true true f is told gone paid t s =
      refused_step n past more x k e line (part_refused v past e told gone) (refused_kind v small e line (s.0 told) t gone)
  step n past more x k e line false r f is told gone paid t s =
      same_part past (past ++ e ∷ []) x k k.unlocks _ (part_untold v past e told)
      (ap (λ (z : Kind). line_heard n (now k.taken k.waiting k.unlocks) z line) (s.1 told))

  then_all : (n : ℕ) (ls : List (List ℕ)) (past : List Entry) (x : Heard) (k : HeardAll past x)
      → ((y : HeardAll past (More (now k.taken k.waiting k.unlocks))) → HeardAll h (all_heard (n + 1) (now y.taken y.waiting y.unlocks) ls))
      → HeardAll h (then_heard x (λ t. all_heard (n + 1) t ls))
  then_all n ls past x k more =
      let rest = more (record { unlocks = k.unlocks; taken = k.taken; waiting = k.waiting; ends = k.ends; stands = k.stands; is = refl }) in
      record {
        unlocks = rest.unlocks;
        taken = rest.taken;
        waiting = rest.waiting;
        ends = rest.ends;
        stands = rest.stands;
        is = ap (λ (y : Heard). then_heard y (λ t. all_heard (n + 1) t ls)) k.is ∙ rest.is;
      }

  pub all_told : ((e : Entry) → IsElement e h → IsTyped e) → (n : ℕ) (past rest : List Entry) (x : Heard) (k : HeardAll past x) (ls : List (List ℕ))
      → h ≡ past ++ rest → SayEntries false d v a rest ls → HeardAll h (all_heard n (now k.taken k.waiting k.unlocks) ls)
  all_told typed n past [] x k [] is s =
      same_part past h x k k.unlocks _ (ap (part v) (is ∙ append-nil past)) refl
  all_told typed n past [] x k (l ∷ ls) is s = absurd s
  all_told typed n past (e ∷ rest) x k [] is s = absurd s
  all_told typed n past (e ∷ rest) x k (l ∷ ls) is s =
      then_all n ls (past ++ e ∷ []) (line_heard n (now k.taken k.waiting k.unlocks) (line_kind v (separated_parts 32 l)) l)
      (step n past rest x k e l (is_told v e) (counts.is_passed v e) (is_unfunded v e) is refl refl refl (typed e (subst (IsElement e) (sym is) (in_from_moment past e rest))) s.0)
      (λ y. all_told typed (n + 1) (past ++ e ∷ []) rest _ y ls (is ∙ sym (append_assoc past (e ∷ []) rest)) s.1)

  abbrev pub nothing_heard : HeardAll [] (More (now [] 0 []))
  nothing_heard = record { unlocks = []; taken = []; waiting = 0; ends = Empty refl; stands = Settled refl refl; is = refl }
