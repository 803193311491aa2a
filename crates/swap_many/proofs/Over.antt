-- What is swept is over: its contract is settled, or nothing was published. So it holds nothing,
-- and accepts nothing.
use Rattle.std.proofs.Common.{append-nil, ◌≡◌, ◌≢◌, ◌⊎◌, ℕ, ◌+◌, ◌==◌, ◌&&◌, ◌||◌, not, nat_lt, Bool, true, false, cond, List, [], ◌∷◌, ◌++◌}
use Rattle.std.proofs.Common.{Option, Some, None, is_some, is_none, refl, sym, ap, ap₂, ◌∙◌, subst, inl, inr, eqb-true}
use Rattle.std.proofs.lemmas.Bool.{false≢true}
use Rattle.swap_base.proofs.Lists.{first_given_answer-append, first_given_answer-front, or_else-none}
use Rattle.swap_digraph.specs.declared.deal.Deal.{Deal}
use Rattle.escrow_core.specs.declared.reply.Reply.{Reply}
use Rattle.escrow_core.specs.declared.reply.Reply.TheVariants as replies
use Rattle.swap_digraph.specs.Deal.{party}
use Rattle.escrow_core.specs.Table.{first_row, unlock_rows, claim_rows, refund_rows}
use Rattle.ledger_core.specs.declared.entry.Call.{Call}
use Rattle.ledger_core.specs.declared.entry.Call.TheVariants.{Publish, Unlock, Claim, Refund, Transfer}
use Rattle.ledger_core.specs.declared.entry.Entry.{Entry}
use Rattle.ledger_core.specs.declared.facts.Settlement.{Settlement}
use Rattle.ledger_core.specs.History.{Publication, publication, published, settling, settled, accepted, held, publication_terms, the_terms, is_open, height}
use Rattle.ledger_core.specs.History.{balance, rows, is_full, history_reply}
use Rattle.ledger_core.specs.Ledger.{call_entry, tick_entry, is_sender_full, after_call}
use Rattle.ledger_core.proofs.History.{is_some-of, not-true}
use Rattle.swap_rules.specs.Machine.{Begins}
use Rattle.swap_rules.proofs.Prefixes.{same_or_not}
use Rattle.swap_many.specs.declared.many_reply.ManyReply.{ManyReply}
use Rattle.swap_many.specs.declared.many_reply.ManyReply.TheVariants.{Plain, NotEnded, Swept, StillHeld, Unpublished}
use Rattle.swap_many.specs.Chains.{Setup, Emptied, Paid, ChainEntry, chain_height, projection, is_accepted_deed, is_swept, reply_to_call}
use Rattle.swap_run.specs.Called.{is_barred}
use Rattle.swap_many.specs.Chains.{reply_to_sweep, entered}
use Rattle.swap_many.specs.Sound.{Over, AreSweptSlotsFinal}
use Rattle.swap_many.proofs.Projections.{shown_more, swept_more}
use Rattle.swap_many.proofs.Tick.{entry_tick}
use Rattle.swap_many.proofs.Landed.{parse_call, call_shown, call_hidden, call_swept}
use Rattle.swap_many.proofs.Follow.{tick_swept, or-end, and-end}

tail : {A : Type 0} → List A → List A
tail [] = []
tail (x ∷ xs) = xs

none_is : {A : Type 0} (o : Option A) → is_none o ≡ true → o ≡ None
none_is None e = refl
none_is (Some x) e = absurd (cc e)

pub over_held : (h : List Entry) → Over h → held h ≡ 0
over_held h (inl e) = ap (λ b. cond b 0 (publication_terms (published h)).amount) e
over_held h (inr e) = ap (λ o. cond (is_some (settled h)) 0 (publication_terms o).amount) (none_is (published h) e) ∙ go (is_some (settled h))
  where
    go : (b : Bool) → ◌≡◌ {A = ℕ} (cond b 0 0) 0
    go true = refl
    go false = refl

settled_more : (h k : List Entry) → Begins h k → is_some (settled h) ≡ true → is_some (settled k) ≡ true
settled_more h k b e =
    let x = is_some-of (settled h) e in
    ap is_some (ap settled b.1 ∙ first_given_answer-front (λ e. settling (accepted e)) h b.0 x.0 x.1)

over_tick : (h : List Entry) (k t : ℕ) → Over h → Over (h ++ tick_entry k t replies.Accepted ∷ [])
over_tick h k t (inl e) = inl (settled_more h (h ++ tick_entry k t replies.Accepted ∷ []) (tick_entry k t replies.Accepted ∷ [], refl) e)
over_tick h k t (inr e) =
    inr (ap is_none (first_given_answer-append (λ e. publication e.height (accepted e)) h (tick_entry k t replies.Accepted ∷ []) ∙ or_else-none (published h)) ∙ e)

call_begins : (d : Deal) (a p : ℕ) (c : Call) (h : List Entry) → Begins h (after_call d a p c h)
unfolding after_call
call_begins d a p c h = go (is_sender_full (history_reply d a h p c))
  where
    go : (b : Bool) → Begins h (cond b h (h ++ call_entry p (height h) c (history_reply d a h p c) ∷ []))
    go true = ([], sym (append-nil h))
    go false = (call_entry p (height h) c (history_reply d a h p c) ∷ [], refl)

reached : (h : List Entry) → Over h → is_none (published h) ≡ false → (is_some (settled h) ≡ true) × (is_some (published h) ≡ true)
reached h (inl s) e = (s, some (published h) e)
  where
    some : (o : Option Publication) → is_none o ≡ false → is_some o ≡ true
    some None q = absurd (cc q)
    some (Some x) q = refl
reached h (inr n) e = absurd (false≢true (sym e ∙ n))

-- a call that reaches the ledger of a swept slot finds a settled contract
reached_settled : (h : List Entry) (c : Call) → Over h → is_barred true h c ≡ false → (is_some (settled h) ≡ true) × (is_some (published h) ≡ true)
reached_settled h (Transfer to units) o e = absurd (cc e)
reached_settled h (Publish t) o e = reached h o e
reached_settled h (Unlock key) o e = reached h o e
reached_settled h Claim o e = reached h o e
reached_settled h Refund o e = reached h o e

other : (x y : ℕ) → x ≢ y → (x == y) ≡ false
other x y n = not-true (x == y) (λ e. n (eqb-true x y e))

-- Chains.

pub over_after_tick : (k : ℕ) (h : List ChainEntry) → AreSweptSlotsFinal h → AreSweptSlotsFinal (h ++ entry_tick k h ∷ [])
over_after_tick k h o s a e =
    subst Over (sym (shown_more s a h (entry_tick k h))) (over_tick (projection s a h) k (chain_height h + k) (o s a (sym (tick_swept s a k h) ∙ e)))

pub over_after_call : (m : Setup) (s a p : ℕ) (c : Call) (h : List ChainEntry) → AreSweptSlotsFinal h
    → AreSweptSlotsFinal (entered h (parse_call s a p c h (reply_to_call m h s a p c)))
over_after_call m s a p c h o t b e = go (same_or_not t s) (same_or_not b a)
  where
    was : is_swept t b h ≡ true
    was = sym (call_swept t b s a p c h (reply_to_call m h s a p c)) ∙ e

    own : is_swept s a h ≡ true → (x : Bool) → is_barred (is_swept s a h) (projection s a h) c ≡ x
        → Over (cond x (projection s a h) (after_call (m.cast s).deal a p c (projection s a h)))
    own w true q = o s a w
    own w false q =
        inl (settled_more (projection s a h) (after_call (m.cast s).deal a p c (projection s a h)) (call_begins (m.cast s).deal a p c (projection s a h))
        (reached_settled (projection s a h) c (o s a w) (ap (λ z. is_barred z (projection s a h) c) (sym w) ∙ q)).0)

    go : (t ≡ s) ⊎ (t ≢ s) → (b ≡ a) ⊎ (b ≢ a) → Over (projection t b (entered h (parse_call s a p c h (reply_to_call m h s a p c))))
    go (inl q) (inl r) =
        subst (λ t. Over (projection t b (entered h (parse_call s a p c h (reply_to_call m h s a p c))))) (sym q)
        (subst (λ b. Over (projection s b (entered h (parse_call s a p c h (reply_to_call m h s a p c))))) (sym r)
        (subst Over (sym (call_shown m s a p c h))
        (own (ap₂ (λ t b. is_swept t b h) (sym q) (sym r) ∙ was) (is_barred (is_swept s a h) (projection s a h) c) refl)))
    go (inl q) (inr n) = subst Over (sym (call_hidden t b s a p c h (reply_to_call m h s a p c) (inr n))) (o t b was)
    go (inr n) other = subst Over (sym (call_hidden t b s a p c h (reply_to_call m h s a p c) (inl n))) (o t b was)

pub over_after_payment : (from to units : ℕ) (h : List ChainEntry) (y : ManyReply) → AreSweptSlotsFinal h
    → AreSweptSlotsFinal (h ++ record { height = chain_height h; deed = Paid from to units; reply = y } ∷ [])
over_after_payment from to units h y o s a e =
    subst Over (sym (shown_more s a h (record { height = chain_height h; deed = Paid from to units; reply = y }) ∙ append-nil (projection s a h)))
    (o s a (sym (swept_more s a h (record { height = chain_height h; deed = Paid from to units; reply = y })
    ∙ (ap (λ b. is_swept s a h || b) (and-end (is_accepted_deed y)) ∙ or-end (is_swept s a h))) ∙ e))

-- a sweep that is accepted: neither low nor swept nor held
pub done_rows : (x y w z : Bool) (f u : ℕ)
    → is_accepted_deed (cond x (NotEnded f) (cond y Swept (cond w (StillHeld u) (cond z Unpublished (Plain replies.Accepted))))) ≡ true
    → (x ≡ false) × (y ≡ false) × (w ≡ false)
done_rows true y w z f u e = absurd (cc e)
done_rows false true w z f u e = absurd (cc e)
done_rows false false true z f u e = absurd (cc e)
done_rows false false false z f u e = (refl, refl, refl)

pub over_swept : (h : List Entry) → (is_some (published h) && is_none (settled h)) ≡ false → Over h
over_swept h e = go (published h) (settled h) e
  where
    go : (o : Option Publication) (r : Option Settlement) → (is_some o && is_none r) ≡ false → (is_some r ≡ true) ⊎ (is_none o ≡ true)
    go None r e = inr refl
    go (Some x) (Some y) e = inl refl
    go (Some x) None e = absurd (cc e)

pub over_after_sweep : (fair : Bool) (horizon s a : ℕ) (h : List ChainEntry) → AreSweptSlotsFinal h
    → AreSweptSlotsFinal (h ++ record {
      height = chain_height h;
      deed = Emptied s a;
      reply = reply_to_sweep fair horizon (chain_height h) (is_swept s a h) (projection s a h);
    } ∷ [])
over_after_sweep fair horizon s a h o t b e =
    subst Over (sym (shown_more t b h entry ∙ append-nil (projection t b h)))
    (go (is_swept t b h) (is_accepted_deed reply) ((t == s) && (b == a)) refl refl (same_or_not t s) (same_or_not b a) (sym (swept_more t b h entry) ∙ e))
  where
    reply : ManyReply
    reply = reply_to_sweep fair horizon (chain_height h) (is_swept s a h) (projection s a h)

    entry : ChainEntry
    entry = record {
      height = chain_height h;
      deed = Emptied s a;
      reply = reply_to_sweep fair horizon (chain_height h) (is_swept s a h) (projection s a h);
    }

    here : is_accepted_deed (reply_to_sweep fair horizon (chain_height h) (is_swept s a h) (projection s a h)) ≡ true → Over (projection s a h)
    here q =
        over_swept (projection s a h) (done_rows (nat_lt (chain_height h) (horizon + 1)) (is_swept s a h)
        (is_some (published (projection s a h)) && is_none (settled (projection s a h))) (not fair && is_none (published (projection s a h)))
        (horizon + 1) (held (projection s a h)) q).2

    go : (x y w : Bool) → is_swept t b h ≡ x → is_accepted_deed reply ≡ y → (t ≡ s) ⊎ (t ≢ s) → (b ≡ a) ⊎ (b ≢ a) → (x || (y && ((t == s) && (b == a)))) ≡ true
        → Over (projection t b h)
    go true y w q r i j k = o t b q
    go false false w q r i j k = absurd (cc k)
    go false true w q r (inl i) (inl j) k =
        subst (λ t. Over (projection t b h)) (sym i) (subst (λ b. Over (projection s b h)) (sym j) (here r))
    go false true w q r (inl i) (inr n) k =
        absurd (false≢true (sym (ap (λ z. (t == s) && z) (other b a n) ∙ and-end (t == s)) ∙ k))
    go false true w q r (inr n) j k = absurd (false≢true (sym (ap (λ z. z && (b == a)) (other t s n)) ∙ k))

-- Replies on a swept slot.

plain_not : (r : Reply) → r ≢ replies.Accepted → Plain r ≢ Plain replies.Accepted
plain_not r n e = n (ap (λ y. back y) e)
  where
    back : ManyReply → Reply
    back (Plain r) = r
    back _ = replies.Settled

-- the first of three rows that decide
decided : (x y : Bool) (r t u : Reply) (more : List (Bool × Reply)) → r ≢ replies.Accepted → t ≢ replies.Accepted → u ≢ replies.Accepted
    → first_row ((x, r) ∷ (y, t) ∷ (true, u) ∷ more) ≢ replies.Accepted
decided true y r t u more nr nt nu = nr
decided false true r t u more nr nt nu = nt
decided false false r t u more nr nt nu = nu

refused : (d : Deal) (a : ℕ) (h : List Entry) (p : ℕ) (c : Call) → is_barred true h c ≡ false → is_some (settled h) ≡ true
    → is_some (published h) ≡ true → history_reply d a h p c ≢ replies.Accepted
unfolding rows tail
refused d a h p (Publish t) b s q e =
    decided (is_full h p) (not (p == party d a)) replies.SenderFull replies.NotParty replies.AlreadyPublished
    ((nat_lt (balance d a h p) t.amount, replies.NoFunds (balance d a h p)) ∷ []) (λ z. cc z) (λ z. cc z) (λ z. cc z)
    (ap (λ x. first_row ((is_full h p, replies.SenderFull) ∷ (not (p == party d a), replies.NotParty) ∷ (x, replies.AlreadyPublished)
    ∷ (nat_lt (balance d a h p) t.amount, replies.NoFunds (balance d a h p)) ∷ [])) (sym q) ∙ e)
refused d a h p (Unlock key) b s q e =
    decided (is_full h p) (is_none (published h)) replies.SenderFull replies.NoContract replies.Settled
    (tail (unlock_rows d a (the_terms h) (is_open h) true (height h) p key)) (λ z. cc z) (λ z. cc z) (λ z. cc z)
    (ap (λ x. first_row ((is_full h p, replies.SenderFull) ∷ (is_none (published h), replies.NoContract)
    ∷ unlock_rows d a (the_terms h) (is_open h) x (height h) p key)) (sym s) ∙ e)
refused d a h p Claim b s q e =
    decided (is_full h p) (is_none (published h)) replies.SenderFull replies.NoContract replies.Settled
    (tail (claim_rows d a (is_open h) true p)) (λ z. cc z) (λ z. cc z) (λ z. cc z)
    (ap (λ x. first_row ((is_full h p, replies.SenderFull) ∷ (is_none (published h), replies.NoContract)
    ∷ claim_rows d a (is_open h) x p)) (sym s) ∙ e)
refused d a h p Refund b s q e =
    decided (is_full h p) (is_none (published h)) replies.SenderFull replies.NoContract replies.Settled
    (tail (refund_rows d a (the_terms h) (is_open h) true (height h) p)) (λ z. cc z) (λ z. cc z) (λ z. cc z)
    (ap (λ x. first_row ((is_full h p, replies.SenderFull) ∷ (is_none (published h), replies.NoContract)
    ∷ refund_rows d a (the_terms h) (is_open h) x (height h) p)) (sym s) ∙ e)
refused d a h p (Transfer to units) b s q e = absurd (cc b)

pub swept_refuses : (m : Setup) (s a p : ℕ) (c : Call) (h : List ChainEntry) → AreSweptSlotsFinal h → is_swept s a h ≡ true
    → reply_to_call m h s a p c ≢ Plain replies.Accepted
swept_refuses m s a p c h o w = go (is_barred (is_swept s a h) (projection s a h) c) refl
  where
    go : (x : Bool) → is_barred (is_swept s a h) (projection s a h) c ≡ x
        → cond x Swept (Plain (history_reply (m.cast s).deal a (projection s a h) p c)) ≢ Plain replies.Accepted
    go true q = λ e. cc e
    go false q =
        let z : is_barred true (projection s a h) c ≡ false = ap (λ z. is_barred z (projection s a h) c) (sym w) ∙ q in
        let k = reached_settled (projection s a h) c (o s a w) z in
        plain_not (history_reply (m.cast s).deal a (projection s a h) p c) (refused (m.cast s).deal a (projection s a h) p c z k.0 k.1)
