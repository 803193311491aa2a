-- A call on a slot: what its chain's new entry shows to the slot, and to every other one.
use Rattle.std.proofs.Common.{append-nil, ◌≡◌, ◌≢◌, ◌⊎◌, ℕ, ◌+◌, ◌<◌, ◌==◌, ◌&&◌, ◌||◌, Bool, true, false, cond, List, [], ◌∷◌, ◌++◌, length}
use Rattle.std.proofs.Common.{refl, sym, ap, ap₂, ◌∙◌, subst, inl, inr, arith, eq-eqb, eqb-true, slice_set}
use Rattle.std.proofs.lemmas.List.{length-set}
use Rattle.escrow_core.specs.declared.reply.Reply.{Reply}
use Rattle.ledger_core.specs.declared.entry.Call.{Call}
use Rattle.ledger_core.specs.History.{height, history_reply}
use Rattle.ledger_core.specs.Ledger.{call_entry, is_sender_full, after_call}
use Rattle.ledger_core.specs.Book.{history}
use Rattle.ledger_core.proofs.History.{not-true}
use Rattle.swap_rules.proofs.Prefixes.{same_or_not}
use Rattle.swap_rules.proofs.Conducting.{history_same, history_other}
use Rattle.swap_many.specs.declared.many_reply.ManyReply.{ManyReply}
use Rattle.swap_many.specs.declared.many_reply.ManyReply.TheVariants.{Plain, Swept}
use Rattle.swap_many.specs.Chains.{Setup, arc_chain, put, Called, ChainEntry, chain_height, chain_ticks, entry_if_plain, projection, Chains, book, free}
use Rattle.swap_many.specs.Chains.{is_accepted_deed, is_swept, reply_to_call, leaves_none, entered}
use Rattle.swap_run.specs.Called.{is_barred}
use Rattle.swap_many.proofs.Projections.{put_same, put_other, shown_more, chain_height_more, chain_ticks_more, free_more, swept_more, height_is, shown_at}
use Rattle.swap_many.proofs.Projections.{book_length, collected_book, same_book}

-- the entry of a call with a reply
abbrev pub parse_call : (s a p : ℕ) → Call → List ChainEntry → ManyReply → ChainEntry
parse_call s a p c h y = record { height = chain_height h; deed = Called s a p c; reply = y }

self : (s a : ℕ) → ((s == s) && (a == a)) ≡ true
self s a = ap₂ (λ x y. x && y) (eq-eqb s s refl) (eq-eqb a a refl)

apart : (t b s a : ℕ) → (t ≢ s) ⊎ (b ≢ a) → ((t == s) && (b == a)) ≡ false
apart t b s a (inl n) = ap (λ x. x && (b == a)) (not-true (t == s) (λ e. n (eqb-true t s e)))
apart t b s a (inr n) = ap (λ y. (t == s) && y) (not-true (b == a) (λ e. n (eqb-true b a e))) ∙ none (t == s)
  where
    none : (x : Bool) → (x && false) ≡ false
    none true = refl
    none false = refl

-- to its own slot it shows what the call leaves of the ledger, where it reaches it
pub call_shown : (m : Setup) (s a p : ℕ) (c : Call) (h : List ChainEntry)
    → projection s a (entered h (parse_call s a p c h (reply_to_call m h s a p c)))
    ≡ cond (is_barred (is_swept s a h) (projection s a h) c) (projection s a h) (after_call (m.cast s).deal a p c (projection s a h))
unfolding after_call
call_shown m s a p c h = go (is_barred (is_swept s a h) (projection s a h) c)
  where
    barred : (x : Bool) → projection s a h ++ cond x (entry_if_plain Swept (call_entry p (chain_height h) c)) [] ≡ projection s a h
    barred true = append-nil (projection s a h)
    barred false = append-nil (projection s a h)

    landed : (r : Reply) (full : Bool)
        → projection s a (cond full h (h ++ parse_call s a p c h (Plain r) ∷ []))
        ≡ cond full (projection s a h) (projection s a h ++ call_entry p (height (projection s a h)) c r ∷ [])
    landed r true = refl
    landed r false =
        shown_more s a h (parse_call s a p c h (Plain r))
        ∙ ap₂ (λ x t. projection s a h ++ cond x (call_entry p t c r ∷ []) []) (self s a) (sym (height_is s a h))

    go : (x : Bool)
        → projection s a (entered h (parse_call s a p c h (cond x Swept (Plain (history_reply (m.cast s).deal a (projection s a h) p c)))))
        ≡ cond x (projection s a h) (after_call (m.cast s).deal a p c (projection s a h))
    go true = shown_more s a h (parse_call s a p c h Swept) ∙ barred ((s == s) && (a == a))
    go false = landed (history_reply (m.cast s).deal a (projection s a h) p c) (is_sender_full (history_reply (m.cast s).deal a (projection s a h) p c))

-- to every other slot it shows nothing
pub call_hidden : (t b s a p : ℕ) (c : Call) (h : List ChainEntry) (y : ManyReply) → (t ≢ s) ⊎ (b ≢ a)
    → projection t b (entered h (parse_call s a p c h y)) ≡ projection t b h
call_hidden t b s a p c h y n = go (leaves_none (Called s a p c) y)
  where
    go : (x : Bool) → projection t b (cond x h (h ++ parse_call s a p c h y ∷ [])) ≡ projection t b h
    go true = refl
    go false =
        shown_more t b h (parse_call s a p c h y)
        ∙ (ap (λ x. projection t b h ++ cond x (entry_if_plain y (call_entry p (chain_height h) c)) []) (apart t b s a n) ∙ append-nil (projection t b h))

-- What a call leaves of its chain's clock, free accounts and swept slots: all.

-- a word on a chain's history that no call changes stays
stays : {A : Type 0} (f : List ChainEntry → A) (s a p : ℕ) (c : Call) (h : List ChainEntry) (y : ManyReply)
    → f (h ++ parse_call s a p c h y ∷ []) ≡ f h → f (entered h (parse_call s a p c h y)) ≡ f h
stays f s a p c h y e = go (leaves_none (Called s a p c) y)
  where
    go : (x : Bool) → f (cond x h (h ++ parse_call s a p c h y ∷ [])) ≡ f h
    go true = refl
    go false = e

pub no_more : (n k : ℕ) → k ≡ n + 0 → k ≡ n
no_more n k e = omega arith

pub call_height : (s a p : ℕ) (c : Call) (h : List ChainEntry) (y : ManyReply) → chain_height (entered h (parse_call s a p c h y)) ≡ chain_height h
call_height s a p c h y = stays chain_height s a p c h y (no_more _ _ (chain_height_more h (parse_call s a p c h y)))

pub call_ticks : (s a p : ℕ) (c : Call) (h : List ChainEntry) (y : ManyReply) → chain_ticks (entered h (parse_call s a p c h y)) ≡ chain_ticks h
call_ticks s a p c h y = stays chain_ticks s a p c h y (no_more _ _ (chain_ticks_more h (parse_call s a p c h y)))

pub call_free : (m : Setup) (i s a p : ℕ) (c : Call) (h : List ChainEntry) (y : ManyReply) → free m i (entered h (parse_call s a p c h y)) ≡ free m i h
call_free m i s a p c h y = stays (free m i) s a p c h y (free_more m i h (parse_call s a p c h y) ∙ go (is_accepted_deed y))
  where
    go : (x : Bool) → cond x (free m i h) (free m i h) ≡ free m i h
    go true = refl
    go false = refl

pub call_swept : (t b s a p : ℕ) (c : Call) (h : List ChainEntry) (y : ManyReply) → is_swept t b (entered h (parse_call s a p c h y)) ≡ is_swept t b h
call_swept t b s a p c h y = stays (is_swept t b) s a p c h y (swept_more t b h (parse_call s a p c h y) ∙ go (is_accepted_deed y) (is_swept t b h))
  where
    go : (x z : Bool) → (z || (x && false)) ≡ z
    go true true = refl
    go true false = refl
    go false true = refl
    go false false = refl

-- Books.

-- another swap's book stays
pub other_book : (m : Setup) (h : Chains) (t s a p : ℕ) (c : Call) (y : ManyReply) → t ≢ s
    → book m h t ≡ book m (put h (arc_chain m s a) (entered (h (arc_chain m s a)) (parse_call s a p c (h (arc_chain m s a)) y))) t
other_book m h t s a p c y n = same_book m h g t (λ b l. each b (same_or_not (arc_chain m t b) (arc_chain m s a)))
  where
    new : List ChainEntry
    new = entered (h (arc_chain m s a)) (parse_call s a p c (h (arc_chain m s a)) y)

    g : Chains
    g = put h (arc_chain m s a) (entered (h (arc_chain m s a)) (parse_call s a p c (h (arc_chain m s a)) y))

    each : (b : ℕ) → (arc_chain m t b ≡ arc_chain m s a) ⊎ (arc_chain m t b ≢ arc_chain m s a)
        → projection t b (h (arc_chain m t b)) ≡ projection t b (put h (arc_chain m s a)
        (entered (h (arc_chain m s a)) (parse_call s a p c (h (arc_chain m s a)) y)) (arc_chain m t b))
    each b (inl e) =
        ap (λ j. projection t b (h j)) e
        ∙ sym (ap (projection t b) (ap (put h (arc_chain m s a) new) e ∙ put_same h (arc_chain m s a) new)
        ∙ call_hidden t b s a p c (h (arc_chain m s a)) y (inl n))
    each b (inr apart) = sym (ap (projection t b) (put_other h (arc_chain m s a) new (arc_chain m t b) apart))

-- the swap's own book has what the slot shows
pub own_book : (m : Setup) (h : Chains) (s a p : ℕ) (c : Call) (y : ManyReply) → a < length (m.cast s).deal.graph.arcs
    → slice_set (book m h s) a (projection s a (entered (h (arc_chain m s a)) (parse_call s a p c (h (arc_chain m s a)) y)))
    ≡ book m (put h (arc_chain m s a) (entered (h (arc_chain m s a)) (parse_call s a p c (h (arc_chain m s a)) y))) s
own_book m h s a p c y la =
    collected_book m (put h (arc_chain m s a) new) s (slice_set (book m h s) a (projection s a new))
    (length-set (book m h s) a (projection s a new) ∙ book_length m h s) (λ b l. each b l (same_or_not b a) (same_or_not (arc_chain m s b) (arc_chain m s a)))
  where
    new : List ChainEntry
    new = entered (h (arc_chain m s a)) (parse_call s a p c (h (arc_chain m s a)) y)

    each : (b : ℕ) → b < length (m.cast s).deal.graph.arcs → (b ≡ a) ⊎ (b ≢ a) → (arc_chain m s b ≡ arc_chain m s a) ⊎ (arc_chain m s b ≢ arc_chain m s a)
        → history (slice_set (book m h s) a (projection s a new)) b ≡ projection s b (put h (arc_chain m s a) new (arc_chain m s b))
    each b l (inl e) other =
        subst (λ z. history (slice_set (book m h s) a (projection s a new)) z ≡ projection s z (put h (arc_chain m s a) new (arc_chain m s z))) (sym e)
        (history_same (book m h s) a (projection s a new) (subst (λ n. a < n) (sym (book_length m h s)) la)
        ∙ sym (ap (projection s a) (put_same h (arc_chain m s a) new)))
    each b l (inr n) (inl e) =
        history_other (book m h s) a b (projection s a new) n ∙ (shown_at m h s b l
        ∙ (ap (λ j. projection s b (h j)) e
        ∙ sym (ap (projection s b) (ap (put h (arc_chain m s a) new) e ∙ put_same h (arc_chain m s a) new)
        ∙ call_hidden s b s a p c (h (arc_chain m s a)) y (inr n))))
    each b l (inr n) (inr apart) =
        history_other (book m h s) a b (projection s a new) n ∙ (shown_at m h s b l
        ∙ sym (ap (projection s b) (put_other h (arc_chain m s a) new (arc_chain m s b) apart)))
