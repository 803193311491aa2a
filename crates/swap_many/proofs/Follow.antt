-- What is kept is what the chains' histories give, event by event; and each swap's state stays
-- good.
use Rattle.std.proofs.Common.{append-nil, ◌≡◌, ◌≢◌, ◌⊎◌, ℕ, suc, ◌+◌, ◌<◌, ◌==◌, ◌&&◌, ◌||◌, Bool, true, false, cond, List, [], ◌∷◌, ◌++◌, length, fold}
use Rattle.std.proofs.Common.{Option, Some, None, refl, sym, ap, ap₂, ◌∙◌, subst, inl, inr, arith, eq-eqb, eqb-true, slice_set, All}
use Rattle.std.specs.Prelude.{option_map}
use Rattle.std.proofs.lemmas.List.{length-replicate}
use Rattle.escrow_core.specs.declared.reply.Reply.TheVariants.{Accepted, ClockFull}
use Rattle.ledger_core.specs.declared.entry.Entry.{Entry}
use Rattle.ledger_core.specs.History.{accounts, history_reply}
use Rattle.ledger_core.specs.Ledger.{after_call}
use Rattle.ledger_core.specs.Book.{Histories, history}
use Rattle.ledger_core.proofs.History.{not-true}
use Rattle.swap_job.specs.declared.event.Event.{Event}
use Rattle.swap_rules.proofs.Prefixes.{same_or_not}
use Rattle.swap_run.specs.Run.{Cast, State, start, step, no_histories}
use Rattle.swap_run.specs.Laws.{IsGood}
use Rattle.swap_run.specs.Fair.{the_horizon}
use Rattle.swap_run.proofs.Good.{start_is_good, good_is_kept, empty_at}
use Rattle.swap_many.specs.declared.many_event.ManyEvent.{ManyEvent}
use Rattle.swap_many.specs.declared.many_event.ManyEvent.TheVariants.{Tick, In, Pay, Sweep}
use Rattle.swap_many.specs.declared.many_reply.ManyReply.{ManyReply}
use Rattle.swap_many.specs.declared.many_reply.ManyReply.TheVariants.{Plain, Swept}
use Rattle.swap_run.specs.Called.{Called, called, before_call, is_due_act, noted_state, planned_state, called_state}
use Rattle.swap_many.specs.Chains.{Setup, arc_chain, place, put, Ticked, Paid, Emptied, ChainEntry, chain_height, chain_ticks, has_no_tick}
use Rattle.swap_many.specs.Chains.{projection, Chains, book, Units, paid, returned, free, is_accepted_deed, is_swept, reply_to_call}
use Rattle.swap_run.specs.Called.{is_barred, landed_event}
use Rattle.swap_many.specs.Chains.{reply_to_payment, reply_to_sweep, entered}
use Rattle.swap_many.specs.Many.{Run, swap_state, post_call, posted, heard, done, many_step, many_start, many_run}
use Rattle.swap_many.specs.Kept.{Kept, later, ticked, is_barred_call, answer_call, answer_payment, answer_sweep, kept_sweep, kept_done, kept_step}
use Rattle.swap_many.specs.Kept.{kept_start}
use Rattle.swap_run.specs.CalledLaws.{IsSplit}
use Rattle.swap_many.specs.Laws.{IsReadySetup, CanHappen, CanSweep, CanCome, Follows, AreGood, StartFollows, StepsFollow}
use Rattle.swap_many.specs.Laws.{RepliesFollow, RunsFollow, BooksAreKept}
use Rattle.swap_run.proofs.Calls.{calls_split, calls_are_placed}
use Rattle.swap_run.proofs.Swept.{steps_on_are_good}
use Rattle.swap_many.proofs.Projections.{put_same, put_other, put_still, shown_more, chain_height_more, chain_ticks_more, free_more, swept_more, shown_at}
use Rattle.swap_many.proofs.Projections.{collected_book, same_book}
use Rattle.swap_many.proofs.Tick.{entry_tick, ticked_book, ticked_good}
use Rattle.swap_many.proofs.Landed.{parse_call, call_shown, call_height, call_ticks, call_free, call_swept, other_book, own_book, no_more}

-- States by their books.

abbrev set_book : Histories → State → State
set_book b z = record z { book = b }

with_book : (z : State) (b : Histories) → z.book ≡ b → z ≡ record z { book = b }
with_book z b e = subst (λ b. z ≡ record z { book = b }) e refl

told_book : (c : Cast) (s : State) (e : Event) (x : Called) (h : List Entry) → IsSplit c s e → (called_state c s e x h).book ≡ slice_set s.book x.arc h
told_book c s e x h split = go (is_due_act c e) ∙ ap (λ b. slice_set b x.arc h) split.calm
  where
    go : (b : Bool) → (cond b (noted_state (before_call c s e) x h) (planned_state c (before_call c s e) x h)).book ≡ slice_set (before_call c s e).book x.arc h
    go true = refl
    go false = refl

-- The beginning.

no_books : (m : Setup) (s : ℕ) → no_histories (m.cast s).deal ≡ book m (λ i. []) s
no_books m s =
    collected_book m (λ i. []) s (no_histories (m.cast s).deal) (length-replicate (length (m.cast s).deal.graph.arcs) []) (λ a l. empty_at (m.cast s).deal a)

pub start_follows : StartFollows
start_follows m ready = (
  record {
    swaps = λ s l. with_book (start (m.cast s)) (book m (λ i. []) s) (no_books m s);
    heights = λ i. refl;
    ticks = λ i. refl;
    free = λ i. refl;
    swept = λ s a. refl;
  },
  λ s l. start_is_good (m.cast s) (ready.casts s l),
)

-- One chain gets an entry.

-- what holds of the chain with the new entry, and of the others
each_chain : {A : Type 0} (f : ℕ → List ChainEntry → A) (g : ℕ → A) (h : Chains) (i : ℕ) (new : List ChainEntry) → g i ≡ f i new
    → ((j : ℕ) → j ≢ i → g j ≡ f j (h j)) → (j : ℕ) → g j ≡ f j (put h i new j)
each_chain f g h i new here others j = go (same_or_not j i)
  where
    go : (j ≡ i) ⊎ (j ≢ i) → g j ≡ f j (put h i new j)
    go (inl e) = subst (λ z. g z ≡ f z (put h i new z)) (sym e) (here ∙ sym (ap (f i) (put_same h i new)))
    go (inr n) = others j n ∙ sym (ap (f j) (put_other h i new j n))

-- no word of a chain changes
all_chains : {A : Type 0} (f : ℕ → List ChainEntry → A) (g : ℕ → A) (h : Chains) (i : ℕ) (new : List ChainEntry) → f i new ≡ f i (h i)
    → ((j : ℕ) → g j ≡ f j (h j)) → (j : ℕ) → g j ≡ f j (put h i new j)
all_chains f g h i new same old = each_chain f g h i new (old i ∙ sym same) (λ j n. old j)

-- the words on swept slots, of each slot's chain
all_slots : (m : Setup) (g : ℕ → ℕ → Bool) (h : Chains) (i : ℕ) (new : List ChainEntry)
    → ((s a : ℕ) → arc_chain m s a ≡ i → g s a ≡ is_swept s a new) → ((s a : ℕ) → arc_chain m s a ≢ i → g s a ≡ is_swept s a (h (arc_chain m s a)))
    → (s a : ℕ) → g s a ≡ is_swept s a (put h i new (arc_chain m s a))
all_slots m g h i new here there s a = go (same_or_not (arc_chain m s a) i)
  where
    go : (arc_chain m s a ≡ i) ⊎ (arc_chain m s a ≢ i) → g s a ≡ is_swept s a (put h i new (arc_chain m s a))
    go (inl e) = here s a e ∙ sym (ap (is_swept s a) (ap (put h i new) e ∙ put_same h i new))
    go (inr n) = there s a n ∙ sym (ap (is_swept s a) (put_other h i new (arc_chain m s a) n))

-- Ticks.

pub tick_swept : (s a k : ℕ) (h : List ChainEntry) → is_swept s a (h ++ entry_tick k h ∷ []) ≡ is_swept s a h
tick_swept s a k h = swept_more s a h (entry_tick k h) ∙ end (is_swept s a h)
  where
    end : (b : Bool) → (b || false) ≡ b
    end true = refl
    end false = refl

tick_follows : (fair : Bool) (m : Setup) (r : Run) (z : Kept) (i k : ℕ) → Follows m r z
    → Follows m (done fair m r (Tick i k)) (kept_done fair m z (Tick i k))
tick_follows fair m r z i k f =
    subst (λ b. Follows m (done fair m r (Tick i k)) (cond b z ticks)) (sym (ap₂ (λ x y. has_no_tick x y k) (f.ticks i) (f.heights i)))
    (go (has_no_tick (chain_ticks (r.chains i)) (chain_height (r.chains i)) k) refl)
  where
    ticks : Kept
    ticks = record z { clocks = put z.clocks i (later (z.clocks i) k); swaps = λ s. ticked m i k s (z.swaps s) }

    entry : ManyReply → ChainEntry
    entry y = record { height = chain_height (r.chains i) + k; deed = Ticked k; reply = y }

    new : List ChainEntry
    new = r.chains i ++ entry_tick k (r.chains i) ∷ []

    one : (n t : ℕ) → t ≡ n + 1 → n + 1 ≡ t
    one n t e = sym e

    go : (b : Bool) → has_no_tick (chain_ticks (r.chains i)) (chain_height (r.chains i)) k ≡ b
        → Follows m (record {
          chains = put r.chains i (entered (r.chains i) (entry (cond b (Plain ClockFull) (Plain Accepted))));
          minds = r.minds;
        }) (cond b z ticks)
    go true full = subst (λ h. Follows m (record { chains = h; minds = r.minds }) z) (sym (put_still r.chains i (r.chains i) refl))
        (record { swaps = f.swaps; heights = f.heights; ticks = f.ticks; free = f.free; swept = f.swept })
    go false room = record {
      swaps = λ s l. ticked_book m i k s r.chains (z.swaps s) (ap (λ t. t.book) (f.swaps s l)) room
          ∙ ap (set_book (book m (put r.chains i new) s)) (f.swaps s l);
      heights = each_chain (λ j h. chain_height h) (λ j. (put z.clocks i (later (z.clocks i) k) j).height) r.chains i new
          (ap (λ t. t.height) (put_same z.clocks i (later (z.clocks i) k))
          ∙ (ap (λ n. n + k) (f.heights i) ∙ sym (chain_height_more (r.chains i) (entry_tick k (r.chains i)))))
          (λ j n. ap (λ t. t.height) (put_other z.clocks i (later (z.clocks i) k) j n) ∙ f.heights j);
      ticks = each_chain (λ j h. chain_ticks h) (λ j. (put z.clocks i (later (z.clocks i) k) j).ticks) r.chains i new
          (ap (λ t. t.ticks) (put_same z.clocks i (later (z.clocks i) k))
          ∙ (ap (λ n. n + 1) (f.ticks i) ∙ sym (chain_ticks_more (r.chains i) (entry_tick k (r.chains i)))))
          (λ j n. ap (λ t. t.ticks) (put_other z.clocks i (later (z.clocks i) k) j n) ∙ f.ticks j);
      free = all_chains (λ j h. free m j h) z.free r.chains i new (free_more m i (r.chains i) (entry_tick k (r.chains i))) f.free;
      swept = all_slots m z.swept r.chains i new
          (λ s a e. f.swept s a ∙ (ap (λ j. is_swept s a (r.chains j)) e ∙ sym (tick_swept s a k (r.chains i)))) (λ s a n. f.swept s a);
    }

-- Events of a swap.

abbrev pub in_swap : Setup → Kept → ℕ → Event → Option Called → State
in_swap m z s e o = landed_event (z.swept s) (m.cast s) (z.swaps s) e o

-- the swap whose event it is comes to X, and no other one's book changes
swaps_follow : (m : Setup) (r : Run) (z : Kept) (s : ℕ) (x y : State) (h : Chains) → ((t : ℕ) → t < m.swaps → z.swaps t ≡ swap_state m r t)
    → x ≡ record y { book = book m h s } → ((t : ℕ) → t ≢ s → book m r.chains t ≡ book m h t)
    → (t : ℕ) → t < m.swaps → put z.swaps s x t ≡ record (put r.minds s y t) { book = book m h t }
swaps_follow m r z s x y h old new others t l = go (same_or_not t s)
  where
    go : (t ≡ s) ⊎ (t ≢ s) → put z.swaps s x t ≡ record (put r.minds s y t) { book = book m h t }
    go (inl e) = subst (λ t. put z.swaps s x t ≡ record (put r.minds s y t) { book = book m h t }) (sym e)
        (put_same z.swaps s x ∙ (new ∙ sym (ap (set_book (book m h s)) (put_same r.minds s y))))
    go (inr n) =
        put_other z.swaps s x t n ∙ (old t l ∙ (ap (λ b. set_book b (r.minds t)) (others t n)
        ∙ sym (ap (set_book (book m h t)) (put_other r.minds s y t n))))

-- whether a call is passed over is what the chain's history says
passed_is : (m : Setup) (r : Run) (z : Kept) (s : ℕ) (x : Called) → Follows m r z → s < m.swaps → x.arc < length (m.cast s).deal.graph.arcs
    → is_barred_call z s x
    ≡ is_barred (is_swept s x.arc (r.chains (arc_chain m s x.arc))) (projection s x.arc (r.chains (arc_chain m s x.arc))) x.call
passed_is m r z s x f ls la =
    ap₂ (λ b h. is_barred b h x.call) (f.swept s x.arc) (ap (λ t. history t.book x.arc) (f.swaps s ls) ∙ shown_at m r.chains s x.arc la)

-- the swap's state is what is heard of the chain's new entry
heard_is : (m : Setup) (r : Run) (z : Kept) (s : ℕ) (e : Event) (x : Called) → Follows m r z → s < m.swaps → x.arc < length (m.cast s).deal.graph.arcs
    → IsSplit (m.cast s) (swap_state m r s) e → called (m.cast s) (swap_state m r s) e ≡ Some x
    → in_swap m z s e (Some x) ≡ heard m r (posted r.chains (Some (post_call m r s x))) s e (Some x)
heard_is m r z s e x f ls la split q =
    ap (λ t. cond (is_barred_call z s x) (called_state (m.cast s) t e x (history t.book x.arc)) (step (m.cast s) t e)) (f.swaps s ls)
    ∙ (ap (λ b. cond b (called_state (m.cast s) (swap_state m r s) e x (history (swap_state m r s).book x.arc)) (step (m.cast s) (swap_state m r s) e))
    (passed_is m r z s x f ls la)
    ∙ (go (is_barred (is_swept s x.arc here) (projection s x.arc here) x.call)
    ∙ ap (called_state (m.cast s) (swap_state m r s) e x)
    (sym (call_shown m s x.arc x.sender x.call here) ∙ sym (ap (projection s x.arc) (put_same r.chains (arc_chain m s x.arc) new)))))
  where
    here : List ChainEntry
    here = r.chains (arc_chain m s x.arc)

    new : List ChainEntry
    new = entered here (parse_call s x.arc x.sender x.call here (reply_to_call m here s x.arc x.sender x.call))

    go : (b : Bool) → cond b (called_state (m.cast s) (swap_state m r s) e x (history (swap_state m r s).book x.arc)) (step (m.cast s) (swap_state m r s) e)
        ≡ called_state (m.cast s) (swap_state m r s) e x
        (cond b (projection s x.arc here) (after_call (m.cast s).deal x.arc x.sender x.call (projection s x.arc here)))
    go true = ap (called_state (m.cast s) (swap_state m r s) e x) (shown_at m r.chains s x.arc la)
    go false =
        split.calls x q
        ∙ ap (λ h. called_state (m.cast s) (swap_state m r s) e x (after_call (m.cast s).deal x.arc x.sender x.call h)) (shown_at m r.chains s x.arc la)

in_follows : (fair : Bool) (m : Setup) (r : Run) (z : Kept) (s : ℕ) (e : Event) → IsReadySetup m → CanHappen m s e → Follows m r z → AreGood m z
    → Follows m (done fair m r (In s e)) (kept_done fair m z (In s e))
in_follows fair m r z s e ready can f good =
    subst (λ o. Follows m (done fair m r (In s e)) (record z { swaps = put z.swaps s (in_swap m z s e o) }))
    (sym (ap (λ t. called (m.cast s) t e) (f.swaps s can.swap))) (go (called (m.cast s) (swap_state m r s) e) refl)
  where
    split : IsSplit (m.cast s) (swap_state m r s) e
    split = calls_split (m.cast s) (swap_state m r s) e can.no_tick

    placed : (x : Called) → called (m.cast s) (swap_state m r s) e ≡ Some x → x.arc < length (m.cast s).deal.graph.arcs
    placed x q =
        calls_are_placed (m.cast s) (swap_state m r s) e x (ready.casts s can.swap) can.can
        (subst (IsGood (m.cast s)) (f.swaps s can.swap) (good s can.swap)) q

    go : (o : Option Called) → called (m.cast s) (swap_state m r s) e ≡ o
        → Follows m (record {
          chains = posted r.chains (option_map (post_call m r s) o);
          minds = put r.minds s (heard m r (posted r.chains (option_map (post_call m r s) o)) s e o);
        }) (record z { swaps = put z.swaps s (in_swap m z s e o) })
    go None q = record {
      swaps = swaps_follow m r z s (step (m.cast s) (z.swaps s) e) (before_call (m.cast s) (swap_state m r s) e) r.chains f.swaps
          (ap (λ t. step (m.cast s) t e) (f.swaps s can.swap) ∙ (split.alone q
          ∙ with_book (before_call (m.cast s) (swap_state m r s) e) (book m r.chains s) split.calm)) (λ t n. refl);
      heights = f.heights;
      ticks = f.ticks;
      free = f.free;
      swept = f.swept;
    }
    go (Some x) q = record {
      swaps = swaps_follow m r z s (in_swap m z s e (Some x)) (heard m r (posted r.chains (Some (post_call m r s x))) s e (Some x))
          (posted r.chains (Some (post_call m r s x))) f.swaps
          (heard_is m r z s e x f can.swap (placed x q) split q
          ∙ with_book (heard m r (posted r.chains (Some (post_call m r s x))) s e (Some x)) (book m (posted r.chains (Some (post_call m r s x))) s)
          (told_book (m.cast s) (swap_state m r s) e x (projection s x.arc (put r.chains (arc_chain m s x.arc) new (arc_chain m s x.arc))) split
          ∙ (ap (λ h. slice_set (book m r.chains s) x.arc (projection s x.arc h)) (put_same r.chains (arc_chain m s x.arc) new)
          ∙ own_book m r.chains s x.arc x.sender x.call reply (placed x q))))
          (λ t n. other_book m r.chains t s x.arc x.sender x.call reply n);
      heights = all_chains (λ j h. chain_height h) (λ j. (z.clocks j).height) r.chains (arc_chain m s x.arc) new
          (call_height s x.arc x.sender x.call here reply) f.heights;
      ticks = all_chains (λ j h. chain_ticks h) (λ j. (z.clocks j).ticks) r.chains (arc_chain m s x.arc) new
          (call_ticks s x.arc x.sender x.call here reply) f.ticks;
      free = all_chains (λ j h. free m j h) z.free r.chains (arc_chain m s x.arc) new
          (call_free m (arc_chain m s x.arc) s x.arc x.sender x.call here reply) f.free;
      swept = all_slots m z.swept r.chains (arc_chain m s x.arc) new
          (λ t b w. f.swept t b ∙ (ap (λ j. is_swept t b (r.chains j)) w ∙ sym (call_swept t b s x.arc x.sender x.call here reply))) (λ t b n. f.swept t b);
    }
      where
        here : List ChainEntry
        here = r.chains (arc_chain m s x.arc)

        reply : ManyReply
        reply = reply_to_call m (r.chains (arc_chain m s x.arc)) s x.arc x.sender x.call

        new : List ChainEntry
        new = entered here (parse_call s x.arc x.sender x.call here reply)

in_good : (m : Setup) (z : Kept) (s : ℕ) (e : Event) → IsReadySetup m → CanHappen m s e → AreGood m z
    → IsGood (m.cast s) (in_swap m z s e (called (m.cast s) (z.swaps s) e))
in_good m z s e ready can good = steps_on_are_good (z.swept s) (m.cast s) (z.swaps s) e (ready.casts s can.swap) can.can (good s can.swap)

-- Payments and sweeps, which no slot's history shows.

quiet_book : (m : Setup) (h : Chains) (i : ℕ) (new : List ChainEntry) (t : ℕ) → ((a : ℕ) → projection t a new ≡ projection t a (h i))
    → book m h t ≡ book m (put h i new) t
quiet_book m h i new t same = same_book m h (put h i new) t (λ a l. each a (same_or_not (arc_chain m t a) i))
  where
    each : (a : ℕ) → (arc_chain m t a ≡ i) ⊎ (arc_chain m t a ≢ i) → projection t a (h (arc_chain m t a)) ≡ projection t a (put h i new (arc_chain m t a))
    each a (inl e) = ap (λ j. projection t a (h j)) e ∙ (sym (same a) ∙ sym (ap (projection t a) (ap (put h i new) e ∙ put_same h i new)))
    each a (inr n) = sym (ap (projection t a) (put_other h i new (arc_chain m t a) n))

same_swaps : (m : Setup) (r : Run) (z : Kept) (i : ℕ) (new : List ChainEntry) → Follows m r z
    → ((t a : ℕ) → projection t a new ≡ projection t a (r.chains i))
    → (t : ℕ) → t < m.swaps → z.swaps t ≡ record (r.minds t) { book = book m (put r.chains i new) t }
same_swaps m r z i new f same t l = f.swaps t l ∙ ap (λ b. set_book b (r.minds t)) (quiet_book m r.chains i new t (same t))

pub or-end : (b : Bool) → (b || false) ≡ b
or-end true = refl
or-end false = refl

pub and-end : (b : Bool) → (b && false) ≡ false
and-end true = refl
and-end false = refl

pay_follows : (fair : Bool) (m : Setup) (r : Run) (z : Kept) (i from to units : ℕ) → Follows m r z
    → Follows m (done fair m r (Pay i from to units)) (kept_done fair m z (Pay i from to units))
pay_follows fair m r z i from to units f =
    subst (λ u. Follows m (done fair m r (Pay i from to units))
    (cond (is_accepted_deed (reply_to_payment (u from) units)) (record z { free = put z.free i (paid u from to units) }) z)) (sym (f.free i)) (go (is_accepted_deed reply) refl)
  where
    reply : ManyReply
    reply = reply_to_payment (free m i (r.chains i) from) units

    entry : ChainEntry
    entry = record { height = chain_height (r.chains i); deed = Paid from to units; reply = reply_to_payment (free m i (r.chains i) from) units }

    new : List ChainEntry
    new = r.chains i ++ entry ∷ []

    shown : (t a : ℕ) → projection t a new ≡ projection t a (r.chains i)
    shown t a = shown_more t a (r.chains i) entry ∙ append-nil (projection t a (r.chains i))

    swept : (t a : ℕ) → is_swept t a new ≡ is_swept t a (r.chains i)
    swept t a =
        swept_more t a (r.chains i) entry ∙ (ap (λ b. is_swept t a (r.chains i) || b) (and-end (is_accepted_deed reply)) ∙ or-end (is_swept t a (r.chains i)))

    clock : (j : ℕ) → (z.clocks j).height ≡ chain_height (put r.chains i new j)
    clock =
        all_chains (λ j h. chain_height h) (λ j. (z.clocks j).height) r.chains i new (no_more _ _ (chain_height_more (r.chains i) entry)) f.heights

    ticks : (j : ℕ) → (z.clocks j).ticks ≡ chain_ticks (put r.chains i new j)
    ticks = all_chains (λ j h. chain_ticks h) (λ j. (z.clocks j).ticks) r.chains i new (no_more _ _ (chain_ticks_more (r.chains i) entry)) f.ticks

    all_swept : (t a : ℕ) → z.swept t a ≡ is_swept t a (put r.chains i new (arc_chain m t a))
    all_swept =
        all_slots m z.swept r.chains i new (λ t a e. f.swept t a ∙ (ap (λ j. is_swept t a (r.chains j)) e ∙ sym (swept t a))) (λ t a n. f.swept t a)

    freeing : (b : Bool) → is_accepted_deed reply ≡ b → free m i new ≡ cond b (paid (free m i (r.chains i)) from to units) (free m i (r.chains i))
    freeing b q =
        free_more m i (r.chains i) entry ∙ ap (λ b. cond b (paid (free m i (r.chains i)) from to units) (free m i (r.chains i))) q

    go : (b : Bool) → is_accepted_deed reply ≡ b
        → Follows m (record { chains = put r.chains i new; minds = r.minds })
        (cond b (record z { free = put z.free i (paid (free m i (r.chains i)) from to units) }) z)
    go true q = record {
      swaps = same_swaps m r z i new f shown;
      heights = clock;
      ticks = ticks;
      free = each_chain (λ j h. free m j h) (put z.free i (paid (free m i (r.chains i)) from to units)) r.chains i new
          (put_same z.free i (paid (free m i (r.chains i)) from to units) ∙ sym (freeing true q))
          (λ j n. put_other z.free i (paid (free m i (r.chains i)) from to units) j n ∙ f.free j);
      swept = all_swept;
    }
    go false q = record {
      swaps = same_swaps m r z i new f shown;
      heights = clock;
      ticks = ticks;
      free = all_chains (λ j h. free m j h) z.free r.chains i new (freeing false q) f.free;
      swept = all_swept;
    }

-- one slot more is swept
one_swept : (g : ℕ → ℕ → Bool) (s a t b : ℕ) → put g s (put (g s) a true) t b ≡ (g t b || ((t == s) && (b == a)))
one_swept g s a t b = go (same_or_not t s) (same_or_not b a)
  where
    true_end : (x : Bool) → true ≡ (x || true)
    true_end true = refl
    true_end false = refl

    go : (t ≡ s) ⊎ (t ≢ s) → (b ≡ a) ⊎ (b ≢ a) → put g s (put (g s) a true) t b ≡ (g t b || ((t == s) && (b == a)))
    go (inl e) (inl q) =
        ap₂ (λ t b. put g s (put (g s) a true) t b) e q ∙ (ap (λ f. f a) (put_same g s (put (g s) a true)) ∙ (put_same (g s) a true
        ∙ (true_end (g t b) ∙ ap (λ y. g t b || y) (sym (ap₂ (λ x y. x && y) (eq-eqb t s e) (eq-eqb b a q))))))
    go (inl e) (inr n) =
        ap (λ t. put g s (put (g s) a true) t b) e ∙ (ap (λ f. f b) (put_same g s (put (g s) a true)) ∙ (put_other (g s) a true b n
        ∙ (ap (λ t. g t b) (sym e) ∙ (sym (or-end (g t b))
        ∙ ap (λ y. g t b || y) (sym (ap (λ y. (t == s) && y) (not-true (b == a) (λ w. n (eqb-true b a w))) ∙ and-end (t == s)))))))
    go (inr n) other =
        ap (λ f. f b) (put_other g s (put (g s) a true) t n) ∙ (sym (or-end (g t b))
        ∙ ap (λ y. g t b || y) (sym (ap (λ x. x && (b == a)) (not-true (t == s) (λ w. n (eqb-true t s w))))))

sweep_answer : (fair : Bool) (m : Setup) (r : Run) (z : Kept) (s a : ℕ) → CanSweep m s a → Follows m r z
    → answer_sweep fair m z s a
    ≡ reply_to_sweep fair (the_horizon (m.cast s).deal) (chain_height (r.chains (arc_chain m s a))) (is_swept s a (r.chains (arc_chain m s a)))
    (projection s a (r.chains (arc_chain m s a)))
sweep_answer fair m r z s a can f =
    ap (λ n. reply_to_sweep fair (the_horizon (m.cast s).deal) n (z.swept s a) (history (z.swaps s).book a)) (f.heights (arc_chain m s a))
    ∙ ap₂ (λ b h. reply_to_sweep fair (the_horizon (m.cast s).deal) (chain_height (r.chains (arc_chain m s a))) b h) (f.swept s a)
    (ap (λ t. history t.book a) (f.swaps s can.swap) ∙ shown_at m r.chains s a can.arc)

sweep_follows : (fair : Bool) (m : Setup) (r : Run) (z : Kept) (s a : ℕ) → CanSweep m s a → Follows m r z
    → Follows m (done fair m r (Sweep s a)) (kept_done fair m z (Sweep s a))
sweep_follows fair m r z s a can f =
    subst (λ y. Follows m (done fair m r (Sweep s a)) (cond (is_accepted_deed y) (kept_sweep m z s a) z)) (sym (sweep_answer fair m r z s a can f))
    (go (is_accepted_deed reply) refl)
  where
    i : ℕ
    i = arc_chain m s a

    reply : ManyReply
    reply =
        reply_to_sweep fair (the_horizon (m.cast s).deal) (chain_height (r.chains (arc_chain m s a))) (is_swept s a (r.chains (arc_chain m s a)))
        (projection s a (r.chains (arc_chain m s a)))

    entry : ChainEntry
    entry = record {
      height = chain_height (r.chains (arc_chain m s a));
      deed = Emptied s a;
      reply =
          reply_to_sweep fair (the_horizon (m.cast s).deal) (chain_height (r.chains (arc_chain m s a))) (is_swept s a (r.chains (arc_chain m s a)))
          (projection s a (r.chains (arc_chain m s a)));
    }

    new : List ChainEntry
    new = r.chains (arc_chain m s a) ++ entry ∷ []

    shown : (t b : ℕ) → projection t b new ≡ projection t b (r.chains (arc_chain m s a))
    shown t b = shown_more t b (r.chains (arc_chain m s a)) entry ∙ append-nil (projection t b (r.chains (arc_chain m s a)))

    clock : (j : ℕ) → (z.clocks j).height ≡ chain_height (put r.chains (arc_chain m s a) new j)
    clock =
        all_chains (λ j h. chain_height h) (λ j. (z.clocks j).height) r.chains (arc_chain m s a) new
        (no_more _ _ (chain_height_more (r.chains (arc_chain m s a)) entry)) f.heights

    ticks : (j : ℕ) → (z.clocks j).ticks ≡ chain_ticks (put r.chains (arc_chain m s a) new j)
    ticks =
        all_chains (λ j h. chain_ticks h) (λ j. (z.clocks j).ticks) r.chains (arc_chain m s a) new
        (no_more _ _ (chain_ticks_more (r.chains (arc_chain m s a)) entry)) f.ticks

    units : Units
    units = returned (z.free (arc_chain m s a)) (place m s a) (accounts (m.cast s).deal a (history (z.swaps s).book a))

    freeing : (b : Bool) → is_accepted_deed reply ≡ b → free m (arc_chain m s a) new ≡ cond b units (z.free (arc_chain m s a))
    freeing b q =
        free_more m (arc_chain m s a) (r.chains (arc_chain m s a)) entry
        ∙ (ap (λ b. cond b (returned (free m (arc_chain m s a) (r.chains (arc_chain m s a))) (place m s a)
        (accounts (m.cast s).deal a (projection s a (r.chains (arc_chain m s a))))) (free m (arc_chain m s a) (r.chains (arc_chain m s a)))) q
        ∙ ap₂ (λ u h. cond b (returned u (place m s a) (accounts (m.cast s).deal a h)) u) (sym (f.free (arc_chain m s a)))
        (sym (ap (λ t. history t.book a) (f.swaps s can.swap) ∙ shown_at m r.chains s a can.arc)))

    swept : (b : Bool) → is_accepted_deed reply ≡ b → (t c : ℕ) → is_swept t c new ≡ (is_swept t c (r.chains (arc_chain m s a)) || (b && ((t == s) && (c == a))))
    swept b q t c =
        swept_more t c (r.chains (arc_chain m s a)) entry
        ∙ ap (λ b. is_swept t c (r.chains (arc_chain m s a)) || (b && ((t == s) && (c == a)))) q

    not_here : (t c : ℕ) → arc_chain m t c ≢ arc_chain m s a → ((t == s) && (c == a)) ≡ false
    not_here t c n = at (same_or_not t s) (same_or_not c a)
      where
        at : (t ≡ s) ⊎ (t ≢ s) → (c ≡ a) ⊎ (c ≢ a) → ((t == s) && (c == a)) ≡ false
        at (inl e) (inl q) = absurd (n (ap₂ (arc_chain m) e q))
        at (inl e) (inr k) = ap (λ y. (t == s) && y) (not-true (c == a) (λ w. k (eqb-true c a w))) ∙ and-end (t == s)
        at (inr k) other = ap (λ x. x && (c == a)) (not-true (t == s) (λ w. k (eqb-true t s w)))

    go : (b : Bool) → is_accepted_deed reply ≡ b
        → Follows m (record { chains = put r.chains (arc_chain m s a) new; minds = r.minds }) (cond b (kept_sweep m z s a) z)
    go true q = record {
      swaps = same_swaps m r z (arc_chain m s a) new f shown;
      heights = clock;
      ticks = ticks;
      free = each_chain (λ j h. free m j h) (put z.free (arc_chain m s a) units) r.chains (arc_chain m s a) new
          (put_same z.free (arc_chain m s a) units ∙ sym (freeing true q)) (λ j n. put_other z.free (arc_chain m s a) units j n ∙ f.free j);
      swept = all_slots m (put z.swept s (put (z.swept s) a true)) r.chains (arc_chain m s a) new
          (λ t c e. one_swept z.swept s a t c ∙ (ap (λ b. b || ((t == s) && (c == a))) (f.swept t c ∙ ap (λ j. is_swept t c (r.chains j)) e)
          ∙ sym (swept true q t c)))
          (λ t c n. one_swept z.swept s a t c ∙ (ap (λ b. z.swept t c || b) (not_here t c n) ∙ (or-end (z.swept t c) ∙ f.swept t c)));
    }
    go false q = record {
      swaps = same_swaps m r z (arc_chain m s a) new f shown;
      heights = clock;
      ticks = ticks;
      free = all_chains (λ j h. free m j h) z.free r.chains (arc_chain m s a) new (freeing false q ∙ f.free (arc_chain m s a)) f.free;
      swept = all_slots m z.swept r.chains (arc_chain m s a) new
          (λ t c e. f.swept t c ∙ (ap (λ j. is_swept t c (r.chains j)) e ∙ (sym (or-end (is_swept t c (r.chains (arc_chain m s a))))
          ∙ sym (swept false q t c))))
          (λ t c n. f.swept t c);
    }

-- All events.

pub step_follows : (fair : Bool) (m : Setup) (r : Run) (z : Kept) (e : ManyEvent) → IsReadySetup m → CanCome m e → Follows m r z → AreGood m z
    → Follows m (done fair m r e) (kept_done fair m z e)
step_follows fair m r z (Tick i k) ready can f g = tick_follows fair m r z i k f
step_follows fair m r z (In s e) ready can f g = in_follows fair m r z s e ready can f g
step_follows fair m r z (Pay i from to units) ready can f g = pay_follows fair m r z i from to units f
step_follows fair m r z (Sweep s a) ready can f g = sweep_follows fair m r z s a can f

pub step_good : (fair : Bool) (m : Setup) (z : Kept) (e : ManyEvent) → IsReadySetup m → CanCome m e → AreGood m z → AreGood m (kept_done fair m z e)
step_good fair m z (Tick i k) ready can g = λ s l. go s l (has_no_tick (z.clocks i).ticks (z.clocks i).height k)
  where
    go : (s : ℕ) → s < m.swaps → (b : Bool)
        → IsGood (m.cast s)
        ((cond b z (record z { clocks = put z.clocks i (later (z.clocks i) k); swaps = λ s. ticked m i k s (z.swaps s) })).swaps s)
    go s l true = g s l
    go s l false = ticked_good m i k s (z.swaps s) (ready.casts s l) can.some can.few (g s l)
step_good fair m z (In s e) ready can g = λ t l. go t l (same_or_not t s)
  where
    go : (t : ℕ) → t < m.swaps → (t ≡ s) ⊎ (t ≢ s)
        → IsGood (m.cast t) (put z.swaps s (in_swap m z s e (called (m.cast s) (z.swaps s) e)) t)
    go t l (inl q) = subst (λ t. IsGood (m.cast t) (put z.swaps s (in_swap m z s e (called (m.cast s) (z.swaps s) e)) t)) (sym q)
        (subst (IsGood (m.cast s)) (sym (put_same z.swaps s (in_swap m z s e (called (m.cast s) (z.swaps s) e)))) (in_good m z s e ready can g))
    go t l (inr n) = subst (IsGood (m.cast t)) (sym (put_other z.swaps s (in_swap m z s e (called (m.cast s) (z.swaps s) e)) t n)) (g t l)
step_good fair m z (Pay i from to units) ready can g = λ s l. go s l (is_accepted_deed (answer_payment z i from units))
  where
    go : (s : ℕ) → s < m.swaps → (b : Bool) → IsGood (m.cast s) ((cond b (record z { free = put z.free i (paid (z.free i) from to units) }) z).swaps s)
    go s l true = g s l
    go s l false = g s l
step_good fair m z (Sweep s a) ready can g = λ t l. go t l (is_accepted_deed (answer_sweep fair m z s a))
  where
    go : (t : ℕ) → t < m.swaps → (b : Bool) → IsGood (m.cast t) ((cond b (kept_sweep m z s a) z).swaps t)
    go t l true = g t l
    go t l false = g t l

pub steps_follow : StepsFollow
steps_follow fair m r z e ready can f g = (step_follows fair m r z e ready can f g, step_good fair m z e ready can g)

-- Replies.

answer_is : (m : Setup) (r : Run) (z : Kept) (s : ℕ) (x : Called) → Follows m r z → s < m.swaps → x.arc < length (m.cast s).deal.graph.arcs
    → answer_call m z s x ≡ reply_to_call m (r.chains (arc_chain m s x.arc)) s x.arc x.sender x.call
answer_is m r z s x f ls la =
    ap₂ (λ b h. cond b Swept (Plain (history_reply (m.cast s).deal x.arc h x.sender x.call))) (passed_is m r z s x f ls la)
    (ap (λ t. history t.book x.arc) (f.swaps s ls) ∙ shown_at m r.chains s x.arc la)

pub replies_follow : RepliesFollow
replies_follow m r z (Tick i k) ready can f g =
    ap₂ (λ x y. Some (cond (has_no_tick x y k) (Plain ClockFull) (Plain Accepted))) (f.ticks i) (f.heights i)
replies_follow m r z (In s e) ready can f g =
    ap (λ t. option_map (answer_call m z s) (called (m.cast s) t e)) (f.swaps s can.swap) ∙ go (called (m.cast s) (swap_state m r s) e) refl
  where
    go : (o : Option Called) → called (m.cast s) (swap_state m r s) e ≡ o
        → option_map (answer_call m z s) o ≡ option_map (λ x. x.entry.reply) (option_map (post_call m r s) o)
    go None q = refl
    go (Some x) q =
        ap Some (answer_is m r z s x f can.swap
        (calls_are_placed (m.cast s) (swap_state m r s) e x (ready.casts s can.swap) can.can (subst (IsGood (m.cast s)) (f.swaps s can.swap) (g s can.swap)) q))
replies_follow m r z (Pay i from to units) ready can f g = ap (λ u. Some (reply_to_payment (u from) units)) (f.free i)
replies_follow m r z (Sweep s a) ready can f g = ap Some (sweep_answer false m r z s a can f)

-- Runs.

runs_from : (m : Setup) (events : List ManyEvent) (r : Run) (z : Kept) → IsReadySetup m → All (CanCome m) events → Follows m r z → AreGood m z
    → Follows m (fold (many_step m) r events) (fold (kept_step m) z events) × AreGood m (fold (kept_step m) z events)
runs_from m [] r z ready all f g = (f, g)
runs_from m (e ∷ events) r z ready all f g =
    runs_from m events (many_step m r e) (kept_step m z e) ready (λ k d l. all (suc k) d (omega arith))
    (step_follows false m r z e ready (all 0 e (omega arith)) f g) (step_good false m z e ready (all 0 e (omega arith)) g)

pub runs_follow : RunsFollow
runs_follow m events ready all =
    let x = start_follows m ready in runs_from m events (many_start m) (kept_start m) ready all x.0 x.1

pub books_are_kept : BooksAreKept
books_are_kept m events s ready all l =
    let x = runs_follow m events ready all in
    good_is_kept (m.cast s) (swap_state m (many_run m events) s) (ready.casts s l) (subst (IsGood (m.cast s)) (x.0.swaps s l) (x.1 s l))
