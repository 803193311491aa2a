-- What an event of a swap does to many worlds.
use Rattle.std.proofs.Common.{◌≡◌, ◌⊎◌, ℕ, ◌<◌, Bool, true, false, cond, List, length, refl, sym, ap, ◌∙◌, subst, inl, inr}
use Rattle.std.proofs.Common.{Option, Some, None, Result, Ok, Err, OnOk, OnErr, IfOk}
use Rattle.std.specs.Result.{is_err}
use Rattle.std.proofs.lemmas.Bool.{false≢true}
use Rattle.std.specs.Prelude.{option_map}
use Rattle.std.proofs.lemmas.List.{length-set}
use Rattle.ledger_core.specs.Book.{history}
use Rattle.ledger_core.specs.History.{history_reply}
use Rattle.swap_job.specs.declared.event.Event.{Event}
use Rattle.swap_run.specs.Asked.{Answers}
use Rattle.swap_run.specs.Run.{State}
use Rattle.swap_run.specs.Called.{Called, called, is_barred, apply_step}
use Rattle.swap_run.specs.Laws.{IsKept}
use Rattle.swap_world.specs.declared.call_outcome.Told.{Told}
use Rattle.swap_world.specs.declared.call_outcome.Told.TheVariants.{Passed, Replied}
use Rattle.swap_world.specs.Value.{WorldState, world_cast, answering_cast, Continues}
use Rattle.swap_world.specs.Gone.{MayGive, HasGone}
use Rattle.swap_world.specs.On.{is_slot_swept, told_of_call, event_told, IsCutWithSweeps}
use Rattle.swap_many.specs.declared.many_event.ManyEvent.TheVariants.{In}
use Rattle.swap_many.specs.declared.many_reply.ManyReply.{ManyReply}
use Rattle.swap_many.specs.declared.many_reply.ManyReply.TheVariants.{Plain, Swept}
use Rattle.swap_many.specs.Chains.{put}
use Rattle.swap_many.specs.Kept.{Kept, kept_done, kept_reply, answer_call}
use Rattle.swap_many.specs.Laws.{CanHappen, CanCome}
use Rattle.swap_many.specs.ChainReplies.{reply_told, told_result}
use Rattle.swap_many.specs.Value.{ManyState, nth_world, swept_slots, world_setup, made_setup, many_kept, ContinueAll, AreSame, HasManyGone, IsIntermediateState}
use Rattle.swap_many.specs.Value.{IsManyStopped}
use Rattle.swap_many.specs.Inside.{AreWhole}
use Rattle.swap_many.proofs.Projections.{put_same, put_other}
use Rattle.swap_many.proofs.Values.{can_for, with_world, worlds_put, each_world, world_same, world_kept, whole_next, sound_step}
use Rattle.swap_many.proofs.Way.{no_step, one_step}

-- What is told is the reply.
pub told_is : (w : ManyState) (s : ℕ) (e : Event) (g : ℕ → Answers)
    → reply_told (event_told (is_slot_swept (swept_slots w s)) (answering_cast (nth_world w s) (g s)) (nth_world w s).state e)
    ≡ kept_reply false (made_setup w g) (many_kept w) (In s e)
told_is w s e g = go (called (answering_cast (nth_world w s) (g s)) (nth_world w s).state e)
  where
    by : (b : Bool) (r : ManyReply) (t : Told) → Some r ≡ reply_told t → reply_told (cond b Passed t) ≡ Some (cond b Swept r)
    by true r t e = refl
    by false r t e = sym e

    go : (o : Option Called)
        → reply_told (told_of_call (is_slot_swept (swept_slots w s)) (answering_cast (nth_world w s) (g s)) (nth_world w s).state o)
        ≡ option_map (answer_call (made_setup w g) (many_kept w) s) o
    go None = refl
    go (Some x) =
        let r = history_reply (nth_world w s).deal x.arc (history (nth_world w s).state.book x.arc) x.sender x.call in
        by (is_barred (is_slot_swept (swept_slots w s) x.arc) (history (nth_world w s).state.book x.arc) x.call) (Plain r) (Replied r) refl

-- What an event does to its world, and what is told.
pub record IsTaken {E : Type 0} (gives : MayGive) (swept : List Bool) (e : Event) (old new : WorldState) (r : Result Told E) : Type 0 where
  pub ok : OnOk r (HasGone gives (λ c s. apply_step (is_slot_swept swept) c s e) old new)
  pub told : IfOk r (λ t. (g : Answers) → Continues new g → t ≡ event_told (is_slot_swept swept) (answering_cast old g) old.state e)
  pub err : OnErr r (new.stopped ≡ true)
  pub cut : OnErr r (IsCutWithSweeps gives (is_slot_swept swept) e old new)
  pub kept : IsKept (world_cast new) new.state.book

module _ (gives : MayGive) (w : ManyState) (s : ℕ) (e : Event) (x : WorldState) (low : s < length w.worlds) where
  own : (b : Bool) (g : ℕ → Answers) → ContinueAll (with_world w s x b low) g → Continues x (g s)
  own b g c =
      let k = c s (subst (λ n. s < n) (sym (length-set w.worlds s x)) low) in
      subst (λ (y : WorldState). Continues y (g s)) (ap (λ (f : ℕ → WorldState). f s) (worlds_put w s x b low) ∙ put_same (nth_world w) s x) k

  -- the event was taken
  pub happened : (b : Bool) → b ≡ w.stopped → HasGone gives (λ c t. apply_step (is_slot_swept (swept_slots w s)) c t e) (nth_world w s) x
      → HasManyGone gives (λ m z. kept_done false m z (In s e)) w (with_world w s x b low)
  happened b on k = record {
    same = world_same w s x b low gives (ap world_cast k.same) k.asked;
    goes_on = on;
    kept = λ g c. world_kept w s x b low ∙ ap (λ (y : State). let z : Kept = record (many_kept w) { swaps = put (many_kept w).swaps s y } in z)
        (k.state (g s) (own b g c));
  }

  -- memory ran out: the book is the one before the event or after it
  pub was_cut : (b : Bool) → b ≡ true → AreWhole w → CanHappen (world_setup w) s e → IsCutWithSweeps gives (is_slot_swept (swept_slots w s)) e (nth_world w s) x
      → IsManyStopped gives (λ m z. kept_done false m z (In s e)) w (with_world w s x b low)
  was_cut b on whole can k = record {
    stopped = on;
    same = same;
    way = λ g c. way g c k.book;
  }
    where
      same : AreSame gives w (with_world w s x b low)
      same = world_same w s x b low gives k.cast k.asked

      may : (g : ℕ → Answers) → CanCome (made_setup w g) (In s e)
      may g = can_for w g (In s e) can

      after : (g : ℕ → Answers) → Kept
      after g = kept_done false (made_setup w g) (many_kept w) (In s e)

      way : (g : ℕ → Answers) → ContinueAll (with_world w s x b low) g
          → (x.state.book ≡ (nth_world w s).state.book)
          ⊎ ((g : Answers) → Continues x g
          → x.state.book ≡ (apply_step (is_slot_swept (swept_slots w s)) (answering_cast (nth_world w s) g) (nth_world w s).state e).book)
          → IsIntermediateState (made_setup w g) (many_kept w) (kept_done false (made_setup w g) (many_kept w) (In s e)) (with_world w s x b low)
      way g c (inl h) = record {
        there = many_kept w;
        before = no_step (made_setup w g) (whole.ready g) (many_kept w);
        after = one_step (made_setup w g) (whole.ready g) (many_kept w) (record { fair = false; event = In s e }) (may g);
        books = λ t l. each_world w s x b low (λ t y. y.state.book ≡ (nth_world w t).state.book) h (λ t n. refl) t;
        clocks = λ i. refl;
        free = λ i. refl;
      }
      way g c (inr h) = record {
        there = after g;
        before = one_step (made_setup w g) (whole.ready g) (many_kept w) (record { fair = false; event = In s e }) (may g);
        after = no_step (made_setup w g) (whole.ready g) (after g);
        books = λ t l. each_world w s x b low (λ t y. y.state.book ≡ ((after g).swaps t).book)
            (h (g s) (own b g c) ∙ sym (ap (λ (y : State). y.book) (put_same (many_kept w).swaps s
            (apply_step (is_slot_swept (swept_slots w s)) (answering_cast (nth_world w s) (g s)) (nth_world w s).state e))))
            (λ t n. sym (ap (λ (y : State). y.book) (put_other (many_kept w).swaps s
            (apply_step (is_slot_swept (swept_slots w s)) (answering_cast (nth_world w s) (g s)) (nth_world w s).state e) t n))) t;
        clocks = λ i. refl;
        free = λ i. refl;
      }

  -- all is whole, whether memory ran out or not
  pub still_whole : (b : Bool) → w.stopped ≡ false → (b ≡ false → x.stopped ≡ false) → AreSame gives w (with_world w s x b low)
      → (b ≡ false → HasManyGone gives (λ m z. kept_done false m z (In s e)) w (with_world w s x b low)) → AreWhole w → CanHappen (world_setup w) s e
      → IsKept (world_cast x) x.state.book → AreWhole (with_world w s x b low)
  still_whole b on goes same gone whole can kept =
      whole_next gives w (with_world w s x b low) whole same refl (λ i. refl) refl (λ t. refl)
      (λ q. λ t l. each_world w s x b low (λ t y. t < length w.worlds → y.stopped ≡ false) (λ l. goes q) (λ t n l. whole.on on t l) t
      (subst (λ n. t < n) same.swaps l))
      (λ q. sound_step gives w (with_world w s x b low) false (In s e) whole on (λ g. can_for w g (In s e) can) (gone q))
      (λ t l. each_world w s x b low (λ t y. t < length w.worlds → IsKept (world_cast y) y.state.book) (λ l. kept) (λ t n l. whole.kept t l) t
      (subst (λ n. t < n) same.swaps l))

  -- What the worlds are then, by what is answered.
  pub record HasHappened {E : Type 0} (r : Result Told E) (b : Bool) : Type 0 where
    pub all_whole : AreWhole (with_world w s x b low)
    pub ok : OnOk (told_result r) (HasManyGone gives (λ m z. kept_done false m z (In s e)) w (with_world w s x b low))
    pub err : OnErr (told_result r) (IsManyStopped gives (λ m z. kept_done false m z (In s e)) w (with_world w s x b low))
    pub reply : IfOk (told_result r) (λ o. (g : ℕ → Answers) → ContinueAll (with_world w s x b low) g
        → o ≡ kept_reply false (made_setup w g) (many_kept w) (In s e))

  module _ {E : Type 0} (r : Result Told E) (b : Bool) (is : b ≡ is_err r) (on : w.stopped ≡ false) (whole : AreWhole w)
      (can : CanHappen (world_setup w) s e) (k : IsTaken gives (swept_slots w s) e (nth_world w s) x r) where
    then_whole : AreWhole (with_world w s x b low)
    then_whole = go r is k
      where
        go : (r : Result Told E) → b ≡ is_err r → IsTaken gives (swept_slots w s) e (nth_world w s) x r → AreWhole (with_world w s x b low)
        go (Ok t) is k =
            still_whole b on (λ q. ap (λ (y : WorldState). y.stopped) k.ok.same ∙ whole.on on s low)
            (world_same w s x b low gives (ap world_cast k.ok.same) k.ok.asked) (λ q. happened b (q ∙ sym on) k.ok) whole can k.kept
        go (Err t) is k =
            still_whole b on (λ q. absurd (false≢true (sym q ∙ is))) (world_same w s x b low gives k.cut.cast k.cut.asked)
            (λ q. absurd (false≢true (sym q ∙ is))) whole can k.kept

    then_ok : OnOk (told_result r) (HasManyGone gives (λ m z. kept_done false m z (In s e)) w (with_world w s x b low))
    then_ok = go r is k
      where
        go : (r : Result Told E) → b ≡ is_err r → IsTaken gives (swept_slots w s) e (nth_world w s) x r
            → OnOk (told_result r) (HasManyGone gives (λ m z. kept_done false m z (In s e)) w (with_world w s x b low))
        go (Ok t) is k = happened b (is ∙ sym on) k.ok
        go (Err t) is k = tt

    then_err : OnErr (told_result r) (IsManyStopped gives (λ m z. kept_done false m z (In s e)) w (with_world w s x b low))
    then_err = go r is k
      where
        go : (r : Result Told E) → b ≡ is_err r → IsTaken gives (swept_slots w s) e (nth_world w s) x r
            → OnErr (told_result r) (IsManyStopped gives (λ m z. kept_done false m z (In s e)) w (with_world w s x b low))
        go (Ok t) is k = tt
        go (Err t) is k = was_cut b is whole can k.cut

    then_reply : IfOk (told_result r) (λ o. (g : ℕ → Answers) → ContinueAll (with_world w s x b low) g
        → o ≡ kept_reply false (made_setup w g) (many_kept w) (In s e))
    then_reply = go r k
      where
        go : (r : Result Told E) → IsTaken gives (swept_slots w s) e (nth_world w s) x r
            → IfOk (told_result r) (λ o. (g : ℕ → Answers) → ContinueAll (with_world w s x b low) g
            → o ≡ kept_reply false (made_setup w g) (many_kept w) (In s e))
        go (Ok t) k = λ g c. ap reply_told (k.told (g s) (own b g c)) ∙ told_is w s e g
        go (Err t) k = tt

    pub has_happened : HasHappened r b
    has_happened = record { all_whole = then_whole; ok = then_ok; err = then_err; reply = then_reply }
