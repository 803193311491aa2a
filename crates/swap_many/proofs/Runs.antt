-- What is kept stays that of the run of all that was done, by the chains' histories.
use Rattle.std.proofs.Common.{◌≡◌, ℕ, ◌<◌, false, List, [], ◌∷◌, ◌++◌, length, refl, sym, ap, ap₂, ◌∙◌, subst, Option}
use Rattle.std.proofs.Common.{Result, Ok, Err, OnOk, OnErr, IfOk}
use Rattle.std.proofs.lemmas.Bool.{false≢true}
use Rattle.std.proofs.Common.{map, append_assoc, append-nil}
use Rattle.std.specs.List.{flat_map}
use Rattle.std.proofs.lemmas.Grind.{flat_map-append}
use Rattle.std.proofs.lemmas.List.{map-append}
use Rattle.std.proofs.lemmas.List.Concat.{flat_map-cons}
use Rattle.std.proofs.lemmas.List.Sums.{fold-append}
use Rattle.swap_rules.specs.Outcome.{IsEnded}
use Rattle.swap_digraph.specs.declared.deal.Deal.{Deal}
use Rattle.swap_run.specs.Asked.{Answers}
use Rattle.swap_run.specs.Run.{State}
use Rattle.swap_world.specs.Value.{world_answers}
use Rattle.swap_world.specs.Gone.{MayGive}
use Rattle.swap_many.specs.declared.many_event.ManyEvent.{ManyEvent}
use Rattle.swap_many.specs.declared.many_reply.ManyReply.{ManyReply}
use Rattle.swap_many.specs.Chains.{Setup}
use Rattle.swap_many.specs.Many.{Run, many_reply, many_start, many_finish}
use Rattle.swap_many.specs.Kept.{Kept, kept_done, kept_reply, kept_finish}
use Rattle.swap_many.specs.Laws.{CanCome, Follows}
use Rattle.swap_many.specs.Sound.{Keeps}
use Rattle.swap_many.specs.Stages.{Stage, Came, Finished, run_stage, staged_run, stretch_stages}
use Rattle.swap_many.specs.Value.{ManyState, AreReady, nth_world, world_setup, made_setup, many_kept, world_run, ContinueAll, AreSame, HasManyGone}
use Rattle.swap_many.specs.Value.{IsManyStopped, AreUnitsPlaced}
use Rattle.swap_many.specs.Inside.{AreWhole}
use Rattle.swap_many.specs.Along.{IsCutRun}
use Rattle.swap_many.specs.Whole.{IsOfRun}
use Rattle.swap_many.proofs.Follow.{replies_follow}
use Rattle.swap_many.proofs.Units.{keeps_step, counted_is_placed}
use Rattle.swap_many.proofs.Finish.{both_finish, finish_above, swap_ended}
use Rattle.swap_many.proofs.Values.{can_for, same_deal, same_setup, continue_less, whole_still}
use Rattle.swap_many.proofs.Along.{cut_run}
use Rattle.swap_many.proofs.Way.{one_step, finish_steps}
use Rattle.swap_many.proofs.Gone.{LeadOn, on_ok, on_err}

-- With other stages all else is the same.

pub whole_staged : (w : ManyState) (y : List Stage) → AreWhole w → AreWhole (record w { stages = y })
whole_staged w y k = whole_still w y w.stopped (λ e. e) k

module _ (gives : MayGive) (f : Setup → Kept → Kept) (old new : ManyState) (x y : List Stage) where
  same_staged : AreSame gives old new → AreSame gives (record old { stages = x }) (record new { stages = y })
  same_staged k = record { swaps = k.swaps; casts = k.casts; asked = k.asked; places = k.places; openings = k.openings }

  pub gone_staged : HasManyGone gives f old new → HasManyGone gives f (record old { stages = x }) (record new { stages = y })
  gone_staged k = record { same = same_staged k.same; goes_on = k.goes_on; kept = k.kept }

  pub stopped_staged : IsManyStopped gives f old new → IsManyStopped gives f (record old { stages = x }) (record new { stages = y })
  stopped_staged k = record {
    stopped = k.stopped;
    same = same_staged k.same;
    way = λ g c. let w = k.way g c in
        record { there = w.there; before = w.before; after = w.after; books = w.books; clocks = w.clocks; free = w.free };
  }

-- One more stage.

pub came_more : (xs : List (List ManyEvent)) (es : List ManyEvent) (e : ManyEvent) → stretch_stages xs (es ++ e ∷ []) ≡ stretch_stages xs es ++ Came e ∷ []
came_more xs es e =
    let part = flat_map (λ es. map Came es ++ Finished ∷ []) xs in
    ap (λ ys. part ++ ys) (map-append Came es (e ∷ [])) ∙ sym (append_assoc part (map Came es) (Came e ∷ []))

pub finished_more : (xs : List (List ManyEvent)) (es : List ManyEvent) → stretch_stages (xs ++ es ∷ []) [] ≡ stretch_stages xs es ++ Finished ∷ []
finished_more xs es =
    let f : List ManyEvent → List Stage = λ es. map Came es ++ Finished ∷ [] in
    append-nil (flat_map f (xs ++ es ∷ []))
    ∙ (flat_map-append f xs (es ∷ [])
    ∙ (ap (λ ys. flat_map f xs ++ ys) (flat_map-cons f es [] ∙ append-nil (f es)) ∙ sym (append_assoc (flat_map f xs) (map Came es) (Finished ∷ []))))

run_more : (m : Setup) (xs : List Stage) (x : Stage) → staged_run m (xs ++ x ∷ []) ≡ run_stage m (staged_run m xs) x
run_more m xs x = fold-append (run_stage m) (many_start m) xs (x ∷ [])

pub stretch_more : {A : Type 0} (f : A → List ManyEvent) (ps qs : List A) (p : A) (es : List ManyEvent) → qs ≡ ps ++ p ∷ [] → es ≡ []
    → stretch_stages (map f qs) es ≡ stretch_stages (map f ps) (f p) ++ Finished ∷ []
stretch_more f ps qs p es more none =
    ap₂ stretch_stages (ap (map f) more ∙ map-append f ps (p ∷ [])) none ∙ finished_more (map f ps) (f p)

-- f does to what is kept what the stage does to the run
abbrev pub IsStage : (Setup → Kept → Kept) → Stage → ManyState → Type 0
IsStage f x w = (g : ℕ → Answers) (r : Run) (z : Kept) → Keeps (made_setup w g) r z
    → Keeps (made_setup w g) (run_stage (made_setup w g) r x) (f (made_setup w g) z)

pub step_is_stage : (w : ManyState) (e : ManyEvent) → AreReady w → CanCome (world_setup w) e → IsStage (λ m z. kept_done false m z e) (Came e) w
step_is_stage w e ready can g r z k = keeps_step false (made_setup w g) r z e (ready g) (can_for w g e can) k

pub finish_is_stage : (w : ManyState) → AreReady w → IsStage kept_finish Finished w
finish_is_stage w ready g r z k = both_finish (made_setup w g) (ready g) r z k

pub step_leads : (w : ManyState) (e : ManyEvent) → AreReady w → CanCome (world_setup w) e → LeadOn w (λ m z. kept_done false m z e)
step_leads w e ready can g z = one_step (made_setup w g) (ready g) z (record { fair = false; event = e }) (can_for w g e can)

pub finish_leads : (w : ManyState) → AreReady w → LeadOn w kept_finish
finish_leads w ready g z = finish_steps (made_setup w g) (ready g) z

module _ (gives : MayGive) (f : Setup → Kept → Kept) (x : Stage) (old new : ManyState) (stage : IsStage f x old) (runs : IsOfRun old)
    (more : new.stages ≡ old.stages ++ x ∷ []) (on : old.stopped ≡ false) where
  still_of_run : HasManyGone gives f old new → IsOfRun new
  still_of_run k goes g c =
      let m = made_setup old g in
      let was = runs on g (continue_less gives old new g k.same c) in
      subst (λ (n : Setup). Keeps n (staged_run n new.stages) (many_kept new)) (sym (same_setup gives old new g k.same))
      (subst (λ (xs : List Stage). Keeps m (staged_run m xs) (many_kept new)) (sym more)
      (subst (λ (r : Run). Keeps m r (many_kept new)) (sym (run_more m old.stages x))
      (subst (Keeps m (run_stage m (staged_run m old.stages) x)) (sym (k.kept g c)) (stage g (staged_run m old.stages) (many_kept old) was))))

  pub of_run : {A E : Type 0} (r : Result A E) → OnOk r (HasManyGone gives f old new) → OnErr r (IsManyStopped gives f old new) → IsOfRun new
  of_run (Ok a) ok err = λ goes. still_of_run ok goes
  of_run (Err e) ok err = λ goes. absurd (false≢true (sym goes ∙ err.stopped))

  pub then_follows : {A E : Type 0} (r : Result A E) → OnOk r (HasManyGone gives f old new)
      → OnOk r ((g : ℕ → Answers) → ContinueAll new g → Follows (made_setup new g) (world_run new g) (many_kept new))
  then_follows (Err e) ok = tt
  then_follows (Ok a) ok = λ g c. (still_of_run ok (ok.goes_on ∙ on) g c).follows

  pub then_placed : {A E : Type 0} (r : Result A E) → OnOk r (HasManyGone gives f old new)
      → OnOk r ((g : ℕ → Answers) → ContinueAll new g → AreUnitsPlaced (made_setup new g) (world_run new g))
  then_placed (Err e) ok = tt
  then_placed (Ok a) ok = λ g c i l. counted_is_placed (made_setup new g) (world_run new g) (many_kept new) i l (still_of_run ok (ok.goes_on ∙ on) g c)

-- What a stage made of the worlds, whose stages it was added to.
pub record HasTaken {A E : Type 0} (gives : MayGive) (f : Setup → Kept → Kept) (x : Stage) (old new : ManyState) (r : Result A E) : Type 0 where
  pub on : old.stopped ≡ false
  pub ok : OnOk r (HasManyGone gives f old new)
  pub err : OnErr r (IsManyStopped gives f old new)
  pub more : new.stages ≡ old.stages ++ x ∷ []
  pub runs : IsOfRun new
  pub follows : OnOk r ((g : ℕ → Answers) → ContinueAll new g → Follows (made_setup new g) (world_run new g) (many_kept new))
  pub placed : OnOk r ((g : ℕ → Answers) → ContinueAll new g → AreUnitsPlaced (made_setup new g) (world_run new g))

pub has_taken : {A E : Type 0} (gives : MayGive) (f : Setup → Kept → Kept) (x : Stage) (a b : ManyState) (xs ys : List Stage) (r : Result A E)
    → IsStage f x (record a { stages = xs }) → IsOfRun (record a { stages = xs }) → ys ≡ xs ++ x ∷ [] → a.stopped ≡ false
    → OnOk r (HasManyGone gives f a b) → OnErr r (IsManyStopped gives f a b)
    → HasTaken gives f x (record a { stages = xs }) (record b { stages = ys }) r
has_taken gives f x a b xs ys r stage runs more on ok err =
    let old : ManyState = record a { stages = xs } in
    let new : ManyState = record b { stages = ys } in
    let gone : OnOk r (HasManyGone gives f old new) = on_ok r (gone_staged gives f a b xs ys) ok in
    let stops : OnErr r (IsManyStopped gives f old new) = on_err r (stopped_staged gives f a b xs ys) err in
    record {
      on = on;
      ok = gone;
      err = stops;
      more = more;
      runs = of_run gives f x old new stage runs more on r gone stops;
      follows = then_follows gives f x old new stage runs more on r gone;
      placed = then_placed gives f x old new stage runs more on r gone;
    }

-- Where memory ran out all units are in one place too.
pub then_cut : {A E : Type 0} (gives : MayGive) (f : Setup → Kept → Kept) (old new : ManyState) (r : Result A E) → AreReady old → IsOfRun old
    → OnErr r (IsManyStopped gives f old new)
    → OnErr r (old.stopped ≡ false → (g : ℕ → Answers) → ContinueAll new g → IsCutRun (made_setup old g) (world_run old g) new)
then_cut gives f old new (Ok a) ready runs err = tt
then_cut gives f old new (Err e) ready runs err = λ on g c.
    let m = made_setup old g in
    cut_run m (ready g) (world_run old g) (many_kept old) (f m (many_kept old)) new err.same.swaps (runs on g (continue_less gives old new g err.same c))
    (err.way g c)

-- The reply is that of the run.
pub then_reply : {E : Type 0} (gives : MayGive) (f : Setup → Kept → Kept) (old new : ManyState) (e : ManyEvent) (r : Result (Option ManyReply) E)
    → AreReady old → CanCome (world_setup old) e → IsOfRun old → old.stopped ≡ false → OnOk r (HasManyGone gives f old new)
    → IfOk r (λ o. (g : ℕ → Answers) → ContinueAll new g → o ≡ kept_reply false (made_setup old g) (many_kept old) e)
    → IfOk r (λ o. (g : ℕ → Answers) → ContinueAll new g → o ≡ many_reply (made_setup old g) (world_run old g) e)
then_reply gives f old new e (Err x) ready can runs on ok reply = tt
then_reply gives f old new e (Ok o) ready can runs on ok reply = λ g c.
    let k = runs on g (continue_less gives old new g ok.same c) in
    reply g c ∙ replies_follow (made_setup old g) (world_run old g) (many_kept old) e (ready g) (can_for old g e can) k.follows k.good

-- After a fair finish every swap's book has ended.
pub then_ended : {A E : Type 0} (gives : MayGive) (old new : ManyState) (r : Result A E) → AreReady old → IsOfRun old → old.stopped ≡ false
    → OnOk r (HasManyGone gives kept_finish old new)
    → OnOk r ((s : ℕ) → s < length new.worlds → IsEnded (nth_world new s).deal (nth_world new s).state.book)
then_ended gives old new (Err x) ready runs on ok = tt
then_ended gives old new (Ok a) ready runs on ok = λ s l.
    let g : ℕ → Answers = λ t. world_answers (nth_world new t) in
    let c : ContinueAll new g = λ t l i lt. refl in
    let m = made_setup old g in
    let k = runs on g (continue_less gives old new g ok.same c) in
    let done = both_finish m (ready g) (world_run old g) (many_kept old) k in
    let low = subst (λ n. s < n) ok.same.swaps l in
    let ended = swap_ended m (ready g) (many_finish m (world_run old g)) (kept_finish m (many_kept old)) s low done
    (finish_above m (ready g) (many_kept old) k.timed) in
    let book = ap (λ (z : Kept). (z.swaps s).book) (ok.kept g c) ∙ ap (λ (t : State). t.book) (done.follows.swaps s low) in
    subst (λ (d : Deal). IsEnded d (nth_world new s).state.book) (sym (same_deal gives old new s ok.same))
    (subst (IsEnded (nth_world old s).deal) (sym book) ended)
