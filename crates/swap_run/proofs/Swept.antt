-- What a swap does where some of its slots are swept: a step, and the turns of a round.
use Rattle.std.proofs.Common.{◌≡◌, ℕ, suc, zero, Bool, true, false, cond, List, [], ◌∷◌, fold, Option, Some, None, refl, ap, ◌∙◌}
use Rattle.std.specs.List.{range_with_len}
use Rattle.ledger_core.specs.declared.entry.Call.{Call}
use Rattle.ledger_core.specs.declared.entry.Call.TheVariants.{Publish, Unlock, Claim, Refund, Transfer}
use Rattle.ledger_core.specs.declared.entry.Entry.{Entry}
use Rattle.ledger_core.specs.Book.{history}
use Rattle.swap_job.specs.declared.event.Event.{Event}
use Rattle.swap_job.specs.declared.event.Event.TheVariants.{Act}
use Rattle.swap_run.specs.Run.{Cast, State, conforms, step}
use Rattle.swap_run.specs.Laws.{IsGood}
use Rattle.swap_run.specs.Fair.{repeat, looks, acts, most_acts, turn, turns}
use Rattle.swap_run.specs.Called.{Called, called, called_state, is_barred, landed_event, apply_step, swept_turn}
use Rattle.swap_run.specs.CalledLaws.{NoneSwept, StepsOnAreGood}
use Rattle.swap_run.proofs.Good.{steps_are_good}
use Rattle.swap_run.proofs.Calls.{passed_is_good}

-- Without a swept slot it is what a run does.

open_slot : (h : List Entry) (c : Call) → is_barred false h c ≡ false
open_slot h (Publish t) = refl
open_slot h (Unlock key) = refl
open_slot h Claim = refl
open_slot h Refund = refl
open_slot h (Transfer to units) = refl

step_is : (c : Cast) (s : State) (e : Event) → apply_step (λ a. false) c s e ≡ step c s e
step_is c s e = go (called c s e)
  where
    go : (o : Option Called) → landed_event (λ a. false) c s e o ≡ step c s e
    go None = refl
    go (Some x) = ap (λ b. cond b (called_state c s e x (history s.book x.arc)) (step c s e)) (open_slot (history s.book x.arc) x.call)

repeat_same : {A : Type 0} (n : ℕ) (f g : A → A) (x : A) → ((x : A) → f x ≡ g x) → repeat n f x ≡ repeat n g x
repeat_same zero f g x h = refl
repeat_same (suc n) f g x h = ap f (repeat_same n f g x h) ∙ h (repeat n g x)

fold_same : {A B : Type 0} (f g : A → B → A) (x : A) (ys : List B) → ((x : A) (y : B) → f x y ≡ g x y) → fold f x ys ≡ fold g x ys
fold_same f g x [] h = refl
fold_same f g x (y ∷ ys) h = ap (λ z. fold f z ys) (h x y) ∙ fold_same f g (g x y) ys h

turn_is : (c : Cast) (s : State) (v : ℕ) → swept_turn (λ a. false) c s v ≡ turn c s v
unfolding turn
turn_is c s v = go (conforms c v)
  where
    go : (b : Bool)
        → cond b (repeat (most_acts c.deal) (λ s. apply_step (λ a. false) c s (Act v)) (looks c v s)) (apply_step (λ a. false) c (looks c v s) (Act v))
        ≡ cond b (acts c v (most_acts c.deal) (looks c v s)) (step c (looks c v s) (Act v))
    go true = repeat_same (most_acts c.deal) (λ s. apply_step (λ a. false) c s (Act v)) (λ s. step c s (Act v)) (looks c v s) (λ s. step_is c s (Act v))
    go false = step_is c (looks c v s) (Act v)

pub none_swept : NoneSwept
unfolding turns
none_swept c s = (λ e. step_is c s e, fold_same (swept_turn (λ a. false) c) (turn c) s (range_with_len 0 c.deal.graph.n) (turn_is c))

-- A step leaves a good state good, whatever is swept.

pub barred_swept : (b : Bool) (h : List Entry) (c : Call) → is_barred b h c ≡ true → is_barred true h c ≡ true
barred_swept true h c e = e
barred_swept false h (Publish t) e = absurd (cc e)
barred_swept false h (Unlock key) e = absurd (cc e)
barred_swept false h Claim e = absurd (cc e)
barred_swept false h Refund e = absurd (cc e)
barred_swept false h (Transfer to units) e = absurd (cc e)

pub steps_on_are_good : StepsOnAreGood
steps_on_are_good swept c s e ready can g = go (called c s e) refl
  where
    go : (o : Option Called) → called c s e ≡ o → IsGood c (landed_event swept c s e o)
    go None q = steps_are_good c s e ready can g
    go (Some x) q = at (is_barred (swept x.arc) (history s.book x.arc) x.call) refl
      where
        at : (b : Bool) → is_barred (swept x.arc) (history s.book x.arc) x.call ≡ b
            → IsGood c (cond b (called_state c s e x (history s.book x.arc)) (step c s e))
        at true w = passed_is_good c s e x ready can g q (barred_swept (swept x.arc) (history s.book x.arc) x.call w)
        at false w = steps_are_good c s e ready can g
