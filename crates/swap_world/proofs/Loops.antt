-- Loops of a world: over a list, over the first m numbers, and m times. Each has gone by f so far.
use Rattle.std.proofs.Common.{◌≡◌, ◌⊎◌, inl, inr, ℕ, ◌+◌, ◌<◌, ◌≤◌, List, length, get_or, take, fold, sym, ap, ap₂, ◌∙◌, arith}
use Rattle.std.specs.List.{range_with_len}
use Rattle.std.proofs.lemmas.List.{take_all}
use Rattle.std.proofs.lemmas.List.FromFn.{length-range_with_len, get_or-range_with_len}
use Rattle.std.proofs.lemmas.List.Sums.{fold_more}
use Rattle.swap_job.specs.declared.event.Event.{Event}
use Rattle.swap_run.specs.Asked.{Answers}
use Rattle.swap_run.specs.Run.{Cast, State, continued_run, step}
use Rattle.swap_run.specs.Fair.{repeat}
use Rattle.ledger_core.specs.Book.{Histories}
use Rattle.swap_run.specs.Steps.{IsIntermediateBook}
use Rattle.swap_run.proofs.Repeats.{repeat_one, rest_more}
use Rattle.swap_world.specs.Value.{WorldState, answering_cast, Continues}
use Rattle.swap_world.specs.Gone.{MayGive, HasGone, IsCutInEvent}
use Rattle.swap_world.specs.Stopped.{IsAfterSome, IsStopped}
use Rattle.swap_world.proofs.Gone.{gone_as, gone_then, cast_gone, continues_less, deal_gone, more_asked, way_from, for_gone}
use Rattle.swap_world.proofs.Ways.{along_over, over}

-- Over a list.
module _ (gives : MayGive) {B : Type 0} (f : Cast → State → B → State) (old mid new : WorldState) (xs : List B) (k : ℕ) (x : B)
    (so_far : HasGone gives (λ c s. fold (f c) s (take k xs)) old mid) where
  pub list_on : k < length xs → x ≡ get_or xs k x → HasGone gives (λ c s. f c s x) mid new → HasGone gives (λ c s. fold (f c) s (take (k + 1) xs)) old new
  list_on l is h =
      gone_as gives (λ c s. f c (fold (f c) s (take k xs)) x) (λ c s. fold (f c) s (take (k + 1) xs)) old new
      (λ g. let c = answering_cast old g in
      ap (λ (y : B). f c (fold (f c) old.state (take k xs)) y) is ∙ sym (fold_more (f c) old.state xs k x l))
      (gone_then gives (λ c s. fold (f c) s (take k xs)) (λ c s. f c s x) old mid new so_far h)

  pub list_stops : (e : Cast → State → B → List Event) → k < length xs → x ≡ get_or xs k x
      → ((g : Answers) (s : State) (y : B) → continued_run (answering_cast old g) s (e (answering_cast old g) s y) ≡ f (answering_cast old g) s y)
      → IsStopped gives (λ c s. e c s x) mid new → IsStopped gives (λ c s. over (f c) (e c) s xs) old new
  list_stops e l is runs h = record {
    stopped = h.stopped;
    cast = h.cast ∙ cast_gone gives (λ c s. fold (f c) s (take k xs)) old mid so_far;
    asked = more_asked gives old mid new so_far.asked (deal_gone gives (λ c s. fold (f c) s (take k xs)) old mid so_far) h.asked;
    book = λ g q. let c = answering_cast old g in
        along_over c (f c) (e c) (runs g) xs k x old.state new.state.book l is
        (way_from gives (λ c s. fold (f c) s (take k xs)) (λ c s. e c s x) old mid new g so_far h.asked q (h.book g q));
  }

pub list_done : (gives : MayGive) {B : Type 0} (f : Cast → State → B → State) (old mid : WorldState) (xs : List B) (k : ℕ) → length xs ≤ k
    → HasGone gives (λ c s. fold (f c) s (take k xs)) old mid → HasGone gives (λ c s. fold (f c) s xs) old mid
list_done gives {B = B} f old mid xs k l so_far =
    gone_as gives (λ c s. fold (f c) s (take k xs)) (λ c s. fold (f c) s xs) old mid
    (λ g. ap (λ (ys : List B). fold (f (answering_cast old g)) old.state ys) (take_all k xs l)) so_far

-- Over the first m numbers.
module _ (gives : MayGive) (f : Cast → State → ℕ → State) (old mid new : WorldState) (m k : ℕ)
    (so_far : HasGone gives (λ c s. fold (f c) s (take k (range_with_len 0 m))) old mid) where
  low : k < m → k < length (range_with_len 0 m)
  low l = let n = length-range_with_len 0 m in omega (arith, n, l)

  here : k < m → k ≡ get_or (range_with_len 0 m) k k
  here l = let z : 0 + k ≡ k = omega arith in sym (get_or-range_with_len 0 m k k l ∙ z)

  pub range_on : k < m → HasGone gives (λ c s. f c s k) mid new → HasGone gives (λ c s. fold (f c) s (take (k + 1) (range_with_len 0 m))) old new
  range_on l h = list_on gives f old mid new (range_with_len 0 m) k k so_far (low l) (here l) h

  pub range_stops : (e : Cast → State → ℕ → List Event) → k < m
      → ((g : Answers) (s : State) (y : ℕ) → continued_run (answering_cast old g) s (e (answering_cast old g) s y) ≡ f (answering_cast old g) s y)
      → IsStopped gives (λ c s. e c s k) mid new → IsStopped gives (λ c s. over (f c) (e c) s (range_with_len 0 m)) old new
  range_stops e l runs h = list_stops gives f old mid new (range_with_len 0 m) k k so_far e (low l) (here l) runs h

pub range_done : (gives : MayGive) (f : Cast → State → ℕ → State) (old mid : WorldState) (m k : ℕ) → m ≤ k
    → HasGone gives (λ c s. fold (f c) s (take k (range_with_len 0 m))) old mid → HasGone gives (λ c s. fold (f c) s (range_with_len 0 m)) old mid
range_done gives f old mid m k l so_far =
    let n = length-range_with_len 0 m in list_done gives f old mid (range_with_len 0 m) k (omega (arith, n, l)) so_far

-- Some times.
module _ (gives : MayGive) (f : Cast → State → State) (old mid new : WorldState) (m k : ℕ) (so_far : HasGone gives (λ c s. repeat k (f c) s) old mid) where
  pub repeat_on : HasGone gives f mid new → HasGone gives (λ c s. repeat (k + 1) (f c) s) old new
  repeat_on h =
      gone_as gives (λ c s. f c (repeat k (f c) s)) (λ c s. repeat (k + 1) (f c) s) old new
      (λ g. sym (repeat_one k (f (answering_cast old g)) old.state)) (gone_then gives (λ c s. repeat k (f c) s) f old mid new so_far h)

  pub repeat_stops : (e d : Cast → State → List Event)
      → ((g : Answers) (b : Histories) → IsIntermediateBook (answering_cast old g) (repeat k (f (answering_cast old g)) old.state)
      (e (answering_cast old g) (repeat k (f (answering_cast old g)) old.state)) b
      → IsIntermediateBook (answering_cast old g) old.state (d (answering_cast old g) old.state) b)
      → IsStopped gives e mid new → IsStopped gives d old new
  repeat_stops e d within h = record {
    stopped = h.stopped;
    cast = h.cast ∙ cast_gone gives (λ c s. repeat k (f c) s) old mid so_far;
    asked = more_asked gives old mid new so_far.asked (deal_gone gives (λ c s. repeat k (f c) s) old mid so_far) h.asked;
    book = λ g q. within g new.state.book (way_from gives (λ c s. repeat k (f c) s) e old mid new g so_far h.asked q (h.book g q));
  }

  -- once f changes nothing
  pub repeat_rests : k ≤ m → ((g : Answers) → f (answering_cast mid g) mid.state ≡ mid.state) → HasGone gives (λ c s. repeat m (f c) s) old mid
  repeat_rests l rests = record {
    asked = so_far.asked;
    same = so_far.same;
    state = λ g e. let c = answering_cast old g in
        let is : mid.state ≡ repeat k (f c) old.state = so_far.state g e in
        let rest : f c mid.state ≡ mid.state
        = sym (ap (λ (x : Cast). f x mid.state) (for_gone gives (λ c s. repeat k (f c) s) old mid g so_far)) ∙ rests g in
        is ∙ sym (rest_more k m (f c) old.state (sym (ap (f c) is) ∙ (rest ∙ is)) l);
  }

-- memory ran out in an event of a list
pub after_some : (gives : MayGive) (old mid new : WorldState) (xs : List Event) (k : ℕ) (x : Event) → k < length xs → x ≡ get_or xs k x
    → HasGone gives (λ c s. continued_run c s (take k xs)) old mid → IsCutInEvent gives x mid new → IsAfterSome xs old new
after_some gives old mid new xs k x l is so_far cut = go cut.book
  where
    there : (g : Answers) → Continues new g → mid.state ≡ continued_run (answering_cast old g) old.state (take k xs)
    there g e = so_far.state g (continues_less gives mid new g cut.asked e)

    go : (new.state.book ≡ mid.state.book) ⊎ ((g : Answers) → Continues new g → new.state.book ≡ (step (answering_cast mid g) mid.state x).book)
        → IsAfterSome xs old new
    go (inl e) = record { count = k; few = omega (arith, l); book = λ g h. e ∙ ap (λ (t : State). t.book) (there g h) }
    go (inr e) = record {
      count = k + 1;
      few = omega (arith, l);
      book = λ g h. let c = answering_cast old g in
          e g h ∙ ap (λ (t : State). t.book)
          (ap₂ (λ (c : Cast) (s : State). step c s x) (for_gone gives (λ c s. continued_run c s (take k xs)) old mid g so_far) (there g h)
          ∙ (ap (λ (y : Event). step c (continued_run c old.state (take k xs)) y) is ∙ sym (fold_more (step c) old.state xs k x l)));
    }
