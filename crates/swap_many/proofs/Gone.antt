-- Many worlds that go on, and such that stop: one after another, and in loops.
use Rattle.std.proofs.Common.{◌≡◌, ℕ, suc, zero, ◌+◌, ◌-◌, ◌<◌, ◌≤◌, Bool, true, List, [], ◌∷◌, length, get_or, take, drop, fold, refl, sym}
use Rattle.std.proofs.Common.{ap, ap₂, ◌∙◌, subst, arith, add-one, drop-cons, Result, Ok, Err, OnOk, OnErr}
use Rattle.std.specs.List.{range_with_len, All}
use Rattle.std.proofs.lemmas.List.Elements.{All-head, All-tail, All-take, All-drop}
use Rattle.std.proofs.lemmas.List.{take_all, take-append-drop}
use Rattle.std.proofs.lemmas.List.FromFn.{length-range_with_len, get_or-range_with_len}
use Rattle.std.proofs.lemmas.List.Sums.{fold-append, fold_more}
use Rattle.swap_digraph.specs.declared.deal.Deal.{Deal}
use Rattle.swap_run.specs.Asked.{Answers}
use Rattle.swap_run.specs.Fair.{repeat}
use Rattle.swap_run.proofs.Repeats.{repeat_one, rest_more}
use Rattle.swap_world.specs.Gone.{MayGive}
use Rattle.swap_world.proofs.Gone.{nothing_asked}
use Rattle.swap_many.specs.Chains.{Setup}
use Rattle.swap_many.specs.Kept.{Kept}
use Rattle.swap_many.specs.Laws.{IsReadySetup}
use Rattle.swap_many.specs.Way.{Leads}
use Rattle.swap_many.specs.Value.{ManyState, AreReady, CanContinue, IsSwapParty, nth_world, made_setup, many_kept, HasManyGone, IsIntermediateState, IsManyStopped}
use Rattle.swap_many.proofs.Values.{all_same, same_deal, held_same, same_then, same_setup, continue_less}
use Rattle.swap_many.proofs.Way.{no_step, more_steps}
use Rattle.swap_world.proofs.Ways.{range_all, repeat_split}

-- steps lead from what is kept to where f leads, whatever is answered
abbrev pub LeadOn : ManyState → (Setup → Kept → Kept) → Type 0
LeadOn w f = (g : ℕ → Answers) (z : Kept) → Leads (made_setup w g) z (f (made_setup w g) z)

pub on_ok : {A E : Type 0} {P Q : Type 0} (r : Result A E) → (P → Q) → OnOk r P → OnOk r Q
on_ok (Ok x) f p = f p
on_ok (Err e) f p = tt

pub on_err : {A E : Type 0} {P Q : Type 0} (r : Result A E) → (P → Q) → OnErr r P → OnErr r Q
on_err (Ok x) f p = tt
on_err (Err e) f p = f p

module _ (gives : MayGive) where
  pub begun : (w : ManyState) → HasManyGone gives (λ m z. z) w w
  begun w = record { same = all_same gives w; goes_on = refl; kept = λ g c. refl }

  pub gone_as : (f h : Setup → Kept → Kept) (old new : ManyState)
      → ((g : ℕ → Answers) → f (made_setup old g) (many_kept old) ≡ h (made_setup old g) (many_kept old)) → HasManyGone gives f old new
      → HasManyGone gives h old new
  gone_as f h old new e k = record { same = k.same; goes_on = k.goes_on; kept = λ g c. k.kept g c ∙ e g }

  pub gone_then : (f h : Setup → Kept → Kept) (old mid new : ManyState) → HasManyGone gives f old mid → HasManyGone gives h mid new
      → HasManyGone gives (λ m z. h m (f m z)) old new
  gone_then f h old mid new a b = record {
    same = same_then gives old mid new a.same b.same;
    goes_on = b.goes_on ∙ a.goes_on;
    kept = λ g c. b.kept g c ∙ ap₂ h (same_setup gives old mid g a.same) (a.kept g (continue_less gives mid new g b.same c));
  }

  pub on_gone : (f : Setup → Kept → Kept) (old new : ManyState) (holds : List ℕ → Bool) → HasManyGone gives f old new → CanContinue holds old → CanContinue holds new
  on_gone f old new holds k on = record {
    goes_on = k.goes_on ∙ on.goes_on;
    ready = λ g. subst IsReadySetup (sym (same_setup gives old new g k.same)) (on.ready g);
    held = held_same gives old new holds k.same on.held;
  }

  pub swap_gone : (f : Setup → Kept → Kept) (old new : ManyState) (s : ℕ) → HasManyGone gives f old new → s < length old.worlds → s < length new.worlds
  swap_gone f old new s k l = subst (λ n. s < n) (sym k.same.swaps) l

  pub deal_gone : (f : Setup → Kept → Kept) (old new : ManyState) (s : ℕ) → HasManyGone gives f old new → (nth_world new s).deal ≡ (nth_world old s).deal
  deal_gone f old new s k = same_deal gives old new s k.same

  pub party_gone : (f : Setup → Kept → Kept) (old new : ManyState) (s p : ℕ) → HasManyGone gives f old new → IsSwapParty old s p → IsSwapParty new s p
  party_gone f old new s p k l = record {
    swap = swap_gone f old new s k l.swap;
    party = subst (λ (d : Deal). p < d.graph.n) (sym (deal_gone f old new s k)) l.party;
  }

  -- Steps that stop.

  pub stopped_as : (f h : Setup → Kept → Kept) (old new : ManyState)
      → ((g : ℕ → Answers) → f (made_setup old g) (many_kept old) ≡ h (made_setup old g) (many_kept old)) → IsManyStopped gives f old new
      → IsManyStopped gives h old new
  stopped_as f h old new e k = record {
    stopped = k.stopped;
    same = k.same;
    way = λ g c. subst (λ t. IsIntermediateState (made_setup old g) (many_kept old) t new) (e g) (k.way g c);
  }

  -- on the way to a state from which steps lead on
  pub stopped_then : (f h : Setup → Kept → Kept) (old new : ManyState) → AreReady old → LeadOn old h → IsManyStopped gives f old new
      → IsManyStopped gives (λ m z. h m (f m z)) old new
  stopped_then f h old new ready leads k = record {
    stopped = k.stopped;
    same = k.same;
    way = λ g c. let w = k.way g c in
        let m = made_setup old g in
        record {
          there = w.there;
          before = w.before;
          after = more_steps m (ready g) w.there (f m (many_kept old)) (h m (f m (many_kept old))) w.after (leads g (f m (many_kept old)));
          books = w.books;
          clocks = w.clocks;
          free = w.free;
        };
  }

  -- on the way from another state, to which steps lead
  pub stopped_after : (f h : Setup → Kept → Kept) (old mid new : ManyState) → AreReady old → LeadOn old f → HasManyGone gives f old mid
      → IsManyStopped gives h mid new → IsManyStopped gives (λ m z. h m (f m z)) old new
  stopped_after f h old mid new ready leads a k = record {
    stopped = k.stopped;
    same = same_then gives old mid new a.same k.same;
    way = λ g c. let m = made_setup old g in
        let w : IsIntermediateState m (f m (many_kept old)) (h m (f m (many_kept old))) new
        = subst (λ z. IsIntermediateState m z (h m z) new) (a.kept g (continue_less gives mid new g k.same c))
        (subst (λ m. IsIntermediateState m (many_kept mid) (h m (many_kept mid)) new) (same_setup gives old mid g a.same) (k.way g c)) in
        record {
          there = w.there;
          before = more_steps m (ready g) (many_kept old) (f m (many_kept old)) w.there (leads g (many_kept old)) w.before;
          after = w.after;
          books = w.books;
          clocks = w.clocks;
          free = w.free;
        };
  }

  -- before the first step, whether memory ran out or not
  before_steps : (f : Setup → Kept → Kept) (w : ManyState) (stopped : Bool) → AreReady w → LeadOn w f → (g : ℕ → Answers)
      → IsIntermediateState (made_setup w g) (many_kept w) (f (made_setup w g) (many_kept w)) (record w { stopped = stopped })
  before_steps f w stopped ready leads g = record {
    there = many_kept w;
    before = no_step (made_setup w g) (ready g) (many_kept w);
    after = leads g (many_kept w);
    books = λ s l. refl;
    clocks = λ i. refl;
    free = λ i. refl;
  }

  -- a state that stopped before stays where it is
  pub stopped_before : (f : Setup → Kept → Kept) (w : ManyState) → w.stopped ≡ true → AreReady w → LeadOn w f → IsManyStopped gives f w w
  stopped_before f w e ready leads = record {
    stopped = e;
    same = all_same gives w;
    way = λ g c. before_steps f w w.stopped ready leads g;
  }

  -- memory ran out before the first step
  pub stops_here : (f : Setup → Kept → Kept) (w : ManyState) → AreReady w → LeadOn w f → IsManyStopped gives f w (record w { stopped = true })
  stops_here f w ready leads = record {
    stopped = refl;
    same = record {
      swaps = refl;
      casts = λ s. refl;
      asked = λ s. nothing_asked gives (nth_world w s) (nth_world w s) refl refl;
      places = refl;
      openings = refl;
    };
    way = λ g c. before_steps f w true ready leads g;
  }

-- Loops over a list.

split_at : {A B : Type 0} (f : A → B → A) (s : A) (xs : List B) (k : ℕ) (x : B) → k < length xs → x ≡ get_or xs k x
    → fold f s xs ≡ fold f (f (fold f s (take k xs)) x) (drop (k + 1) xs)
split_at {A = A} {B = B} f s xs k x l is =
    let e : drop k xs ≡ x ∷ drop (k + 1) xs = rw (add-one, drop-cons xs k x, ← is) in
    ap (λ (ys : List B). fold f s ys) (sym (take-append-drop k xs))
    ∙ (fold-append f s (take k xs) (drop k xs) ∙ ap (λ (ys : List B). fold f (fold f s (take k xs)) ys) e)

-- steps lead to where each member of the list leads
abbrev pub AllLead : {B : Type 0} → ManyState → (Setup → Kept → B → Kept) → List B → Type 0
AllLead w f xs = All (λ x. LeadOn w (λ m z. f m z x)) xs

module _ {B : Type 0} (w : ManyState) (ready : AreReady w) (f : Setup → Kept → B → Kept) where
  pub leads_fold : (xs : List B) → AllLead w f xs → LeadOn w (λ m z. fold (f m) z xs)
  leads_fold [] h g z = no_step (made_setup w g) (ready g) z
  leads_fold (x ∷ xs) h g z =
      let m = made_setup w g in
      more_steps m (ready g) z (f m z x) (fold (f m) (f m z x) xs) (All-head (λ x. LeadOn w (λ m z. f m z x)) x xs h g z)
      (leads_fold xs (All-tail (λ x. LeadOn w (λ m z. f m z x)) x xs h) g (f m z x))

-- all of the first numbers lead on
pub range_leads : (w : ManyState) (f : Setup → Kept → ℕ → Kept) (n : ℕ) → ((x : ℕ) → x < n → LeadOn w (λ m z. f m z x))
    → AllLead w f (range_with_len 0 n)
range_leads w f n h = range_all (λ x. LeadOn w (λ m z. f m z x)) n h

module _ (gives : MayGive) {B : Type 0} (f : Setup → Kept → B → Kept) (old mid new : ManyState) (xs : List B) (k : ℕ) (x : B)
    (so_far : HasManyGone gives (λ m z. fold (f m) z (take k xs)) old mid) where
  pub list_on : k < length xs → x ≡ get_or xs k x → HasManyGone gives (λ m z. f m z x) mid new
      → HasManyGone gives (λ m z. fold (f m) z (take (k + 1) xs)) old new
  list_on l is h =
      gone_as gives (λ m z. f m (fold (f m) z (take k xs)) x) (λ m z. fold (f m) z (take (k + 1) xs)) old new
      (λ g. let m = made_setup old g in
      ap (λ (y : B). f m (fold (f m) (many_kept old) (take k xs)) y) is ∙ sym (fold_more (f m) (many_kept old) xs k x l))
      (gone_then gives (λ m z. fold (f m) z (take k xs)) (λ m z. f m z x) old mid new so_far h)

  pub list_stops : k < length xs → x ≡ get_or xs k x → AreReady old → AllLead old f xs → IsManyStopped gives (λ m z. f m z x) mid new
      → IsManyStopped gives (λ m z. fold (f m) z xs) old new
  list_stops l is ready leads h =
      let P : B → Type 0 = λ x. LeadOn old (λ m z. f m z x) in
      stopped_as gives (λ m z. fold (f m) (f m (fold (f m) z (take k xs)) x) (drop (k + 1) xs)) (λ m z. fold (f m) z xs) old new
      (λ g. sym (split_at (f (made_setup old g)) (many_kept old) xs k x l is))
      (stopped_then gives (λ m z. f m (fold (f m) z (take k xs)) x) (λ m z. fold (f m) z (drop (k + 1) xs)) old new ready
      (leads_fold old ready f (drop (k + 1) xs) (All-drop P (k + 1) xs leads))
      (stopped_after gives (λ m z. fold (f m) z (take k xs)) (λ m z. f m z x) old mid new ready
      (leads_fold old ready f (take k xs) (All-take P k xs leads)) so_far h))

pub list_done : (gives : MayGive) {B : Type 0} (f : Setup → Kept → B → Kept) (old mid : ManyState) (xs : List B) (k : ℕ) → length xs ≤ k
    → HasManyGone gives (λ m z. fold (f m) z (take k xs)) old mid → HasManyGone gives (λ m z. fold (f m) z xs) old mid
list_done gives {B = B} f old mid xs k l so_far =
    gone_as gives (λ m z. fold (f m) z (take k xs)) (λ m z. fold (f m) z xs) old mid
    (λ g. ap (λ (ys : List B). fold (f (made_setup old g)) (many_kept old) ys) (take_all k xs l)) so_far

-- Over the first n numbers.
module _ (gives : MayGive) (f : Setup → Kept → ℕ → Kept) (old mid new : ManyState) (n k : ℕ)
    (so_far : HasManyGone gives (λ m z. fold (f m) z (take k (range_with_len 0 n))) old mid) where
  low : k < n → k < length (range_with_len 0 n)
  low l = let e = length-range_with_len 0 n in omega (arith, e, l)

  here : k < n → k ≡ get_or (range_with_len 0 n) k k
  here l = let z : 0 + k ≡ k = omega arith in sym (get_or-range_with_len 0 n k k l ∙ z)

  pub range_on : k < n → HasManyGone gives (λ m z. f m z k) mid new → HasManyGone gives (λ m z. fold (f m) z (take (k + 1) (range_with_len 0 n))) old new
  range_on l h = list_on gives f old mid new (range_with_len 0 n) k k so_far (low l) (here l) h

  pub range_stops : k < n → AreReady old → ((x : ℕ) → x < n → LeadOn old (λ m z. f m z x)) → IsManyStopped gives (λ m z. f m z k) mid new
      → IsManyStopped gives (λ m z. fold (f m) z (range_with_len 0 n)) old new
  range_stops l ready leads h =
      list_stops gives f old mid new (range_with_len 0 n) k k so_far (low l) (here l) ready (range_leads old f n leads) h

pub range_done : (gives : MayGive) (f : Setup → Kept → ℕ → Kept) (old mid : ManyState) (n k : ℕ) → n ≤ k
    → HasManyGone gives (λ m z. fold (f m) z (take k (range_with_len 0 n))) old mid → HasManyGone gives (λ m z. fold (f m) z (range_with_len 0 n)) old mid
range_done gives f old mid n k l so_far =
    let e = length-range_with_len 0 n in list_done gives f old mid (range_with_len 0 n) k (omega (arith, e, l)) so_far

-- Some times.

module _ (w : ManyState) (ready : AreReady w) (f : Setup → Kept → Kept) (leads : LeadOn w f) where
  pub leads_repeat : (n : ℕ) → LeadOn w (λ m z. repeat n (f m) z)
  leads_repeat zero g z = no_step (made_setup w g) (ready g) z
  leads_repeat (suc n) g z =
      let m = made_setup w g in
      more_steps m (ready g) z (repeat n (f m) z) (f m (repeat n (f m) z)) (leads_repeat n g z) (leads g (repeat n (f m) z))

module _ (gives : MayGive) (f : Setup → Kept → Kept) (old mid new : ManyState) (n k : ℕ)
    (so_far : HasManyGone gives (λ m z. repeat k (f m) z) old mid) where
  pub repeat_on : HasManyGone gives f mid new → HasManyGone gives (λ m z. repeat (k + 1) (f m) z) old new
  repeat_on h =
      gone_as gives (λ m z. f m (repeat k (f m) z)) (λ m z. repeat (k + 1) (f m) z) old new
      (λ g. sym (repeat_one k (f (made_setup old g)) (many_kept old))) (gone_then gives (λ m z. repeat k (f m) z) f old mid new so_far h)

  pub repeat_stops : k < n → AreReady old → LeadOn old f → IsManyStopped gives f mid new → IsManyStopped gives (λ m z. repeat n (f m) z) old new
  repeat_stops l ready leads h =
      let e : n ≡ (n - suc k) + suc k = omega arith in
      stopped_as gives (λ m z. repeat (n - suc k) (f m) (f m (repeat k (f m) z))) (λ m z. repeat n (f m) z) old new
      (λ g. sym (ap (λ j. repeat j (f (made_setup old g)) (many_kept old)) e ∙ repeat_split (n - suc k) (suc k) (f (made_setup old g)) (many_kept old)))
      (stopped_then gives (λ m z. f m (repeat k (f m) z)) (λ m z. repeat (n - suc k) (f m) z) old new ready (leads_repeat old ready f leads (n - suc k))
      (stopped_after gives (λ m z. repeat k (f m) z) f old mid new ready (leads_repeat old ready f leads k) so_far h))

  -- once f changes nothing
  pub repeat_rests : k ≤ n → ((g : ℕ → Answers) → f (made_setup mid g) (many_kept mid) ≡ many_kept mid) → HasManyGone gives (λ m z. repeat n (f m) z) old mid
  repeat_rests l rests = record {
    same = so_far.same;
    goes_on = so_far.goes_on;
    kept = λ g c. let m = made_setup old g in
        let is : many_kept mid ≡ repeat k (f m) (many_kept old) = so_far.kept g c in
        let rest : f m (many_kept mid) ≡ many_kept mid
        = sym (ap (λ (x : Setup). f x (many_kept mid)) (same_setup gives old mid g so_far.same)) ∙ rests g in
        is ∙ sym (rest_more k n (f m) (many_kept old) (sym (ap (f m) is) ∙ (rest ∙ is)) l);
  }
