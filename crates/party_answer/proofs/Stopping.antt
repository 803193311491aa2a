-- Notes of a lock that are torn or differ stop that lock alone.
use Rattle.std.proofs.Common.{◌≡◌, ℕ, Bool, true, false, cond, not, ◌&&◌, ◌||◌, ◌==◌, List, [], ◌∷◌, ◌++◌, filter, refl, sym, ap, ◌∙◌, inl, inr}
use Rattle.std.specs.List.{list_any}
use Rattle.std.proofs.lemmas.List.Folds.{list_any-append}
use Rattle.swap_base.proofs.Lists.{and_swap, in_append}
use Rattle.swap_digraph.specs.Graph.{is_listed}
use Rattle.swap_digraph.proofs.Paths.{in-is_listed, is_listed-true}
use Rattle.ledger_core.specs.declared.entry.Call.{Call}
use Rattle.ledger_core.specs.declared.entry.Call.TheVariants.{Publish, Unlock, Claim, Refund, Transfer}
use Rattle.swap_rules.specs.Due.{Action}
use Rattle.wallet_promise.specs.Answers.{was_sent}
use Rattle.answer_rules.specs.Stopped.{is_stopped_call, unstopped}
use Rattle.useful_calls.specs.Actions.{is_lock_stopped}
use Rattle.party_notes.specs.Asked.{PartyQuestion, known}
use Rattle.party_answer.specs.Unkept.{unkept_locks}
use Rattle.party_answer.specs.Stale.{is_any, unsigned_locks, unwaiting, waits_for}
use Rattle.party_answer.specs.Text.{answerable_landing, answered, kept_keys, lands_at, stale, stopped, unkept, unsent, useful_actions, was_published}
use Rattle.party_answer.specs.Promised.{with_torn_note}

-- ---- two filters

step : {A : Type 0} (q : A → Bool) (x : A) (ps rs : List A) (b : Bool) → ps ≡ filter q rs → cond (b && q x) (x ∷ ps) ps ≡ filter q (cond b (x ∷ rs) rs)
step {A = A} q x ps rs true e = ap (λ (ys : List A). cond (q x) (x ∷ ys) ys) e
step q x ps rs false e = e

both : {A : Type 0} (p q r : A → Bool) → ((x : A) → p x ≡ (r x && q x)) → (xs : List A) → filter p xs ≡ filter q (filter r xs)
both p q r h [] = refl
both p q r h (x ∷ xs) = ap (λ b. cond b (x ∷ filter p xs) (filter p xs)) (h x) ∙ step q x (filter p xs) (filter r xs) (r x) (both p q r h xs)

swapped : {A : Type 0} (p q : A → Bool) (xs : List A) → filter p (filter q xs) ≡ filter q (filter p xs)
swapped p q xs = sym (both (λ x. q x && p x) p q (λ x. refl) xs) ∙ both (λ x. q x && p x) q p (λ x. and_swap (q x) (p x)) xs

-- ---- one more stopped lock

neither : (a b : Bool) → not (a || b) ≡ (not a && not b)
neither true b = refl
neither false b = refl

stops_more : (f g : ℕ → Bool) (i : ℕ) → ((j : ℕ) → g j ≡ (f j || (i == j))) → (c : Call)
    → not (is_stopped_call g c) ≡ (not (is_stopped_call f c) && not (is_stopped_call (λ j. i == j) c))
stops_more f g i h (Unlock key) = ap not (h key.lock) ∙ neither (f key.lock) (i == key.lock)
stops_more f g i h (Publish t) = refl
stops_more f g i h Claim = refl
stops_more f g i h Refund = refl
stops_more f g i h (Transfer to units) = refl

unstopped_more : (f g : ℕ → Bool) (i : ℕ) → ((j : ℕ) → g j ≡ (f j || (i == j))) → (xs : List Action)
    → unstopped g xs ≡ unstopped (λ j. i == j) (unstopped f xs)
unstopped_more f g i h xs =
    both (λ x. not (is_stopped_call g x.call)) (λ x. not (is_stopped_call (λ j. i == j) x.call)) (λ x. not (is_stopped_call f x.call))
    (λ x. stops_more f g i h x.call) xs

moved : (u n i s : Bool) → ((u || (n || (i || false))) || s) ≡ (((u || n) || s) || i)
moved true n i s = refl
moved false true i s = refl
moved false false true true = refl
moved false false true false = refl
moved false false false true = refl
moved false false false false = refl

last : (u n i : Bool) → (u || (n || (i || false))) ≡ ((u || n) || i)
last true n i = refl
last false true i = refl
last false false true = refl
last false false false = refl

listed_more : (b : Bool) (us noted un : List ℕ) (i j : ℕ) → is_listed j (cond b (us ++ (noted ++ i ∷ []) ++ un) (us ++ (noted ++ i ∷ [])))
    ≡ (is_listed j (cond b (us ++ noted ++ un) (us ++ noted)) || (i == j))
listed_more true us noted un i j =
    let p : ℕ → Bool = λ w. w == j in
    list_any-append p (us ++ (noted ++ i ∷ [])) un
    ∙ (ap (λ z. z || list_any p un) (list_any-append p us (noted ++ i ∷ []) ∙ ap (λ z. list_any p us || z) (list_any-append p noted (i ∷ [])))
    ∙ (moved (list_any p us) (list_any p noted) (i == j) (list_any p un)
    ∙ sym (ap (λ z. z || (i == j)) (list_any-append p (us ++ noted) un ∙ ap (λ z. z || list_any p un) (list_any-append p us noted)))))
listed_more false us noted un i j =
    let p : ℕ → Bool = λ w. w == j in
    list_any-append p us (noted ++ i ∷ [])
    ∙ (ap (λ z. list_any p us || z) (list_any-append p noted (i ∷ []))
    ∙ (last (list_any p us) (list_any p noted) (i == j) ∙ sym (ap (λ z. z || (i == j)) (list_any-append p us noted))))

module _ (q : PartyQuestion) (i : ℕ) where
  abbrev useful_here : List Action
  useful_here = useful_actions q (known q)

  abbrev left : List Action
  left = answerable_landing q (lands_at q) (known q)

  more : (j : ℕ) → is_lock_stopped (stopped (with_torn_note q i)) j ≡ (is_lock_stopped (stopped q) j || (i == j))
  more j = listed_more (is_any (stale q)) (unkept_locks (unkept q)) q.kept.stopped (unsigned_locks q.deal (kept_keys q)) i j

  pub others : answered (with_torn_note q i) ≡ unstopped (λ j. i == j) (answered q)
  others =
      ap (λ (xs : List Action). unwaiting (stale q) (unsent q xs))
      (unstopped_more (is_lock_stopped (stopped q)) (is_lock_stopped (stopped (with_torn_note q i))) i more useful_here)
      ∙ (ap (unwaiting (stale q)) (swapped (λ x. not (was_sent (was_published q) x)) (λ x. not (is_stopped_call (λ j. i == j) x.call)) left)
      ∙ swapped (λ x. not (waits_for (stale q) x)) (λ x. not (is_stopped_call (λ j. i == j) x.call)) (unsent q left))

listed_in : (b : Bool) (us noted un : List ℕ) (i : ℕ) → is_listed i noted ≡ true → is_listed i (cond b (us ++ noted ++ un) (us ++ noted)) ≡ true
listed_in true us noted un i e =
    in-is_listed i (us ++ noted ++ un) (in_append (us ++ noted) un i (inl (in_append us noted i (inr (is_listed-true i noted e)))))
listed_in false us noted un i e = in-is_listed i (us ++ noted) (in_append us noted i (inr (is_listed-true i noted e)))

pub torn_is_stopped : (q : PartyQuestion) (i : ℕ) → is_listed i q.kept.stopped ≡ true → is_lock_stopped (stopped q) i ≡ true
torn_is_stopped q i e = listed_in (is_any (stale q)) (unkept_locks (unkept q)) q.kept.stopped (unsigned_locks q.deal (kept_keys q)) i e
