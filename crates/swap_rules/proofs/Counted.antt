-- What counts of a history reads the same, but for the calls that were refused.
use Rattle.std.proofs.Common.{◌≡◌, ℕ, suc, zero, ◌+◌, Bool, true, false, not, ◌&&◌, ◌||◌, List, [], ◌∷◌, filter, map, Option, Some, None, is_none, refl, sym, ap, ◌∙◌, subst, cond, arith}
use Rattle.std.specs.List.{list_any}
use Rattle.std.proofs.lemmas.Bool.{false≢true}
use Rattle.std.proofs.lemmas.List.Sums.{sum_by-cons}
use Rattle.swap_base.specs.Lists.{or_else, first_given_answer}
use Rattle.ledger_core.specs.declared.entry.Call.{Call}
use Rattle.ledger_core.specs.declared.entry.Call.TheVariants.{Publish, Unlock, Claim, Refund, Transfer}
use Rattle.ledger_core.specs.declared.entry.What.{What}
use Rattle.ledger_core.specs.declared.entry.What.TheVariants.{Call as Made, Tick}
use Rattle.ledger_core.specs.declared.entry.Entry.{Entry}
use Rattle.ledger_core.specs.History.{entry_ticks, height, accepted, publication, published, opening, opened, settling, settled, is_sender, made_call}
use Rattle.ledger_core.specs.Book.{Histories, history}
use Rattle.swap_rules.specs.Party.{pick_call}
use Rattle.swap_rules.specs.Conduct.{is_publish}
use Rattle.swap_rules.specs.Due.{has_called}
use Rattle.swap_rules.specs.Counted.{may_repeat, is_passed, counted, all_counted}

-- a filter that drops only what has no answer keeps the first answer
first_kept : {A B : Type 0} (p : A → Bool) (f : A → Option B) (xs : List A) → ((x : A) → p x ≡ false → f x ≡ None)
    → first_given_answer f (filter p xs) ≡ first_given_answer f xs
first_kept p f [] h = refl
first_kept p f (x ∷ xs) h = go (p x) refl (first_kept p f xs h)
  where
    go : (b : Bool) → p x ≡ b → first_given_answer f (filter p xs) ≡ first_given_answer f xs
        → first_given_answer f (filter p (x ∷ xs)) ≡ first_given_answer f (x ∷ xs)
    go true e r = rw e (ap (or_else (f x)) r)
    go false e r = rw e (r ∙ ap (λ o. or_else o (first_given_answer f xs)) (sym (h x e)))

any_kept : {A : Type 0} (p f : A → Bool) (xs : List A) → ((x : A) → p x ≡ false → f x ≡ false) → list_any f (filter p xs) ≡ list_any f xs
any_kept p f [] h = refl
any_kept p f (x ∷ xs) h = go (p x) refl (any_kept p f xs h)
  where
    go : (b : Bool) → p x ≡ b → list_any f (filter p xs) ≡ list_any f xs → list_any f (filter p (x ∷ xs)) ≡ list_any f (x ∷ xs)
    go true e r = rw e (ap (λ y. f x || y) r)
    go false e r = rw e (r ∙ ap (λ y. y || list_any f xs) (sym (h x e)))

any_part : {A : Type 0} (p f : A → Bool) (xs : List A) → list_any f (filter p xs) ≡ true → list_any f xs ≡ true
any_part p f [] e = e
any_part p f (x ∷ xs) e = go (p x) refl e (any_part p f xs)
  where
    hit : (y : Bool) → f x ≡ y → (f x || list_any f (filter p xs)) ≡ true → (list_any f (filter p xs) ≡ true → list_any f xs ≡ true)
        → (f x || list_any f xs) ≡ true
    hit true z e r = ap (λ t. t || list_any f xs) z
    hit false z e r = ap (λ t. t || list_any f xs) z ∙ r (ap (λ t. t || list_any f (filter p xs)) (sym z) ∙ e)

    miss : (y : Bool) → f x ≡ y → list_any f xs ≡ true → (f x || list_any f xs) ≡ true
    miss true z r = ap (λ t. t || list_any f xs) z
    miss false z r = ap (λ t. t || list_any f xs) z ∙ r

    go : (b : Bool) → p x ≡ b → list_any f (filter p (x ∷ xs)) ≡ true → (list_any f (filter p xs) ≡ true → list_any f xs ≡ true)
        → list_any f (x ∷ xs) ≡ true
    go true q e r = hit (f x) refl (ap (λ t. list_any f (cond t (x ∷ filter p xs) (filter p xs))) (sym q) ∙ e) r
    go false q e r = miss (f x) refl (r (ap (λ t. list_any f (cond t (x ∷ filter p xs) (filter p xs))) (sym q) ∙ e))

pub passed_parts : (a b : Bool) → not (a && b) ≡ false → (a ≡ true) × (b ≡ true)
passed_parts true true e = (refl, refl)
passed_parts true false e = absurd (false≢true (sym e))
passed_parts false b e = absurd (false≢true (sym e))

none_of : {A : Type 0} (o : Option A) → is_none o ≡ true → o ≡ None
none_of None e = refl
none_of (Some x) e = absurd (cc e)

pub not_accepted : (v : ℕ) (e : Entry) → not (is_passed v e) ≡ false → accepted e ≡ None
not_accepted v e h = none_of (accepted e) (passed_parts (may_repeat (pick_call v e)) (is_none (accepted e)) h).1

tickless : (v : ℕ) (e : Entry) → not (is_passed v e) ≡ false → entry_ticks e.what ≡ 0
tickless v e h = go e.what (is_sender v e.sender) (passed_parts (may_repeat (pick_call v e)) (is_none (accepted e)) h).0
  where
    go : (t : What) (b : Bool) → may_repeat (cond b (made_call t) None) ≡ true → entry_ticks t ≡ 0
    go (Made c) b e = refl
    go (Tick n) true e = absurd (false≢true e)
    go (Tick n) false e = absurd (false≢true e)

unpublished : (v : ℕ) (e : Entry) → not (is_passed v e) ≡ false → is_publish (pick_call v e) ≡ false
unpublished v e h = go (pick_call v e) (passed_parts (may_repeat (pick_call v e)) (is_none (accepted e)) h).0
  where
    go : (o : Option Call) → may_repeat o ≡ true → is_publish o ≡ false
    go None e = absurd (false≢true e)
    go (Some (Publish t)) e = absurd (false≢true e)
    go (Some (Unlock key)) e = refl
    go (Some Claim) e = refl
    go (Some Refund) e = refl
    go (Some (Transfer to units)) e = refl

sums_kept : (p : Entry → Bool) (h : List Entry) → ((x : Entry) → p x ≡ false → entry_ticks x.what ≡ 0) → height (filter p h) ≡ height h
sums_kept p [] z = refl
sums_kept p (x ∷ h) z = go (p x) refl (sums_kept p h z)
  where
    go : (b : Bool) → p x ≡ b → height (filter p h) ≡ height h → height (filter p (x ∷ h)) ≡ height (x ∷ h)
    go true e r =
        rw e (sum_by-cons (λ y. entry_ticks y.what) x (filter p h) ∙ (ap (λ n. entry_ticks x.what + n) r
        ∙ sym (sum_by-cons (λ y. entry_ticks y.what) x h)))
    go false e r =
        let one : height (x ∷ h) ≡ entry_ticks x.what + height h = sum_by-cons (λ y. entry_ticks y.what) x h in
        let none : ◌≡◌ {A = ℕ} (entry_ticks x.what) 0 = z x e in
        let same : ◌≡◌ {A = ℕ} (height (filter p h)) (height (x ∷ h)) = omega arith in
        rw e same

-- Two histories that read the same to v, of which k has perhaps fewer calls of v.
pub record ReadsFewer (v : ℕ) (k h : List Entry) : Type 0 where
  pub height : height k ≡ height h
  pub published : published k ≡ published h
  pub opened : (i : ℕ) → opened k i ≡ opened h i
  pub settled : settled k ≡ settled h
  pub publishes : has_called v is_publish k ≡ has_called v is_publish h
  pub calls : (test : Option Call → Bool) → has_called v test k ≡ true → has_called v test h ≡ true

pub counted_reads : (v : ℕ) (h : List Entry) → ReadsFewer v (counted v h) h
counted_reads v h = record {
  height = sums_kept (λ e. not (is_passed v e)) h (tickless v);
  published =
      first_kept (λ e. not (is_passed v e)) (λ e. publication e.height (accepted e)) h (λ e q. ap (publication e.height) (not_accepted v e q));
  opened = λ i. first_kept (λ e. not (is_passed v e)) (λ e. opening i e.height (accepted e)) h (λ e q. ap (opening i e.height) (not_accepted v e q));
  settled = first_kept (λ e. not (is_passed v e)) (λ e. settling (accepted e)) h (λ e q. ap settling (not_accepted v e q));
  publishes = any_kept (λ e. not (is_passed v e)) (λ e. is_publish (pick_call v e)) h (unpublished v);
  calls = λ test. any_part (λ e. not (is_passed v e)) (λ e. test (pick_call v e)) h;
}

history_map : (f : List Entry → List Entry) → f [] ≡ [] → (b : Histories) (a : ℕ) → history (map f b) a ≡ f (history b a)
history_map f z [] a = sym z
history_map f z (h ∷ b) zero = refl
history_map f z (h ∷ b) (suc a) = history_map f z b a

pub counted_is : (v : ℕ) (b : Histories) (a : ℕ) → history (all_counted v b) a ≡ counted v (history b a)
counted_is v b a = history_map (counted v) refl b a

pub all_counted_reads : (v : ℕ) (b : Histories) (a : ℕ) → ReadsFewer v (history (all_counted v b) a) (history b a)
all_counted_reads v b a = subst (λ k. ReadsFewer v k (history b a)) (sym (counted_is v b a)) (counted_reads v (history b a))
