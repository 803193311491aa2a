-- What is kept: good hashkeys, one for a lock, and never another.
use Rattle.std.proofs.Common.{◌≡◌, ◌⊎◌, ℕ, ◌==◌, Bool, true, false, cond, List, [], ◌∷◌, Option, Some, None}
use Rattle.std.proofs.Common.{refl, sym, ap, ◌∙◌, subst, inl, inr, eqb-true}
use Rattle.std.proofs.lemmas.Bool.{false≢true}
use Rattle.std.proofs.lemmas.Option.{same_Some}
use Rattle.swap_base.specs.Lists.{IsElement}
use Rattle.swap_digraph.specs.declared.deal.Deal.{Deal}
use Rattle.hashkey_path.specs.declared.hashkey.Hashkey.{Hashkey}
use Rattle.ledger_core.specs.declared.entry.Call.{Call}
use Rattle.ledger_core.specs.declared.entry.Call.TheVariants.{Publish, Unlock, Claim, Refund, Transfer}
use Rattle.ledger_core.specs.Book.{Histories, IsLegalBook}
use Rattle.swap_rules.specs.Conduct.{is_first_key}
use Rattle.swap_rules.specs.Due.{Wallet, Action, due_key}
use Rattle.swap_rules.specs.Machine.{KeepsKey, IsWallet}
use Rattle.swap_rules.proofs.Words.{same_key-refl}
use Rattle.swap_rules.proofs.Cases.{Case, ToPublish, ToUnlock, ToClaim, ToRefund, case_of}
use Rattle.swap_rules.proofs.DueKeys.{AreGood, OwnTerms, key_rule}
use Rattle.wallet_promise.specs.Life.{Asking, is_kept, Make, Keep, kept_note, make_if, action_answer, IsPartKept, IsKeepingStep, MayKeep}
use Rattle.wallet_promise.specs.Life.{IsJournal, IsTold}

-- a hashkey that was kept is the one that is due
due_is_kept : (d : Deal) (v : ℕ) (w : Wallet) (known : Histories) (i : ℕ) (s : Option Hashkey) (old key : Hashkey) → s ≡ Some old
    → due_key d v w s known i ≡ Some key → old ≡ key
unfolding due_key
due_is_kept d v w known i (Some k) old key q e = same_Some old key (sym q ∙ e)
due_is_kept d v w known i None old key q e = absurd (cc q)

-- Answers.

make_of : (test : Bool) (x y : Action) → make_if test y ≡ Make x → (test ≡ true) × (y ≡ x)
make_of true x y e = (refl, cc e)
make_of false x y e = absurd (none y.call e)
  where
    none : (c : Call) → kept_note c ≡ Make x → ⊥
    none (Publish t) q = cc q
    none (Unlock k) q = cc q
    none Claim q = cc q
    none Refund q = cc q
    none (Transfer u z) q = cc q

pub made_of : (kept : ℕ → Option Hashkey) (o : Option Action) (x : Action) → action_answer kept o ≡ Make x → (o ≡ Some x) × (is_kept kept x.call ≡ true)
made_of kept None x e = absurd (cc e)
made_of kept (Some y) x e = let m = make_of (is_kept kept y.call) x y e in (ap (λ z. Some z) m.1, subst (λ z. is_kept kept z.call ≡ true) m.1 m.0)

keep_if : (test : Bool) (y : Action) (key : Hashkey) → make_if test y ≡ Keep key → (test ≡ false) × (y.call ≡ Unlock key)
keep_if true y key e = absurd (cc e)
keep_if false y key e = (refl, go y.call e)
  where
    go : (c : Call) → kept_note c ≡ Keep key → c ≡ Unlock key
    go (Publish t) q = absurd (cc q)
    go (Unlock k) q = cc q
    go Claim q = absurd (cc q)
    go Refund q = absurd (cc q)
    go (Transfer u z) q = absurd (cc q)

pub kept_state : (kept : ℕ → Option Hashkey) (x : Action) (key : Hashkey) → action_answer kept (Some x) ≡ Keep key
    → (x.call ≡ Unlock key) × (is_first_key (kept key.lock) key ≡ false)
kept_state kept x key e = let m = keep_if (is_kept kept x.call) x key e in (m.1, subst (λ c. is_kept kept c ≡ false) m.1 m.0)

pub keep_first : (kept : ℕ → Option Hashkey) (o : Option Action) (key : Hashkey) → action_answer kept o ≡ Keep key
    → (x : Action) × (o ≡ Some x) × (action_answer kept (Some x) ≡ Keep key)
keep_first kept None key e = absurd (cc e)
keep_first kept (Some x) key e = (x, refl, e)

-- What may be kept: a good hashkey for a lock for which nothing was kept.
pub record IsNew (d : Deal) (v : ℕ) (b : Histories) (q : Asking) (key : Hashkey) : Type 0 where
  pub rule : KeepsKey d b v key.lock key
  pub free : q.kept key.lock ≡ None

not_first : (o : Option Hashkey) (key : Hashkey) → is_first_key o key ≡ false → ((old : Hashkey) → o ≡ Some old → old ≡ key) → o ≡ None
not_first None key e same = refl
not_first (Some old) key e same =
    absurd (false≢true (sym e ∙ (ap (λ z. is_first_key (Some z) key) (same old refl) ∙ same_key-refl key)))

module _ (d : Deal) (v : ℕ) (w : Wallet) (b : Histories) (legal : IsLegalBook d b) (wallet : IsWallet d v w) (own_terms : OwnTerms d b v) where
  -- an unlock that is due has the kept hashkey for its lock, if any was kept
  pub of_unlock_due : (q : Asking) (a : ℕ) (key : Hashkey) → IsTold b q → AreGood d b v q.kept → Case d v w q.kept q.known a (Unlock key)
      → KeepsKey d b v key.lock key × ((old : Hashkey) → q.kept key.lock ≡ Some old → old ≡ key)
  of_unlock_due q a key told good (ToPublish i e c) = absurd (cc c)
  of_unlock_due q a key told good (ToClaim i e c) = absurd (cc c)
  of_unlock_due q a key told good (ToRefund i e c) = absurd (cc c)
  of_unlock_due q a key told good (ToUnlock i k below en may e c) =
      let same : key ≡ k = cc c in
      let r : KeepsKey d b v i key = key_rule d v w b legal wallet own_terms q.kept q.known good told i key below (e ∙ ap (λ z. Some z) (sym same)) in
      let lock : key.lock ≡ i = r.good.lock in (
        subst (λ j. KeepsKey d b v j key) (sym lock) r,
        λ old o. due_is_kept d v w q.known i (q.kept i) old key (ap q.kept (sym lock) ∙ o) (e ∙ ap (λ z. Some z) (sym same)),
      )

  pub is_new : (q : Asking) (key : Hashkey) → IsTold b q → AreGood d b v q.kept → MayKeep d v w q key → IsNew d v b q key
  is_new q key told good e =
      let k = kept_state q.kept e.unlock key e.asks in
      let c = case_of d v w q.kept q.known e.unlock e.is_due in
      let u = of_unlock_due q e.unlock.arc key told good (subst (λ z. Case d v w q.kept q.known e.unlock.arc z) k.0 c) in
      record { rule = u.0; free = not_first (q.kept key.lock) key k.1 u.1 }

  -- what is kept next is good, and holds what was kept
  next_good : (before : ℕ → Option Hashkey) (q : Asking) (next : ℕ → Option Hashkey) → IsTold b q → AreGood d b v before → IsPartKept q.kept before
      → IsKeepingStep d v w before q next → AreGood d b v next × IsPartKept before next
  next_good before q next told good part (inl e) = (subst (AreGood d b v) (sym e) good, λ i key z. ap (λ f. f i) e ∙ z)
  next_good before q next told good part (inr k) =
      let n = is_new q k.0 told (λ i key z. good i key (part i key z)) k.1 in (
        subst (AreGood d b v) (sym k.3) (λ i key z. at n i key (i == k.0.lock) refl z),
        λ i key z. ap (λ f. f i) k.3 ∙ keep i key z (i == k.0.lock) refl,
      )
    where
      at : IsNew d v b q k.0 → (i : ℕ) (key : Hashkey) (x : Bool) → (i == k.0.lock) ≡ x → cond x (Some k.0) (before i) ≡ Some key → KeepsKey d b v i key
      at n i key true h z =
          subst (λ y. KeepsKey d b v i y) (same_Some k.0 key z) (subst (λ j. KeepsKey d b v j k.0) (sym (eqb-true i k.0.lock h)) n.rule)
      at n i key false h z = good i key z

      keep : (i : ℕ) (key : Hashkey) → before i ≡ Some key → (x : Bool) → (i == k.0.lock) ≡ x → cond x (Some k.0) (before i) ≡ Some key
      keep i key z true h = absurd (cc (sym z ∙ (ap before (eqb-true i k.0.lock h) ∙ k.2)))
      keep i key z false h = z

  -- What a journal keeps.
  pub record Keeps (before : ℕ → Option Hashkey) (askings : List Asking) (after : ℕ → Option Hashkey) : Type 0 where
    pub good : AreGood d b v after
    pub grows : IsPartKept before after
    pub each : (q : Asking) → IsElement q askings → AreGood d b v q.kept
    pub lasts : (q : Asking) → IsElement q askings → IsPartKept q.kept after

  pub journal_keeps : (before : ℕ → Option Hashkey) (askings : List Asking) (after : ℕ → Option Hashkey) → ((q : Asking) → IsElement q askings → IsTold b q)
      → AreGood d b v before → IsJournal d v w before askings after → Keeps before askings after
  journal_keeps before [] after told good e = record {
    good = subst (AreGood d b v) (sym e) good;
    grows = λ i key z. ap (λ f. f i) e ∙ z;
    each = λ q i. absurd i;
    lasts = λ q i. absurd i;
  }
  journal_keeps before (q ∷ qs) after told good j =
      let n = next_good before q j.1 (told q (inl refl)) good j.0 j.2 in
      let r = journal_keeps j.1 qs after (λ p i. told p (inr i)) n.0 j.3 in
      record {
        good = r.good;
        grows = λ i key z. r.grows i key (n.1 i key z);
        each = λ p i. each r p i;
        lasts = λ p i. lasts n.1 r p i;
      }
    where
      each : Keeps j.1 qs after → (p : Asking) → (p ≡ q) ⊎ IsElement p qs → AreGood d b v p.kept
      each r p (inl e) = subst (λ z. AreGood d b v z.kept) (sym e) (λ i key z. good i key (j.0 i key z))
      each r p (inr i) = r.each p i

      lasts : IsPartKept before j.1 → Keeps j.1 qs after → (p : Asking) → (p ≡ q) ⊎ IsElement p qs → IsPartKept p.kept after
      lasts n r p (inl e) i key z = r.grows i key (n i key (j.0 i key (ap (λ y. y.kept i) (sym e) ∙ z)))
      lasts n r p (inr k) i key z = r.lasts p k i key z
