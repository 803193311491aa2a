-- Hashkeys that would have to be signed.
use Rattle.std.proofs.Common.{◌≡◌, ◌<◌, ℕ, true, false, cond, List, ◌++◌, length, Option, Some, None, is_none, refl, sym, ap, ◌∙◌, subst, inr}
use Rattle.std.proofs.lemmas.Bool.{false≢true}
use Rattle.std.proofs.lemmas.Option.{same_Some}
use Rattle.swap_base.specs.Lists.{IsElement}
use Rattle.swap_base.proofs.Lists.{in_append, in_filter, in_range}
use Rattle.swap_digraph.specs.Graph.{is_listed}
use Rattle.swap_digraph.proofs.Paths.{in-is_listed}
use Rattle.swap_digraph.specs.declared.deal.Deal.{Deal}
use Rattle.swap_digraph.specs.Deal.{locks}
use Rattle.hashkey_path.specs.declared.hashkey.Hashkey.{Hashkey}
use Rattle.ledger_core.specs.declared.entry.Call.{Call}
use Rattle.ledger_core.specs.declared.entry.Call.TheVariants.{Unlock}
use Rattle.ledger_core.specs.Book.{Histories, IsLegalBook}
use Rattle.swap_rules.specs.Conduct.{is_first_key}
use Rattle.swap_rules.specs.Due.{Wallet, Action, due, due_arc_unlock, due_key, may_unlock, presented}
use Rattle.swap_rules.proofs.Cases.{Case, ToPublish, ToUnlock, ToClaim, ToRefund, case_of}
use Rattle.swap_rules.proofs.Words.{same_key-refl}
use Rattle.wallet_promise.specs.Life.{is_kept}
use Rattle.answer_rules.specs.Laws.{AreGoodKeys, SignsItsLock}
use Rattle.answer_rules.proofs.Due.{due_lock, origin}
use Rattle.answer_rules.proofs.UsefulKinds.{in_if, in_presented}
use Rattle.useful_calls.specs.Actions.{is_lock_stopped}
use Rattle.party_answer.specs.declared.unkept.Unkept.{Unkept}
use Rattle.party_answer.specs.Unkept.{unkept_locks}
use Rattle.party_answer.specs.Stale.{stopped_locks, unsigned_locks}
use Rattle.party_answer.proofs.Unwaiting.{some_stale}

-- a due unlock is an unlock
pub unlock_in : (d : Deal) (v : ℕ) (w : Wallet) (signed : Option Hashkey) (k : Histories) (i a : ℕ) (x : Action) → IsElement x (due_arc_unlock d v w signed k i a)
    → (key : Hashkey) × (x.call ≡ Unlock key)
unfolding due_arc_unlock
unlock_in d v w signed k i a x j =
    let t = in_if (may_unlock d v k i a) (presented a (due_key d v w signed k i)) x j in
    let p = in_presented a (due_key d v w signed k i) x t.1 in (p.0, p.2)

-- the hashkey that was kept is the one that is due
is_the_kept : (d : Deal) (v : ℕ) (w : Wallet) (k : Histories) (i : ℕ) (old key : Hashkey) → due_key d v w (Some old) k i ≡ Some key → old ≡ key
unfolding due_key
is_the_kept d v w k i old key e = same_Some old key e

module _ (d : Deal) (v : ℕ) (w : Wallet) (kept : ℕ → Option Hashkey) (k : Histories) (legal : IsLegalBook d k) (signs : SignsItsLock w) (good : AreGoodKeys d v kept) where
  kept_or : (i : ℕ) (key : Hashkey) (o : Option Hashkey) → kept i ≡ o → key.lock ≡ i → due_key d v w (kept i) k i ≡ Some key → is_kept kept (Unlock key) ≡ false
      → kept key.lock ≡ None
  kept_or i key None e at due out = ap kept at ∙ e
  kept_or i key (Some old) e at due out =
      let same : old ≡ key = is_the_kept d v w k i old key (ap (λ o. due_key d v w o k i) (sym e) ∙ due) in
      let here : kept key.lock ≡ Some key = ap kept at ∙ (e ∙ ap (λ z. Some z) same) in
      absurd (false≢true (sym out ∙ (ap (λ o. is_first_key o key) here ∙ same_key-refl key)))

  by_case : (a : ℕ) (c : Call) (key : Hashkey) → Case d v w kept k a c → c ≡ Unlock key → is_kept kept (Unlock key) ≡ false
      → (key.lock < length d.leaders) × (kept key.lock ≡ None)
  by_case a c key (ToPublish j t e) u out = absurd (cc (sym e ∙ u))
  by_case a c key (ToClaim j t e) u out = absurd (cc (sym e ∙ u))
  by_case a c key (ToRefund j t e) u out = absurd (cc (sym e ∙ u))
  by_case a c key (ToUnlock i other lt j may is e) u out =
      let same : other ≡ key = cc (sym e ∙ u) in
      let here : due_key d v w (kept i) k i ≡ Some key = is ∙ ap (λ z. Some z) same in
      let at : key.lock ≡ i = due_lock d v w kept k i key legal signs good (origin d v w kept k i key here) in
      (subst (λ n. n < length d.leaders) (sym at) lt, kept_or i key (kept i) refl at here out)

  -- where the hashkey of a due unlock isn't the kept one, none was kept for its lock
  pub none_kept : (x : Action) (key : Hashkey) → IsElement x (due d v w kept k) → x.call ≡ Unlock key → is_kept kept (Unlock key) ≡ false
      → (key.lock < length d.leaders) × (kept key.lock ≡ None)
  none_kept x key i e out = by_case x.arc x.call key (case_of d v w kept k x i) e out

-- where a ledger is stale, a lock without a kept hashkey is stopped
pub signing_is_stopped : (d : Deal) (kept : ℕ → Option Hashkey) (noted : List ℕ) (us : List Unkept) (stale : List ℕ) (a i : ℕ) → IsElement a stale
    → i < length d.leaders → kept i ≡ None → is_lock_stopped (stopped_locks d kept noted us stale) i ≡ true
signing_is_stopped d kept noted us stale a i st lt e =
    ap (λ b. is_listed i (cond b (unkept_locks us ++ noted ++ unsigned_locks d kept) (unkept_locks us ++ noted))) (some_stale stale a st)
    ∙ in-is_listed i (unkept_locks us ++ noted ++ unsigned_locks d kept)
    (in_append (unkept_locks us ++ noted) (unsigned_locks d kept) i (inr (in_filter (λ j. is_none (kept j)) i (locks d) (in_range i (length d.leaders) lt) (ap is_none e))))
