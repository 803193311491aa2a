-- What a machine answers next, from what is due of each kind.
use Rattle.std.proofs.Common.{◌≡◌, ℕ, ◌<◌, ◌++◌, false, List, [], length, Option, Some, None, is_some, option_map, refl, sym, ap, ap₂}
use Rattle.std.proofs.Common.{◌∙◌, subst}
use Rattle.std.specs.Prelude.{Result, Ok, Err, IfOk, OnErr, IsSome}
use Rattle.std.proofs.lemmas.Option.{same_Some}
use Rattle.swap_base.specs.Lists.{or_else}
use Rattle.swap_digraph.specs.declared.deal.Deal.{Deal}
use Rattle.swap_digraph.specs.declared.deal.Mode.{Mode}
use Rattle.swap_digraph.specs.declared.deal.Mode.TheVariants.{Timelocks, Hashkeys}
use Rattle.hashkey_path.specs.declared.hashkey.Hashkey.{Hashkey}
use Rattle.ledger_core.specs.declared.entry.Call.{Call}
use Rattle.ledger_core.specs.declared.entry.Call.TheVariants.{Unlock}
use Rattle.history_index.specs.Value.{IndexState}
use Rattle.swap_rules.specs.Due.{Wallet, due_publishes, due_unlocks, due_claims, due_refunds, extended, first}
use Rattle.swap_rules.specs.Machine.{noted}
use Rattle.party_wallet.specs.Value.{signed_hashkey}
use Rattle.due_calls.specs.Unlocks.{arc_opening_key, make_due_key, IsFirstUnlock, IsSeenBase}
use Rattle.due_calls.specs.declared.unlock_due.Base.{Base}
use Rattle.due_calls.specs.declared.unlock_due.Base.TheVariants.{Signed, Own, Onto}
use Rattle.due_calls.specs.declared.unlock_due.UnlockDue.{UnlockDue}
use Rattle.party_wallet.specs.Value.{WalletState}
use Rattle.party_wallet.specs.Keys.{own_key, onto_key, with_signed}
use Rattle.party_machine.specs.Wallet.{seed_wallet}
use Rattle.party_machine.specs.Machine.{MachineState, due_action, next_due}
use Rattle.party_machine.specs.Within.{all_entries, IsReadyWallet}
use Rattle.party_machine.specs.Unlocking.{IsSignable, base_key, due_hashkey}
use Rattle.party_machine.proofs.MachineEntries.{legal_at}
use Rattle.party_machine.proofs.Onto.{can_put_onto}
use Rattle.party_machine.proofs.Signed.{signed_ready, is_noted, stays}
use Rattle.party_machine.proofs.Next.{later, last_run, party_unlocks}
use Rattle.party_machine.proofs.Chosen.{IsForLocks, chosen}

-- Each hashkey of a wallet is for its lock.

own_lock : (m : Mode) (d : Deal) (v : ℕ) (seed : List ℕ) (i : ℕ) → (own_key m d v seed i).lock ≡ i
own_lock Timelocks d v seed i = refl
own_lock Hashkeys d v seed i = refl

onto_lock : (m : Mode) (d : Deal) (v : ℕ) (seed : List ℕ) (k : Hashkey) → (onto_key m d v seed k).lock ≡ k.lock
onto_lock Timelocks d v seed k = refl
onto_lock Hashkeys d v seed k = refl

for_locks : (seed : List ℕ) (v : ℕ) (d : Deal) → IsForLocks (seed_wallet seed v d)
for_locks seed v d = record { own = own_lock d.mode d v seed; put = onto_lock d.mode d v seed }

put_lock : (d : Deal) (w : Wallet) (i : ℕ) (o : Option Hashkey) (key : Hashkey) → IsForLocks w → IsSignable d i o → extended w o ≡ Some key → key.lock ≡ i
put_lock d w i None key f c e = absurd c
put_lock d w i (Some k) key f c e = ap (λ (y : Hashkey). y.lock) (sym (same_Some (w.onto k) key e)) ∙ (f.put k ∙ c.0)

or_lock : (o r : Option Hashkey) (k : Hashkey) (i : ℕ) → ((l : Hashkey) → o ≡ Some l → l.lock ≡ i) → ((l : Hashkey) → r ≡ Some l → l.lock ≡ i)
    → or_else o r ≡ Some k → k.lock ≡ i
or_lock None r k i p q e = q k e
or_lock (Some l) r k i p q e = p k e

some_is : (o : Option Hashkey) (k : Hashkey) → o ≡ Some k → IsSome o
some_is o k e = subst IsSome (sym e) (search Rattle.std.proofs.Common.rules)

module _ (d : Deal) (w : WalletState) (known : List IndexState) (ready : IsReadyWallet d w known) where
  abbrev state : MachineState
  state = record { deal = d; me = w.party; seed = w.seed; known = all_entries known; signed = w.signed }

  base_lock : (u : UnlockDue) (b : Base) → IsSeenBase d w.party (all_entries known) u.lock b → (key : Hashkey)
      → make_due_key (seed_wallet w.seed w.party d) (signed_hashkey w.signed) (all_entries known) u.lock b ≡ Some key → key.lock ≡ u.lock
  base_lock u Signed s key e = ready.partys.locks u.lock key e
  base_lock u Own s key e =
      ap (λ (y : Hashkey). y.lock) (sym (same_Some (own_key d.mode d w.party w.seed u.lock) key e)) ∙ own_lock d.mode d w.party w.seed u.lock
  base_lock u (Onto a) s key e =
      put_lock d (seed_wallet w.seed w.party d) u.lock (arc_opening_key (all_entries known) a u.lock) key (for_locks w.seed w.party d)
      (can_put_onto d w.party u.lock a (all_entries known) ready.sized ready.partys.party (λ c lt. legal_at d w known c ready lt) s.1) e

  pub due_lock : (u : UnlockDue) (k : Hashkey) → IsSeenBase d w.party (all_entries known) u.lock u.base → due_hashkey d w (all_entries known) u ≡ Some k
      → k.lock ≡ u.lock
  due_lock u k s e =
      or_lock (signed_hashkey w.signed u.lock) (base_key d w (all_entries known) u) k u.lock (λ l h. ready.partys.locks u.lock l h) (λ l h.
      base_lock u u.base s l h) e

  -- after the hashkey of a due unlock was answered, or not
  pub answered_ready : {E : Type 0} (u : UnlockDue) (r : Result Hashkey E) (after : WalletState) (xs : List IndexState) → xs ≡ known
      → u.lock < length d.leaders → IsSeenBase d w.party (all_entries known) u.lock u.base → IfOk r (λ k. due_hashkey d w (all_entries xs) u ≡ Some k)
      → IfOk r (λ k. after ≡ with_signed w u.lock k) → OnErr r (after ≡ w) → IsReadyWallet d after known
  answered_ready u (Ok k) after xs ek lt s value kept err =
      let v : due_hashkey d w (all_entries known) u ≡ Some k = subst (λ (ys : List IndexState). due_hashkey d w (all_entries ys) u ≡ Some k) ek value in
      subst (λ (x : WalletState). IsReadyWallet d x known) (sym kept) (signed_ready d w known u.lock k ready lt (due_lock u k s v))
  answered_ready u (Err e) after xs ek lt s value kept err = subst (λ (x : WalletState). IsReadyWallet d x known) (sym err) ready

  pub noted_as : (u : UnlockDue) (k : Hashkey) (after : WalletState) → u.lock < length d.leaders → IsSeenBase d w.party (all_entries known) u.lock u.base
      → due_hashkey d w (all_entries known) u ≡ Some k → after ≡ with_signed w u.lock k → signed_hashkey after.signed ≡ noted (signed_hashkey w.signed) (Unlock k)
  noted_as u k after lt s value kept =
      let within : u.lock < length w.signed = rw ready.partys.places lt in
      ap (λ (x : WalletState). signed_hashkey x.signed) kept ∙ is_noted w.signed u.lock k within (due_lock u k s value)

  pub kept_as : (u : UnlockDue) (k : Hashkey) (after : WalletState) → u.lock < length d.leaders → due_hashkey d w (all_entries known) u ≡ Some k
      → after ≡ with_signed w u.lock k → (j : ℕ) (l : Hashkey) → signed_hashkey w.signed j ≡ Some l → signed_hashkey after.signed j ≡ Some l
  kept_as u k after lt value kept j l h =
      let within : u.lock < length w.signed = rw ready.partys.places lt in
      ap (λ (x : WalletState). signed_hashkey x.signed j) kept ∙ stays w.signed u.lock k (base_key d w (all_entries known) u) within value j l h

  -- a publish
  pub publishes : (v : ℕ) (xs : List IndexState) (o : Option (ℕ × Call)) → v ≡ w.party → xs ≡ known
      → option_map due_action o ≡ first (due_publishes d v (all_entries xs)) → option_map due_action o ≡ first (due_publishes d w.party (all_entries known))
  publishes v xs o ev ek e = e ∙ ap₂ (λ (y : ℕ) (ys : List IndexState). first (due_publishes d y (all_entries ys))) ev ek

  -- the first unlock, over what the machine keeps
  pub first_unlock : (v : ℕ) (xs : List IndexState) (s : List (Option Hashkey)) (u : UnlockDue) → v ≡ w.party → xs ≡ known → s ≡ w.signed
      → ((x : Wallet) → IsFirstUnlock d v (signed_hashkey s) (all_entries xs) u x)
      → IsFirstUnlock d w.party (signed_hashkey w.signed) (all_entries known) u (seed_wallet w.seed w.party d)
  first_unlock v xs s u ev ek es f =
      subst (λ (y : ℕ). IsFirstUnlock d y (signed_hashkey w.signed) (all_entries known) u (seed_wallet w.seed w.party d)) ev
      (subst (λ (ys : List IndexState). IsFirstUnlock d v (signed_hashkey w.signed) (all_entries ys) u (seed_wallet w.seed w.party d)) ek
      (subst (λ (z : List (Option Hashkey)). IsFirstUnlock d v (signed_hashkey z) (all_entries xs) u (seed_wallet w.seed w.party d)) es
      (f (seed_wallet w.seed w.party d))))

  pub from_some : (u : UnlockDue) (xs : List IndexState) → xs ≡ known
      → IsFirstUnlock d w.party (signed_hashkey w.signed) (all_entries known) u (seed_wallet w.seed w.party d) → IsSome (base_key d w (all_entries xs) u)
  from_some u xs ek f =
      subst (λ (ys : List IndexState). IsSome (base_key d w (all_entries ys) u)) (sym ek) (some_is (base_key d w (all_entries known) u) f.key f.from)

  pub seen_by : (v : ℕ) (xs : List IndexState) (u : UnlockDue) → v ≡ w.party → xs ≡ known → IsSeenBase d v (all_entries xs) u.lock u.base
      → IsSeenBase d w.party (all_entries known) u.lock u.base
  seen_by v xs u ev ek s =
      subst (λ (ys : List IndexState). IsSeenBase d w.party (all_entries ys) u.lock u.base) ek
      (subst (λ (y : ℕ). IsSeenBase d y (all_entries xs) u.lock u.base) ev s)

  -- the hashkey that is answered is the due one
  pub unlocks : (u : UnlockDue) (k : Hashkey) → IsSeenBase d w.party (all_entries known) u.lock u.base
      → IsFirstUnlock d w.party (signed_hashkey w.signed) (all_entries known) u (seed_wallet w.seed w.party d) → due_hashkey d w (all_entries known) u ≡ Some k
      → first (party_unlocks state) ≡ Some (record { arc = u.arc; call = Unlock k })
  unlocks u k s f e =
      let lock : f.key.lock ≡ u.lock = base_lock u u.base s f.key f.from in
      let c =
      chosen d w.party (seed_wallet w.seed w.party d) (signed_hashkey w.signed) (all_entries known) (λ a lt.
      legal_at d w known a ready lt) (for_locks w.seed w.party d) ready.partys.locks u.arc u.lock f.key f.call lock in
      let same : f.key ≡ k = same_Some f.key k (sym c ∙ (ap (or_else (signed_hashkey w.signed u.lock)) (sym f.from) ∙ e)) in
      f.call ∙ ap (λ (y : Hashkey). Some (record { arc = u.arc; call = Unlock y })) same

  pub unlocks_next : (o : Option (ℕ × Call)) (u : UnlockDue) (k : Hashkey) → option_map due_action o ≡ first (due_publishes d w.party (all_entries known))
      → is_some o ≡ false → first (party_unlocks state) ≡ Some (record { arc = u.arc; call = Unlock k })
      → Some (record { arc = u.arc; call = Unlock k }) ≡ next_due state
  unlocks_next o u k e s f =
      later state o (Some (record { arc = u.arc; call = Unlock k })) e s
      (ap (λ z. or_else z (first (due_claims d w.party (all_entries known) ++ due_refunds d w.party (all_entries known)))) f)

  pub settles_next : (v : ℕ) (xs ys : List IndexState) (s : List (Option Hashkey)) (o l : Option (ℕ × Call)) → v ≡ w.party → xs ≡ known → ys ≡ known
      → s ≡ w.signed → option_map due_action o ≡ first (due_publishes d w.party (all_entries known)) → is_some o ≡ false
      → ((x : Wallet) → due_unlocks d v x (signed_hashkey s) (all_entries xs) ≡ [])
      → option_map due_action l ≡ first (due_claims d v (all_entries ys) ++ due_refunds d v (all_entries ys)) → option_map due_action l ≡ next_due state
  settles_next v xs ys s o l ev ek ey es e n none h =
      let nothing : party_unlocks state ≡ [] =
      subst (λ (y : ℕ). due_unlocks d y (seed_wallet w.seed w.party d) (signed_hashkey w.signed) (all_entries known) ≡ []) ev
      (subst (λ (zs : List IndexState). due_unlocks d v (seed_wallet w.seed w.party d) (signed_hashkey w.signed) (all_entries zs) ≡ []) ek
      (subst (λ (z : List (Option Hashkey)). due_unlocks d v (seed_wallet w.seed w.party d) (signed_hashkey z) (all_entries xs) ≡ []) es
      (none (seed_wallet w.seed w.party d)))) in
      let last : option_map due_action l ≡ first (due_claims d w.party (all_entries known) ++ due_refunds d w.party (all_entries known)) =
      h ∙ ap₂ (λ (y : ℕ) (zs : List IndexState). first (due_claims d y (all_entries zs) ++ due_refunds d y (all_entries zs))) ev ey in
      later state o (option_map due_action l) e n (last_run (party_unlocks state)
      (due_claims d w.party (all_entries known) ++ due_refunds d w.party (all_entries known)) nothing last)
