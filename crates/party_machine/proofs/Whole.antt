-- A hashkey that a party signs has no more vertices than a path of the deal may have. All of them
-- are parties, and each has a signature.
use Rattle.std.proofs.Common.{◌≡◌, ℕ, suc, ◌<◌, ◌==◌, nat_lt, Bool, true, cond, List, length, Option, Some, None, is_some, option_map}
use Rattle.std.proofs.Common.{refl, sym, ap, ◌∙◌, subst, arith, eq-eqb, lt-ltb}
use Rattle.std.proofs.lemmas.Option.{same_Some}
use Rattle.swap_base.specs.Lists.{or_else}
use Rattle.swap_base.proofs.Lists.{and_both}
use Rattle.swap_digraph.specs.declared.deal.Deal.{Deal}
use Rattle.swap_digraph.specs.declared.deal.Mode.{Mode}
use Rattle.swap_digraph.specs.declared.deal.Mode.TheVariants.{Timelocks, Hashkeys}
use Rattle.swap_digraph.specs.Deal.{path_limit}
use Rattle.hashkey_path.specs.declared.hashkey.Hashkey.{Hashkey}
use Rattle.ledger_core.specs.declared.entry.Call.{Call}
use Rattle.ledger_core.specs.declared.entry.Call.TheVariants.{Publish, Unlock, Claim, Refund, Transfer}
use Rattle.history_index.specs.Value.{IndexState}
use Rattle.swap_rules.specs.Due.{extended}
use Rattle.swap_rules.specs.Machine.{noted}
use Rattle.party_wallet.specs.Value.{WalletState, signed_hashkey}
use Rattle.party_wallet.specs.Keys.{own_key, onto_key}
use Rattle.due_calls.specs.Unlocks.{arc_opening_key, make_due_key, IsSeenBase}
use Rattle.due_calls.specs.declared.unlock_due.Base.{Base}
use Rattle.due_calls.specs.declared.unlock_due.Base.TheVariants.{Signed, Own, Onto}
use Rattle.due_calls.specs.declared.unlock_due.UnlockDue.{UnlockDue}
use Rattle.wallet_journal.specs.Layout.{are_bounded}
use Rattle.party_machine.specs.Wallet.{seed_wallet}
use Rattle.party_machine.specs.Machine.{due_action, noted_if_called}
use Rattle.party_machine.specs.Within.{all_entries, IsReadyWallet}
use Rattle.party_machine.specs.Unlocking.{IsSignable, base_key, due_hashkey}
use Rattle.party_machine.specs.Recording.{new_key, unsigned_key, IsWholeKey}
use Rattle.party_machine.proofs.MachineEntries.{legal_at}
use Rattle.party_machine.proofs.Onto.{can_put_onto, some_room}
use Rattle.party_machine.proofs.Step.{due_lock}

own_whole : (m : Mode) (d : Deal) (v : ℕ) (seed : List ℕ) (i : ℕ) → v < d.graph.n → IsWholeKey d (own_key m d v seed i)
own_whole Timelocks d v seed i lt =
    let room = some_room d.version in
    record { fits = record { few = omega (arith, room); parties = refl }; paired = refl }
own_whole Hashkeys d v seed i lt =
    let room = some_room d.version in
    record {
      fits = record { few = omega (arith, room); parties = and_both (nat_lt v d.graph.n) true (lt-ltb v d.graph.n lt) refl };
      paired = refl;
    }

onto_whole : (m : Mode) (d : Deal) (v : ℕ) (seed : List ℕ) (k : Hashkey) → v < d.graph.n → length k.path < path_limit d → length k.sigs ≡ length k.path
    → are_bounded d.graph.n k.path ≡ true → IsWholeKey d (onto_key m d v seed k)
onto_whole Timelocks d v seed k lt few paired parties =
    let room = some_room d.version in
    record { fits = record { few = omega (arith, room); parties = refl }; paired = refl }
onto_whole Hashkeys d v seed k lt few paired parties = record {
  fits = record { few = omega (arith, few); parties = and_both (nat_lt v d.graph.n) (are_bounded d.graph.n k.path) (lt-ltb v d.graph.n lt) parties };
  paired = ap suc paired;
}

put_whole : (d : Deal) (v : ℕ) (seed : List ℕ) (i : ℕ) (o : Option Hashkey) (key : Hashkey) → v < d.graph.n → IsSignable d i o
    → extended (seed_wallet seed v d) o ≡ Some key → IsWholeKey d key
put_whole d v seed i None key lt can e = absurd can
put_whole d v seed i (Some k) key lt can e =
    subst (IsWholeKey d) (same_Some (onto_key d.mode d v seed k) key e) (onto_whole d.mode d v seed k lt can.1 can.2 can.3)

or_none : (o r : Option Hashkey) (k : Hashkey) → o ≡ None → or_else o r ≡ Some k → r ≡ Some k
or_none None r k none e = e
or_none (Some l) r k none e = absurd (cc none)

-- where a hashkey is new, none was signed for its lock
pub fresh : (o : Option Hashkey) (key k : Hashkey) → cond (is_some o) None (Some key) ≡ Some k → (o ≡ None) × (key ≡ k)
fresh None key k e = (refl, same_Some key k e)
fresh (Some l) key k e = absurd (cc e)

module _ (d : Deal) (w : WalletState) (known : List IndexState) (ready : IsReadyWallet d w known) where
  base_whole : (u : UnlockDue) (b : Base) → IsSeenBase d w.party (all_entries known) u.lock b → signed_hashkey w.signed u.lock ≡ None → (key : Hashkey)
      → make_due_key (seed_wallet w.seed w.party d) (signed_hashkey w.signed) (all_entries known) u.lock b ≡ Some key → IsWholeKey d key
  base_whole u Signed s none key e = absurd (cc (sym none ∙ e))
  base_whole u Own s none key e =
      subst (IsWholeKey d) (same_Some (own_key d.mode d w.party w.seed u.lock) key e) (own_whole d.mode d w.party w.seed u.lock ready.partys.party)
  base_whole u (Onto a) s none key e =
      put_whole d w.party w.seed u.lock (arc_opening_key (all_entries known) a u.lock) key ready.partys.party
      (can_put_onto d w.party u.lock a (all_entries known) ready.sized ready.partys.party (λ c lt. legal_at d w known c ready lt) s.1) e

  -- a hashkey that is signed for a due unlock
  pub due_whole : (u : UnlockDue) (key : Hashkey) → IsSeenBase d w.party (all_entries known) u.lock u.base → due_hashkey d w (all_entries known) u ≡ Some key
      → (k : Hashkey) → unsigned_key w.signed (Unlock key) ≡ Some k → IsWholeKey d k
  due_whole u key s e k new =
      let f = fresh (signed_hashkey w.signed key.lock) key k new in
      let at : key.lock ≡ u.lock = due_lock d w known ready u key s e in
      let none : signed_hashkey w.signed u.lock ≡ None = ap (signed_hashkey w.signed) (sym at) ∙ f.0 in
      subst (IsWholeKey d) f.1
      (base_whole u u.base s none key (or_none (signed_hashkey w.signed u.lock) (base_key d w (all_entries known) u) key none e))

call_without : (signed : List (Option Hashkey)) (d : Deal) (c : Call) → ((s : ℕ → Option Hashkey) → noted s c ≡ s) → (k : Hashkey)
    → unsigned_key signed c ≡ Some k → IsWholeKey d k
call_without signed d (Unlock key) h k e =
    let gone : cond (key.lock == key.lock) (Some key) None ≡ None = ap (λ (f : ℕ → Option Hashkey). f key.lock) (h (λ i. None)) in
    let here : cond (key.lock == key.lock) (Some key) None ≡ Some key =
    ap (λ (b : Bool). cond b (Some key) None) (eq-eqb key.lock key.lock refl) in
    absurd (cc (sym here ∙ gone))
call_without signed d (Publish terms) h k e = absurd (cc e)
call_without signed d Claim h k e = absurd (cc e)
call_without signed d Refund h k e = absurd (cc e)
call_without signed d (Transfer to units) h k e = absurd (cc e)

-- a call that carries no hashkey signs none
pub none_whole : (signed : List (Option Hashkey)) (d : Deal) (o : Option (ℕ × Call)) → ((s : ℕ → Option Hashkey) → noted_if_called s o ≡ s) → (k : Hashkey)
    → new_key signed (option_map due_action o) ≡ Some k → IsWholeKey d k
none_whole signed d None h k e = absurd (cc e)
none_whole signed d (Some x) h k e = call_without signed d x.1 h k e
