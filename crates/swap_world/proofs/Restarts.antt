-- What a party's journal has after its act was stopped and its disk crashed.
use Rattle.std.proofs.Common.{◌≡◌, ◌≢◌, ◌⊎◌, inl, inr, ℕ, ◌<◌, ◌≤◌, ◌==◌, Bool, true, false, cond, List, [], length, Option, Some, None, is_some}
use Rattle.std.proofs.Common.{option_map, refl, sym, ap, ◌∙◌, subst, arith, eqb-true, eq-eqb}
use Rattle.std.proofs.lemmas.List.{ext_get_or}
use Rattle.hashkey_path.specs.declared.hashkey.Hashkey.{Hashkey}
use Rattle.ledger_core.specs.declared.entry.Call.{Call}
use Rattle.ledger_core.specs.declared.entry.Call.TheVariants.{Publish, Unlock, Claim, Refund, Transfer}
use Rattle.ledger_core.proofs.History.{not-true}
use Rattle.swap_rules.specs.Machine.{noted}
use Rattle.swap_rules.proofs.Prefixes.{same_or_not}
use Rattle.swap_rules.specs.Due.{Action}
use Rattle.party_wallet.specs.Value.{signed_hashkey}
use Rattle.std.proofs.lemmas.Option.{same_Some}
use Rattle.party_machine.specs.Machine.{MachineState, due_action, next_due, noted_if_called}
use Rattle.party_machine.specs.Recording.{unsigned_key, new_key, signs_next, MayHave, IsCallPlaced}
use Rattle.party_machine.proofs.Whole.{fresh}
use Rattle.party_machine.proofs.Recorded.{answer_placed}
use Rattle.wallet_journal.specs.Device.{Write}
use Rattle.std.specs.List.{AllByRecursion}
use Rattle.wallet_journal.specs.Held.{Held, IsOnDisk, Leaves, MayBeLeft, after_writes, synced_bytes, visible_bytes}
use Rattle.wallet_journal.specs.Memory.{DiskState}
use Rattle.wallet_journal.specs.Layout.{recorded}
use Rattle.wallet_journal.specs.Stopped.{is_kept_after_crash, kept_key, IsOfWrites, IsWrittenUp}
use Rattle.swap_run.specs.Run.{signed_through_call, recorded_hashkeys}
use Rattle.swap_run.proofs.Noted.{signed_below, signed_length}

-- lists that are equal at each place
same_signed : (xs ys : List (Option Hashkey)) → length xs ≡ length ys → ((i : ℕ) → i < length xs → signed_hashkey xs i ≡ signed_hashkey ys i) → xs ≡ ys
same_signed xs ys l e = ext_get_or None xs ys l e

-- Where nothing is signed.

taken : (o : Option Hashkey) (key : Hashkey) → ((k : Hashkey) → o ≡ Some k → k ≡ key) → cond (is_some o) None (Some key) ≡ None → o ≡ Some key
taken None key f n = absurd (cc n)
taken (Some l) key f n = ap (λ (k : Hashkey). Some k) (f l refl)

noted_again : (old : List (Option Hashkey)) (c : Call) → IsCallPlaced old c → unsigned_key old c ≡ None → (i : ℕ) → noted (signed_hashkey old) c i ≡ signed_hashkey old i
noted_again old (Unlock key) p n i = go (i == key.lock) refl
  where
    go : (b : Bool) → (i == key.lock) ≡ b → cond (i == key.lock) (Some key) (signed_hashkey old i) ≡ signed_hashkey old i
    go true e =
        ap (λ (b : Bool). cond b (Some key) (signed_hashkey old i)) e
        ∙ sym (ap (signed_hashkey old) (eqb-true i key.lock e) ∙ taken (signed_hashkey old key.lock) key p.1 n)
    go false e = ap (λ (b : Bool). cond b (Some key) (signed_hashkey old i)) e
noted_again old (Publish terms) p n i = refl
noted_again old Claim p n i = refl
noted_again old Refund p n i = refl
noted_again old (Transfer to units) p n i = refl

pub signs_nothing : (old : List (Option Hashkey)) (c : Call) → IsCallPlaced old c → unsigned_key old c ≡ None → signed_through_call old c ≡ old
signs_nothing old c p n =
    same_signed (signed_through_call old c) old (signed_length old c)
    (λ i lt. signed_below old c i (subst (λ m. i < m) (signed_length old c) lt) ∙ noted_again old c p n i)

module _ (old after : List (Option Hashkey)) (k image : ℕ) (as_long : length after ≡ length old) (bytes : List ℕ)
    (shown : (i : ℕ) → i < length after → signed_hashkey after i ≡ recorded bytes i) where
  low : (i : ℕ) → i < length after → i < length old
  low i lt = subst (λ m. i < m) as_long lt

  stays : (o : Option Action) → ((x : Action) → o ≡ Some x → signed_through_call old x.call ≡ old) → recorded_hashkeys old o k image ≡ old
  stays None f = refl
  stays (Some x) f = go (is_kept_after_crash k image)
    where
      go : (b : Bool) → cond b (signed_through_call old x.call) old ≡ old
      go true = f x refl
      go false = refl

  pub nothing_recorded : (o : Option Action) → ((x : Action) → o ≡ Some x → signed_through_call old x.call ≡ old)
      → ((i : ℕ) → i < length old → recorded bytes i ≡ signed_hashkey old i) → after ≡ recorded_hashkeys old o k image
  nothing_recorded o f has = same_signed after old as_long (λ i lt. shown i lt ∙ has i (low i lt)) ∙ sym (stays o f)

  -- Where a hashkey is signed.

  module _ (x : Action) (key : Hashkey) (call : x.call ≡ Unlock key) (none : signed_hashkey old key.lock ≡ None)
      (here : recorded bytes key.lock ≡ kept_key key k image)
      (others : (i : ℕ) → i < length old → i ≢ key.lock → recorded bytes i ≡ signed_hashkey old i) where
    at : (i : ℕ) → i < length old → (b : Bool) → is_kept_after_crash k image ≡ b → (i ≡ key.lock) ⊎ (i ≢ key.lock)
        → recorded bytes i ≡ signed_hashkey (cond b (signed_through_call old x.call) old) i
    at i lt true kept (inl e) =
        let mine : kept_key key k image ≡ Some key = ap (λ (b : Bool). cond b (Some key) None) kept in
        let new : signed_hashkey (signed_through_call old x.call) i ≡ Some key =
        signed_below old x.call i lt ∙ ap (λ (c : Call). noted (signed_hashkey old) c i) call
        ∙ ap (λ (b : Bool). cond b (Some key) (signed_hashkey old i)) (eq-eqb i key.lock e) in
        ap (recorded bytes) e ∙ here ∙ mine ∙ sym new
    at i lt true kept (inr n) =
        let new : signed_hashkey (signed_through_call old x.call) i ≡ signed_hashkey old i =
        signed_below old x.call i lt ∙ ap (λ (c : Call). noted (signed_hashkey old) c i) call
        ∙ ap (λ (b : Bool). cond b (Some key) (signed_hashkey old i)) (not-true (i == key.lock) (λ t. n (eqb-true i key.lock t))) in
        others i lt n ∙ sym new
    at i lt false kept (inl e) =
        let mine : kept_key key k image ≡ None = ap (λ (b : Bool). cond b (Some key) None) kept in
        ap (recorded bytes) e ∙ here ∙ mine ∙ sym (ap (signed_hashkey old) e ∙ none)
    at i lt false kept (inr n) = others i lt n

    length_of : (b : Bool) → length (cond b (signed_through_call old x.call) old) ≡ length old
    length_of true = signed_length old x.call
    length_of false = refl

    pub one_recorded : after ≡ recorded_hashkeys old (Some x) k image
    one_recorded =
        same_signed after (recorded_hashkeys old (Some x) k image) (as_long ∙ sym (length_of (is_kept_after_crash k image)))
        (λ i lt. shown i lt ∙ at i (low i lt) (is_kept_after_crash k image) refl (same_or_not i key.lock))

-- From what a party was due to call.

key_call : (signed : List (Option Hashkey)) (c : Call) (key : Hashkey) → unsigned_key signed c ≡ Some key
    → (c ≡ Unlock key) × (signed_hashkey signed key.lock ≡ None)
key_call signed (Unlock l) key e =
    let f = fresh (signed_hashkey signed l.lock) l key e in
    (ap (λ (k : Hashkey). Unlock k) f.1, ap (λ (k : Hashkey). signed_hashkey signed k.lock) (sym f.1) ∙ f.0)
key_call signed (Publish terms) key e = absurd (cc e)
key_call signed Claim key e = absurd (cc e)
key_call signed Refund key e = absurd (cc e)
key_call signed (Transfer to units) key e = absurd (cc e)

pub seen_left : (h : Held) → h.loose ≡ [] → Leaves h (visible_bytes h)
seen_left h settled = subst (λ (ws : List Write). MayBeLeft (synced_bytes h) ws (after_writes (synced_bytes h) ws)) (sym settled) refl

-- an answer that signs nothing
pub answer_calm : (m new : MachineState) (o : Option (ℕ × Call)) → option_map due_action o ≡ next_due m
    → signed_hashkey new.signed ≡ noted_if_called (signed_hashkey m.signed) o
    → ((i : ℕ) (k : Hashkey) → signed_hashkey m.signed i ≡ Some k → signed_hashkey new.signed i ≡ Some k) → length new.signed ≡ length m.signed
    → signs_next m ≡ None → (x : Action) → next_due m ≡ Some x → signed_through_call m.signed x.call ≡ m.signed
answer_calm m new None due signed once places none x is = absurd (cc (due ∙ is))
answer_calm m new (Some y) due signed once places none x is =
    let same : due_action y ≡ x = same_Some (due_action y) x (due ∙ is) in
    let call : y.1 ≡ x.call = ap (λ (z : Action). z.call) same in
    let at : IsCallPlaced m.signed y.1 = answer_placed m.signed m.signed new.signed (Some y) refl signed once places in
    let nothing : unsigned_key m.signed x.call ≡ None = ap (new_key m.signed) (sym is) ∙ none in
    signs_nothing m.signed x.call (subst (IsCallPlaced m.signed) call at) nothing

-- a disk all of whose writes are synced reads as they do
pub reads_as : (h : Held) → AllByRecursion IsOnDisk h.synced → h.loose ≡ [] → IsOfWrites (visible_bytes h) h.synced
reads_as h on settled = record { on = on; reads = ap (after_writes (synced_bytes h)) settled }

-- what the journal shows after the crash is what the run says
module _ (m : MachineState) (after : List (Option Hashkey)) (d : DiskState) (k image : ℕ) (bytes : List ℕ) (up : IsWrittenUp d m.signed)
    (as_long : length after ≡ length m.signed) (few : length m.signed ≤ 8)
    (shown : (i : ℕ) → i < length after → signed_hashkey after i ≡ recorded bytes i)
    (whole : Leaves d.held bytes ⊎ MayHave (visible_bytes d.held) (signs_next m) bytes)
    (left : (key : Hashkey) → signs_next m ≡ Some key → recorded bytes key.lock ≡ kept_key key k image)
    (calm : signs_next m ≡ None → (x : Action) → next_due m ≡ Some x → signed_through_call m.signed x.call ≡ m.signed) where
  none_new : signs_next m ≡ None → after ≡ recorded_hashkeys m.signed (next_due m) k image
  none_new none =
      nothing_recorded m.signed after k image as_long bytes shown (next_due m) (calm none) (λ i lt. go i lt whole)
    where
      go : (i : ℕ) → i < length m.signed → Leaves d.held bytes ⊎ MayHave (visible_bytes d.held) (signs_next m) bytes → recorded bytes i ≡ signed_hashkey m.signed i
      go i lt (inl was) = up.shown i lt bytes was
      go i lt (inr may) = absurd (subst (λ (o : Option Hashkey). MayHave (visible_bytes d.held) o bytes) none may)

  some_new : (x : Action) (key : Hashkey) → next_due m ≡ Some x → signs_next m ≡ Some key → unsigned_key m.signed x.call ≡ Some key
      → after ≡ recorded_hashkeys m.signed (Some x) k image
  some_new x key is signs new =
      let c = key_call m.signed x.call key new in
      one_recorded m.signed after k image as_long bytes shown x key c.0 c.1 (left key signs) (λ i lt n. go i lt n whole)
    where
      at : (i : ℕ) → i < length m.signed → i ≢ key.lock → (recorded bytes i ≡ recorded (visible_bytes d.held) i) ⊎ ((i ≡ key.lock) × (recorded bytes i ≡ Some key))
          → recorded bytes i ≡ signed_hashkey m.signed i
      at i lt n (inl same) = same ∙ up.shown i lt (visible_bytes d.held) (seen_left d.held up.settled)
      at i lt n (inr new) = absurd (n new.0)

      go : (i : ℕ) → i < length m.signed → i ≢ key.lock → Leaves d.held bytes ⊎ MayHave (visible_bytes d.held) (signs_next m) bytes
          → recorded bytes i ≡ signed_hashkey m.signed i
      go i lt n (inl was) = up.shown i lt bytes was
      go i lt n (inr may) =
          at i lt n (subst (λ (o : Option Hashkey). MayHave (visible_bytes d.held) o bytes) signs may i (omega (arith, lt, few)))

  by_call : (x : Action) → next_due m ≡ Some x → (o : Option Hashkey) → unsigned_key m.signed x.call ≡ o
      → after ≡ recorded_hashkeys m.signed (next_due m) k image
  by_call x is None new = none_new (ap (new_key m.signed) is ∙ new)
  by_call x is (Some key) new =
      some_new x key is (ap (new_key m.signed) is ∙ new) new ∙ ap (λ (o : Option Action). recorded_hashkeys m.signed o k image) (sym is)

  pub recorded_as : (o : Option Action) → next_due m ≡ o → after ≡ recorded_hashkeys m.signed (next_due m) k image
  recorded_as None is = none_new (ap (new_key m.signed) is)
  recorded_as (Some x) is = by_call x is (unsigned_key m.signed x.call) refl
