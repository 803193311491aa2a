-- What is recorded before a call is answered, and what stays.
use Rattle.std.proofs.Common.{◌≡◌, ◌⊎◌, ℕ, zero, suc, ◌<◌, ◌≤◌, Bool, cond, List, [], ◌∷◌, length, set, Option, Some, None, is_some, option_map}
use Rattle.std.proofs.Common.{Result, Ok, Err, IfErr, refl, sym, ap, ◌∙◌, subst, inl, inr, arith, eq-eqb}
use Rattle.std.proofs.lemmas.List.{length-set, get_or-set_same}
use Rattle.std.proofs.lemmas.Option.{same_Some}
use Rattle.swap_digraph.specs.declared.deal.Deal.{Deal}
use Rattle.swap_digraph.specs.declared.deal.Version.{Version}
use Rattle.swap_digraph.specs.declared.deal.Version.TheVariants.{One, Two}
use Rattle.swap_digraph.specs.Deal.{version_path_limit}
use Rattle.hashkey_path.specs.declared.hashkey.Hashkey.{Hashkey}
use Rattle.ledger_core.specs.declared.entry.Call.{Call}
use Rattle.ledger_core.specs.declared.entry.Call.TheVariants.{Publish, Unlock, Claim, Refund, Transfer}
use Rattle.swap_rules.specs.Machine.{noted}
use Rattle.party_wallet.specs.Value.{signed_hashkey}
use Rattle.wallet_journal.specs.Device.{LeavesOnly}
use Rattle.wallet_journal.specs.Layout.{recorded}
use Rattle.wallet_journal.specs.Journal.{MayHaveRecorded}
use Rattle.wallet_journal.specs.OwnDisks.{FitsDeal}
use Rattle.party_machine.specs.Machine.{MachineState, due_action, next_due, noted_if_called}
use Rattle.party_machine.specs.Recording.{unsigned_key, new_key, signs_next, MayHave, IsCallPlaced, IsPlaced, IsCallRecorded, IsRecorded}
use Rattle.party_machine.proofs.Signed.{set_again, is_noted}
use Rattle.party_machine.proofs.Whole.{fresh}

-- what holds of each fault
pub of_any : {A E : Type 0} {P : E → Type 0} (r : Result A E) → ((e : E) → P e) → IfErr r P
of_any (Ok x) f = tt
of_any (Err e) f = f e

-- where a list has something, there is a place
pub below : (xs : List (Option Hashkey)) (i : ℕ) (k : Hashkey) → signed_hashkey xs i ≡ Some k → i < length xs
below [] i k is = absurd (cc is)
below (x ∷ xs) zero k is = omega arith
below (x ∷ xs) (suc i) k is = let le = below xs i k is in omega (arith, le)

-- lists that are equal at each place
by_places : (xs ys : List (Option Hashkey)) → length xs ≡ length ys → signed_hashkey xs ≡ signed_hashkey ys → xs ≡ ys
by_places [] [] l e = refl
by_places [] (y ∷ ys) l e = absurd (cc l)
by_places (x ∷ xs) [] l e = absurd (cc l)
by_places (x ∷ xs) (y ∷ ys) l e =
    let head : x ≡ y = ap (λ (f : ℕ → Option Hashkey). f 0) e in
    let rest : signed_hashkey xs ≡ signed_hashkey ys = ap {B = ℕ → Option Hashkey} (λ (f : ℕ → Option Hashkey) (i : ℕ). f (suc i)) e in
    let tail : xs ≡ ys = by_places xs ys (omega (arith, l)) rest in
    λ i. head i ∷ tail i

-- the hashkey that was noted last
noted_here : (old new : List (Option Hashkey)) (key : Hashkey) → signed_hashkey new ≡ noted (signed_hashkey old) (Unlock key) → signed_hashkey new key.lock ≡ Some key
noted_here old new key e =
    ap (λ (f : ℕ → Option Hashkey). f key.lock) e
    ∙ ap (λ (b : Bool). cond b (Some key) (signed_hashkey old key.lock)) (eq-eqb key.lock key.lock refl)

call_placed : (old new : List (Option Hashkey)) (c : Call) → signed_hashkey new ≡ noted (signed_hashkey old) c
    → ((i : ℕ) (k : Hashkey) → signed_hashkey old i ≡ Some k → signed_hashkey new i ≡ Some k) → length new ≡ length old → IsCallPlaced old c
call_placed old new (Unlock key) e once places =
    let here = noted_here old new key e in
    (subst (λ (n : ℕ). key.lock < n) places (below new key.lock key here), λ k h. same_Some k key (sym (once key.lock k h) ∙ here))
call_placed old new (Publish terms) e once places = tt
call_placed old new Claim e once places = tt
call_placed old new Refund e once places = tt
call_placed old new (Transfer to units) e once places = tt

placed : (old new : List (Option Hashkey)) (o : Option (ℕ × Call)) → signed_hashkey new ≡ noted_if_called (signed_hashkey old) o
    → ((i : ℕ) (k : Hashkey) → signed_hashkey old i ≡ Some k → signed_hashkey new i ≡ Some k) → length new ≡ length old → IsPlaced old o
placed old new None e once places = tt
placed old new (Some x) e once places = call_placed old new x.1 e once places

-- what was signed, with a hashkey in its place
with_key : (old new : List (Option Hashkey)) (key : Hashkey) → signed_hashkey new ≡ noted (signed_hashkey old) (Unlock key) → length new ≡ length old
    → key.lock < length old → set old key.lock (Some key) ≡ new
with_key old new key e places lt =
    by_places (set old key.lock (Some key)) new (length-set old key.lock (Some key) ∙ sym places) (is_noted old key.lock key lt refl ∙ sym e)

taken : (o : Option Hashkey) (key : Hashkey) → ((k : Hashkey) → o ≡ Some k → k ≡ key) → cond (is_some o) None (Some key) ≡ None → o ≡ Some key
taken None key f n = absurd (cc n)
taken (Some l) key f n = ap (λ (k : Hashkey). Some k) (f l refl)

call_stays : (old new : List (Option Hashkey)) (c : Call) → signed_hashkey new ≡ noted (signed_hashkey old) c → length new ≡ length old → IsCallPlaced old c
    → unsigned_key old c ≡ None → old ≡ new
call_stays old new (Unlock key) e places p n =
    sym (set_again old key.lock key (taken (signed_hashkey old key.lock) key p.1 n)) ∙ with_key old new key e places p.0
call_stays old new (Publish terms) e places p n = by_places old new (sym places) (sym e)
call_stays old new Claim e places p n = by_places old new (sym places) (sym e)
call_stays old new Refund e places p n = by_places old new (sym places) (sym e)
call_stays old new (Transfer to units) e places p n = by_places old new (sym places) (sym e)

-- where no hashkey is new, what was signed stays as it is
stays_signed : (old new : List (Option Hashkey)) (o : Option (ℕ × Call)) → signed_hashkey new ≡ noted_if_called (signed_hashkey old) o → length new ≡ length old
    → IsPlaced old o → new_key old (option_map due_action o) ≡ None → old ≡ new
stays_signed old new None e places p n = by_places old new (sym places) (sym e)
stays_signed old new (Some x) e places p n = call_stays old new x.1 e places p n

-- A new hashkey, as it is to be recorded.
pub record IsNew (old new : List (Option Hashkey)) (k : Hashkey) : Type 0 where
  pub lock : k.lock < length old
  pub none : signed_hashkey old k.lock ≡ None
  pub gained : set old k.lock (Some k) ≡ new

new_call : (old new : List (Option Hashkey)) (c : Call) (k : Hashkey) → signed_hashkey new ≡ noted (signed_hashkey old) c → length new ≡ length old
    → IsCallPlaced old c → unsigned_key old c ≡ Some k → IsNew old new k
new_call old new (Unlock key) k e places p n =
    let f = fresh (signed_hashkey old key.lock) key k n in
    subst (IsNew old new) f.1 (record { lock = p.0; none = f.0; gained = with_key old new key e places p.0 })
new_call old new (Publish terms) k e places p n = absurd (cc n)
new_call old new Claim k e places p n = absurd (cc n)
new_call old new Refund k e places p n = absurd (cc n)
new_call old new (Transfer to units) k e places p n = absurd (cc n)

is_new : (old new : List (Option Hashkey)) (o : Option (ℕ × Call)) (k : Hashkey) → signed_hashkey new ≡ noted_if_called (signed_hashkey old) o → length new ≡ length old
    → IsPlaced old o → new_key old (option_map due_action o) ≡ Some k → IsNew old new k
is_new old new None k e places p n = absurd (cc n)
is_new old new (Some x) k e places p n = new_call old new x.1 k e places p n

call_carried : (outcomes : List ℕ → Type 0) (old : List (Option Hashkey)) (c : Call) (k : Hashkey) → unsigned_key old c ≡ Some k
    → ((e : List ℕ) → outcomes e → recorded e k.lock ≡ Some k) → IsCallRecorded outcomes c
call_carried outcomes old (Unlock key) k n h =
    let f = fresh (signed_hashkey old key.lock) key k n in
    subst (λ (x : Hashkey). (e : List ℕ) → outcomes e → recorded e x.lock ≡ Some x) (sym f.1) h
call_carried outcomes old (Publish terms) k n h = tt
call_carried outcomes old Claim k n h = tt
call_carried outcomes old Refund k n h = tt
call_carried outcomes old (Transfer to units) k n h = tt

-- where the new hashkey is recorded, the answer's is
pub carried : (outcomes : List ℕ → Type 0) (old : List (Option Hashkey)) (o : Option (ℕ × Call)) (k : Hashkey)
    → Some k ≡ new_key old (option_map due_action o)
    → ((e : List ℕ) → outcomes e → recorded e k.lock ≡ Some k) → IsRecorded outcomes o
carried outcomes old None k n h = tt
carried outcomes old (Some x) k n h = call_carried outcomes old x.1 k (sym n) h

-- A machine's answer beside a journal that has what the machine signed.
module _ (mine theirs new : List (Option Hashkey)) (o : Option (ℕ × Call)) (same : theirs ≡ mine) (signed : signed_hashkey new ≡ noted_if_called (signed_hashkey mine) o)
    (once : (i : ℕ) (k : Hashkey) → signed_hashkey mine i ≡ Some k → signed_hashkey new i ≡ Some k) (places : length new ≡ length mine) where
  noted_theirs : signed_hashkey new ≡ noted_if_called (signed_hashkey theirs) o
  noted_theirs = signed ∙ ap (λ (l : List (Option Hashkey)). noted_if_called (signed_hashkey l) o) (sym same)

  as_long : length new ≡ length theirs
  as_long = places ∙ ap (λ (l : List (Option Hashkey)). length l) (sym same)

  pub answer_placed : IsPlaced theirs o
  answer_placed =
      placed theirs new o noted_theirs (λ i k h. once i k (ap (λ (l : List (Option Hashkey)). signed_hashkey l i) (sym same) ∙ h)) as_long

  pub answer_stays : (r : Option Hashkey) → r ≡ new_key theirs (option_map due_action o) → r ≡ None → theirs ≡ new
  answer_stays r is none = stays_signed theirs new o noted_theirs as_long answer_placed (sym is ∙ none)

  pub answer_new : (k : Hashkey) → Some k ≡ new_key theirs (option_map due_action o) → IsNew theirs new k
  answer_new k is = is_new theirs new o k noted_theirs as_long answer_placed (sym is)

  -- the machine's answer is then signed
  pub answer_signed : (k : Hashkey) → Some k ≡ new_key theirs (option_map due_action o) → signed_hashkey new k.lock ≡ Some k
  answer_signed k is =
      let n = answer_new k is in
      ap (λ (l : List (Option Hashkey)). signed_hashkey l k.lock) (sym n.gained) ∙ get_or-set_same theirs k.lock (Some k) None n.lock

most : (ver : Version) → version_path_limit ver ≤ 32
most One = omega arith
most Two = omega arith

-- the vertices of a hashkey of a deal fit into a journal
pub few_vertices : (d : Deal) (k : Hashkey) → FitsDeal d k → length k.path ≤ 32
few_vertices d k fits = let limit = most d.version in omega (arith, fits.few, limit)

-- the hashkey that a machine signs next, from what it answers
pub signs : (m : MachineState) (signed : List (Option Hashkey)) (o : Option (ℕ × Call)) (r : Option Hashkey) → signed ≡ m.signed
    → option_map due_action o ≡ next_due m → r ≡ new_key signed (option_map due_action o) → signs_next m ≡ r
signs m signed o r same due is = sym (is ∙ (λ i. new_key (same i) (due i)))

-- Crashes.

module _ {D : Type 0} (moment : D → ℕ) (left_since : D → ℕ → List ℕ → Type 0) where
  -- while a hashkey is recorded
  pub may_have : (old new : D) (seen : List ℕ) (may_leave : List ℕ → Type 0) (o : Option Hashkey) (k : Hashkey) → o ≡ Some k
      → LeavesOnly moment left_since old new (MayHaveRecorded seen k) → LeavesOnly moment left_since old new (λ c. may_leave c ⊎ MayHave seen o c)
  may_have old new seen may_leave o k is h = record {
    later = h.later;
    each = λ c left. turn c (h.each c left);
    before = λ t c le left. either c (h.before t c le left);
  }
    where
      turn : (c : List ℕ) → MayHaveRecorded seen k c → may_leave c ⊎ MayHave seen o c
      turn c p = inr (subst (λ (x : Option Hashkey). MayHave seen x c) (sym is) p)

      either : {A : Type 0} (c : List ℕ) → A ⊎ MayHaveRecorded seen k c → A ⊎ (may_leave c ⊎ MayHave seen o c)
      either c (inl was) = inl was
      either c (inr p) = inr (turn c p)
