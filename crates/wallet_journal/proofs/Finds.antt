-- What opening a journal finds.
use Rattle.std.proofs.Common.{◌≡◌, ◌==◌, ℕ, ◌<◌, ◌≤◌, Bool, true, false, ◌↔◌, List, length, map, Some, None, sym, ◌∙◌, ap, arith, Option}
use Rattle.std.proofs.Common.{Result, Ok, Err, IfOk, IfErr, OnOk, subst}
use Rattle.std.specs.List.{range_with_len}
use Rattle.swap_digraph.specs.declared.deal.Deal.{Deal}
use Rattle.swap_digraph.specs.Deal.{path_limit}
use Rattle.hashkey_path.specs.declared.hashkey.Hashkey.{Hashkey}
use Rattle.wallet_journal.specs.Device.{Write, IsStill, slice}
use Rattle.wallet_journal.specs.Layout.{is_made, journal_deal_id, journal_party, recorded}
use Rattle.wallet_journal.specs.Journal.{KeepsRecorded, IsKeptJournal, IsUnused, listed_hashkey}
use Rattle.wallet_journal.specs.Opening.{is_damaged_contents, IsLeastDamaged, IsPartyJournal, IsFit, IsUnfit, IsOpenFault, IsOpened}
use Rattle.wallet_journal.specs.OwnDisks.{IsOwn, IsInOpening}
use Rattle.wallet_journal.specs.declared.fault.Unopened.{Unopened}
use Rattle.wallet_journal.specs.declared.fault.Unopened.TheVariants.{DiskFault, Foreign, Damaged, NoMemory}
use Rattle.wallet_journal.proofs.Bytes.{front}
use Rattle.wallet_journal.proofs.Head.{byte_in}
use Rattle.wallet_journal.proofs.Crash.{unmade, undamaged}
use Rattle.wallet_journal.proofs.Locks.{shown_of, shown_length}

pub unfit : (d : Deal) (me : ℕ) (bytes : List ℕ) (e : Unopened) → IsPartyJournal d me bytes → IsLeastDamaged (path_limit d) d.graph.n bytes (length d.leaders) e
    → IsUnfit d me bytes e
unfit d me bytes DiskFault own h = h
unfit d me bytes NoMemory own h = tt
unfit d me bytes Foreign own h = absurd h
unfit d me bytes (Damaged j) own h = (own, h.0, h.1, h.2)

pub fit_of : (d : Deal) (me : ℕ) (b bytes : List ℕ) → b ≡ bytes → IsPartyJournal d me bytes → ((i : ℕ) → i < length d.leaders → is_damaged_contents d b i ≡ false)
    → IsFit d me bytes
fit_of d me b bytes is own sound = record { own = own; sound = λ i lt. ap (λ (c : List ℕ). is_damaged_contents d c i) (sym is) ∙ sound i lt }

pub unfit_fault : (d : Deal) (me : ℕ) (bytes : List ℕ) (before now : ℕ) (e : Unopened) → is_made bytes ≡ true → IsUnfit d me bytes e
    → IsOpenFault d me bytes before now e
unfit_fault d me bytes before now DiskFault made h = absurd h
unfit_fault d me bytes before now NoMemory made h = tt
unfit_fault d me bytes before now Foreign made h = (made, h)
unfit_fault d me bytes before now (Damaged j) made h = (made, h)

-- a body's fault, of bytes that were read
pub damage_fault : {T : Type 0} (d : Deal) (me : ℕ) (b bytes : List ℕ) (before now : ℕ) (r : Result T Unopened) → b ≡ bytes → is_made bytes ≡ true
    → IsPartyJournal d me bytes
    → IfErr r (IsLeastDamaged (path_limit d) d.graph.n b (length d.leaders)) → IfErr r (IsOpenFault d me bytes before now)
damage_fault d me b bytes before now (Ok x) is made own h = tt
damage_fault d me b bytes before now (Err e) is made own h =
    unfit_fault d me bytes before now e made (unfit d me bytes e own (subst (λ (c : List ℕ). IsLeastDamaged (path_limit d) d.graph.n c (length d.leaders) e)
    is h))

-- a journal that was found
pub found_kept : (d : Deal) (me : ℕ) (bytes : List ℕ) (may_leave : List ℕ → Type 0) (loose : List Write) (s : List (Option Hashkey))
    → IsStill bytes may_leave loose → is_made bytes ≡ true → IsFit d me bytes
    → length d.leaders ≤ 8 → s ≡ map (recorded bytes) (range_with_len 0 (length d.leaders)) → IsKeptJournal bytes may_leave loose d.id me s
found_kept d me bytes may_leave loose s still made fit few is =
    let n = length d.leaders in
    let long : length s ≡ n = ap length is ∙ shown_length bytes n in
    record {
      still = still;
      made = made;
      id_there = fit.own.0;
      party_there = fit.own.1;
      shown = λ i lt. ap (λ (l : List (Option Hashkey)). listed_hashkey l i) is ∙ shown_of bytes n i (omega (arith, lt, long));
      few = omega (arith, long, few);
    }

pub found_opened : (d : Deal) (me : ℕ) (bytes : List ℕ) (s : List (Option Hashkey)) → IsFit d me bytes
    → s ≡ map (recorded bytes) (range_with_len 0 (length d.leaders)) → IsOpened d me bytes s
found_opened d me bytes s fit is =
    let n = length d.leaders in
    let long : length s ≡ n = ap length is ∙ shown_length bytes n in
    record {
      fit = λ made. fit;
      locks = long;
      shown = λ i lt. ap (λ (l : List (Option Hashkey)). listed_hashkey l i) is ∙ shown_of bytes n i (omega (arith, lt, long));
    }

-- what a head says is what the disk says
module _ (bytes head : List ℕ) (is : head ≡ slice 0 42 bytes) where
  pub head_made : is_made head ≡ is_made bytes
  head_made = ap is_made is ∙ ap (λ (b : ℕ). b == 1) (sym (byte_in bytes 0 42 0 (omega arith)))

  pub head_id : journal_deal_id head ≡ journal_deal_id bytes
  head_id = ap journal_deal_id is ∙ front 1 32 42 bytes (omega arith)

  pub head_party : journal_party head ≡ journal_party bytes
  head_party = ap journal_party is ∙ sym (byte_in bytes 0 42 33 (omega arith))

  pub head_of_deal : (d : Deal) (me : ℕ) → IsPartyJournal d me head → IsPartyJournal d me bytes
  head_of_deal d me own = (sym head_id ∙ own.0, sym head_party ∙ own.1)

  pub head_foreign : (d : Deal) (me : ℕ) → ¬ IsPartyJournal d me head → ¬ IsPartyJournal d me bytes
  head_foreign d me no_head own = no_head (head_id ∙ own.0, head_party ∙ own.1)

-- where nothing was recorded, all that was is kept
keeps_none : (outcomes : List ℕ → Type 0) (old c : List ℕ) → outcomes old → is_made old ≡ false → KeepsRecorded outcomes c
keeps_none outcomes old c among none i k lt all = absurd (apart (sym (all old among) ∙ unmade old i none))
  where
    apart : Some k ≡ None → ⊥
    apart e = cc e

-- a test that failed
pub not_there : {P : Type 0} (b : Bool) → (b ≡ true) ↔ P → b ≡ false → ¬ P
not_there b is fails p = apart (sym fails ∙ is.1 p)
  where
    apart : false ≡ true → ⊥
    apart e = cc e

-- what might have been left before
pub there : (d : Deal) (me : ℕ) (outcomes : List ℕ → Type 0) (c : List ℕ) → outcomes c → IsInOpening d me outcomes c
there d me outcomes c here = record { keeps = λ i k lt all. all c here; own = λ all. all c here }

-- a disk that has nothing recorded is of any deal whose journals are made there
unused_own : (d : Deal) (me : ℕ) (c : List ℕ) → IsUnused d.id me c → IsOwn d me c
unused_own d me c unused = record { partys = unused.partys; sound = λ i lt. undamaged (path_limit d) d.graph.n c i (unused.none i lt) }

-- what is left while a journal is made
pub unused_there : (d : Deal) (me : ℕ) (outcomes : List ℕ → Type 0) (old c : List ℕ) → outcomes old → is_made old ≡ false → IsUnused d.id me c
    → IsInOpening d me outcomes c
unused_there d me outcomes old c among none unused = record { keeps = keeps_none outcomes old c among none; own = λ all. unused_own d me c unused }

pub both_ok : {T E : Type 0} (r : Result T E) (P R : T → Type 0) (Q : Type 0) → IfOk r P → OnOk r Q → ((x : T) → P x → Q → R x) → IfOk r R
both_ok (Ok x) P R Q p q f = f x p q
both_ok (Err e) P R Q p q f = tt
