-- What is read back of a disk, against the hashkeys that a run's party has signed.
use Rattle.std.proofs.Common.{◌≡◌, ◌≢◌, ℕ, zero, suc, ◌≤◌, ◌<◌, Bool, true, false, cond, List, [], ◌++◌, length, drop, Option, Some, None, refl, sym, ◌∙◌, ap}
use Rattle.std.proofs.Common.{subst, arith, zero-add}
use Rattle.std.proofs.lemmas.List.{append-nil, drop_all}
use Rattle.std.proofs.lemmas.List.FromFn.{get_or-map-range_with_len, length-map-range_with_len}
use Rattle.swap_digraph.specs.declared.deal.Deal.{Deal}
use Rattle.hashkey_path.specs.declared.hashkey.Hashkey.{Hashkey}
use Rattle.ledger_core.specs.declared.entry.Call.TheVariants.{Unlock}
use Rattle.party_wallet.specs.Value.{signed_hashkey}
use Rattle.wallet_journal.specs.Device.{Write}
use Rattle.wallet_journal.specs.Layout.{is_gate_open, is_made, recorded}
use Rattle.wallet_journal.specs.Held.{Held, no_bytes, synced_bytes, visible_bytes, Leaves, MayBeLeft}
use Rattle.wallet_journal.specs.Memory.{crashed}
use Rattle.wallet_journal.specs.Stopped.{is_kept_after_crash, kept_key}
use Rattle.swap_rules.specs.Due.{Action}
use Rattle.swap_run.specs.Run.{recorded_hashkeys, signed_through_call}
use Rattle.swap_world.proofs.Restarts.{nothing_recorded, one_recorded}
use Rattle.disk_laws.specs.DiskCalls.{after_disk_calls, begun_calls, IsMadeDisk, CanRecord, ReadsAs, bytes_before, bytes_after, IsReadBehind}
use Rattle.disk_laws.specs.DiskRun.{held_behind, read_back}
use Rattle.disk_laws.specs.AnyRun.{disk_of}
use Rattle.disk_laws.proofs.Torn.{none_size, writes_size}
use Rattle.disk_laws.proofs.Images.{after_parts, after_is_made, within_is_made, rest_is_made, rest_reads, points_are_read, images_are_read}
use Rattle.disk_laws.proofs.Whole.{IsFreshKey}

-- all that a crash leaves of a disk whose writes are all synced
pub left_only : (h : Held) (c : List ℕ) → h.loose ≡ [] → Leaves h c → c ≡ synced_bytes h
left_only h c settled left = subst (λ (ws : List Write). MayBeLeft (synced_bytes h) ws c) settled left

-- The disk has recorded just what was signed.
pub record Tells (d : Deal) (signed : List (Option Hashkey)) (h : Held) : Type 0 where
  pub made : IsMadeDisk h
  pub places : length signed ≡ length d.leaders
  pub shown : (i : ℕ) → i < length d.leaders → recorded (synced_bytes h) i ≡ signed_hashkey signed i

pub read_length : (d : Deal) (bytes : List ℕ) → length (read_back d bytes) ≡ length d.leaders
read_length d bytes = length-map-range_with_len (recorded bytes) 0 (length d.leaders)

pub read_at : (d : Deal) (bytes : List ℕ) (i : ℕ) → i < length d.leaders → signed_hashkey (read_back d bytes) i ≡ recorded bytes i
read_at d bytes i lt = get_or-map-range_with_len (recorded bytes) 0 (length d.leaders) i i None lt (zero-add i)

module _ (d : Deal) (few : length d.leaders ≤ 8) (signed : List (Option Hashkey)) (h : Held) (tells : Tells d signed h) where
  as_long : (bytes : List ℕ) → length (read_back d bytes) ≡ length signed
  as_long bytes = read_length d bytes ∙ sym tells.places

  shown_at : (bytes : List ℕ) (i : ℕ) → i < length (read_back d bytes) → signed_hashkey (read_back d bytes) i ≡ recorded bytes i
  shown_at bytes i lt = read_at d bytes i (subst (λ n. i < n) (read_length d bytes) lt)

  in_deal : (i : ℕ) → i < length signed → i < length d.leaders
  in_deal i lt = subst (λ n. i < n) tells.places lt

  -- bytes that read as they did before
  pub reads_old : (bytes : List ℕ) (o : Option Action) (k image : ℕ) → ((x : Action) → o ≡ Some x → signed_through_call signed x.call ≡ signed)
      → ReadsAs bytes (synced_bytes h) → read_back d bytes ≡ recorded_hashkeys signed o k image
  reads_old bytes o k image calm reads =
      nothing_recorded signed (read_back d bytes) k image (as_long bytes) bytes (shown_at bytes) o calm
      (λ i lt. let low = in_deal i lt in reads i (omega (arith, low, few)) ∙ tells.shown i low)

  module _ (x : Action) (key : Hashkey) (call : x.call ≡ Unlock key) (fresh : IsFreshKey d signed key) where
    pub can_record : CanRecord h key
    can_record = record {
      lock = omega (arith, fresh.lock, few);
      none = tells.shown key.lock fresh.lock ∙ fresh.none;
      few = fresh.few;
      paired = fresh.paired;
      told = fresh.told;
    }

    -- bytes that read as before or as behind the four calls
    pub reads_new : (bytes : List ℕ) (k image : ℕ) (b : Bool) → is_kept_after_crash k image ≡ b
        → ReadsAs bytes (cond b (bytes_after key h) (bytes_before h)) → read_back d bytes ≡ recorded_hashkeys signed (Some x) k image
    reads_new bytes k image b kept reads =
        one_recorded signed (read_back d bytes) k image (as_long bytes) bytes (shown_at bytes) x key call fresh.none (here b kept reads)
        (λ i lt apart. others b reads i (in_deal i lt) apart)
      where
        here : (b : Bool) → is_kept_after_crash k image ≡ b → ReadsAs bytes (cond b (bytes_after key h) (bytes_before h))
            → recorded bytes key.lock ≡ kept_key key k image
        here true kept reads =
            reads key.lock can_record.lock ∙ (after_parts h key tells.made can_record).0 ∙ sym (ap (λ (b : Bool). cond b (Some key) None) kept)
        here false kept reads = reads key.lock can_record.lock ∙ can_record.none ∙ sym (ap (λ (b : Bool). cond b (Some key) None) kept)

        others : (b : Bool) → ReadsAs bytes (cond b (bytes_after key h) (bytes_before h)) → (i : ℕ) → i < length d.leaders → i ≢ key.lock
            → recorded bytes i ≡ signed_hashkey signed i
        others true reads i low apart =
            let lt : i < 8 = omega (arith, low, few) in
            reads i lt ∙ (after_parts h key tells.made can_record).1 i lt apart ∙ tells.shown i low
        others false reads i low apart = reads i (omega (arith, low, few)) ∙ tells.shown i low

    -- the disk behind the act
    pub tells_after : Tells d (signed_through_call signed x.call) (after_disk_calls 4 key h)
    tells_after =
        let read : read_back d (bytes_after key h) ≡ signed_through_call signed x.call = reads_new (bytes_after key h) 2 1 true refl (λ i lt. refl) in
        record {
          made = after_is_made h key tells.made can_record;
          places = ap length (sym read) ∙ read_length d (bytes_after key h);
          shown = λ i lt. sym (read_at d (bytes_after key h) i lt) ∙ ap (λ (l : List (Option Hashkey)). signed_hashkey l i) read;
        }

-- What is read of the bytes that a crash left at some point of an act.
pub record IsReadAs (d : Deal) (signed : List (Option Hashkey)) (next : Option Action) (bytes : List ℕ) : Type 0 where
  pub k : ℕ
  pub image : ℕ
  pub few : k ≤ 3
  pub read : read_back d bytes ≡ recorded_hashkeys signed next k image
  pub sized : length bytes ≡ 549426
  pub made : is_made bytes ≡ true

-- What an act of a party signs.
pub data Acts (d : Deal) (signed : List (Option Hashkey)) (next : Option Action) (key : Option Hashkey) : Type 0 where
  Calm : key ≡ None → ((x : Action) → next ≡ Some x → signed_through_call signed x.call ≡ signed) → Acts d signed next key
  Signs : (x : Action) (new : Hashkey) → next ≡ Some x → key ≡ Some new → x.call ≡ Unlock new → IsFreshKey d signed new → Acts d signed next key

module _ (d : Deal) (few : length d.leaders ≤ 8) (signed : List (Option Hashkey)) (h : Held) (tells : Tells d signed h) (next : Option Action)
    (key : Option Hashkey) where
  -- a crash within call k
  pub crash_reads : Acts d signed next key → (k image : ℕ) → k ≤ 3
      → read_back d (visible_bytes (crashed image (held_behind (begun_calls k) key h))) ≡ recorded_hashkeys signed next k image
  crash_reads (Calm none calm) k image le =
      ap (λ (o : Option Hashkey). read_back d (visible_bytes (crashed image (held_behind (begun_calls k) o h)))) none
      ∙ reads_old d few signed h tells (visible_bytes (crashed image h)) next k image calm (λ i lt. ap (λ (b : List ℕ). recorded b i) (rest_reads h image tells.made))
  crash_reads (Signs x new is some call fresh) k image le =
      ap (λ (o : Option Hashkey). read_back d (visible_bytes (crashed image (held_behind (begun_calls k) o h)))) some
      ∙ reads_new d few signed h tells x new call fresh (visible_bytes (crashed image (after_disk_calls (begun_calls k) new h))) k image
      (is_kept_after_crash k image) refl
      (images_are_read h new k image tells.made (can_record d few signed h tells x new call fresh) (omega (arith, le)))
      ∙ ap (λ (o : Option Action). recorded_hashkeys signed o k image) (sym is)

  crash_made : Acts d signed next key → (k image : ℕ) → k ≤ 3 → IsMadeDisk (crashed image (held_behind (begun_calls k) key h))
  crash_made (Calm none calm) k image le =
      subst (λ (o : Option Hashkey). IsMadeDisk (crashed image (held_behind (begun_calls k) o h))) (sym none) (rest_is_made h image tells.made)
  crash_made (Signs x new is some call fresh) k image le =
      subst (λ (o : Option Hashkey). IsMadeDisk (crashed image (held_behind (begun_calls k) o h))) (sym some)
      (within_is_made h new k image tells.made (can_record d few signed h tells x new call fresh))

  -- the disk after the crash
  pub tells_crashed : Acts d signed next key → (k image : ℕ) → k ≤ 3
      → Tells d (recorded_hashkeys signed next k image) (crashed image (held_behind (begun_calls k) key h))
  tells_crashed acts k image le =
      let bytes = visible_bytes (crashed image (held_behind (begun_calls k) key h)) in
      let read = crash_reads acts k image le in
      record {
        made = crash_made acts k image le;
        places = ap length (sym read) ∙ read_length d (visible_bytes (crashed image (held_behind (begun_calls k) key h)));
        shown = λ i lt. sym (read_at d (visible_bytes (crashed image (held_behind (begun_calls k) key h))) i lt)
            ∙ ap (λ (l : List (Option Hashkey)). signed_hashkey l i) read;
      }

  -- the disk after the act
  pub tells_act : Acts d signed next key → (signed' : List (Option Hashkey)) → ((x : Action) → next ≡ Some x → signed' ≡ signed_through_call signed x.call)
      → (next ≡ None → signed' ≡ signed) → Tells d signed' (held_behind 4 key h)
  tells_act (Calm none calm) signed' some' none' =
      let same : signed' ≡ signed = go next refl in
      subst (λ (o : Option Hashkey). Tells d signed' (held_behind 4 o h)) (sym none) (subst (λ (l : List (Option Hashkey)). Tells d l h) (sym same) tells)
    where
      go : (o : Option Action) → next ≡ o → signed' ≡ signed
      go None e = none' e
      go (Some x) e = some' x e ∙ calm x e
  tells_act (Signs x new is some call fresh) signed' some' none' =
      subst (λ (o : Option Hashkey). Tells d signed' (held_behind 4 o h)) (sym some)
      (subst (λ (l : List (Option Hashkey)). Tells d l (after_disk_calls 4 new h)) (sym (some' x is)) (tells_after d few signed h tells x new call fresh))

  -- whatever a crash leaves at any point
  pub any_reads : Acts d signed next key → (n : ℕ) (bytes : List ℕ) → n ≤ 4 → Leaves (held_behind n key h) bytes → IsReadAs d signed next bytes
  any_reads (Calm none calm) n bytes le left =
      let rests : Leaves h bytes = subst (λ (o : Option Hashkey). Leaves (held_behind n o h) bytes) none left in
      let is : bytes ≡ synced_bytes h = left_only h bytes tells.made.settled rests in
      record {
        k = 0;
        image = 0;
        few = omega arith;
        read = reads_old d few signed h tells bytes next 0 0 calm (λ i lt. ap (λ (b : List ℕ). recorded b i) is);
        sized = ap length is ∙ writes_size no_bytes h.synced none_size tells.made.on;
        made = ap is_made is ∙ tells.made.made;
      }
  any_reads (Signs x new is some call fresh) n bytes le left =
      at n refl (points_are_read h new n bytes tells.made (can_record d few signed h tells x new call fresh) le
      (subst (λ (o : Option Hashkey). Leaves (held_behind n o h) bytes) some left))
    where
      point : (m image : ℕ) (b : Bool) → m ≤ 3 → is_kept_after_crash m image ≡ b → IsReadBehind h new n bytes
          → ReadsAs bytes (cond b (bytes_after new h) (bytes_before h)) → IsReadAs d signed next bytes
      point m image b few_calls kept r reads = record {
        k = m;
        image = image;
        few = few_calls;
        read = reads_new d few signed h tells x new call fresh bytes m image b kept reads
            ∙ ap (λ (o : Option Action). recorded_hashkeys signed o m image) (sym is);
        sized = r.sized;
        made = r.made;
      }

      gate : n ≡ 3 → IsReadBehind h new n bytes → (b : Bool) → is_gate_open bytes new.lock ≡ b → IsReadAs d signed next bytes
      gate e r true open_gate = point 2 1 true (omega arith) refl r (r.opened e open_gate)
      gate e r false shut_gate = point 2 0 false (omega arith) refl r (r.shut e shut_gate)

      at : (m : ℕ) → n ≡ m → IsReadBehind h new n bytes → IsReadAs d signed next bytes
      at zero e r = point 0 0 false (omega arith) refl r (r.early (omega (arith, e)))
      at (suc zero) e r = point 0 0 false (omega arith) refl r (r.early (omega (arith, e)))
      at (suc (suc zero)) e r = point 0 0 false (omega arith) refl r (r.early (omega (arith, e)))
      at (suc (suc (suc zero))) e r = gate e r (is_gate_open bytes new.lock) refl
      at (suc (suc (suc (suc zero)))) e r = point 2 1 true (omega arith) refl r (r.late e)
      at (suc (suc (suc (suc (suc m))))) e r = absurd (omega (arith, e, le))

-- a disk that holds these bytes

synced_is : (bytes : List ℕ) → length bytes ≡ 549426 → synced_bytes (disk_of bytes) ≡ bytes
synced_is bytes size =
    ap (λ (n : ℕ). bytes ++ drop n no_bytes) (zero-add (length bytes))
    ∙ ap (λ (l : List ℕ). bytes ++ l) (drop_all (length bytes) no_bytes (omega (arith, size, none_size))) ∙ append-nil bytes

pub tells_left : (d : Deal) (signed : List (Option Hashkey)) (next : Option Action) (bytes : List ℕ) (r : IsReadAs d signed next bytes)
    → Tells d (recorded_hashkeys signed next r.k r.image) (disk_of bytes)
tells_left d signed next bytes r = record {
  made = record { on = (omega (arith, r.sized), tt); settled = refl; made = ap is_made (synced_is bytes r.sized) ∙ r.made };
  places = ap length (sym r.read) ∙ read_length d bytes;
  shown = λ i lt.
      ap (λ (b : List ℕ). recorded b i) (synced_is bytes r.sized) ∙ sym (read_at d bytes i lt)
      ∙ ap (λ (l : List (Option Hashkey)). signed_hashkey l i) r.read;
}
