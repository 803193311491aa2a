-- What a crash leaves of the four disk calls that record a hashkey.
use Rattle.std.proofs.Common.{◌≡◌, ◌≢◌, ◌⊎◌, inl, inr, ℕ, zero, suc, ◌+◌, ◌-◌, ◌≤◌, ◌<◌, Bool, true, false, cond, ◌==◌, List, [], ◌∷◌, ◌++◌, length, take, drop, get_or}
use Rattle.std.proofs.Common.{replicate, Some, None, refl, sym, ◌∙◌, ap, subst, arith, append_assoc, length-append}
use Rattle.std.specs.List.{AllByRecursion}
use Rattle.std.proofs.lemmas.Bool.{cases_eq}
use Rattle.std.proofs.lemmas.List.{append-nil, take_at, drop_at, length-take-le, get_or_append_left, get_or_at, get_or-append_right, get_or-replicate}
use Rattle.hashkey_path.specs.declared.hashkey.Hashkey.{Hashkey}
use Rattle.wallet_journal.specs.Device.{Write, slice, written, Torn}
use Rattle.wallet_journal.specs.Layout.{byte, is_made, is_gate_open, recorded, body_hashkey, body, body_position, gate_position, encoded_body}
use Rattle.wallet_journal.specs.Journal.{IsNewJournal}
use Rattle.wallet_journal.specs.Held.{Held, no_bytes, after_writes, synced_bytes, visible_bytes, Leaves, IsOnDisk}
use Rattle.wallet_journal.specs.Memory.{crashed, crash_writes}
use Rattle.wallet_journal.specs.Recording.{body_write, gate_write, IsStoppedRecording}
use Rattle.wallet_journal.specs.Stopped.{is_kept_after_crash, kept_key}
use Rattle.wallet_journal.proofs.Stops.{late_one, left_as}
use Rattle.disk_laws.specs.DiskCalls.{after_disk_calls, held_within, IsMadeDisk, CanRecord, ReadsAs, bytes_before, bytes_after, IsReadBehind}
use Rattle.disk_laws.specs.DiskCalls.{CallsAreTheJournals, PointsAreRead, ImagesAreRead, NewDisksAreMade}
use Rattle.disk_laws.proofs.Torn.{none_size, body_size, written_torn, after_push, writes_size, both_on, image_on, image_torn, shut, body_tells, open_tells, body_is_made, body_torn}
use Rattle.disk_laws.proofs.Torn.{gate_is_made, gate_body, gate_others}

-- a disk all of whose writes are synced, by its parts
abbrev pub at_rest : List Write → ℕ → Held
at_rest ws spare = record { synced = ws; loose = []; spare = spare }

rests : (h : Held) → h.loose ≡ [] → h ≡ at_rest h.synced h.spare
rests h settled = λ i. record { synced = h.synced; loose = settled i; spare = h.spare }

written_whole : (ws loose : List Write) (key : Hashkey) → loose ≡ [] → (ws ++ (loose ++ body_write key ∷ [])) ++ gate_write key ∷ [] ≡ ws ++ body_write key ∷ gate_write key ∷ []
written_whole ws loose key none =
    ap (λ (l : List Write). (ws ++ (l ++ body_write key ∷ [])) ++ gate_write key ∷ []) none ∙ append_assoc ws (body_write key ∷ []) (gate_write key ∷ [])

stopped_at : (ws loose : List Write) (spare : ℕ) (key : Hashkey) → loose ≡ [] → (k : ℕ) → k < 4
    → IsStoppedRecording k key ws (held_within k key (record { synced = ws; loose = loose; spare = spare })).synced
    (held_within k key (record { synced = ws; loose = loose; spare = spare })).loose
stopped_at ws loose spare key none zero lt = (refl, ap (λ (l : List Write). l ++ body_write key ∷ []) none)
stopped_at ws loose spare key none (suc zero) lt = (refl, ap (λ (l : List Write). l ++ body_write key ∷ []) none)
stopped_at ws loose spare key none (suc (suc k)) lt = (ap (λ (l : List Write). ws ++ (l ++ body_write key ∷ [])) none, refl)

pub calls_are_the_journals : CallsAreTheJournals
calls_are_the_journals h key none = ((written_whole h.synced h.loose key none, refl), λ k lt. stopped_at h.synced h.loose h.spare key none k lt)

module _ (ws : List Write) (spare : ℕ) (key : Hashkey) (is : IsMadeDisk (at_rest ws spare)) (can : CanRecord (at_rest ws spare) key) where
  abbrev old : List ℕ
  old = after_writes no_bytes ws

  abbrev staged : List ℕ
  staged = after_writes no_bytes (ws ++ body_write key ∷ [])

  sized : length (after_writes no_bytes ws) ≡ 549426
  sized = writes_size no_bytes ws none_size is.on

  small : length (encoded_body key) ≤ 68673
  small = omega (arith, body_size key can.paired can.told, can.few)

  fits : body_position key.lock + length (encoded_body key) ≤ 549426
  fits = omega (arith, body_size key can.paired can.told, can.few, can.lock)

  staged_torn : Torn (body_position key.lock) (length (encoded_body key)) old staged
  staged_torn =
      subst (Torn (body_position key.lock) (length (encoded_body key)) old) (sym (after_push no_bytes ws (body_write key)))
      (written_torn old (body_position key.lock) (encoded_body key) (omega (arith, fits, sized)))

  staged_on : AllByRecursion IsOnDisk (ws ++ body_write key ∷ [])
  staged_on = both_on ws (body_write key ∷ []) is.on (fits, tt)

  gate_fits : IsOnDisk (gate_write key)
  gate_fits = omega (arith, can.lock)

  as_before : (c : List ℕ) → Torn (body_position key.lock) (length (encoded_body key)) old c → ReadsAs c old
  as_before c torn = body_torn key.lock (length (encoded_body key)) can.lock small old c torn can.none

  body_made : (c : List ℕ) → Torn (body_position key.lock) (length (encoded_body key)) old c → is_made c ≡ true
  body_made c torn = body_is_made key.lock (length (encoded_body key)) can.lock small old c torn ∙ is.made

  staged_size : length staged ≡ 549426
  staged_size = staged_torn.as_long ∙ sized

  end_torn : Torn (gate_position key.lock) 1 staged (bytes_after key (at_rest ws spare))
  end_torn =
      subst (Torn (gate_position key.lock) 1 staged) (sym (after_push no_bytes (ws ++ body_write key ∷ []) (gate_write key)))
      (written_torn staged (gate_position key.lock) (1 ∷ []) (omega (arith, staged_size, can.lock)))

  -- the hashkey is recorded behind the calls, and the other locks are as they were
  pub after_here : recorded (bytes_after key (at_rest ws spare)) key.lock ≡ Some key
  after_here = late_one key ws spare is.on is.made can.lock can.none can.few can.paired can.told

  -- a crash while the gate is being written
  module _ (c : List ℕ) (torn : Torn (gate_position key.lock) 1 staged c) where
    gate_apart : (i : ℕ) → i < 8 → i ≢ key.lock → recorded c i ≡ recorded old i
    gate_apart i lt apart = gate_others key.lock can.lock staged c torn i apart ∙ as_before staged staged_torn i lt

    still_made : is_made c ≡ true
    still_made =
        gate_is_made key.lock can.lock staged c torn ∙ body_is_made key.lock (length (encoded_body key)) can.lock small old staged staged_torn ∙ is.made

    same_body : body key.lock c ≡ body key.lock (bytes_after key (at_rest ws spare))
    same_body =
        gate_body key.lock can.lock staged c torn key.lock ∙ sym (gate_body key.lock can.lock staged (bytes_after key (at_rest ws spare)) end_torn key.lock)

    opened_here : is_gate_open c key.lock ≡ true → recorded c key.lock ≡ Some key
    opened_here gate =
        open_tells c key.lock still_made gate
        ∙ ap (λ (b : List ℕ). Some (body_hashkey key.lock b)) same_body
        ∙ ap (λ (k : Hashkey). Some k) (body_tells (bytes_after key (at_rest ws spare)) key.lock key after_here)

  pub after_others : (i : ℕ) → i < 8 → i ≢ key.lock → recorded (bytes_after key (at_rest ws spare)) i ≡ recorded old i
  after_others i lt apart = gate_apart (bytes_after key (at_rest ws spare)) end_torn i lt apart

  shut_reads : (c : List ℕ) → Torn (gate_position key.lock) 1 staged c → is_gate_open c key.lock ≡ false → ReadsAs c old
  shut_reads c torn gate i lt = elim (cases_eq i key.lock) [
    | inl here ↦ ap (recorded c) here ∙ shut c key.lock gate ∙ sym (ap (recorded old) here ∙ can.none)
    | inr apart ↦ gate_apart c torn i lt apart
  ]

  opened_reads : (c : List ℕ) → Torn (gate_position key.lock) 1 staged c → is_gate_open c key.lock ≡ true → ReadsAs c (bytes_after key (at_rest ws spare))
  opened_reads c torn gate i lt = elim (cases_eq i key.lock) [
    | inl here ↦ ap (recorded c) here ∙ opened_here c torn gate ∙ sym (ap (recorded (bytes_after key (at_rest ws spare))) here ∙ after_here)
    | inr apart ↦ gate_apart c torn i lt apart ∙ sym (after_others i lt apart)
  ]

  pub point_is_read : (n : ℕ) (c : List ℕ) → n ≤ 4 → Leaves (after_disk_calls n key (at_rest ws spare)) c → IsReadBehind (at_rest ws spare) key n c
  point_is_read zero c le left = record {
    sized = ap length left ∙ sized;
    made = ap is_made left ∙ is.made;
    early = λ few i lt. ap (λ (b : List ℕ). recorded b i) left;
    opened = λ e. absurd (omega (arith, e));
    shut = λ e. absurd (omega (arith, e));
    late = λ e. absurd (omega (arith, e));
  }
  point_is_read (suc zero) c le left = record {
    sized = ap length left.2 ∙ left.1.as_long ∙ sized;
    made = ap is_made left.2 ∙ body_made left.0 left.1;
    early = λ few i lt. ap (λ (b : List ℕ). recorded b i) left.2 ∙ as_before left.0 left.1 i lt;
    opened = λ e. absurd (omega (arith, e));
    shut = λ e. absurd (omega (arith, e));
    late = λ e. absurd (omega (arith, e));
  }
  point_is_read (suc (suc zero)) c le left = record {
    sized = ap length left ∙ staged_size;
    made = ap is_made left ∙ body_made staged staged_torn;
    early = λ few i lt. ap (λ (b : List ℕ). recorded b i) left ∙ as_before staged staged_torn i lt;
    opened = λ e. absurd (omega (arith, e));
    shut = λ e. absurd (omega (arith, e));
    late = λ e. absurd (omega (arith, e));
  }
  point_is_read (suc (suc (suc zero))) c le left = record {
    sized = ap length left.2 ∙ left.1.as_long ∙ staged_size;
    made = ap is_made left.2 ∙ still_made left.0 left.1;
    early = λ few. absurd (omega (arith, few));
    opened = λ e gate i lt. ap (λ (b : List ℕ). recorded b i) left.2
        ∙ opened_reads left.0 left.1 (ap (λ (b : List ℕ). is_gate_open b key.lock) (sym left.2) ∙ gate) i lt;
    shut = λ e gate i lt. ap (λ (b : List ℕ). recorded b i) left.2
        ∙ shut_reads left.0 left.1 (ap (λ (b : List ℕ). is_gate_open b key.lock) (sym left.2) ∙ gate) i lt;
    late = λ e. absurd (omega (arith, e));
  }
  point_is_read (suc (suc (suc (suc zero)))) c le left = record {
    sized = ap length left ∙ end_torn.as_long ∙ staged_size;
    made = ap is_made left ∙ still_made (bytes_after key (at_rest ws spare)) end_torn;
    early = λ few. absurd (omega (arith, few));
    opened = λ e. absurd (omega (arith, e));
    shut = λ e. absurd (omega (arith, e));
    late = λ e i lt. ap (λ (b : List ℕ). recorded b i) left;
  }
  point_is_read (suc (suc (suc (suc (suc n))))) c le left = absurd (omega (arith, le))

  -- within a call

  image_here : (k image : ℕ) → k < 4 → recorded (visible_bytes (crashed image (held_within k key (at_rest ws spare)))) key.lock ≡ kept_key key k image
  image_here k image lt =
      left_as key ws old (record { on = is.on; reads = refl }) is.made can.lock can.none can.few can.paired can.told k image
      (held_within k key (at_rest ws spare)).synced (held_within k key (at_rest ws spare)).loose (stopped_at ws [] spare key refl k lt)

  image_other : (k image : ℕ) (i : ℕ) → i < 8 → i ≢ key.lock → recorded (visible_bytes (crashed image (held_within k key (at_rest ws spare)))) i ≡ recorded old i
  image_other zero image i lt apart = as_before _ (image_torn image ws (body_write key) spare is.on fits) i lt
  image_other (suc zero) image i lt apart = as_before _ (image_torn image ws (body_write key) spare is.on fits) i lt
  image_other (suc (suc k)) image i lt apart =
      gate_apart _ (image_torn image (ws ++ body_write key ∷ []) (gate_write key) spare staged_on gate_fits) i lt apart

  pub image_is_read : (k image : ℕ) → k < 4 → ReadsAs (visible_bytes (crashed image (held_within k key (at_rest ws spare))))
      (cond (is_kept_after_crash k image) (bytes_after key (at_rest ws spare)) old)
  image_is_read k image lt i low = go (is_kept_after_crash k image) refl (cases_eq i key.lock)
    where
      go : (b : Bool) → is_kept_after_crash k image ≡ b → (i ≡ key.lock) ⊎ (i ≢ key.lock)
          → recorded (visible_bytes (crashed image (held_within k key (at_rest ws spare)))) i ≡ recorded (cond b (bytes_after key (at_rest ws spare)) old) i
      go true kept (inl here) =
          ap (recorded (visible_bytes (crashed image (held_within k key (at_rest ws spare))))) here ∙ image_here k image lt
          ∙ ap (λ (b : Bool). cond b (Some key) None) kept
          ∙ sym (ap (recorded (bytes_after key (at_rest ws spare))) here ∙ after_here)
      go true kept (inr apart) = image_other k image i low apart ∙ sym (after_others i low apart)
      go false kept (inl here) =
          ap (recorded (visible_bytes (crashed image (held_within k key (at_rest ws spare))))) here ∙ image_here k image lt
          ∙ ap (λ (b : Bool). cond b (Some key) None) kept
          ∙ sym (ap (recorded old) here ∙ can.none)
      go false kept (inr apart) = image_other k image i low apart

  -- the disk behind the four calls, and behind a crash within one

  pub made_after : IsMadeDisk (after_disk_calls 4 key (at_rest ws spare))
  made_after = record {
    on = both_on (ws ++ body_write key ∷ []) (gate_write key ∷ []) staged_on (gate_fits, tt);
    settled = refl;
    made = still_made (bytes_after key (at_rest ws spare)) end_torn;
  }

  pub made_within : (k image : ℕ) → IsMadeDisk (crashed image (held_within k key (at_rest ws spare)))
  made_within zero image = record {
    on = image_on image ws (body_write key) spare is.on fits;
    settled = refl;
    made = body_made _ (image_torn image ws (body_write key) spare is.on fits);
  }
  made_within (suc zero) image = record {
    on = image_on image ws (body_write key) spare is.on fits;
    settled = refl;
    made = body_made _ (image_torn image ws (body_write key) spare is.on fits);
  }
  made_within (suc (suc k)) image = record {
    on = image_on image (ws ++ body_write key ∷ []) (gate_write key) spare staged_on gate_fits;
    settled = refl;
    made = still_made _ (image_torn image (ws ++ body_write key ∷ []) (gate_write key) spare staged_on gate_fits);
  }

pub points_are_read : PointsAreRead
points_are_read h key n c is can le left =
    let e = rests h is.settled in
    subst (λ (g : Held). IsReadBehind g key n c) (sym e) (point_is_read h.synced h.spare key (subst IsMadeDisk e is) (subst (λ (g : Held). CanRecord g key) e can) n c le
    (subst (λ (g : Held). Leaves (after_disk_calls n key g) c) e left))

pub images_are_read : ImagesAreRead
images_are_read h key k image is can lt =
    let e = rests h is.settled in
    subst (λ (g : Held). ReadsAs (visible_bytes (crashed image (held_within k key g))) (cond (is_kept_after_crash k image) (bytes_after key g) (bytes_before g))) (sym e)
    (image_is_read h.synced h.spare key (subst IsMadeDisk e is) (subst (λ (g : Held). CanRecord g key) e can) k image lt)

pub after_parts : (h : Held) (key : Hashkey) → IsMadeDisk h → CanRecord h key → (recorded (bytes_after key h) key.lock ≡ Some key)
    × ((i : ℕ) → i < 8 → i ≢ key.lock → recorded (bytes_after key h) i ≡ recorded (bytes_before h) i)
after_parts h key is can =
    let e = rests h is.settled in
    subst (λ (g : Held). (recorded (bytes_after key g) key.lock ≡ Some key)
    × ((i : ℕ) → i < 8 → i ≢ key.lock → recorded (bytes_after key g) i ≡ recorded (bytes_before g) i)) (sym e) (
      after_here h.synced h.spare key (subst IsMadeDisk e is) (subst (λ (g : Held). CanRecord g key) e can),
      after_others h.synced h.spare key (subst IsMadeDisk e is) (subst (λ (g : Held). CanRecord g key) e can),
    )

pub after_is_made : (h : Held) (key : Hashkey) → IsMadeDisk h → CanRecord h key → IsMadeDisk (after_disk_calls 4 key h)
after_is_made h key is can =
    let e = rests h is.settled in
    subst (λ (g : Held). IsMadeDisk (after_disk_calls 4 key g)) (sym e)
    (made_after h.synced h.spare key (subst IsMadeDisk e is) (subst (λ (g : Held). CanRecord g key) e can))

pub within_is_made : (h : Held) (key : Hashkey) (k image : ℕ) → IsMadeDisk h → CanRecord h key → IsMadeDisk (crashed image (held_within k key h))
within_is_made h key k image is can =
    let e = rests h is.settled in
    subst (λ (g : Held). IsMadeDisk (crashed image (held_within k key g))) (sym e)
    (made_within h.synced h.spare key (subst IsMadeDisk e is) (subst (λ (g : Held). CanRecord g key) e can) k image)

-- a crash of a disk all of whose writes are synced

same_writes : (image : ℕ) (ws : List Write) → crash_writes image ws [] ≡ ws
same_writes zero ws = refl
same_writes (suc zero) ws = append-nil ws
same_writes (suc (suc n)) ws = append-nil ws

pub rest_reads : (h : Held) (image : ℕ) → IsMadeDisk h → visible_bytes (crashed image h) ≡ synced_bytes h
rest_reads h image is =
    ap (λ (ws : List Write). after_writes no_bytes (crash_writes image h.synced ws)) is.settled ∙ ap (after_writes no_bytes) (same_writes image h.synced)

pub rest_is_made : (h : Held) (image : ℕ) → IsMadeDisk h → IsMadeDisk (crashed image h)
rest_is_made h image is =
    let same : crash_writes image h.synced h.loose ≡ h.synced = ap (crash_writes image h.synced) is.settled ∙ same_writes image h.synced in
    record {
      on = subst (AllByRecursion IsOnDisk) (sym same) is.on;
      settled = refl;
      made = ap is_made (rest_reads h image is) ∙ is.made;
    }

-- A new journal.

module _ (id : List ℕ) (v : ℕ) (size : length id ≡ 32) where
  abbrev head : List ℕ
  head = id ++ v ∷ replicate 8 0

  abbrev rest : List ℕ
  rest = drop (1 + length head) no_bytes

  long : length head ≡ 41
  long = omega (arith, length-append id (v ∷ replicate 8 0), size)

  -- what stands behind byte 0
  behind : drop 1 (written no_bytes 1 head) ≡ head ++ rest
  behind = drop_at (take 1 no_bytes) (head ++ rest) 1 (length-take-le 1 no_bytes (omega (arith, none_size)))

  abbrev made_bytes : List ℕ
  made_bytes = written (written no_bytes 1 head) 0 (1 ∷ [])

  byte_of_head : (j : ℕ) → j < 41 → byte made_bytes (suc j) ≡ get_or head j 0
  byte_of_head j lt = ap (λ (l : List ℕ). get_or l j 0) behind ∙ get_or_append_left head rest 0 j (omega (arith, lt, long))

  id_is : slice 1 32 made_bytes ≡ id
  id_is =
      ap (λ (l : List ℕ). take 32 l) (behind ∙ append_assoc id (v ∷ replicate 8 0) rest) ∙ take_at id ((v ∷ replicate 8 0) ++ rest) 32 size

  party_is : byte made_bytes 33 ≡ v
  party_is = byte_of_head 32 (omega arith) ∙ get_or_at id v (replicate 8 0) 0 32 size

  gate_is : (i : ℕ) → i < 8 → byte made_bytes (gate_position i) ≡ 0
  gate_is i lt =
      let place : gate_position i ≡ suc (33 + i) = omega arith in
      let back : 33 + i - 32 ≡ suc i = omega arith in
      ap (byte made_bytes) place ∙ byte_of_head (33 + i) (omega (arith, lt))
      ∙ get_or-append_right id (v ∷ replicate 8 0) 32 (33 + i) 0 size (omega arith)
      ∙ ap (λ (n : ℕ). get_or (v ∷ replicate 8 0) n 0) back ∙ get_or-replicate 8 i 0 0 lt

  pub new_journal : IsNewJournal id v made_bytes
  new_journal = record {
    made = refl;
    id_there = id_is;
    party_there = party_is;
    none = λ i lt. shut made_bytes i (ap (λ (b : ℕ). b == 1) (gate_is i lt));
  }

  pub new_long : 1 + length head ≤ 549426
  new_long = omega (arith, long)

pub new_disks_are_made : NewDisksAreMade
new_disks_are_made d v size =
    (record { on = (new_long d.id v size, (omega arith, tt)); settled = refl; made = refl }, new_journal d.id v size)
