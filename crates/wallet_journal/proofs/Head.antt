-- The two writes that make a journal.
use Rattle.std.proofs.Common.{◌≡◌, ℕ, suc, ◌+◌, ◌-◌, ◌++◌, slice_set, subst, length-append, ◌≤◌, ◌<◌, Bool, true, false, ◌==◌, List, [], ◌∷◌, length}
use Rattle.std.proofs.Common.{take, drop, get_or, None, sym, ◌∙◌, ap, arith}
use Rattle.std.proofs.lemmas.List.{take-take, get_or-take, get_or-drop, set_at, take_at, get_or_at, get_or-append_right, get_or-replicate}
use Rattle.wallet_journal.specs.Device.{slice, written, Torn}
use Rattle.wallet_journal.specs.Layout.{byte, is_made, journal_deal_id, journal_party, gate_position, recorded}
use Rattle.wallet_journal.specs.Journal.{IsUnused, IsNewJournal, IsHead}
use Rattle.wallet_journal.proofs.Bytes.{slice_after, byte_before, byte_after, slice_written, drop_written, written_torn}
use Rattle.wallet_journal.proofs.Crash.{unmade, shut}

-- a byte of a slice
pub byte_in : (c : List ℕ) (at n j : ℕ) → j < n → byte c (at + j) ≡ get_or (slice at n c) j 0
byte_in c at n j lt = sym (get_or-take n (drop at c) j 0 lt ∙ get_or-drop at c j 0)

apart : (b : Bool) → b ≡ false → b ≡ true → ⊥
apart b f t = cc (f, t)

module _ (old head id : List ℕ) (me : ℕ) (sized : length old ≡ 549426) (none : is_made old ≡ false) (is_head : IsHead id me head) where
  abbrev pub mid : List ℕ
  mid = written old 1 head

  fits : 1 + length head ≤ length old
  fits = omega (arith, is_head.size, sized)

  mid_torn : Torn 1 (length head) old mid
  mid_torn = written_torn old 1 head fits

  -- a crash in the first
  pub first_write : (c : List ℕ) → Torn 1 (length head) old c → IsUnused id me c
  first_write c torn =
      let still : is_made c ≡ false = ap (λ (b : ℕ). b == 1) (byte_before 1 (length head) old c torn 0 (omega arith)) ∙ none in
      record { none = λ i lt. unmade c i still; partys = λ made. absurd (apart (is_made c) still made) }

  head_there : slice 1 41 mid ≡ head
  head_there = ap (λ (n : ℕ). slice 1 n mid) (sym is_head.size) ∙ slice_written old 1 head fits

  mid_id : journal_deal_id mid ≡ id
  mid_id = sym (take-take 32 41 (drop 1 mid) (omega arith)) ∙ ap (λ (l : List ℕ). take 32 l) head_there ∙ is_head.id_first

  mid_party : journal_party mid ≡ me
  mid_party = byte_in mid 1 41 32 (omega arith) ∙ ap (λ (l : List ℕ). get_or l 32 0) head_there ∙ is_head.then_party

  mid_gate : (i : ℕ) → i < 8 → byte mid (gate_position i) ≡ 0
  mid_gate i lt =
      let place : gate_position i ≡ 1 + (33 + i) = omega arith in
      ap (byte mid) place ∙ byte_in mid 1 41 (33 + i) (omega (arith, lt)) ∙ ap (λ (l : List ℕ). get_or l (33 + i) 0) head_there ∙ is_head.gates i lt

  module _ (c : List ℕ) (torn : Torn 0 1 mid c) where
    same_id : journal_deal_id c ≡ id
    same_id = slice_after 0 1 mid c torn 1 32 (omega arith) ∙ mid_id

    same_party : journal_party c ≡ me
    same_party = byte_after 0 1 mid c torn 33 (omega arith) ∙ mid_party

    closed : (i : ℕ) → i < 8 → recorded c i ≡ None
    closed i lt = shut c i (ap (λ (b : ℕ). b == 1) (byte_after 0 1 mid c torn (gate_position i) (omega arith) ∙ mid_gate i lt))

    -- a crash in the second
    pub second_write : IsUnused id me c
    second_write = record { none = closed; partys = λ made. (same_id, same_party) }

  -- after both
  pub made : IsNewJournal id me (written mid 0 (1 ∷ []))
  made =
      let end = written mid 0 (1 ∷ []) in
      let small : 0 + 1 ≤ length mid = omega (arith, mid_torn.as_long, sized) in
      let torn : Torn 0 1 mid end = written_torn mid 0 (1 ∷ []) small in
      record {
        made = ap (λ (l : List ℕ). get_or l 0 0 == 1) (drop_written mid 0 (1 ∷ []) small);
        id_there = same_id end torn;
        party_there = same_party end torn;
        none = closed end torn;
      }

-- the bytes of a head
pub head_is : (id copied : List ℕ) (me : ℕ) → length id ≡ 32 → copied ≡ id → IsHead id me (slice_set (copied ++ 0 ∷ 0 ∷ 0 ∷ 0 ∷ 0 ∷ 0 ∷ 0 ∷ 0 ∷ 0 ∷ []) 32 me)
head_is id copied me size same =
    let zeros = 0 ∷ 0 ∷ 0 ∷ 0 ∷ 0 ∷ 0 ∷ 0 ∷ 0 ∷ [] in
    let whole : slice_set (copied ++ 0 ∷ zeros) 32 me ≡ id ++ me ∷ zeros =
    ap (λ (l : List ℕ). slice_set (l ++ 0 ∷ zeros) 32 me) same ∙ set_at id 0 zeros me 32 size in
    subst (IsHead id me) (sym whole) (record {
      size = omega (arith, length-append id (me ∷ zeros), size);
      id_first = take_at id (me ∷ zeros) 32 size;
      then_party = get_or_at id me zeros 0 32 size;
      gates = λ i lt.
          let place : 33 + i - 32 ≡ suc i = omega arith in
          get_or-append_right id (me ∷ zeros) 32 (33 + i) 0 size (omega arith) ∙ ap (λ (n : ℕ). get_or (me ∷ zeros) n 0) place ∙ get_or-replicate 8 i 0 0 lt;
    })
