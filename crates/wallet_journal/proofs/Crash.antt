-- What a journal's bytes say where a range of them was torn or written.
use Rattle.std.proofs.Common.{◌≡◌, ◌≢◌, ◌⊎◌, inl, inr, ℕ, zero, suc, ◌-◌, ◌+◌, ◌≤◌, ◌<◌, Bool, true, false, ◌&&◌, ◌||◌, not, nat_lt, ◌==◌, List, []}
use Rattle.std.proofs.Common.{◌∷◌, ◌++◌, length, take, drop, get_or, Option, Some, None, if◌then◌else◌, refl, sym, ◌∙◌, ap, arith}
use Rattle.std.proofs.lemmas.Bool.{cases_eq, cases_lt, le-ltb}
use Rattle.std.proofs.lemmas.List.{get_or-drop}
use Rattle.std.proofs.lemmas.Option.{same_Some}
use Rattle.hashkey_path.specs.declared.hashkey.Hashkey.{Hashkey}
use Rattle.wallet_journal.specs.Device.{written, Torn}
use Rattle.wallet_journal.specs.Layout.{byte, is_made, is_gate_open, journal_deal_id, journal_party, gate_position, body_position, body, body_hashkey, is_recorded, recorded, encoded_body}
use Rattle.wallet_journal.specs.Layout.{are_bounded, is_bad, is_damaged, HasWholeParts}
use Rattle.wallet_journal.specs.Journal.{MayHaveRecorded, KeepsRecorded, Gains}
use Rattle.wallet_journal.specs.Opening.{is_damaged_contents}
use Rattle.wallet_journal.specs.OwnDisks.{IsOwn, FitsDeal, IsInRecord}
use Rattle.swap_digraph.specs.declared.deal.Deal.{Deal}
use Rattle.swap_digraph.specs.Deal.{path_limit}
use Rattle.wallet_journal.proofs.Bytes.{slice_before, slice_after, byte_before, byte_after, drop_written, written_torn}
use Rattle.wallet_journal.proofs.Tells.{body_size, parts, path_is, round_trip}

-- what is recorded, by its parts
abbrev shown : Bool → Bool → ℕ → List ℕ → Option Hashkey
shown made opened i b = if made && opened then Some (body_hashkey i b) else None

pub same : (old new : List ℕ) (i : ℕ) → byte new 0 ≡ byte old 0 → byte new (gate_position i) ≡ byte old (gate_position i) → body i new ≡ body i old
    → recorded new i ≡ recorded old i
same old new i made gate b = λ j. shown (made j == 1) (gate j == 1) i (b j)

-- a journal that isn't made has nothing recorded
pub unmade : (bytes : List ℕ) (i : ℕ) → is_made bytes ≡ false → recorded bytes i ≡ None
unmade bytes i h = ap (λ (b : Bool). shown b (is_gate_open bytes i) i (body i bytes)) h

shut_parts : (made opened : Bool) (i : ℕ) (b : List ℕ) → opened ≡ false → shown made opened i b ≡ None
shut_parts false opened i b h = refl
shut_parts true opened i b h = ap (λ (o : Bool). shown true o i b) h

-- nor has one at a gate that is closed
pub shut : (bytes : List ℕ) (i : ℕ) → is_gate_open bytes i ≡ false → recorded bytes i ≡ None
shut bytes i h = shut_parts (is_made bytes) (is_gate_open bytes i) i (body i bytes) h

-- where the same bytes say whether lock i is recorded, and it isn't, the body is of no matter
none_parts : (made opened : Bool) (i : ℕ) (b d : List ℕ) → shown made opened i b ≡ None → shown made opened i d ≡ None
none_parts false opened i b d h = refl
none_parts true false i b d h = refl
none_parts true true i b d h = absurd (cc h)

lock_parts : (made opened : Bool) (i : ℕ) (b : List ℕ) (k : Hashkey) → shown made opened i b ≡ Some k → k.lock ≡ i
lock_parts false opened i b k h = absurd (cc h)
lock_parts true false i b k h = absurd (cc h)
lock_parts true true i b k h = sym (ap (λ (x : Hashkey). x.lock) (same_Some (body_hashkey i b) k h))

-- what is recorded for a lock is a hashkey for it
pub recorded_lock : (bytes : List ℕ) (i : ℕ) (k : Hashkey) → recorded bytes i ≡ Some k → k.lock ≡ i
recorded_lock bytes i k h = lock_parts (is_made bytes) (is_gate_open bytes i) i (body i bytes) k h

-- nor has it a damaged body
unrecorded_parts : (made opened : Bool) (i : ℕ) (b : List ℕ) → shown made opened i b ≡ None → (made && opened) ≡ false
unrecorded_parts false opened i b h = refl
unrecorded_parts true false i b h = refl
unrecorded_parts true true i b h = absurd (cc h)

unrecorded : (bytes : List ℕ) (i : ℕ) → recorded bytes i ≡ None → is_recorded bytes i ≡ false
unrecorded bytes i h = unrecorded_parts (is_made bytes) (is_gate_open bytes i) i (body i bytes) h

pub undamaged : (limit n : ℕ) (bytes : List ℕ) (i : ℕ) → recorded bytes i ≡ None → is_damaged limit n bytes i ≡ false
undamaged limit n bytes i h = ap (λ (b : Bool). b && is_bad limit n (body i bytes)) (unrecorded bytes i h)

and_false : (b : Bool) → (b && false) ≡ false
and_false true = refl
and_false false = refl

same_damage : (limit n : ℕ) (old new : List ℕ) (i : ℕ) → byte new 0 ≡ byte old 0 → byte new (gate_position i) ≡ byte old (gate_position i) → body i new ≡ body i old
    → is_damaged limit n new i ≡ is_damaged limit n old i
same_damage limit n old new i made gate b = λ j. ((made j == 1) && (gate j == 1)) && is_bad limit n (b j)

either_parts : (made opened : Bool) (i : ℕ) (b : List ℕ) (k : Hashkey) → body_hashkey i b ≡ k → (shown made opened i b ≡ None) ⊎ (shown made opened i b ≡ Some k)
either_parts false opened i b k h = inl refl
either_parts true false i b k h = inl refl
either_parts true true i b k h = inr (ap (λ (x : Hashkey). Some x) h)

-- A body is written.
module _ (l n : ℕ) (lt : l < 8) (few : n ≤ 68673) (old new : List ℕ) (torn : Torn (body_position l) n old new) where
  body_made : byte new 0 ≡ byte old 0
  body_made = byte_before (body_position l) n old new torn 0 (omega arith)

  body_gate : (i : ℕ) → i < 8 → byte new (gate_position i) ≡ byte old (gate_position i)
  body_gate i lt_i = byte_before (body_position l) n old new torn (gate_position i) (omega (arith, lt_i))

  pub body_id : journal_deal_id new ≡ journal_deal_id old
  body_id = slice_before (body_position l) n old new torn 1 32 (omega arith)

  pub body_party : journal_party new ≡ journal_party old
  body_party = byte_before (body_position l) n old new torn 33 (omega arith)

  pub body_is_made : is_made new ≡ is_made old
  body_is_made = ap (λ (b : ℕ). b == 1) body_made

  body_other : (i : ℕ) → i ≢ l → body i new ≡ body i old
  body_other i apart = elim (cases_lt i l) [
    | inl less ↦ slice_before (body_position l) n old new torn (body_position i) 68673 (omega (arith, less))
    | inr more ↦ slice_after (body_position l) n old new torn (body_position i) 68673 (omega (arith, more, apart, few))
  ]

  -- it leaves what is recorded
  pub body_torn : recorded old l ≡ None → (i : ℕ) → i < 8 → recorded new i ≡ recorded old i
  body_torn none i lt_i = elim (cases_eq i l) [
    | inl here ↦ at_l here
    | inr apart ↦ same old new i body_made (body_gate i lt_i) (body_other i apart)
  ]
    where
      still_none : recorded new l ≡ None
      still_none =
          (λ j. shown (body_made j == 1) (body_gate l lt j == 1) l (body l new)) ∙ none_parts (is_made old) (is_gate_open old l) l (body l old) (body l new) none

      at_l : i ≡ l → recorded new i ≡ recorded old i
      at_l here = ap (recorded new) here ∙ still_none ∙ sym none ∙ ap (recorded old) (sym here)

  -- the disk stays the party's own
  pub body_own : recorded old l ≡ None → (d : Deal) (me : ℕ) → IsOwn d me old → IsOwn d me new
  body_own none d me own = record {
    partys = λ made.
        let was = own.partys (sym body_is_made ∙ made) in
        (body_id ∙ was.0, body_party ∙ was.1);
    sound = λ i lt_i. elim (cases_eq i l) [
      | inl here ↦ undamaged (path_limit d) d.graph.n new i (body_torn none i lt_i ∙ ap (recorded old) here ∙ none)
      | inr apart ↦ same_damage (path_limit d) d.graph.n old new i body_made (body_gate i lt_i) (body_other i apart) ∙ own.sound i lt_i
    ];
  }

-- A gate is written.
module _ (l : ℕ) (lt : l < 8) (old new : List ℕ) (torn : Torn (gate_position l) 1 old new) where
  gate_made : byte new 0 ≡ byte old 0
  gate_made = byte_before (gate_position l) 1 old new torn 0 (omega arith)

  pub gate_id : journal_deal_id new ≡ journal_deal_id old
  gate_id = slice_before (gate_position l) 1 old new torn 1 32 (omega arith)

  pub gate_party : journal_party new ≡ journal_party old
  gate_party = byte_before (gate_position l) 1 old new torn 33 (omega arith)

  pub gate_is_made : is_made new ≡ is_made old
  gate_is_made = ap (λ (b : ℕ). b == 1) gate_made

  pub gate_body : (i : ℕ) → body i new ≡ body i old
  gate_body i = slice_after (gate_position l) 1 old new torn (body_position i) 68673 (omega (arith, lt))

  gate_other : (i : ℕ) → i ≢ l → byte new (gate_position i) ≡ byte old (gate_position i)
  gate_other i apart = elim (cases_lt i l) [
    | inl less ↦ byte_before (gate_position l) 1 old new torn (gate_position i) (omega (arith, less))
    | inr more ↦ byte_after (gate_position l) 1 old new torn (gate_position i) (omega (arith, more, apart))
  ]

  -- it leaves what is recorded, or records what the body tells
  pub gate_torn : (k : Hashkey) → l ≡ k.lock → recorded old l ≡ None → body_hashkey l (body l old) ≡ k → MayHaveRecorded old k new
  gate_torn k is_lock none tells i lt_i = elim (cases_eq i l) [
    | inl here ↦ at_l here
    | inr apart ↦ inl (same old new i gate_made (gate_other i apart) (gate_body i))
  ]
    where
      at_l : i ≡ l → (recorded new i ≡ recorded old i) ⊎ ((i ≡ k.lock) × (recorded new i ≡ Some k))
      at_l here = elim (either_parts (is_made new) (is_gate_open new l) l (body l new) k (ap (body_hashkey l) (gate_body l) ∙ tells)) [
        | inl still ↦ inl (ap (recorded new) here ∙ still ∙ sym none ∙ ap (recorded old) (sym here))
        | inr now ↦ inr (here ∙ is_lock, ap (recorded new) here ∙ now)
      ]

  -- the disk stays the party's own, where the body can be one of the deal's
  pub gate_own : (d : Deal) (me : ℕ) → is_bad (path_limit d) d.graph.n (body l old) ≡ false → IsOwn d me old → IsOwn d me new
  gate_own d me good own = record {
    partys = λ made.
        let was = own.partys (sym gate_is_made ∙ made) in
        (gate_id ∙ was.0, gate_party ∙ was.1);
    sound = λ i lt_i. elim (cases_eq i l) [
      | inl here ↦ at_l i here
      | inr apart ↦ same_damage (path_limit d) d.graph.n old new i gate_made (gate_other i apart) (gate_body i) ∙ own.sound i lt_i
    ];
  }
    where
      at_l : (i : ℕ) → i ≡ l → is_damaged_contents d new i ≡ false
      at_l i here =
          ap (is_damaged_contents d new) here
          ∙ ap (λ (b : Bool). is_recorded new l && b) (ap (is_bad (path_limit d) d.graph.n) (gate_body l) ∙ good)
          ∙ and_false (is_recorded new l)

  pub gate_others : (i : ℕ) → i ≢ l → recorded new i ≡ recorded old i
  gate_others i apart = same old new i gate_made (gate_other i apart) (gate_body i)

-- What was written stands there.
pub body_there : (k : Hashkey) (l : ℕ) (old new : List ℕ) → length old ≡ 549426 → l < 8 → length k.path ≤ 32 → length k.sigs ≡ length k.path → HasWholeParts k
    → new ≡ written old (body_position l) (encoded_body k)
    → body l new ≡ encoded_body k ++ take (68673 - length (encoded_body k)) (drop (body_position l + length (encoded_body k)) old)
body_there k l old new sized lt few paired told is =
    let size = body_size k paired told in
    let fits : body_position l + length (encoded_body k) ≤ length old = omega (arith, size, few, lt, sized) in
    ap (λ (c : List ℕ). take 68673 c) (ap (λ (c : List ℕ). drop (body_position l) c) is ∙ drop_written old (body_position l) (encoded_body k) fits)
    ∙ take_over 68673 (encoded_body k) (drop (body_position l + length (encoded_body k)) old) (omega (arith, size, few))
  where
    take_over : (n : ℕ) (xs ys : List ℕ) → length xs ≤ n → take n (xs ++ ys) ≡ xs ++ take (n - length xs) ys
    take_over n [] ys le = ap (λ (m : ℕ). take m ys) (omega arith)
    take_over zero (x ∷ xs) ys le = absurd (omega (arith, le))
    take_over (suc n) (x ∷ xs) ys le = ap (λ (l : List ℕ). x ∷ l) (take_over n xs ys (omega (arith, le)) ∙ ap (λ (m : ℕ). xs ++ take m ys) (omega arith))

-- The body of a hashkey that fits a deal can be one of the deal's.
pub not_bad : (k : Hashkey) → length k.sigs ≡ length k.path → HasWholeParts k → (rest : List ℕ) (limit n : ℕ) → length k.path ≤ limit → are_bounded n k.path ≡ true
    → is_bad limit n (encoded_body k ++ rest) ≡ false
not_bad k paired told rest limit n few below =
    let path = ap (λ (b : List ℕ). take (length k.path) (drop 33 b)) (parts k paired told rest) ∙ path_is k paired told k.lock refl rest in
    let count : nat_lt limit (length k.path) ≡ false = le-ltb limit (length k.path) few in
    (λ j. count j || not (are_bounded n (path j))) ∙ ap (λ (b : Bool). not b) below

-- A body that was written tells its hashkey.
pub tells_written : (k : Hashkey) (l : ℕ) (old new : List ℕ) → length old ≡ 549426 → l < 8 → l ≡ k.lock → length k.path ≤ 32 → length k.sigs ≡ length k.path
    → HasWholeParts k
    → new ≡ written old (body_position l) (encoded_body k) → body_hashkey l (body l new) ≡ k
tells_written k l old new sized lt is_lock few paired told is =
    ap (body_hashkey l) (body_there k l old new sized lt few paired told is)
    ∙ round_trip k paired told l is_lock (take (68673 - length (encoded_body k)) (drop (body_position l + length (encoded_body k)) old))

-- where a crash left what stands there, what is recorded in all that it left is kept
pub keeps : (outcomes : List ℕ → Type 0) (old c : List ℕ) (k : Hashkey) → outcomes old → recorded old k.lock ≡ None → MayHaveRecorded old k c
    → KeepsRecorded outcomes c
keeps outcomes old c k among none h i x lt all = elim (h i lt) [
  | inl was ↦ was ∙ all old among
  | inr new ↦ absurd (apart (sym (all old among) ∙ ap (recorded old) new.0 ∙ none))
]
  where
    apart : Some x ≡ None → ⊥
    apart e = cc e

-- The two writes of a record, from a journal that is made and hasn't its lock recorded.
module _ (k : Hashkey) (old : List ℕ) (sized : length old ≡ 549426) (made : is_made old ≡ true) (lt : k.lock < 8) (none : recorded old k.lock ≡ None)
    (few : length k.path ≤ 32) (paired : length k.sigs ≡ length k.path) (told : HasWholeParts k) where
  body_fits : length (encoded_body k) ≤ 68673
  body_fits = omega (arith, body_size k paired told, few)

  abbrev pub mid : List ℕ
  mid = written old (body_position k.lock) (encoded_body k)

  mid_torn : Torn (body_position k.lock) (length (encoded_body k)) old mid
  mid_torn = written_torn old (body_position k.lock) (encoded_body k) (omega (arith, body_fits, lt, sized))

  mid_none : recorded mid k.lock ≡ None
  mid_none = body_torn k.lock (length (encoded_body k)) lt body_fits old mid mid_torn none k.lock lt ∙ none

  mid_tells : body_hashkey k.lock (body k.lock mid) ≡ k
  mid_tells = tells_written k k.lock old mid sized lt refl few paired told refl

  -- a crash in the first
  pub first_write : (c : List ℕ) → Torn (body_position k.lock) (length (encoded_body k)) old c → IsInRecord old k c
  first_write c torn = record {
    whole = λ i lt_i. inl (body_torn k.lock (length (encoded_body k)) lt body_fits old c torn none i lt_i);
    own = λ d me fits own. body_own k.lock (length (encoded_body k)) lt body_fits old c torn none d me own;
  }

  second_own : (c : List ℕ) → Torn (gate_position k.lock) 1 mid c → (d : Deal) (me : ℕ) → FitsDeal d k → IsOwn d me old → IsOwn d me c
  second_own c torn d me fits own =
      let rest = take (68673 - length (encoded_body k)) (drop (body_position k.lock + length (encoded_body k)) old) in
      let good : is_bad (path_limit d) d.graph.n (body k.lock mid) ≡ false =
      ap (is_bad (path_limit d) d.graph.n) (body_there k k.lock old mid sized lt few paired told refl)
      ∙ not_bad k paired told rest (path_limit d) d.graph.n fits.few fits.parties in
      gate_own k.lock lt mid c torn d me good (body_own k.lock (length (encoded_body k)) lt body_fits old mid mid_torn none d me own)

  second_whole : (c : List ℕ) → Torn (gate_position k.lock) 1 mid c → MayHaveRecorded old k c
  second_whole c torn i lt_i = elim (gate_torn k.lock lt mid c torn k refl mid_none mid_tells i lt_i) [
    | inl was ↦ inl (was ∙ body_torn k.lock (length (encoded_body k)) lt body_fits old mid mid_torn none i lt_i)
    | inr new ↦ inr new
  ]

  -- a crash in the second
  pub second_write : (c : List ℕ) → Torn (gate_position k.lock) 1 mid c → IsInRecord old k c
  second_write c torn = record { whole = second_whole c torn; own = λ d me fits own. second_own c torn d me fits own }

  -- after both
  pub stored : Gains old k (written mid (gate_position k.lock) (1 ∷ []))
  stored =
      let end = written mid (gate_position k.lock) (1 ∷ []) in
      let fits : gate_position k.lock + 1 ≤ length mid = omega (arith, mid_torn.as_long, sized, lt) in
      let torn : Torn (gate_position k.lock) 1 mid end = written_torn mid (gate_position k.lock) (1 ∷ []) fits in
      let gate : byte end (gate_position k.lock) ≡ 1 =
      byte_at_start end (gate_position k.lock) ∙ ap (λ (l : List ℕ). get_or l 0 0) (drop_written mid (gate_position k.lock) (1 ∷ []) fits) in
      let still_made = gate_is_made k.lock lt mid end torn ∙ body_is_made k.lock (length (encoded_body k)) lt body_fits old mid mid_torn in
      record {
        made = still_made;
        id = gate_id k.lock lt mid end torn ∙ body_id k.lock (length (encoded_body k)) lt body_fits old mid mid_torn;
        party = gate_party k.lock lt mid end torn ∙ body_party k.lock (length (encoded_body k)) lt body_fits old mid mid_torn;
        here =
            (λ j. shown ((still_made ∙ made) j) (gate j == 1) k.lock (body k.lock end))
            ∙ ap (λ (x : Hashkey). Some x) (ap (body_hashkey k.lock) (gate_body k.lock lt mid end torn k.lock) ∙ mid_tells);
        others = λ i lt_i apart. gate_others k.lock lt mid end torn i apart
            ∙ body_torn k.lock (length (encoded_body k)) lt body_fits old mid mid_torn none i lt_i;
      }
    where
      byte_at_start : (l : List ℕ) (n : ℕ) → byte l n ≡ get_or (drop n l) 0 0
      byte_at_start l n = sym (get_or-drop n l 0 0 ∙ ap (λ (m : ℕ). get_or l m 0) (omega arith))
