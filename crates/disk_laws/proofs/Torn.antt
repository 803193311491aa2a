-- What a journal's bytes say where a range of them was torn or written.
use Rattle.std.proofs.Common.{◌≡◌, ◌≢◌, inl, inr, ℕ, zero, suc, ◌+◌, ◌-◌, ◌*◌, ◌≤◌, ◌<◌, Bool, true, false, ◌==◌, ◌&&◌, List, [], ◌∷◌, ◌++◌, length, take, drop, get_or}
use Rattle.std.proofs.Common.{replicate, Option, Some, None, if◌then◌else◌, refl, sym, ◌∙◌, ap, subst, arith, length-append, length-drop}
use Rattle.std.specs.List.{flat_map, AllByRecursion}
use Rattle.std.proofs.lemmas.Bool.{cases_eq, cases_lt}
use Rattle.std.proofs.lemmas.List.{take_at, drop_at, take-take, drop-drop, length-take-le, get_or-take, get_or-drop, length-replicate}
use Rattle.std.proofs.lemmas.List.Elements.{recursion_from_All}
use Rattle.swap_base.specs.Text.{joined}
use Rattle.hash_signature.specs.declared.sig.Sig.{Sig}
use Rattle.hashkey_path.specs.declared.hashkey.Hashkey.{Hashkey}
use Rattle.wallet_journal.specs.Device.{Write, slice, written, Torn}
use Rattle.wallet_journal.specs.Layout.{byte, is_made, is_gate_open, gate_position, body_position, body, body_hashkey, recorded, encoded_body, IsWholeSig, HasWholeParts}
use Rattle.wallet_journal.specs.Held.{disk_size, no_bytes, after_writes, visible_bytes, IsOnDisk}
use Rattle.wallet_journal.specs.Memory.{crashed, filled}

-- Sizes.

pub size_is : disk_size ≡ 549426
unfolding disk_size
size_is = refl

pub none_size : length no_bytes ≡ 549426
none_size = length-replicate disk_size 0 ∙ size_is

sigs_size : (sigs : List Sig) → AllByRecursion IsWholeSig sigs → length (flat_map joined sigs) ≡ 2144 * length sigs
sigs_size [] all = refl
sigs_size (s ∷ sigs) all = omega (arith, length-append (joined s) (flat_map joined sigs), all.0.bytes, sigs_size sigs all.1)

pub body_size : (k : Hashkey) → length k.sigs ≡ length k.path → HasWholeParts k → length (encoded_body k) ≡ 33 + 2145 * length k.path
body_size k paired told =
    omega (
      arith,
      told.secret,
      length-append k.secret (k.path ++ flat_map joined k.sigs),
      length-append k.path (flat_map joined k.sigs),
      sigs_size k.sigs (recursion_from_All IsWholeSig k.sigs told.sigs),
      paired,
    )

-- What stands in front of a range and behind it.

front : (a m n : ℕ) (xs : List ℕ) → a + m ≤ n → take m (drop a (take n xs)) ≡ take m (drop a xs)
front zero m n xs le = take-take m n xs (omega (arith, le))
front (suc a) m zero xs le = absurd (omega (arith, le))
front (suc a) m (suc n) [] le = refl
front (suc a) m (suc n) (x ∷ xs) le = front a m n xs (omega (arith, le))

module _ (at n : ℕ) (old new : List ℕ) (torn : Torn at n old new) where
  slice_before : (a m : ℕ) → a + m ≤ at → slice a m new ≡ slice a m old
  slice_before a m le = sym (front a m at new le) ∙ ap (λ (l : List ℕ). take m (drop a l)) torn.before ∙ front a m at old le

  drop_after : (a : ℕ) → at + n ≤ a → drop a new ≡ drop a old
  drop_after a le =
      let e : at + n + (a - (at + n)) ≡ a = omega (arith, le) in
      ap (λ (k : ℕ). drop k new) (sym e)
      ∙ sym (drop-drop (a - (at + n)) (at + n) new)
      ∙ ap (λ (l : List ℕ). drop (a - (at + n)) l) torn.after
      ∙ drop-drop (a - (at + n)) (at + n) old
      ∙ ap (λ (k : ℕ). drop k old) e

  slice_after : (a m : ℕ) → at + n ≤ a → slice a m new ≡ slice a m old
  slice_after a m le = ap (λ (l : List ℕ). take m l) (drop_after a le)

  byte_before : (i : ℕ) → i < at → byte new i ≡ byte old i
  byte_before i lt = sym (get_or-take at new i 0 lt) ∙ ap (λ (l : List ℕ). get_or l i 0) torn.before ∙ get_or-take at old i 0 lt

  byte_after : (i : ℕ) → at + n ≤ i → byte new i ≡ byte old i
  byte_after i le = at_drop new ∙ ap (λ (l : List ℕ). get_or l 0 0) (drop_after i le) ∙ sym (at_drop old)
    where
      at_drop : (l : List ℕ) → get_or l i 0 ≡ get_or (drop i l) 0 0
      at_drop l = sym (get_or-drop i l 0 0 ∙ ap (λ (k : ℕ). get_or l k 0) e)
        where
          e : i + 0 ≡ i
          e = omega arith

pub written_torn : (old : List ℕ) (at : ℕ) (bytes : List ℕ) → at + length bytes ≤ length old → Torn at (length bytes) old (written old at bytes)
written_torn old at bytes fits =
    let size : length (take at old) ≡ at = length-take-le at old (omega (arith, fits)) in
    record {
      before = take_at (take at old) (bytes ++ drop (at + length bytes) old) at size;
      after = sym (drop-drop (length bytes) at (written old at bytes))
          ∙ ap (λ (l : List ℕ). drop (length bytes) l) (drop_at (take at old) (bytes ++ drop (at + length bytes) old) at size)
          ∙ drop_at bytes (drop (at + length bytes) old) (length bytes) refl;
      as_long =
          omega (
            arith,
            fits,
            size,
            length-append (take at old) (bytes ++ drop (at + length bytes) old),
            length-append bytes (drop (at + length bytes) old),
            length-drop (at + length bytes) old,
          );
    }

-- Writes.

pub after_push : (bytes : List ℕ) (ws : List Write) (w : Write) → after_writes bytes (ws ++ w ∷ []) ≡ written (after_writes bytes ws) w.at w.bytes
after_push bytes [] w = refl
after_push bytes (v ∷ ws) w = after_push (written bytes v.at v.bytes) ws w

pub writes_size : (bytes : List ℕ) (ws : List Write) → length bytes ≡ 549426 → AllByRecursion IsOnDisk ws → length (after_writes bytes ws) ≡ 549426
writes_size bytes [] size all = size
writes_size bytes (w ∷ ws) size all =
    writes_size (written bytes w.at w.bytes) ws ((written_torn bytes w.at w.bytes (omega (arith, size, all.0))).as_long ∙ size) all.1

pub both_on : (ws vs : List Write) → AllByRecursion IsOnDisk ws → AllByRecursion IsOnDisk vs → AllByRecursion IsOnDisk (ws ++ vs)
both_on [] vs all more = more
both_on (w ∷ ws) vs all more = (all.0, both_on ws vs all.1 more)

pub image_on : (image : ℕ) (ws : List Write) (w : Write) (spare : ℕ) → AllByRecursion IsOnDisk ws → IsOnDisk w
    → AllByRecursion IsOnDisk (crashed image (record { synced = ws; loose = w ∷ []; spare = spare })).synced
image_on zero ws w spare on fits = on
image_on (suc zero) ws w spare on fits = both_on ws (w ∷ []) on (fits, tt)
image_on (suc (suc n)) ws w spare on fits =
    both_on ws (filled (suc (suc n)) w ∷ []) on (omega (arith, fits, length-replicate (length w.bytes) (suc (suc n))), tt)

-- what a crash with an image leaves of one write that isn't synced
pub image_torn : (image : ℕ) (ws : List Write) (w : Write) (spare : ℕ) → AllByRecursion IsOnDisk ws → IsOnDisk w
    → Torn w.at (length w.bytes) (after_writes no_bytes ws) (visible_bytes (crashed image (record { synced = ws; loose = w ∷ []; spare = spare })))
image_torn zero ws w spare on fits = record { before = refl; after = refl; as_long = refl }
image_torn (suc zero) ws w spare on fits =
    subst (Torn w.at (length w.bytes) (after_writes no_bytes ws)) (sym (after_push no_bytes ws w))
    (written_torn (after_writes no_bytes ws) w.at w.bytes (omega (arith, fits, writes_size no_bytes ws none_size on)))
image_torn (suc (suc n)) ws w spare on fits =
    let same : length (replicate (length w.bytes) (suc (suc n))) ≡ length w.bytes = length-replicate (length w.bytes) (suc (suc n)) in
    subst (Torn w.at (length w.bytes) (after_writes no_bytes ws))
    (sym (after_push no_bytes ws (record { at = w.at; bytes = replicate (length w.bytes) (suc (suc n)) })))
    (subst (λ (m : ℕ). Torn w.at m (after_writes no_bytes ws) (written (after_writes no_bytes ws) w.at (replicate (length w.bytes) (suc (suc n))))) same
    (written_torn (after_writes no_bytes ws) w.at (replicate (length w.bytes) (suc (suc n)))
    (omega (arith, same, fits, writes_size no_bytes ws none_size on))))

-- What is recorded, by its parts.

abbrev shown : Bool → Bool → ℕ → List ℕ → Option Hashkey
shown made opened i b = if made && opened then Some (body_hashkey i b) else None

same : (old new : List ℕ) (i : ℕ) → byte new 0 ≡ byte old 0 → byte new (gate_position i) ≡ byte old (gate_position i) → body i new ≡ body i old
    → recorded new i ≡ recorded old i
same old new i made gate b = λ j. shown (made j == 1) (gate j == 1) i (b j)

shut_parts : (made opened : Bool) (i : ℕ) (b : List ℕ) → opened ≡ false → shown made opened i b ≡ None
shut_parts false opened i b h = refl
shut_parts true opened i b h = ap (λ (o : Bool). shown true o i b) h

-- nothing is recorded at a gate that is closed
pub shut : (bytes : List ℕ) (i : ℕ) → is_gate_open bytes i ≡ false → recorded bytes i ≡ None
shut bytes i h = shut_parts (is_made bytes) (is_gate_open bytes i) i (body i bytes) h

-- where the same bytes say whether lock i is recorded, and it isn't, the body is of no matter
none_parts : (made opened : Bool) (i : ℕ) (b d : List ℕ) → shown made opened i b ≡ None → shown made opened i d ≡ None
none_parts false opened i b d h = refl
none_parts true false i b d h = refl
none_parts true true i b d h = absurd (cc h)

some_parts : (made opened : Bool) (i : ℕ) (b : List ℕ) (k : Hashkey) → shown made opened i b ≡ Some k → body_hashkey i b ≡ k
some_parts false opened i b k h = absurd (cc h)
some_parts true false i b k h = absurd (cc h)
some_parts true true i b k h = cc h

-- what is recorded is what the body tells
pub body_tells : (bytes : List ℕ) (i : ℕ) (k : Hashkey) → recorded bytes i ≡ Some k → body_hashkey i (body i bytes) ≡ k
body_tells bytes i k h = some_parts (is_made bytes) (is_gate_open bytes i) i (body i bytes) k h

-- and what the body tells is recorded at a gate that is open
pub open_tells : (bytes : List ℕ) (i : ℕ) → is_made bytes ≡ true → is_gate_open bytes i ≡ true → recorded bytes i ≡ Some (body_hashkey i (body i bytes))
open_tells bytes i made gate = λ j. shown (made j) (gate j) i (body i bytes)

-- A body is torn whose lock isn't recorded.
module _ (l n : ℕ) (lt : l < 8) (few : n ≤ 68673) (old new : List ℕ) (torn : Torn (body_position l) n old new) where
  body_made : byte new 0 ≡ byte old 0
  body_made = byte_before (body_position l) n old new torn 0 (omega arith)

  body_gate : (i : ℕ) → i < 8 → byte new (gate_position i) ≡ byte old (gate_position i)
  body_gate i lt_i = byte_before (body_position l) n old new torn (gate_position i) (omega (arith, lt_i))

  pub body_is_made : is_made new ≡ is_made old
  body_is_made = ap (λ (b : ℕ). b == 1) body_made

  body_other : (i : ℕ) → i ≢ l → body i new ≡ body i old
  body_other i apart = elim (cases_lt i l) [
    | inl less ↦ slice_before (body_position l) n old new torn (body_position i) 68673 (omega (arith, less))
    | inr more ↦ slice_after (body_position l) n old new torn (body_position i) 68673 (omega (arith, more, apart, few))
  ]

  -- it leaves what is recorded
  pub body_torn : recorded old l ≡ None → (i : ℕ) → i < 8 → recorded new i ≡ recorded old i
  body_torn none i lt_i = elim (cases_eq i l) [
    | inl here ↦ ap (recorded new) here ∙ still_none ∙ sym none ∙ ap (recorded old) (sym here)
    | inr apart ↦ same old new i body_made (body_gate i lt_i) (body_other i apart)
  ]
    where
      still_none : recorded new l ≡ None
      still_none =
          (λ j. shown (body_made j == 1) (body_gate l lt j == 1) l (body l new)) ∙ none_parts (is_made old) (is_gate_open old l) l (body l old) (body l new) none

-- A gate is torn.
module _ (l : ℕ) (lt : l < 8) (old new : List ℕ) (torn : Torn (gate_position l) 1 old new) where
  gate_made : byte new 0 ≡ byte old 0
  gate_made = byte_before (gate_position l) 1 old new torn 0 (omega arith)

  pub gate_is_made : is_made new ≡ is_made old
  gate_is_made = ap (λ (b : ℕ). b == 1) gate_made

  pub gate_body : (i : ℕ) → body i new ≡ body i old
  gate_body i = slice_after (gate_position l) 1 old new torn (body_position i) 68673 (omega (arith, lt))

  gate_other : (i : ℕ) → i ≢ l → byte new (gate_position i) ≡ byte old (gate_position i)
  gate_other i apart = elim (cases_lt i l) [
    | inl less ↦ byte_before (gate_position l) 1 old new torn (gate_position i) (omega (arith, less))
    | inr more ↦ byte_after (gate_position l) 1 old new torn (gate_position i) (omega (arith, more, apart))
  ]

  -- it leaves what is recorded for every other lock
  pub gate_others : (i : ℕ) → i ≢ l → recorded new i ≡ recorded old i
  gate_others i apart = same old new i gate_made (gate_other i apart) (gate_body i)
