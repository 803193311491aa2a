-- A record that is stopped within one of its four calls of a disk in memory, which then crashes:
-- the hashkey is recorded exactly where the gate was written and what isn't synced holds its new
-- bytes.
use Rattle.std.proofs.Common.{◌≡◌, ℕ, zero, suc, ◌+◌, ◌≤◌, ◌<◌, Bool, true, false, cond, ◌==◌, ◌&&◌, nat_le, List, [], ◌∷◌}
use Rattle.std.proofs.Common.{◌++◌, length, get_or, Some, None, refl, sym, ◌∙◌, ap, arith}
use Rattle.std.specs.Prelude.{Result, Ok, Err, IfErr}
use Rattle.std.specs.List.{AllByRecursion}
use Rattle.std.proofs.lemmas.List.{get_or-drop}
use Rattle.std.proofs.lemmas.Bool.Decides.{nat_tests}
use Rattle.hashkey_path.specs.declared.hashkey.Hashkey.{Hashkey}
use Rattle.wallet_journal.specs.Device.{Write, written}
use Rattle.wallet_journal.specs.Layout.{byte, is_made, recorded, gate_position, body_position, encoded_body, HasWholeParts}
use Rattle.wallet_journal.specs.Held.{Held, no_bytes, after_writes, visible_bytes, IsOnDisk}
use Rattle.wallet_journal.specs.Memory.{crashed}
use Rattle.wallet_journal.specs.Recording.{body_write, gate_write, IsStoppedRecording}
use Rattle.wallet_journal.specs.Stopped.{bytes_left, is_kept_after_crash, kept_key, IsOfWrites}
use Rattle.wallet_journal.proofs.Bytes.{drop_written, written_torn}
use Rattle.wallet_journal.proofs.Tells.{body_size}
use Rattle.wallet_journal.proofs.Crash.{body_torn, shut, stored, mid}
use Rattle.wallet_journal.proofs.Writes.{after_push}
use Rattle.wallet_journal.proofs.Holds.{none_size, writes_size, crash_left}

module _ (k : Hashkey) (ws : List Write) (spare : ℕ) (on : AllByRecursion IsOnDisk ws) (made : is_made (after_writes no_bytes ws) ≡ true) (lt : k.lock < 8)
    (none : recorded (after_writes no_bytes ws) k.lock ≡ None) (few : length k.path ≤ 32) (paired : length k.sigs ≡ length k.path) (told : HasWholeParts k) where
  abbrev old : List ℕ
  old = after_writes no_bytes ws

  sized : length (after_writes no_bytes ws) ≡ 549426
  sized = writes_size no_bytes ws none_size on

  -- stopped within the first write or the first sync
  abbrev pub early : Held
  early = record { synced = ws; loose = body_write k ∷ []; spare = spare }

  -- stopped within the second write or the second sync
  abbrev pub late : Held
  late = record { synced = ws ++ body_write k ∷ []; loose = gate_write k ∷ []; spare = spare }

  fits : body_position k.lock + length (encoded_body k) ≤ 549426
  fits = omega (arith, body_size k paired told, few, lt)

  pub early_none : (image : ℕ) → recorded (visible_bytes (crashed image early)) k.lock ≡ None
  early_none image =
      let left = crash_left image early (on, (fits, tt)) in
      let small : length (encoded_body k) ≤ 68673 = omega (arith, body_size k paired told, few) in
      ap (λ (c : List ℕ). recorded c k.lock) left.2
      ∙ body_torn k.lock (length (encoded_body k)) lt small old left.0 left.1 none k.lock lt ∙ none

  abbrev staged : List ℕ
  staged = mid k old sized made lt none few paired told

  is_staged : after_writes no_bytes (ws ++ body_write k ∷ []) ≡ staged
  is_staged = after_push no_bytes ws (body_write k)

  staged_size : length staged ≡ 549426
  staged_size = (written_torn old (body_position k.lock) (encoded_body k) (omega (arith, fits, sized))).as_long ∙ sized

  staged_none : recorded staged k.lock ≡ None
  staged_none =
      let small : length (encoded_body k) ≤ 68673 = omega (arith, body_size k paired told, few) in
      body_torn k.lock (length (encoded_body k)) lt small old staged (written_torn old (body_position k.lock) (encoded_body k) (omega
      (arith, fits, sized))) none k.lock lt
      ∙ none

  pub late_one : recorded (visible_bytes (crashed 1 late)) k.lock ≡ Some k
  late_one =
      ap (λ (c : List ℕ). recorded c k.lock) (after_push no_bytes (ws ++ body_write k ∷ []) (gate_write k)
      ∙ ap (λ (b : List ℕ). written b (gate_position k.lock) (1 ∷ [])) is_staged)
      ∙ (stored k old sized made lt none few paired told).here

  pub late_zero : recorded (visible_bytes (crashed 0 late)) k.lock ≡ None
  late_zero = ap (λ (c : List ℕ). recorded c k.lock) is_staged ∙ staged_none

  pub late_other : (n : ℕ) → recorded (visible_bytes (crashed (suc (suc n)) late)) k.lock ≡ None
  late_other n =
      let image = suc (suc n) in
      let end = written staged (gate_position k.lock) (suc (suc n) ∷ []) in
      let closed : (suc (suc n) == 1) ≡ false = grind (arith, nat_tests) in
      let room : gate_position k.lock + 1 ≤ length staged = omega (arith, staged_size, lt) in
      let gate : byte (written staged (gate_position k.lock) (suc (suc n) ∷ [])) (gate_position k.lock) ≡ suc (suc n) =
      sym (get_or-drop (gate_position k.lock) (written staged (gate_position k.lock) (suc (suc n) ∷ [])) 0 0
      ∙ ap (λ (m : ℕ). get_or (written staged (gate_position k.lock) (suc (suc n) ∷ [])) m 0) (omega arith))
      ∙ ap (λ (l : List ℕ). get_or l 0 0) (drop_written staged (gate_position k.lock) (suc (suc n) ∷ []) room) in
      ap (λ (c : List ℕ). recorded c k.lock) (after_push no_bytes (ws ++ body_write k ∷ []) (record { at = gate_position k.lock; bytes = suc (suc n) ∷ [] })
      ∙ ap (λ (b : List ℕ). written b (gate_position k.lock) (suc (suc n) ∷ [])) is_staged)
      ∙ shut (written staged (gate_position k.lock) (suc (suc n) ∷ [])) k.lock (ap (λ (b : ℕ). b == 1) gate ∙ closed)

and_false : (b : Bool) → (b && false) ≡ false
and_false true = refl
and_false false = refl

-- what holds of each fault
pub every_err : {A E : Type 0} {P : E → Type 0} (r : Result A E) → ((e : E) → P e) → IfErr r P
every_err (Ok x) f = tt
every_err (Err e) f = f e

-- what holds of each fault, from what the record left of its writes
module _ (k : Hashkey) (ws : List Write) (bytes : List ℕ) (of : IsOfWrites bytes ws) (is_there : is_made bytes ≡ true) (lt : k.lock < 8)
    (unrecorded : recorded bytes k.lock ≡ None) (few : length k.path ≤ 32) (paired : length k.sigs ≡ length k.path) (told : HasWholeParts k) where
  made_of : is_made (after_writes no_bytes ws) ≡ true
  made_of = ap is_made (sym of.reads) ∙ is_there

  none_of : recorded (after_writes no_bytes ws) k.lock ≡ None
  none_of = ap (λ (b : List ℕ). recorded b k.lock) (sym of.reads) ∙ unrecorded

  at_first : (n image : ℕ) (ws' loose' : List Write) → is_kept_after_crash n image ≡ false → ws' ≡ ws → loose' ≡ body_write k ∷ []
      → recorded (bytes_left image ws' loose') k.lock ≡ kept_key k n image
  at_first n image ws' loose' shut is is' =
      (λ i. recorded (bytes_left image (is i) (is' i)) k.lock) ∙ early_none k ws 0 of.on made_of lt none_of few paired told image
      ∙ sym (ap (λ (b : Bool). cond b (Some k) None) shut)

  at_last : (image n : ℕ) → recorded (bytes_left image (ws ++ body_write k ∷ []) (gate_write k ∷ [])) k.lock ≡ kept_key k (suc (suc n)) image
  at_last zero n =
      late_zero k ws 0 of.on made_of lt none_of few paired told ∙ sym (ap (λ (b : Bool). cond b (Some k) None) (and_false (nat_le 2 (suc (suc n)))))
  at_last (suc zero) n =
      let late : nat_le 2 (suc (suc n)) ≡ true = grind (arith, nat_tests) in
      late_one k ws 0 of.on made_of lt none_of few paired told ∙ sym (ap (λ (b : Bool). cond (b && true) (Some k) None) late)
  at_last (suc (suc image)) n =
      let closed : (suc (suc image) == 1) ≡ false = grind (arith, nat_tests) in
      late_other k ws 0 of.on made_of lt none_of few paired told image
      ∙ sym (ap (λ (b : Bool). cond b (Some k) None) (ap (λ (b : Bool). nat_le 2 (suc (suc n)) && b) closed ∙ and_false (nat_le 2 (suc (suc n)))))

  pub left_as : (n image : ℕ) (ws' loose' : List Write) → IsStoppedRecording n k ws ws' loose' → recorded (bytes_left image ws' loose') k.lock ≡ kept_key k n image
  left_as zero image ws' loose' h = at_first 0 image ws' loose' refl h.0 h.1
  left_as (suc zero) image ws' loose' h = at_first 1 image ws' loose' refl h.0 h.1
  left_as (suc (suc n)) image ws' loose' h = (λ i. recorded (bytes_left image (h.0 i) (h.1 i)) k.lock) ∙ at_last image n
