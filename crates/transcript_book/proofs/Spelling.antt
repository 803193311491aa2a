-- What a line says is read back from it.
use Rattle.std.proofs.Common.{◌≡◌, ◌≢◌, ◌&&◌, ℕ, suc, ◌+◌, ◌^◌, ◌≤◌, ◌<◌, nat_le, nat_eq, Bool, true, false, cond, List, []}
use Rattle.std.proofs.Common.{◌∷◌, ◌++◌, length, map, decimal, Result, Ok, refl, sym, ap, ◌∙◌, arith, eqb-true}
use Rattle.std.specs.Prelude.{All, codes}
use Rattle.std.specs.Str.{bytes_eq}
use Rattle.std.specs.List.{list_all, AllByRecursion}
use Rattle.std.proofs.lemmas.Bool.{leb-true}
use Rattle.std.proofs.lemmas.Fmt.{decimal_nonempty}
use Rattle.std.proofs.lemmas.List.{append-nil}
use Rattle.hex.specs.Hex.{encode_lower}
use Rattle.swap_base.specs.Fault.{◌>>=◌}
use Rattle.swap_base.proofs.Lists.{and_parts}
use Rattle.hash_signature.specs.declared.sig.Sig.{Sig}
use Rattle.hashkey_path.specs.declared.hashkey.Hashkey.{Hashkey}
use Rattle.escrow_core.specs.declared.terms.Terms.{Terms}
use Rattle.escrow_core.specs.declared.reply.Reply.{Reply}
use Rattle.escrow_core.specs.declared.reply.Reply.TheVariants.{Accepted, Settled, NotCounterparty, NotParty, AlreadyUnlocked, WrongSecret, WrongPath}
use Rattle.escrow_core.specs.declared.reply.Reply.TheVariants.{WrongSignature, TooLate, StillLocked, NothingLocked, NotExpired, NoContract}
use Rattle.escrow_core.specs.declared.reply.Reply.TheVariants.{AlreadyPublished, NoFunds, SenderFull, ClockFull}
use Rattle.ledger_core.specs.declared.entry.Call.{Call}
use Rattle.ledger_core.specs.declared.entry.Call.TheVariants.{Publish, Unlock, Claim, Refund, Transfer}
use Rattle.ledger_core.specs.declared.entry.Sender.{Sender}
use Rattle.ledger_core.specs.declared.entry.Sender.TheVariants.{Party, Clock}
use Rattle.ledger_core.specs.declared.entry.What.{What}
use Rattle.ledger_core.specs.declared.entry.What.TheVariants.{Call as Made, Tick}
use Rattle.transcript_book.specs.declared.said.Said.{Said}
use Rattle.transcript_book.specs.declared.said.Misspelling.{Misspelling}
use Rattle.transcript_book.specs.Between.{between, spaced, separated_parts}
use Rattle.typed_books.specs.Typed.{IsDigest, IsSignature, IsTerms, IsHashkey, IsTypedCall, IsTypedReply, IsTypedSender, IsTypedWhat}
use Rattle.transcript_book.specs.Words.{list_word, signature_word, terms_words, key_words, call_words, reply_words, entry_words}
use Rattle.transcript_book.specs.Reading.{decimal_number, bounded_number, lower_hex_digest, parse_signature, parse_each_word, listed_field, parse_first_field, parse_locks, parse_publish_fields}
use Rattle.transcript_book.specs.Reading.{parse_unlock_fields, read_units, parse_call, make_reply, equals, call_said, tick_said, words_said, line_said}
use Rattle.transcript_book.proofs.SeparatedParts.{IsHigh, high_too, parts_between, high_between, all_append}
use Rattle.transcript_book.proofs.Numbers.{number_back, below_back, high_number}
use Rattle.transcript_book.proofs.Hex.{digest_back, signature_back, high_hex, high_signature, some_signature}

-- Steps of a reading.

-- the step was read
went : {A B : Type 0} (r : Result A Misspelling) (x : A) (f : A → Result B Misspelling) → r ≡ Ok x → (r >>= f) ≡ f x
went r x f e = ap (λ (q : Result _ Misspelling). q >>= f) e

-- Lists.

rest_of : {A : Type 0} (P : A → Type 0) (x : A) (xs : List A) → All P (x ∷ xs) → All P xs
rest_of P x xs h k d lt = h (suc k) d (omega arith)

first_of_all : {A : Type 0} (P : A → Type 0) (x : A) (xs : List A) → All P (x ∷ xs) → P x
first_of_all P x xs h = h 0 x (omega arith)

module _ {A : Type 0} (P : A → Type 0) (word : A → List ℕ) (f : List ℕ → Result A Misspelling) (back : (x : A) → P x
    → f (word x) ≡ Ok x) (high : (x : A) → P x → IsHigh 48 (word x)) (some : (x : A) → P x → 0 < length (word x)) where
  each_back : (xs : List A) → All P xs → parse_each_word f (map word xs) ≡ Ok xs
  each_back [] h = refl
  each_back (x ∷ xs) h =
      went (f (word x)) x (λ y. parse_each_word f (map word xs) >>= λ ys. Ok (y ∷ ys)) (back x (first_of_all P x xs h))
      ∙ went (parse_each_word f (map word xs)) xs (λ ys. Ok (x ∷ ys)) (each_back xs (rest_of P x xs h))

  all_high : (xs : List A) → All P xs → AllByRecursion (IsHigh 48) (map word xs)
  all_high [] h = tt
  all_high (x ∷ xs) h = (high x (first_of_all P x xs h), all_high xs (rest_of P x xs h))

  no_dash : (w rest : List ℕ) → IsHigh 48 w → 0 < length w → bytes_eq (w ++ rest) (codes "-") ≡ false
  no_dash [] rest h some = absurd (omega arith)
  no_dash (y ∷ w) rest h some = by (nat_eq y 45) refl
    where
      by : (t : Bool) → nat_eq y 45 ≡ t → (nat_eq y 45 && bytes_eq (w ++ rest) []) ≡ false
      by true e = let same : y ≡ 45 = eqb-true y 45 e in let low : 48 ≤ y =
          leb-true 48 y (and_parts (nat_le 48 y) (list_all (λ z. nat_le 48 z) w) h).0 in absurd (omega arith)
      by false e = ap (λ t. t && bytes_eq (w ++ rest) []) e

  not_dash : (w : List ℕ) (ws : List (List ℕ)) → IsHigh 48 w → 0 < length w → bytes_eq (between 44 (w ∷ ws)) (codes "-") ≡ false
  not_dash w [] h k = ap (λ (l : List ℕ). bytes_eq l (codes "-")) (sym (append-nil w)) ∙ no_dash w [] h k
  not_dash w (v ∷ ws) h k = no_dash w (44 ∷ between 44 (v ∷ ws)) h k

  pub list_back : (xs : List A) → All P xs → listed_field f (list_word (map word xs)) ≡ Ok xs
  list_back [] h = refl
  list_back (x ∷ xs) h =
      let px = first_of_all P x xs h in
      ap (λ t. cond t (Ok []) (parse_each_word f (separated_parts 44 (between 44 (word x ∷ map word xs))))) (not_dash (word x) (map word xs) (high x px) (some x px))
      ∙ ap (parse_each_word f) (parts_between 44 48 (word x) (map word xs) (omega arith) (high x px) (all_high xs (rest_of P x xs h)))
      ∙ each_back (x ∷ xs) h

  pub high_list : (xs : List A) → All P xs → IsHigh 44 (list_word (map word xs))
  high_list [] h = refl
  high_list (x ∷ xs) h =
      high_between 44 44 (word x) (map word xs) (omega arith) (high_too 44 48 (word x) (omega arith) (high x (first_of_all P x xs h)))
      (lower_all (map word xs) (all_high xs (rest_of P x xs h)))
    where
      lower_all : (ws : List (List ℕ)) → AllByRecursion (IsHigh 48) ws → AllByRecursion (IsHigh 44) ws
      lower_all [] k = tt
      lower_all (w ∷ ws) k = (high_too 44 48 w (omega arith) k.0, lower_all ws k.1)

-- Numbers of one byte, digests and signatures as members of a list.

some_number : (n : ℕ) → n < 256 → 0 < length (decimal n)
some_number n lt = decimal_nonempty n (omega arith)

path_back : (xs : List ℕ) → All (λ p. p < 256) xs → listed_field (bounded_number 256) (list_word (map decimal xs)) ≡ Ok xs
path_back xs h =
    list_back (λ p. p < 256) decimal (bounded_number 256) (λ n lt. below_back 256 n lt (omega arith)) (λ n lt.
    high_number n (omega arith)) some_number xs h

high_path : (xs : List ℕ) → All (λ p. p < 256) xs → IsHigh 44 (list_word (map decimal xs))
high_path xs h =
    high_list (λ p. p < 256) decimal (bounded_number 256) (λ n lt. below_back 256 n lt (omega arith)) (λ n lt.
    high_number n (omega arith)) some_number xs h

sigs_back : (xs : List Sig) → All IsSignature xs → listed_field parse_signature (list_word (map signature_word xs)) ≡ Ok xs
sigs_back xs h = list_back IsSignature signature_word parse_signature signature_back high_signature some_signature xs h

high_sigs : (xs : List Sig) → All IsSignature xs → IsHigh 44 (list_word (map signature_word xs))
high_sigs xs h = high_list IsSignature signature_word parse_signature signature_back high_signature some_signature xs h

pub field_back : {A : Type 0} (f : List ℕ → Result A Misspelling) (w : List ℕ) (x : A) (rest : List (List ℕ)) → f w ≡ Ok x
    → parse_first_field f (w ∷ rest) ≡ Ok (x, rest)
unfolding parse_first_field
field_back f w x rest e = went (f w) x (λ y. Ok (y, rest)) e

locks_back : (xs : List (List ℕ)) (rest : List (List ℕ)) → All IsDigest xs → parse_locks (length xs) (map encode_lower xs ++ rest) ≡ Ok (xs, rest)
locks_back [] rest h = refl
locks_back (x ∷ xs) rest h =
    went (parse_first_field lower_hex_digest (encode_lower x ∷ (map encode_lower xs ++ rest))) (x, map encode_lower xs ++ rest) (λ y. parse_locks (length xs) y.1 >>= λ r.
    Ok (y.0 ∷ r.0, r.1))
    (field_back lower_hex_digest (encode_lower x) x (map encode_lower xs ++ rest) (digest_back x (first_of_all IsDigest x xs h)))
    ∙ went (parse_locks (length xs) (map encode_lower xs ++ rest)) (xs, rest) (λ r. Ok (x ∷ r.0, r.1)) (locks_back xs rest (rest_of IsDigest x xs h))

-- Calls.

small_back : (n : ℕ) → n < 2 ^ 32 → bounded_number (2 ^ 32) (decimal n) ≡ Ok n
small_back n lt = below_back (2 ^ 32) n lt (omega arith)

small_field : (n : ℕ) (rest : List (List ℕ)) → n < 2 ^ 32 → parse_first_field (bounded_number (2 ^ 32)) (decimal n ∷ rest) ≡ Ok (n, rest)
small_field n rest lt = field_back (bounded_number (2 ^ 32)) (decimal n) n rest (small_back n lt)

byte_field : (n : ℕ) (rest : List (List ℕ)) → n < 256 → parse_first_field (bounded_number 256) (decimal n ∷ rest) ≡ Ok (n, rest)
byte_field n rest lt = field_back (bounded_number 256) (decimal n) n rest (below_back 256 n lt (omega arith))

number_field : (n : ℕ) (rest : List (List ℕ)) → n < 2 ^ 64 → parse_first_field decimal_number (decimal n ∷ rest) ≡ Ok (n, rest)
number_field n rest lt = field_back decimal_number (decimal n) n rest (number_back n lt)

terms_back : (t : Terms) (rest : List (List ℕ)) → IsTerms t → parse_publish_fields (length t.locks) (terms_words t ++ rest) ≡ Ok (Publish t, rest)
unfolding parse_publish_fields
terms_back t rest k =
    let locks = map encode_lower t.locks ++ rest in
    went _ (t.start, decimal t.delta ∷ decimal t.bound ∷ decimal t.timelock ∷ decimal t.amount ∷ locks) _ (small_field t.start _ k.start)
    ∙ went _ (t.delta, decimal t.bound ∷ decimal t.timelock ∷ decimal t.amount ∷ locks) _ (small_field t.delta _ k.delta)
    ∙ went _ (t.bound, decimal t.timelock ∷ decimal t.amount ∷ locks) _ (small_field t.bound _ k.bound)
    ∙ went _ (t.timelock, decimal t.amount ∷ locks) _ (small_field t.timelock _ k.timelock)
    ∙ went _ (t.amount, locks) _ (number_field t.amount _ k.amount)
    ∙ went _ (t.locks, rest) _ (locks_back t.locks rest k.locks)

key_back : (key : Hashkey) (rest : List (List ℕ)) → IsHashkey key → parse_unlock_fields (key_words key ++ rest) ≡ Ok (Unlock key, rest)
unfolding parse_unlock_fields
key_back key rest k =
    let sigs = list_word (map signature_word key.sigs) ∷ rest in
    let path = list_word (map decimal key.path) ∷ sigs in
    went _ (key.lock, encode_lower key.secret ∷ path) _ (byte_field key.lock _ k.lock)
    ∙ went _ (key.secret, path) _ (field_back lower_hex_digest (encode_lower key.secret) key.secret path (digest_back key.secret k.secret))
    ∙ went _ (key.path, sigs) _ (field_back (listed_field (bounded_number 256)) (list_word (map decimal key.path)) key.path sigs (path_back key.path k.path))
    ∙ went _ (key.sigs, rest) _ (field_back (listed_field parse_signature) (list_word (map signature_word key.sigs)) key.sigs rest
    (sigs_back key.sigs k.sigs))

units_back : (to units : ℕ) (rest : List (List ℕ)) → to < 256 → units < 2 ^ 64 → read_units (decimal to ∷ decimal units ∷ rest) ≡ Ok (Transfer to units, rest)
unfolding read_units
units_back to units rest lt small =
    went _ (to, decimal units ∷ rest) _ (byte_field to _ lt) ∙ went _ (units, rest) _ (number_field units rest small)

-- a publish states as many locks as the deal has
abbrev pub HasLocks : ℕ → Call → Type 0
HasLocks locks (Publish t) = length t.locks ≡ locks
HasLocks locks _ = Unit {0}

call_back : (locks : ℕ) (c : Call) (rest : List (List ℕ)) → HasLocks locks c → IsTypedCall c → parse_call locks (call_words c ++ rest) ≡ Ok (c, rest)
unfolding parse_call
call_back locks (Publish t) rest few k = ap (λ n. parse_publish_fields n (terms_words t ++ rest)) (sym few) ∙ terms_back t rest k
call_back locks (Unlock key) rest few k = key_back key rest k
call_back locks Claim rest few k = refl
call_back locks Refund rest few k = refl
call_back locks (Transfer to units) rest few k = units_back to units rest k.0 k.1

-- Replies.

reply_back : (r : Reply) → r ≢ SenderFull → r ≢ ClockFull → IsTypedReply r → make_reply (reply_words r) ≡ Ok r
reply_back Accepted s c k = refl
reply_back Settled s c k = refl
reply_back NotCounterparty s c k = refl
reply_back NotParty s c k = refl
reply_back AlreadyUnlocked s c k = refl
reply_back WrongSecret s c k = refl
reply_back WrongPath s c k = refl
reply_back WrongSignature s c k = refl
reply_back NothingLocked s c k = refl
reply_back NoContract s c k = refl
reply_back AlreadyPublished s c k = refl
reply_back (TooLate n) s c k = went (decimal_number (decimal n)) n (λ m. Ok (TooLate m)) (number_back n k)
reply_back (StillLocked n) s c k = went (bounded_number 256 (decimal n)) n (λ m. Ok (StillLocked m)) (below_back 256 n k (omega arith))
reply_back (NotExpired n) s c k = went (decimal_number (decimal n)) n (λ m. Ok (NotExpired m)) (number_back n k)
reply_back (NoFunds n) s c k = went (decimal_number (decimal n)) n (λ m. Ok (NoFunds m)) (number_back n k)
reply_back SenderFull s c k = absurd (s refl)
reply_back ClockFull s c k = absurd (c refl)

-- Entries.

abbrev said : Sender → What → Reply → Said
said s w r = record { sender = s; what = w; reply = r }

-- what is asked of an entry that is said
pub record IsSaid (locks : ℕ) (s : Sender) (w : What) (r : Reply) : Type 0 where
  pub sender : IsTypedSender s
  pub what : IsTypedWhat w
  pub reply : IsTypedReply r
  pub sender_not_full : r ≢ SenderFull
  pub clock_not_full : r ≢ ClockFull

call_said_back : (locks p : ℕ) (c : Call) (r : Reply) → HasLocks locks c → IsSaid locks (Party p) (Made c) r
    → words_said locks (entry_words (Party p) (Made c) r) ≡ Ok (said (Party p) (Made c) r)
unfolding words_said call_said
call_said_back locks p c r few k =
    let answer = codes "=" ∷ reply_words r in
    went _ (p, call_words c ++ answer) _ (byte_field p (call_words c ++ answer) k.sender)
    ∙ went _ (c, answer) _ (call_back locks c answer few k.what)
    ∙ went _ (tt, reply_words r) _ (field_back equals (codes "=") tt (reply_words r) refl)
    ∙ went _ r _ (reply_back r k.sender_not_full k.clock_not_full k.reply)

tick_said_back : (locks n : ℕ) → n < 2 ^ 32 → words_said locks (entry_words Clock (Tick n) Accepted) ≡ Ok (said Clock (Tick n) Accepted)
unfolding words_said tick_said
tick_said_back locks n lt = went _ (n, []) _ (small_field n [] lt)

-- no field holds a space

abbrev AreHigh : List (List ℕ) → Type 0
AreHigh ws = AllByRecursion (IsHigh 33) ws

up : (w : List ℕ) → IsHigh 48 w → IsHigh 33 w
up w h = high_too 33 48 w (omega arith) h

high_small : (n : ℕ) → n < 2 ^ 32 → IsHigh 33 (decimal n)
high_small n lt = up (decimal n) (high_number n (omega arith))

high_locks : (xs : List (List ℕ)) → All IsDigest xs → AreHigh (map encode_lower xs)
high_locks [] h = tt
high_locks (x ∷ xs) h = (up (encode_lower x) (high_hex x (first_of_all IsDigest x xs h).bytes), high_locks xs (rest_of IsDigest x xs h))

pub high_call : (c : Call) → IsTypedCall c → AreHigh (call_words c)
high_call (Publish t) k = (
  refl,
  (
    high_small t.start k.start,
    (
      high_small t.delta k.delta,
      (
        high_small t.bound k.bound,
        (
          high_small t.timelock k.timelock,
          (up (decimal t.amount) (high_number t.amount k.amount), high_locks t.locks k.locks),
        ),
      ),
    ),
  ),
)
high_call (Unlock key) k = (
  refl,
  (
    up (decimal key.lock) (high_number key.lock (let lt = k.lock in
        omega arith)),
    (
      up (encode_lower key.secret) (high_hex key.secret k.secret.bytes),
      (
        high_too 33 44 (list_word (map decimal key.path)) (omega arith) (high_path key.path k.path),
        (high_too 33 44 (list_word (map signature_word key.sigs)) (omega arith) (high_sigs key.sigs k.sigs), tt),
      ),
    ),
  ),
)
high_call Claim k = (refl, tt)
high_call Refund k = (refl, tt)
high_call (Transfer to units) k = (refl, (up (decimal to) (high_number to (let lt = k.0 in omega arith)), (up (decimal units) (high_number units k.1), tt)))

pub high_reply : (r : Reply) → IsTypedReply r → AreHigh (reply_words r)
high_reply Accepted k = (refl, tt)
high_reply Settled k = (refl, tt)
high_reply NotCounterparty k = (refl, tt)
high_reply NotParty k = (refl, tt)
high_reply AlreadyUnlocked k = (refl, tt)
high_reply WrongSecret k = (refl, tt)
high_reply WrongPath k = (refl, tt)
high_reply WrongSignature k = (refl, tt)
high_reply NothingLocked k = (refl, tt)
high_reply NoContract k = (refl, tt)
high_reply AlreadyPublished k = (refl, tt)
high_reply SenderFull k = (refl, tt)
high_reply ClockFull k = (refl, tt)
high_reply (TooLate n) k = (refl, (up (decimal n) (high_number n k), tt))
high_reply (StillLocked n) k = (refl, (up (decimal n) (high_number n (omega arith)), tt))
high_reply (NotExpired n) k = (refl, (up (decimal n) (high_number n k), tt))
high_reply (NoFunds n) k = (refl, (up (decimal n) (high_number n k), tt))

pub call_line_back : (locks p : ℕ) (c : Call) (r : Reply) → HasLocks locks c → IsSaid locks (Party p) (Made c) r
    → line_said locks (spaced (entry_words (Party p) (Made c) r)) ≡ Ok (said (Party p) (Made c) r)
unfolding line_said
call_line_back locks p c r few k =
    let high : AreHigh (decimal p ∷ (call_words c ++ codes "=" ∷ reply_words r)) = (
      up (decimal p) (high_number p (let lt = k.sender in
          omega arith)),
      all_append 33 (call_words c) (codes "=" ∷ reply_words r) (high_call c k.what) (refl, high_reply r k.reply),
    ) in
    ap (words_said locks) (parts_between 32 33 (codes "c") (decimal p ∷ (call_words c ++ codes "=" ∷ reply_words r)) (omega arith) refl high)
    ∙ call_said_back locks p c r few k

pub tick_line_back : (locks n : ℕ) → n < 2 ^ 32 → line_said locks (spaced (entry_words Clock (Tick n) Accepted)) ≡ Ok (said Clock (Tick n) Accepted)
unfolding line_said
tick_line_back locks n lt =
    ap (words_said locks) (parts_between 32 33 (codes "t") (decimal n ∷ []) (omega arith) refl (high_small n lt, tt)) ∙ tick_said_back locks n lt
