-- A row is read back from its line.
use Rattle.std.proofs.Common.{◌≡◌, ◌⊎◌, ◌&&◌, ◌||◌, ◌==◌, ◌≤◌, ◌<◌, ℕ, nat_le, nat_eq, Bool, true, false, cond, List, [], ◌∷◌, codes, length, map}
use Rattle.std.proofs.Common.{Option, Some, None, Result, Ok, refl, ap, ◌∙◌, inl, inr, arith, eqb-true}
use Rattle.std.specs.Prelude.{All}
use Rattle.std.specs.Str.{bytes_eq}
use Rattle.std.specs.List.{list_all}
use Rattle.std.proofs.lemmas.Bool.{leb-true, le-leb}
use Rattle.hex.specs.Hex.{encode_lower}
use Rattle.swap_base.specs.Fault.{◌>>=◌}
use Rattle.swap_base.proofs.Lists.{and_parts, and_both}
use Rattle.typed_books.specs.Typed.{IsDigest}
use Rattle.offer_header.specs.Names.{is_name, is_name_byte}
use Rattle.transcript_book.specs.declared.said.Misspelling.{Misspelling}
use Rattle.transcript_book.specs.Between.{spaced}
use Rattle.transcript_book.specs.Reading.{listed_field, misspelt, lower_hex_digest}
use Rattle.transcript_book.specs.Words.{list_word}
use Rattle.transcript_book.proofs.SeparatedParts.{IsHigh, high_between, high_too, parts_between}
use Rattle.transcript_book.proofs.Hex.{digest_back, high_hex, some_hex}
use Rattle.transcript_book.proofs.Spelling.{field_back, list_back, high_list}
use Rattle.party_rows.specs.Digests.{this_word}
use Rattle.party_rows.specs.declared.row.Row.{Row}
use Rattle.party_rows.specs.declared.row.NamedRow.{NamedRow}
use Rattle.party_rows.specs.Row.{hashlock_said, hashlock_word, name_said, parse_row, row_said, row_words}

went : {A B : Type 0} (r : Result A Misspelling) (x : A) (f : A → Result B Misspelling) → r ≡ Ok x → (r >>= f) ≡ f x
went r x f e = ap (λ (q : Result _ Misspelling). q >>= f) e

-- ---- no field holds a space

either : (a b : Bool) → (a || b) ≡ true → (a ≡ true) ⊎ (b ≡ true)
either true b h = inl refl
either false b h = inr h

from_low : (n x : ℕ) → 33 ≤ n → nat_le n x ≡ true → nat_le 33 x ≡ true
from_low n x le h = let low : n ≤ x = leb-true n x h in le-leb 33 x (omega arith)

in_range : (n m x : ℕ) → 33 ≤ n → (nat_le n x && nat_le x m) ≡ true → nat_le 33 x ≡ true
in_range n m x le h = from_low n x le (and_parts (nat_le n x) (nat_le x m) h).0

is_it : (n x : ℕ) → 33 ≤ n → (x == n) ≡ true → nat_le 33 x ≡ true
is_it n x le h = let same : x ≡ n = eqb-true x n h in le-leb 33 x (omega arith)

high_byte : (x : ℕ) → is_name_byte x ≡ true → nat_le 33 x ≡ true
high_byte x h = five (either _ (x == 45) h)
  where
    two : ((nat_le 97 x && nat_le x 122) ≡ true) ⊎ ((nat_le 65 x && nat_le x 90) ≡ true) → nat_le 33 x ≡ true
    two (inl e) = in_range 97 122 x (omega arith) e
    two (inr e) = in_range 65 90 x (omega arith) e

    three : (((nat_le 97 x && nat_le x 122) || (nat_le 65 x && nat_le x 90)) ≡ true) ⊎ ((nat_le 48 x && nat_le x 57) ≡ true) → nat_le 33 x ≡ true
    three (inl e) = two (either _ (nat_le 65 x && nat_le x 90) e)
    three (inr e) = in_range 48 57 x (omega arith) e

    four : ((((nat_le 97 x && nat_le x 122) || (nat_le 65 x && nat_le x 90)) || (nat_le 48 x && nat_le x 57)) ≡ true) ⊎ ((x == 95) ≡ true) → nat_le 33 x ≡ true
    four (inl e) = three (either _ (nat_le 48 x && nat_le x 57) e)
    four (inr e) = is_it 95 x (omega arith) e

    five : (((((nat_le 97 x && nat_le x 122) || (nat_le 65 x && nat_le x 90)) || (nat_le 48 x && nat_le x 57)) || (x == 95)) ≡ true) ⊎ ((x == 45) ≡ true)
        → nat_le 33 x ≡ true
    five (inl e) = four (either _ (x == 95) e)
    five (inr e) = is_it 45 x (omega arith) e

high_bytes : (w : List ℕ) → list_all is_name_byte w ≡ true → IsHigh 33 w
high_bytes [] h = refl
high_bytes (x ∷ w) h =
    let k = and_parts (is_name_byte x) (list_all is_name_byte w) h in
    and_both (nat_le 33 x) (list_all (λ y. nat_le 33 y) w) (high_byte x k.0) (high_bytes w k.1)

high_name : (name : List ℕ) → is_name name ≡ true → IsHigh 33 name
unfolding is_name
high_name name h = high_bytes name (and_parts (nat_le 1 (length name) && nat_le (length name) 16) (list_all is_name_byte name) h).1

some_digest : (x : List ℕ) → IsDigest x → 0 < length (encode_lower x)
some_digest x k = let size : length x ≡ 32 = k.size in some_hex x (omega arith)

high_digest : (x : List ℕ) → IsDigest x → IsHigh 48 (encode_lower x)
high_digest x k = high_hex x k.bytes

-- a hashlock that is there is a digest
abbrev pub MayBeDigest : Option (List ℕ) → Type 0
MayBeDigest None = Unit {0}
MayBeDigest (Some x) = IsDigest x

high_hashlock : (o : Option (List ℕ)) → MayBeDigest o → IsHigh 33 (hashlock_word o)
high_hashlock None k = refl
high_hashlock (Some x) k = high_too 33 48 (encode_lower x) (omega arith) (high_digest x k)

high_keys : (xs : List (List ℕ)) → All IsDigest xs → IsHigh 33 (list_word (map encode_lower xs))
high_keys xs k =
    high_too 33 44 (list_word (map encode_lower xs)) (omega arith) (high_list IsDigest encode_lower lower_hex_digest digest_back high_digest some_digest xs k)

-- ---- each field is read back

not_dash : (w : List ℕ) → IsHigh 48 w → 0 < length w → bytes_eq w (codes "-") ≡ false
not_dash [] h some = absurd (omega arith)
not_dash (y ∷ w) h some = by (nat_eq y 45) refl
  where
    by : (t : Bool) → nat_eq y 45 ≡ t → (nat_eq y 45 && bytes_eq w []) ≡ false
    by true e = let same : y ≡ 45 = eqb-true y 45 e in let low : 48 ≤ y =
        leb-true 48 y (and_parts (nat_le 48 y) (list_all (λ z. nat_le 48 z) w) h).0 in absurd (omega arith)
    by false e = ap (λ t. t && bytes_eq w []) e

hashlock_back : (o : Option (List ℕ)) → MayBeDigest o → hashlock_said (hashlock_word o) ≡ Ok o
hashlock_back None k = refl
hashlock_back (Some x) k =
    let read : Result (Option (List ℕ)) Misspelling = lower_hex_digest (encode_lower x) >>= λ hashlock. Ok (Some hashlock) in
    ap (λ t. cond t (Ok None) read) (not_dash (encode_lower x) (high_digest x k) (some_digest x k))
    ∙ went (lower_hex_digest (encode_lower x)) x (λ hashlock. Ok (Some hashlock)) (digest_back x k)

keys_back : (xs : List (List ℕ)) → All IsDigest xs → listed_field lower_hex_digest (list_word (map encode_lower xs)) ≡ Ok xs
keys_back xs k = list_back IsDigest encode_lower lower_hex_digest digest_back high_digest some_digest xs k

name_back : (name : List ℕ) → is_name name ≡ true → name_said name ≡ Ok name
name_back name k = ap (λ t. cond t (Ok name) misspelt) k

abbrev pub named_row : List ℕ → Row → NamedRow
named_row name row = record { name = name; row = row }

said_back : (name : List ℕ) (row : Row) → is_name name ≡ true → MayBeDigest row.hashlock → All IsDigest row.keys
    → row_said (row_words name row) ≡ Ok (named_row name row)
unfolding row_said
said_back name row n h k =
    let keys = list_word (map encode_lower row.keys) ∷ [] in
    let hashlock = hashlock_word row.hashlock ∷ keys in
    went _ (tt, name ∷ hashlock) _ (field_back (this_word (codes "row")) (codes "row") tt (name ∷ hashlock) refl)
    ∙ went _ (name, hashlock) _ (field_back name_said name name hashlock (name_back name n))
    ∙ went _ (row.hashlock, keys) _ (field_back hashlock_said (hashlock_word row.hashlock) row.hashlock keys (hashlock_back row.hashlock h))
    ∙ went _ (row.keys, []) _ (field_back (listed_field lower_hex_digest) (list_word (map encode_lower row.keys)) row.keys [] (keys_back row.keys k))

pub row_back : (name : List ℕ) (row : Row) → is_name name ≡ true → MayBeDigest row.hashlock → All IsDigest row.keys
    → parse_row (spaced (row_words name row)) ≡ Ok (named_row name row)
unfolding parse_row
row_back name row n h k =
    ap row_said
    (parts_between 32 33 (codes "row") (name ∷ hashlock_word row.hashlock ∷ list_word (map encode_lower row.keys) ∷ []) (omega arith) refl
    (high_name name n, (high_hashlock row.hashlock h, (high_keys row.keys k, tt))))
    ∙ said_back name row n h k

-- no byte of the line is below a space
pub row_high : (name : List ℕ) (row : Row) → is_name name ≡ true → MayBeDigest row.hashlock → All IsDigest row.keys
    → IsHigh 32 (spaced (row_words name row))
row_high name row n h k =
    let keys = list_word (map encode_lower row.keys) in
    high_between 32 32 (codes "row") (name ∷ hashlock_word row.hashlock ∷ keys ∷ []) (omega arith) refl (
      high_too 32 33 name (omega arith) (high_name name n),
      (
        high_too 32 33 (hashlock_word row.hashlock) (omega arith) (high_hashlock row.hashlock h),
        (high_too 32 33 keys (omega arith) (high_keys row.keys k), tt),
      ),
    )
