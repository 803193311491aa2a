-- Where a journal's bytes lie on its disk, and what they say.
use Rattle.std.specs.Prelude.{◌≡◌, ◌==◌, ◌&&◌, ◌||◌, not, nat_lt, ◌*◌, ◌+◌, ℕ, zero, suc, Bool, List, [], ◌∷◌, ◌++◌, length, take, drop, get_or}
use Rattle.std.specs.Prelude.{Option, Some, None, if◌then◌else◌}
use Rattle.std.specs.List.{flat_map, All, list_all}
use Rattle.swap_base.specs.Text.{joined}
use Rattle.hash_signature.specs.declared.sig.Sig.{Sig}
use Rattle.hash_signature.specs.Signature.{text_values}
use Rattle.hashkey_path.specs.declared.hashkey.Hashkey.{Hashkey}
use Rattle.wallet_journal.specs.Device.{slice}

-- the byte at a place
abbrev pub byte : List ℕ → ℕ → ℕ
byte bytes at = get_or bytes at 0

-- the journal is made
abbrev pub is_made : List ℕ → Bool
is_made bytes = byte bytes 0 == 1

-- the deal's id
abbrev pub journal_deal_id : List ℕ → List ℕ
journal_deal_id bytes = slice 1 32 bytes

-- the party
abbrev pub journal_party : List ℕ → ℕ
journal_party bytes = byte bytes 33

-- where the gate of lock i stands
abbrev pub gate_position : ℕ → ℕ
gate_position i = 34 + i

-- where the body of lock i begins
abbrev pub body_position : ℕ → ℕ
body_position i = 42 + 68673 * i

-- the body of lock i
abbrev pub body : ℕ → List ℕ → List ℕ
body i bytes = slice (body_position i) 68673 bytes

-- the gate of lock i is open
abbrev pub is_gate_open : List ℕ → ℕ → Bool
is_gate_open bytes i = byte bytes (gate_position i) == 1

-- lock i is recorded
abbrev pub is_recorded : List ℕ → ℕ → Bool
is_recorded bytes i = is_made bytes && is_gate_open bytes i

-- the signatures that n times 2,144 bytes hold
abbrev pub body_signatures : ℕ → List ℕ → List Sig
body_signatures zero bytes = []
body_signatures (suc n) bytes = text_values (take 2144 bytes) ∷ body_signatures n (drop 2144 bytes)

-- how many vertices a body has
abbrev pub parse_count : List ℕ → ℕ
parse_count b = byte b 0

-- the vertices of a body
abbrev pub body_path : List ℕ → List ℕ
body_path b = slice 33 (parse_count b) b

-- the hashkey of a body: the number of vertices, the secret, the vertices and their signatures
abbrev pub body_hashkey : ℕ → List ℕ → Hashkey
body_hashkey i b = record { lock = i; secret = slice 1 32 b; path = body_path b; sigs = body_signatures (parse_count b) (drop (33 + parse_count b) b) }

-- the hashkey that is recorded for lock i, if any
abbrev pub recorded : List ℕ → ℕ → Option Hashkey
recorded bytes i = if is_recorded bytes i then Some (body_hashkey i (body i bytes)) else None

-- the body of a hashkey
abbrev pub encoded_body : Hashkey → List ℕ
encoded_body k = length k.path ∷ (k.secret ++ (k.path ++ flat_map joined k.sigs))

-- A signature has its bytes, which tell it.
pub record IsWholeSig (s : Sig) : Type 0 where
  pub bytes : length (joined s) ≡ 2144
  pub values : text_values (joined s) ≡ s

-- The hashkey's parts have their sizes, so that its body tells it.
pub record HasWholeParts (k : Hashkey) : Type 0 where
  pub secret : length k.secret ≡ 32
  pub sigs : All IsWholeSig k.sigs

-- each is below n
abbrev pub are_bounded : ℕ → List ℕ → Bool
are_bounded n xs = list_all (λ v. nat_lt v n) xs

-- a body has more vertices than the limit or one that is no party's
abbrev pub is_bad : ℕ → ℕ → List ℕ → Bool
is_bad limit n b = nat_lt limit (parse_count b) || not (are_bounded n (body_path b))

-- lock i is recorded with a bad body
abbrev pub is_damaged : ℕ → ℕ → List ℕ → ℕ → Bool
is_damaged limit n bytes i = is_recorded bytes i && is_bad limit n (body i bytes)
