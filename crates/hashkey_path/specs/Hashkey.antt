-- What a hashkey is, and when it is valid on an arc (Herlihy 2018, section 4.1).
use Rattle.std.specs.Prelude.{◌≡◌, ◌==◌, ◌&&◌, ℕ, ◌+◌, Bool, true, false, not, IsTrue, List, [], ◌∷◌, ◌++◌, length, slice_index_or, Option, Some, None}
use Rattle.std.specs.Prelude.{if◌then◌else◌}
use Rattle.std.specs.Str.{bytes_eq}
use Rattle.sha2.specs.Sha256.{sha256}
use Rattle.swap_base.specs.Lists.{same_list}
use Rattle.swap_base.specs.Text.{joined}
use Rattle.swap_digraph.specs.declared.deal.Deal.{Deal}
use Rattle.swap_digraph.specs.declared.deal.Mode.{Mode}
use Rattle.swap_digraph.specs.declared.deal.Mode.TheVariants.{Timelocks, Hashkeys}
use Rattle.swap_digraph.specs.Graph.{is_path, first_is, last_is, IsConnectingPath}
use Rattle.swap_digraph.specs.Deal.{counterparty, lock_leader}
use Rattle.hash_signature.specs.declared.sig.Sig.{Sig}
use Rattle.hash_signature.specs.Signature.{hashed_value, is_valid_signature}
use Rattle.hashkey_path.specs.declared.hashkey.Hashkey.{Hashkey}
use Rattle.hashkey_path.specs.declared.hashkey.HashkeyAnswer.{HashkeyAnswer}
use Rattle.hashkey_path.specs.declared.hashkey.HashkeyAnswer.TheVariants.{Valid, WrongSecret, WrongPath, WrongSignature}

-- whether two hashkeys have the same lock, secret, path and signatures
abbrev pub same_key : Hashkey → Hashkey → Bool
same_key k l =
    (k.lock == l.lock) && bytes_eq k.secret l.secret && same_list (λ x y. x == y) k.path l.path
    && same_list (λ s t. same_list bytes_eq s t) k.sigs l.sigs

-- the public key of party p for lock i
abbrev pub party_public_key : Deal → ℕ → ℕ → List ℕ
party_public_key d p i = slice_index_or (slice_index_or d.keys p []) i []

-- the bytes of the signature of the next suffix, none after the last
abbrev pub inner_bytes : List Sig → List ℕ
inner_bytes [] = []
inner_bytes (s ∷ sigs) = joined s

-- what the first vertex of a suffix signs: the deal, the lock, the suffix, the secret and the
-- signature of the next suffix
unfoldable pub signing_message : List ℕ → ℕ → List ℕ → List ℕ → List Sig → List ℕ
signing_message id lock path secret inner = sha256 (4 ∷ id ++ lock ∷ length path ∷ path ++ secret ++ inner_bytes inner)

-- whether s is the signature of v over the suffix that it begins, where inner are the signatures
-- after s
unfoldable pub is_signed : Deal → ℕ → List ℕ → ℕ → List ℕ → Sig → List Sig → Bool
is_signed d lock secret v rest s inner = is_valid_signature (party_public_key d v lock) (signing_message d.id lock (v ∷ rest) secret inner) s

-- each signature is that of its vertex over the suffix from there
abbrev pub are_signed : Deal → ℕ → List ℕ → List ℕ → List Sig → Bool
are_signed d lock secret (v ∷ rest) (s ∷ inner) = is_signed d lock secret v rest s inner && are_signed d lock secret rest inner
are_signed d lock secret _ _ = true

-- the first place, counted from j, with a signature that its vertex didn't make over its suffix
abbrev pub wrong_signature : ℕ → Deal → ℕ → List ℕ → List ℕ → List Sig → Option ℕ
wrong_signature j d lock secret (v ∷ rest) (s ∷ inner) =
    if is_signed d lock secret v rest s inner then wrong_signature (j + 1) d lock secret rest inner else Some j
wrong_signature j d lock secret _ _ = None

abbrev pub is_wrong_secret : List ℕ → Hashkey → Bool
is_wrong_secret hashlock key = not (bytes_eq (hashed_value key.secret) hashlock)

-- In hashkeys mode the path leads from the arc's counterparty to the lock's leader, with as many
-- signatures as vertices; in timelocks mode there is none.
abbrev pub is_wrong_path : Deal → ℕ → Mode → Hashkey → Bool
is_wrong_path d a Timelocks key = not ((length key.path == 0) && (length key.sigs == 0))
is_wrong_path d a Hashkeys key =
    not (is_path d.graph key.path && first_is (counterparty d a) key.path && last_is (lock_leader d key.lock) key.path && (length key.path == length key.sigs))

abbrev pub is_wrong_signature : Deal → Mode → Hashkey → Bool
is_wrong_signature d Timelocks key = false
is_wrong_signature d Hashkeys key = not (are_signed d key.lock key.secret key.path key.sigs)

-- whether the hashkey is valid on the arc under the hashlock
abbrev pub is_valid : Deal → ℕ → List ℕ → Hashkey → Bool
is_valid d a hashlock key = not (is_wrong_secret hashlock key) && not (is_wrong_path d a d.mode key) && not (is_wrong_signature d d.mode key)

abbrev pub of_signatures : Mode → Option ℕ → HashkeyAnswer
of_signatures Timelocks place = Valid
of_signatures Hashkeys None = Valid
of_signatures Hashkeys (Some j) = WrongSignature j

-- the first thing that is wrong with the hashkey but for its secret
abbrev pub path_answer : Deal → ℕ → Hashkey → HashkeyAnswer
path_answer d a key =
    if is_wrong_path d a d.mode key then WrongPath else of_signatures d.mode (wrong_signature 0 d key.lock key.secret key.path key.sigs)

-- the first thing that is wrong with the hashkey
unfoldable pub hashkey_answer : Deal → ℕ → List ℕ → Hashkey → HashkeyAnswer
hashkey_answer d a hashlock key = if is_wrong_secret hashlock key then WrongSecret else path_answer d a key

-- Each signature is that of its vertex over the suffix that begins there, all suffixes at once.
abbrev pub SignsEachSuffix : Deal → Hashkey → Type 0
SignsEachSuffix d key =
    (past rest : List ℕ) (v : ℕ) → key.path ≡ past ++ v ∷ rest → (before inner : List Sig) (s : Sig) → length before ≡ length past
    → key.sigs ≡ before ++ s ∷ inner → IsTrue (is_signed d key.lock key.secret v rest s inner)

-- The parts of a valid hashkey but for its secret, by mode.
abbrev pub HasPath : Mode → Deal → ℕ → Hashkey → Type 0
HasPath Timelocks d a key = (key.path ≡ []) × (key.sigs ≡ [])
HasPath Hashkeys d a key =
    IsConnectingPath d.graph (counterparty d a) (lock_leader d key.lock) key.path × (length key.sigs ≡ length key.path) × SignsEachSuffix d key

-- A hashkey that is valid on arc a under the hashlock.
pub record IsValidHashkey (d : Deal) (a : ℕ) (hashlock : List ℕ) (key : Hashkey) : Type 0 where
  pub secret : hashed_value key.secret ≡ hashlock
  pub path : HasPath d.mode d a key
