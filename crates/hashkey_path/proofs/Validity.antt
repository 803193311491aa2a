-- When a hashkey is valid: all suffixes at once, against a walk over them.
use Rattle.std.proofs.Common.{◌≡◌, ℕ, ◌+◌, Bool, true, false, cond, ◌&&◌, ◌==◌, IsTrue, List, [], ◌∷◌, ◌++◌, length, Option, Some, None, is_none, refl}
use Rattle.std.proofs.Common.{◌↔◌, sym, ap, ◌∙◌, arith, nat_eq, eqb-true, eq-eqb}
use Rattle.std.proofs.lemmas.Bool.{not-false, not_from_true}
use Rattle.std.proofs.lemmas.List.{nil_from_length}
use Rattle.std.specs.Str.{bytes_eq}
use Rattle.swap_base.proofs.Lists.{and_parts, and_both}
use Rattle.swap_digraph.specs.declared.deal.Deal.{Deal}
use Rattle.swap_digraph.specs.declared.deal.Mode.{Mode}
use Rattle.swap_digraph.specs.declared.deal.Mode.TheVariants.{Timelocks, Hashkeys}
use Rattle.swap_digraph.specs.Graph.{is_path, first_is, last_is}
use Rattle.swap_digraph.specs.Deal.{counterparty, lock_leader}
use Rattle.hash_signature.specs.declared.sig.Sig.{Sig}
use Rattle.hash_signature.specs.Signature.{hashed_value}
use Rattle.hashkey_path.specs.declared.hashkey.Hashkey.{Hashkey}
use Rattle.hashkey_path.specs.declared.hashkey.HashkeyAnswer.{HashkeyAnswer}
use Rattle.hashkey_path.specs.declared.hashkey.HashkeyAnswer.TheVariants.{Valid, WrongSecret, WrongPath}
use Rattle.hashkey_path.specs.Hashkey.{is_signed, are_signed, wrong_signature, is_wrong_secret, is_wrong_path, of_signatures, hashkey_answer, HasPath}
use Rattle.hashkey_path.specs.Hashkey.{IsValidHashkey}

-- The walk over the signatures.

signed_head : (b : Bool) (o : Option ℕ) (j : ℕ) → cond b o (Some j) ≡ None → (b ≡ true) × (o ≡ None)
signed_head true o j e = (refl, e)
signed_head false o j e = absurd (cc e)

-- where no place is wrong, this one isn't
at_place : (j : ℕ) (d : Deal) (lock : ℕ) (secret past : List ℕ) (v : ℕ) (rest : List ℕ) (before : List Sig) (s : Sig) (inner : List Sig)
    → length before ≡ length past → wrong_signature j d lock secret (past ++ v ∷ rest) (before ++ s ∷ inner) ≡ None
    → is_signed d lock secret v rest s inner ≡ true
at_place j d lock secret [] v rest [] s inner l e =
    (signed_head (is_signed d lock secret v rest s inner) (wrong_signature (j + 1) d lock secret rest inner) j e).0
at_place j d lock secret [] v rest (t ∷ before) s inner l e = absurd (omega arith)
at_place j d lock secret (u ∷ past) v rest [] s inner l e = absurd (omega arith)
at_place j d lock secret (u ∷ past) v rest (t ∷ before) s inner l e =
    at_place (j + 1) d lock secret past v rest before s inner (omega arith)
    (signed_head (is_signed d lock secret u (past ++ v ∷ rest) t (before ++ s ∷ inner))
    (wrong_signature (j + 1) d lock secret (past ++ v ∷ rest) (before ++ s ∷ inner)) j e).1

-- each suffix is signed, where the lists are given
abbrev pub SignsEach : Deal → ℕ → List ℕ → List ℕ → List Sig → Type 0
SignsEach d lock secret path sigs =
    (past rest : List ℕ) (v : ℕ) → path ≡ past ++ v ∷ rest → (before inner : List Sig) (s : Sig) → length before ≡ length past
    → sigs ≡ before ++ s ∷ inner → IsTrue (is_signed d lock secret v rest s inner)

pub each_from_none : (d : Deal) (lock : ℕ) (secret path : List ℕ) (sigs : List Sig) → wrong_signature 0 d lock secret path sigs ≡ None
    → SignsEach d lock secret path sigs
each_from_none d lock secret path sigs e past rest v p before inner s l q =
    at_place 0 d lock secret past v rest before s inner l (ap (λ (xs : List ℕ). wrong_signature 0 d lock secret xs (before ++ s ∷ inner)) (sym p)
    ∙ ap (wrong_signature 0 d lock secret path) (sym q) ∙ e)

pub signed_both : (b : Bool) (o : Option ℕ) (j : ℕ) → b ≡ true → o ≡ None → cond b o (Some j) ≡ None
signed_both true o j e n = n
signed_both false o j e n = absurd (cc e)

pub none_from_each : (j : ℕ) (d : Deal) (lock : ℕ) (secret path : List ℕ) (sigs : List Sig) → SignsEach d lock secret path sigs
    → wrong_signature j d lock secret path sigs ≡ None
none_from_each j d lock secret [] sigs h = refl
none_from_each j d lock secret (v ∷ rest) [] h = refl
none_from_each j d lock secret (v ∷ rest) (s ∷ inner) h =
    signed_both (is_signed d lock secret v rest s inner) (wrong_signature (j + 1) d lock secret rest inner) j (h [] rest v refl [] inner s refl refl)
    (none_from_each (j + 1) d lock secret rest inner (λ past rest' w p before inner' t l q.
    h (v ∷ past) rest' w (ap (λ (xs : List ℕ). v ∷ xs) p) (s ∷ before) inner' t (omega arith) (ap (λ (xs : List Sig). s ∷ xs) q)))

-- the test is whether the walk finds no wrong place
pub are_signed-is_none : (j : ℕ) (d : Deal) (lock : ℕ) (secret path : List ℕ) (sigs : List Sig)
    → are_signed d lock secret path sigs ≡ is_none (wrong_signature j d lock secret path sigs)
are_signed-is_none j d lock secret [] sigs = refl
are_signed-is_none j d lock secret (v ∷ rest) [] = refl
are_signed-is_none j d lock secret (v ∷ rest) (s ∷ inner) =
    by_head (is_signed d lock secret v rest s inner) (are_signed d lock secret rest inner) (wrong_signature (j + 1) d lock secret rest inner)
    (are_signed-is_none (j + 1) d lock secret rest inner)
  where
    by_head : (b c : Bool) (o : Option ℕ) → c ≡ is_none o → (b && c) ≡ is_none (cond b o (Some j))
    by_head true c o e = e
    by_head false c o e = refl

-- Secrets.

pub bytes_eq-true : (xs ys : List ℕ) → bytes_eq xs ys ≡ true → xs ≡ ys
bytes_eq-true [] [] e = refl
bytes_eq-true [] (y ∷ ys) e = absurd (cc e)
bytes_eq-true (x ∷ xs) [] e = absurd (cc e)
bytes_eq-true (x ∷ xs) (y ∷ ys) e =
    let k = and_parts (nat_eq x y) (bytes_eq xs ys) e in
    ap (λ (v : ℕ). v ∷ xs) (eqb-true x y k.0) ∙ ap (λ (l : List ℕ). y ∷ l) (bytes_eq-true xs ys k.1)

pub bytes_eq_self : (xs : List ℕ) → bytes_eq xs xs ≡ true
bytes_eq_self [] = refl
bytes_eq_self (x ∷ xs) = and_both (nat_eq x x) (bytes_eq xs xs) (eq-eqb x x refl) (bytes_eq_self xs)

-- Paths.

path_from : (m : Mode) (d : Deal) (a : ℕ) (key : Hashkey) → is_wrong_path d a m key ≡ false
    → of_signatures m (wrong_signature 0 d key.lock key.secret key.path key.sigs) ≡ Valid → HasPath m d a key
path_from Timelocks d a key w v =
    let k = and_parts (length key.path == 0) (length key.sigs == 0) (not-false _ w) in
    (nil_from_length key.path (eqb-true _ _ k.0), nil_from_length key.sigs (eqb-true _ _ k.1))
path_from Hashkeys d a key w v =
    let one =
    and_parts (is_path d.graph key.path && first_is (counterparty d a) key.path && last_is (lock_leader d key.lock) key.path)
    (length key.path == length key.sigs) (not-false _ w) in
    let two = and_parts (is_path d.graph key.path && first_is (counterparty d a) key.path) (last_is (lock_leader d key.lock) key.path) one.0 in
    let three = and_parts (is_path d.graph key.path) (first_is (counterparty d a) key.path) two.0 in (
      (three.0, three.1, two.1),
      sym (eqb-true (length key.path) (length key.sigs) one.1),
      each_from_none d key.lock key.secret key.path key.sigs (none_of (wrong_signature 0 d key.lock key.secret key.path key.sigs) v),
    )
  where
    none_of : (o : Option ℕ) → of_signatures Hashkeys o ≡ Valid → o ≡ None
    none_of None e = refl
    none_of (Some j) e = absurd (cc e)

to_path : (m : Mode) (d : Deal) (a : ℕ) (key : Hashkey) → HasPath m d a key
    → (is_wrong_path d a m key ≡ false) × (of_signatures m (wrong_signature 0 d key.lock key.secret key.path key.sigs) ≡ Valid)
to_path Timelocks d a key h =
    (not_from_true _ (and_both (length key.path == 0) (length key.sigs == 0) (eq-eqb _ _ (ap length h.0)) (eq-eqb _ _ (ap length h.1))), refl)
to_path Hashkeys d a key h = (
  not_from_true _ (and_both _ (length key.path == length key.sigs)
      (and_both _ (last_is (lock_leader d key.lock) key.path) (and_both (is_path d.graph key.path) (first_is (counterparty d a) key.path) h.0.0 h.0.1)
      h.0.2) (eq-eqb (length key.path) (length key.sigs) (sym h.1))),
  ap (of_signatures Hashkeys) (none_from_each 0 d key.lock key.secret key.path key.sigs h.2),
)

parts_of : (m : Mode) (secret path : Bool) (o : Option ℕ) → cond secret WrongSecret (cond path WrongPath (of_signatures m o)) ≡ Valid
    → (secret ≡ false) × (path ≡ false) × (of_signatures m o ≡ Valid)
parts_of m true path o e = absurd (cc e)
parts_of m false true o e = absurd (cc e)
parts_of m false false o e = (refl, refl, e)

from_parts : (m : Mode) (secret path : Bool) (o : Option ℕ) → secret ≡ false → path ≡ false → of_signatures m o ≡ Valid
    → cond secret WrongSecret (cond path WrongPath (of_signatures m o)) ≡ Valid
from_parts m true path o a b e = absurd (cc a)
from_parts m false true o a b e = absurd (cc b)
from_parts m false false o a b e = e

pub valid_from : (d : Deal) (a : ℕ) (hashlock : List ℕ) (key : Hashkey) → hashkey_answer d a hashlock key ≡ Valid → IsValidHashkey d a hashlock key
unfolding hashkey_answer
valid_from d a hashlock key e =
    let p = parts_of d.mode (is_wrong_secret hashlock key) (is_wrong_path d a d.mode key) (wrong_signature 0 d key.lock key.secret key.path key.sigs) e in
    record {
      secret = bytes_eq-true (hashed_value key.secret) hashlock (not-false _ p.0);
      path = path_from d.mode d a key p.1 p.2;
    }

pub to_valid : (d : Deal) (a : ℕ) (hashlock : List ℕ) (key : Hashkey) → IsValidHashkey d a hashlock key → hashkey_answer d a hashlock key ≡ Valid
unfolding hashkey_answer
to_valid d a hashlock key v =
    let p = to_path d.mode d a key v.path in
    from_parts d.mode (is_wrong_secret hashlock key) (is_wrong_path d a d.mode key) (wrong_signature 0 d key.lock key.secret key.path key.sigs)
    (not_from_true _ (ap (λ (xs : List ℕ). bytes_eq xs hashlock) v.secret ∙ bytes_eq_self hashlock)) p.0 p.1

-- an answer that is the table's says whether the hashkey is valid
pub answers_valid : (d : Deal) (a : ℕ) (hashlock : List ℕ) (key : Hashkey) (r : HashkeyAnswer) → r ≡ hashkey_answer d a hashlock key
    → (r ≡ Valid) ↔ IsValidHashkey d a hashlock key
answers_valid d a hashlock key r e = (λ v. valid_from d a hashlock key (sym e ∙ v), λ v. e ∙ to_valid d a hashlock key v)
