-- A hashkey is valid where the check answers so.
use Rattle.std.proofs.Common.{◌≡◌, ℕ, Bool, true, false, cond, not, ◌&&◌, List, Option, Some, None, is_none, refl, ◌∙◌}
use Rattle.swap_digraph.specs.declared.deal.Mode.{Mode}
use Rattle.swap_digraph.specs.declared.deal.Mode.TheVariants.{Timelocks, Hashkeys}
use Rattle.swap_digraph.specs.declared.deal.Deal.{Deal}
use Rattle.hashkey_path.specs.declared.hashkey.Hashkey.{Hashkey}
use Rattle.hashkey_path.specs.declared.hashkey.HashkeyAnswer.{HashkeyAnswer}
use Rattle.hashkey_path.specs.declared.hashkey.HashkeyAnswer.TheVariants.{Valid, WrongSecret, WrongPath}
use Rattle.hashkey_path.specs.Hashkey.{is_wrong_secret, is_wrong_path, is_wrong_signature, wrong_signature, are_signed, of_signatures, hashkey_answer}
use Rattle.hashkey_path.specs.Hashkey.{is_valid}
use Rattle.hashkey_path.proofs.Validity.{are_signed-is_none}

abbrev pub says_valid : HashkeyAnswer → Bool
says_valid Valid = true
says_valid _ = false

pub not-not : (b : Bool) → not (not b) ≡ b
not-not true = refl
not-not false = refl

by_place : (o : Option ℕ) → is_none o ≡ says_valid (of_signatures Hashkeys o)
by_place None = refl
by_place (Some j) = refl

by_mode : (m : Mode) (d : Deal) (key : Hashkey)
    → not (is_wrong_signature d m key) ≡ says_valid (of_signatures m (wrong_signature 0 d key.lock key.secret key.path key.sigs))
by_mode Timelocks d key = refl
by_mode Hashkeys d key =
    not-not (are_signed d key.lock key.secret key.path key.sigs)
    ∙ (are_signed-is_none 0 d key.lock key.secret key.path key.sigs ∙ by_place (wrong_signature 0 d key.lock key.secret key.path key.sigs))

by_tests : (s p : Bool) (o : HashkeyAnswer) (b : Bool) → b ≡ says_valid o → (not s && not p && b) ≡ says_valid (cond s WrongSecret (cond p WrongPath o))
by_tests true p o b e = refl
by_tests false true o b e = refl
by_tests false false o b e = e

pub valid_answer : (d : Deal) (a : ℕ) (hashlock : List ℕ) (key : Hashkey) → is_valid d a hashlock key ≡ says_valid (hashkey_answer d a hashlock key)
unfolding hashkey_answer
valid_answer d a hashlock key =
    by_tests (is_wrong_secret hashlock key) (is_wrong_path d a d.mode key)
    (of_signatures d.mode (wrong_signature 0 d key.lock key.secret key.path key.sigs)) (not (is_wrong_signature d d.mode key))
    (by_mode d.mode d key)
