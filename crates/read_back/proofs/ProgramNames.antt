-- The program's strategies have texts for their names.
use Rattle.std.proofs.Common.{◌≡◌, ◌||◌, ℕ, Bool, true, false, List, [], ◌∷◌, refl, subst, sym}
use Rattle.std.specs.Prelude.{codes}
use Rattle.std.specs.Str.{bytes_eq, IsUtf8}
use Rattle.std.specs.List.{list_any, AllByRecursion}
use Rattle.hashkey_path.proofs.Validity.{bytes_eq-true}
use Rattle.swap_run.specs.Program.{program_names}
use Rattle.read_back.proofs.HeaderShown.{field}
use Rattle.read_back.specs.Made.{ProgramHasTexts}

one_text : (n name : List ℕ) (b rest : Bool) → bytes_eq name n ≡ b → IsUtf8 n → (b || rest) ≡ true → (rest ≡ true → IsUtf8 name) → IsUtf8 name
one_text n name true rest e u h more = subst IsUtf8 (sym (bytes_eq-true name n e)) u
one_text n name false rest e u h more = more h

all_texts : (names : List (List ℕ)) → AllByRecursion IsUtf8 names → (name : List ℕ) → list_any (bytes_eq name) names ≡ true → IsUtf8 name
all_texts [] h name e = absurd (cc e)
all_texts (n ∷ names) h name e =
    one_text n name (bytes_eq name n) (list_any (bytes_eq name) names) refl h.0 e (all_texts names h.1 name)

pub program_has_texts : ProgramHasTexts
program_has_texts name e =
    all_texts program_names (
      field (codes "silent") refl,
      (field (codes "greedy") refl, (field (codes "replayer") refl, (field (codes "spoiler") refl, tt))),
    ) name e
