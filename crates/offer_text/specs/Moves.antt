-- The JSON of a move, its fields in the order of their bytes.
use Rattle.std.specs.Prelude.{◌<◌, ℕ, List, Option, codes, All}
use Rattle.serde_json.specs.Data.{Data, Members, string, object, no_members, member}
use Rattle.hash_signature.specs.declared.sig.Sig.{Sig}
use Rattle.swap_job.specs.declared.moves.Move.{Move}
use Rattle.swap_job.specs.declared.moves.Move.TheVariants.{Publish, Craft, Replay, Raw, Claim, Refund, Transfer, Wait}
use Rattle.swap_base.specs.Text.{joined}
use Rattle.offer_text.specs.Words.{number_data, digest_data, name_data, list_data, with_optional}

-- the digits of a signature's values, one after another
abbrev pub signature_data : Sig → Data
signature_data sig = digest_data (joined sig)

-- the fields of a move that says no more than what is done, and where
abbrev pub plain_move : List ℕ → ℕ → Data
plain_move word arc = object (member (codes "arc") (number_data arc) (member (codes "do") (string word) no_members))

-- the fields of a publish, which states just the terms that were given: those before what is done,
-- with what comes after it, and those after it
abbrev pub first_terms : Option ℕ → ℕ → Option ℕ → Option ℕ → Members → Members
first_terms amount arc bound delta rest =
    with_optional (codes "amount") number_data amount
    (member (codes "arc") (number_data arc)
    (with_optional (codes "bound") number_data bound
    (with_optional (codes "delta") number_data delta
    (member (codes "do") (string (codes "publish")) rest))))

abbrev pub last_terms : Option (List (List ℕ)) → Option ℕ → Option ℕ → Members
last_terms locks start timelock =
    with_optional (codes "locks") (list_data digest_data) locks
    (with_optional (codes "start") number_data start
    (with_optional (codes "timelock") number_data timelock no_members))

unfoldable pub move_data : List (List ℕ) → Move → Data
move_data names (Publish arc start delta bound timelock amount locks) = object (first_terms amount arc bound delta (last_terms locks start timelock))
move_data names (Craft arc lock via onto) =
    object (member (codes "arc") (number_data arc)
    (member (codes "do") (string (codes "craft"))
    (member (codes "lock") (number_data lock)
    (with_optional (codes "onto") number_data onto
    (member (codes "via") (list_data (name_data names) via) no_members)))))
move_data names (Replay arc lock onto) =
    object (member (codes "arc") (number_data arc)
    (member (codes "do") (string (codes "replay"))
    (member (codes "lock") (number_data lock)
    (member (codes "onto") (number_data onto) no_members))))
move_data names (Raw arc key) =
    object (member (codes "arc") (number_data arc)
    (member (codes "do") (string (codes "raw"))
    (member (codes "lock") (number_data key.lock)
    (member (codes "path") (list_data (name_data names) key.path)
    (member (codes "secret") (digest_data key.secret)
    (member (codes "sigs") (list_data signature_data key.sigs) no_members))))))
move_data names (Claim arc) = plain_move (codes "claim") arc
move_data names (Refund arc) = plain_move (codes "refund") arc
move_data names (Transfer arc to units) =
    object (member (codes "arc") (number_data arc)
    (member (codes "do") (string (codes "transfer"))
    (member (codes "to") (name_data names to)
    (member (codes "units") (number_data units) no_members))))
move_data names (Wait arc height) =
    object (member (codes "arc") (number_data arc)
    (member (codes "do") (string (codes "wait"))
    (member (codes "height") (number_data height) no_members)))

abbrev pub AreBelow : ℕ → List ℕ → Type 0
AreBelow n ps = All (λ p. p < n) ps

-- the parties that a move names are below n
abbrev pub BoundedNames : ℕ → Move → Type 0
BoundedNames n (Craft arc lock via onto) = AreBelow n via
BoundedNames n (Raw arc key) = AreBelow n key.path
BoundedNames n (Transfer arc to units) = to < n
BoundedNames n _ = Unit {0}
