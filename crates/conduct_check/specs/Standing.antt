-- What is read once of a party, for all of its calls.
use Rattle.std.specs.Prelude.{◌≡◌, ℕ, ◌<◌, Bool, false, List, ◌∷◌, Option, Some, None, length, slice_index_or}
use Rattle.swap_digraph.specs.declared.deal.Deal.{Deal}
use Rattle.swap_digraph.specs.Graph.{entering}
use Rattle.hashkey_path.specs.declared.hashkey.Hashkey.{Hashkey}
use Rattle.hashkey_path.specs.Hashkey.{same_key, is_valid}
use Rattle.ledger_core.specs.History.{Opening}
use Rattle.ledger_core.specs.Book.{Histories}
use Rattle.swap_digraph.specs.Deal.{lock_hashlock}
use Rattle.swap_rules.specs.Party.{first_key, is_ready, leads_one}
use Rattle.swap_rules.specs.Conduct.{has_origin}
use Rattle.conduct_check.specs.declared.judged.Judged.{Judged}
use Rattle.conduct_check.specs.Judged.{judged_book}
use Rattle.conduct_check.specs.declared.standing.Standing.{Standing}

-- whether the accepted unlock is with the hashkey
abbrev pub key_opens_arc : Hashkey → Option Opening → Bool
key_opens_arc key None = false
key_opens_arc key (Some o) = same_key o.key key

-- whether the hashkey is well come by
abbrev pub has_key_origin : Deal → Histories → ℕ → Option Hashkey → Bool
has_key_origin d b v None = false
has_key_origin d b v (Some key) = has_origin d.mode d b v key

-- whether the party's first hashkey for lock i is
abbrev pub first_origin : Judged → ℕ → Bool
first_origin j i = has_key_origin j.deal.now (judged_book j) j.party (first_key (judged_book j) j.party i)

-- whether the hashkey is valid on the first of the arcs
abbrev pub is_valid_on_first_arc : Deal → List ℕ → Option Hashkey → Bool
is_valid_on_first_arc d (a ∷ rest) (Some key) = is_valid d a (lock_hashlock d key.lock) key
is_valid_on_first_arc d _ _ = false

-- whether the party's first hashkey for lock i is valid on the arcs that enter the party; the answer
-- is the same for each
abbrev pub first_valid : Judged → ℕ → Bool
first_valid j i = is_valid_on_first_arc j.deal.now (entering j.deal.now.graph j.party) (first_key (judged_book j) j.party i)

-- What is read of the party in the book.
pub record IsStanding (j : Judged) (s : Standing) : Type 0 where
  pub leads : s.leads ≡ leads_one j.deal.now j.party
  pub ready : s.ready ≡ is_ready j.deal.now (judged_book j) j.party
  pub origins : (i : ℕ) → i < length j.deal.now.leaders → slice_index_or s.origins i false ≡ first_origin j i
  pub valid : (i : ℕ) → i < length j.deal.now.leaders → slice_index_or s.valid i false ≡ first_valid j i
