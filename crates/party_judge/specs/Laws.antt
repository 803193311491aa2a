-- What the digest of `agree` binds.
use Rattle.std.specs.Prelude.{◌≡◌, ◌⊎◌, ℕ, List, Ok}
use Rattle.sha2.specs.Sha256.{sha256}
use Rattle.party_rows.specs.Lines.{ended_lines}
use Rattle.party_terms.specs.Terms.{AgreedState, parse_agreed}

-- Two texts that a hash doesn't tell apart.
pub record IsCollision (x y : List ℕ) : Type 0 where
  pub differ : ¬ (x ≡ y)
  pub same : sha256 x ≡ sha256 y

-- The same job, with its names and its deal, and the same lines of context.
pub record IsSameAgreement (s t : AgreedState) : Type 0 where
  pub job : s.job ≡ t.job
  pub context : s.context ≡ t.context

pub record HasCollision : Type 0 where
  pub one : List ℕ
  pub other : List ℕ
  pub is : IsCollision one other

-- Every text that is judged with the same digest agrees on the same: names, deal and context.
-- Otherwise what the two begin with is a collision of the hash.
abbrev pub BindsAgreement : AgreedState → Type 0
BindsAgreement s =
    (other : List ℕ) (ms more : List (List ℕ)) (t : AgreedState) → ended_lines other ≡ Ok ms → parse_agreed 1 ms ≡ Ok (t, more) → s.digest ≡ t.digest
    → IsSameAgreement s t ⊎ HasCollision

-- each text binds what it agrees on
abbrev pub OneDigestOneAgreement : Type 0
OneDigestOneAgreement =
    (text : List ℕ) (ls behind : List (List ℕ)) (s : AgreedState) → ended_lines text ≡ Ok ls → parse_agreed 1 ls ≡ Ok (s, behind) → BindsAgreement s
