-- What the program keeps of a header line and its context.
use Rattle.std.specs.Prelude.{◌≡◌, ℕ, Bool, true, List, [], ◌∷◌, not}
use Rattle.swap_job.specs.declared.job.Job.{Job}
use Rattle.swap_rules.specs.Accepted.{IsAccepted}
use Rattle.swap_offer.specs.Job.{IsWholeJob}
use Rattle.party_terms.specs.declared.agreed.Agreed.{Agreed}
use Rattle.party_terms.specs.Context.{is_context_line}
use Rattle.party_terms.specs.Terms.{AgreedState}

abbrev pub inside_agreed : Agreed → AgreedState
inside_agreed s = record { job = s.job; context = s.context; digest = s.digest; next = s.next }

abbrev pub begins_without_context : List (List ℕ) → Bool
begins_without_context [] = true
begins_without_context (l ∷ ls) = not (is_context_line l)

-- The first of these lines, if there is one, is none of context.
abbrev pub IsBehindContext : List (List ℕ) → Type 0
IsBehindContext ls = begins_without_context ls ≡ true

-- A job of an accepted deal, whose lists are whole.
pub record IsAgreedJob (job : Job) : Type 0 where
  pub accepted : IsAccepted job.deal
  pub whole : IsWholeJob job
