-- What the program keeps of a plain offer and its rows.
use Rattle.std.specs.Prelude.{ℕ, List, ◌∷◌}
use Rattle.hex.specs.Hex.{encode_lower}
use Rattle.swap_base.specs.declared.fault.Fault.{Fault}
use Rattle.swap_base.specs.declared.fault.Fault.TheVariants.{Refused, NoMemory}
use Rattle.swap_job.specs.declared.job.Job.{Job}
use Rattle.command_input.specs.declared.refusal.Refusal.{Refusal}
use Rattle.swap_offer.specs.Proposed.{IsProposed}
use Rattle.offer_header.specs.Names.{AreNames}
use Rattle.swap_offer.specs.Job.{IsWholeJob}
use Rattle.party_rows.specs.declared.dealing.Dealing.{Dealing}
use Rattle.party_rows.specs.declared.reason.DealReason.{DealReason}
use Rattle.party_rows.specs.declared.reason.DealReason.TheVariants as reasons
use Rattle.party_rows.specs.Keys.{DealingState}
use Rattle.party_rows.specs.Rows.{AreDealRows}

-- A job that a plain offer proposes: its lists are whole, its parties are named, and its deal is
-- proposed.
pub record IsOffered (job : Job) : Type 0 where
  pub whole : IsWholeJob job
  pub names : AreNames job.names
  pub proposed : IsProposed job.deal

abbrev pub inside_dealing : Dealing → DealingState
inside_dealing s = record { job = s.job; rows = s.rows }

-- Its job is proposed, and its rows are of the job.
pub record IsDealing (s : Dealing) : Type 0 where
  pub offered : IsOffered s.job
  pub rows : AreDealRows s.job.deal s.rows

abbrev pub deal_fault_by_refusal : Fault Refusal → Fault DealReason
deal_fault_by_refusal (Refused refusal) = Refused (reasons.Refused refusal)
deal_fault_by_refusal NoMemory = NoMemory

-- a digest in a list, behind the comma that parts it from the one before it
abbrev pub comma_digest : ℕ → List ℕ → List ℕ
comma_digest n digest = 44 ∷ encode_lower digest
