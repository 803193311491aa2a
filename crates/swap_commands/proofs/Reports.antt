-- What is told where the text of a run was written.
use Rattle.std.proofs.Common.{◌≡◌, ◌==◌, ◌≤◌, ℕ, List, Bool, not, length, Option, Result, arith, subst}
use Rattle.std.specs.Prelude.{OnOk, IsErrOf}
use Rattle.std.specs.Io.KnownBytes.{Appends}
use Rattle.swap_io.specs.Causes.{AppendsProperPrefix, Rose}
use Rattle.swap_io.specs.Handed.{AppendsPrefix}
use Rattle.swap_io.specs.declared.fault.TextFault.{TextFault}
use Rattle.swap_io.specs.declared.fault.TextFault.TheVariants.{WriteFault, NoMemory}
use Rattle.swap_digraph.specs.declared.deal.Deal.{Deal}
use Rattle.swap_digraph.specs.declared.deal.Version.{Version}
use Rattle.swap_digraph.specs.declared.deal.Version.TheVariants.{One, Two}
use Rattle.swap_digraph.specs.Deal.{IsWellSized, most_arcs}
use Rattle.ledger_core.specs.Book.{Histories, IsLegalBook}
use Rattle.swap_job.specs.declared.job.Job.{Job}
use Rattle.outcome_rules.specs.declared.report.Report.{Report}
use Rattle.command_input.specs.Written.{StatusWrites, written_status}
use Rattle.command_input.specs.declared.status.Status.{Status}
use Rattle.command_input.proofs.Statuses.{status_writes}
use Rattle.swap_commands.specs.Output.{book_report, reported, run_text, with_report}

most : (v : Version) → most_arcs v ≤ 256
most One = omega arith
most Two = omega arith

-- a book has few histories
pub few_histories : (d : Deal) (b : Histories) → IsWellSized d → IsLegalBook d b → length b ≤ 256
few_histories d b k legal = let m = most d.version in omega (arith, k.arcs.1, legal.one_each)

-- what the status says where the report r of a job's book was written, or the transcript
pub report_writes : (transcript : Bool) (job : Job) (b : Histories) (r : Report) (taken taken' : Option (List ℕ)) (p q : ℕ) → r ≡ book_report job b
    → (written : Result (Unit {0}) TextFault) (found : Bool) (s : Status) → s ≡ written_status written found → not (length r.findings == 0) ≡ found
    → OnOk written (Appends taken taken' (run_text transcript job b r))
    → (IsErrOf written WriteFault → AppendsProperPrefix taken taken' (run_text transcript job b r))
    → (IsErrOf written NoMemory → AppendsPrefix taken taken' (run_text transcript job b r)) → (IsErrOf written WriteFault → Rose p q)
    → StatusWrites taken taken' p q (reported transcript job b) s
unfolding reported
report_writes transcript job b r taken taken' p q is written found s same told all part short failed =
    subst (λ (x : Report). StatusWrites taken taken' p q (with_report transcript job b x) s) is
    (status_writes taken taken' p q (with_report transcript job b r) written found s same told all part short failed)
