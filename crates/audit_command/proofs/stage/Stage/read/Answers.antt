use Rattle.std.proofs.Common.{◌≡◌, ℕ, Bool, true, false, not, List, codes, Result, Ok, refl, sym, ap, ◌∙◌, subst}
use Rattle.std.specs.Str.{bytes_eq}
use Rattle.swap_job.specs.declared.job.Job.{Job}
use Rattle.command_input.specs.declared.refusal.Refusal.{Refusal}
use Rattle.audit_command.specs.declared.stage.Stage.{Stage}
use Rattle.audit_command.specs.declared.stage.Stage.TheVariants.{First, Header}
use Rattle.audit_command.specs.Header.{header_read}
use Rattle.audit_command.specs.TranscriptReading.{so_far}
use Rattle.audit_command.specs.Stages.{next_stage}
use Rattle.audit_command.proofs.stage.Stage.read.Goals as goal

is_true : (b : Bool) → not b ≡ false → b ≡ true
is_true true e = refl
is_true false e = absurd (cc e)

begun : (header : List ℕ → Result Job Refusal) (n : ℕ) (s : Stage) (line word : List ℕ) (other : Bool) → s ≡ First → word ≡ codes "swap transcript 1"
    → other ≡ not (bytes_eq line word) → other ≡ false
    → (Header ≡ next_stage header n s line) × (so_far (next_stage header n s line) ≡ Ok tt)
unfolding next_stage
begun header n s line word other first is ne e =
    let same : bytes_eq line (codes "swap transcript 1") ≡ true =
    ap (bytes_eq line) (sym is) ∙ is_true (bytes_eq line word) (sym ne ∙ e) in
    subst (λ (x : Stage). (Header ≡ next_stage header n x line) × (so_far (next_stage header n x line) ≡ Ok tt)) (sym first) (rw same (refl, refl))

pub returns-else-ne-clause-turns : goal.returns-else-ne-clause-turns
returns-else-ne-clause-turns c =
    begun header_read c.args.number c.args.self.now c.args.line.now c.as_slice.result.now c.ne.result c.in-First.is c.as_slice.ensures c.ne.ensures
    c.if-ne.false
