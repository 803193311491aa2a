use Rattle.std.proofs.Common.{Err, ap, arith, refl, ◌∙◌}
use Rattle.std.proofs.lemmas.Result.{err_from_is_err_and}
use Rattle.swap_io.proofs.Handing.{all_lines, handed_was, hands_err, hands_ok, line_lost, line_on, lost_was, rest_lost, rose_before, rose_was}
use Rattle.swap_io.specs.declared.fault.TextFault.TheVariants.{NoMemory}
use Rattle.run_texts.specs.Report.{finding_line}
use Rattle.run_texts.proofs.findings.write_findings.Goals as goal

pub returns-in_err-put_finding : goal.returns-in_err-put_finding
returns-in_err-put_finding g c =
    let p = err_from_is_err_and c.from_residual.result c.from_residual.ensures.1 in
    hands_err NoMemory _ _ _ _ _ _ _ _ (p.1 ∙ ap Err p.2)
    (rest_lost (λ _. finding_line c.args.names.now) c.args.findings.now _ _ _ _ _ _ c.loop-finding.invariant.so_far)
    c.loop-finding.invariant.later (λ is. absurd (cc is))

pub returns-in_err-flush_waiting : goal.returns-in_err-flush_waiting
returns-in_err-flush_waiting g c =
    let p = err_from_is_err_and c.from_residual-in_err-flush_waiting.result c.from_residual-in_err-flush_waiting.ensures.1 in
    let e = c.in_err-flush_waiting.field-0.0 in
    hands_err e _ _ _ _ _ _ _ _ (p.1 ∙ ap Err p.2)
    (line_lost (λ _. finding_line c.args.names.now) c.args.findings.now _ _ _ e _ _ _ _ c.loop-finding.finding-index _ _ c.loop-finding-test.true refl
    c.in_ok-put_finding.ensures (lost_was e _ _ _ _ _ _ _ _ c.in_err-flush_waiting.was c.flush_waiting.ensures) c.loop-finding.invariant.so_far)
    (omega (arith, c.loop-finding.invariant.later, c.flush_waiting.ensures.later))
    (λ is. rose_before _ _ _ c.loop-finding.invariant.later (rose_was e _ _ _ _ _ _ _ _ c.in_err-flush_waiting.was c.flush_waiting.ensures is))

pub loop-finding-preserved : goal.loop-finding-preserved
loop-finding-preserved g c = record {
  so_far = line_on (λ _. finding_line c.args.names.now) c.args.findings.now _ _ _ _ _ _ _ _ c.loop-finding.finding-index _ _ c.loop-finding-test.true refl
      c.in_ok-put_finding.ensures (handed_was _ _ _ _ _ _ _ _ _ c.in_ok-flush_waiting.was c.flush_waiting.ensures) c.loop-finding.invariant.so_far;
  later = omega (arith, c.loop-finding.invariant.later, c.flush_waiting.ensures.later);
}

pub returns : goal.returns
returns g c = hands_ok tt _ _ _ _ _ _ _ _ refl (all_lines (λ _. finding_line c.args.names.now)
    c.args.findings.now _ _ _ _ _ c.loop-finding.finding-index c.loop-finding-test.false c.loop-finding.invariant.so_far) c.loop-finding.invariant.later
