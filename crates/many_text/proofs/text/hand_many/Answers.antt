use Rattle.std.proofs.Common.{Err, [], ◌∙◌, ◌++◌, ℕ, List, ap, append_assoc, refl, subst}
use Rattle.std.proofs.lemmas.Result.{err_from_is_err_and}
use Rattle.swap_base.specs.Text.{lines}
use Rattle.swap_io.specs.Handed.{Handed, Lost}
use Rattle.swap_io.specs.declared.fault.TextFault.TheVariants.{NoMemory}
use Rattle.swap_io.proofs.Handing.{handed_on, handed_put, handed_was, hands_err, hands_ok, lost_before, lost_then, lost_was, rose_was}
use Rattle.swap_many.specs.Value.{many_kept}
use Rattle.run_texts.specs.Report.{count_line}
use Rattle.many_text.specs.ManyText.{kept_chain_text, finding_count, kept_swap_text}
use Rattle.many_text.proofs.Handing.{of_many}
use Rattle.run_texts.proofs.LedgerLines.{all_three}
use Rattle.many_text.proofs.text.hand_many.Goals as goal

pub returns-in_err-count-clause-hands : goal.returns-in_err-count-clause-hands
returns-in_err-count-clause-hands g c =
    let z = many_kept c.args.world.now in
    let t1 = lines (kept_swap_text z) 0 c.args.jobs.now in
    let t2 = lines (kept_chain_text z) 0 c.args.names.now in
    let t3 = count_line (finding_count z 0 c.args.jobs.now) in
    let p = err_from_is_err_and c.from_residual.result c.from_residual.ensures.1 in
    let e = c.in_err-count.field-0.0 in
    let h = c.write_swaps.ensures.hands in
    hands_err e _ _ _ _ _ _ _ _ (p.1 ∙ ap Err p.2)
    (subst (λ (t : List ℕ). Lost e (g.K.Sink.taken c.args.sink.now) c.args.out.now.items (g.K.Sink.taken c.write_swaps.new.sink) t)
    (of_many c.args.jobs.now c.args.names.now z) (lost_before e _ _ _ t1 (t2 ++ (t3 ++ [])) (lost_was e _ _ _ _ _ _ _ _ c.in_err-count.was h)))
    h.later (rose_was e _ _ _ _ _ _ _ _ c.in_err-count.was h)

pub returns-in_err-put_chains-clause-hands : goal.returns-in_err-put_chains-clause-hands
returns-in_err-put_chains-clause-hands g c =
    let z = many_kept c.args.world.now in
    let t1 = lines (kept_swap_text z) 0 c.args.jobs.now in
    let t2 = lines (kept_chain_text z) 0 c.args.names.now in
    let t3 = count_line (finding_count z 0 c.args.jobs.now) in
    let p = err_from_is_err_and c.from_residual-in_err-put_chains.result c.from_residual-in_err-put_chains.ensures.1 in
    let h = c.write_swaps.ensures.hands in
    hands_err NoMemory _ _ _ _ _ _ _ _ (p.1 ∙ ap Err p.2)
    (lost_then _ _ _ _ t1 (t2 ++ (t3 ++ [])) _ (handed_was _ _ _ _ _ _ _ _ _ c.in_ok-count.was h) (of_many c.args.jobs.now c.args.names.now z))
    h.later (λ is. absurd (cc is))

pub returns-in_err-put_count-clause-hands : goal.returns-in_err-put_count-clause-hands
returns-in_err-put_count-clause-hands g c =
    let z = many_kept c.args.world.now in
    let t1 = lines (kept_swap_text z) 0 c.args.jobs.now in
    let t2 = lines (kept_chain_text z) 0 c.args.names.now in
    let t3 = count_line (finding_count z 0 c.args.jobs.now) in
    let p = err_from_is_err_and c.from_residual-in_err-put_count.result c.from_residual-in_err-put_count.ensures.1 in
    let h = c.write_swaps.ensures.hands in
    hands_err NoMemory _ _ _ _ _ _ _ _ (p.1 ∙ ap Err p.2)
    (lost_then _ _ _ _ (t1 ++ t2) (t3 ++ []) _ (handed_on _ _ _ _ _ _ t1 t2 (handed_was _ _ _ _ _ _ _ _ _ c.in_ok-count.was h)
    (handed_put _ _ _ t2 c.in_ok-put_chains.ensures)) (append_assoc t1 t2 (t3 ++ []) ∙ of_many c.args.jobs.now c.args.names.now z))
    h.later (λ is. absurd (cc is))

pub returns-clause-hands : goal.returns-clause-hands
returns-clause-hands g c =
    let z = many_kept c.args.world.now in
    let t1 = lines (kept_swap_text z) 0 c.args.jobs.now in
    let t2 = lines (kept_chain_text z) 0 c.args.names.now in
    let t3 = count_line (finding_count z 0 c.args.jobs.now) in
    let h = c.write_swaps.ensures.hands in
    hands_ok _ _ _ _ _ _ _ _ _ refl (subst (λ (t : List ℕ). Handed (g.K.Sink.taken c.args.sink.now) c.args.out.now.items
    (g.K.Sink.taken c.write_swaps.new.sink) c.put_count.new.out.items t) (all_three t1 t2 t3 ∙ of_many c.args.jobs.now c.args.names.now z)
    (handed_on _ _ _ _ _ _ (t1 ++ t2) t3 (handed_on _ _ _ _ _ _ t1 t2 (handed_was _ _ _ _ _ _ _ _ _ c.in_ok-count.was h)
    (handed_put _ _ _ t2 c.in_ok-put_chains.ensures)) (handed_put _ _ _ t3 (rw (← c.in_ok-count.ensures.count) c.in_ok-put_count.ensures))))
    h.later
