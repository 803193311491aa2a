use Rattle.std.proofs.Common.{◌≡◌, ◌<◌, ◌+◌, ◌∙◌, ◌++◌, ◌∷◌, [], ℕ, length, ap, arith, length-append, subst, sym}
use Rattle.std.specs.Prelude.{is_ok}
use Rattle.many_lines.specs.declared.stage.Stage.TheVariants.{Words}
use Rattle.many_lines.specs.Heading.{HeadingState}
use Rattle.many_lines.specs.Inside.{inside_many_job}
use Rattle.many_lines.specs.Whole.{IsSwap}
use Rattle.many_lines.proofs.Swaps.{grown, mapped_more, swaps_more}
use Rattle.many_lines.proofs.heading.Heading.keep.Goals as goal

pub invariant_of-self : goal.invariant_of-self
invariant_of-self c =
    let h = c.self.inside in
    let k = c.self.invariant in
    let job = c.args.swap.job in
    let words : h.stage ≡ Words = ap (λ (s : HeadingState). s.stage) c.self.view_is ∙ c.requires.words in
    let few : length h.jobs.items < 8 = subst (λ (n : ℕ). n < 8) (sym (ap (λ (s : HeadingState). length s.many.jobs) c.self.view_is)) c.requires.next in
    let swap : IsSwap (length h.names.items) job c.args.chains =
    subst (λ (s : HeadingState). IsSwap (length s.many.names) job c.args.chains) (sym c.self.view_is) c.requires.swap in
    let jobs : c.push.new.self.items ≡ h.jobs.items ++ job ∷ [] =
    grown h.jobs.items _ job (is_ok c.push.result) c.push.ensures.items (c.push.ensures.succeeds (omega (arith, few, k.jobs_room, h.jobs.ok.0))) in
    let chains : c.push-2.new.self.items ≡ h.chains.items ++ c.args.chains ∷ [] =
    grown h.chains.items _ c.args.chains (is_ok c.push-2.result) c.push-2.ensures.items
    (c.push-2.ensures.succeeds (omega (arith, few, k.chains_room, h.chains.ok.0, k.swaps.each))) in
    let wallets : c.push-3.new.self.items ≡ h.wallets.items ++ c.args.swap.wallets ∷ [] =
    grown h.wallets.items _ c.args.swap.wallets (is_ok c.push-3.result) c.push-3.ensures.items
    (c.push-3.ensures.succeeds (omega (arith, few, k.wallets_room, h.wallets.ok.0, k.each_wallets))) in
    let longer : length c.push.new.self.items ≡ length (h.jobs.items ++ job ∷ []) = ap length jobs in
    let one_more : length (h.jobs.items ++ job ∷ []) ≡ length h.jobs.items + 1 = length-append h.jobs.items (job ∷ []) in
    record {
      names_room = k.names_room;
      units_room = k.units_room;
      jobs_room = omega (arith, k.jobs_room, c.push.ensures.capacity);
      chains_room = omega (arith, k.chains_room, c.push-2.ensures.capacity);
      wallets_room = omega (arith, k.wallets_room, c.push-3.ensures.capacity);
      chains = record { few = k.chains.few; each = k.chains.each; chains = k.chains.chains };
      swaps = rw (jobs, chains) (swaps_more (inside_many_job h) job c.args.chains k.swaps few swap);
      next = λ before is. absurd (cc (sym words ∙ is));
      below = λ before is. absurd (cc (sym words ∙ is));
      some = λ is. omega (arith, longer, one_more);
      each_wallets =
          omega (arith, longer, one_more, ap length wallets, length-append h.wallets.items (c.args.swap.wallets ∷ []), k.each_wallets);
      wallets = mapped_more _ _ _ _ _ _ _ _ wallets jobs k.wallets c.requires.wallets;
    }
