use Rattle.std.proofs.Common.{ℕ, sym, ap, ◌∙◌}
use denote.Ref.{Bor}
use Rattle.swap_base.specs.Lists.{first_given_answer}
use Rattle.hashkey_path.specs.declared.hashkey.Hashkey.{Hashkey}
use Rattle.ledger_core.specs.Book.{history}
use Rattle.ledger_core.specs.History.{opened}
use Rattle.history_index.specs.Indexes.{all_entries}
use Rattle.swap_rules.specs.Party.{key_without_party}
use Rattle.conduct_check.proofs.FirstAnswer.{found_at, none_at}
use Rattle.conduct_check.proofs.openings.first_seen_key.Goals as goal

pub returns-then-is_some : goal.returns-then-is_some
returns-then-is_some c =
    let f = λ (a : ℕ). key_without_party c.args.party (opened (history (all_entries c.args.known.now) a) c.args.lock) in
    found_at (λ (r : Bor Hashkey). r.now) f c.leaving-arc-items.result.now c.loop-arc.arc-index 0 c.key_without_party-found.result c.loop-arc-test.true
    c.loop-arc.invariant
    c.key_without_party-found.ensures (sym c.is_some.ensures ∙ c.if-is_some.true)
    ∙ ap (first_given_answer f) c.leaving-arc-items.ensures

pub loop-arc-preserved : goal.loop-arc-preserved
loop-arc-preserved c =
    none_at (λ (r : Bor Hashkey). r.now) (λ (a : ℕ). key_without_party c.args.party (opened (history (all_entries c.args.known.now) a) c.args.lock))
    c.leaving-arc-items.result.now c.loop-arc.arc-index 0 c.key_without_party-found.result c.loop-arc-test.true c.loop-arc.invariant
    c.key_without_party-found.ensures (sym c.is_some.ensures ∙ c.if-is_some.false)
