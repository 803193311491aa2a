use Rattle.std.proofs.Common.{Some, None, cond, sym, ap, ◌∙◌, refl, arith}
use Rattle.std.proofs.lemmas.Bool.{eq-eqb, ne_eqb}
use Rattle.std.proofs.lemmas.List.{take_all}
use Rattle.swap_base.specs.Lists.{first_given_answer}
use Rattle.ledger_core.proofs.FirstAnswer.{found_first, none_first}
use Rattle.history_index.specs.Indexes.{all_entries}
use Rattle.conduct_check.proofs.Unlocks.{for_lock, first_sent}
use Rattle.conduct_check.proofs.keys.first_key.Goals as goal

pub returns-then-key-lock : goal.returns-then-key-lock
returns-then-key-lock c =
    let k = c.key-item.result in
    found_first (for_lock c.args.lock) c.args.keys.now c.loop-key.key-index k (Some k.now) c.loop-key-test.true c.key-item.is c.loop-key.invariant
    (sym (ap (λ b. cond b (Some k.now) None) (eq-eqb k.now.lock c.args.lock c.if-key-lock.true))) refl
    ∙ first_sent c.args.lock c.args.party (all_entries c.args.known.now) c.args.keys.now c.requires.keys

pub loop-key-preserved : goal.loop-key-preserved
loop-key-preserved c =
    let k = c.key-item.result in
    none_first (for_lock c.args.lock) c.args.keys.now c.loop-key.key-index k None c.loop-key-test.true c.key-item.is c.loop-key.invariant
    (sym (ap (λ b. cond b (Some k.now) None) (ne_eqb k.now.lock c.args.lock c.if-key-lock.false))) refl

pub returns : goal.returns
returns c =
    sym c.loop-key.invariant ∙ (ap (first_given_answer (for_lock c.args.lock)) (take_all c.loop-key.key-index c.args.keys.now (omega (arith, c.loop-key-test.false)))
    ∙ first_sent c.args.lock c.args.party (all_entries c.args.known.now) c.args.keys.now c.requires.keys)
