use Rattle.std.proofs.Common.{◌≡◌, ℕ, ◌+◌, ◌-◌, ◌≤◌, List, ◌++◌, length, drop, sym, ap, ◌∙◌, arith}
use Rattle.ledger_core.specs.declared.entry.Entry.{Entry}
use Rattle.ledger_core.specs.declared.runs.Item.{Item}
use Rattle.ledger_core.specs.declared.runs.Run.{Run}
use Rattle.ledger_core.specs.Runs.{expand, run_ticks}
use Rattle.ledger_core.proofs.Ticks.{drop_within, length_ticks}
use Rattle.swap_world.proofs.turn.fresh_ticks.Goals as goal

-- what is fresh lies in the run
in_run : (h : List Entry) (xs : List Item) (r s : Run) (k n : ℕ) → h ≡ expand xs ++ run_ticks r → n ≤ r.count → k + n ≡ length h
    → run_ticks s ≡ drop (r.count - n) (run_ticks r) → run_ticks s ≡ drop k h
in_run h xs r s k n is l e ts =
    let long : length (run_ticks r) ≡ r.count = length_ticks r.above r.by r.count in
    let all : k + n ≡ length (expand xs ++ run_ticks r) = e ∙ ap length is in
    ts ∙ ap (λ z. drop (z - n) (run_ticks r)) (sym long) ∙ sym (drop_within (expand xs) (run_ticks r) k n (omega arith) all)
    ∙ sym (ap (λ (z : List Entry). drop k z) is)

pub returns-then-fresh-open-clause-ticks : goal.returns-then-fresh-open-clause-ticks
returns-then-fresh-open-clause-ticks c =
    let h = c.args.ledger.now.history in
    let k = c.args.seen in
    let all : c.len.result ≡ length h = c.len.ensures in
    let seen : k ≤ length h = c.requires in
    in_run h c.parts.result.0.now c.parts.result.1 c.last_run.result k (c.len.result - k) (sym c.history.ensures.value ∙ c.parts.ensures.list)
    c.if-fresh-open.true (omega (arith, all, seen)) c.last_run.ensures.ticks
