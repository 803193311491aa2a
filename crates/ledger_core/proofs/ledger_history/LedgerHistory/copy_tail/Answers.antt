use Rattle.std.proofs.Common.{◌≡◌, ℕ, ◌+◌, ◌-◌, ◌≤◌, List, [], ◌++◌, length, drop, sym, ap, ap₂, ◌∙◌, subst, arith, length-append}
use Rattle.std.specs.List.{AllByRecursion}
use Rattle.ledger_core.specs.declared.entry.Entry.{Entry}
use Rattle.ledger_core.specs.declared.runs.Item.{Item}
use Rattle.ledger_core.specs.declared.runs.Run.{Run}
use Rattle.ledger_core.specs.Runs.{expand, run_ticks, IsRight}
use Rattle.ledger_core.proofs.Ticks.{drop_within, drop_before, length_left, length_ticks}
use Rattle.ledger_core.proofs.ledger_history.LedgerHistory.copy_tail.Goals as goal

-- the fresh entries are ticks of the run
in_run : (xs ys : List Item) (r s : Run) (k n : ℕ) → ys ≡ [] → n ≤ r.count → k + n ≡ length (expand xs ++ run_ticks r)
    → run_ticks s ≡ drop (r.count - n) (run_ticks r) → expand ys ++ run_ticks s ≡ drop k (expand xs ++ run_ticks r)
in_run xs ys r s k n none l e ts =
    let long : length (run_ticks r) ≡ r.count = length_ticks r.above r.by r.count in
    ap₂ (λ a b. expand a ++ b) none (ts ∙ ap (λ z. drop (z - n) (run_ticks r)) (sym long))
    ∙ sym (drop_within (expand xs) (run_ticks r) k n (omega arith) e)

-- they begin in an item
in_items : (xs ys : List Item) (r : Run) (k n : ℕ) → r.count ≤ n → k + n ≡ length (expand xs ++ run_ticks r)
    → expand ys ≡ drop (length (expand xs) - (n - r.count)) (expand xs) → expand ys ++ run_ticks r ≡ drop k (expand xs ++ run_ticks r)
in_items xs ys r k n l e is =
    let long : length (run_ticks r) ≡ r.count = length_ticks r.above r.by r.count in
    ap (λ z. z ++ run_ticks r) (is ∙ ap (λ z. drop (length (expand xs) - (n - z)) (expand xs)) (sym long))
    ∙ sym (drop_before (expand xs) (run_ticks r) k n (omega arith) e)

left : (xs : List Entry) (count k : ℕ) → count ≡ length xs → k ≤ length xs → k + (count - k) ≡ length xs
left xs count k e l = omega arith

few_items : (xs : List Item) (r : Run) (count k : ℕ) → count ≡ length (expand xs ++ run_ticks r) → count - k - r.count ≤ length (expand xs)
few_items xs r count k e =
    let long : length (run_ticks r) ≡ r.count = length_ticks r.above r.by r.count in
    let both : length (expand xs ++ run_ticks r) ≡ length (expand xs) + length (run_ticks r) = length-append (expand xs) (run_ticks r) in
    omega arith

pub returns-then-fresh-after : goal.returns-then-fresh-after
returns-then-fresh-after c =
    let h = c.self.inside in
    let k = c.args.k in
    let within = rw (← c.self.view_is) at c.requires in
    rw (← c.self.view_is)
    (in_run h.items.items c.new.result.items h.open c.last_run.result k (h.count - k) c.new.ensures.items c.if-fresh-after.true
    (left (expand h.items.items ++ run_ticks h.open) h.count k c.self.invariant.count within) c.last_run.ensures.ticks)

pub invariant_of-result : goal.invariant_of-result
invariant_of-result c =
    let h = c.self.inside in
    let k = c.args.k in
    let within = rw (← c.self.view_is) at c.requires in
    let all = expand h.items.items ++ run_ticks h.open in
    let sum = left all h.count k c.self.invariant.count within in
    let list = rw (← c.self.view_is) at (returns-then-fresh-after c) in
    record {
      items = subst (AllByRecursion IsRight) (sym c.new.ensures.items) tt;
      run = c.last_run.ensures.right;
      count = sym (ap length list ∙ length_left all k (h.count - k) sum);
    }

pub copy_last-requires-clause-within : goal.copy_last-requires-clause-within
copy_last-requires-clause-within c =
    let h = c.self.inside in
    rw c.deref.ensures.value (few_items h.items.items h.open h.count c.args.k c.self.invariant.count)

pub returns : goal.returns
returns c =
    let h = c.self.inside in
    let k = c.args.k in
    let within = rw (← c.self.view_is) at c.requires in
    let list = rw c.deref.ensures.value at c.in_ok-copy_last.ensures.list in
    rw (← c.self.view_is)
    (in_items h.items.items c.in_ok-copy_last.field-0.items h.open k (h.count - k) (omega (arith, c.if-fresh-after.false))
    (left (expand h.items.items ++ run_ticks h.open) h.count k c.self.invariant.count within) list)

pub invariant_of-result-2 : goal.invariant_of-result-2
invariant_of-result-2 c =
    let h = c.self.inside in
    let k = c.args.k in
    let within = rw (← c.self.view_is) at c.requires in
    let all = expand h.items.items ++ run_ticks h.open in
    let sum = left all h.count k c.self.invariant.count within in
    let list = rw (← c.self.view_is) at (returns c) in
    record {
      items = c.in_ok-copy_last.ensures.right;
      run = c.self.invariant.run;
      count = sym (ap length list ∙ length_left all k (h.count - k) sum);
    }
