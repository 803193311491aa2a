use Rattle.std.proofs.Common.{◌≡◌, ◌+◌, ◌++◌, length, sym, ap, ◌∙◌, arith, append_assoc, length-append}
use Rattle.ledger_core.specs.Runs.{run_ticks, expand}
use Rattle.history_index.proofs.Extending.{takes_all, takes_first, takes_rest, length_run}
use Rattle.history_index.proofs.index.Index.extend.Goals as goal

pub push_items-requires-clause-indexable : goal.push_items-requires-clause-indexable
push_items-requires-clause-indexable g c =
    let m = c.reserve.new.self in
    let p = c.into_parts-items in
    takes_first m.from m.to m.entries c.args.entries (expand p.result.0.items) (run_ticks p.result.1) p.ensures.list
    (takes_rest c.args.self.now m c.args.entries c.args.entries c.reserve.ensures.arc (ap (λ xs. xs ++ c.args.entries) c.reserve.ensures.entries) c.requires)

pub push_ticks-requires-clause-indexable : goal.push_ticks-requires-clause-indexable
push_ticks-requires-clause-indexable g c =
    let m = c.push_items.new.index in
    let p = c.into_parts-items in
    takes_all m.from m.to m.entries (run_ticks p.result.1)
    (takes_rest c.args.self.now m c.args.entries (run_ticks p.result.1)
    (record {
      arc = c.push_items.ensures.arc.arc ∙ c.reserve.ensures.arc.arc;
      from = c.push_items.ensures.arc.from ∙ c.reserve.ensures.arc.from;
      to = c.push_items.ensures.arc.to ∙ c.reserve.ensures.arc.to;
      terms = c.push_items.ensures.arc.terms ∙ c.reserve.ensures.arc.terms;
    })
    (ap (λ xs. xs ++ run_ticks p.result.1) (c.push_items.ensures.entries ∙ ap (λ xs. xs ++ expand p.result.0.items) c.reserve.ensures.entries)
    ∙ append_assoc c.args.self.now.entries (expand p.result.0.items) (run_ticks p.result.1)
    ∙ ap (λ xs. c.args.self.now.entries ++ xs) (sym p.ensures.list))
    c.requires)

pub returns-clause-steps : goal.returns-clause-steps
returns-clause-steps g c =
    let p = c.into_parts-items in
    let l : length c.args.entries ≡ length (expand p.result.0.items) + p.result.1.count =
    ap length p.ensures.list ∙ length-append (expand p.result.0.items) (run_ticks p.result.1)
    ∙ ap (λ n. length (expand p.result.0.items) + n) (length_run p.result.1) in
    let one = c.push_items.ensures.steps in
    let two = c.push_ticks.ensures.steps in
    omega arith
