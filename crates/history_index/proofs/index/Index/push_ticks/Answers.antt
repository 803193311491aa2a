use Rattle.std.proofs.Common.{◌≡◌, ◌++◌, refl, ap, ◌∙◌, arith}
use Rattle.ledger_core.specs.declared.runs.Item.TheVariants.{Ticks}
use Rattle.ledger_core.specs.Runs.{expand, run_ticks}
use Rattle.history_index.proofs.Push.{expand_push, indexable_kept}
use Rattle.history_index.proofs.Ticks.{has_height, has_count, count_run, answers_run, calls_run, made_run}
use Rattle.history_index.proofs.index.Index.push_ticks.Goals as goal

pub overflow_add-self : goal.overflow_add-self
overflow_add-self g c =
    let i = c.self.inside in
    let fits = rw (← c.self.view_is) at c.requires.indexable in
    let below = has_height (expand i.past.items) c.args.run i.from.party i.to.party fits in
    let at = c.self.invariant.answers.height in
    omega arith

pub overflow_add-self-2 : goal.overflow_add-self-2
overflow_add-self-2 g c =
    let i = c.self.inside in
    let fits = rw (← c.self.view_is) at c.requires.indexable in
    let below = has_count (expand i.past.items) c.args.run i.from.party i.to.party fits in
    let at = c.self.invariant.count in
    omega arith

pub invariant_of-self : goal.invariant_of-self
invariant_of-self g c =
    let i = c.self.inside in
    let k = c.self.invariant in
    let r = c.args.run in
    let h = expand i.past.items in
    let xs = expand c.and-self-inside.result.items in
    let fits = rw (← c.self.view_is) at c.requires.indexable in
    let items : xs ≡ h ++ run_ticks r = ap expand c.and-self-inside.ensures ∙ expand_push i.past.items (Ticks r) in
    record {
      locks = k.locks;
      indexable = indexable_kept i.from.party i.to.party i.from.party i.to.party (h ++ run_ticks r) xs refl refl items fits;
      count = count_run h xs r i.count _ items k.count refl;
      answers = answers_run i.terms h xs r i.answers items k.answers;
      made = made_run h xs r i.made.items items k.made;
      from = calls_run i.from.party h xs r i.from.numbers.items i.from.kinds items k.from;
      to = calls_run i.to.party h xs r i.to.numbers.items i.to.kinds items k.to;
      room = k.room;
      from_room = k.from_room;
      to_room = k.to_room;
    }
