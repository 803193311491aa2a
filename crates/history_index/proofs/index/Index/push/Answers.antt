use Rattle.std.proofs.Common.{◌≡◌, ℕ, ◌+◌, ◌-◌, ◌<◌, ◌++◌, ◌∷◌, [], cond, length, ap, sym, subst, ◌∙◌, length-append}
use Rattle.std.specs.Prelude.{IsTrue}
use Rattle.ledger_core.specs.declared.entry.Entry.{Entry}
use Rattle.ledger_core.specs.declared.runs.Item.TheVariants.{One}
use Rattle.ledger_core.specs.History.{is_sender}
use Rattle.ledger_core.specs.Runs.{expand}
use Rattle.history_index.specs.declared.made.Made.{Made}
use Rattle.ledger_core.specs.Facts.{is_call}
use Rattle.history_index.specs.Made.{updated_calls}
use Rattle.history_index.specs.Numbers.{IsIndexable}
use Rattle.history_index.proofs.Push.{last_lock, last_sent, expand_push, answers_kept, calls_kept, made_kept, indexable_kept, room_kept}
use Rattle.history_index.proofs.index.Index.push.Goals as goal

made_of : ℕ → Entry → Made
made_of n e = record { number = n; entry = e }

pub invariant_of-self : goal.invariant_of-self
unfolding made_of
invariant_of-self g c =
    let i = c.self.inside in
    let k = c.self.invariant in
    let e = c.with_entry-past.result.1 in
    let same : e ≡ c.args.entry = c.with_entry-past.ensures.entry in
    let h = expand i.past.items in
    let xs = expand c.with_entry-past.result.0.items in
    let fits =
    subst (λ x. IsIndexable i.from.party i.to.party (h ++ x ∷ [])) (sym same) (rw (← c.self.view_is) at c.requires.indexable) in
    let some = subst (λ x. IsTrue (is_call x.what) → 0 < i.room) (sym same) (rw (← c.self.view_is) at c.requires.room) in
    let from = c.add-2.new.self in
    let to = c.add-3.new.self in
    let items : xs ≡ h ++ e ∷ [] =
    ap expand c.with_entry-past.ensures.past ∙ expand_push i.past.items (One c.args.entry) ∙ ap (λ x. h ++ x ∷ []) (sym same) in
    let lock = last_lock i.from.party i.to.party h e fits in
    let made : c.keep.new.made.items ≡ updated_calls i.count e i.made.items = c.keep.ensures.made in
    let room : i.room - c.call_count.result ≡ i.room - cond (is_call e.what) 1 0 = ap (λ n. i.room - n) c.call_count.ensures in
    record {
      locks = k.locks;
      indexable = indexable_kept i.from.party i.to.party from.party to.party (h ++ e ∷ []) xs c.add-2.ensures.party c.add-3.ensures.party items fits;
      count = ap (λ n. n + 1) k.count ∙ sym (ap length items ∙ length-append h (e ∷ []));
      answers = answers_kept i.terms h xs e i.count i.answers c.add.new.self items k.count c.add.ensures lock k.answers;
      made = made_kept h xs e i.count i.made.items c.keep.new.made.items items k.count made k.made;
      from =
          calls_kept i.from.party from.party h xs e i.count i.from.numbers.items from.numbers.items i.from.kinds from.kinds c.add-2.ensures.party items
          k.count c.add-2.ensures.numbers c.add-2.ensures.kinds lock k.from;
      to =
          calls_kept i.to.party to.party h xs e i.count i.to.numbers.items to.numbers.items i.to.kinds to.kinds c.add-3.ensures.party items k.count
          c.add-3.ensures.numbers c.add-3.ensures.kinds lock k.to;
      room =
          room_kept (is_call e.what) (is_call e.what) (made_of i.count e) i.made.items c.keep.new.made.items i.room _ _ _ made (λ s.
          s) some room k.room c.keep.ensures.capacity;
      from_room =
          room_kept (is_call e.what) (is_sender i.from.party e.sender) i.count i.from.numbers.items from.numbers.items i.room _ _ _
          c.add-2.ensures.numbers (last_sent i.from.party i.to.party i.from.party h e fits) some room k.from_room c.add-2.ensures.capacity;
      to_room =
          room_kept (is_call e.what) (is_sender i.to.party e.sender) i.count i.to.numbers.items to.numbers.items i.room _ _ _ c.add-3.ensures.numbers
          (last_sent i.from.party i.to.party i.to.party h e fits) some room k.to_room c.add-3.ensures.capacity;
    }
