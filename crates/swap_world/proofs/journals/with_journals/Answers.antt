use Rattle.std.proofs.Common.{◌++◌, ◌∷◌, [], List, map, sym, ap, ap₂, ◌∙◌, subst}
use Rattle.std.specs.List.{All}
use Rattle.std.proofs.lemmas.List.{map-append}
use Rattle.std.proofs.lemmas.List.Elements.{All-nil, All-cons, All-append}
use Rattle.swap_world.specs.Journals.{HasNewJournal}
use Rattle.swap_world.specs.Players.{Actor, Racer, without_journal}
use Rattle.swap_world.proofs.journals.with_journals.Goals as goal

pub players-preserved : goal.players-preserved
players-preserved c =
    let P = HasNewJournal c.args.deal.now in
    let xs = c.players.actors.items in
    let x : Actor = c.in_ok-with_journal.field-0 in
    let more = c.in_ok-push.ensures.items in
    record {
      same =
          ap (λ (ys : List Actor). map without_journal ys) more ∙ (map-append without_journal xs (x ∷ [])
          ∙ ap₂ (λ (ys : List Racer) (y : Racer). ys ++ y ∷ []) c.players.invariant.same c.in_ok-with_journal.ensures.same);
      journals = subst (λ (ys : List Actor). All P ys) (sym {A = List Actor} more)
          (All-append P xs (x ∷ []) c.players.invariant.journals (All-cons P x [] c.in_ok-with_journal.ensures.journal (All-nil P)));
    }
