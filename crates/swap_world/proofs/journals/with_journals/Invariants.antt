use Rattle.std.proofs.Common.{◌≡◌, map}
use Rattle.std.specs.List.{All}
use Rattle.swap_world.specs.Journals.{HasNewJournal}
use Rattle.swap_world.specs.Players.{without_journal}
use Rattle.swap_world.proofs.journals.with_journals.Given as goal

abbrev pub invariant-players : goal.invariant-players
invariant-players l = record {
  same : map without_journal l.actors.items ≡ l.yielded;
  journals : All (HasNewJournal l.deal) l.actors.items;
}
