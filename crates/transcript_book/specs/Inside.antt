-- What a reader of ledgers keeps.
use Rattle.std.specs.Prelude.{◌≡◌, ◌≤◌, ◌<◌, length, vec_capacity}
use Rattle.swap_digraph.specs.Deal.{IsWellSized}
use Rattle.ledger_core.specs.History.{height}
use Rattle.ledger_core.specs.WellFormed.{written_height}
use Rattle.transcript_book.specs.declared.place.Place.TheVariants.{Entries}
use Rattle.transcript_book.specs.declared.reader.BookReader.TheInside.{Inside}
use Rattle.transcript_book.specs.Stages.{BookSoFar}

abbrev pub book_so_far : Inside → BookSoFar
book_so_far r = record { job = r.job; book = r.histories.items; entries = r.entries; more = r.more; place = r.place }

-- The height is that of the entries; there is room for one history per arc, and for the one that is
-- read.
pub record IsReading (r : Inside) : Type 0 where
  pub sized : IsWellSized r.job.deal
  pub height : r.height ≡ written_height (height r.entries)
  pub room : length r.job.deal.graph.arcs ≤ vec_capacity r.histories
  pub few : length r.histories.items ≤ length r.job.deal.graph.arcs
  pub next : r.place ≡ Entries → length r.histories.items < length r.job.deal.graph.arcs
