-- A legal book is small.
use Rattle.std.proofs.Common.{ℕ, ◌<◌, ◌≤◌, length, arith}
use Rattle.swap_digraph.specs.declared.deal.Deal.{Deal}
use Rattle.swap_digraph.specs.declared.deal.Version.{Version}
use Rattle.swap_digraph.specs.declared.deal.Version.TheVariants.{One, Two}
use Rattle.swap_digraph.specs.Deal.{most_arcs, IsWellSized}
use Rattle.ledger_core.specs.Book.{Histories, history, IsLegalBook}
use Rattle.ledger_core.proofs.Bounds.{bounds}

most_is : (v : Version) → most_arcs v ≤ 128
most_is One = omega arith
most_is Two = omega arith

pub are_few : (d : Deal) (b : Histories) → IsWellSized d → IsLegalBook d b → length b ≤ 128
are_few d b k l = let m = most_is d.version in let a = k.arcs.1 in let e = l.one_each in omega arith

pub are_short : (d : Deal) (b : Histories) → IsLegalBook d b → (a : ℕ) → a < length b → length (history b a) ≤ 20064
are_short d b l a lt =
    let r = bounds d a (history b a) (l.legal a lt) in
    let few = r.few in
    let ticks = r.ticks in
    let one = r.by_party in
    let two = r.by_counterparty in
    omega arith
