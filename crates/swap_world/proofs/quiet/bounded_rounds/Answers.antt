use Rattle.std.proofs.Common.{◌≡◌, ◌<◌, ◌≤◌, ℕ, List, length, slice_index, take, get_or, arith, sym, ap, ◌∙◌, subst}
use Rattle.std.proofs.lemmas.List.{take_all}
use Rattle.std.proofs.lemmas.List.Elements.{All-nil, All-get_or, All-more}
use Rattle.ledger_core.specs.declared.entry.Entry.{Entry}
use Rattle.ledger_core.specs.Value.{LedgerState}
use Rattle.ledger_core.specs.Book.{history}
use Rattle.party_machine.specs.Machine.{MachineState}
use Rattle.swap_world.specs.Acting.{histories}
use Rattle.swap_world.specs.Quiet.{IsLow, AreLow, HaveArcs}
use Rattle.swap_world.proofs.Ledgers.{history_at}
use Rattle.swap_world.proofs.Idle.{all_low_less, seen_less}
use Rattle.swap_world.proofs.quiet.bounded_rounds.Goals as goal

pub arcs-init : goal.arcs-init
arcs-init c = record {
  few = omega arith;
  low = λ l. All-nil (λ a. IsLow (length (history c.args.machine.now.known a)) c.args.until c.args.most (history (histories c.args.ledgers.now) a));
}

-- what a ledger of the list has, and how much of it was seen
module _ (ls : List LedgerState) (m : MachineState) (near : List ℕ) (arcs : HaveArcs (length ls) m.deal near) (k : ℕ) (lt : k < length near) where
  abbrev arc : ℕ
  arc = get_or near k 0

  below : arc < length ls
  below = subst (λ n. arc < n) (sym arcs.one_each) (All-get_or (λ a. a < length m.deal.graph.arcs) near k 0 lt arcs.each)

  pub here : (l : LedgerState) → l ≡ get_or ls arc l → history (histories ls) arc ≡ l.history
  here l is = history_at ls arc l below is

pub ledger_rounds-rounds-requires : goal.ledger_rounds-rounds-requires
ledger_rounds-rounds-requires c =
    let a = slice_index c.args.near.now c.arcs.arc-index in
    let b = histories c.args.ledgers.now in
    let k = history c.args.machine.now.known a in
    let l = c.index-ledgers-place.result in
    let here : history b a ≡ l.history = here c.args.ledgers.now c.args.machine.now c.args.near.now c.requires.arcs c.arcs.arc-index c.arcs-test.true
    l c.index-ledgers-place.is in
    let count : c.count-seen.result ≡ length k = c.count-seen.ensures ∙ ap (λ (h : List Entry). length h) c.known.ensures.entries in
    subst (λ n. n ≤ length l.history) (sym count) (subst (λ (h : List Entry). length k ≤ length h) here (seen_less k (history b a) (c.requires.seen a)))

pub arcs-preserved : goal.arcs-preserved
arcs-preserved c =
    let a = slice_index c.args.near.now c.arcs.arc-index in
    let b = histories c.args.ledgers.now in
    let known = c.args.machine.now.known in
    let until = c.args.until in
    let l = c.index-ledgers-place.result in
    let old = c.arcs.rounds in
    let new = c.ledger_rounds-rounds.result in
    let less = c.ledger_rounds-rounds.ensures.few in
    let few = c.arcs.invariant.few in
    let here : history b a ≡ l.history = here c.args.ledgers.now c.args.machine.now c.args.near.now c.requires.arcs c.arcs.arc-index c.arcs-test.true
    l c.index-ledgers-place.is in
    let count : c.count-seen.result ≡ length (history known a)
    = c.count-seen.ensures ∙ ap (λ (h : List Entry). length h) c.known.ensures.entries in
    let before = take c.arcs.arc-index c.args.near.now in
    record {
      few = omega (arith, less, few);
      low = λ more.
          let is : IsLow (length (history known a)) until new (history b a)
          = subst (λ n. IsLow n until new (history b a)) count (subst (λ (h : List Entry). IsLow c.count-seen.result until new h) (sym here)
          (c.ledger_rounds-rounds.ensures.low more)) in
          All-more (λ z. IsLow (length (history known z)) until new (history b z)) c.args.near.now c.arcs.arc-index 0 c.arcs-test.true
          (all_low_less until old new known b before less (c.arcs.invariant.low (omega (arith, more, less))))
          is;
    }

pub returns-clause-low : goal.returns-clause-low
returns-clause-low c = λ more.
    subst (AreLow c.args.machine.now.known c.args.until c.arcs.rounds (histories c.args.ledgers.now))
    (take_all c.arcs.arc-index c.args.near.now c.arcs-test.false) (c.arcs.invariant.low more)
