use Rattle.std.proofs.Common.{◌≡◌, ℕ, [], length, ap, ◌∙◌, arith}
use Rattle.std.specs.List.{flat_map, range_with_len}
use Rattle.ledger_core.specs.Book.{history}
use Rattle.history_index.specs.Indexes.{all_entries}
use Rattle.conduct_check.specs.Sent.{shown, lock_unlocks}
use Rattle.conduct_check.proofs.KeyLoops.{flat_more}
use Rattle.conduct_check.proofs.OwnArcs.{all_unlocks}
use Rattle.conduct_check.proofs.keys.unlocks_on_own_arcs.Goals as goal

pub loop-arc-preserved : goal.loop-arc-preserved
loop-arc-preserved c =
    flat_more (λ a. lock_unlocks (history (all_entries c.args.known.now) a) c.args.party) [] (shown c.loop-arc.keys.items)
    (shown c.put_own_unlocks.new.keys.items) c.loop-arc.arc c.loop-arc.invariant c.in_ok-put_own_unlocks.ensures

pub returns : goal.returns
returns c =
    let same : length c.arcs.result.now ≡ length c.args.deal.now.graph.arcs = ap length c.arcs.ensures in
    let all : ◌≡◌ {A = ℕ} c.loop-arc.arc (length c.args.deal.now.graph.arcs) = omega (arith, same, c.loop-arc.auto.arc-end, c.loop-arc-test.false) in
    c.loop-arc.invariant ∙ ap (λ n. flat_map (λ a. lock_unlocks (history (all_entries c.args.known.now) a) c.args.party) (range_with_len 0 n)) all
    ∙ all_unlocks c.args.deal.now (all_entries c.args.known.now) c.args.party c.requires.legal
