use Rattle.std.proofs.Common.{◌≡◌, ℕ, List, length, drop, sym, ap, ◌∙◌}
use Rattle.ledger_core.specs.declared.entry.Entry.{Entry}
use Rattle.ledger_core.specs.Book.{history}
use Rattle.swap_world.proofs.WholeHistory.{whole}
use Rattle.swap_world.proofs.turn.learn_entries.Goals as goal

pub learn-requires-clause-legal : goal.learn-requires-clause-legal
learn-requires-clause-legal g c =
    let m = c.args.machine.now in
    let l = c.args.ledger.now in
    let known : c.count-seen.result ≡ length (history m.known l.arc) =
    c.count-seen.ensures ∙ (ap (λ (h : List Entry). length h) c.known.ensures.entries ∙ ap (λ (a : ℕ). length (history m.known a)) c.arc-arc.ensures.value) in
    let fresh : c.in_ok-fresh-in-None.fresh ≡ drop (length (history m.known l.arc)) l.history =
    c.in_ok-fresh-in-None.ensures ∙ ap (λ (n : ℕ). drop n l.history) known in
    rw (c.arc-arc.ensures.value, fresh, whole (history m.known l.arc) l.history c.requires.begins, sym c.requires.same) c.requires.legal
