use Rattle.std.proofs.Common.{not, ◌∙◌, ap, sym}
use Rattle.std.specs.Option.{option_copied}
use Rattle.swap_digraph.specs.Graph.{is_listed}
use Rattle.ledger_core.specs.History.{opened}
use Rattle.swap_rules.specs.Party.{opens_without_party}
use Rattle.due_calls.proofs.ArcMembers.{history_at}
use Rattle.due_calls.proofs.Openings.{has_lock, opens_by_key, opens_by_none}
use Rattle.due_calls.proofs.unlock.is_seen.Goals as goal

pub opened_key-requires : goal.opened_key-requires
opened_key-requires g c =
    let l = c.in-Some.ensures.lookup in
    has_lock g.F.Facts.terms c.args.deal.now c.args.known.now c.args.arc c.args.lock c.in-Some.fact.now c.requires.sized c.requires.known l.3.0 l.1
    c.requires.lock

pub returns-in-Some-opened_key : goal.returns-in-Some-opened_key
returns-in-Some-opened_key g c =
    let l = c.in-Some.ensures.lookup in
    let h = g.F.Facts.entries c.in-Some.fact.now in
    let key = c.in-Some-opened_key.key.now in
    ap not (c.is_listed.ensures ∙ ap (is_listed c.args.me) c.as_slice.ensures)
    ∙ opens_by_key c.args.me (opened h c.args.lock) key (sym (ap option_copied c.in-Some-opened_key.is) ∙ c.opened_key.ensures)
    ∙ ap (λ h. opens_without_party c.args.me (opened h c.args.lock)) (history_at g.F.Facts.entries c.args.known.now c.args.arc c.in-Some.fact.now l.3.0 l.1)

pub returns-in-None-opened_key : goal.returns-in-None-opened_key
returns-in-None-opened_key g c =
    let l = c.in-Some.ensures.lookup in
    let h = g.F.Facts.entries c.in-Some.fact.now in
    opens_by_none c.args.me (opened h c.args.lock) (sym (ap option_copied c.in-None-opened_key.is) ∙ c.opened_key.ensures)
    ∙ ap (λ h. opens_without_party c.args.me (opened h c.args.lock)) (history_at g.F.Facts.entries c.args.known.now c.args.arc c.in-Some.fact.now l.3.0 l.1)
