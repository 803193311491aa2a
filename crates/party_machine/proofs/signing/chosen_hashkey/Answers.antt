use Rattle.std.proofs.Common.{◌<◌, List, length, subst}
use Rattle.ledger_core.specs.Facts.{opened_key}
use Rattle.ledger_core.specs.declared.entry.Entry.{Entry}
use Rattle.due_calls.specs.Unlocks.{IsSeenBase}
use Rattle.due_calls.proofs.Openings.{has_lock}
use Rattle.party_machine.specs.Within.{all_entries}
use Rattle.party_machine.specs.Unlocking.{IsSignable}
use Rattle.party_machine.proofs.MachineEntries.{one_each, legal_at, released_history}
use Rattle.party_machine.proofs.Onto.{can_put_onto}
use Rattle.party_machine.proofs.signing.chosen_hashkey.Goals as goal

pub sign_extension-requires-clause-known : goal.sign_extension-requires-clause-known
sign_extension-requires-clause-known c =
    let r = c.requires.ready in
    let seen = subst (IsSeenBase c.args.deal.now c.args.wallet.now.party (all_entries c.args.known.now) c.args.due.lock) c.in-Onto.is c.requires.base in
    let below : c.in-Onto.arc < length c.args.known.now = rw (one_each c.args.deal.now c.args.wallet.now c.args.known.now r) seen.0 in
    has_lock (λ x. x.terms) c.args.deal.now c.args.known.now c.in-Onto.arc c.args.due.lock c.index-known-arc.result r.sized r.indexes.terms below
    c.index-known-arc.is c.requires.lock

pub sign_extension-requires-clause-onto : goal.sign_extension-requires-clause-onto
sign_extension-requires-clause-onto c =
    let r = c.requires.ready in
    let d = c.args.deal.now in
    let w = c.args.wallet.now in
    let known = c.args.known.now in
    let seen = subst (IsSeenBase c.args.deal.now c.args.wallet.now.party (all_entries c.args.known.now) c.args.due.lock) c.in-Onto.is c.requires.base in
    let below : c.in-Onto.arc < length c.args.known.now = rw (one_each d w known r) seen.0 in
    subst (λ (h : List Entry). IsSignable d c.args.due.lock (opened_key h c.args.due.lock))
    (released_history known c.in-Onto.arc c.index-known-arc.result below c.index-known-arc.is)
    (can_put_onto d w.party c.args.due.lock c.in-Onto.arc (all_entries known) r.sized r.partys.party (λ a lt. legal_at d w known a r lt) seen.1)
