use Rattle.std.proofs.Common.{◌∙◌, ap, eq-eqb, not}
use Rattle.std.specs.List.{position_from}
use Rattle.escrow_core.proofs.Opened.{closed_some, closed_none}
use Rattle.escrow_core.proofs.Rows.{still_locked, all_opened}
use Rattle.escrow_core.proofs.contract.Contract.claim_reply.Goals as goal

pub returns-in-Some : goal.returns-in-Some
returns-in-Some c =
    let k = closed_some c.args.self.now.opened c.in-Some.lock (c.in-Some.ensures.exact ∙ ap (position_from not 0) c.opened.ensures.opened) in
    still_locked _ _ _ _ _ c.if-is_settled.ensures (eq-eqb _ _ (c.if-sender-counterparty_id.false ∙ c.counterparty_id.ensures)) k.0 k.1

pub returns-in-None : goal.returns-in-None
returns-in-None c =
    let k = closed_none c.args.self.now.opened (c.in-None.ensures.exact ∙ ap (position_from not 0) c.opened.ensures.opened) in
    all_opened _ _ _ _ c.if-is_settled.ensures (eq-eqb _ _ (c.if-sender-counterparty_id.false ∙ c.counterparty_id.ensures)) k
